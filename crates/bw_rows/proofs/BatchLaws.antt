-- A batch is one step.

use Rattle.std.proofs.Common.{ℕ, ◌≡◌, true, false, cond, Option, Some, None, is_some, [], take, refl, sym, ap, ◌∙◌}
use Rattle.std.proofs.lemmas.Bool.{true≢false}
use Rattle.std.specs.Option.{option_map}
use Rattle.bw_rows.specs.Spelling.{Bytes, same, name_key, gone_key, stands_key, aside_key, row_key, row_place, chunk_place, head_of, no_row}
use Rattle.bw_rows.specs.Meaning.{Plain, Table, Tables, over, counted, value_of, found, table_in}
use Rattle.bw_rows.specs.Law.{head_at, is_doomed, Steps, IsWhole}
use Rattle.bw_rows.specs.Steps.{with, after, head_in, carry_of}
use Rattle.bw_rows.specs.Laws.{HasHomes, IsKnown}
use Rattle.bw_rows.specs.Batches.{head_aside, HasAsides, IsStanding, said, AsideIsSilent, MarkIsTheStep, CarryIsSilent, EndIsSilent}
use Rattle.bw_rows.proofs.OneKey.{split, same_self, same_true}
use Rattle.bw_rows.proofs.Values.{same_optional, step_is_lawful}
use Rattle.bw_rows.proofs.Records.{still_known, unread_homes, unread_is_lawful, unread_names}
use Rattle.bw_rows.proofs.Groups.{aside_steps, aside_others, aside_asides}
use Rattle.bw_rows.proofs.TableLaws.{quiet_found, same_tables}

pub aside_law : AsideIsSilent
aside_law tables p k row h =
    let new : Plain = with p (aside_key k) row in
    record {
      lawful = record {
        values = unread_is_lawful p new (λ q. refl) (λ c. refl) (λ m. refl) h.lawful.values;
        names = unread_names p new (λ name. refl) h.lawful.names;
        homes = unread_homes p new (λ q. refl) (λ name. refl) (λ t. refl) h.lawful.homes;
        quiet = h.lawful.quiet;
      };
      its = same_tables p new (λ name. refl) (λ q. quiet_found new q h.lawful.quiet ∙ same_optional p new (λ c. refl) (p (row_key q)) ∙ sym (quiet_found p q h.lawful.quiet)) ∙ h.its;
    }

-- ---- the mark

said_row : (p : Plain) (aside row : Option Bytes) → option_map (value_of p) (over aside row) ≡ said p aside (option_map (value_of p) row)
said_row p None row = refl
said_row p (Some aside) row =
    elim (same aside no_row) as (λ b. option_map (value_of p) (cond b None (Some aside)) ≡ cond b None (Some (value_of p aside))) [
      | true ↦ refl
      | false ↦ refl
    ]

-- the values of a map, but for what its mark says
mark_found : (p : Plain) (k : Bytes) → p stands_key ≡ None → found (with p stands_key (Some [])) k ≡ said p (p (aside_key k)) (found p k)
mark_found p k quiet =
    same_optional p (with p stands_key (Some [])) (λ c. refl) (over (p (aside_key k)) (p (row_key k)))
    ∙ said_row p (p (aside_key k)) (p (row_key k))
    ∙ ap (said p (p (aside_key k))) (sym (quiet_found p k quiet))

pub mark_law : MarkIsTheStep
mark_law tables p h asides =
    let new : Plain = with p stands_key (Some []) in
    record {
      values = unread_is_lawful p new (λ q. refl) (λ c. refl) (λ m. refl) h.lawful.values;
      names = unread_names p new (λ name. refl) h.lawful.names;
      homes = unread_homes p new (λ q. refl) (λ name. refl) (λ t. refl) h.lawful.homes;
      stands = refl;
      asides = record {
        long = asides.long;
        full = asides.full;
        once = asides.once;
        doomed = asides.doomed;
        homes = λ k there. still_known p new (take 2 k) (λ name. refl) refl (asides.homes k there);
      };
      its =
          let by : (Bytes → Option Bytes) → Tables = λ at name. option_map {T = Bytes} {U = Table} (λ row key. at (row_place (table_in row) key)) (p (name_key name)) in
          let said_at : (Bytes → Option Bytes) = λ k. said p (p (aside_key k)) (found p k) in
          let now : found new ≡ said_at = λ i k. mark_found p k h.lawful.quiet i in
          ap by now;
    }

-- ---- the carrying out

standing_row : (p : Plain) (k : Bytes) → is_some (p stands_key) ≡ true → counted p k ≡ over (p (aside_key k)) (p (row_key k))
standing_row p k stands = ap (λ b. cond b (over (p (aside_key k)) (p (row_key k))) (p (row_key k))) stands

no_number : {C : Type 0} (n : Bytes) (len : ℕ) → ◌≡◌ {A = Option (Bytes × ℕ)} None (Some (n, len)) → C
no_number n len e = absurd (cc e)

-- what is carried out is what is aside, if it is a row
named_aside : (aside n : Bytes) (len : ℕ) → head_in (over (Some aside) None) ≡ Some (n, len) → head_of aside ≡ Some (n, len)
named_aside aside n len =
    elim (same aside no_row) as (λ b. head_in (cond b None (Some aside)) ≡ Some (n, len) → head_of aside ≡ Some (n, len)) [
      | true ↦ λ e. no_number n len e
      | false ↦ λ e. e
    ]

module _ (tables : Tables) (p : Plain) (k aside : Bytes) (h : IsStanding tables p) (there : p (aside_key k) ≡ Some aside) where
  abbrev row : Option Bytes
  row = over (Some aside) None

  abbrev new : Plain
  new = after p (carry_of k row (head_at p k))

  its_head : (n : Bytes) (len : ℕ) → head_in row ≡ Some (n, len) → head_aside p k ≡ Some (n, len)
  its_head n len e = ap head_in there ∙ named_aside aside n len e

  whole : IsWhole p row
  whole = record {
    long = λ n len e. h.asides.long k n len (its_head n len e);
    doomed = λ n len e. h.asides.doomed k n len (its_head n len e);
    full = λ n len i e less. h.asides.full k n len i (its_head n len e) less;
  }

  steps : Steps p new k row
  steps = aside_steps p k row h.values whole

  others : ((name : Bytes) → new (name_key name) ≡ p (name_key name)) × (new stands_key ≡ p stands_key) × ((t : Bytes) → new (gone_key t) ≡ p (gone_key t))
  others = aside_others p k row (head_in row) (head_at p k)

  asides_new : (q : Bytes) → new (aside_key q) ≡ cond (same q k) None (p (aside_key q))
  asides_new q = aside_asides p k row (head_in row) (head_at p k) q

  stands_new : is_some (new stands_key) ≡ true
  stands_new = ap is_some others.1 ∙ h.stands

  -- a row aside is elsewhere, and was there
  else_aside : (q n : Bytes) (c : ℕ) → head_aside new q ≡ Some (n, c) → (same q k ≡ false) × (head_aside p q ≡ Some (n, c))
  else_aside q n c e = split q k
      (λ one. no_number n c (sym (ap head_in (asides_new q ∙ ap (λ b. cond b None (p (aside_key q))) one)) ∙ e))
      (λ two. (two, sym (ap head_in (asides_new q ∙ ap (λ b. cond b None (p (aside_key q))) two)) ∙ e))

  still_doomed : (q n : Bytes) (c : ℕ) → head_aside new q ≡ Some (n, c) → is_doomed new n ≡ true
  still_doomed q n c e =
      let its = else_aside q n c e in
      let doomed : is_doomed p n ≡ true = h.asides.doomed q n c its.1 in
      steps.others n
      (λ len old. true≢false (sym doomed ∙ h.values.kept k n len old))
      (λ len next. true≢false (sym (same_self k) ∙ ap (λ (x : Bytes). same x k) (sym (h.asides.once q k n c len its.1 (its_head n len next))) ∙ its.0))
      ∙ doomed

  known : (u : Bytes) → IsKnown p u → IsKnown new u
  known u its = still_known p new u others.0 (others.2 u) its

  aside_homes : (q : Bytes) → is_some (new (aside_key q)) ≡ true → IsKnown new (take 2 q)
  aside_homes q e = split q k
      (λ one. absurd (true≢false (sym e ∙ ap is_some (asides_new q ∙ ap (λ b. cond b None (p (aside_key q))) one))))
      (λ two. known (take 2 q) (h.asides.homes q (sym (ap is_some (asides_new q ∙ ap (λ b. cond b None (p (aside_key q))) two)) ∙ e)))

  row_homes : HasHomes new
  row_homes q e = split q k
      (λ one. known (take 2 q) (h.asides.homes q (ap (λ (x : Bytes). is_some (p (aside_key x))) (same_true q k one) ∙ ap is_some there)))
      (λ two. known (take 2 q) (h.homes q (sym (ap is_some (steps.rows q ∙ ap (λ b. cond b row (p (row_key q))) two)) ∙ e)))

  asides_stay : HasAsides new
  asides_stay = record {
    long = λ q n len e. h.asides.long q n len (else_aside q n len e).1;
    full = λ q n len i e less. ap is_some (steps.chunks (chunk_place n i)) ∙ h.asides.full q n len i (else_aside q n len e).1 less;
    once = λ q r n c d e g. h.asides.once q r n c d (else_aside q n c e).1 (else_aside r n d g).1;
    doomed = still_doomed;
    homes = aside_homes;
  }

  counted_here : (q : Bytes) → same q k ≡ true → over (new (aside_key q)) (new (row_key q)) ≡ over (p (aside_key q)) (p (row_key q))
  counted_here q one =
      ap (λ (o : Option Bytes). over o (new (row_key q))) (asides_new q ∙ ap (λ b. cond b None (p (aside_key q))) one)
      ∙ steps.rows q ∙ ap (λ b. cond b row (p (row_key q))) one
      ∙ ap (λ (o : Option Bytes). over o (p (row_key q))) (sym (ap (λ (x : Bytes). p (aside_key x)) (same_true q k one) ∙ there))

  counted_else : (q : Bytes) → same q k ≡ false → over (new (aside_key q)) (new (row_key q)) ≡ over (p (aside_key q)) (p (row_key q))
  counted_else q two =
      ap (λ (o : Option Bytes). over o (new (row_key q))) (asides_new q ∙ ap (λ b. cond b None (p (aside_key q))) two)
      ∙ ap (over (p (aside_key q))) (steps.rows q ∙ ap (λ b. cond b row (p (row_key q))) two)

  found_stays : (q : Bytes) → found new q ≡ found p q
  found_stays q =
      same_optional p new steps.chunks (counted new q)
      ∙ ap (option_map (value_of p)) (standing_row new q stands_new ∙ split q k (counted_here q) (counted_else q) ∙ sym (standing_row p q h.stands))

  carried : IsStanding tables new
  carried = record {
    values = step_is_lawful p new k row h.values whole steps;
    names = unread_names p new others.0 h.names;
    homes = row_homes;
    stands = stands_new;
    asides = asides_stay;
    its = same_tables p new others.0 found_stays ∙ h.its;
  }

pub carry_law : CarryIsSilent
carry_law tables p k aside h there = carried tables p k aside h there

pub end_law : EndIsSilent
end_law tables p h none =
    let new : Plain = with p stands_key None in
    record {
      lawful = record {
        values = unread_is_lawful p new (λ q. refl) (λ c. refl) (λ m. refl) h.values;
        names = unread_names p new (λ name. refl) h.names;
        homes = unread_homes p new (λ q. refl) (λ name. refl) (λ t. refl) h.homes;
        quiet = refl;
      };
      its = same_tables p new (λ name. refl)
          (λ q. quiet_found new q refl ∙ same_optional p new (λ c. refl) (p (row_key q))
          ∙ ap (option_map (value_of p)) (ap (λ (o : Option Bytes). over o (p (row_key q))) (sym (none q)) ∙ sym (standing_row p q h.stands)))
          ∙ h.its;
    }

-- A batch is written, row by row.

use Rattle.std.proofs.Common.{ℕ, ◌≡◌, inl, Bool, true, false, cond, Option, Some, None, is_some, take, refl, sym, subst, ap, ◌∙◌}
use Rattle.std.proofs.lemmas.Bool.{true≢false}
use Rattle.std.specs.Option.{option_map}
use Rattle.bw_rows.specs.Spelling.{Bytes, same, name_key, aside_key, row_key, row_place, head_of, no_row, chunks_in}
use Rattle.bw_rows.specs.Meaning.{Plain, Table, Tables, chunks_of, joined, value_by, found, tables_of, table_in, with_value}
use Rattle.bw_rows.specs.Steps.{with, head_in}
use Rattle.bw_rows.specs.Laws.{IsTables, HasNumber}
use Rattle.bw_rows.specs.Batches.{head_aside, said, batched, FitsAside, HasAsides, HasOthers, IsGathering, IsNotAside, NothingIsGathered, FreshIsNotAside, ANumberIsSilent, AnAsideIsGathered}
use Rattle.bw_rows.proofs.OneKey.{split, same_true}
use Rattle.bw_rows.proofs.Values.{same_value, same_optional}
use Rattle.bw_rows.proofs.Records.{still_known, wide_option}
use Rattle.bw_rows.proofs.TableLaws.{quiet_found, number_of_place, tables_by, one_value}
use Rattle.bw_rows.proofs.BatchLaws.{aside_law}

-- what is found at each place, with all that stands aside
abbrev said_at : Plain → Bytes → Option Bytes
said_at p k = said p (p (aside_key k)) (found p k)

no_head : {C : Type 0} (n : Bytes) (len : ℕ) → ◌≡◌ {A = Option (Bytes × ℕ)} None (Some (n, len)) → C
no_head n len e = absurd (cc e)

-- ---- nothing is aside

pub nothing_law : NothingIsGathered
nothing_law tables p h none =
    let unnamed : (k : Bytes) → head_aside p k ≡ None = λ k. ap head_in (none k) in
    record {
      stays = h;
      asides = record {
        long = λ k n len e. no_head n len (sym (unnamed k) ∙ e);
        full = λ k n len i e less. no_head n len (sym (unnamed k) ∙ e);
        once = λ k q n c d e g. no_head n c (sym (unnamed k) ∙ e);
        doomed = λ k n c e. no_head n c (sym (unnamed k) ∙ e);
        homes = λ k there. absurd (true≢false (sym there ∙ ap is_some (none k)));
      };
      makes =
          let as_found : said_at p ≡ found p = λ i k. ap (λ (a : Option Bytes). said p a (found p k)) (none k) i in
          ap (tables_by (λ name. p (name_key name))) as_found ∙ h.its;
    }

pub fresh_aside_law : FreshIsNotAside
fresh_aside_law p n asides none k len h = true≢false (sym (asides.full k n len 0 h (asides.long k n len h)) ∙ ap is_some none)

-- ---- a long value is written under its number

-- what a table has at a key
value_in : Option Table → Bytes → Option Bytes
value_in None key = None
value_in (Some table) key = table key

in_table : (p : Plain) (name row key : Bytes) → p (name_key name) ≡ Some row → value_in (tables_of p name) key ≡ found p (row_place (table_in row) key)
unfolding value_in
in_table p name row key e = ap (λ (o : Option Bytes). value_in (option_map {T = Bytes} {U = Table} (λ r q. found p (row_place (table_in r) q)) o) key) e

module _ (tables next : Tables) (p new : Plain) (n : Bytes) (g : IsGathering tables next p) (apart : IsNotAside p n) (others : HasOthers n p new) (h : IsTables tables new) where
  head_stays : (k : Bytes) → head_aside new k ≡ head_aside p k
  head_stays k = ap head_in (others.asides k)

  another : (k m : Bytes) (len : ℕ) → head_aside p k ≡ Some (m, len) → m ≡ n → ⊥
  another k m len its e = apart k len (its ∙ ap (λ (x : Bytes). Some (x, len)) e)

  chunk_stays : (k m : Bytes) (len i : ℕ) → head_aside p k ≡ Some (m, len) → chunks_of new m i ≡ chunks_of p m i
  chunk_stays k m len i its = others.chunks m i (wide_option (p (aside_key k)) m len its) (another k m len its)

  value_stays : (k aside : Bytes) (head : Option (Bytes × ℕ)) → head_aside p k ≡ head → value_by new aside head ≡ value_by p aside head
  value_stays k aside None e = refl
  value_stays k aside (Some head) e = ap (λ (f : ℕ → Option Bytes). joined f (chunks_in head.1)) (λ x j. chunk_stays k head.0 head.1 j e x)

  said_stays : (k : Bytes) (aside value : Option Bytes) → p (aside_key k) ≡ aside → said new aside value ≡ said p aside value
  said_stays k None value e = refl
  said_stays k (Some aside) value e = ap (λ (x : Bytes). cond (same aside no_row) None (Some x)) (value_stays k aside (head_of aside) (ap head_in e))

  row_stays : (name row key : Bytes) → p (name_key name) ≡ Some row → said_at new (row_place (table_in row) key) ≡ said_at p (row_place (table_in row) key)
  row_stays name row key e =
      let k : Bytes = row_place (table_in row) key in
      let same_found : found new k ≡ found p k =
      sym (in_table new name row key (others.names name ∙ e)) ∙ ap (λ (ts : Tables). value_in (ts name) key) (h.its ∙ sym g.stays.its) ∙ in_table p name row key e in
      ap (λ (a : Option Bytes). said new a (found new k)) (others.asides k)
      ∙ ap (said new (p (aside_key k))) same_found
      ∙ said_stays k (p (aside_key k)) (found p k) refl

  table_stays : (name : Bytes) (row : Option Bytes) → p (name_key name) ≡ row
      → option_map {T = Bytes} {U = Table} (λ r key. said_at new (row_place (table_in r) key)) row ≡ option_map {T = Bytes} {U = Table} (λ r key. said_at p (row_place (table_in r) key)) row
  table_stays name None e = refl
  table_stays name (Some row) e = ap (λ (f : Bytes → Option Bytes). Some f) (λ i key. row_stays name row key e i)

  batch_stays : batched new ≡ batched p
  batch_stays =
      ap (λ (f : Bytes → Option Bytes). tables_by f (said_at new)) (λ i name. others.names name i)
      ∙ (λ i name. table_stays name (p (name_key name)) refl i)

  number_is_silent : IsGathering tables next new × IsNotAside new n
  number_is_silent = (
    record {
      stays = h;
      asides = record {
        long = λ k m len e. g.asides.long k m len (sym (head_stays k) ∙ e);
        full = λ k m len i e less. ap is_some (chunk_stays k m len i (sym (head_stays k) ∙ e)) ∙ g.asides.full k m len i (sym (head_stays k) ∙ e) less;
        once = λ k q m c d e f. g.asides.once k q m c d (sym (head_stays k) ∙ e) (sym (head_stays q) ∙ f);
        doomed = λ k m c e. others.doomed m (another k m c (sym (head_stays k) ∙ e)) ∙ g.asides.doomed k m c (sym (head_stays k) ∙ e);
        homes = λ k there. still_known p new (take 2 k) others.names (others.gone (take 2 k)) (g.asides.homes k (sym (ap is_some (others.asides k)) ∙ there));
      };
      makes = batch_stays ∙ g.makes;
    },
    λ k len e. apart k len (sym (head_stays k) ∙ e),
  )

pub number_law : ANumberIsSilent
number_law tables next p new n g apart others h = number_is_silent tables next p new n g apart others h

-- ---- a row is written aside

module _ (tables next : Tables) (p : Plain) (name t key row : Bytes) (g : IsGathering tables next p) (its : HasNumber p name t) (fits : FitsAside p row) where
  abbrev place : Bytes
  place = row_place t key

  abbrev now : Plain
  now = with p (aside_key place) (Some row)

  head_here : (q : Bytes) → same q place ≡ true → head_aside now q ≡ head_in (Some row)
  head_here q one = ap (λ b. head_in (cond b (Some row) (p (aside_key q)))) one

  head_else : (q : Bytes) → same q place ≡ false → head_aside now q ≡ head_aside p q
  head_else q two = ap (λ b. head_in (cond b (Some row) (p (aside_key q)))) two

  asides_now : HasAsides now
  asides_now = record {
    long = λ q n len e. split q place
        (λ one. fits.whole.long n len (sym (head_here q one) ∙ e))
        (λ two. g.asides.long q n len (sym (head_else q two) ∙ e));
    full = λ q n len i e less. split q place
        (λ one. fits.whole.full n len i (sym (head_here q one) ∙ e) less)
        (λ two. g.asides.full q n len i (sym (head_else q two) ∙ e) less);
    once = λ q r n c d e f. split q place
        (λ one. split r place
        (λ also. same_true q place one ∙ sym (same_true r place also))
        (λ two. absurd (fits.apart n c (sym (head_here q one) ∙ e) r d (sym (head_else r two) ∙ f))))
        (λ two. split r place
        (λ one. absurd (fits.apart n d (sym (head_here r one) ∙ f) q c (sym (head_else q two) ∙ e)))
        (λ both. g.asides.once q r n c d (sym (head_else q two) ∙ e) (sym (head_else r both) ∙ f)));
    doomed = λ q n c e. split q place
        (λ one. fits.whole.doomed n c (sym (head_here q one) ∙ e))
        (λ two. g.asides.doomed q n c (sym (head_else q two) ∙ e));
    homes = λ q there. still_known p now (take 2 q) (λ other. refl) refl (split q place
        (λ one. inl (name, subst (HasNumber p name) (sym (ap (take 2) (same_true q place one) ∙ number_of_place p name t key g.stays.lawful.names its)) its))
        (λ two. g.asides.homes q (sym (ap (λ b. is_some (cond b (Some row) (p (aside_key q)))) two) ∙ there)));
  }

  said_same : (aside value : Option Bytes) → said now aside value ≡ said p aside value
  said_same None value = refl
  said_same (Some aside) value = ap (λ (x : Bytes). cond (same aside no_row) None (Some x)) (same_value p now (λ c. refl) aside)

  found_same : (q : Bytes) → found now q ≡ found p q
  found_same q =
      let quiet = g.stays.lawful.quiet in
      quiet_found now q quiet ∙ same_optional p now (λ c. refl) (p (row_key q)) ∙ sym (quiet_found p q quiet)

  said_by : (q : Bytes) (b : Bool) → said p (cond b (Some row) (p (aside_key q))) (found p q) ≡ cond b (said p (Some row) None) (said_at p q)
  said_by q true = refl
  said_by q false = refl

  said_now : (q : Bytes) → said_at now q ≡ cond (same q place) (said p (Some row) None) (said_at p q)
  said_now q =
      said_same (now (aside_key q)) (found now q)
      ∙ ap (said p (now (aside_key q))) (found_same q)
      ∙ said_by q (same q place)

  gathered : IsGathering tables (with_value next name key (said p (Some row) None)) now
  gathered = record {
    stays = aside_law tables p place (Some row) g.stays;
    asides = asides_now;
    makes =
        ap (tables_by (λ other. p (name_key other))) (λ i q. said_now q i)
        ∙ one_value p (said_at p) name t key (said p (Some row) None) g.stays.lawful.names its
        ∙ ap (λ (ts : Tables). with_value ts name key (said p (Some row) None)) g.makes;
  }

pub gathered_law : AnAsideIsGathered
gathered_law tables next p name t key row g its fits = gathered tables next p name t key row g its fits

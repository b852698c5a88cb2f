-- Tables come and go in one step.

use Rattle.std.proofs.Common.{ℕ, ◌≡◌, ◌⊎◌, inl, inr, Bool, true, false, cond, Option, Some, None, is_some, [], ◌∷◌, ◌++◌, length, take, drop, refl, sym, ap, ◌∙◌}
use Rattle.std.proofs.lemmas.Bool.{true≢false}
use Rattle.std.proofs.lemmas.List.{take-append-drop}
use Rattle.std.specs.Option.{option_map}
use Rattle.bw_record.specs.declared.record.Record.TheVariants.{Put, Del}
use Rattle.bw_rows.specs.Spelling.{Bytes, same, mark_key, name_key, gone_key, stands_key, row_key, row_place}
use Rattle.bw_rows.specs.Meaning.{Plain, Table, Tables, value_of, found, tables_of, table_in}
use Rattle.bw_rows.specs.Law.{head_at, HasNames, Steps, IsWhole}
use Rattle.bw_rows.specs.Steps.{with, after, step_of}
use Rattle.bw_rows.specs.Laws.{IsTables, HasHomes, HasNoRow, HasNumber, IsKnown, IsNoTable, IsOfTable, NothingIsLeft, with_table, empty_table, CreateIsTheStep, DropIsTheStep, GoneRowIsLawful, GoneIsLawful}
use Rattle.bw_rows.proofs.OneKey.{split, same_self, same_true, rows_apart}
use Rattle.bw_rows.proofs.Values.{same_optional, step_is_lawful, step_is_found}
use Rattle.bw_rows.proofs.Records.{still_known, unread_is_lawful, unread_names}
use Rattle.bw_rows.proofs.Groups.{group_steps, group_others}
use Rattle.bw_rows.proofs.TableLaws.{quiet_found, same_tables}

same_row : (a b : Bytes) → ◌≡◌ {A = Option Bytes} (Some a) (Some b) → a ≡ b
same_row a b e = ap (λ (o : Option Bytes). elim o as (λ _. Bytes) [ None ↦ a | Some x ↦ x ]) e

no_name : {C : Type 0} (row : Bytes) → ◌≡◌ {A = Option Bytes} None (Some row) → C
no_name row e = absurd (cc e)

no_number : {C : Type 0} (t : Bytes) → ◌≡◌ {A = Option Bytes} None (Some t) → C
no_number t e = absurd (cc e)

-- ---- a new table

module _ (tables : Tables) (p : Plain) (name row mark : Bytes) (h : IsTables tables p) (fresh : p (name_key name) ≡ None) (wide : length (table_in row) ≡ 2) (none : IsNoTable p (table_in row))
    (empty : (key : Bytes) → p (row_key (row_place (table_in row) key)) ≡ None) where
  abbrev new : Plain
  new = after p (Put (name_key name) row ∷ Put mark_key mark ∷ [])

  here : (other its : Bytes) → same other name ≡ true → new (name_key other) ≡ Some its → row ≡ its
  here other its one e = same_row row its (sym (ap (λ b. cond b (Some row) (p (name_key other))) one) ∙ e)

  else_name : (other its : Bytes) → same other name ≡ false → new (name_key other) ≡ Some its → p (name_key other) ≡ Some its
  else_name other its two e = sym (ap (λ b. cond b (Some row) (p (name_key other))) two) ∙ e

  named : HasNames new
  named = record {
    wide = λ other its e. split other name
        (λ one. ap (λ (x : Bytes). length (table_in x)) (sym (here other its one e)) ∙ wide)
        (λ two. h.lawful.names.wide other its (else_name other its two e));
    apart = λ a b v w e g same_t. split a name
        (λ one. split b name
        (λ its. same_true a name one ∙ sym (same_true b name its))
        (λ two. absurd (none b w (else_name b w two g) (sym same_t ∙ ap table_in (sym (here a v one e))))))
        (λ two. split b name
        (λ its. absurd (none a v (else_name a v two e) (same_t ∙ ap table_in (sym (here b w its g)))))
        (λ both. h.lawful.names.apart a b v w (else_name a v two e) (else_name b w both g) same_t));
  }

  -- a table that was there is there
  old_table : (u : Bytes) → IsOfTable p u → IsOfTable new u
  old_table u its = split its.0 name
      (λ one. no_number u (sym (ap (option_map table_in) (ap (λ (x : Bytes). p (name_key x)) (same_true its.0 name one) ∙ fresh)) ∙ its.1))
      (λ two. (its.0, ap (λ b. option_map table_in (cond b (Some row) (p (name_key its.0)))) two ∙ its.1))

  homes_now : HasHomes new
  homes_now k there = old_known (take 2 k) (h.lawful.homes k there) where
    old_known : (u : Bytes) → IsKnown p u → IsKnown new u
    old_known u (inl its) = inl (old_table u its)
    old_known u (inr its) = inr its

  still : (k : Bytes) → found new k ≡ found p k
  still k = quiet_found new k h.lawful.quiet ∙ same_optional p new (λ c. refl) (p (row_key k)) ∙ sym (quiet_found p k h.lawful.quiet)

  nothing : (key : Bytes) → found p (row_place (table_in row) key) ≡ None
  nothing key = quiet_found p (row_place (table_in row) key) h.lawful.quiet ∙ ap (option_map (value_of p)) (empty key)

  at_name : (other : Bytes) (b : Bool) → option_map {T = Bytes} {U = Table} (λ its key. found new (row_place (table_in its) key)) (cond b (Some row) (p (name_key other)))
      ≡ cond b (Some empty_table) (tables_of p other)
  at_name other true = ap (λ (f : Table). Some f) (λ i key. (still (row_place (table_in row) key) ∙ nothing key) i)
  at_name other false = ap (λ (f : Bytes → Option Bytes). option_map {T = Bytes} {U = Table} (λ its key. f (row_place (table_in its) key)) (p (name_key other))) (λ i k. still k i)

  created : IsTables (with_table tables name (Some empty_table)) new
  created = record {
    lawful = record {
      values = unread_is_lawful p new (λ q. refl) (λ c. refl) (λ m. refl) h.lawful.values;
      names = named;
      homes = homes_now;
      quiet = h.lawful.quiet;
    };
    its =
        let step : tables_of new ≡ with_table (tables_of p) name (Some empty_table) = λ i other. at_name other (same other name) i in
        step ∙ ap (λ (ts : Tables). with_table ts name (Some empty_table)) h.its;
  }

pub create_law : CreateIsTheStep
create_law tables p name row mark h fresh wide none empty = created tables p name row mark h fresh wide none empty

-- ---- a table goes away

module _ (tables : Tables) (p : Plain) (name t : Bytes) (h : IsTables tables p) (its : HasNumber p name t) where
  abbrev less : Plain
  less = after p (Del (name_key name) ∷ Put (gone_key t) [] ∷ [])

  was_name : (other its : Bytes) → less (name_key other) ≡ Some its → p (name_key other) ≡ Some its
  was_name other its e = split other name
      (λ one. no_name its (sym (ap (λ b. cond b None (p (name_key other))) one) ∙ e))
      (λ two. sym (ap (λ b. cond b None (p (name_key other))) two) ∙ e)

  -- the number of the table is gone, and all others are known as they were
  known_less : (u : Bytes) → IsKnown p u → IsKnown less u
  known_less u (inl known) = split known.0 name
      (λ one. inr (ap (λ b. is_some (cond b (Some []) (p (gone_key u)))) (its_own u (sym (ap (λ (x : Bytes). option_map table_in (p (name_key x))) (same_true known.0 name one)) ∙ known.1))))
      (λ two. inl (known.0, ap (λ b. option_map table_in (cond b None (p (name_key known.0)))) two ∙ known.1))
    where
      its_own : (v : Bytes) → HasNumber p name v → same v t ≡ true
      its_own v e = ap (λ (x : Bytes). same x t) (same_row v t (sym e ∙ its)) ∙ same_self t
  known_less u (inr gone) = inr (split u t
      (λ one. ap (λ b. is_some (cond b (Some []) (p (gone_key u)))) one)
      (λ two. ap (λ b. is_some (cond b (Some []) (p (gone_key u)))) two ∙ gone))

  stays : (k : Bytes) → found less k ≡ found p k
  stays k = quiet_found less k h.lawful.quiet ∙ same_optional p less (λ c. refl) (p (row_key k)) ∙ sym (quiet_found p k h.lawful.quiet)

  less_at : (other : Bytes) (b : Bool) → option_map {T = Bytes} {U = Table} (λ its key. found less (row_place (table_in its) key)) (cond b None (p (name_key other)))
      ≡ cond b None (tables_of p other)
  less_at other true = refl
  less_at other false = ap (λ (f : Bytes → Option Bytes). option_map {T = Bytes} {U = Table} (λ its key. f (row_place (table_in its) key)) (p (name_key other))) (λ i k. stays k i)

  dropped : IsTables (with_table tables name None) less
  dropped = record {
    lawful = record {
      values = unread_is_lawful p less (λ q. refl) (λ c. refl) (λ m. refl) h.lawful.values;
      names = record {
        wide = λ other its e. h.lawful.names.wide other its (was_name other its e);
        apart = λ a b v w e g same_t. h.lawful.names.apart a b v w (was_name a v e) (was_name b w g) same_t;
      };
      homes = λ k there. known_less (take 2 k) (h.lawful.homes k there);
      quiet = h.lawful.quiet;
    };
    its =
        let step : tables_of less ≡ with_table (tables_of p) name None = λ i other. less_at other (same other name) i in
        step ∙ ap (λ (ts : Tables). with_table ts name None) h.its;
  }

pub drop_law : DropIsTheStep
drop_law tables p name t h its = dropped tables p name t h its

-- ---- what it leaves

no_head : {C : Type 0} (n : Bytes) (len : ℕ) → ◌≡◌ {A = Option (Bytes × ℕ)} None (Some (n, len)) → C
no_head n len e = absurd (cc e)

module _ (tables : Tables) (p : Plain) (t key : Bytes) (h : IsTables tables p) (wide : length t ≡ 2) (none : IsNoTable p t) where
  abbrev place : Bytes
  place = row_place t key

  abbrev without_row : Plain
  without_row = after p (step_of place None (head_at p place))

  whole : IsWhole p None
  whole = record { long = λ n len e. no_head n len e; doomed = λ n len e. no_head n len e; full = λ n len i e l. no_head n len e }

  steps : Steps p without_row place None
  steps = group_steps p place None h.lawful.values whole

  others : ((other : Bytes) → without_row (name_key other) ≡ p (name_key other)) × (without_row stands_key ≡ p stands_key) × ((u : Bytes) → without_row (gone_key u) ≡ p (gone_key u))
  others = group_others p place None None (head_at p place)

  quiet : without_row stands_key ≡ None
  quiet = others.1 ∙ h.lawful.quiet

  kept_at : (u q : Bytes) → length u ≡ 2 → (u ≡ t → ⊥) → found without_row (row_place u q) ≡ found p (row_place u q)
  kept_at u q two other =
      quiet_found without_row (row_place u q) quiet
      ∙ step_is_found p without_row place None h.lawful.values whole steps (row_place u q)
      ∙ ap (λ b. cond b None (option_map (value_of p) (p (row_key (row_place u q))))) (rows_apart t u key q wide two other)
      ∙ sym (quiet_found p (row_place u q) h.lawful.quiet)

  kept_table : (name : Bytes) (o : Option Bytes) → p (name_key name) ≡ o
      → option_map {T = Bytes} {U = Table} (λ its q. found without_row (row_place (table_in its) q)) o ≡ option_map {T = Bytes} {U = Table} (λ its q. found p (row_place (table_in its) q)) o
  kept_table name None e = refl
  kept_table name (Some row) e =
      ap (λ (f : Table). Some f) (λ i q. kept_at (table_in row) q (h.lawful.names.wide name row e) (λ same_t. none name row e same_t) i)

  gone_row : IsTables tables without_row
  gone_row = record {
    lawful = record {
      values = step_is_lawful p without_row place None h.lawful.values whole steps;
      names = unread_names p without_row others.0 h.lawful.names;
      homes = λ k there. split k place
          (λ one. absurd (true≢false (sym there ∙ ap is_some (steps.rows k ∙ ap (λ b. cond b None (p (row_key k))) one))))
          (λ two. still_known p without_row (take 2 k) others.0 (others.2 (take 2 k)) (h.lawful.homes k (sym (ap is_some (steps.rows k ∙ ap (λ b. cond b None (p (row_key k))) two)) ∙ there)));
      quiet = quiet;
    };
    its =
        let by : (Bytes → Option Bytes) → Tables = λ names name. option_map {T = Bytes} {U = Table} (λ its q. found without_row (row_place (table_in its) q)) (names name) in
        let named : tables_of without_row ≡ by (λ name. p (name_key name)) = ap by (λ i name. others.0 name i) in
        let kept : by (λ name. p (name_key name)) ≡ tables_of p = λ i name. kept_table name (p (name_key name)) refl i in
        named ∙ kept ∙ h.its;
  }

pub gone_row_law : GoneRowIsLawful
gone_row_law tables p t key h wide none = gone_row tables p t key h wide none

-- a row whose place begins with a number is of it
row_there : (p : Plain) (t k : Bytes) → take 2 k ≡ t → HasNoRow p t → p (row_key k) ≡ None
row_there p t k e none = ap (λ (x : Bytes). p (row_key x)) (sym (take-append-drop 2 k) ∙ ap (λ (x : Bytes). x ++ drop 2 k) e) ∙ none (drop 2 k)

gone_known : (p : Plain) (t k : Bytes) → HasNoRow p t ⊎ IsOfTable p t → is_some (p (row_key k)) ≡ true → IsKnown p (take 2 k) → IsKnown (with p (gone_key t) None) (take 2 k)
gone_known p t k may there (inl its) = inl its
gone_known p t k (inl none) there (inr gone) = split (take 2 k) t
    (λ one. absurd (true≢false (sym there ∙ ap is_some (row_there p t k (same_true (take 2 k) t one) none))))
    (λ two. inr (ap (λ b. is_some (cond b None (p (gone_key (take 2 k))))) two ∙ gone))
gone_known p t k (inr its) there (inr gone) = split (take 2 k) t
    (λ one. inl (its.0, its.1 ∙ ap (λ (x : Bytes). Some x) (sym (same_true (take 2 k) t one))))
    (λ two. inr (ap (λ b. is_some (cond b None (p (gone_key (take 2 k))))) two ∙ gone))

pub gone_law : GoneIsLawful
gone_law tables p t h may =
    let new : Plain = with p (gone_key t) None in
    record {
      lawful = record {
        values = unread_is_lawful p new (λ q. refl) (λ c. refl) (λ m. refl) h.lawful.values;
        names = unread_names p new (λ name. refl) h.lawful.names;
        homes = λ k there. gone_known p t k may there (h.lawful.homes k there);
        quiet = h.lawful.quiet;
      };
      its = same_tables p new (λ name. refl) (λ k. quiet_found new k h.lawful.quiet ∙ same_optional p new (λ c. refl) (p (row_key k)) ∙ sym (quiet_found p k h.lawful.quiet)) ∙ h.its;
    }

left_by_none : (p : Plain) (t : Bytes) → p (gone_key t) ≡ None → IsKnown p t → IsOfTable p t
left_by_none p t none (inl its) = its
left_by_none p t none (inr gone) = absurd (true≢false (sym gone ∙ ap is_some none))

pub nothing_law : NothingIsLeft
nothing_law p k lawful none there = left_by_none p (take 2 k) (none (take 2 k)) (lawful.homes k there)

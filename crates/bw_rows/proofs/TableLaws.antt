-- What each group does to the tables that a map stands for.

use Rattle.std.proofs.Common.{ℕ, ◌≡◌, ◌<◌, inl, Bool, true, false, cond, Option, Some, None, is_some, [], length, take, refl, sym, ap, subst, ◌∙◌}
use Rattle.std.proofs.lemmas.Bool.{true≢false}
use Rattle.std.specs.Option.{option_map}
use Rattle.bw_rows.specs.Spelling.{Bytes, same, name_key, stands_key, aside_key, row_key, row_place, chunk_key, chunk_place, doomed_key, free_key, gone_key, chunks_in}
use Rattle.bw_rows.specs.Meaning.{Plain, Table, Tables, chunks_of, joined, over, counted, value_by, value_of, found, tables_of, table_in, with_value}
use Rattle.bw_rows.specs.Law.{head_at, is_doomed, HasNames, Steps, IsWhole}
use Rattle.bw_rows.specs.Steps.{with, after, head_in, step_of}
use Rattle.bw_rows.specs.Laws.{IsTables, HasHomes, HasNumber, DoomIsLawful, ChunkIsLawful, FreeIsLawful, EndIsLawful, ShortIsTheStep, HeadIsTheStep, FreshIsUnnamed}
use Rattle.bw_rows.proofs.OneKey.{split, same_self, same_true, same_behind, rows_apart}
use Rattle.bw_rows.proofs.Values.{same_number, same_optional, step_is_lawful, step_is_found}
use Rattle.bw_rows.proofs.HeadLaws.{front_of}
use Rattle.bw_rows.proofs.Records.{same_number_at, still_known, unread_homes, unread_is_lawful, unread_names, chunk_is_lawful, chunk_is_found, doom_is_lawful, end_is_lawful}
use Rattle.bw_rows.proofs.Groups.{group_steps, group_others}

-- if no batch stands, the row counts
pub quiet_row : (p : Plain) (k : Bytes) → p stands_key ≡ None → counted p k ≡ p (row_key k)
quiet_row p k quiet = ap (λ (o : Option Bytes). cond (is_some o) (over (p (aside_key k)) (p (row_key k))) (p (row_key k))) quiet

pub quiet_found : (p : Plain) (k : Bytes) → p stands_key ≡ None → found p k ≡ option_map (value_of p) (p (row_key k))
quiet_found p k quiet = ap (option_map (value_of p)) (quiet_row p k quiet)

-- the table of each name, by what is found at its places
abbrev pub tables_by : (Bytes → Option Bytes) → (Bytes → Option Bytes) → Tables
tables_by names at name = option_map (λ row key. at (row_place (table_in row) key)) (names name)

-- if names and what is found stay, the tables do
pub same_tables : (p new : Plain) → ((name : Bytes) → new (name_key name) ≡ p (name_key name)) → ((k : Bytes) → found new k ≡ found p k) → tables_of new ≡ tables_of p
same_tables p new names at =
    ap (λ (f : Bytes → Option Bytes). tables_by f (found new)) (λ i name. names name i)
    ∙ ap (tables_by (λ name. p (name_key name))) (λ i k. at k i)

-- ---- one value

number_at : (p : Plain) (name t row : Bytes) → p (name_key name) ≡ Some row → HasNumber p name t → table_in row ≡ t
number_at p name t row e h =
    ap (λ (o : Option Bytes). elim o as (λ _. Bytes) [ None ↦ table_in row | Some x ↦ x ]) (sym (ap (option_map table_in) e) ∙ h)

-- if one place changed, one key of one table did
module _ (p : Plain) (at : Bytes → Option Bytes) (name t key : Bytes) (value : Option Bytes) (names : HasNames p) (its : HasNumber p name t) where
  abbrev at_place : Bytes → Option Bytes
  at_place k = cond (same k (row_place t key)) value (at k)

  -- a name's number is two bytes
  wide : (other row : Bytes) → p (name_key other) ≡ Some row → length (table_in row) ≡ 2
  wide other row e = names.wide other row e

  its_wide_by : (o : Option Bytes) → p (name_key name) ≡ o → option_map table_in o ≡ Some t → length t ≡ 2
  its_wide_by None e h = absurd (cc h)
  its_wide_by (Some row) e h = ap length (sym (number_at p name t row e its)) ∙ wide name row e

  its_wide : length t ≡ 2
  its_wide = its_wide_by (p (name_key name)) refl its

  -- the table of another name is untouched
  another : (other row : Bytes) → p (name_key other) ≡ Some row → same other name ≡ false → table_in row ≡ t → ⊥
  another other row e two same_t = another_by (p (name_key name)) refl its where
    another_by : (o : Option Bytes) → p (name_key name) ≡ o → option_map table_in o ≡ Some t → ⊥
    another_by None h g = absurd (cc g)
    another_by (Some mine) h g =
        true≢false (sym (same_self name) ∙ ap (λ (x : Bytes). same x name)
        (sym (names.apart other name row mine e h (same_t ∙ sym (number_at p name t mine h its)))) ∙ two)

  table_by : (other : Bytes) (b : Bool) (o : Option Bytes) → same other name ≡ b → p (name_key other) ≡ o
      → option_map {T = Bytes} {U = Table} (λ row q. at_place (row_place (table_in row) q)) o
      ≡ cond b (option_map {T = Table} {U = Table} (λ table q. cond (same q key) value (table q)) (option_map {T = Bytes} {U = Table} (λ row q. at (row_place (table_in row) q)) o))
      (option_map {T = Bytes} {U = Table} (λ row q. at (row_place (table_in row) q)) o)
  table_by other true None one e = refl
  table_by other false None two e = refl
  table_by other true (Some row) one e =
      let t_is : table_in row ≡ t = number_at p name t row (ap (λ (x : Bytes). p (name_key x)) (sym (same_true other name one)) ∙ e) its in
      ap (λ (f : Bytes → Option Bytes). Some f) (λ i q.
      (ap (λ (b : Bool). cond b value (at (row_place (table_in row) q)))
      (ap (λ (x : Bytes). same (row_place x q) (row_place t key)) t_is ∙ same_behind t q key)) i)
  table_by other false (Some row) two e =
      ap (λ (f : Bytes → Option Bytes). Some f) (λ i q.
      (ap (λ (b : Bool). cond b value (at (row_place (table_in row) q)))
      (rows_apart t (table_in row) key q its_wide (wide other row e) (another other row e two))) i)

  pub one_value : tables_by (λ other. p (name_key other)) at_place ≡ with_value (tables_by (λ other. p (name_key other)) at) name key value
  one_value = λ i other. table_by other (same other name) (p (name_key other)) refl refl i

pub one_value_of : (p new : Plain) (name t key : Bytes) (value : Option Bytes) → HasNames p → HasNumber p name t → ((other : Bytes) → new (name_key other) ≡ p (name_key other))
    → ((k : Bytes) → found new k ≡ cond (same k (row_place t key)) value (found p k)) → tables_of new ≡ with_value (tables_of p) name key value
one_value_of p new name t key value names its kept at =
    ap (λ (f : Bytes → Option Bytes). tables_by f (found new)) (λ i other. kept other i)
    ∙ ap (tables_by (λ other. p (name_key other))) (λ i k. at k i)
    ∙ one_value p (found p) name t key value names its

-- ---- the laws

pub doom_law : DoomIsLawful
doom_law tables p n h unnamed =
    let new : Plain = with p (doomed_key n) (Some []) in
    record {
      lawful = record {
        values = doom_is_lawful p n h.lawful.values unnamed;
        names = unread_names p new (λ name. refl) h.lawful.names;
        homes = unread_homes p new (λ q. refl) (λ name. refl) (λ t. refl) h.lawful.homes;
        quiet = h.lawful.quiet;
      };
      its = same_tables p new (λ name. refl) (λ k. quiet_found new k h.lawful.quiet ∙ same_optional p new (λ c. refl) (p (row_key k)) ∙ sym (quiet_found p k h.lawful.quiet)) ∙ h.its;
    }

pub end_law : EndIsLawful
end_law tables p n h none =
    let new : Plain = with p (doomed_key n) None in
    record {
      lawful = record {
        values = end_is_lawful p n h.lawful.values none;
        names = unread_names p new (λ name. refl) h.lawful.names;
        homes = unread_homes p new (λ q. refl) (λ name. refl) (λ t. refl) h.lawful.homes;
        quiet = h.lawful.quiet;
      };
      its = same_tables p new (λ name. refl) (λ k. quiet_found new k h.lawful.quiet ∙ same_optional p new (λ c. refl) (p (row_key k)) ∙ sym (quiet_found p k h.lawful.quiet)) ∙ h.its;
    }

pub free_law : FreeIsLawful
free_law tables p n mark h =
    let new : Plain = with p (free_key n) mark in
    record {
      lawful = record {
        values = unread_is_lawful p new (λ q. refl) (λ c. refl) (λ m. refl) h.lawful.values;
        names = unread_names p new (λ name. refl) h.lawful.names;
        homes = unread_homes p new (λ q. refl) (λ name. refl) (λ t. refl) h.lawful.homes;
        quiet = h.lawful.quiet;
      };
      its = same_tables p new (λ name. refl) (λ k. quiet_found new k h.lawful.quiet ∙ same_optional p new (λ c. refl) (p (row_key k)) ∙ sym (quiet_found p k h.lawful.quiet)) ∙ h.its;
    }

pub chunk_law : ChunkIsLawful
chunk_law tables p n i chunk wide h doomed =
    let new : Plain = with p (chunk_key (chunk_place n i)) chunk in
    record {
      lawful = record {
        values = chunk_is_lawful p n i chunk wide h.lawful.values doomed;
        names = unread_names p new (λ name. refl) h.lawful.names;
        homes = unread_homes p new (λ q. refl) (λ name. refl) (λ t. refl) h.lawful.homes;
        quiet = h.lawful.quiet;
      };
      its = same_tables p new (λ name. refl) (λ k. quiet_found new k h.lawful.quiet ∙ chunk_is_found p n i chunk wide h.lawful.values doomed k ∙ sym (quiet_found p k h.lawful.quiet)) ∙ h.its;
    }

-- a place in a table begins with the table's number
pub number_of_place : (p : Plain) (name t key : Bytes) → HasNames p → HasNumber p name t → take 2 (row_place t key) ≡ t
number_of_place p name t key names its = front_of t key 2 (its_wide p (found p) name t key None names its)

placed_homes : (p new : Plain) (name t key : Bytes) (row : Option Bytes) → ((q : Bytes) → new (row_key q) ≡ cond (same q (row_place t key)) row (p (row_key q)))
    → ((other : Bytes) → new (name_key other) ≡ p (name_key other)) → ((u : Bytes) → new (gone_key u) ≡ p (gone_key u)) → HasNames p → HasNumber p name t → HasHomes p → HasHomes new
placed_homes p new name t key row rows same_names gone names its homes k there = split k (row_place t key)
    (λ one. inl (name, subst (HasNumber new name) (sym (ap (take 2) (same_true k (row_place t key) one) ∙ number_of_place p name t key names its)) (same_number_at p new name t (same_names name) its)))
    (λ two. still_known p new (take 2 k) same_names (gone (take 2 k)) (homes k (sym (ap is_some (rows k ∙ ap (λ b. cond b row (p (row_key k))) two)) ∙ there)))

-- the group of a row that may be written
step_law : (tables : Tables) (p : Plain) (name t key : Bytes) (row : Option Bytes) → IsTables tables p → HasNumber p name t → IsWhole p row
    → IsTables (with_value tables name key (option_map (value_of p) row)) (after p (step_of (row_place t key) row (head_at p (row_place t key))))
step_law tables p name t key row h its whole =
    let k : Bytes = row_place t key in
    let new : Plain = after p (step_of k row (head_at p k)) in
    let steps : Steps p new k row = group_steps p k row h.lawful.values whole in
    let others = group_others p k row (head_in row) (head_at p k) in
    let quiet : new stands_key ≡ None = others.1 ∙ h.lawful.quiet in
    record {
      lawful = record {
        values = step_is_lawful p new k row h.lawful.values whole steps;
        names = unread_names p new others.0 h.lawful.names;
        homes = placed_homes p new name t key row steps.rows others.0 others.2 h.lawful.names its h.lawful.homes;
        quiet = quiet;
      };
      its = one_value_of p new name t key (option_map (value_of p) row) h.lawful.names its others.0
          (λ q. quiet_found new q quiet ∙ step_is_found p new k row h.lawful.values whole steps q
          ∙ ap (cond (same q k) (option_map (value_of p) row)) (sym (quiet_found p q h.lawful.quiet)))
          ∙ ap (λ (ts : Tables). with_value ts name key (option_map (value_of p) row)) h.its;
    }

pub short_law : ShortIsTheStep
short_law tables p name t key row h its none =
    step_law tables p name t key row h its (record {
      long = λ n len e. let no : ◌≡◌ {A = Option (Bytes × ℕ)} None (Some (n, len)) = sym none ∙ e in absurd (cc no);
      doomed = λ n len e. let no : ◌≡◌ {A = Option (Bytes × ℕ)} None (Some (n, len)) = sym none ∙ e in absurd (cc no);
      full = λ n len i e less. let no : ◌≡◌ {A = Option (Bytes × ℕ)} None (Some (n, len)) = sym none ∙ e in absurd (cc no);
    })

same_len : (n m : Bytes) (c d : ℕ) → ◌≡◌ {A = Option (Bytes × ℕ)} (Some (n, c)) (Some (m, d)) → c ≡ d
same_len n m c d e = ap (λ (o : Option (Bytes × ℕ)). elim o as (λ _. ℕ) [ None ↦ c | Some h ↦ h.1 ]) e

pub head_law : HeadIsTheStep
head_law tables p name t key row n len h its head long doomed chunks =
    let value : value_of p row ≡ joined (chunks_of p n) (chunks_in len) = ap (value_by p row) head in
    let step = step_law tables p name t key (Some row) h its (record {
      long = λ m c e. subst (λ (x : ℕ). 0 < chunks_in x) (same_len n m len c (sym head ∙ e)) long;
      doomed = λ m c e. ap (is_doomed p) (sym (same_number n m len c (sym head ∙ e))) ∙ doomed;
      full = λ m c i e less.
          ap (λ (x : Bytes). is_some (chunks_of p x i)) (sym (same_number n m len c (sym head ∙ e)))
          ∙ chunks i (subst (λ (x : ℕ). i < chunks_in x) (sym (same_len n m len c (sym head ∙ e))) less);
    }) in
    subst (λ (v : Bytes). IsTables (with_value tables name key (Some v)) (after p (step_of (row_place t key) (Some row) (head_at p (row_place t key))))) value step

pub fresh_law : FreshIsUnnamed
fresh_law p n lawful none k len h = true≢false (sym (lawful.full k n len 0 h (lawful.long k n len h)) ∙ ap is_some none)

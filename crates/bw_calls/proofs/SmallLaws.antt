-- A small batch goes in as one group.

use Rattle.std.proofs.Common.{ℕ, ◌≡◌, ◌+◌, ◌<◌, ◌≤◌, inl, Bool, true, cond, Option, Some, None, List, [], ◌∷◌, ◌++◌, length, take, get_or, refl, sym, ap, subst, ◌∙◌}
use Rattle.std.specs.Prelude.{Result, Ok, Err, OnOk, IfErr, IfSome}
use Rattle.std.specs.Result.{is_ok}
use Rattle.std.specs.Option.{option_map}
use Rattle.std.proofs.lemmas.List.{take_all}
use Rattle.std.proofs.lemmas.List.Sums.{fold_push}
use Rattle.bw_record.specs.declared.record.Record.{Record}
use Rattle.bw_record.specs.declared.record.Record.TheVariants.{Put}
use Rattle.bw_leaf.specs.Changed.{Map}
use Rattle.bw_rows.specs.Spelling.{Bytes, same, name_key, row_key, row_place, whole_row}
use Rattle.bw_rows.specs.Meaning.{Plain, Tables, tables_of, table_in, value_of, with_value}
use Rattle.bw_rows.specs.Law.{head_at}
use Rattle.bw_rows.specs.Laws.{IsLawful, IsTables, HasNumber}
use Rattle.bw_rows.specs.Batches.{IsLeft}
use Rattle.bw_rows.specs.Steps.{changed, after, head_in, row_change, row_group, step_of}
use Rattle.bw_rows.proofs.OneKey.{split}
use Rattle.bw_rows.proofs.TableLaws as laws
use Rattle.bw_calls.specs.Batches.{bytes_in, with_change, with_changes, IsBatchLeftBy, IsOneRecord, IsShort, IsUpTo}
use Rattle.bw_calls.specs.declared.batching.Change.{Change}
use Rattle.bw_calls.specs.Lives.{IsIn}
use Rattle.bw_calls.specs.Standing.{waits}
use Rattle.bw_calls.specs.declared.fault.TableFault.{TableFault}
use Rattle.bw_calls.proofs.PlainLaws.{plain_of, itself, lawful_moved}
use Rattle.bw_calls.proofs.BatchLaws.{batch_refused, changes_more}

-- ---- one record more

row_names : (q : Plain) (place : Bytes) (row : Option Bytes) (name : Bytes) → changed q (row_change place row) (name_key name) ≡ q (name_key name)
row_names q place None name = refl
row_names q place (Some row) name = refl

row_is : (q : Plain) (place : Bytes) (row : Option Bytes) (k : Bytes) → changed q (row_change place row) (row_key k) ≡ cond (same k place) row (q (row_key k))
row_is q place None k = refl
row_is q place (Some row) k = refl

row_heads : (q : Plain) (place : Bytes) (row : Option Bytes) (k : Bytes) → head_in row ≡ None → head_at q k ≡ None → head_at (changed q (row_change place row)) k ≡ None
row_heads q place row k short old =
    ap head_in (row_is q place row k) ∙ split k place
    (λ one. ap (λ b. head_in (cond b row (q (row_key k)))) one ∙ short)
    (λ two. ap (λ b. head_in (cond b row (q (row_key k)))) two ∙ old)

one_step : (q : Plain) (place : Bytes) (row : Option Bytes) → head_in row ≡ None → head_at q place ≡ None → step_of place row (head_at q place) ≡ row_change place row ∷ []
one_step q place row short old =
    ap (row_group place row (head_in row)) old ∙ ap (λ (h : Option (Bytes × ℕ)). row_group place row h None) short

pub joins : (p : Plain) (tables : Tables) (group : List Record) (change : Change) (r : Record) → IsUpTo p tables group → IsOneRecord p change r
    → IsUpTo p (with_change tables change) (group ++ r ∷ [])
joins p tables group change r h one =
    let q : Plain = after p group in
    let place : Bytes = row_place one.t change.key in
    let row : Option Bytes = one.short.row in
    let quiet : head_at q place ≡ None = h.heads place one.old in
    let number : HasNumber q change.table one.t = ap (option_map table_in) (h.names change.table) ∙ one.number in
    let step : IsTables (with_value tables change.table change.key (option_map (value_of q) row)) (after q (step_of place row (head_at q place)))
    = laws.short_law tables q change.table one.t change.key row h.its number one.short.head in
    let made : IsTables (with_change tables change) (changed q (row_change place row))
    = subst (λ (v : Option Bytes). IsTables (with_value tables change.table change.key v) (changed q (row_change place row))) (one.short.value q)
    (subst (λ (g : List Record). IsTables (with_value tables change.table change.key (option_map (value_of q) row)) (after q g)) (one_step q place row one.short.head quiet) step) in
    let whole : after p (group ++ r ∷ []) ≡ changed q (row_change place row) = fold_push changed p group r ∙ ap (changed q) one.short.is in
    record {
      its = subst (IsTables (with_change tables change)) (sym whole) made;
      names = λ name. ap (λ (f : Plain). f (name_key name)) whole ∙ row_names q place row name ∙ h.names name;
      heads = λ k old. ap (λ (f : Plain). head_at f k) whole ∙ row_heads q place row k one.short.head (h.heads k old);
    }

-- whether it was added
pub joined_by : {A E : Type 0} (p : Plain) (tables : Tables) (group new : List Record) (change : Change) (item : Record) (o : Option Record) (r : Result A E) (b : Bool) → o ≡ Some item
    → IfSome o (λ x. IsOneRecord p change x) → b ≡ is_ok r → OnOk r (new ≡ group ++ item ∷ []) → IsUpTo p tables group → b ≡ true → IsUpTo p (with_change tables change) new
joined_by p tables group new change item o (Ok x) b there found ok added up yes_ =
    subst (IsUpTo p (with_change tables change)) (sym added) (joins p tables group change item up (subst (λ (x : Option Record). IfSome x (λ y. IsOneRecord p change y)) there found))
joined_by p tables group new change item o (Err e) b there found ok added up yes_ = absurd (cc (sym yes_ ∙ ok))

nothing_yet : (p : Plain) → IsLawful p → IsUpTo p (tables_of p) []
nothing_yet p lawful = record { its = itself p lawful; names = λ name. refl; heads = λ k old. old }

pub begins : (p : Plain) (change : Change) (r : Record) → IsLawful p → IsOneRecord p change r → IsUpTo p (with_change (tables_of p) change) (r ∷ [])
begins p change r lawful one = joins p (tables_of p) [] change r (nothing_yet p lawful) one

-- the first of the changes
pub first_up : (m m1 : Map) (changes : List Change) (change : Change) (item : Record) (o : Option Record) (group : List Record) → m1 ≡ m → 0 < length changes
    → change ≡ get_or changes 0 change → o ≡ Some item → IfSome o (λ x. IsOneRecord (plain_of m) change x) → group ≡ item ∷ [] → IsLawful (plain_of m1)
    → IsUpTo (plain_of m1) (with_changes (tables_of (plain_of m1)) (take 1 changes)) group
first_up m m1 changes change item o group same inside at there found is lawful =
    let one : IsOneRecord (plain_of m) change item = subst (λ (x : Option Record). IfSome x (λ y. IsOneRecord (plain_of m) change y)) there found in
    let moved_one : IsOneRecord (plain_of m1) change item = subst (λ (x : Map). IsOneRecord (plain_of x) change item) (sym same) one in
    let tables = tables_of (plain_of m1) in
    subst (λ (t : Tables). IsUpTo (plain_of m1) t group) (sym (changes_more tables changes 0 change inside at))
    (subst (IsUpTo (plain_of m1) (with_change tables change)) (sym is) (begins (plain_of m1) change item lawful moved_one))

-- one more
pub next_up : (m0 m : Map) (changes : List Change) (i : ℕ) (change : Change) (group new : List Record) → m ≡ m0 → i < length changes → change ≡ get_or changes i change
    → IsUpTo (plain_of m0) (with_changes (tables_of (plain_of m0)) (take i changes)) group
    → ((tables : Tables) → IsUpTo (plain_of m) tables group → IsUpTo (plain_of m) (with_change tables change) new)
    → IsUpTo (plain_of m0) (with_changes (tables_of (plain_of m0)) (take (i + 1) changes)) new
next_up m0 m changes i change group new same inside at up more =
    let tables = tables_of (plain_of m0) in
    let here = subst (λ (x : Map). IsUpTo (plain_of x) (with_changes tables (take i changes)) group) (sym same) up in
    subst (λ (t : Tables). IsUpTo (plain_of m0) t new) (sym (changes_more tables changes i change inside at))
    (subst (λ (x : Map). IsUpTo (plain_of x) (with_change (with_changes tables (take i changes)) change) new) same (more (with_changes tables (take i changes)) here))

-- and all
pub last_up : (m m1 : Map) (changes : List Change) (i : ℕ) (group : List Record) → m1 ≡ m → length changes ≤ i
    → (IsLawful (plain_of m1) → IsUpTo (plain_of m1) (with_changes (tables_of (plain_of m1)) (take i changes)) group) → IsLawful (plain_of m)
    → IsUpTo (plain_of m) (with_changes (tables_of (plain_of m)) changes) group
last_up m m1 changes i group same behind up lawful =
    let there : IsUpTo (plain_of m) (with_changes (tables_of (plain_of m)) (take i changes)) group
    = subst (λ (x : Map). IsUpTo (plain_of x) (with_changes (tables_of (plain_of x)) (take i changes)) group) same (up (lawful_moved m m1 lawful same)) in
    subst (λ (l : List Change). IsUpTo (plain_of m) (with_changes (tables_of (plain_of m)) l) group) (take_all i changes behind) there

-- ---- the record of a change

pub short_put : (t : Bytes) (change : Change) (key row value : Bytes) → key ≡ row_key (row_place t change.key) → row ≡ whole_row value → bytes_in change.value ≡ Some value
    → IsShort t change (Put key row)
short_put t change key row value at is told = record {
  row = Some (whole_row value);
  is = ap (λ (k : Bytes). Put k row) at ∙ ap (Put (row_key (row_place t change.key))) is;
  head = refl;
  value = λ p. sym told;
}

pub one_record : (m m1 : Map) (t : Bytes) (change : Change) (r : Record) → m1 ≡ m → Some t ≡ option_map table_in (plain_of m (name_key change.table))
    → head_at (plain_of m1) (row_place t change.key) ≡ None → IsShort t change r → IsOneRecord (plain_of m) change r
one_record m m1 t change r same told old short = record {
  t = t;
  number = sym told;
  old = subst (λ (x : Map). head_at (plain_of x) (row_place t change.key) ≡ None) same old;
  short = short;
}

-- ---- a batch that is one group

pub group_moved : (m m1 m2 : Map) (changes : List Change) (group : List Record) (o : Option (List Record)) → m1 ≡ m → m2 ≡ m1 → o ≡ Some group
    → IfSome o (λ g. IsUpTo (plain_of m1) (with_changes (tables_of (plain_of m1)) changes) g) → IsTables (with_changes (tables_of (plain_of m)) changes) (after (plain_of m2) group)
group_moved m m1 m2 changes group o same again is up =
    let its = subst (λ (x : Option (List Record)). IfSome x (λ g. IsUpTo (plain_of m1) (with_changes (tables_of (plain_of m1)) changes) g)) is up in
    subst (λ (x : Map). IsTables (with_changes (tables_of (plain_of m)) changes) (after (plain_of x) group)) (sym again)
    (subst (λ (x : Map). IsTables (with_changes (tables_of (plain_of x)) changes) (after (plain_of m1) group)) same its.its)

pub group_made : {A E : Type 0} (now : Tables) (q new : Plain) (r : Result A E) → IsTables now q → OnOk r (new ≡ q) → OnOk r (IsLeft now new)
group_made now q new (Ok x) h e = inl (subst (IsTables now) (sym e) h)
group_made now q new (Err e) h is = tt

pub group_refused : {A : Type 0} (was now : Tables) (p q new : Plain) (r : Result A TableFault) → IsTables was p → IsTables now q
    → IfErr r (λ fault. new ≡ cond (waits fault) q p) → IfErr r (λ fault. IsBatchLeftBy fault was now new)
group_refused was now p q new (Ok x) h g e = tt
group_refused was now p q new (Err fault) h g e = batch_refused was now p q new (waits fault) h (inl g) e

-- ---- a batch after two readings

pub made_moved : {A E : Type 0} (m m1 m2 : Map) (changes : List Change) (r : Result A E) (new : Plain) → m1 ≡ m → m2 ≡ m1
    → OnOk r (IsLeft (with_changes (tables_of (plain_of m2)) changes) new) → OnOk r (IsLeft (with_changes (tables_of (plain_of m)) changes) new)
made_moved m m1 m2 changes r new same again h = subst (λ (x : Map). OnOk r (IsLeft (with_changes (tables_of (plain_of x)) changes) new)) (again ∙ same) h

pub refused_moved : {A : Type 0} (m m1 m2 : Map) (changes : List Change) (r : Result A TableFault) (new : Plain) → m1 ≡ m → m2 ≡ m1
    → IfErr r (λ fault. IsBatchLeftBy fault (tables_of (plain_of m2)) (with_changes (tables_of (plain_of m2)) changes) new)
    → IfErr r (λ fault. IsBatchLeftBy fault (tables_of (plain_of m)) (with_changes (tables_of (plain_of m)) changes) new)
refused_moved m m1 m2 changes r new same again h =
    subst (λ (x : Map). IfErr r (λ fault. IsBatchLeftBy fault (tables_of (plain_of x)) (with_changes (tables_of (plain_of x)) changes) new)) (again ∙ same) h

pub changes_moved : (ts : List Tables) (m m1 m2 : Map) (changes : List Change) → m1 ≡ m → m2 ≡ m1 → IsIn (with_changes (tables_of (plain_of m)) changes) ts
    → IsIn (with_changes (tables_of (plain_of m2)) changes) ts
changes_moved ts m m1 m2 changes same again among = subst (λ (x : Map). IsIn (with_changes (tables_of (plain_of x)) changes) ts) (sym (again ∙ same)) among

-- What looks at names find, and rows that no table has.

use Rattle.std.proofs.Common.{◌≡◌, ◌⊎◌, inl, inr, ℕ, ◌<◌, Bool, true, false, Option, Some, None, List, [], ◌∷◌, ◌++◌, refl, sym, ap, subst, ◌∙◌, nat_eq, eq-eqb, ◌&&◌, arith}
use Rattle.std.specs.Prelude.{IsTrue, Result, Ok, Err, OnOk, IfErr}
use Rattle.std.specs.List.{starts_with}
use Rattle.std.specs.Option.{option_map}
use Rattle.bw_record.specs.Keys.{is_below}
use Rattle.bw_record.specs.declared.record.Record.{Record}
use Rattle.bw_record.specs.declared.record.Record.TheVariants.{Del}
use Rattle.bw_record.proofs.Order.{below_first, upto-antisymm, not_both}
use Rattle.bw_leaf.specs.Changed.{Map}
use Rattle.bw_walks.specs.Back.{IsLastBelow}
use Rattle.bw_rows.specs.Spelling.{Bytes, name_key, gone_key, aside_key, row_key, row_place}
use Rattle.bw_rows.specs.Meaning.{Plain, Tables, tables_of, table_in}
use Rattle.bw_rows.specs.declared.names.TableNumber.{TableNumber}
use Rattle.bw_rows.specs.Steps.{after}
use Rattle.bw_rows.specs.Law.{head_at}
use Rattle.bw_rows.specs.Laws.{IsLawful, IsTables, IsNoTable, empty_table, with_table, HasNoRow, IsOfTable}
use Rattle.bw_rows.proofs.NameLaws.{gone_law}
use Rattle.bw_tables.specs.Calls.{DropsRow, DropsTable, KeepsMarks, MakesTable}
use Rattle.bw_calls.specs.Changes.{kind_in, HasNoneGone, HasSameAsides, HasSameMarks}
use Rattle.bw_calls.specs.Lives.{IsIn}
use Rattle.bw_calls.specs.Standing.{IsLeftBy}
use Rattle.bw_calls.specs.declared.fault.TableFault.{TableFault}
use Rattle.bw_calls.specs.Names.{HasLooked, IsNoneFrom, Judges}
use Rattle.bw_calls.specs.declared.naming.Looked.{Looked}
use Rattle.bw_calls.specs.declared.naming.Looked.TheVariants.{Below, Last, Taken}
use Rattle.bw_calls.proofs.PlainLaws.{plain_of, itself, moved, some_is, wrote}
use Rattle.bw_calls.proofs.LeaveLaws.{number_moved}

-- either of two truths
by_test : {X : Type 0} (b : Bool) → (b ≡ true → X) → (b ≡ false → X) → X
by_test true if_so if_not = if_so refl
by_test false if_so if_not = if_not refl

-- ---- the last name below a key

-- no key below this one has a value: no name has the number
pub none_below : (p : Plain) (at t : Bytes) → ((q : Bytes) → IsTrue (is_below q at) → p q ≡ None) → IsNoneFrom p at t → IsNoTable p t
none_below p at t none from name row its number =
    by_test (is_below (name_key name) at)
    (λ below. absurd (cc (sym its ∙ none (name_key name) below)))
    (λ not_below. from name row not_below its number)

-- a key of a lesser kind is below all names
kind_below : (key name : Bytes) → kind_in key < 1 → IsTrue (is_below key (name_key name))
kind_below [] name less = refl
kind_below (k ∷ rest) name less = below_first k 1 rest name less

pub none_of_kind : (p : Plain) (at key t : Bytes) → kind_in key < 1 → ((q : Bytes) → IsTrue (is_below q at) → IsTrue (is_below key q) → p q ≡ None)
    → IsNoneFrom p at t → IsNoTable p t
none_of_kind p at key t less none from name row its number =
    by_test (is_below (name_key name) at)
    (λ below. absurd (cc (sym its ∙ none (name_key name) below (kind_below key name less))))
    (λ not_below. from name row not_below its number)

-- a name that is this key has its value
at_key : (p : Plain) (key value name row t : Bytes) → p key ≡ Some value → (kind_in key ≡ 1 → table_in value ≡ t → ⊥) → key ≡ name_key name
    → p (name_key name) ≡ Some row → table_in row ≡ t → ⊥
at_key p key value name row t its other same there number =
    let one : kind_in key ≡ 1 = ap kind_in same in
    let equal : value ≡ row = some_is value row (sym its ∙ ap p same ∙ there) in
    other one (ap table_in equal ∙ number)

-- the last key below has another number, or is no name
pub none_from : (p : Plain) (at key value t : Bytes) → p key ≡ Some value → ((q : Bytes) → IsTrue (is_below q at) → IsTrue (is_below key q) → p q ≡ None)
    → (kind_in key ≡ 1 → table_in value ≡ t → ⊥) → IsNoneFrom p at t → IsNoneFrom p key t
none_from p at key value t its none other from name row upto there number =
    by_test (is_below (name_key name) at)
    (λ below. by_test (is_below key (name_key name))
    (λ above. absurd (cc (sym there ∙ none (name_key name) below above)))
    (λ not_above. at_key p key value name row t its other (upto-antisymm key (name_key name) upto not_above) there number))
    (λ not_below. from name row not_below there number)

-- the name of a number that is taken
taken_by : (p : Plain) (key row t : Bytes) → p key ≡ Some row → kind_in key ≡ 1 → table_in row ≡ t → IsOfTable p t
taken_by p [] row t there kind number = absurd (omega arith)
taken_by p (k ∷ name) row t there kind number =
    (name, ap (λ (x : ℕ). option_map table_in (p (x ∷ name))) (sym kind) ∙ ap (option_map table_in) there ∙ ap (λ (x : Bytes). Some x) number)

-- the look, by what is there
pub looked_none : (m : Map) (at t : Bytes) (pair : Option (Bytes × Bytes)) → pair ≡ None → IsLastBelow m at pair → IsNoneFrom (plain_of m) at t → IsNoTable (plain_of m) t
looked_none m at t pair is last = none_below (plain_of m) at t (subst (IsLastBelow m at) is last)

looked_by : (m : Map) (at t key row : Bytes) (looked : Looked) → IsLastBelow m at (Some (key, row)) → Judges key row t looked → HasLooked (plain_of m) at t looked
looked_by m at t key row Taken last judged = taken_by (plain_of m) key row t last.its judged.0 judged.1
looked_by m at t key row (Below next) last judged = λ from.
    subst (λ (k : Bytes). IsNoneFrom (plain_of m) k t) (sym judged.0) (none_from (plain_of m) at key row t last.its last.none judged.1 from)
looked_by m at t key row Last last judged = none_of_kind (plain_of m) at key t judged last.none

pub looked_some : (m : Map) (at t key row shown : Bytes) (pair : Option (Bytes × Bytes)) (looked : Looked) → pair ≡ Some (key, row) → IsLastBelow m at pair
    → shown ≡ row → Judges key shown t looked → HasLooked (plain_of m) at t looked
looked_some m at t key row shown pair looked is last shows judged =
    looked_by m at t key row looked (subst (IsLastBelow m at) is last) (subst (λ (r : Bytes). Judges key r t looked) shows judged)

-- a walk over names goes on
pub below_more : (m0 m : Map) (at next t : Bytes) (looked : Looked) → m ≡ m0 → looked ≡ Below next → HasLooked (plain_of m) at t looked
    → IsNoneFrom (plain_of m0) at t → IsNoneFrom (plain_of m0) next t
below_more m0 m at next t looked same is has =
    subst (λ (x : Map). IsNoneFrom (plain_of x) at t → IsNoneFrom (plain_of x) next t) same (subst (HasLooked (plain_of m) at t) is has)

-- and ends
pub none_at_last : (m0 m : Map) (at t : Bytes) (looked : Looked) → m ≡ m0 → looked ≡ Last → HasLooked (plain_of m) at t looked
    → IsNoneFrom (plain_of m0) at t → IsNoTable (plain_of m0) t
none_at_last m0 m at t looked same is has =
    subst (λ (x : Map). IsNoneFrom (plain_of x) at t → IsNoTable (plain_of x) t) same (subst (HasLooked (plain_of m) at t) is has)

-- or has found the number
pub taken_told : (m0 m : Map) (at t : Bytes) (looked : Looked) → m ≡ m0 → looked ≡ Taken → HasLooked (plain_of m) at t looked → IsOfTable (plain_of m0) t
taken_told m0 m at t looked same is has = subst (λ (x : Map). IsOfTable (plain_of x) t) same (subst (HasLooked (plain_of m) at t) is has)

-- no name is at or above the key after them all
pub none_behind : (p : Plain) (t : Bytes) → IsNoneFrom p (2 ∷ []) t
none_behind p t name row upto its number = absurd (not_both true refl upto)

-- ---- rows

self_begins : (t key : Bytes) → starts_with nat_eq (t ++ key) t ≡ true
self_begins [] key = refl
self_begins (x ∷ t) key = ap (λ b. b && starts_with nat_eq (t ++ key) t) (eq-eqb x x refl) ∙ self_begins t key

-- no key that begins so has a value: no row has the number
pub no_row : (p : Plain) (t : Bytes) → ((q : Bytes) → starts_with nat_eq q (8 ∷ t) ≡ true → p q ≡ None) → HasNoRow p t
no_row p t none key = none (row_key (row_place t key)) (self_begins t key)

-- ---- marks that stay

pub marks_same : (p new : Plain) → new ≡ p → HasSameMarks p new
marks_same p new e = record {
  names = λ name. ap (λ (f : Plain). f (name_key name)) e;
  gone = λ t. ap (λ (f : Plain). f (gone_key t)) e;
  asides = λ k. ap (λ (f : Plain). f (aside_key k)) e;
}

pub marks_moved : (m new : Map) → new ≡ m → HasSameMarks (plain_of m) (plain_of new)
marks_moved m new e = marks_same (plain_of m) (plain_of new) (ap plain_of e)

pub marks_then : (p q r : Plain) → HasSameMarks p q → HasSameMarks q r → HasSameMarks p r
marks_then p q r a b = record {
  names = λ name. b.names name ∙ a.names name;
  gone = λ t. b.gone t ∙ a.gone t;
  asides = λ k. b.asides k ∙ a.asides k;
}

-- after a group that changes none, or was refused
marks_by : (p new : Plain) (group : List Record) → KeepsMarks group → (new ≡ p) ⊎ (new ≡ after p group) → HasSameMarks p new
marks_by p new group keeps (inl same) = marks_same p new same
marks_by p new group keeps (inr made) = record {
  names = λ name. ap (λ (f : Plain). f (name_key name)) made ∙ keeps.names p name;
  gone = λ t. ap (λ (f : Plain). f (gone_key t)) made ∙ keeps.gone p t;
  asides = λ k. ap (λ (f : Plain). f (aside_key k)) made ∙ keeps.asides p k;
}

pub marks_after : {A E : Type 0} (p new : Plain) (group : List Record) (r : Result A E) → KeepsMarks group → OnOk r (new ≡ after p group)
    → IfErr r (λ e. (new ≡ p) ⊎ (new ≡ after p group)) → HasSameMarks p new
marks_after p new group r keeps ok err = marks_by p new group keeps (wrote r p (after p group) new ok err)

pub asides_in : (p new : Plain) → HasSameMarks p new → HasSameAsides p new
asides_in p new same = record { asides = same.asides }

pub asides_moved : (m new : Map) → new ≡ m → HasSameAsides (plain_of m) (plain_of new)
asides_moved m new e = record { asides = λ k. ap (λ (x : Map). plain_of x (aside_key k)) e }

pub asides_then : (p q r : Plain) → HasSameAsides p q → HasSameAsides q r → HasSameAsides p r
asides_then p q r a b = record { asides = λ k. b.asides k ∙ a.asides k }

-- a group that ends what is gone
forget_asides : (p new : Plain) (t : Bytes) (group : List Record) → group ≡ Del (gone_key t) ∷ [] → (new ≡ p) ⊎ (new ≡ after p group) → HasSameAsides p new
forget_asides p new t group is (inl same) = record { asides = λ k. ap (λ (f : Plain). f (aside_key k)) same }
forget_asides p new t group is (inr made) = record { asides = λ k. ap (λ (f : Plain). f (aside_key k)) (made ∙ ap (after p) is) }

pub forgot_asides : {A E : Type 0} (p new : Plain) (t : Bytes) (group : List Record) (r : Result A E) → group ≡ Del (gone_key t) ∷ [] → OnOk r (new ≡ after p group)
    → IfErr r (λ e. (new ≡ p) ⊎ (new ≡ after p group)) → HasSameAsides p new
forgot_asides p new t group r is ok err = forget_asides p new t group is (wrote r p (after p group) new ok err)

-- no table has the number still
pub still_no_table : (p new : Plain) (t : Bytes) → HasSameMarks p new → IsNoTable p t → IsNoTable new t
still_no_table p new t same none = λ name row its number. none name row (sym (same.names name) ∙ its) number

-- ---- a number that is gone no more

pub forgets : (p : Plain) (t : Bytes) (group : List Record) → group ≡ Del (gone_key t) ∷ [] → IsLawful p → HasNoRow p t ⊎ IsOfTable p t → IsTables (tables_of p) (after p group)
forgets p t group is lawful may =
    subst (λ (g : List Record). IsTables (tables_of p) (after p g)) (sym is) (gone_law (tables_of p) p t (itself p lawful) may)

pub none_moved : (m m1 : Map) (t : Bytes) → m1 ≡ m → HasNoRow (plain_of m) t → HasNoRow (plain_of m1) t
none_moved m m1 t same none = subst (λ (x : Map). HasNoRow (plain_of x) t) (sym same) none

pub table_moved : (m m1 : Map) (t : Bytes) → m1 ≡ m → IsOfTable (plain_of m) t → IsOfTable (plain_of m1) t
table_moved m m1 t same its = subst (λ (x : Map). IsOfTable (plain_of x) t) (sym same) its

-- no number is gone, if no key of that kind has a value
pub none_gone : (p : Plain) → ((q : Bytes) → starts_with nat_eq q (3 ∷ []) ≡ true → p q ≡ None) → HasNoneGone p
none_gone p none t = none (gone_key t) refl

pub none_gone_moved : (m m1 : Map) → m1 ≡ m → HasNoneGone (plain_of m) → HasNoneGone (plain_of m1)
none_gone_moved m m1 same none = subst (λ (x : Map). HasNoneGone (plain_of x)) (sym same) none

-- a name that no table has
pub no_name : (p : Plain) (name : Bytes) → None ≡ option_map table_in (p (name_key name)) → p (name_key name) ≡ None
no_name p name e = no_name_by (p (name_key name)) e where
  no_name_by : (o : Option Bytes) → None ≡ option_map table_in o → o ≡ None
  no_name_by None is = refl
  no_name_by (Some row) is = absurd (cc is)

pub fresh_told : (answer : Option TableNumber) (m m1 : Map) (name : Bytes) → answer ≡ None
    → option_map (λ (t : TableNumber). t.bytes) answer ≡ option_map table_in (plain_of m (name_key name)) → m1 ≡ m → plain_of m1 (name_key name) ≡ None
fresh_told answer m m1 name is told same =
    ap (λ (x : Map). plain_of x (name_key name)) same ∙ no_name (plain_of m) name (sym (ap (option_map (λ (t : TableNumber). t.bytes)) is) ∙ told)

-- ---- tables that come and go

pub made : (m m1 m2 : Map) (name t : Bytes) (group : List Record) → MakesTable name t group → IsLawful (plain_of m) → plain_of m (name_key name) ≡ None → m1 ≡ m → m2 ≡ m1
    → IsNoTable (plain_of m1) t × HasNoRow (plain_of m1) t → IsTables (with_table (tables_of (plain_of m)) name (Some empty_table)) (after (plain_of m2) group)
made m m1 m2 name t group makes lawful fresh same again free =
    let there : IsTables (tables_of (plain_of m)) (plain_of m2) = moved _ m1 m2 (moved _ m m1 (itself (plain_of m) lawful) same) again in
    let none : IsNoTable (plain_of m2) t = subst (λ (x : Map). IsNoTable (plain_of x) t) (sym again) free.0 in
    let empty : HasNoRow (plain_of m2) t = subst (λ (x : Map). HasNoRow (plain_of x) t) (sym again) free.1 in
    makes (tables_of (plain_of m)) (plain_of m2) there (ap (λ (x : Map). plain_of x (name_key name)) (again ∙ same) ∙ fresh) none empty

pub on_ok : {A E : Type 0} (tables : Tables) (r : Result A E) (new q : Plain) → IsTables tables q → OnOk r (new ≡ q) → OnOk r (IsTables tables new)
on_ok tables (Ok x) new q h e = subst (IsTables tables) (sym e) h
on_ok tables (Err x) new q h e = tt

pub unnamed : (m m1 : Map) (name t : Bytes) (group : List Record) → DropsTable name t group → IsLawful (plain_of m) → m1 ≡ m
    → Some t ≡ option_map table_in (plain_of m (name_key name)) → IsTables (with_table (tables_of (plain_of m)) name None) (after (plain_of m1) group)
unnamed m m1 name t group drops lawful same told =
    drops (tables_of (plain_of m)) (plain_of m1) (moved _ m m1 (itself (plain_of m) lawful) same) (number_moved m m1 name t same told)

pub dropped_row : (m m1 : Map) (t key : Bytes) (old : Option (Bytes × ℕ)) (group : List Record) → DropsRow t key old group → IsLawful (plain_of m)
    → IsNoTable (plain_of m) t → m1 ≡ m → old ≡ head_at (plain_of m) (row_place t key) → IsTables (tables_of (plain_of m)) (after (plain_of m1) group)
dropped_row m m1 t key old group drops lawful none same was =
    let there : IsTables (tables_of (plain_of m)) (plain_of m1) = moved _ m m1 (itself (plain_of m) lawful) same in
    let still : IsNoTable (plain_of m1) t = subst (λ (x : Map). IsNoTable (plain_of x) t) (sym same) none in
    drops (tables_of (plain_of m)) (plain_of m1) there still (ap (λ (x : Map). head_at (plain_of x) (row_place t key)) same ∙ sym was)

pub no_table_moved : (m m1 : Map) (t : Bytes) → m1 ≡ m → IsNoTable (plain_of m) t → IsNoTable (plain_of m1) t
no_table_moved m m1 t same none = subst (λ (x : Map). IsNoTable (plain_of x) t) (sym same) none

-- a table that came, as the map before a reading says it
pub created_moved : {A E : Type 0} (m m1 : Map) (name : Bytes) (r : Result A E) (new : Plain) → m1 ≡ m
    → OnOk r (IsTables (with_table (tables_of (plain_of m1)) name (Some empty_table)) new) → OnOk r (IsTables (with_table (tables_of (plain_of m)) name (Some empty_table)) new)
created_moved m m1 name r new same h = subst (λ (x : Map). OnOk r (IsTables (with_table (tables_of (plain_of x)) name (Some empty_table)) new)) same h

pub refused_moved : {A : Type 0} (m m1 : Map) (name : Bytes) (r : Result A TableFault) (new : Plain) → m1 ≡ m
    → IfErr r (λ fault. IsLeftBy fault (tables_of (plain_of m1)) (with_table (tables_of (plain_of m1)) name (Some empty_table)) new)
    → IfErr r (λ fault. IsLeftBy fault (tables_of (plain_of m)) (with_table (tables_of (plain_of m)) name (Some empty_table)) new)
refused_moved m m1 name r new same h =
    subst (λ (x : Map). IfErr r (λ fault. IsLeftBy fault (tables_of (plain_of x)) (with_table (tables_of (plain_of x)) name (Some empty_table)) new)) same h

pub made_moved : (ts : List Tables) (m m1 : Map) (name : Bytes) → m1 ≡ m → IsIn (with_table (tables_of (plain_of m)) name (Some empty_table)) ts
    → IsIn (with_table (tables_of (plain_of m1)) name (Some empty_table)) ts
made_moved ts m m1 name same among = subst (λ (x : Map). IsIn (with_table (tables_of (plain_of x)) name (Some empty_table)) ts) (sym same) among

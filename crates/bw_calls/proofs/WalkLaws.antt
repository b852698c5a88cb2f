-- The rows of a table stand together in a store, in the order of its keys.

use Rattle.std.proofs.Common.{◌≡◌, ℕ, Bool, true, false, Option, Some, None, [], ◌∷◌, ◌++◌, length, refl, sym, ap, subst, ◌∙◌, cond, nat_eq}
use Rattle.std.specs.Prelude.{IsTrue}
use Rattle.std.specs.Option.{option_map}
use Rattle.std.proofs.lemmas.Bool.{eqb-true}
use Rattle.std.proofs.lemmas.List.{append-nil}
use Rattle.bw_record.specs.Keys.{is_below}
use Rattle.bw_record.proofs.Order.{Below, UpTo, above_beginning, must_be, upto-antisymm, upto-trans, upto_empty}
use Rattle.bw_leaf.specs.Changed.{Map}
use Rattle.bw_page.specs.Ahead.{IsFirst, IsFirstPair}
use Rattle.bw_rows.specs.Spelling.{Bytes, name_key, row_key, row_place, row_of}
use Rattle.bw_rows.specs.Meaning.{Plain, Table, found, table_in, tables_of, value_of}
use Rattle.bw_rows.specs.Laws.{IsLawful}
use Rattle.bw_rows.proofs.OrderLaws.{order, back}
use Rattle.bw_rows.proofs.TableLaws.{quiet_found}
use Rattle.bw_calls.specs.Walks.{rows_of, table_by, told, IsNextIn, IsRowOf}
use Rattle.bw_calls.proofs.PlainLaws.{plain_of, some_is}

-- no row is at or above the place, if no key of the store is
pub none_at : (p : Plain) (t from : Bytes) → ((q : Bytes) → is_below q (row_key (row_place t from)) ≡ false → p q ≡ None) → IsNextIn (Some (rows_of p t)) from None
none_at p t from none q upto = none (row_key (row_place t q)) (order t q from ∙ upto)

-- the first key of the store is that of a row
pub row_at : (p : Plain) (t from key value : Bytes) (pair : Bytes) → p pair ≡ Some value → is_below pair (row_key (row_place t from)) ≡ false
    → ((q : Bytes) → is_below q (row_key (row_place t from)) ≡ false → IsTrue (is_below q pair) → p q ≡ None)
    → pair ≡ row_key (row_place t key) → IsNextIn (Some (rows_of p t)) from (Some (key, value))
row_at p t from key value pair its upto none is = record {
  its = ap p (sym is) ∙ its;
  upto = sym (order t key from) ∙ ap (λ (k : Bytes). is_below k (row_key (row_place t from))) (sym is) ∙ upto;
  none = λ q from_q below. none (row_key (row_place t q)) (order t q from ∙ from_q)
      (ap (λ (k : Bytes). is_below (row_key (row_place t q)) k) is ∙ order t q key ∙ below);
}

-- the first key of the store is that of no row of the table: all of the table's are below it
pub no_row_at : (p : Plain) (t from pair : Bytes) → length t ≡ 2 → is_below pair (row_key (row_place t from)) ≡ false
    → ((q : Bytes) → is_below q (row_key (row_place t from)) ≡ false → IsTrue (is_below q pair) → p q ≡ None)
    → ((key : Bytes) → row_of pair ≡ Some (t, key) → ⊥) → IsNextIn (Some (rows_of p t)) from None
no_row_at p t from pair wide upto none other q from_q =
    let s = 8 ∷ t in
    let not_in : (rest : Bytes) → pair ≡ s ++ rest → ⊥ = λ rest is. other rest (ap row_of is ∙ back t rest wide) in
    let least : UpTo (row_key (row_place t [])) pair
    = upto-trans (row_key (row_place t [])) (row_key (row_place t from)) pair (order t from [] ∙ upto_empty from) upto in
    let begin : row_key (row_place t []) ≡ s = ap (λ (k : Bytes). 8 ∷ k) (append-nil t) in
    let above : Below s pair = must_be _ (λ f. not_in [] (upto-antisymm pair s f (subst (λ (k : Bytes). UpTo k pair) begin least) ∙ sym (append-nil s))) in
    none (row_key (row_place t q)) (order t q from ∙ from_q) (above_beginning s q pair above not_in)

-- ---- keys of rows

abbrev place_of : Option (Bytes × Bytes) → Bytes
place_of None = []
place_of (Some row) = 8 ∷ (row.0 ++ row.1)

row_if : (b : Bool) (kind high low : ℕ) (rest t key : Bytes) → nat_eq kind 8 ≡ b
    → ◌≡◌ {A = Option (Bytes × Bytes)} (cond b (Some (high ∷ low ∷ [], rest)) None) (Some (t, key)) → kind ∷ high ∷ low ∷ rest ≡ 8 ∷ (t ++ key)
row_if true kind high low rest t key is e = ap (λ (k : ℕ). k ∷ high ∷ low ∷ rest) (eqb-true kind 8 is) ∙ ap place_of e
row_if false kind high low rest t key is e = absurd (cc e)

row_back : (pair t key : Bytes) → row_of pair ≡ Some (t, key) → pair ≡ row_key (row_place t key)
row_back [] t key e = absurd (cc e)
row_back (a ∷ []) t key e = absurd (cc e)
row_back (a ∷ b ∷ []) t key e = absurd (cc e)
row_back (kind ∷ high ∷ low ∷ rest) t key e = row_if (nat_eq kind 8) kind high low rest t key refl e

-- ---- the first row, by what is there

pub row_none : (m : Map) (t from place : Bytes) (pair : Option (Bytes × Bytes)) → pair ≡ None → IsFirst m place pair
    → place ≡ row_key (row_place t from) → IsNextIn (Some (rows_of (plain_of m) t)) from None
row_none m t from place pair is first at =
    none_at (plain_of m) t from (subst (λ (k : Bytes). IsFirst m k None) at (subst (IsFirst m place) is first))

first_at : (m : Map) (t from place key row : Bytes) (pair : Option (Bytes × Bytes)) → pair ≡ Some (key, row) → IsFirst m place pair
    → place ≡ row_key (row_place t from) → IsFirstPair m (row_key (row_place t from)) (key, row)
first_at m t from place key row pair is first at =
    subst (λ (k : Bytes). IsFirstPair m k (key, row)) at (subst (IsFirst m place) is first)

-- it is a row of the table
pub row_some : (m : Map) (t from place key row shown row_key_in : Bytes) (pair : Option (Bytes × Bytes)) (its : Option Bytes) → pair ≡ Some (key, row)
    → IsFirst m place pair → place ≡ row_key (row_place t from) → shown ≡ key → its ≡ Some row_key_in → IsRowOf (row_of shown) t its
    → IsNextIn (Some (rows_of (plain_of m) t)) from (Some (row_key_in, row))
row_some m t from place key row shown row_key_in pair its is first at shows here told =
    let f = first_at m t from place key row pair is first at in
    let named : row_of key ≡ Some (t, row_key_in) = ap row_of (sym shows) ∙ subst (IsRowOf (row_of shown) t) here told in
    row_at (plain_of m) t from row_key_in row key f.its f.from f.none (row_back key t row_key_in named)

-- it is none
pub row_other : (m : Map) (t from place key row shown : Bytes) (pair : Option (Bytes × Bytes)) (its : Option Bytes) → length t ≡ 2 → pair ≡ Some (key, row)
    → IsFirst m place pair → place ≡ row_key (row_place t from) → shown ≡ key → its ≡ None → IsRowOf (row_of shown) t its
    → IsNextIn (Some (rows_of (plain_of m) t)) from None
row_other m t from place key row shown pair its wide is first at shows here told =
    let f = first_at m t from place key row pair is first at in
    let other : (k : Bytes) → row_of shown ≡ Some (t, k) → ⊥ = subst (IsRowOf (row_of shown) t) here told in
    no_row_at (plain_of m) t from key wide f.from f.none (λ k e. other k (ap row_of shows ∙ e))

-- ---- values

pub none_told : (p : Plain) (t from : Bytes) → IsNextIn (Some (rows_of p t)) from None → IsNextIn (Some (table_by p t)) from None
none_told p t from none q upto = ap (option_map (value_of p)) (none q upto)

pub pair_told : (m m1 : Map) (t from key row value : Bytes) → m1 ≡ m → IsNextIn (Some (rows_of (plain_of m) t)) from (Some (key, row))
    → value ≡ value_of (plain_of m1) row → IsNextIn (Some (table_by (plain_of m) t)) from (Some (key, value))
pair_told m m1 t from key row value same next is = record {
  its = ap (option_map (value_of (plain_of m))) next.its ∙ ap (λ (v : Bytes). Some v) (sym (is ∙ ap (λ (x : Map). value_of (plain_of x) row) same));
  upto = next.upto;
  none = λ q from_q below. ap (option_map (value_of (plain_of m))) (next.none q from_q below);
}

pub none_by : (p : Plain) (t from : Bytes) (row : Option (Bytes × Bytes)) → row ≡ None → IsNextIn (Some (rows_of p t)) from row
    → IsNextIn (Some (table_by p t)) from None
none_by p t from row is next = none_told p t from (subst (IsNextIn (Some (rows_of p t)) from) is next)

pair_by : (m m1 : Map) (t from key row shown value : Bytes) (r : Option (Bytes × Bytes)) → r ≡ Some (key, row)
    → IsNextIn (Some (rows_of (plain_of m) t)) from r → m1 ≡ m → shown ≡ row → value ≡ value_of (plain_of m1) shown
    → IsNextIn (Some (table_by (plain_of m) t)) from (Some (key, value))
pair_by m m1 t from key row shown value r is next same shows of_row =
    pair_told m m1 t from key row value same (subst (IsNextIn (Some (rows_of (plain_of m) t)) from) is next) (of_row ∙ ap (value_of (plain_of m1)) shows)

pub pair_is : (m m1 : Map) (t from key row : Bytes) (r pair : Option (Bytes × Bytes)) → r ≡ Some (key, row)
    → IsNextIn (Some (rows_of (plain_of m) t)) from r → m1 ≡ m → pair ≡ Some (key, value_of (plain_of m1) row)
    → IsNextIn (Some (table_by (plain_of m) t)) from pair
pair_is m m1 t from key row r pair is next same told_so =
    subst (IsNextIn (Some (table_by (plain_of m) t)) from) (sym told_so)
    (pair_by m m1 t from key row row (value_of (plain_of m1) row) r is next same refl refl)

-- ---- tables

abbrev some_table : Table → Option Table
some_table table = Some table

table_of_row : (p : Plain) (t : Bytes) (o : Option Bytes) → IsLawful p → option_map table_in o ≡ Some t
    → option_map {T = Bytes} {U = Table} (λ row key. found p (row_place (table_in row) key)) o ≡ Some (table_by p t)
table_of_row p t None lawful e = absurd (cc e)
table_of_row p t (Some row) lawful e =
    ap (λ (x : Bytes). some_table (λ key. found p (row_place x key))) (some_is (table_in row) t e)
    ∙ ap (λ (f : Table). Some f) (λ i key. quiet_found p (row_place t key) lawful.quiet i)

no_table_of : (p : Plain) (from : Bytes) (o : Option Bytes) → None ≡ option_map table_in o
    → IsNextIn (option_map {T = Bytes} {U = Table} (λ row key. found p (row_place (table_in row) key)) o) from None
no_table_of p from None e = refl
no_table_of p from (Some row) e = absurd (cc e)

pub in_tables : (m m1 : Map) (name t from : Bytes) (pair : Option (Bytes × Bytes)) → IsLawful (plain_of m) → m1 ≡ m
    → Some t ≡ option_map table_in (plain_of m (name_key name)) → IsNextIn (Some (table_by (plain_of m1) t)) from pair
    → IsNextIn (tables_of (plain_of m) name) from pair
in_tables m m1 name t from pair lawful same number next =
    let here : IsNextIn (Some (table_by (plain_of m) t)) from pair = subst (λ (x : Map). IsNextIn (Some (table_by (plain_of x) t)) from pair) same next in
    subst (λ (o : Option Table). IsNextIn o from pair) (sym (table_of_row (plain_of m) t (plain_of m (name_key name)) lawful (sym number))) here

-- a name that no table has
pub no_tables : (m : Map) (name from : Bytes) → None ≡ option_map table_in (plain_of m (name_key name)) → IsNextIn (tables_of (plain_of m) name) from None
no_tables m name from none = no_table_of (plain_of m) from (plain_of m (name_key name)) none

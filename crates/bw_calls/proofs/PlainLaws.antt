-- What a call makes of a plain map, step by step.

use Rattle.std.proofs.Common.{ℕ, zero, suc, ◌≡◌, ◌+◌, ◌⊎◌, inl, inr, Bool, true, false, cond, Option, Some, None, is_some, List, [], ◌∷◌, ◌++◌, length, take, refl, sym, ap, subst, ◌∙◌, nat_eq, eq-eqb, ◌&&◌}
use Rattle.std.specs.Prelude.{Result, Ok, Err, OnOk, OnErr, IfOk, IfErr}
use Rattle.std.specs.List.{fold, starts_with}
use Rattle.std.specs.Option.{option_map, option_and_then}
use lib.Pointwise.{pointwise}
use Rattle.std.specs.FinMap as finite
use Rattle.std.proofs.lemmas.List.Sums.{fold_push, fold-append}
use Rattle.bw_record.specs.declared.record.Record.{Record}
use Rattle.bw_record.specs.declared.record.Record.TheVariants.{Put, Del}
use Rattle.bw_leaf.specs.Changed.{Map, changed_map}
use Rattle.bw_leaf.proofs.Sorted.{get-changed}
use Rattle.bw_rows.specs.Spelling.{Bytes, name_key, doomed_key, row_key, row_place, chunk_key, chunk_place, head_of, chunks_in}
use Rattle.bw_rows.specs.declared.names.TableNumber.{TableNumber}
use Rattle.bw_rows.specs.Meaning.{Plain, Table, Tables, chunks_of, joined, or_nothing, found, value_by, value_of, tables_of, table_in, with_value}
use Rattle.bw_rows.specs.Law.{head_at, is_doomed}
use Rattle.bw_rows.specs.Steps.{changed, after}
use Rattle.bw_rows.specs.Batches.{HasOthers}
use Rattle.bw_rows.specs.Laws.{IsLawful, IsTables, IsUnnamed, HasNumber, HasNoChunk}
use Rattle.bw_rows.proofs.TableLaws.{quiet_found, chunk_law, fresh_law}
use Rattle.bw_tables.specs.Writing.{chunk_record, chunk_records, taking, IsWriting}
use Rattle.bw_tables.specs.Calls.{Begins, GoesOn, MakesShort, MakesLong, Frees}
use Rattle.bw_calls.specs.Changes.{value_at, IsSet, IsCollecting, HasSame}

-- ---- maps

abbrev pub plain_of : Map → Plain
plain_of m q = finite.get m q

one_change : (m : Map) (r : Record) → plain_of (changed_map m r) ≡ changed (plain_of m) r
one_change m (Put key value) = λ i q. get-changed m (Put key value) q i
one_change m (Del key) = λ i q. get-changed m (Del key) q i

-- a group does to a map what its records do to the plain one
pub all_changes : (m : Map) (group : List Record) → plain_of (fold changed_map m group) ≡ after (plain_of m) group
all_changes m [] = refl
all_changes m (r ∷ group) = all_changes (changed_map m r) group ∙ ap (λ (p : Plain). after p group) (one_change m r)

-- ---- tables

-- a lawful map stands for its tables
pub itself : (p : Plain) → IsLawful p → IsTables (tables_of p) p
itself p lawful = record { lawful = lawful; its = refl }

pub stays : (p q : Plain) → IsLawful p → q ≡ p → IsTables (tables_of p) q
stays p q lawful same = subst (IsTables (tables_of p)) (sym same) (itself p lawful)

-- what a call without a step left, or its group
pub kept_by : (tables : Tables) (p q new : Plain) → IsTables tables p → IsTables tables q → (new ≡ p) ⊎ (new ≡ q) → IsTables tables new
kept_by tables p q new h g (inl e) = subst (IsTables tables) (sym e) h
kept_by tables p q new h g (inr e) = subst (IsTables tables) (sym e) g

-- what a step left that was refused
pub left_by : (was now : Tables) (p q new : Plain) (b : Bool) → IsTables was p → IsTables now q → new ≡ cond b q p → IsTables (cond b now was) new
left_by was now p q new true h g e = subst (IsTables now) (sym e) g
left_by was now p q new false h g e = subst (IsTables was) (sym e) h

-- before the step a refusal leaves the tables
pub left_before : (was now : Tables) (p : Plain) (b : Bool) → b ≡ false → IsTables was p → IsTables (cond b now was) p
left_before was now p b before h = subst (λ (x : Bool). IsTables (cond x now was) p) (sym before) h

-- and so does what follows a step
pub behind : (tables : Tables) (p new : Plain) → IsTables tables p → IsTables (tables_of p) new → IsTables tables new
behind tables p new h g = subst (λ (t : Tables). IsTables t new) h.its g

-- ---- one value

pub some_is : (a b : Bytes) → ◌≡◌ {A = Option Bytes} (Some a) (Some b) → a ≡ b
some_is a b e = ap (λ (o : Option Bytes). elim o as (λ _. Bytes) [ None ↦ a | Some x ↦ x ]) e

got_by : (p : Plain) (t key : Bytes) (o : Option Bytes) → IsLawful p → option_map table_in o ≡ Some t
    → option_and_then (λ (table : Table). table key) (option_map {T = Bytes} {U = Table} (λ row q. found p (row_place (table_in row) q)) o) ≡ option_map (value_of p) (p (row_key (row_place t key)))
got_by p t key None lawful e = absurd (cc e)
got_by p t key (Some row) lawful e =
    ap (λ (x : Bytes). found p (row_place x key)) (some_is (table_in row) t e) ∙ quiet_found p (row_place t key) lawful.quiet

-- the value of a key is what its row stands for
pub got : (p : Plain) (name t key : Bytes) → IsLawful p → HasNumber p name t
    → value_at (tables_of p) name key ≡ option_map (value_of p) (p (row_key (row_place t key)))
got p name t key lawful its = got_by p t key (p (name_key name)) lawful its

none_by : (p : Plain) (key : Bytes) (o : Option Bytes) → option_map table_in o ≡ None
    → option_and_then (λ (table : Table). table key) (option_map {T = Bytes} {U = Table} (λ row q. found p (row_place (table_in row) q)) o) ≡ None
none_by p key None e = refl
none_by p key (Some row) e = absurd (cc e)

-- a table that is not there has no value
pub no_value : (p : Plain) (name key : Bytes) → option_map table_in (p (name_key name)) ≡ None → value_at (tables_of p) name key ≡ None
no_value p name key none = none_by p key (p (name_key name)) none

-- what was read of a key whose row is there
pub value_told : (m m1 m2 : Map) (name t key k row shown value : Bytes) (answer : Option Bytes) → IsLawful (plain_of m) → m1 ≡ m → m2 ≡ m1
    → Some t ≡ option_map table_in (plain_of m (name_key name)) → answer ≡ Some row → answer ≡ plain_of m1 k → k ≡ row_key (row_place t key)
    → shown ≡ row → value ≡ value_of (plain_of m2) shown → Some value ≡ value_at (tables_of (plain_of m)) name key
value_told m m1 m2 name t key k row shown value answer lawful same again number is told its shows e =
    let there : plain_of m (row_key (row_place t key)) ≡ Some row
    = ap (λ (x : Map). plain_of x (row_key (row_place t key))) (sym same) ∙ ap (plain_of m1) (sym its) ∙ sym told ∙ is in
    let told_so : value ≡ value_of (plain_of m) row = e ∙ ap (λ (x : Map). value_of (plain_of x) shown) (again ∙ same) ∙ ap (value_of (plain_of m)) shows in
    ap (λ (v : Bytes). Some v) told_so ∙ ap (option_map (value_of (plain_of m))) (sym there) ∙ sym (got (plain_of m) name t key lawful (sym number))

-- a number whose first chunk is not there
pub unnamed_told : (m m1 : Map) (n k : Bytes) (answer : Option Bytes) → IsLawful (plain_of m) → m1 ≡ m → answer ≡ None → answer ≡ plain_of m1 k
    → k ≡ chunk_key (chunk_place n 0) → IsUnnamed (plain_of m) n
unnamed_told m m1 n k answer lawful same is told its =
    fresh_law (plain_of m) n lawful.values (ap (λ (x : Map). plain_of x (chunk_key (chunk_place n 0))) (sym same) ∙ ap (plain_of m1) (sym its) ∙ sym told ∙ is)

-- ---- chunks that go away

self_pointwise : (n : Bytes) → pointwise nat_eq n n ≡ true
self_pointwise [] = refl
self_pointwise (x ∷ n) = ap (λ b. b && pointwise nat_eq n n) (eq-eqb x x refl) ∙ self_pointwise n

-- no key that begins so has a value: no chunk has the number
pub none_left : (p : Plain) (n : Bytes) → length n ≡ 8 → ((q : Bytes) → starts_with nat_eq q (7 ∷ n) ≡ true → p q ≡ None) → HasNoChunk p n
none_left p n wide none c its =
    ap is_some (none (7 ∷ c) (ap (λ (x : Bytes). pointwise nat_eq n x) (ap (λ (k : ℕ). take k c) wide ∙ its) ∙ self_pointwise n))

pub chunk_goes : (p : Plain) (n : Bytes) (i : ℕ) → length n ≡ 8 → IsLawful p → is_doomed p n ≡ true
    → IsTables (tables_of p) (after p (Del (chunk_key (chunk_place n i)) ∷ []))
chunk_goes p n i wide lawful doomed = chunk_law (tables_of p) p n i None wide (itself p lawful) doomed

pub still_doomed : (p new : Plain) (n place : Bytes) → is_doomed p n ≡ true → (new ≡ p) ⊎ (new ≡ after p (Del (chunk_key place) ∷ [])) → is_doomed new n ≡ true
still_doomed p new n place doomed (inl e) = ap (λ (q : Plain). is_doomed q n) e ∙ doomed
still_doomed p new n place doomed (inr e) = ap (λ (q : Plain). is_doomed q n) e ∙ doomed

-- ---- chunks that come

chunks_keep : (p : Plain) (n value q : Bytes) (i k : ℕ) → after p (chunk_records n value i k) (row_key q) ≡ p (row_key q)
chunks_keep p n value q i zero = refl
chunks_keep p n value q i (suc k) =
    ap (λ (f : Plain). f (row_key q)) (fold_push changed p (chunk_records n value i k) (chunk_record n value (i + k))) ∙ chunks_keep p n value q i k

chunks_name : (p : Plain) (n value q : Bytes) (i k : ℕ) → after p (chunk_records n value i k) (name_key q) ≡ p (name_key q)
chunks_name p n value q i zero = refl
chunks_name p n value q i (suc k) =
    ap (λ (f : Plain). f (name_key q)) (fold_push changed p (chunk_records n value i k) (chunk_record n value (i + k))) ∙ chunks_name p n value q i k

pub chunks_same : (p new : Plain) (n value : Bytes) (i k : ℕ) (group : List Record) → group ≡ chunk_records n value i k → new ≡ after p group → HasSame p new
chunks_same p new n value i k group is e = record {
  names = λ q. ap (λ (f : Plain). f (name_key q)) (e ∙ ap (after p) is) ∙ chunks_name p n value q i k;
  rows = λ q. ap (λ (f : Plain). f (row_key q)) (e ∙ ap (after p) is) ∙ chunks_keep p n value q i k;
}

pub taken_same : (p new : Plain) (n value : Bytes) (k : ℕ) (group : List Record) → group ≡ taking n ++ chunk_records n value 0 k → new ≡ after p group → HasSame p new
taken_same p new n value k group is e =
    let whole : new ≡ after (after p (taking n)) (chunk_records n value 0 k) = e ∙ ap (after p) is ∙ fold-append changed p (taking n) (chunk_records n value 0 k) in
    record {
      names = λ q. ap (λ (f : Plain). f (name_key q)) whole ∙ chunks_name (after p (taking n)) n value q 0 k;
      rows = λ q. ap (λ (f : Plain). f (row_key q)) whole ∙ chunks_keep (after p (taking n)) n value q 0 k;
    }

pub same_then : (p q r : Plain) → HasSame p q → HasSame q r → HasSame p r
same_then p q r a b = record {
  names = λ name. b.names name ∙ a.names name;
  rows = λ k. b.rows k ∙ a.rows k;
}

pub same_here : (p new : Plain) → new ≡ p → HasSame p new
same_here p new e = record {
  names = λ name. ap (λ (f : Plain). f (name_key name)) e;
  rows = λ k. ap (λ (f : Plain). f (row_key k)) e;
}

pub same_number : (p new : Plain) (name t : Bytes) → HasSame p new → HasNumber p name t → HasNumber new name t
same_number p new name t same its = ap (option_map table_in) (same.names name) ∙ its

pub same_head : (p new : Plain) (k : Bytes) → HasSame p new → head_at new k ≡ head_at p k
same_head p new k same = ap (option_and_then head_of) (same.rows k)

-- ---- the step

pub set_short : (p new : Plain) (t key : Bytes) (value : Option Bytes) (old : Option (Bytes × ℕ)) (group : List Record) → IsLawful p
    → MakesShort t key value old group → old ≡ head_at p (row_place t key) → new ≡ after p group → IsSet p t key value new
set_short p new t key value old group lawful makes was e name its =
    subst (IsTables (with_value (tables_of p) name key value)) (sym e) (makes (tables_of p) p name (itself p lawful) its (sym was))

pub set_long : (p mid new : Plain) (t key n value : Bytes) (old : Option (Bytes × ℕ)) (group : List Record)
    → IsWriting (tables_of p) mid n value (chunks_in (length value)) → HasSame p mid
    → MakesLong t key n value old group → old ≡ head_at mid (row_place t key) → new ≡ after mid group → IsSet p t key (Some value) new
set_long p mid new t key n value old group writing same makes was e name its =
    subst (IsTables (with_value (tables_of p) name key (Some value))) (sym e)
    (makes (tables_of p) mid name writing (same_number p mid name t same its) (sym was))

-- what follows a step
pub set_behind : (p q new : Plain) (t key : Bytes) (value : Option Bytes) → IsSet p t key value q → (IsLawful q → IsTables (tables_of q) new) → IsSet p t key value new
set_behind p q new t key value set after_it name its =
    let there : IsTables (with_value (tables_of p) name key value) q = set name its in
    behind (with_value (tables_of p) name key value) q new there (after_it there.lawful)

-- ---- by the answer of the store

-- a group that was written, or refused
pub wrote : {A E : Type 0} (r : Result A E) (p q new : Plain) → OnOk r (new ≡ q) → IfErr r (λ e. (new ≡ p) ⊎ (new ≡ q)) → (new ≡ p) ⊎ (new ≡ q)
wrote (Ok x) p q new ok err = inr ok
wrote (Err e) p q new ok err = err

pub dropped : {A E : Type 0} (p new : Plain) (n : Bytes) (i : ℕ) (group : List Record) (r : Result A E) → length n ≡ 8 → group ≡ Del (chunk_key (chunk_place n i)) ∷ []
    → IsLawful p → is_doomed p n ≡ true → OnOk r (new ≡ after p group) → IfErr r (λ e. (new ≡ p) ⊎ (new ≡ after p group))
    → IsCollecting (tables_of p) new n
dropped p new n i group r wide is lawful doomed ok err =
    let which : (new ≡ p) ⊎ (new ≡ after p (Del (chunk_key (chunk_place n i)) ∷ []))
    = subst (λ (gr : List Record). (new ≡ p) ⊎ (new ≡ after p gr)) is (wrote r p (after p group) new ok err) in
    record {
      stays = kept_by (tables_of p) p (after p (Del (chunk_key (chunk_place n i)) ∷ [])) new (itself p lawful) (chunk_goes p n i wide lawful doomed) which;
      doomed = still_doomed p new n (chunk_place n i) doomed which;
    }

pub freed : {A E : Type 0} (p new : Plain) (n : Bytes) (group : List Record) (r : Result A E) → Frees n group → IsLawful p → HasNoChunk p n
    → OnOk r (new ≡ after p group) → IfErr r (λ e. (new ≡ p) ⊎ (new ≡ after p group)) → IsTables (tables_of p) new
freed p new n group r frees lawful none ok err =
    kept_by (tables_of p) p (after p group) new (itself p lawful) (frees (tables_of p) p (itself p lawful) none) (wrote r p (after p group) new ok err)

pub begun : {A E : Type 0} (p new : Plain) (n value : Bytes) (to : ℕ) (group : List Record) (r : Result A E) → Begins n value to group → IsLawful p → IsUnnamed p n
    → OnOk r (new ≡ after p group) → OnOk r (IsWriting (tables_of p) new n value to)
begun p new n value to group (Ok x) begins lawful unnamed ok =
    subst (λ (q : Plain). IsWriting (tables_of p) q n value to) (sym ok) (begins (tables_of p) p (itself p lawful) unnamed)
begun p new n value to group (Err e) begins lawful unnamed ok = tt

pub begun_in_vain : {A E : Type 0} (p new : Plain) (n value : Bytes) (to : ℕ) (group : List Record) (r : Result A E) → Begins n value to group → IsLawful p → IsUnnamed p n
    → OnOk r (new ≡ after p group) → IfErr r (λ e. (new ≡ p) ⊎ (new ≡ after p group)) → OnErr r (IsTables (tables_of p) new)
begun_in_vain p new n value to group (Ok x) begins lawful unnamed ok err = tt
begun_in_vain p new n value to group (Err e) begins lawful unnamed ok err =
    let written : IsWriting (tables_of p) (after p group) n value to = begins (tables_of p) p (itself p lawful) unnamed in
    kept_by (tables_of p) p (after p group) new (itself p lawful) written.stays err

pub begun_same : {A E : Type 0} (p new : Plain) (n value : Bytes) (to : ℕ) (group : List Record) (r : Result A E) → group ≡ taking n ++ chunk_records n value 0 to
    → OnOk r (new ≡ after p group) → OnOk r (HasSame p new)
begun_same p new n value to group (Ok x) is ok = taken_same p new n value to group is ok
begun_same p new n value to group (Err e) is ok = tt

pub gone_on : {A E : Type 0} (tables : Tables) (p new : Plain) (n value : Bytes) (from to : ℕ) (group : List Record) (r : Result A E) → GoesOn n value from to group
    → IsWriting tables p n value from → OnOk r (new ≡ after p group) → OnOk r (IsWriting tables new n value to)
gone_on tables p new n value from to group (Ok x) goes h ok = subst (λ (q : Plain). IsWriting tables q n value to) (sym ok) (goes tables p h)
gone_on tables p new n value from to group (Err e) goes h ok = tt

pub gone_on_in_vain : {A E : Type 0} (tables : Tables) (p new : Plain) (n value : Bytes) (from to : ℕ) (group : List Record) (r : Result A E) → GoesOn n value from to group
    → IsWriting tables p n value from → OnOk r (new ≡ after p group) → IfErr r (λ e. (new ≡ p) ⊎ (new ≡ after p group)) → OnErr r (IsTables tables new)
gone_on_in_vain tables p new n value from to group (Ok x) goes h ok err = tt
gone_on_in_vain tables p new n value from to group (Err e) goes h ok err =
    let written : IsWriting tables (after p group) n value to = goes tables p h in
    kept_by tables p (after p group) new h.stays written.stays err

pub gone_on_same : {A E : Type 0} (p new : Plain) (n value : Bytes) (i k : ℕ) (group : List Record) (r : Result A E) → group ≡ chunk_records n value i k
    → OnOk r (new ≡ after p group) → OnOk r (HasSame p new)
gone_on_same p new n value i k group (Ok x) is ok = chunks_same p new n value i k group is ok
gone_on_same p new n value i k group (Err e) is ok = tt

-- the tables of a map that is lawful are given by it
pub writing_as : (tables : Tables) (p new : Plain) (n value : Bytes) (to : ℕ) → IsTables tables p → IsWriting (tables_of p) new n value to → IsWriting tables new n value to
writing_as tables p new n value to h w = subst (λ (t : Tables). IsWriting t new n value to) h.its w

-- a step that was refused
pub not_set : (p new : Plain) (t key : Bytes) (value : Option Bytes) (old : Option (Bytes × ℕ)) (group : List Record) (b : Bool) → IsLawful p
    → MakesShort t key value old group → old ≡ head_at p (row_place t key) → new ≡ cond b (after p group) p
    → (name : Bytes) → HasNumber p name t → IsTables (cond b (with_value (tables_of p) name key value) (tables_of p)) new
not_set p new t key value old group b lawful makes was e name its =
    left_by (tables_of p) (with_value (tables_of p) name key value) p (after p group) new b (itself p lawful) (makes (tables_of p) p name (itself p lawful) its (sym was)) e

pub not_set_long : (p mid new : Plain) (t key n value : Bytes) (old : Option (Bytes × ℕ)) (group : List Record) (b : Bool)
    → IsWriting (tables_of p) mid n value (chunks_in (length value)) → HasSame p mid
    → MakesLong t key n value old group → old ≡ head_at mid (row_place t key) → new ≡ cond b (after mid group) mid
    → (name : Bytes) → HasNumber p name t → IsTables (cond b (with_value (tables_of p) name key (Some value)) (tables_of p)) new
not_set_long p mid new t key n value old group b writing same makes was e name its =
    left_by (tables_of p) (with_value (tables_of p) name key (Some value)) mid (after mid group) new b writing.stays
    (makes (tables_of p) mid name writing (same_number p mid name t same its) (sym was)) e

-- ---- a home that was read

-- what was put is as it was
pub moved : (tables : Tables) (m new : Map) → IsTables tables (plain_of m) → new ≡ m → IsTables tables (plain_of new)
moved tables m new h same = subst (λ (x : Map). IsTables tables (plain_of x)) (sym same) h

-- chunks are being written, up to this one
pub record Adding (start p : Plain) (n value : Bytes) (from at : ℕ) : Type 0 where
  pub writing : (tables : Tables) → IsWriting tables start n value from → IsWriting tables p n value at
  pub same : HasSame start p
  pub others : HasOthers n start p

-- chunks are being joined, up to this one
pub record Joining (start m : Map) (n value : Bytes) (i : ℕ) : Type 0 where
  pub same : m ≡ start
  pub its : value ≡ joined (chunks_of (plain_of start) n) i

pub joining_more : (start m new : Map) (n value more : Bytes) (i next : ℕ) → next ≡ suc i → Joining start m n value i → new ≡ m
    → more ≡ value ++ or_nothing (chunks_of (plain_of m) n i) → Joining start new n more next
joining_more start m new n value more i next counts j same added = subst (Joining start new n more) (sym counts) record {
  same = same ∙ j.same;
  its = added ∙ ap (λ (v : Bytes). v ++ or_nothing (chunks_of (plain_of m) n i)) j.its
      ∙ ap (λ (x : Map). joined (chunks_of (plain_of start) n) i ++ or_nothing (chunks_of (plain_of x) n i)) j.same;
}

-- by an answer that is Ok
pub ok_map : {A E : Type 0} {P Q : A → Type 0} (r : Result A E) → ((x : A) → P x → Q x) → IfOk r P → IfOk r Q
ok_map (Ok x) f h = f x h
ok_map (Err e) f h = tt

pub on_err : {A E : Type 0} {P : Type 0} (r : Result A E) → P → OnErr r P
on_err (Ok x) h = tt
on_err (Err e) h = h

pub if_err : {A E : Type 0} {P : E → Type 0} (r : Result A E) → ((e : E) → P e) → IfErr r P
if_err (Ok x) h = tt
if_err (Err e) h = h e

-- a long value is what its row stands for
pub told_value : (p : Plain) (row n value : Bytes) (len count : ℕ) → head_of row ≡ Some (n, len) → count ≡ chunks_in len → value ≡ joined (chunks_of p n) count
    → value ≡ value_of p row
told_value p row n value len count names counts is = is ∙ ap (joined (chunks_of p n)) counts ∙ sym (ap (value_by p row) names)

pub err_map : {A E : Type 0} {P Q : E → Type 0} (r : Result A E) → ((e : E) → P e → Q e) → IfErr r P → IfErr r Q
err_map (Ok x) f h = tt
err_map (Err e) f h = f e h

-- ---- a step after a reading

pub set_at : (m m1 : Map) (new : Plain) (t key : Bytes) (value : Option Bytes) (old : Option (Bytes × ℕ)) (group : List Record) → m1 ≡ m → IsLawful (plain_of m)
    → MakesShort t key value old group → old ≡ head_at (plain_of m) (row_place t key) → new ≡ after (plain_of m1) group → IsSet (plain_of m) t key value new
set_at m m1 new t key value old group same lawful makes was e =
    set_short (plain_of m) new t key value old group lawful makes was (e ∙ ap (λ (x : Map). after (plain_of x) group) same)

pub not_set_at : (m m1 : Map) (new : Plain) (t key : Bytes) (value : Option Bytes) (old : Option (Bytes × ℕ)) (group : List Record) (b : Bool) → m1 ≡ m → IsLawful (plain_of m)
    → MakesShort t key value old group → old ≡ head_at (plain_of m) (row_place t key) → new ≡ cond b (after (plain_of m1) group) (plain_of m1)
    → (name : Bytes) → HasNumber (plain_of m) name t → IsTables (cond b (with_value (tables_of (plain_of m)) name key value) (tables_of (plain_of m))) new
not_set_at m m1 new t key value old group b same lawful makes was e =
    not_set (plain_of m) new t key value old group b lawful makes was (e ∙ ap (λ (x : Map). cond b (after (plain_of x) group) (plain_of x)) same)

-- a change that was refused before its step
pub not_begun : (m m1 : Map) (t key : Bytes) (value : Option Bytes) (b : Bool) → b ≡ false → IsLawful (plain_of m) → m1 ≡ m
    → (name : Bytes) → HasNumber (plain_of m) name t → IsTables (cond b (with_value (tables_of (plain_of m)) name key value) (tables_of (plain_of m))) (plain_of m1)
not_begun m m1 t key value b before lawful same name its =
    left_before _ _ (plain_of m1) b before (moved _ m m1 (itself (plain_of m) lawful) same)

-- ---- a value that was written

pub tables_from : (m m1 : Map) (new : Plain) → m1 ≡ m → IsTables (tables_of (plain_of m1)) new → IsTables (tables_of (plain_of m)) new
tables_from m m1 new same h = subst (λ (x : Map). IsTables (tables_of (plain_of x)) new) same h

pub unnamed_from : (m m1 : Map) (n : Bytes) → m1 ≡ m → IsUnnamed (plain_of m) n → IsUnnamed (plain_of m1) n
unnamed_from m m1 n same h = subst (λ (x : Map). IsUnnamed (plain_of x) n) (sym same) h

pub writing_self : (tables : Tables) (p : Plain) (n value : Bytes) (k : ℕ) → IsWriting tables p n value k → IsWriting (tables_of p) p n value k
writing_self tables p n value k h = subst (λ (t : Tables). IsWriting t p n value k) (sym h.stays.its) h

pub all_written : (m m1 : Map) (p new : Plain) (n value : Bytes) (k to count : ℕ) → m1 ≡ m → to ≡ count → IsWriting (tables_of (plain_of m1)) p n value k
    → IsWriting (tables_of p) new n value to → IsWriting (tables_of (plain_of m)) new n value count
all_written m m1 p new n value k to count same counts begun all =
    let one : IsWriting (tables_of (plain_of m1)) new n value to = writing_as (tables_of (plain_of m1)) p new n value to begun.stays all in
    let two : IsWriting (tables_of (plain_of m)) new n value to = subst (λ (x : Map). IsWriting (tables_of (plain_of x)) new n value to) same one in
    subst (IsWriting (tables_of (plain_of m)) new n value) counts two

pub in_vain : (m m1 : Map) (p new : Plain) (n value : Bytes) (k : ℕ) → m1 ≡ m → IsWriting (tables_of (plain_of m1)) p n value k → IsTables (tables_of p) new
    → IsTables (tables_of (plain_of m)) new
in_vain m m1 p new n value k same begun stays = tables_from m m1 new same (behind (tables_of (plain_of m1)) p new begun.stays stays)

pub all_same : (m m1 : Map) (p new : Plain) → m1 ≡ m → HasSame (plain_of m1) p → HasSame p new → HasSame (plain_of m) new
all_same m m1 p new same a b = subst (λ (x : Map). HasSame (plain_of x) new) same (same_then (plain_of m1) p new a b)

-- ---- a long value

pub set_long_at : (p : Plain) (m m1 : Map) (new : Plain) (t key n value : Bytes) (old : Option (Bytes × ℕ)) (group : List Record) → m1 ≡ m
    → IsWriting (tables_of p) (plain_of m) n value (chunks_in (length value)) → HasSame p (plain_of m)
    → MakesLong t key n value old group → old ≡ head_at (plain_of m) (row_place t key) → new ≡ after (plain_of m1) group → IsSet p t key (Some value) new
set_long_at p m m1 new t key n value old group same writing rows makes was e =
    set_long p (plain_of m) new t key n value old group writing rows makes was (e ∙ ap (λ (x : Map). after (plain_of x) group) same)

pub not_set_long_at : (p : Plain) (m m1 : Map) (new : Plain) (t key n value : Bytes) (old : Option (Bytes × ℕ)) (group : List Record) (b : Bool) → m1 ≡ m
    → IsWriting (tables_of p) (plain_of m) n value (chunks_in (length value)) → HasSame p (plain_of m)
    → MakesLong t key n value old group → old ≡ head_at (plain_of m) (row_place t key) → new ≡ cond b (after (plain_of m1) group) (plain_of m1)
    → (name : Bytes) → HasNumber p name t → IsTables (cond b (with_value (tables_of p) name key (Some value)) (tables_of p)) new
not_set_long_at p m m1 new t key n value old group b same writing rows makes was e =
    not_set_long p (plain_of m) new t key n value old group b writing rows makes was (e ∙ ap (λ (x : Map). cond b (after (plain_of x) group) (plain_of x)) same)

-- a long put that was refused before its step
pub not_long : (p new : Plain) (t key : Bytes) (value : Option Bytes) (b : Bool) → b ≡ false → IsTables (tables_of p) new
    → (name : Bytes) → HasNumber p name t → IsTables (cond b (with_value (tables_of p) name key value) (tables_of p)) new
not_long p new t key value b before h name its = left_before _ _ new b before h

-- ---- by the name

number_is : (m : Map) (name t : Bytes) → Some t ≡ option_map table_in (plain_of m (name_key name)) → HasNumber (plain_of m) name t
number_is m name t e = sym e

pub set_by : (m m1 : Map) (name t key : Bytes) (value : Option Bytes) (new : Plain) → m1 ≡ m → Some t ≡ option_map table_in (plain_of m (name_key name))
    → IsSet (plain_of m1) t key value new → IsTables (with_value (tables_of (plain_of m)) name key value) new
set_by m m1 name t key value new same e set =
    let there : IsSet (plain_of m) t key value new = subst (λ (x : Map). IsSet (plain_of x) t key value new) same set in
    there name (number_is m name t e)

pub number_told : (answer : Option TableNumber) (table : TableNumber) (m : Map) (name : Bytes) → answer ≡ Some table
    → option_map (λ (t : TableNumber). t.bytes) answer ≡ option_map table_in (plain_of m (name_key name)) → Some table.bytes ≡ option_map table_in (plain_of m (name_key name))
number_told answer table m name is e = ap (option_map (λ (t : TableNumber). t.bytes)) (sym is) ∙ e

-- ---- what is said of lawful maps only

pub collecting_moved : (tables : Tables) (m new : Map) (n : Bytes) → IsCollecting tables (plain_of m) n → new ≡ m → IsCollecting tables (plain_of new) n
collecting_moved tables m new n h same = subst (λ (x : Map). IsCollecting tables (plain_of x) n) (sym same) h

pub collecting_behind : (tables : Tables) (p new : Plain) (n : Bytes) → IsCollecting tables p n → (IsLawful p → is_doomed p n ≡ true → IsCollecting (tables_of p) new n) → IsCollecting tables new n
collecting_behind tables p new n h next = subst (λ (t : Tables). IsCollecting t new n) h.stays.its (next h.stays.lawful h.doomed)

pub no_chunk_moved : (m new : Map) (n : Bytes) → HasNoChunk (plain_of m) n → new ≡ m → HasNoChunk (plain_of new) n
no_chunk_moved m new n h same = subst (λ (x : Map). HasNoChunk (plain_of x) n) (sym same) h

pub lawful_moved : (m new : Map) → IsLawful (plain_of m) → new ≡ m → IsLawful (plain_of new)
lawful_moved m new h same = subst (λ (x : Map). IsLawful (plain_of x)) (sym same) h

pub doomed_by : (m new : Map) (n key value : Bytes) (answer : Option Bytes) → answer ≡ Some value → answer ≡ plain_of m key → key ≡ doomed_key n → new ≡ m
    → is_doomed (plain_of new) n ≡ true
doomed_by m new n key value answer is told its same =
    ap (λ (x : Map). is_doomed (plain_of x) n) same ∙ ap (λ (k : Bytes). is_some (plain_of m k)) (sym its) ∙ ap is_some (sym told ∙ is)

pub written_from : (m m1 : Map) (new : Plain) (n value : Bytes) (to count : ℕ) → m1 ≡ m → to ≡ count → IsWriting (tables_of (plain_of m1)) new n value to
    → IsWriting (tables_of (plain_of m)) new n value count
written_from m m1 new n value to count same counts h =
    subst (IsWriting (tables_of (plain_of m)) new n value) counts (subst (λ (x : Map). IsWriting (tables_of (plain_of x)) new n value to) same h)

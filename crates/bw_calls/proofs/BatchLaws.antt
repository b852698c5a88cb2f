-- What each call of a batch makes of a plain map.

use Rattle.std.proofs.Common.{ℕ, ◌≡◌, ◌+◌, ◌<◌, ◌⊎◌, inl, inr, Bool, true, false, cond, Option, Some, None, is_some, List, [], ◌∷◌, ◌++◌, length, take, get_or, add-one, refl, sym, ap, subst, ◌∙◌, nat_eq, ◌&&◌, arith}
use Rattle.std.specs.Prelude.{IsTrue, Result, Ok, Err, OnOk, IfErr}
use Rattle.std.specs.List.{starts_with}
use Rattle.std.specs.Option.{option_map}
use Rattle.std.proofs.lemmas.Bool.{true≢false, eqb-true}
use Rattle.std.proofs.Math.Seq.{take-suc}
use Rattle.std.proofs.lemmas.List.Sums.{fold_push}
use Rattle.bw_record.specs.declared.record.Record.{Record}
use Rattle.bw_record.specs.declared.record.Record.TheVariants.{Put, Del}
use Rattle.bw_leaf.specs.Changed.{Map}
use Rattle.bw_rows.specs.Spelling.{Bytes, name_key, stands_key, aside_key, aside_of, row_place, chunk_of, head_of, head_row, no_row, whole_row, chunks_in}
use Rattle.bw_rows.specs.Meaning.{Plain, Tables, chunks_of, joined, value_by, tables_of, table_in, with_value}
use Rattle.bw_rows.specs.Law.{head_at, is_doomed}
use Rattle.bw_rows.specs.Steps.{after, head_in}
use Rattle.bw_rows.specs.Laws.{IsLawful, IsTables}
use Rattle.bw_rows.specs.Batches.{said, FitsAside, HasNoAside, HasOthers, IsGathering, IsLeft, IsNotAside, IsStanding}
use Rattle.bw_rows.proofs.Values.{same_number as same_head_number}
use Rattle.bw_rows.proofs.BatchLaws.{aside_law}
use Rattle.bw_rows.proofs.GatherLaws.{fresh_aside_law, nothing_law, number_law}
use Rattle.bw_rows.proofs.ChunkLaws.{all_joined}
use Rattle.bw_tables.specs.Writing.{IsWriting}
use Rattle.bw_tables.specs.Calls.{CarriesOut, EndsBatch, MakesBatch, SetsAside}
use Rattle.bw_calls.specs.Batches.{bytes_in, with_change, with_changes, Gathers, LeftBy}
use Rattle.bw_calls.specs.Changes.{HasSame, HasSameMarks, IsFirstOf}
use Rattle.bw_calls.specs.declared.batching.Change.{Change}
use Rattle.bw_calls.proofs.PlainLaws.{plain_of, itself, kept_by, same_number, writing_as, wrote}
use Rattle.bw_calls.proofs.LeaveLaws.{number_moved}
use Rattle.bw_calls.proofs.OtherLaws.{on_then}

-- ---- rows aside that are there

and_first : (a b : Bool) → (a && b) ≡ true → a ≡ true
and_first true b h = refl
and_first false b h = absurd (cc h)

-- a key of the kind of rows aside
begins_aside : (key : Bytes) → IsTrue (starts_with nat_eq key (6 ∷ [])) → (rest : Bytes) × (key ≡ aside_key rest)
begins_aside [] h = absurd (cc h)
begins_aside (kind ∷ rest) h = (rest, ap (λ (k : ℕ). k ∷ rest) (sym (eqb-true 6 kind (and_first (nat_eq 6 kind) true h))))

pub first_pair : (p : Plain) (prefix key value : Bytes) (pair : Option (Bytes × Bytes)) → pair ≡ Some (key, value) → IsFirstOf p prefix pair
    → (p key ≡ Some value) × IsTrue (starts_with nat_eq key prefix)
first_pair p prefix key value pair is first = subst (IsFirstOf p prefix) is first

pub none_aside : (p : Plain) (pair : Option (Bytes × Bytes)) → pair ≡ None → IsFirstOf p (6 ∷ []) pair → HasNoAside p
none_aside p pair is first k =
    let none : (q : Bytes) → IsTrue (starts_with nat_eq q (6 ∷ [])) → p q ≡ None = subst (IsFirstOf p (6 ∷ [])) is first in
    none (aside_key k) refl

pub none_aside_moved : (m m1 : Map) (pair : Option (Bytes × Bytes)) → m1 ≡ m → pair ≡ None → IsFirstOf (plain_of m) (6 ∷ []) pair → HasNoAside (plain_of m1)
none_aside_moved m m1 pair same is first = subst (λ (x : Map). HasNoAside (plain_of x)) (sym same) (none_aside (plain_of m) pair is first)

pub first_pair_moved : (m m1 : Map) (prefix key value : Bytes) (pair : Option (Bytes × Bytes)) → m1 ≡ m → pair ≡ Some (key, value) → IsFirstOf (plain_of m) prefix pair
    → (plain_of m1 key ≡ Some value) × IsTrue (starts_with nat_eq key prefix)
first_pair_moved m m1 prefix key value pair same is first =
    let its = first_pair (plain_of m) prefix key value pair is first in
    (ap (λ (x : Map). plain_of x key) same ∙ its.0, its.1)

-- a row aside goes away
pub aside_goes : (p : Plain) (key : Bytes) (group : List Record) → IsLawful p → IsTrue (starts_with nat_eq key (6 ∷ [])) → group ≡ Del key ∷ []
    → IsTables (tables_of p) (after p group)
aside_goes p key group lawful begins is =
    let place = begins_aside key begins in
    let done : IsTables (tables_of p) (after p (Del (aside_key place.0) ∷ [])) = aside_law (tables_of p) p place.0 None (itself p lawful) in
    subst (λ (g : List Record). IsTables (tables_of p) (after p g)) (sym (is ∙ ap (λ (k : Bytes). Del k ∷ []) place.1)) done

-- a row aside comes
pub aside_comes : (p : Plain) (place row : Bytes) (group : List Record) → IsLawful p → group ≡ Put (aside_key place) row ∷ []
    → IsTables (tables_of p) (after p group)
aside_comes p place row group lawful is =
    let done : IsTables (tables_of p) (after p (Put (aside_key place) row ∷ [])) = aside_law (tables_of p) p place (Some row) (itself p lawful) in
    subst (λ (g : List Record). IsTables (tables_of p) (after p g)) (sym is) done

-- whatever a group that keeps the tables came to
pub stays_by : {A E : Type 0} (p new : Plain) (group : List Record) (r : Result A E) → IsLawful p → IsTables (tables_of p) (after p group)
    → OnOk r (new ≡ after p group) → IfErr r (λ e. (new ≡ p) ⊎ (new ≡ after p group)) → IsTables (tables_of p) new
stays_by p new group r lawful done ok err = kept_by (tables_of p) p (after p group) new (itself p lawful) done (wrote r p (after p group) new ok err)

pub none_still : (p new : Plain) → HasSameMarks p new → HasNoAside p → HasNoAside new
none_still p new same none k = same.asides k ∙ none k

-- ---- changes that are set aside

pub gathered_by : {A E : Type 0} (p new : Plain) (t key row : Bytes) (group : List Record) (r : Result A E) → SetsAside t key row group → OnOk r (new ≡ after p group)
    → OnOk r (FitsAside p row → Gathers p t key (said p (Some row) None) new)
gathered_by p new t key row group (Ok x) sets ok = λ fits tables next name g its.
    subst (IsGathering tables (with_value next name key (said p (Some row) None))) (sym ok) (sets tables next p name g its fits)
gathered_by p new t key row group (Err e) sets ok = tt

no_head : {C : Type 0} (n : Bytes) (len : ℕ) → ◌≡◌ {A = Option (Bytes × ℕ)} None (Some (n, len)) → C
no_head n len e = absurd (cc e)

-- a row that names nothing
fits_short : (p : Plain) (row : Bytes) → head_in (Some row) ≡ None → FitsAside p row
fits_short p row none = record {
  whole = record {
    long = λ n len e. no_head n len (sym none ∙ e);
    doomed = λ n len e. no_head n len (sym none ∙ e);
    full = λ n len i e less. no_head n len (sym none ∙ e);
  };
  apart = λ n len e. no_head n len (sym none ∙ e);
}

fits_none : (p : Plain) → FitsAside p no_row
fits_none p = fits_short p no_row refl

fits_whole : (p : Plain) (value : Bytes) → FitsAside p (whole_row value)
fits_whole p value = fits_short p (whole_row value) refl

pub gathers_as : {A E : Type 0} (p new : Plain) (t key : Bytes) (value other : Option Bytes) (r : Result A E) → value ≡ other → OnOk r (Gathers p t key value new)
    → OnOk r (Gathers p t key other new)
gathers_as p new t key value other r same h = subst (λ (v : Option Bytes). OnOk r (Gathers p t key v new)) same h

pub gathers_none : {A E : Type 0} (p new : Plain) (t key row : Bytes) (r : Result A E) → row ≡ no_row
    → OnOk r (FitsAside p row → Gathers p t key (said p (Some row) None) new) → OnOk r (Gathers p t key None new)
gathers_none p new t key row r is h =
    let there : OnOk r (FitsAside p no_row → Gathers p t key None new)
    = subst (λ (x : Bytes). OnOk r (FitsAside p x → Gathers p t key (said p (Some x) None) new)) is h in
    on_then r (λ f. f (fits_none p)) there

pub gathers_short : {A E : Type 0} (p new : Plain) (t key value row : Bytes) (r : Result A E) → row ≡ whole_row value
    → OnOk r (FitsAside p row → Gathers p t key (said p (Some row) None) new) → OnOk r (Gathers p t key (Some value) new)
gathers_short p new t key value row r is h =
    let there : OnOk r (FitsAside p (whole_row value) → Gathers p t key (Some value) new)
    = subst (λ (x : Bytes). OnOk r (FitsAside p x → Gathers p t key (said p (Some x) None) new)) is h in
    on_then r (λ f. f (fits_whole p value)) there

-- a long value, all chunks of which are there under a number that nothing names
module _ (tables next : Tables) (p mid : Plain) (n value row : Bytes) (g : IsGathering tables next p) (first : chunks_of p n 0 ≡ None)
    (writing : IsWriting tables mid n value (chunks_in (length value))) (others : HasOthers n p mid)
    (long : 511 < length value) (names : head_of row ≡ Some (n, length value)) where
  silent : IsGathering tables next mid × IsNotAside mid n
  silent = number_law tables next p mid n g (fresh_aside_law p n g.asides first) others writing.stays

  same_len : (m : Bytes) (c : ℕ) → head_in (Some row) ≡ Some (m, c) → length value ≡ c
  same_len m c e = ap (λ (o : Option (Bytes × ℕ)). elim o as (λ _. ℕ) [ None ↦ c | Some h ↦ h.1 ]) (sym names ∙ e)

  its_number : (m : Bytes) (c : ℕ) → head_in (Some row) ≡ Some (m, c) → n ≡ m
  its_number m c e = same_head_number n m (length value) c (sym names ∙ e)

  fits : FitsAside mid row
  fits = record {
    whole = record {
      long = λ m c e. subst (λ (x : ℕ). 0 < chunks_in x) (same_len m c e) (let some : 0 < chunks_in (length value) = omega arith in some);
      doomed = λ m c e. ap (is_doomed mid) (sym (its_number m c e)) ∙ writing.doomed;
      full = λ m c i e less.
          ap (λ (x : Bytes). is_some (chunks_of mid x i)) (sym (its_number m c e))
          ∙ ap is_some (writing.chunks i (subst (λ (x : ℕ). i < chunks_in x) (sym (same_len m c e)) less));
    };
    apart = λ m c e. subst (IsNotAside mid) (its_number m c e) silent.1;
  }

-- what such a row says of its key
said_head : (p : Plain) (n value : Bytes) (len : ℕ) → head_of (head_row n len) ≡ Some (n, len) → len ≡ length value
    → ((i : ℕ) → i < chunks_in (length value) → chunks_of p n i ≡ Some (chunk_of value i)) → said p (Some (head_row n len)) None ≡ Some value
said_head p n value len names is chunks =
    ap (λ (h : Option (Bytes × ℕ)). Some (value_by p (head_row n len) h)) names
    ∙ ap (λ (x : ℕ). Some (joined (chunks_of p n) (chunks_in x))) is
    ∙ ap (λ (v : Bytes). Some v) (all_joined (chunks_of p n) value chunks)

-- such a row is written aside
pub gathers_long : {A E : Type 0} (p mid new : Plain) (t key n value row : Bytes) (len : ℕ) (r : Result A E) → row ≡ head_row n len → head_of row ≡ Some (n, len)
    → len ≡ length value → 511 < length value → chunks_of p n 0 ≡ None → HasOthers n p mid → HasSame p mid
    → (IsLawful p → IsWriting (tables_of p) mid n value (chunks_in (length value)))
    → OnOk r (FitsAside mid row → Gathers mid t key (said mid (Some row) None) new) → OnOk r (Gathers p t key (Some value) new)
gathers_long p mid new t key n value row len r is names counts long first others same written h =
    let named : head_of row ≡ Some (n, length value) = names ∙ ap (λ (x : ℕ). Some (n, x)) counts in
    on_then r (λ f tables next name g its.
    let w : IsWriting tables mid n value (chunks_in (length value)) = writing_as tables p mid n value (chunks_in (length value)) g.stays (written g.stays.lawful) in
    let still = silent tables next p mid n value row g first w others long named in
    let its_fits = fits tables next p mid n value row g first w others long named in
    let value_said : said mid (Some row) None ≡ Some value
    = ap (λ (x : Bytes). said mid (Some x) None) is ∙ said_head mid n value len (sym (ap head_of is) ∙ names) counts w.chunks in
    subst (λ (v : Option Bytes). IsGathering tables (with_value next name key v) new) value_said
    (f its_fits tables next name still.0 (same_number p mid name t same its))) h

pub one_aside : {A E : Type 0} (m m1 : Map) (new : Plain) (t : Bytes) (change : Change) (r : Result A E) → m1 ≡ m
    → Some t ≡ option_map table_in (plain_of m (name_key change.table)) → OnOk r (Gathers (plain_of m1) t change.key (bytes_in change.value) new)
    → (tables next : Tables) → IsGathering tables next (plain_of m) → OnOk r (IsGathering tables (with_change next change) new)
one_aside m m1 new t change r same told h tables next g =
    on_then r (λ f. f tables next change.table (subst (λ (x : Map). IsGathering tables next (plain_of x)) (sym same) g) (number_moved m m1 change.table t same told)) h

-- one change more
pub changes_more : (tables : Tables) (changes : List Change) (i : ℕ) (change : Change) → i < length changes → change ≡ get_or changes i change
    → with_changes tables (take (i + 1) changes) ≡ with_change (with_changes tables (take i changes)) change
changes_more tables changes i change inside is =
    ap (with_changes tables) (ap (λ n. take n changes) (add-one i) ∙ take-suc changes i change inside ∙ ap (λ x. take i changes ++ x ∷ []) (sym is))
    ∙ fold_push with_change tables (take i changes) change

-- ---- rows that are carried out

abbrev aside_place_of : Option (Bytes × Bytes) → Bytes
aside_place_of None = []
aside_place_of (Some row) = 6 ∷ (row.0 ++ row.1)

aside_if : (b : Bool) (kind high low : ℕ) (rest t key : Bytes) → nat_eq kind 6 ≡ b
    → ◌≡◌ {A = Option (Bytes × Bytes)} (cond b (Some (high ∷ low ∷ [], rest)) None) (Some (t, key)) → kind ∷ high ∷ low ∷ rest ≡ 6 ∷ (t ++ key)
aside_if true kind high low rest t key is e = ap (λ (k : ℕ). k ∷ high ∷ low ∷ rest) (eqb-true kind 6 is) ∙ ap aside_place_of e
aside_if false kind high low rest t key is e = absurd (cc e)

aside_back : (pair t key : Bytes) → aside_of pair ≡ Some (t, key) → pair ≡ aside_key (row_place t key)
aside_back [] t key e = absurd (cc e)
aside_back (a ∷ []) t key e = absurd (cc e)
aside_back (a ∷ b ∷ []) t key e = absurd (cc e)
aside_back (kind ∷ high ∷ low ∷ rest) t key e = aside_if (nat_eq kind 6) kind high low rest t key refl e

pub carried : (tables : Tables) (m m1 : Map) (key aside t k : Bytes) (old : Option (Bytes × ℕ)) (group : List Record) → m1 ≡ m → IsStanding tables (plain_of m)
    → plain_of m key ≡ Some aside → aside_of key ≡ Some (t, k) → CarriesOut (row_place t k) aside old group → old ≡ head_at (plain_of m) (row_place t k)
    → IsStanding tables (after (plain_of m1) group)
carried tables m m1 key aside t k old group same stands there parsed carries was =
    subst (λ (x : Map). IsStanding tables (after (plain_of x) group)) (sym same)
    (carries tables (plain_of m) stands (ap (plain_of m) (sym (aside_back key t k parsed)) ∙ there) (sym was))

pub stands_moved : (tables : Tables) (m m1 : Map) → IsStanding tables (plain_of m) → m1 ≡ m → IsStanding tables (plain_of m1)
stands_moved tables m m1 h same = subst (λ (x : Map). IsStanding tables (plain_of x)) (sym same) h

pub standing_by : (tables : Tables) (p q new : Plain) → IsStanding tables p → IsStanding tables q → (new ≡ p) ⊎ (new ≡ q) → IsStanding tables new
standing_by tables p q new h g (inl e) = subst (IsStanding tables) (sym e) h
standing_by tables p q new h g (inr e) = subst (IsStanding tables) (sym e) g

pub ended : {A E : Type 0} (tables : Tables) (p new : Plain) (group : List Record) (r : Result A E) → EndsBatch group → IsStanding tables p → HasNoAside p
    → OnOk r (new ≡ after p group) → OnOk r (IsTables tables new)
ended tables p new group r ends stands none ok = on_then r (λ e. subst (IsTables tables) (sym e) (ends tables p stands none)) ok

left_or_ended : (tables : Tables) (p q new : Plain) → IsStanding tables p → IsTables tables q → (new ≡ p) ⊎ (new ≡ q) → IsLeft tables new
left_or_ended tables p q new h g (inl e) = inr (subst (IsStanding tables) (sym e) h)
left_or_ended tables p q new h g (inr e) = inl (subst (IsTables tables) (sym e) g)

pub ended_left : {A E : Type 0} (tables : Tables) (p new : Plain) (group : List Record) (r : Result A E) → EndsBatch group → IsStanding tables p → HasNoAside p
    → OnOk r (new ≡ after p group) → IfErr r (λ e. (new ≡ p) ⊎ (new ≡ after p group)) → IsLeft tables new
ended_left tables p new group r ends stands none ok err =
    left_or_ended tables p (after p group) new stands (ends tables p stands none) (wrote r p (after p group) new ok err)

-- ---- what is left of a batch, by whether it stands

pub none_stands : {C : Type 0} (tables : Tables) (p : Plain) → IsStanding tables p → p stands_key ≡ None → C
none_stands tables p h none = absurd (true≢false (sym h.stands ∙ ap is_some none))

pub some_stands : {C : Type 0} (p : Plain) (value : Bytes) → IsLawful p → p stands_key ≡ Some value → C
some_stands p value h there = absurd (true≢false (sym (ap is_some there) ∙ ap is_some h.quiet))

pub left_stands : (tables : Tables) (p : Plain) (value : Bytes) → IsLeft tables p → p stands_key ≡ Some value → IsStanding tables p
left_stands tables p value (inl h) there = some_stands p value h.lawful there
left_stands tables p value (inr h) there = h

pub left_quiet : (tables : Tables) (p : Plain) → IsLeft tables p → p stands_key ≡ None → IsTables tables p
left_quiet tables p (inl h) none = h
left_quiet tables p (inr h) none = none_stands tables p h none

pub left_moved : (tables : Tables) (m m1 : Map) → IsLeft tables (plain_of m) → m1 ≡ m → IsLeft tables (plain_of m1)
left_moved tables m m1 h same = subst (λ (x : Map). IsLeft tables (plain_of x)) (sym same) h

-- what stands at the mark of a batch, as it was read
pub mark_told : (m m1 : Map) (key : Bytes) (answer its : Option Bytes) → m1 ≡ m → answer ≡ its → answer ≡ plain_of m key → key ≡ stands_key → plain_of m1 stands_key ≡ its
mark_told m m1 key answer its same is told at =
    ap (λ (x : Map). plain_of x stands_key) same ∙ ap (plain_of m) (sym at) ∙ sym told ∙ is

-- ---- the step

pub stands_by : (tables next : Tables) (p : Plain) (group : List Record) → MakesBatch group → IsGathering tables next p → IsStanding next (after p group)
stands_by tables next p group makes g = subst (λ (t : Tables). IsStanding t (after p group)) g.makes (makes tables p g.stays g.asides)

pub stands_now : (tables : Tables) (p new : Plain) → IsStanding tables p → new ≡ p → IsStanding tables new
stands_now tables p new h e = subst (IsStanding tables) (sym e) h

-- what was aside went away, and all changes were set aside then
pub gathered_all : (was : Tables) (p new : Plain) (changes : List Change) → IsTables was p → HasNoAside p
    → ((tables next : Tables) → IsGathering tables next p → IsGathering tables (with_changes next changes) new) → IsGathering was (with_changes was changes) new
gathered_all was p new changes h none gathers = gathers was was (nothing_law was p h none)

-- ---- a batch that was refused

pub batch_before : (was now : Tables) (p : Plain) (b : Bool) → b ≡ false → IsTables was p → LeftBy b was now p
batch_before was now p b before h = subst (λ (x : Bool). LeftBy x was now p) (sym before) h

pub batch_refused : (was now : Tables) (p q new : Plain) (b : Bool) → IsTables was p → IsLeft now q → new ≡ cond b q p → LeftBy b was now new
batch_refused was now p q new true h g e = subst (IsLeft now) (sym e) g
batch_refused was now p q new false h g e = subst (IsTables was) (sym e) h

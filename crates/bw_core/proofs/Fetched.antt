-- Pages of a group are brought back one by one, and none leaves.

use Rattle.std.proofs.Common.{◌≡◌, ℕ, zero, suc, ◌+◌, ◌<◌, ◌≤◌, inl, inr, Bool, true, false, Some, Err, List, [], ◌∷◌, length, take, get_or, refl}
use Rattle.std.proofs.Common.{sym, ap, ◌∙◌, subst, arith, if◌then◌else◌}
use Rattle.std.specs.Prelude.{◌==◌, slice_get}
use Rattle.std.specs.List.{AllByRecursion as All}
use Rattle.std.proofs.lemmas.List.{take_more}
use Rattle.std.proofs.lemmas.Option.{slice_get_read}
use Rattle.bw_record.specs.Record.{key_of}
use Rattle.bw_record.specs.declared.record.Record.{Record}
use Rattle.bw_log.specs.Reads.{HoldsPage}
use Rattle.bw_page.specs.Leaves.{directed_at, home}
use Rattle.bw_page.specs.Shown.{Shown, IsHere, is_evicted_page}
use Rattle.bw_leaf.proofs.Sorted.{all-map}
use Rattle.bw_terms.specs.declared.fault.StoreFault.{StoreFault}
use Rattle.bw_terms.specs.declared.fault.StoreFault.TheVariants.{NoMemory, BadConfig, NoSegment, Device, Failed, Spent, NoPage, NothingOld}
use Rattle.bw_core.specs.Kept.{Kept}
use Rattle.bw_core.specs.Reading.{HasRead, ReadLeaves}
use Rattle.bw_core.specs.Taking.{FetchLeaves, Refuses, Works}
use Rattle.bw_making.proofs.Joins.{all-append}

-- a page that is here stays here where one comes back
pub still_here : (old new : Shown) (page : ℕ) (key : List ℕ) → new.leaves ≡ old.leaves
    → ((p : ℕ) → is_evicted_page p new ≡ (if p == page then false else is_evicted_page p old)) → IsHere key old → IsHere key new
still_here old new page key same step here =
    ap (λ ls. is_evicted_page (home key ls).page new) same
    ∙ step (home key old.leaves).page
    ∙ elim ((home key old.leaves).page == page) as (λ b. (if b then false else is_evicted_page (home key old.leaves).page old) ≡ false)
    [ true ↦ refl | false ↦ here ]

pub same_here : (old new : Shown) (key : List ℕ) → new ≡ old → IsHere key old → IsHere key new
same_here old new key e here = subst (IsHere key) (sym e) here

-- one record more of the first ones
pub all_more : (P : Record → Type 0) (rs : List Record) (i : ℕ) (d : Record) → i < length rs → d ≡ get_or rs i d → All P (take i rs) → P d
    → All P (take (i + 1) rs)
all_more P rs i d lt is h k =
    subst (All P) (sym (take_more rs i d lt))
    (all-append P (take i rs) (get_or rs i d ∷ []) h (subst P is k, tt))

pub all_here : (old new : Shown) (rs : List Record) → ((key : List ℕ) → IsHere key old → IsHere key new)
    → All (λ r. IsHere (key_of r) old) rs → All (λ r. IsHere (key_of r) new) rs
all_here old new rs step h = all-map (λ (r : Record). IsHere (key_of r) old) (λ (r : Record). IsHere (key_of r) new) (λ r k. step (key_of r) k) rs h

-- a group whose pages could not all be read
pub fetch_refuses : (away : ℕ → Bool) (group : List Record) (old new : Kept) (cause : StoreFault) → Works old → FetchLeaves away group old (Err cause) new
    → Refuses away group old cause new
fetch_refuses away group old new NoMemory works h = (works, inl h)
fetch_refuses away group old new BadConfig works h = absurd h
fetch_refuses away group old new NoSegment works h = absurd h
fetch_refuses away group old new (Device lease) works h = (works, inr h)
fetch_refuses away group old new Failed works h = absurd h
fetch_refuses away group old new Spent works h = (works, inr h)
fetch_refuses away group old new NoPage works h = absurd h
fetch_refuses away group old new NothingOld works h = absurd h

-- fetching was refused, and the records were those of a slice
pub fetch_refuses_as : (away : ℕ → Bool) (group records : List Record) (old new : Kept) (cause : StoreFault) → records ≡ group → Works old
    → FetchLeaves away records old (Err cause) new → Refuses away group old cause new
fetch_refuses_as away group records old new cause same works h =
    fetch_refuses away group old new cause works (subst (λ (rs : List Record). FetchLeaves away rs old (Err cause) new) same h)

-- all of the first ones are all
pub all_taken : (P : Record → Type 0) (rs : List Record) (n : ℕ) → length rs ≤ n → All P (take n rs) → All P rs
all_taken P [] n end h = tt
all_taken P (r ∷ rs) zero end h = absurd (omega arith)
all_taken P (r ∷ rs) (suc n) end h = (h.0, all_taken P rs n (omega arith) h.1)

-- what an index gave is there
pub at_index : (rs : List Record) (i : ℕ) (d : Record) → i < length rs → d ≡ get_or rs i d → slice_get rs i ≡ Some d
at_index rs i d lt is = slice_get_read rs (length rs) i d refl lt is

-- the page of one of the records could not be read
pub one_unread : (A : Type 0) (away : ℕ → Bool) (group : List Record) (at : ℕ) (item : Record) (old new : Kept) (cause : StoreFault)
    → slice_get group at ≡ Some item → away (directed_at old.filed.leaves item) ≡ true → HasRead old new
    → ReadLeaves {A = A} (HoldsPage old.log (directed_at old.filed.leaves item)) old (Err cause) new → FetchLeaves away group old (Err cause) new
one_unread A away group at item old new NoMemory one gone read h = h
one_unread A away group at item old new BadConfig one gone read h = absurd h
one_unread A away group at item old new NoSegment one gone read h = absurd h
one_unread A away group at item old new (Device lease) one gone read h = record {
  page = directed_at old.filed.leaves item;
  needs = record { is_away = gone; at = at; item = item; one = one; its = refl };
  read = read;
  failed = h;
}
one_unread A away group at item old new Failed one gone read h = absurd h
one_unread A away group at item old new Spent one gone read h = (
  h.0,
  record {
    page = directed_at old.filed.leaves item;
    needs = record { is_away = gone; at = at; item = item; one = one; its = refl };
    worn = h.1;
  },
)
one_unread A away group at item old new NoPage one gone read h = absurd h
one_unread A away group at item old new NothingOld one gone read h = absurd h

-- a page could not be read, which was found by the record's key
pub key_unread : (A : Type 0) (away : ℕ → Bool) (group : List Record) (at : ℕ) (item : Record) (key : List ℕ) (old new : Kept) (cause : StoreFault)
    → key ≡ key_of item → slice_get group at ≡ Some item → away (home key old.filed.leaves).page ≡ true → HasRead old new
    → ReadLeaves {A = A} (HoldsPage old.log (home key old.filed.leaves).page) old (Err cause) new → FetchLeaves away group old (Err cause) new
key_unread A away group at item key old new cause same one gone read h =
    subst (λ (k : List ℕ). away (home k old.filed.leaves).page ≡ true
    → ReadLeaves {A = A} (HoldsPage old.log (home k old.filed.leaves).page) old (Err cause) new → FetchLeaves away group old (Err cause) new)
    (sym same) (λ gone h. one_unread A away group at item old new cause one gone read h) gone h

-- a page could not be read, after pages that could be
pub later_unread : (A : Type 0) (away : ℕ → Bool) (group : List Record) (at : ℕ) (item : Record) (old middle new : Kept) (cause : StoreFault) → middle ≡ old
    → slice_get group at ≡ Some item → away (directed_at middle.filed.leaves item) ≡ true → HasRead middle new
    → ReadLeaves {A = A} (HoldsPage middle.log (directed_at middle.filed.leaves item)) middle (Err cause) new → FetchLeaves away group old (Err cause) new
later_unread A away group at item old middle new cause same one gone read h =
    subst (λ (s : Kept). FetchLeaves away group s (Err cause) new) same (one_unread A away group at item middle new cause one gone read h)

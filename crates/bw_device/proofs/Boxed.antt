-- One box of a list, through a reading of boxes: no lemma here knows what a box is.

use Rattle.std.proofs.Common.{◌≡◌, ℕ, ◌+◌, ◌<◌, ◌≤◌, zero, suc, List, [], ◌∷◌, ◌++◌, length, map, take, get_or, set, Some, Result, Ok, Err, MatchResult, IsTrue}
use Rattle.std.proofs.Common.{false, sym, ap, subst, ◌∙◌, arith}
use Rattle.std.specs.List.{AllByRecursion}
use Rattle.std.specs.Option.{option_map}
use Rattle.std.proofs.lemmas.List.{map-set, take_all, map_more}
use Rattle.std.proofs.lemmas.Bool.{false≢true}
use Rattle.std.proofs.lemmas.Option.{slice_get-map, slice_get-get_or}
use Rattle.std.proofs.Math.Seq.{map-set_same}
use Rattle.bw_device.specs.Holding.{Holding, appended, failed_once, IsTorn}
use Rattle.bw_device.specs.declared.segments.Fault.{Fault}
use Rattle.bw_device.specs.Boxes.{ChangedAt}

-- ---- one box changed

pub changed_at : {X : Type 0} (v : X → Holding) (step : Holding → Holding → Type 0) (xs : List X) (i : ℕ) (x y : X) → i < length xs → x ≡ get_or xs i x
    → step (v x) (v y)
    → ChangedAt step i (map v xs) (map v (set xs i y))
changed_at v step xs i x y inside is steps = record {
  before = v x;
  after = v y;
  was = slice_get-map v xs i ∙ ap (option_map v) (slice_get-get_or xs i x inside ∙ ap (λ z. Some z) (sym is));
  is = map-set v xs i y;
  steps = steps;
}

pub appends_at : {X : Type 0} (v : X → Holding) (piece : List ℕ) (xs : List X) (i : ℕ) (x y : X) (r : Result (Unit {0}) Fault) → i < length xs
    → x ≡ get_or xs i x
    → MatchResult r (λ _. v y ≡ appended (v x) piece) (λ _. IsTorn (v x) piece (v y))
    → MatchResult r (λ _. ChangedAt (λ h k. k ≡ appended h piece) i (map v xs) (map v (set xs i y)))
    (λ _. ChangedAt (λ h k. IsTorn h piece k) i (map v xs) (map v (set xs i y)))
appends_at v piece xs i x y (Ok u) inside is steps = changed_at v (λ h k. k ≡ appended h piece) xs i x y inside is steps
appends_at v piece xs i x y (Err e) inside is steps = changed_at v (λ h k. IsTorn h piece k) xs i x y inside is steps

pub reads_at : {X : Type 0} (v : X → Holding) (xs : List X) (i : ℕ) (x y : X) (r : Result (Unit {0}) Fault) → i < length xs → x ≡ get_or xs i x
    → MatchResult r (λ _. v y ≡ v x) (λ _. v y ≡ failed_once (v x))
    → MatchResult r (λ _. map v (set xs i y) ≡ map v xs) (λ _. ChangedAt (λ h k. k ≡ failed_once h) i (map v xs) (map v (set xs i y)))
reads_at v xs i x y (Ok u) inside is steps = map-set_same v xs i y x (steps ∙ ap v is)
reads_at v xs i x y (Err e) inside is steps = changed_at v (λ h k. k ≡ failed_once h) xs i x y inside is steps

-- ---- all boxes

pub all_at : {X : Type 0} (v : X → Holding) (P : Holding → Type 0) (xs : List X) (i : ℕ) (d : X) → i < length xs → AllByRecursion P (map v xs)
    → P (v (get_or xs i d))
all_at v P [] i d inside all = absurd (omega arith)
all_at v P (x ∷ xs) zero d inside all = all.0
all_at v P (x ∷ xs) (suc i) d inside all = all_at v P xs i d (omega arith) all.1

pub all_push : {Y : Type 0} (P : Y → Type 0) (ys : List Y) (y : Y) → AllByRecursion P ys → P y → AllByRecursion P (ys ++ y ∷ [])
all_push P [] y all one = (one, tt)
all_push P (z ∷ zs) y all one = (all.0, all_push P zs y all.1 one)

pub all_more : {X : Type 0} (v : X → Holding) (P : Holding → Type 0) (xs : List X) (i : ℕ) (d : X) → i < length xs → AllByRecursion P (map v (take i xs))
    → P (v (get_or xs i d))
    → AllByRecursion P (map v (take (i + 1) xs))
all_more v P xs i d inside all one = subst (AllByRecursion P) (sym (map_more v xs i d inside)) (all_push P (map v (take i xs)) (v (get_or xs i d)) all one)

pub all_taken : {X : Type 0} (v : X → Holding) (P : Holding → Type 0) (xs : List X) (i : ℕ) → length xs ≤ i → AllByRecursion P (map v (take i xs))
    → AllByRecursion P (map v xs)
all_taken v P xs i end all = subst (λ ys. AllByRecursion P (map v ys)) (take_all i xs end) all

pub all_item : {X : Type 0} (v : X → Holding) (P : Holding → Type 0) (xs : List X) (i : ℕ) (x : X) → i < length xs → x ≡ get_or xs i x
    → AllByRecursion P (map v xs) → P (v x)
all_item v P xs i x inside is all = subst (λ z. P (v z)) (sym is) (all_at v P xs i x inside all)

-- a test of all fails at one, goes on, and ends
pub fails_at : {X : Type 0} (v : X → Holding) (P : Holding → Type 0) (xs : List X) (i : ℕ) (x : X) → i < length xs → x ≡ get_or xs i x
    → (P (v x) → IsTrue false)
    → (IsTrue false → AllByRecursion P (map v xs)) × (AllByRecursion P (map v xs) → IsTrue false)
fails_at v P xs i x inside is fails = (λ t. absurd (false≢true t), λ all. fails (all_item v P xs i x inside is all))

pub goes_on_at : {X : Type 0} (v : X → Holding) (P : Holding → Type 0) (xs : List X) (i : ℕ) (x : X) → i < length xs → x ≡ get_or xs i x
    → AllByRecursion P (map v (take i xs)) → P (v x)
    → AllByRecursion P (map v (take (i + 1) xs))
goes_on_at v P xs i x inside is all one = all_more v P xs i x inside all (subst (λ z. P (v z)) is one)

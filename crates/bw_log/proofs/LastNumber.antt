-- What a search by a test finds among the lines, and the last line of some.

use Rattle.std.proofs.Common.{inl, inr, ◌≡◌, ℕ, zero, suc, ◌+◌, ◌-◌, ◌<◌, ◌≤◌, Bool, true, false, List, [], ◌∷◌, ◌++◌, length, map, get_or}
use Rattle.std.proofs.Common.{refl, sym, ap, subst, ◌∙◌, arith, length-append}
use Rattle.std.specs.List.{fold, AllByRecursion}
use Rattle.std.specs.List.Sorted.{IsPartitionedBy, IsPartitionPoint}
use Rattle.std.proofs.lemmas.Bool.{true≢false, cases_lt}
use Rattle.std.proofs.lemmas.List.{get_or_append_left, get_or-append-add}
use Rattle.bw_codec.specs.Grammar.{frame_bytes_in}
use Rattle.bw_record.specs.declared.block.Frame.{Frame}
use Rattle.bw_log.specs.Segments.{entries_from}
use Rattle.bw_log.specs.declared.places.FrameAt.{FrameAt}

-- ---- a list in two parts, of which a test passes the first

pub all_get : {X : Type 0} (P : X → Type 0) (xs : List X) (k : ℕ) (d : X) → AllByRecursion P xs → k < length xs → P (get_or xs k d)
all_get P [] k d all inside = absurd (omega arith)
all_get P (x ∷ xs) zero d all inside = all.0
all_get P (x ∷ xs) (suc k) d all inside = all_get P xs k d all.1 (omega arith)

pub at_front : {X : Type 0} (P : X → Type 0) (xs ys : List X) (k : ℕ) (d : X) → AllByRecursion P xs → k < length xs → P (get_or (xs ++ ys) k d)
at_front P xs ys k d all inside = subst P (sym (get_or_append_left xs ys d k inside)) (all_get P xs k d all inside)

at_back : {X : Type 0} (P : X → Type 0) (xs ys : List X) (k : ℕ) (d : X) → AllByRecursion P ys → length xs ≤ k → k < length (xs ++ ys)
    → P (get_or (xs ++ ys) k d)
at_back {X} P xs ys k d all beyond inside =
    let at : length xs + (k - length xs) ≡ k = omega arith in
    subst (λ (n : ℕ). P (get_or (xs ++ ys) n d)) at
    (subst P (sym (get_or-append-add xs ys (k - length xs) d)) (all_get P ys (k - length xs) d all (omega (arith, length-append xs ys))))

pub parted : {X : Type 0} (p : X → Bool) (xs ys : List X) → AllByRecursion (λ x. p x ≡ true) xs → AllByRecursion (λ x. p x ≡ false) ys
    → IsPartitionedBy p (xs ++ ys)
parted p xs ys front back i j d le inside passes =
    elim (cases_lt j (length xs)) [
      | inl low ↦ at_front (λ x. p x ≡ true) xs ys i d front (omega arith)
      | inr high ↦ absurd (true≢false (sym passes ∙ at_back (λ x. p x ≡ false) xs ys j d back high inside))
    ]

pub point_is : {X : Type 0} (p : X → Bool) (xs ys : List X) (n : ℕ) (d : X) → AllByRecursion (λ x. p x ≡ true) xs → AllByRecursion (λ x. p x ≡ false) ys
    → n ≤ length (xs ++ ys)
    → IsPartitionPoint (λ x. p x ≡ true) (λ x. p x ≡ false) (xs ++ ys) n → n ≡ length xs
point_is p xs ys n d front back inside point =
    elim (cases_lt n (length xs)) [
      | inl low ↦ absurd (true≢false (sym (at_front (λ x. p x ≡ true) xs ys n d front low) ∙ point.1 n d (omega arith) (omega (arith, length-append xs ys))))
      | inr high ↦ elim (cases_lt (length xs) n) [
        | inl more ↦ absurd (true≢false (sym (point.0 (length xs) d (omega arith) more)
            ∙ at_back (λ x. p x ≡ false) xs ys (length xs) d back (omega arith) (omega arith)))
        | inr le ↦ omega arith
      ]
    ]

-- what a search by a test finds
pub record Found (test : FrameAt → Bool) (lines : List FrameAt) (n : ℕ) : Type 0 where
  pub inside : n ≤ length lines
  pub point : IsPartitionedBy test lines → IsPartitionPoint (λ e. test e ≡ true) (λ e. test e ≡ false) lines n

-- ---- the last of some lines

pub numbers_in : (v segment at : ℕ) (fs : List Frame) → AllByRecursion (λ e. e.1.number ≡ e.0.number) (entries_from v segment at fs)
numbers_in v segment at [] = tt
numbers_in v segment at (f ∷ fs) = (refl, numbers_in v segment (at + length (frame_bytes_in v f)) fs)

pub same_last : (w : ℕ) (es : List (FrameAt × Frame)) → AllByRecursion (λ e. e.1.number ≡ e.0.number) es
    → fold (λ was f. f.number) w (map (λ e. e.1) es) ≡ fold (λ was e. e.number) w (map (λ e. e.0) es)
same_last w [] all = refl
same_last w (e ∷ es) all = ap (λ (n : ℕ). fold (λ was (f : Frame). f.number) n (map (λ e. e.1) es)) all.0 ∙ same_last e.0.number es all.1

fold_last : (w : ℕ) (x : FrameAt) (xs : List FrameAt) (d : FrameAt) → fold (λ was e. e.number) w (x ∷ xs) ≡ (get_or (x ∷ xs) (length xs) d).number
fold_last w x [] d = refl
fold_last w x (y ∷ ys) d = fold_last x.number y ys d

pub own_last : (own others : List FrameAt) (n : ℕ) (d : FrameAt) → n ≡ length own → 0 < n
    → fold (λ was e. e.number) 0 own ≡ (get_or (own ++ others) (n - 1) d).number
own_last [] others n d same some = absurd (omega arith)
own_last (x ∷ xs) others n d same some =
    let at : n - 1 ≡ length xs = omega arith in
    fold_last 0 x xs d ∙ ap (λ (e : FrameAt). e.number) (sym (get_or_append_left (x ∷ xs) others d (length xs) (omega arith)))
    ∙ ap (λ (k : ℕ). (get_or ((x ∷ xs) ++ others) k d).number) (sym at)

-- what a list without lines is asked with
pub no_line : FrameAt
no_line = record { number = 0; segment = 0; at = 0; len = 0; starts = [] }

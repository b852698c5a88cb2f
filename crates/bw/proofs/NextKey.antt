-- A key with a zero more, or with its last byte raised that can be, is the least above it.

use Rattle.std.proofs.Common.{◌≡◌, ℕ, suc, ◌+◌, ◌-◌, ◌<◌, ◌≤◌, Some, None, [], ◌∷◌, ◌++◌, length, take, get_or, refl, sym, ap, ◌∙◌, arith}
use Rattle.std.proofs.lemmas.List.{append_assoc, append-nil, length-take-le, take_all, take_more}
use Rattle.bw_record.specs.Keys.{is_below, IsBytes}
use Rattle.bw_record.proofs.Order.{Below, not_both, must_not, below-upto, below_first}
use Rattle.bw_leaf.specs.Changed.{Bytes}
use Rattle.bw_walks.specs.Back.{IsNextBelow}
use Rattle.bw_walks.proofs.Backwards.{filled, front_next, filled_next}
use Rattle.bw.specs.Keys.{IsAfter}

-- if a key is the greatest below another, the other is the least above it
after_last : (key next : Bytes) → IsNextBelow next key → IsAfter key (Some next)
after_last key next n = (
  n.below,
  λ q bytes is. (
    λ above. must_not (is_below q next) (λ under. not_both (is_below key q) above (n.last q bytes is.1 under)),
    λ upto. below-upto key next q n.below upto,
  ),
)

-- a key that has room
pub after_short : (key : Bytes) → IsAfter key (Some (key ++ 0 ∷ []))
after_short key = after_last key (key ++ 0 ∷ []) (front_next (key ++ 0 ∷ []) key refl)

-- a key after whose end each byte is the greatest: with one more before the end
pub one_before : (key : Bytes) (end : ℕ) → length key ≡ 128 → 0 < end → end ≤ 128 → key ≡ take end key ++ filled (128 - end)
    → key ≡ take (end - 1) key ++ get_or key (end - 1) 0 ∷ filled (128 - end)
one_before key end long some fits is =
    let more : take end key ≡ take (end - 1) key ++ get_or key (end - 1) 0 ∷ [] =
    ap (λ (n : ℕ). take n key) (omega arith) ∙ take_more key (end - 1) 0 (omega arith) in
    is ∙ ap (λ (k : Bytes). k ++ filled (128 - end)) more ∙ append_assoc (take (end - 1) key) (get_or key (end - 1) 0 ∷ []) (filled (128 - end))

-- if that one is not the greatest
pub after_raised : (key : Bytes) (end : ℕ) → length key ≡ 128 → 0 < end → end ≤ 128 → key ≡ take end key ++ filled (128 - end)
    → IsAfter key (Some (take (end - 1) key ++ (get_or key (end - 1) 0 + 1) ∷ []))
after_raised key end long some fits is =
    let front = take (end - 1) key in
    let b = get_or key (end - 1) 0 in
    let shorter : length front ≡ end - 1 = length-take-le (end - 1) key (omega arith) in
    let raised : front ++ (b + 1) ∷ [] ≡ front ++ suc b ∷ [] = ap (λ (n : ℕ). front ++ n ∷ []) (omega arith) in
    after_last key (front ++ (b + 1) ∷ []) (filled_next (front ++ (b + 1) ∷ []) front key b (128 - end) raised (one_before key end long some fits is) (omega arith))

-- if it is
pub one_more : (key : Bytes) (end : ℕ) → length key ≡ 128 → 0 < end → end ≤ 128 → key ≡ take end key ++ filled (128 - end)
    → get_or key (end - 1) 0 ≡ 255 → key ≡ take (end - 1) key ++ filled (128 - (end - 1))
one_more key end long some fits is greatest =
    one_before key end long some fits is ∙ ap (λ b. take (end - 1) key ++ b ∷ filled (128 - end)) greatest
    ∙ ap (λ (n : ℕ). take (end - 1) key ++ filled n) (let more : suc (128 - end) ≡ 128 - (end - 1) = omega arith in more)

-- at first no byte is after the end
pub none_behind : (key : Bytes) → length key ≡ 128 → key ≡ take (length key) key ++ filled (128 - length key)
none_behind key long =
    sym (ap (λ (n : ℕ). take (length key) key ++ filled n) (let none : 128 - length key ≡ 0 = omega arith in none)
    ∙ append-nil (take (length key) key) ∙ take_all (length key) key (omega arith))

-- each byte fits below this one
below_over : (q : Bytes) → IsBytes q → Below q (256 ∷ [])
below_over [] bytes = refl
below_over (x ∷ xs) bytes = below_first x 256 xs [] (bytes 0)

-- above 128 of the greatest byte there is no key
pub after_none : (key : Bytes) → key ≡ filled 128 → IsAfter key None
after_none key is q bytes lawful =
    let last : IsNextBelow (256 ∷ []) key = filled_next (256 ∷ []) [] key 255 127 refl is refl in
    last.last q bytes lawful.1 (below_over q bytes)

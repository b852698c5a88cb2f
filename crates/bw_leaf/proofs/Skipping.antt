-- A search that begins after pairs whose keys are below ends where one from the front does.

use Rattle.std.proofs.Common.{◌≡◌, ℕ, zero, suc, ◌+◌, ◌≤◌, true, Result, Ok, Err, [], ◌∷◌, length, take, drop, refl, sym, ap, ◌∙◌, arith, zero-add}
use Rattle.std.proofs.Common.{◌-◌, take_all, length-drop}
use Rattle.std.specs.Ordering.{is_gt}
use Rattle.std.specs.FinMap.Entries.{by_order}
use Rattle.std.specs.declared.cmp.Ordering.{Ordering}
use Rattle.std.specs.declared.cmp.Ordering.TheVariants.{Less, Equal, Greater}
use Rattle.bw_record.specs.Heads.{AreBelow, BeginAbove}
use Rattle.bw_record.proofs.Order.{is_less, greater_is_below}
use Rattle.bw_leaf.specs.Changed.{Bytes, Pairs, order}
use Rattle.bw_leaf.specs.Seek.{seek_of, passed}

above : (r : Ordering) → is_gt r ≡ true → r ≡ Greater
above Less h = cc
above Equal h = cc
above Greater h = refl

passed_none : (r : Result ℕ ℕ) → passed 0 r ≡ r
passed_none (Ok at) = ap Ok (zero-add at)
passed_none (Err at) = ap Err (zero-add at)

passed_again : (n : ℕ) (r : Result ℕ ℕ) → passed (suc n) r ≡ passed 1 (passed n r)
passed_again n (Ok at) = let e : suc n + at ≡ 1 + (n + at) = omega arith in ap Ok e
passed_again n (Err at) = let e : suc n + at ≡ 1 + (n + at) = omega arith in ap Err e

-- what is after the first n
pub all_behind : (n : ℕ) (pairs : Pairs) → take (length pairs - n) (drop n pairs) ≡ drop n pairs
all_behind n pairs = take_all (length pairs - n) (drop n pairs) (omega (arith, length-drop n pairs))

pub skipped_search : (key : Bytes) (pairs : Pairs) (n : ℕ) → n ≤ length pairs → AreBelow key (take n pairs)
    → passed n (seek_of key (drop n pairs)) ≡ seek_of key pairs
skipped_search key pairs zero within below = passed_none (seek_of key pairs)
skipped_search key [] (suc n) within below = absurd (omega arith)
skipped_search key (p ∷ ps) (suc n) within below =
    let first : order key p.0 ≡ Greater = above (order key p.0) (greater_is_below key p.0 ∙ below.0) in
    passed_again n (seek_of key (drop n ps)) ∙ ap (passed 1) (skipped_search key ps n (omega arith) below.1)
    ∙ sym (ap (λ (o : Ordering). by_order o (Err 0) (Ok 0) (passed 1 (seek_of key ps))) first)

first_above : (key : Bytes) (pairs : Pairs) → BeginAbove key pairs → seek_of key pairs ≡ Err 0
first_above key [] above = absurd above
first_above key (p ∷ ps) above = ap (λ (o : Ordering). by_order o (Err 0) (Ok 0) (passed 1 (seek_of key ps))) (is_less (order key p.0) above)

-- if the first pair that is not skipped is above the key, the key stands before it
pub above_search : (key : Bytes) (pairs : Pairs) (n : ℕ) → n ≤ length pairs → AreBelow key (take n pairs) → BeginAbove key (drop n pairs)
    → Err n ≡ seek_of key pairs
above_search key pairs n within below above =
    let same : n ≡ n + 0 = omega arith in
    ap Err same ∙ sym (ap (passed n) (first_above key (drop n pairs) above)) ∙ skipped_search key pairs n within below

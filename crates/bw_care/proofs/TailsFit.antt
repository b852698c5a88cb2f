-- Segments that were found are few, and their tails short.

use Rattle.std.proofs.Common.{◌≡◌, ℕ, ◌+◌, ◌≤◌, List, [], ◌∷◌, length, arith, subst, sym}
use Rattle.std.specs.List.{AllByRecursion}
use Rattle.bw_care.specs.Ordering.{lives_from, lives, number_found, sorted}
use Rattle.bw_care.specs.Surveying.{IsShortFound, HasShortTail}
use Rattle.bw_care.specs.declared.scan.Scan.{Scan}
use Rattle.bw_care.specs.declared.scan.Scan.TheVariants.{Bare, Part, Live}
use Rattle.bw_care.specs.declared.order.Found.{Found}
use Rattle.bw_care.proofs.RoomsParted.{fold_all, fold_count}

lives_few : (n : ℕ) (ss : List Scan) → length (lives_from n ss) ≤ length ss
lives_few n [] = omega arith
lives_few n (Bare ∷ ss) = (let more = lives_few (n + 1) ss in omega arith)
lives_few n (Part ∷ ss) = (let more = lives_few (n + 1) ss in omega arith)
lives_few n (Live header b ∷ ss) = (let more = lives_few (n + 1) ss in omega arith)

pub sorted_few : (ss : List Scan) (rs : List Found) (most : ℕ) → rs ≡ sorted ss → length ss ≤ most → length rs ≤ most
sorted_few ss rs most is few =
    subst (λ (l : List Found). length l ≤ most) (sym is)
    (let all = fold_count number_found [] (lives ss) in let some = lives_few 0 ss in omega arith)

lives_short : (n : ℕ) (ss : List Scan) → AllByRecursion HasShortTail ss → AllByRecursion IsShortFound (lives_from n ss)
lives_short n [] all = tt
lives_short n (Bare ∷ ss) all = lives_short (n + 1) ss all.1
lives_short n (Part ∷ ss) all = lives_short (n + 1) ss all.1
lives_short n (Live header b ∷ ss) all = (all.0, lives_short (n + 1) ss all.1)

pub sorted_short : (ss : List Scan) (rs : List Found) → rs ≡ sorted ss → AllByRecursion HasShortTail ss → AllByRecursion IsShortFound rs
sorted_short ss rs is all = subst (AllByRecursion IsShortFound) (sym is) (fold_all number_found IsShortFound [] (lives ss) tt (lives_short 0 ss all))

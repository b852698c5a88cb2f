-- Rows in the order of their keys.

use Rattle.std.proofs.Common.{◌≡◌, ◌<◌, true, [], ◌∷◌, ◌++◌, length, refl, sym, ◌∙◌, arith}
use Rattle.std.specs.Ordering.{MatchOrdering, nat_cmp, is_lt, ordering_then}
use Rattle.std.specs.Cmp.{ranked}
use Rattle.std.specs.Cmp.Lexicographic.{slice_cmp}
use Rattle.std.specs.declared.cmp.Ordering.TheVariants.{Less, Equal, Greater}
use Rattle.bw_record.specs.Keys.{is_below}
use Rattle.bw_record.proofs.Order.{same_first}
use Rattle.bw_rows.specs.Spelling.{Bytes}
use Rattle.bw_rows.specs.Order.{ReadsBack, KeepsOrder, TablesApart}

behind : (s a b : Bytes) → is_below (s ++ a) (s ++ b) ≡ is_below a b
behind [] a b = refl
behind (x ∷ s) a b = same_first x x (s ++ a) (s ++ b) refl ∙ behind s a b

pub order : KeepsOrder
order t a b = behind t a b

-- what is apart in as many bytes in front is apart
front : (t u a b : Bytes) → length t ≡ length u → is_below t u ≡ true → is_below (t ++ a) (u ++ b) ≡ true
front [] [] a b e h = absurd (cc h)
front [] (y ∷ u) a b e h = absurd (omega arith)
front (x ∷ t) [] a b e h = absurd (omega arith)
front (x ∷ t) (y ∷ u) a b e h =
    elim (nat_cmp x y) as (λ o. MatchOrdering o (x < y) (x ≡ y) (y < x) → is_lt (ordering_then o (slice_cmp nat_cmp t u)) ≡ true
    → is_lt (ordering_then o (slice_cmp nat_cmp (t ++ a) (u ++ b))) ≡ true) [
      | Less ↦ λ less below. refl
      | Equal ↦ λ same below. front t u a b (let f : length t ≡ length u = omega arith in f) below
      | Greater ↦ λ more below. absurd (cc below)
    ] (ranked x y (nat_cmp x y) refl) h

pub apart : TablesApart
apart t u a b two its below = front t u a b (two ∙ sym its) below

pub back : ReadsBack
back [] key e = absurd (omega arith)
back (high ∷ []) key e = absurd (omega arith)
back (high ∷ low ∷ []) key e = refl
back (high ∷ low ∷ more ∷ rest) key e = absurd (omega arith)

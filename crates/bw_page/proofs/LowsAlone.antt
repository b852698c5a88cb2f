-- Only the lows decide the home of a key.

use Rattle.std.proofs.Common.{◌≡◌, ℕ, ◌+◌, List, [], ◌∷◌, map, refl, sym, ap, ◌∙◌}
use Rattle.std.specs.List.{AllByRecursion as All}
use Rattle.bw_record.specs.declared.leaf.Leaf.{Leaf}
use Rattle.bw_page.specs.Leaves.{home, AreNumbered}
use Rattle.bw_page.specs.Lows.{bare_from}
use Rattle.bw_page.specs.Laws.{LowsTell}
use Rattle.bw_page.proofs.Homes.{home-map}

abbrev strip : Leaf → Leaf
strip l = record l { pairs = [] }

bare_is : (n : ℕ) (ls : List Leaf) → AreNumbered n ls → bare_from n (map (λ l. l.low) ls) ≡ map strip ls
bare_is n [] h = refl
bare_is n (l ∷ ls) h =
    ap (λ (k : ℕ). record { page = k; low = l.low; pairs = [] } ∷ bare_from (n + 1) (map (λ x. x.low) ls)) (sym h.0)
    ∙ ap (λ (rest : List Leaf). strip l ∷ rest) (bare_is (n + 1) ls h.1)

kept_lows : (ls : List Leaf) → All (λ l. (strip l).low ≡ l.low) ls
kept_lows [] = tt
kept_lows (l ∷ ls) = (refl, kept_lows ls)

pub tell : LowsTell
tell m leaves q a =
    ap (λ (ls : List Leaf). (home q ls).page) (bare_is 1 leaves a.pages)
    ∙ ap (λ (l : Leaf). l.page) (home-map strip q leaves a.first (kept_lows leaves))

-- The lows of leaves.

use Rattle.std.specs.Prelude.{ℕ, ◌+◌, List, [], ◌∷◌, map}
use Rattle.bw_record.specs.declared.leaf.Leaf.{Leaf}
use Rattle.bw_leaf.specs.Changed.{Bytes}
use Rattle.bw_page.specs.Leaves.{home}

-- each low with its page
abbrev pub lows_of : List Leaf → List (Bytes × ℕ)
lows_of leaves = map (λ l. (l.low, l.page)) leaves

-- leaves with these lows and no pairs, numbered from n
abbrev pub bare_from : ℕ → List Bytes → List Leaf
bare_from n [] = []
bare_from n (low ∷ lows) = record { page = n; low = low; pairs = [] } ∷ bare_from (n + 1) lows

-- the page at which a record of a key is directed, if pages from 1 on have these lows
abbrev pub home_page : Bytes → List Bytes → ℕ
home_page key lows = (home key (bare_from 1 lows)).page

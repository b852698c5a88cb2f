-- What pages are asked: how many keys of a stretch they have, and the values of keys.

use Rattle.std.specs.Prelude.{ℕ, ◌-◌, ◌^◌, min, List, count_by, sum_by, map, Option, Some, None, if◌then◌else◌}
use Rattle.std.specs.FinMap as finite
use Rattle.bw_record.specs.declared.leaf.Leaf.{Leaf}
use Rattle.bw_page.specs.Leaves.{leaf_at, union}
use Rattle.bw_keys.specs.declared.span.Span.{Span}
use Rattle.bw_keys.specs.Spans.{is_wanted, has_all}

-- how many keys of a page are wanted
abbrev pub count_in : Span → Leaf → ℕ
count_in span leaf = count_by (λ p. is_wanted span p.0) leaf.pairs

-- of a page that may not be there: none if it is not
abbrev pub count_if : Span → Option Leaf → ℕ
count_if span None = 0
count_if span (Some leaf) = count_in span leaf

-- how many keys of the page of a number are wanted
abbrev pub count_at : Span → List Leaf → ℕ → ℕ
count_at span leaves number = count_if span (leaf_at number leaves)

-- how many keys of the pages of these numbers are wanted; of all keys as many as the map has
abbrev pub counted : Span → List Leaf → List ℕ → ℕ
counted span leaves numbers =
    if has_all span then finite.len (union leaves) else min (sum_by (count_at span leaves) numbers) (2 ^ 64 - 1)

-- the values of keys
abbrev pub values : List Leaf → List (List ℕ) → List (Option (List ℕ))
values leaves keys = map (λ key. finite.get (union leaves) key) keys

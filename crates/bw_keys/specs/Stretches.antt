-- The pairs of a stretch of keys: on pages, and of a map.

use Rattle.std.specs.Prelude.{ℕ, ◌⊎◌, IsTrue, List, [], flat_map, Option, Some, None}
use Rattle.std.specs.List.{filter}
use Rattle.std.specs.FinMap as finite
use Rattle.bw_record.specs.declared.leaf.Leaf.{Leaf}
use Rattle.bw_leaf.specs.Changed.{Bytes, Pairs, Map}
use Rattle.bw_page.specs.Leaves.{leaf_at}
use Rattle.bw_page.specs.Ahead.{IsNextLow, HasNoLowAbove}
use Rattle.bw_keys.specs.declared.span.Span.{Span}
use Rattle.bw_keys.specs.Spans.{is_wanted, is_over}

-- the pairs whose keys are wanted
abbrev pub wanted_of : Span → Pairs → Pairs
wanted_of span pairs = filter (λ p. is_wanted span p.0) pairs

-- those of a page that may not be there
abbrev pub wanted_on : Span → Option Leaf → Pairs
wanted_on span None = []
wanted_on span (Some leaf) = wanted_of span leaf.pairs

-- those of the pages of these numbers, one page after the other
abbrev pub stretch_on : Span → List Leaf → List ℕ → Pairs
stretch_on span leaves numbers = flat_map (λ n. wanted_on span (leaf_at n leaves)) numbers

-- the pairs of a map whose keys are wanted, in the order of their keys, each once
abbrev pub stretch : Span → Map → Pairs
stretch span map = wanted_of span (finite.entries map)

-- after the page of a key comes none, or the next one has its low above all wanted keys
abbrev pub HasNoneWanted : Span → List Leaf → Bytes → Type 0
HasNoneWanted span leaves key =
    HasNoLowAbove leaves key ⊎ ((low : Bytes) × IsNextLow leaves key low × IsTrue (is_over span low))

-- What a record does to the pairs of a page, and to a map that knows no pages.

use Rattle.std.specs.Prelude.{ℕ, List, [], ◌∷◌}
use Rattle.std.specs.List.{fold}
use Rattle.std.specs.Ordering.{nat_cmp}
use Rattle.std.specs.Cmp.Lexicographic.{slice_cmp}
use Rattle.std.specs.FinMap as finite
use Rattle.std.specs.FinMap.Entries.{put, by_order}
use Rattle.std.specs.declared.cmp.Ordering.{Ordering}
use Rattle.bw_record.specs.declared.leaf.Leaf.{Leaf}
use Rattle.bw_record.specs.declared.record.Record.{Record}
use Rattle.bw_record.specs.declared.record.Record.TheVariants.{Put, Del}

abbrev pub Bytes : Type 0
Bytes = List ℕ

abbrev pub Pairs : Type 0
Pairs = List (Bytes × Bytes)

-- keys are ordered by bytes, a beginning before its continuation
abbrev pub order : Bytes → Bytes → Ordering
order = slice_cmp nat_cmp

-- ---- one page

-- pairs without the one at a key
abbrev pub without : Bytes → Pairs → Pairs
without key [] = []
without key (p ∷ ps) = by_order (order key p.0) (p ∷ ps) ps (p ∷ without key ps)

-- pairs in the order of their keys, after a record: a put sets the key's value, a delete removes the key if it is there
abbrev pub changed_pairs : Record → Pairs → Pairs
changed_pairs (Put key value) pairs = put order key value pairs
changed_pairs (Del key) pairs = without key pairs

-- a leaf after a record, however many pairs it then has
abbrev pub changed : Record → Leaf → Leaf
changed r leaf = record leaf { pairs = changed_pairs r leaf.pairs }

-- a leaf after records
abbrev pub all_changed : List Record → Leaf → Leaf
all_changed records leaf = fold (λ l r. changed r l) leaf records

-- page 1 without any pair
abbrev pub empty_leaf : Leaf
empty_leaf = record { page = 1; low = []; pairs = [] }

-- ---- a map

-- a map from keys to values, which knows no pages
abbrev pub Map : Type 0
Map = finite.FinMap order Bytes

abbrev pub changed_map : Map → Record → Map
changed_map map (Put key value) = finite.insert map key value
changed_map map (Del key) = finite.remove map key

-- A page in memory: links of a chain, newest first, over a whole page or over a place in the log.

use Rattle.std.specs.Prelude.{ℕ, ◌+◌, Bool, true, false, Option, Some, None, List, [], ◌∷◌, ◌++◌}
use Rattle.std.specs.Option.{option_map, unwrap_or}
use Rattle.bw_record.specs.declared.block.Place.{Place}
use Rattle.bw_record.specs.declared.leaf.Leaf.{Leaf}
use Rattle.bw_record.specs.declared.record.Record.{Record}
use Rattle.bw_leaf.specs.declared.chain.Link.{Link}
use Rattle.bw_leaf.specs.declared.chain.Link.TheVariants.{Delta, Flushed}
use Rattle.bw_leaf.specs.declared.chain.End.{End}
use Rattle.bw_leaf.specs.declared.chain.End.TheVariants.{Whole, OnLog}
use Rattle.bw_leaf.specs.Changed.{changed}

-- what callers see of a `Chain`
pub record Chained : Type 0 where
  -- newest first
  pub links : List Link
  pub end : End
  -- how many more links fit without a growth
  pub room : ℕ

-- the leaf under the links, if the log has `below`
abbrev pub ground_of : End → Leaf → Leaf
ground_of (Whole leaf) below = leaf
ground_of (OnLog place) below = below

-- the records of links, oldest first, over a leaf
abbrev pub told : List Link → Leaf → Leaf
told [] leaf = leaf
told (Delta r ∷ links) leaf = changed r (told links leaf)
told (Flushed place ∷ links) leaf = told links leaf

-- the records of links, oldest first
abbrev pub records_of : List Link → List Record
records_of [] = []
records_of (Delta r ∷ links) = records_of links ++ r ∷ []
records_of (Flushed place ∷ links) = records_of links

-- how many records there are
abbrev pub count_deltas : List Link → ℕ
count_deltas [] = 0
count_deltas (Delta r ∷ links) = count_deltas links + 1
count_deltas (Flushed place ∷ links) = count_deltas links

-- the page, if the log has `below`
abbrev pub content_of : Chained → Leaf → Leaf
content_of c below = told c.links (ground_of c.end below)

-- the place in the log that a chain ends on
abbrev pub log_end : End → Option Place
log_end (Whole leaf) = None
log_end (OnLog place) = Some place

abbrev pub is_flushed : Link → Bool
is_flushed (Delta r) = false
is_flushed (Flushed place) = true

-- links above a mark, with one more
abbrev pub under : Link → Option (List Link × Place) → Option (List Link × Place)
under link trimmed = option_map (λ c. (link ∷ c.0, c.1)) trimmed

-- the links above the newest flushed one, and its place
abbrev pub trimmed : List Link → Option (List Link × Place)
trimmed [] = None
trimmed (Flushed place ∷ links) = Some ([], place)
trimmed (Delta r ∷ links) = under (Delta r) (trimmed links)

-- the links from the newest flushed one on
abbrev pub from_mark : List Link → List Link
from_mark [] = []
from_mark (Flushed place ∷ links) = Flushed place ∷ links
from_mark (Delta r ∷ links) = from_mark links

-- the chain without what the log has: the newest flushed link and all below it become its place
abbrev pub evicted : Chained → Option Chained
evicted c = option_map (λ x. record c { links = x.0; end = OnLog x.1 }) (trimmed c.links)

-- a chain whose newest link is flushed becomes that link over the whole page
abbrev pub consolidated_by : Chained → List Link → Leaf → Option Chained
consolidated_by c [] below = None
consolidated_by c (Delta r ∷ links) below = None
consolidated_by c (Flushed place ∷ links) below = Some (record c { links = Flushed place ∷ []; end = Whole (content_of c below) })

abbrev pub consolidated : Chained → Leaf → Option Chained
consolidated c below = consolidated_by c c.links below

-- the chain after an eviction, and after a consolidation over `below`
abbrev pub after_evict : Chained → Chained
after_evict c = unwrap_or (evicted c) c

abbrev pub after_consolidate : Chained → Leaf → Chained
after_consolidate c below = unwrap_or (consolidated c below) c

-- the page as the log has it at the newest mark
abbrev pub marked_content : Chained → Leaf → Leaf
marked_content c below = told (from_mark c.links) (ground_of c.end below)

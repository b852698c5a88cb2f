-- What callers see of a board, and what a list of batches comes to.

use Rattle.std.specs.Prelude.{ℕ, ◌≡◌, List, [], ◌++◌, Option, Some, None, fold}
use Rattle.std.specs.FinMap as finite
use Rattle.bw_record.specs.declared.leaf.Leaf.{Leaf}
use Rattle.bw_page.specs.Ahead.{IsFirst, IsStretch}
use Rattle.bw_leaf.specs.Changed.{Bytes, Pairs}
use Rattle.bw_page.specs.Leaves.{plain, leaf_at}
use Rattle.bw_page.specs.Shown.{Shown, run}
use Rattle.bw_history.specs.declared.entry.Entry.{Entry}
use Rattle.bw_walks.specs.Shared.{with_key}
use Rattle.bw_versions.specs.Batches.{BatchData}
use Rattle.bw_history.specs.Entries.{records}

-- start leaves, and the entries published since
pub record Posted : Type 0 where
  pub start : Shown
  pub entries : List Entry

-- the pages that are the fold of the entries
abbrev pub pages_of : Posted → Shown
pages_of p = run p.start (records p.entries)

-- ---- what readers are answered; nothing is there before the first publication

abbrev pub value_in : Option Posted → Bytes → Option Bytes
value_in None key = None
value_in (Some p) key = finite.get (plain p.start.leaves (records p.entries)) key

-- a key with its value, if it has one
abbrev pub pair_in : Option Posted → Bytes → Option (Bytes × Bytes)
pair_in p key = with_key key (value_in p key)

abbrev pub leaf_in : Option Posted → ℕ → Option Leaf
leaf_in None page = None
leaf_in (Some p) page = leaf_at page (pages_of p).leaves

-- a pair with the least key at or above one, if there is one
abbrev pub IsFirstIn : Option Posted → Bytes → Option (Bytes × Bytes) → Type 0
IsFirstIn None key pair = pair ≡ None
IsFirstIn (Some p) key pair = IsFirst (plain p.start.leaves (records p.entries)) key pair

-- the pairs at or above a key, in order and no more than so many
abbrev pub IsStretchIn : Option Posted → Bytes → ℕ → Pairs → Type 0
IsStretchIn None key most pairs = pairs ≡ []
IsStretchIn (Some p) key most pairs = IsStretch (plain p.start.leaves (records p.entries)) key most pairs

abbrev pub entries_in : Option Posted → List Entry
entries_in None = []
entries_in (Some p) = p.entries

-- ---- start and entries of a list of batches; `specs/Laws.antt` says the same of the whole list

abbrev pub begun : Option Shown → List Entry → Option Posted
begun None es = None
begun (Some start) es = Some (record { start = start; entries = es })

-- with one batch more: the first brings the start
abbrev pub brings : Option Posted → BatchData → Option Posted
brings None b = begun b.start b.entries
brings (Some p) b = Some (record p { entries = p.entries ++ b.entries })

abbrev pub posted_of : List BatchData → Option Posted
posted_of bs = fold brings None bs

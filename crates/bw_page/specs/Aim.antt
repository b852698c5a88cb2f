-- Where a record changes leaves.

use Rattle.std.specs.Prelude.{ℕ, ◌+◌, ◌<◌, ◌≡◌, List, Result, length}
use Rattle.bw_record.specs.Lawful.{IsOp}
use Rattle.bw_record.specs.Record.{key_of}
use Rattle.bw_record.specs.declared.leaf.Leaf.{Leaf}
use Rattle.bw_record.specs.declared.record.Record.{Record}
use Rattle.bw_leaf.specs.Changed.{Bytes}
use Rattle.bw_page.specs.Leaves.{home, result_of}
use Rattle.bw_page.specs.Shown.{Shown, IsHere}
use Rattle.bw_leaf.specs.Seek.{seek_of, IsWithin}

-- a search for a key among the pairs of its page ended so
abbrev pub IsFound : List Leaf → Bytes → Result ℕ ℕ → Type 0
IsFound leaves key found = (found ≡ seek_of key (home key leaves).pairs) × IsWithin (length (home key leaves).pairs) found

-- the leaf that a record changes is in memory, at this index; it would have so many pairs, and the search for the
-- record's key ended so in it
pub record IsAim (f : Shown) (r : Record) (at count : ℕ) (found : Result ℕ ℕ) : Type 0 where
  pub here : IsHere (key_of r) f
  pub page : at + 1 ≡ (home (key_of r) f.leaves).page
  pub within : at < length f.leaves
  pub lawful : IsOp r
  pub pairs : count ≡ length (result_of f.leaves r).pairs
  pub sought : found ≡ seek_of (key_of r) (home (key_of r) f.leaves).pairs
  pub ends : IsWithin (length (home (key_of r) f.leaves).pairs) found

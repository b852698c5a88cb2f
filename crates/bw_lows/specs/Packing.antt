-- A low as it stands in memory: its first eight bytes as a number, and its bytes if they are more.

use Rattle.std.specs.Prelude.{ℕ, ◌≡◌, ◌≤◌, cond, List, length, take}
use Rattle.std.specs.Int.{w64, to_be_bytes}
use Rattle.bw_record.specs.Keys.{IsBytes}
use Rattle.bw_record.specs.Heads.{head}
use Rattle.bw_lows.specs.LowHeads.{Bytes}
use Rattle.bw_lows.specs.declared.entry.Entry.TheInside.{Inside}

-- a number in eight bytes, the highest first
unfoldable pub eight_bytes : ℕ → List ℕ
eight_bytes x = to_be_bytes w64 x

abbrev pub low_of : Inside → Bytes
low_of a = cond a.short (take a.count (eight_bytes a.first)) a.whole.items

pub record IsEntry (a : Inside) : Type 0 where
  pub first : head (low_of a) ≡ a.first
  pub bytes : IsBytes (low_of a)
  pub key : (1 ≤ length (low_of a)) × (length (low_of a) ≤ 128)
  pub count : a.count ≤ 8

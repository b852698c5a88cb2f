-- What is read of blocks whose records and pairs stay where they lie, and of frames that are known.

use Rattle.std.specs.Prelude.{ℕ, ◌+◌, nat_lt, if◌then◌else◌, Option, Some, None, List, length}
use Rattle.bw_record.specs.Version.{key_limit}
use Rattle.bw_record.specs.declared.record.Record.{Record}
use Rattle.bw_record.specs.declared.record.Record.TheVariants.{Put, Del}
use Rattle.bw_record.specs.declared.block.Place.{Place}
use Rattle.bw_codec.specs.declared.head.Head.{Head}
use Rattle.bw_codec.specs.declared.check.FrameSeen.{FrameSeen}
use Rattle.bw_codec.specs.declared.check.FrameSeen.TheVariants.{Whole, Tail}
use Rattle.bw_codec.specs.Reading.{Found, ◌>>=◌, number_at, text_at, page_at, place_at, head_at}

-- a record by its key, and its value if it puts one
abbrev pub record_of : List ℕ → Option (List ℕ) → Record
record_of key None = Del key
record_of key (Some value) = Put key value

-- the page, the link back and the number of records
unfoldable pub delta_parts : List ℕ → Found (ℕ × Place × ℕ)
delta_parts bytes = do
  page ← page_at bytes
  back ← place_at page.1
  count ← number_at 2 back.1
  Some ((page.0, back.0, count.0), count.1)

-- the page, the low key and the number of pairs
unfoldable pub base_parts : ℕ → List ℕ → Found (ℕ × List ℕ × ℕ)
base_parts v bytes = do
  page ← page_at bytes
  low ← text_at 0 (key_limit v) page.1
  count ← number_at 2 low.1
  Some ((page.0, low.0, count.0), count.1)

-- the page and its link back, the new page's low key and number, and the number of its pairs
unfoldable pub split_parts : ℕ → List ℕ → Found (ℕ × Place × List ℕ × ℕ × ℕ)
split_parts v bytes = do
  page ← page_at bytes
  back ← place_at page.1
  low ← text_at 0 (key_limit v) back.1
  made ← number_at 4 low.1
  count ← number_at 2 made.1
  Some ((page.0, back.0, low.0, made.0, count.0), count.1)

-- a frame by its head, if so many bytes are there
abbrev pub headed : Found Head → FrameSeen
headed None = Tail
headed (Some head) = if nat_lt (length head.1) head.0.body then Tail else Whole head.0.number (head.0.body + 20)

unfoldable pub frame_found : ℕ → ℕ → List ℕ → FrameSeen
frame_found v f bytes = if nat_lt (length bytes) 20 then Tail else headed (head_at v f bytes)

-- What bytes say, read from left to right: the inverse of the spelling in `Grammar`.

use Rattle.std.specs.Prelude.{ℕ, zero, suc, ◌+◌, ◌≡◌, ◌==◌, nat_lt, nat_eq, Bool, false, if◌then◌else◌, Option, Some, None, Result, Ok, Err, List, [], ◌∷◌}
use Rattle.std.specs.Prelude.{length, take, drop}
use lib.Pointwise.{pointwise}
use Rattle.byteorder.specs.Endian.{little_number}
use Rattle.bw_record.specs.Version.{key_limit, value_limit, value_width}
use Rattle.bw_record.specs.Keys.{ascends}
use Rattle.bw_codec.specs.Grammar.{agrees, frame_word, segment_word, is_head, is_header}
use Rattle.bw_record.specs.declared.record.Record.{Record}
use Rattle.bw_record.specs.declared.record.Record.TheVariants.{Put, Del}
use Rattle.bw_record.specs.declared.leaf.Leaf.{Leaf}
use Rattle.bw_record.specs.declared.block.Place.{Place}
use Rattle.bw_record.specs.declared.block.Block.{Block}
use Rattle.bw_record.specs.declared.block.Block.TheVariants.{Delta, Base, Split}
use Rattle.bw_codec.specs.declared.head.Head.{Head}
use Rattle.bw_codec.specs.declared.head.Header.{Header}
use Rattle.bw_codec.specs.declared.head.FrameRead.{FrameRead}
use Rattle.bw_codec.specs.declared.head.FrameRead.TheVariants.{Whole, Tail}
use Rattle.bw_codec.specs.declared.head.HeaderRead.{HeaderRead}
use Rattle.bw_codec.specs.declared.head.HeaderRead.TheVariants as heading
use Rattle.bw_codec.specs.declared.fault.CodecFault.{CodecFault}
use Rattle.bw_codec.specs.declared.fault.CodecFault.TheVariants.{NoMemory, BadBytes}

-- what was read, and the bytes after it
abbrev pub Found : Type 0 → Type 0
Found X = Option (X × List ℕ)

infixl 10 ◌>>=◌
abbrev pub ◌>>=◌ : {A B : Type 0} → Option A → (A → Option B) → Option B
None >>= f = None
(Some x) >>= f = f x

-- a number in n bytes, the lowest first
abbrev pub number_at : ℕ → List ℕ → Found ℕ
number_at n bytes = if nat_lt (length bytes) n then None else Some (little_number n bytes, drop n bytes)

-- one byte of length, and that many bytes
abbrev pub run_at : List ℕ → Found (List ℕ)
run_at [] = None
run_at (n ∷ rest) = if nat_lt (length rest) n then None else Some (take n rest, drop n rest)

-- one byte of length, which is within bounds, and that many bytes
unfoldable pub text_at : ℕ → ℕ → List ℕ → Found (List ℕ)
text_at low high bytes = do
  run ← run_at bytes
  if nat_lt (length run.0) low then None else if nat_lt high (length run.0) then None else Some run

-- a value of a format: its length, and that many bytes
unfoldable pub value_at : ℕ → List ℕ → Found (List ℕ)
value_at v bytes = do
  size ← number_at (value_width v) bytes
  if nat_lt (value_limit v) size.0 then None
      else if nat_lt (length size.1) size.0 then None else Some (take size.0 size.1, drop size.0 size.1)

abbrev pub put_at : ℕ → List ℕ → Found Record
put_at v bytes = do
  key ← text_at 1 (key_limit v) bytes
  value ← value_at v key.1
  Some (Put key.0 value.0, value.1)

abbrev pub del_at : ℕ → List ℕ → Found Record
del_at v bytes = do
  key ← text_at 1 (key_limit v) bytes
  Some (Del key.0, key.1)

unfoldable pub op_at : ℕ → List ℕ → Found Record
op_at v [] = None
op_at v (tag ∷ bytes) = if tag == 1 then put_at v bytes else if tag == 2 then del_at v bytes else None

unfoldable pub pair_at : ℕ → List ℕ → Found (List ℕ × List ℕ)
pair_at v bytes = do
  key ← text_at 1 (key_limit v) bytes
  value ← value_at v key.1
  Some ((key.0, value.0), value.1)

-- n things, one after the other
unfoldable pub many_at : {X : Type 0} → (List ℕ → Found X) → ℕ → List ℕ → Found (List X)
many_at one zero bytes = Some ([], bytes)
many_at one (suc n) bytes = do
  first ← one bytes
  others ← many_at one n first.1
  Some (first.0 ∷ others.0, others.1)

unfoldable pub place_at : List ℕ → Found Place
place_at bytes = do
  frame ← number_at 8 bytes
  index ← number_at 4 frame.1
  if nat_lt frame.0 1 then None else Some (record { frame = frame.0; index = index.0 }, index.1)

unfoldable pub page_at : List ℕ → Found ℕ
page_at bytes = do
  page ← number_at 4 bytes
  if nat_lt page.0 1 then None else Some page

unfoldable pub pairs_at : ℕ → ℕ → List ℕ → Found (List (List ℕ × List ℕ))
pairs_at v m bytes = do
  count ← number_at 2 bytes
  if nat_lt m count.0 then None else (do
    pairs ← many_at (pair_at v) count.0 count.1
    if ascends pairs.0 then Some pairs else None)

unfoldable pub delta_at : ℕ → List ℕ → Found Block
delta_at v bytes = do
  page ← page_at bytes
  back ← place_at page.1
  count ← number_at 2 back.1
  if nat_lt count.0 1 then None else (do
    ops ← many_at (op_at v) count.0 count.1
    Some (Delta page.0 back.0 ops.0, ops.1))

unfoldable pub base_at : ℕ → ℕ → List ℕ → Found Block
base_at v m bytes = do
  page ← page_at bytes
  low ← text_at 0 (key_limit v) page.1
  pairs ← pairs_at v m low.1
  Some (Base (record { page = page.0; low = low.0; pairs = pairs.0 }), pairs.1)

-- whether the first pair's key is the low key
abbrev pub is_led : List ℕ → List (List ℕ × List ℕ) → Bool
is_led low [] = false
is_led low (p ∷ ps) = pointwise nat_eq p.0 low

-- the new page of a split
unfoldable pub upper_at : ℕ → ℕ → List ℕ → Found Leaf
upper_at v m bytes = do
  low ← text_at 0 (key_limit v) bytes
  page ← number_at 4 low.1
  pairs ← pairs_at v m page.1
  if nat_lt page.0 2 then None else if is_led low.0 pairs.0 then Some (record { page = page.0; low = low.0; pairs = pairs.0 }, pairs.1) else None

unfoldable pub split_at : ℕ → ℕ → List ℕ → Found Block
split_at v m bytes = do
  page ← page_at bytes
  back ← place_at page.1
  upper ← upper_at v m back.1
  if upper.0.page == page.0 then None else Some (Split page.0 back.0 upper.0, upper.1)

unfoldable pub block_at : ℕ → ℕ → List ℕ → Found Block
block_at v m [] = None
block_at v m (tag ∷ bytes) =
    if tag == 1 then delta_at v bytes else if tag == 2 then base_at v m bytes else if tag == 3 then split_at v m bytes else None

unfoldable pub head_at : ℕ → ℕ → List ℕ → Found Head
head_at v f bytes =
    if agrees bytes (frame_word v) then (do
      number ← number_at 8 (drop 4 bytes)
      body ← number_at 4 number.1
      blocks ← number_at 4 body.1
      if is_head f (record { number = number.0; body = body.0; blocks = blocks.0 }) then Some
          (record { number = number.0; body = body.0; blocks = blocks.0 }, blocks.1) else None)
    else None

-- what stands at the front, if that is lawful
unfoldable pub front_at : ℕ → ℕ → ℕ → List ℕ → Option FrameRead
front_at v m f bytes =
    if nat_lt (length bytes) 20 then (if agrees bytes (frame_word v) then Some Tail else None)
    else (do
      head ← head_at v f bytes
      if nat_lt (length head.1) head.0.body then Some Tail
          else (do
            blocks ← many_at (block_at v m) head.0.blocks (take head.0.body head.1)
            if length blocks.1 == 0 then Some (Whole (record { number = head.0.number; blocks = blocks.0 }) (head.0.body + 20)) else None))

-- what a fault says of what reading gives: nothing if memory ran out, and else that it gives
-- nothing
abbrev pub Says : {Y : Type 0} → CodecFault → Option Y → Type 0
Says NoMemory read = Unit {0}
Says BadBytes read = read ≡ None

-- what a function returned, seen by view, is what reading gives, unless memory ran out
abbrev pub Gives : {X Y : Type 0} → (X → Y) → Result X CodecFault → Option Y → Type 0
Gives view (Ok x) read = read ≡ Some (view x)
Gives view (Err fault) read = Says fault read

-- the format whose word the first bytes agree with, if there is one: of a beginning of both words, format 1
abbrev pub version_in : List ℕ → ℕ
version_in bytes = if agrees bytes (segment_word 1) then 1 else 2

-- the numbers in the first 24 bytes
abbrev pub header_in : List ℕ → Header
header_in bytes = record { version = version_in bytes; number = little_number 8 (drop 8 bytes); m = little_number 2 (drop 16 bytes); f = little_number 4 (drop 20 bytes) }

unfoldable pub heading_of : List ℕ → HeaderRead
heading_of bytes =
    if agrees bytes (segment_word (version_in bytes)) then (
    if nat_lt (length bytes) 24 then (if nat_lt 0 (length bytes) then heading.Part else heading.Bad)
    else if little_number 2 (drop 18 bytes) == 0 then (if is_header (header_in bytes) then heading.Whole (header_in bytes) else heading.Bad) else heading.Bad)
    else heading.Bad

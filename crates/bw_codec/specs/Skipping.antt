-- What stands after a block and each part of it, found only by their lengths.

use Rattle.std.specs.Prelude.{ℕ, zero, suc, ◌==◌, nat_lt, length, drop, if◌then◌else◌, Option, Some, None, List, [], ◌∷◌}
use Rattle.byteorder.specs.Endian.{little_number}
use Rattle.bw_record.specs.Version.{value_width}
use Rattle.bw_codec.specs.Reading.{Found, ◌>>=◌, number_at, run_at, place_at, page_at}

-- the bytes after a run of bytes and its length
abbrev pub run_after : List ℕ → Option (List ℕ)
run_after bytes = run_at bytes >>= λ run. Some run.1

-- the bytes after a value
unfoldable pub value_after : ℕ → List ℕ → Option (List ℕ)
value_after v bytes =
    number_at (value_width v) bytes >>= λ size. if nat_lt (length size.1) size.0 then None else Some (drop size.0 size.1)

-- the bytes after a pair
unfoldable pub pair_after : ℕ → List ℕ → Option (List ℕ)
pair_after v bytes = run_after bytes >>= λ rest. value_after v rest

-- the bytes after a record
unfoldable pub op_after : ℕ → List ℕ → Option (List ℕ)
op_after v [] = None
op_after v (tag ∷ bytes) = run_after bytes >>= λ rest. if tag == 1 then value_after v rest else Some rest

-- the bytes after n things
unfoldable pub many_after : (List ℕ → Option (List ℕ)) → ℕ → List ℕ → Option (List ℕ)
many_after one zero bytes = Some bytes
many_after one (suc n) bytes = one bytes >>= λ rest. many_after one n rest

-- the bytes after a count and that many things
unfoldable pub counted_after : (List ℕ → Option (List ℕ)) → List ℕ → Option (List ℕ)
counted_after one bytes = number_at 2 bytes >>= λ count. many_after one count.0 count.1

-- a block's pages, and the bytes after it
abbrev pub Pages : Type 0
Pages = ℕ × Option ℕ

-- its page and its link back are 16 bytes
unfoldable pub delta_after : ℕ → List ℕ → Found Pages
delta_after v bytes = if nat_lt (length bytes) 16 then None else (do
  rest ← counted_after (op_after v) (drop 16 bytes)
  Some ((little_number 4 bytes, None), rest))

unfoldable pub base_after : ℕ → List ℕ → Found Pages
base_after v bytes = do
  page ← page_at bytes
  low ← run_after page.1
  rest ← counted_after (pair_after v) low
  Some ((page.0, None), rest)

-- the page that a Split makes
unfoldable pub upper_after : ℕ → List ℕ → Found ℕ
upper_after v bytes = do
  low ← run_after bytes
  page ← number_at 4 low
  rest ← counted_after (pair_after v) page.1
  Some (page.0, rest)

unfoldable pub split_after : ℕ → List ℕ → Found Pages
split_after v bytes = do
  page ← page_at bytes
  back ← place_at page.1
  upper ← upper_after v back.1
  Some ((page.0, Some upper.0), upper.1)

unfoldable pub block_after : ℕ → List ℕ → Found Pages
block_after v [] = None
block_after v (tag ∷ bytes) = if tag == 1 then delta_after v bytes else if tag == 2 then base_after v bytes else if tag == 3 then split_after v bytes else None

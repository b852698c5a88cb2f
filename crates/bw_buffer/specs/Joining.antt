-- A Delta joins the last block of its page, if that is a Delta too and has room for its records.

use Rattle.std.specs.Prelude.{ℕ, zero, suc, ◌+◌, nat_le, Bool, true, false, if◌then◌else◌, Option, Some, None, unwrap_or, List, [], ◌∷◌, ◌++◌, length}
use Rattle.std.specs.List.{fold}
use Rattle.bw_record.specs.Touch.{touches}
use Rattle.bw_record.specs.declared.record.Record.{Record}
use Rattle.bw_record.specs.declared.block.Block.{Block}
use Rattle.bw_record.specs.declared.block.Block.TheVariants.{Delta, Base, Split}

-- whether a block says how a page was changed
abbrev pub is_delta : Block → Bool
is_delta (Delta page back ops) = true
is_delta (Base leaf) = false
is_delta (Split page back upper) = false

-- what one more block does to the index of the last block of a page, if that is a Delta; the block
-- has this index
abbrev pub open_after : ℕ → ℕ → Block → Option ℕ → Option ℕ
open_after p i b was = if touches p b then (if is_delta b then Some i else None) else was

-- what blocks from an index on do to the index of the last block of a page, if that is a Delta
abbrev pub open_from : ℕ → ℕ → Option ℕ → List Block → Option ℕ
open_from p i was [] = was
open_from p i was (b ∷ bs) = open_from p (suc i) (open_after p i b was) bs

-- the index of the last block of a page, if that is a Delta
abbrev pub last_delta : ℕ → List Block → Option ℕ
last_delta p blocks = open_from p 0 None blocks

-- how many records a Delta has
abbrev pub records_in : Block → Option ℕ
records_in (Delta page back ops) = Some (length ops)
records_in (Base leaf) = None
records_in (Split page back upper) = None

-- what one more block does to the number of records of the last block of a page, if that is a Delta
abbrev pub records_after : ℕ → Option ℕ → Block → Option ℕ
records_after p was b = if touches p b then records_in b else was

-- how many records the last block of a page has, if that is a Delta
abbrev pub open_records : ℕ → List Block → Option ℕ
open_records p blocks = fold (records_after p) None blocks

-- whether so many records fit beside those of a Delta: its number of records has two bytes
abbrev pub takes : ℕ → Option ℕ → Bool
takes n None = false
takes n (Some was) = nat_le (was + n) 65535

-- the index of the block that a Delta of so many records of a page joins: the last block of the
-- page, if that is a Delta with room for them
abbrev pub joins_of : ℕ → ℕ → List Block → Option ℕ
joins_of n p blocks = if takes n (open_records p blocks) then last_delta p blocks else None

-- the index of the block that a Delta of one record of a page joins
abbrev pub joins : ℕ → List Block → Option ℕ
joins p blocks = joins_of 1 p blocks

-- a Delta with more records
abbrev pub with_ops : List Record → Block → Block
with_ops ops (Delta page back was) = Delta page back (was ++ ops)
with_ops ops (Base leaf) = Base leaf
with_ops ops (Split page back upper) = Split page back upper

-- more records in the block of an index
abbrev pub ops_added : ℕ → List Record → List Block → List Block
ops_added i ops [] = []
ops_added zero ops (b ∷ bs) = with_ops ops b ∷ bs
ops_added (suc i) ops (b ∷ bs) = b ∷ ops_added i ops bs

-- the records join the block of this index, or the block goes to the end
abbrev pub joined_by : Option ℕ → List Record → Block → List Block → List Block
joined_by None ops block blocks = blocks ++ block ∷ []
joined_by (Some i) ops block blocks = ops_added i ops blocks

-- blocks with one more
abbrev pub joined : List Block → Block → List Block
joined blocks (Delta page back ops) = joined_by (joins_of (length ops) page blocks) ops (Delta page back ops) blocks
joined blocks (Base leaf) = blocks ++ Base leaf ∷ []
joined blocks (Split page back upper) = blocks ++ Split page back upper ∷ []

-- blocks with more, one after the other
abbrev pub added : List Block → List Block → List Block
added blocks more = fold joined blocks more

-- where a block goes
abbrev pub index_for : List Block → Block → ℕ
index_for blocks (Delta page back ops) = unwrap_or (joins_of (length ops) page blocks) (length blocks)
index_for blocks (Base leaf) = length blocks
index_for blocks (Split page back upper) = length blocks

-- Where the blocks of a frame begin in it, and what a single block is.

use Rattle.std.specs.Prelude.{ℕ, ◌+◌, ◌≡◌, Option, Some, None, List, [], ◌∷◌, length, slice_get}
use Rattle.bw_codec.specs.Grammar.{block_bytes_in}
use Rattle.bw_record.specs.declared.block.Block.{Block}
use Rattle.bw_record.specs.declared.block.Frame.{Frame}

-- where blocks of a format begin, the first of them here
abbrev pub starts_from : ℕ → ℕ → List Block → List ℕ
starts_from v at [] = []
starts_from v at (b ∷ bs) = at ∷ starts_from v (at + length (block_bytes_in v b)) bs

-- where those of a frame begin, after its head of 20 bytes
abbrev pub starts_of : ℕ → Frame → List ℕ
starts_of v f = starts_from v 20 f.blocks

-- where a block ends, by where the next one begins
abbrev pub end_of : ℕ → Option ℕ → ℕ
end_of len None = len
end_of len (Some next) = next

-- the block of an index begins and ends here, in a frame of so many bytes
pub record IsSpan (starts : List ℕ) (len index : ℕ) (span : ℕ × ℕ) : Type 0 where
  pub from : slice_get starts index ≡ Some span.0
  pub to : span.1 ≡ end_of len (slice_get starts (index + 1))

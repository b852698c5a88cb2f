-- How many records the last Delta of a page has when one more block is added, and how long its front is.

use Rattle.std.specs.Prelude.{ℕ, ◌+◌, if◌then◌else◌, Option, Some, None, unwrap_or, length}
use Rattle.bw_record.specs.Touch.{touches}
use Rattle.bw_record.specs.declared.block.Block.{Block}
use Rattle.bw_record.specs.declared.block.Block.TheVariants.{Delta, Base, Split}
use Rattle.bw_buffer.specs.Joining.{takes}

-- how many records a Delta has that so many join, or that begins with them
abbrev pub grown : Option ℕ → ℕ → ℕ
grown was n = if takes n was then unwrap_or was 0 + n else n

abbrev pub records_by : Option ℕ → Block → Option ℕ
records_by was (Delta page back ops) = Some (grown was (length ops))
records_by was (Base leaf) = None
records_by was (Split page back upper) = None

-- how many records the last block of a page has then, if that is a Delta
abbrev pub records_with : ℕ → Option ℕ → Block → Option ℕ
records_with p was b = if touches p b then records_by was b else was

-- how many bytes stand before the records of a Delta: none more if they join this block
abbrev pub front_length : Option ℕ → ℕ
front_length None = 19
front_length (Some i) = 0

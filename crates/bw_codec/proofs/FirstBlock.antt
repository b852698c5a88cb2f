-- The block at the front of bytes.

use Rattle.std.proofs.Common.{◌≡◌, ℕ, ◌^◌, ◌<◌, Some, List, sym, ap, ◌∙◌}
use Rattle.bw_codec.specs.Grammar.{IsFirst}
use Rattle.bw_codec.specs.Reading.{Says, block_at}
use Rattle.bw_record.specs.declared.block.Block.{Block}
use Rattle.bw_codec.specs.declared.fault.CodecFault.{CodecFault}
use Rattle.bw_codec.specs.declared.fault.CodecFault.TheVariants.{NoMemory, BadBytes}
use Rattle.bw_record.specs.Keys.{IsBytes}
use Rattle.bw_codec.proofs.Format.{found}
use Rattle.bw_codec.proofs.BlockFormat.{block_format}
use Rattle.bw_codec.proofs.Stepping.{no_both}

-- what was read stands there
pub block_there : (v : ℕ) → (m : ℕ) (bytes : List ℕ) (block : Block) (rest : List ℕ) → m < 2 ^ 16 → IsBytes bytes → block_at v m bytes ≡ Some (block, rest)
    → IsFirst v m bytes block
block_there v m bytes block rest small fits read =
    let taken = (block_format v m small).takes bytes block rest fits read in
    (taken.lawful, rest, taken.parts)

-- what stands there is read
pub block_read : (v : ℕ) → (m : ℕ) (bytes : List ℕ) (block : Block) → m < 2 ^ 16 → (there : IsFirst v m bytes block)
    → block_at v m bytes ≡ Some (block, there.1)
block_read v m bytes block small there = ap (block_at v m) there.2 ∙ (block_format v m small).again block there.1 there.0

pub only_block : (v : ℕ) → (m : ℕ) (bytes : List ℕ) (was : Block) (rest : List ℕ) → m < 2 ^ 16 → block_at v m bytes ≡ Some (was, rest)
    → (block : Block) → IsFirst v m bytes block → Some block ≡ Some was
only_block v m bytes was rest small read block there =
    ap (λ (x : Block × List ℕ). Some x.0) (found (sym (block_read v m bytes block small there) ∙ read))

pub no_block : (v : ℕ) → (m : ℕ) (bytes : List ℕ) (fault : CodecFault) → m < 2 ^ 16 → Says fault (block_at v m bytes)
    → (block : Block) → IsFirst v m bytes block → Says fault (Some block)
no_block v m bytes NoMemory small says block there = tt
no_block v m bytes BadBytes small says block there =
    absurd (no_both (block_at v m bytes) (block, there.1) says (block_read v m bytes block small there))

-- What is lawful where a page holds few pairs is lawful where it may hold more.

use Rattle.std.proofs.Common.{ℕ, ◌≤◌, List, [], ◌∷◌, arith}
use Rattle.std.specs.List.{AllByRecursion}
use Rattle.bw_codec.specs.Grammar.{IsBase, IsBlock}
use Rattle.bw_record.specs.declared.leaf.Leaf.{Leaf}
use Rattle.bw_record.specs.declared.block.Block.{Block}
use Rattle.bw_record.specs.declared.block.Block.TheVariants.{Delta, Base, Split}

pub base_wider : (m n : ℕ) (leaf : Leaf) → m ≤ n → IsBase m leaf → IsBase n leaf
base_wider m n leaf more law =
    record { page = law.page; low = law.low; count = (let few = law.count in omega arith); pairs = law.pairs; ascends = law.ascends }

-- a block under a limit of m pairs is one under each greater limit
pub block_wider : (m n : ℕ) (block : Block) → m ≤ n → IsBlock m block → IsBlock n block
block_wider m n (Delta page back ops) more law = law
block_wider m n (Base leaf) more law = base_wider m n leaf more law
block_wider m n (Split page back upper) more law =
    record { splits = law.splits; links = law.links; makes = base_wider m n upper more law.makes; low = law.low; count = law.count; new = law.new }

-- so are all blocks of a frame
pub blocks_wider : (m n : ℕ) (blocks : List Block) → m ≤ n → AllByRecursion (IsBlock m) blocks → AllByRecursion (IsBlock n) blocks
blocks_wider m n [] more laws = tt
blocks_wider m n (block ∷ blocks) more laws = (block_wider m n block more laws.0, blocks_wider m n blocks more laws.1)

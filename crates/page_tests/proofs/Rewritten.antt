-- What is lawful in any format may be written, and what is where a page holds few pairs is where it may hold more.

use Rattle.std.proofs.Common.{ℕ, ◌≤◌, Bool, true, false, List, [], ◌∷◌, arith}
use Rattle.std.specs.Prelude.{◌==◌, if◌then◌else◌}
use Rattle.std.specs.List.{AllByRecursion}
use Rattle.bw_record.specs.Version.{latest, key_limit, value_limit}
use Rattle.bw_record.specs.Lawful.{IsPairIn, IsOpIn}
use Rattle.bw_codec.specs.Grammar.{IsBaseIn, IsBlockIn, IsBlock}
use Rattle.bw_record.specs.declared.record.Record.{Record}
use Rattle.bw_record.specs.declared.record.Record.TheVariants.{Put, Del}
use Rattle.bw_record.specs.declared.leaf.Leaf.{Leaf}
use Rattle.bw_record.specs.declared.block.Block.{Block}
use Rattle.bw_record.specs.declared.block.Block.TheVariants.{Delta, Base, Split}

less_of : (old : Bool) (x y : ℕ) → x ≤ y → (if old then x else y) ≤ y
less_of true x y less = less
less_of false x y less = omega arith

key_bound : (v : ℕ) → key_limit v ≤ key_limit latest
key_bound v = less_of (v == 1) 64 128 (omega arith)

value_bound : (v : ℕ) → value_limit v ≤ value_limit latest
value_bound v = less_of (v == 1) 128 512 (omega arith)

pair_newer : (v : ℕ) (p : List ℕ × List ℕ) → IsPairIn v p → IsPairIn latest p
pair_newer v p law = (
  (law.0.0, let k = law.0.1 in let b = key_bound v in omega arith),
  let w = law.1 in let b = value_bound v in omega arith,
)

op_newer : (v : ℕ) (op : Record) → IsOpIn v op → IsOpIn latest op
op_newer v (Put key value) law = (
  (law.0.0, let k = law.0.1 in let b = key_bound v in omega arith),
  let w = law.1 in let b = value_bound v in omega arith,
)
op_newer v (Del key) law = (law.0, let k = law.1 in let b = key_bound v in omega arith)

all_newer : {X : Type 0} (P Q : X → Type 0) → ((x : X) → P x → Q x) → (xs : List X) → AllByRecursion P xs → AllByRecursion Q xs
all_newer P Q one [] laws = tt
all_newer P Q one (x ∷ xs) laws = (one x laws.0, all_newer P Q one xs laws.1)

base_newer : (v m n : ℕ) (leaf : Leaf) → m ≤ n → IsBaseIn v m leaf → IsBaseIn latest n leaf
base_newer v m n leaf more law = record {
  page = law.page;
  low = (let k = law.low in let b = key_bound v in omega arith);
  count = (let few = law.count in omega arith);
  pairs = all_newer (IsPairIn v) (IsPairIn latest) (pair_newer v) leaf.pairs law.pairs;
  ascends = law.ascends;
}

block_newer : (v m n : ℕ) (block : Block) → m ≤ n → IsBlockIn v m block → IsBlock n block
block_newer v m n (Delta page back ops) more law = record {
  changes = law.changes;
  links = law.links;
  count = law.count;
  each = all_newer (IsOpIn v) (IsOpIn latest) (op_newer v) ops law.each;
}
block_newer v m n (Base leaf) more law = base_newer v m n leaf more law
block_newer v m n (Split page back upper) more law = record {
  splits = law.splits;
  links = law.links;
  makes = base_newer v m n upper more law.makes;
  low = law.low;
  count = law.count;
  new = law.new;
}

pub blocks_newer : (v m n : ℕ) (blocks : List Block) → m ≤ n → AllByRecursion (IsBlockIn v m) blocks → AllByRecursion (IsBlock n) blocks
blocks_newer v m n [] more laws = tt
blocks_newer v m n (block ∷ blocks) more laws = (block_newer v m n block more laws.0, blocks_newer v m n blocks more laws.1)

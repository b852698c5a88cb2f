-- What holds between the formats.

use Rattle.std.proofs.Common.{◌≡◌, ℕ, List, [], ◌∷◌, get_or, ap, arith}
use Rattle.std.specs.List.{AllByRecursion}
use Rattle.bw_record.specs.Version.{latest}
use Rattle.bw_record.specs.Lawful.{IsPairIn, IsOpIn}
use Rattle.bw_codec.specs.Grammar.{IsBaseIn}
use Rattle.bw_codec.specs.Laws.{OldMayBeWritten, NoFrameOfBoth}
use Rattle.bw_record.specs.declared.record.Record.{Record}
use Rattle.bw_record.specs.declared.record.Record.TheVariants.{Put, Del}
use Rattle.bw_record.specs.declared.leaf.Leaf.{Leaf}
use Rattle.bw_record.specs.declared.block.Block.TheVariants.{Delta, Base, Split}

pair_newer : (p : List ℕ × List ℕ) → IsPairIn 1 p → IsPairIn latest p
pair_newer p law = ((law.0.0, let k = law.0.1 in omega arith), let w = law.1 in omega arith)

op_newer : (op : Record) → IsOpIn 1 op → IsOpIn latest op
op_newer (Put key value) law = ((law.0.0, let k = law.0.1 in omega arith), let w = law.1 in omega arith)
op_newer (Del key) law = (law.0, let k = law.1 in omega arith)

all_newer : {X : Type 0} (P Q : X → Type 0) → ((x : X) → P x → Q x) → (xs : List X) → AllByRecursion P xs → AllByRecursion Q xs
all_newer P Q one [] laws = tt
all_newer P Q one (x ∷ xs) laws = (one x laws.0, all_newer P Q one xs laws.1)

base_newer : (m : ℕ) (leaf : Leaf) → IsBaseIn 1 m leaf → IsBaseIn latest m leaf
base_newer m leaf law = record {
  page = law.page;
  low = (let k = law.low in omega arith);
  count = law.count;
  pairs = all_newer (IsPairIn 1) (IsPairIn latest) pair_newer leaf.pairs law.pairs;
  ascends = law.ascends;
}

pub old_may_be_written : OldMayBeWritten
old_may_be_written m (Delta page back ops) law =
    record { changes = law.changes; links = law.links; count = law.count; each = all_newer (IsOpIn 1) (IsOpIn latest) op_newer ops law.each }
old_may_be_written m (Base leaf) law = base_newer m leaf law
old_may_be_written m (Split page back upper) law =
    record { splits = law.splits; links = law.links; makes = base_newer m upper law.makes; low = law.low; count = law.count; new = law.new }

-- the fourth byte sets them apart
pub no_frame_of_both : NoFrameOfBoth
no_frame_of_both a b x y same =
    (let fourth : ◌≡◌ {A = ℕ} 49 50 = ap (λ (l : List ℕ). get_or l 3 0) same in absurd (omega (arith, fourth)))

-- How long lawful blocks are.

use Rattle.std.proofs.Common.{◌≡◌, ℕ, ◌+◌, ◌*◌, ◌≤◌, List, [], ◌∷◌, length, subst, arith, length-append}
use Rattle.std.specs.List.{flat_map, AllByRecursion}
use Rattle.bw_record.specs.Version.{latest, least_limit}
use Rattle.bw_codec.specs.Bytes.{text, value_bytes}
use Rattle.bw_record.specs.Lawful.{IsPair, IsOp}
use Rattle.bw_codec.specs.Grammar.{op_bytes, pair_bytes, block_bytes, body_bytes, IsHeader}
use Rattle.bw_codec.specs.Sizes.{BlockLengths, LargestBlocks, LargestFit}
use Rattle.bw_record.specs.declared.record.Record.{Record}
use Rattle.bw_record.specs.declared.record.Record.TheVariants.{Put, Del}
use Rattle.bw_codec.specs.declared.head.Header.{Header}
use Rattle.bw_record.specs.declared.block.Block.{Block}
use Rattle.bw_record.specs.declared.block.Block.TheVariants.{Delta, Base, Split}
use Rattle.bw_codec.proofs.Lengths.{length-value, length-delta, length-base, length-split}

short_op : (op : Record) → IsOp op → length (op_bytes op) ≤ 644
short_op (Put key value) h = let l = length-append (text key) (value_bytes latest value) in let w = length-value value in let a = h.0.1 in let b =
    h.1 in omega arith
short_op (Del key) h = let a = h.1 in omega arith

short_pair : (p : List ℕ × List ℕ) → IsPair p → length (pair_bytes p) ≤ 643
short_pair p h = let l = length-append (text p.0) (value_bytes latest p.1) in let w = length-value p.1 in let a = h.0.1 in let b = h.1 in omega arith

short_ops : (ops : List Record) → AllByRecursion IsOp ops → length (flat_map op_bytes ops) ≤ length ops * 644
short_ops [] h = omega arith
short_ops (op ∷ ops) h =
    let l = length-append (op_bytes op) (flat_map op_bytes ops) in let a = short_op op h.0 in let b = short_ops ops h.1 in omega arith

short_pairs : (ps : List (List ℕ × List ℕ)) → AllByRecursion IsPair ps → length (flat_map pair_bytes ps) ≤ length ps * 643
short_pairs [] h = omega arith
short_pairs (p ∷ ps) h =
    let l = length-append (pair_bytes p) (flat_map pair_bytes ps) in let a = short_pair p h.0 in let b = short_pairs ps h.1 in omega arith

pub block_lengths : BlockLengths
block_lengths = record {
  base = λ m leaf h. (let l = length-base leaf in let a = h.low in let b = h.count in let c = short_pairs leaf.pairs h.pairs in omega arith);
  delta = λ page back ops h. (let l = length-delta page back ops in let a = short_ops ops h.each in omega arith);
  split = λ m page back upper h.
      (let l = length-split page back upper in let a = h.makes.low in let c = short_pairs upper.pairs h.makes.pairs in omega arith);
}

-- the bytes of one block, and of two
length-one : (b : Block) → length (body_bytes (b ∷ [])) ≡ length (block_bytes b)
length-one b = omega (arith, length-append (block_bytes b) [])

length-two : (a b : Block) → length (body_bytes (a ∷ b ∷ [])) ≡ length (block_bytes a) + length (block_bytes b)
length-two a b = omega (arith, length-append (block_bytes a) (body_bytes (b ∷ [])), length-one b)

pub largest_blocks : LargestBlocks
largest_blocks = record {
  base = λ leaf h. (let l = length-one (Base leaf) in let a = block_lengths.base 32 leaf h in omega arith);
  delta = λ page back op h.
      (let l = length-one (Delta page back (op ∷ [])) in let a = block_lengths.delta page back (op ∷ []) h in omega arith);
  split = λ page back upper h few.
      (let l = length-one (Split page back upper) in let a = block_lengths.split 32 page back upper h in omega arith);
  both = λ page back op parent link upper h k.
      (let l = length-two (Delta page back (op ∷ [])) (Split parent link upper) in let a = block_lengths.delta page back (op ∷ []) h in
      let b = block_lengths.split 32 parent link upper k in let few = k.makes.count in omega arith);
}

-- the frame limit of a segment that may be written
fitting : (h : Header) → IsHeader h → h.version ≡ latest → 65536 ≤ h.f
fitting h law is = subst (λ (v : ℕ). least_limit v ≤ h.f) is law.f.0

pub largest_fit : LargestFit
largest_fit = record {
  base = λ h leaf law is k. (let l = length-one (Base leaf) in let a = block_lengths.base h.m leaf k in
      let m = law.m in let f = fitting h law is in omega arith);
  delta = λ h page back op law is k. (let l = length-one (Delta page back (op ∷ [])) in let a = block_lengths.delta page back (op ∷ []) k in
      let f = fitting h law is in omega arith);
  both = λ h page back op parent link upper law is d k.
      (let l = length-two (Delta page back (op ∷ [])) (Split parent link upper) in let a = block_lengths.delta page back (op ∷ []) d in
      let b = block_lengths.split h.m parent link upper k in let few = k.makes.count in let m = law.m in let f = fitting h law is in omega arith);
}

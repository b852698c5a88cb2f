use Rattle.std.proofs.Common.{◌≡◌, ◌+◌, length, arith, ap, subst, sym}
use Rattle.std.specs.List.{flat_map}
use Rattle.bw_codec.specs.Grammar.{op_bytes, pair_bytes, block_bytes}
use Rattle.bw_record.specs.declared.block.Block.{Block}
use Rattle.bw_codec.proofs.Lengths.{length-delta, length-base, length-split}
use Rattle.bw_codec.proofs.encoder.block_length.Goals as goal

pub returns-in-Delta-clause-value : goal.returns-in-Delta-clause-value
returns-in-Delta-clause-value c =
    let ops : c.ops_length.result ≡ length (flat_map op_bytes c.in-Delta.ops) = rw (← c.as_slice.ensures) c.ops_length.ensures.value in
    subst (λ (b : Block). 19 + c.ops_length.result ≡ length (block_bytes b)) (sym c.in-Delta.is)
    (omega (arith, ops, length-delta c.in-Delta.page c.in-Delta.back c.in-Delta.ops))

pub returns-in-Base-clause-value : goal.returns-in-Base-clause-value
returns-in-Base-clause-value c =
    let leaf = c.in-Base.leaf in
    let low : length c.as_slice-in-Base.result.now ≡ length leaf.low = ap length c.as_slice-in-Base.ensures in
    let pairs : c.pairs_length.result ≡ length (flat_map pair_bytes leaf.pairs) = rw (← c.as_slice-in-Base-2.ensures) c.pairs_length.ensures.value in
    subst (λ (b : Block). 8 + length c.as_slice-in-Base.result.now + c.pairs_length.result ≡ length (block_bytes b)) (sym c.in-Base.is)
    (omega (arith, low, pairs, length-base leaf))

pub returns-in-Split-clause-value : goal.returns-in-Split-clause-value
returns-in-Split-clause-value c =
    let leaf = c.in-Split.upper in
    let low : length c.as_slice-in-Split.result.now ≡ length leaf.low = ap length c.as_slice-in-Split.ensures in
    let pairs : c.pairs_length-in-Split.result ≡ length (flat_map pair_bytes leaf.pairs) =
    rw (← c.as_slice-in-Split-2.ensures) c.pairs_length-in-Split.ensures.value in
    subst (λ (b : Block). 24 + length c.as_slice-in-Split.result.now + c.pairs_length-in-Split.result ≡ length (block_bytes b)) (sym c.in-Split.is)
    (omega (arith, low, pairs, length-split c.in-Split.page c.in-Split.back leaf))

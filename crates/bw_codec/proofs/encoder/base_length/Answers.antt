use Rattle.std.proofs.Common.{◌≡◌, length, arith, ap}
use Rattle.std.specs.List.{flat_map}
use Rattle.bw_codec.specs.Grammar.{pair_bytes}
use Rattle.bw_codec.proofs.Lengths.{length-base}
use Rattle.bw_codec.proofs.encoder.base_length.Goals as goal

pub returns-clause-value : goal.returns-clause-value
returns-clause-value c =
    let leaf = c.args.leaf.now in
    let low : length c.as_slice.result.now ≡ length leaf.low = ap length c.as_slice.ensures in
    let pairs : c.pairs_length.result ≡ length (flat_map pair_bytes leaf.pairs) = rw (← c.as_slice-2.ensures) c.pairs_length.ensures.value in
    omega (arith, low, pairs, length-base leaf)

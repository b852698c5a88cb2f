use Rattle.std.proofs.Common.{◌≡◌, ◌+◌, ◌++◌, ℕ, List, length, take, arith, ap, length-append}
use Rattle.std.specs.List.{flat_map}
use Rattle.bw_record.specs.Version.{latest}
use Rattle.bw_codec.specs.Bytes.{text, value_bytes}
use Rattle.bw_codec.specs.Grammar.{pair_bytes}
use Rattle.bw_codec.proofs.Adding.{taken_more}
use Rattle.bw_codec.proofs.Lengths.{length-value}
use Rattle.bw_codec.proofs.encoder.pairs_length.Goals as goal

pub loop-pair-preserved : goal.loop-pair-preserved
loop-pair-preserved c =
    let pairs = c.args.pairs.now in
    let i = c.loop-pair.pair-index in
    let p = c.pair-item.result in
    let more = taken_more pair_bytes pairs i p c.loop-pair-test.true c.pair-item.is in
    let all : length (flat_map pair_bytes (take (i + 1) pairs)) ≡ length (flat_map pair_bytes (take i pairs) ++ pair_bytes p) =
    ap (λ (l : List ℕ). length l) more in
    let key : length c.key.result.now ≡ length p.0 = ap (λ (l : List ℕ). length l) c.key.ensures.value in
    let value : length c.value.result.now ≡ length p.1 = ap (λ (l : List ℕ). length l) c.value.ensures.value in
    let short = c.key.ensures.lawful.1 in
    let small = c.value.ensures.lawful in
    record {
      value = omega (
        arith,
        c.loop-pair.invariant.value,
        key,
        value,
        all,
        length-append (flat_map pair_bytes (take i pairs)) (pair_bytes p),
        length-append (text p.0) (value_bytes latest p.1),
        length-value p.1,
      );
      small = omega (arith, c.loop-pair.invariant.small, key, value, short, small);
    }

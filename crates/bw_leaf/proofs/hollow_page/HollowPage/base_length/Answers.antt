use Rattle.std.proofs.Common.{◌≡◌, length, arith, ap, sym, ◌∙◌}
use Rattle.std.specs.List.{flat_map}
use Rattle.bw_codec.specs.Grammar.{pair_bytes}
use Rattle.bw_codec.proofs.Lengths.{length-base}
use Rattle.bw_record.specs.declared.leaf.Leaf.{Leaf}
use Rattle.bw_leaf.specs.Changed.{Pairs}
use Rattle.bw_leaf.specs.Hollow.{hollow}
use Rattle.bw_leaf.proofs.HollowLaws.{same_spelled}
use Rattle.bw_leaf.proofs.hollow_page.HollowPage.base_length.Goals as goal

pub returns-clause-value : goal.returns-clause-value
returns-clause-value c =
    let leaf = c.args.self.now in
    let low : length c.as_slice.result.now ≡ length leaf.low =
    ap length (c.as_slice.ensures ∙ c.self.invariant.low ∙ ap (λ (l : Leaf). l.low) c.self.view_is) in
    let pairs : c.spelled_length.result ≡ length (flat_map pair_bytes leaf.pairs) =
    c.spelled_length.ensures.value ∙ same_spelled c.self.inside.pairs
    ∙ ap (λ (ps : Pairs). length (flat_map pair_bytes ps)) (c.self.invariant.pairs ∙ ap (λ (l : Leaf). hollow l.pairs) c.self.view_is)
    ∙ sym (same_spelled leaf.pairs) in
    omega (arith, low, pairs, length-base leaf)

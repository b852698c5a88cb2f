use Rattle.std.proofs.Common.{◌≡◌, ◌-◌}
use Rattle.bw_codec.specs.Skipping.{many_after, pair_after}
use Rattle.bw_codec.proofs.outline.skip_pairs.Given as goal

abbrev pub invariant-loop-i : goal.invariant-loop-i
invariant-loop-i l = many_after (pair_after l.version) (l.count - l._i) l.rest ≡ many_after (pair_after l.version) l.count l.bytes

-- What comes is what came at first, once bad pairs are read over.
use Rattle.std.proofs.Common.{◌≡◌, Some, IfSome}
use Rattle.bw_pairs.specs.Records.{Reading, next_answer}
use Rattle.bw_pairs.specs.Readings.{reading_of}
use Rattle.bw_pairs.proofs.input.Pairs.next_record.Given as goal

abbrev pub invariant-loop : goal.invariant-loop
invariant-loop g l = IfSome (reading_of g.I.Read.remaining l.initial.self) (λ first.
    (now : Reading) × (reading_of g.I.Read.remaining l.self ≡ Some now) × (next_answer now ≡ next_answer first))

-- What the lines that are left say of the header is what all of them say.
use Rattle.std.proofs.Common.{◌≡◌, Some, IfSome, Ok}
use Rattle.bw_pairs.specs.declared.dump.Header.TheVariants.{First}
use Rattle.bw_pairs.specs.Records.{Place, headed}
use Rattle.bw_pairs.specs.Readings.{place_of, OnlyMoved}
use Rattle.bw_pairs.proofs.Heading.{HasMore}
use Rattle.bw_pairs.proofs.input.Pairs.read_header.Given as goal

abbrev pub invariant-loop : goal.invariant-loop
invariant-loop g l = HasMore l.header × IfSome (place_of g.I.Read.remaining l.initial.self.lines) (λ first.
    (now : Place) × (place_of g.I.Read.remaining l.self.lines ≡ Some now)
    × (headed (Ok l.header) now.number now.lines ≡ headed (Ok First) first.number first.lines))
    × (l.self.form ≡ l.initial.self.form) × OnlyMoved l.initial.self l.self

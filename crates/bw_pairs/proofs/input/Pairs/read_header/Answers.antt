use Rattle.std.proofs.Common.{◌≡◌, Ok, Err, Some, IfSome, sym, subst, rules}
use Rattle.bw_pairs.specs.declared.dump.Header.TheVariants.{First}
use Rattle.bw_pairs.specs.Faults.{fault_line}
use Rattle.bw_pairs.specs.Records.{Place, next_place, next_headed, headed}
use Rattle.bw_pairs.specs.Readings.{place_of, Knows}
use Rattle.bw_pairs.proofs.Steps.{with_place, at_place}
use Rattle.bw_pairs.proofs.Heading.{header_failed}
use Rattle.bw_pairs.proofs.input.Pairs.read_header.Goals as goal

pub returns-in_err-header-clause-known : goal.returns-in_err-header-clause-known
returns-in_err-header-clause-known g c =
    let fault = c.in_err-header.field-0.0 in
    let was : c.from_residual.result ≡ Err fault = search rules in
    let after = place_of g.I.Read.remaining c.header_then.new.self.lines in
    with_place (place_of g.I.Read.remaining c.args.self.now.lines) _ _ (λ first h.
    let (now, at, same) = h in
    let all = headed (Ok First) first.number first.lines in
    subst (λ r. Knows r all.letters all.place after) (sym was)
    (header_failed c.loop.header fault now all after c.loop.invariant.0 same
    (at_place (place_of g.I.Read.remaining c.loop.self.lines) now
    (λ place. IfSome (fault_line fault) (λ line. (next_headed c.loop.header place ≡ Err line.1) × (line.0 ≡ (next_place place).number) × (after ≡ Some (next_place place))))
    at c.in_err-header.ensures.known)))
    c.loop.invariant.1

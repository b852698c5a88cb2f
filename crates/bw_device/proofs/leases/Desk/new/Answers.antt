use Rattle.std.proofs.Common.{◌≡◌, ℕ, ap, ◌∙◌, map, is_some, replicate, None, false, arith}
use lib.LanesLaws.{map-replicate}
use Rattle.bw_device.proofs.leases.Desk.new.Goals as goal

pub returns-clause-free : goal.returns-clause-free
returns-clause-free c =
    let at_end : c.loop.counter ≡ c.args.n = omega arith in
    ap (map is_some) c.loop.invariant.0 ∙ map-replicate is_some c.loop.counter None ∙ ap (λ (n : ℕ). replicate n false) at_end

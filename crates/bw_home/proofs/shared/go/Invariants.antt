-- The home is ready, a leg adds nothing to what is said of the answer, and if the next leg is to be
-- the first one, the home is begun.
use Rattle.bw_device.specs.Memory.{memory_holding}
use Rattle.bw_file.specs.FileHolding.{file_holding}
use Rattle.bw_home.specs.Beginning.{IsSharedBegunBeside}
use Rattle.bw_home.specs.Sharing.{IsSharedBeside}
use Rattle.bw_home.proofs.Readings.{by_kind}
use Rattle.bw_home.proofs.shared.go.Given as goal

abbrev pub invariant-legs : goal.invariant-legs
invariant-legs g l =
    (goal.iterator-legs g).can_next l.iterator' × (goal.iterator-legs g).is_finite l.iterator'
    × IsSharedBeside l.home (by_kind (λ _. memory_holding) (λ _. file_holding))
    × ((answer : _) → g.L.SharedLegs.says l.legs answer → g.L.SharedLegs.says l.fn.legs answer)
    × (g.L.SharedLegs.begins l.legs → IsSharedBegunBeside l.home (by_kind (λ _. memory_holding) (λ _. file_holding)))

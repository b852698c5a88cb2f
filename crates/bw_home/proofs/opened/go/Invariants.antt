-- The home is ready, a leg adds nothing to what is said of the answer, and if the next leg is to be
-- the first one, the home is begun.
use Rattle.bw_device.specs.Memory.{memory_holding}
use Rattle.bw_file.specs.FileHolding.{file_holding}
use Rattle.bw_home.specs.Beginning.{IsBegunBeside}
use Rattle.bw_home.specs.Ready.{IsReadyBeside}
use Rattle.bw_home.proofs.Readings.{by_kind}
use Rattle.bw_home.proofs.opened.go.Given as goal

abbrev pub invariant-legs : goal.invariant-legs
invariant-legs g l =
    (goal.iterator-legs g).can_next l.iterator' × (goal.iterator-legs g).is_finite l.iterator'
    × IsReadyBeside l.home (by_kind (λ _. memory_holding) (λ _. file_holding))
    × ((answer : _) → g.L.Legs.says l.legs answer → g.L.Legs.says l.fn.legs answer)
    × (g.L.Legs.begins l.legs → IsBegunBeside l.home (by_kind (λ _. memory_holding) (λ _. file_holding)))

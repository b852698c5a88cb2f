use Rattle.bw_leaf.specs.Forwards.{blocks_of}
use Rattle.bw_lines.proofs.FoundStand.{blocks_lawful}
use Rattle.bw_lines.proofs.StandingAgain.{stands_again}
use Rattle.bw_care.proofs.laws.standing_pages_are_right.Goals as goal

pub returns : goal.returns
returns c = λ m frames leaves laws stand.
    stands_again m (blocks_of frames) leaves (record { lawful = stand.lawful; each = stand.each; all = stand.all }) (blocks_lawful m frames laws)

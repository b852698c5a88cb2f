use Rattle.std.proofs.Common.{ap}
use Rattle.bw_rescue.specs.declared.held.Walk.{Walk}
use Rattle.bw_rescue.proofs.WholeTaken.{pushed}
use Rattle.bw_rescue.proofs.held.Walk.take.Goals as goal
use Rattle.bw_rescue.proofs.held.Walk.take.Goals.{in-Unchecked, in-Sound}

pub returns-clause-taken : goal.returns-clause-taken
returns-clause-taken c = elim c.match-worth.branch [
  | in-Unchecked w ↦ λ header bytes taken this more. pushed header bytes c.args.self.now.last c.args.self.now.spots.items c.args.number c.args.self.now.at
      c.match-worth.self.spots.items c.match-worth.self.at c.push.new.self.items
      (ap (λ (x : Walk). x.spots.items) w.self-is) (ap (λ (x : Walk). x.at) w.self-is) c.in_ok-push.ensures.items taken this more
  | in-Sound w ↦ λ header bytes taken this more. pushed header bytes c.args.self.now.last c.args.self.now.spots.items c.args.number c.args.self.now.at
      c.match-worth.self.spots.items c.match-worth.self.at c.push.new.self.items
      (ap (λ (x : Walk). x.spots.items) w.self-is) (ap (λ (x : Walk). x.at) w.self-is) c.in_ok-push.ensures.items taken this more
]

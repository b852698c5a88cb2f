use Rattle.std.proofs.Common.{◌≡◌, take}
use Rattle.bw_log.specs.Spans.{last_upto}
use Rattle.bw_log.proofs.log.Log.last_upto.Given as goal

abbrev pub invariant-lines : goal.invariant-lines
invariant-lines g l = l.last ≡ last_upto l.segment (take l.line-index l.self.frames.items)

use Rattle.std.proofs.Common.{rules, ap, ◌∙◌}
use Rattle.bw_device.specs.Holding.{Holding}
use Rattle.bw_device.specs.Fuse.{failures_of}
use Rattle.bw_device.specs.declared.fuse.FuseSegment.{FuseSegment}
use Rattle.bw_device.proofs.fuse.FuseSegmentSegment.append.Goals as goal

pub returns-clause-torn : goal.returns-clause-torn
returns-clause-torn c =
    ap (λ (h : Holding). record h { failed = failures_of c.burn.new.self.passes }) c.add_first.ensures ∙ search rules

pub returns-clause-passes_left : goal.returns-clause-passes_left
returns-clause-passes_left c = ap (λ (s : FuseSegment). s.passes) c.burn.ensures.after

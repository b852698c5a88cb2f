use Rattle.std.proofs.Common.{◌≡◌, take}
use Rattle.bw_making.specs.Share.{ops_at}
use Rattle.bw_making.proofs.overlay.overlay_of.Given as goal

abbrev pub invariant-marks : goal.invariant-marks
invariant-marks l = l.records.items ≡ ops_at l.page (take l.i l.making.blocks)

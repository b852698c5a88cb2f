use Rattle.std.proofs.Common.{◌≡◌, false, take}
use Rattle.bw_making.specs.Overlay.{is_made}
use Rattle.bw_making.proofs.overlay.makes.Given as goal

abbrev pub invariant-marks : goal.invariant-marks
invariant-marks l = is_made l.page (take l.i l.making.blocks) ≡ false

use Rattle.std.proofs.Common.{◌∙◌, ap}
use Rattle.bw_file.proofs.FoundSoFar.{found_one, found_none}
use Rattle.bw_file.proofs.names.leases_in.Goals.{then-has_file-lease+in-Ok, else-has_file-lease}
use Rattle.bw_file.proofs.names.leases_in.Goals as goal

pub loop-lease-preserved : goal.loop-lease-preserved
loop-lease-preserved g c =
    elim c.if-has_file-lease.branch [
      | then-has_file-lease+in-Ok w ↦ found_one c.loop-lease.lease c.loop-lease.leases.items c.if-has_file-lease.leases.items
          (ap (λ v. v.items) w.leases-is ∙ w.in-Ok.ensures.items) c.loop-lease.invariant
      | else-has_file-lease w ↦ found_none c.loop-lease.lease c.loop-lease.leases.items c.if-has_file-lease.leases.items
          (ap (λ v. v.items) w.leases-is) c.loop-lease.invariant
    ]

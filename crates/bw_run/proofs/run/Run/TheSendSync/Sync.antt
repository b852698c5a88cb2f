use denote.Param.Send.{IsSync, struct_sync, sendable}
use denote.Struct.Owning.{shape, to}
use Rattle.bw_run.proofs.Crosses.{shared_anywhere}
use Rattle.bw_run.specs.contracts.run.Run.{the_row, the_type}

pub sync : IsSync the_row
sync = record { shared = λ d b o κ. ((struct_sync (shape the_type) (search sendable, (search sendable, tt))).shared (to the_type d) b o κ, shared_anywhere d.ptr d.bytes κ) }

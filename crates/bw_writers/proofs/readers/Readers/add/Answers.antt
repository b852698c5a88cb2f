use denote.Param.Send.{sendable}
use Rattle.std.proofs.Crossing.{crosses}
use Rattle.bw_versions.proofs.Crossing.{reader_crosses}
use Rattle.bw_writers.proofs.readers.Courses.TheSendSync as courses
use Rattle.bw_writers.proofs.readers.Readers.add.Goals as goal

pub spawn-requires-send-F : goal.spawn-requires-send-F
spawn-requires-send-F g c κs within = search (reader_crosses, courses.the_send, courses.the_sync, crosses, sendable) depth 60 fits 100000

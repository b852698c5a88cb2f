use denote.Param.Send.{sendable}
use Rattle.std.proofs.Crossing.{crosses}
use Rattle.bw_versions.proofs.Crossing.{reader_crosses}
use Rattle.store_tests.proofs.tests.reader.readers.race.Goals as goal

pub spawn-requires-send-F : goal.spawn-requires-send-F
spawn-requires-send-F g c κs within = search (reader_crosses, crosses, sendable) depth 60 fits 100000

use denote.Param.Sent.{Sends}
use denote.Param.Send.{sendable}
use Rattle.std.proofs.Crossing.{crosses}
use Rattle.file_tests.proofs.tests.Crossing.{watched_crosses}
use Rattle.file_tests.proofs.tests.recovered.box_of.Hides.{part-1-1}

pub sends-part-1-1 : Sends part-1-1
sends-part-1-1 = search (watched_crosses, crosses, sendable) depth 60 fits 100000

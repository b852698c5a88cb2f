use denote.Param.Sent.{Sends}
use denote.Param.Send.{sendable}
use Rattle.std.proofs.Crossing.{crosses}
use Rattle.bw_file.proofs.Crossing.{segment_crosses}
use Rattle.bw_home.proofs.opened.go.OwnLists.{part-1-2}

pub sends-part-1-2 : Sends part-1-2
sends-part-1-2 = search (segment_crosses, crosses, sendable) depth 60 fits 100000

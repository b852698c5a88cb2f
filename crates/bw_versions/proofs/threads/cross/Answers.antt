use denote.Param.Send.{sendable}
use Rattle.bw_versions.proofs.Crossing.{versions_cross, reader_crosses}
use Rattle.bw_versions.proofs.threads.cross.Goals as goal

pub is_shared-requires-send-T : goal.is_shared-requires-send-T
is_shared-requires-send-T c κs = search versions_cross depth 60 fits 100000

pub is_shared-requires-sync-T : goal.is_shared-requires-sync-T
is_shared-requires-sync-T c κs = search versions_cross depth 60 fits 100000

pub is_sent-requires-send-T : goal.is_sent-requires-send-T
is_sent-requires-send-T c κs = search versions_cross depth 60 fits 100000

pub is_sent-requires-2-send-T : goal.is_sent-requires-2-send-T
is_sent-requires-2-send-T c κs = search (reader_crosses, sendable)

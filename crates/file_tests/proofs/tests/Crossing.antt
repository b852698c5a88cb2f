-- That a watched segment in a file may cross threads, as bw_file shows it of one that nobody watches.
use denote.Param.Send.{IsSend, AllSend, recorded_send, struct_send, sendable}
use denote.Struct.Declared.{fields, shape}
use Rattle.core.proofs.once.OnceLock.TheSendSync as once
use Rattle.std.proofs.Crossing.{crosses}
use Rattle.std.specs.contracts.fs.File as File
use Rattle.bw_told.proofs.Sent.{told_send}
use Rattle.bw_file.specs.contracts.asked.Steps as Steps
use Rattle.bw_file.specs.contracts.segment.FileSegment as Segment
use Rattle.file_tests.specs.contracts.tests.watching.WatchedFile as Watched

fields_cross : AllSend (fields (Segment.the_type (Watched.the_row File.the_row)))
fields_cross = (
  search (crosses, sendable) depth 60 fits 100000,
  (
    search (once.the_send, once.the_sync, crosses, sendable) depth 60 fits 100000,
    (
      search (crosses, sendable) depth 60 fits 100000,
      (
        search (crosses, sendable) depth 60 fits 100000,
        (search (crosses, sendable) depth 60 fits 100000, (told_send Steps.the_row, tt)),
      ),
    ),
  ),
)

pub watched_crosses : IsSend (Segment.the_row (Watched.the_row File.the_row))
watched_crosses =
    let its = Segment.the_type (Watched.the_row File.the_row) in
    recorded_send _ _ its.to its.to_one (struct_send (shape its) fields_cross)

-- That a segment in a file may cross threads. Its fields are shown one by one, since a search from
-- nothing gives up.
use denote.Param.Send.{IsSend, AllSend, recorded_send, struct_send, sendable}
use denote.Struct.Declared.{fields, shape}
use Rattle.core.proofs.once.OnceLock.TheSendSync as once
use Rattle.std.proofs.Crossing.{crosses}
use Rattle.std.specs.contracts.fs.File as File
use Rattle.bw_told.proofs.Sent.{told_send}
use Rattle.bw_file.specs.contracts.asked.Steps as Steps
use Rattle.bw_file.specs.contracts.segment.FileSegment as Segment

fields_cross : AllSend (fields (Segment.the_type File.the_row))
fields_cross = (
  search (crosses, sendable) depth 60 fits 100000,
  (
    search (once.the_send, once.the_sync, crosses, sendable) depth 60 fits 100000,
    (
      search (crosses, sendable) depth 60 fits 100000,
      (
        search (crosses, sendable) depth 60 fits 100000,
        (search (crosses, sendable) depth 60 fits 100000, (told_send Steps.the_row, tt)),
      ),
    ),
  ),
)

-- whoever makes a box of one names this one
pub segment_crosses : IsSend (Segment.the_row File.the_row)
segment_crosses =
    let its = Segment.the_type File.the_row in
    recorded_send _ _ its.to its.to_one (struct_send (shape its) fields_cross)

use Rattle.std.proofs.Common.{◌-◌, List, ◌++◌, length}
use Rattle.bw_record.specs.declared.block.Place.{Place}
use Rattle.bw_record.specs.declared.block.Block.{Block}
use Rattle.bw_record.specs.declared.block.Frame.{Frame}
use Rattle.bw_log.specs.Places.{all_placed}
use Rattle.bw_log.specs.declared.places.FrameAt.{FrameAt}
use Rattle.bw_lines.specs.Reading.{IsRead}
use Rattle.bw_care.proofs.FrontsRead.{IsReadTo}
use Rattle.bw_care.proofs.finding.find_frames.Given as goal

-- some frames were read, and their blocks are in the map
abbrev pub invariant-frames : goal.invariant-frames
invariant-frames l = record {
  seen : (seen : List Frame) × (told : List FrameAt) × IsReadTo l.header l.bytes l.at seen told
      × ((done : List (Place × Block)) → IsRead l.first done l.initial.lines → IsRead l.first (done ++ all_placed seen) l.lines);
}

abbrev pub decreases-frames : goal.decreases-frames
decreases-frames l = length l.bytes - l.at

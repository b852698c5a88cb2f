-- Which frames a segment has.

use Rattle.std.specs.Prelude.{ℕ, nat_le, if◌then◌else◌, List}
use Rattle.std.specs.List.{fold}
use Rattle.bw_log.specs.declared.places.FrameAt.{FrameAt}

-- the number of the last frame in the segments up to this one, by the lines of the frames; 0 if
-- there is none
abbrev pub last_upto : ℕ → List FrameAt → ℕ
last_upto segment lines = fold (λ last line. if nat_le line.segment segment then line.number else last) 0 lines

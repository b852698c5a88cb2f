-- The definitions on worked bytes: one segment of one frame, two segments whose links lead to a segment that was given
-- up, and the frames of a page that is split in two.

use Rattle.std.proofs.Common.{◌≡◌, ℕ, Some, None, true, false, List, [], ◌∷◌, ◌++◌, length, take, refl}
use Rattle.bw_codec.specs.Bytes.{number_bytes}
use Rattle.bw_codec.specs.Reading.{front_at, heading_of, text_at, value_at, op_at, pair_at, many_at, place_at, page_at, pairs_at, delta_at, base_at}
use Rattle.bw_codec.specs.Reading.{upper_at, split_at}
use Rattle.bw_codec.specs.Reading.{block_at, head_at}
use Rattle.bw_record.specs.declared.block.Block.TheVariants.{Delta}
use Rattle.bw_record.specs.declared.block.Frame.{Frame}
use Rattle.bw_device.specs.Holding.{Holding}
use Rattle.bw_log.specs.Places.{place_of, base_of, bad_link, all_placed, first_number, AreLinked}
use Rattle.bw_log.specs.Segments.{segment_frames, frames_at, frames_of, next_of}
use Rattle.bw_log.specs.Contents.{Image, roster, counted_in, counted_at}
use Rattle.bw_log.specs.Limits.{fresh}
use Rattle.log_tests.specs.Examples.{first_example, split_frame_1, split_frame_2, split_frame_3, split_frame_4, split_frame_5, after_first_example}
use Rattle.log_tests.specs.Examples.{after_second_example, rewritten_example}

-- one segment: frame 1 sets page 1, and then gives it k=v
abbrev pub first_segment : List ℕ
first_segment =
    66 ∷ 87 ∷ 76 ∷ 79 ∷ 71 ∷ 83 ∷ 71 ∷ 50 ∷ 1 ∷ 0 ∷ 0 ∷ 0 ∷ 0 ∷ 0 ∷ 0 ∷ 0 ∷ 4 ∷ 0 ∷ 0 ∷ 0 ∷ 0 ∷ 0 ∷ 1 ∷ 0 ∷ 70 ∷ 82 ∷ 77 ∷ 50 ∷ 1 ∷ 0 ∷ 0 ∷ 0 ∷ 0 ∷
    0 ∷ 0 ∷ 0 ∷ 33 ∷ 0 ∷ 0 ∷ 0 ∷ 2 ∷ 0 ∷ 0 ∷ 0 ∷ 2 ∷ 1 ∷ 0 ∷ 0 ∷ 0 ∷ 0 ∷ 0 ∷ 0 ∷ 1 ∷ 1 ∷ 0 ∷ 0 ∷ 0 ∷ 1 ∷ 0 ∷ 0 ∷ 0 ∷ 0 ∷ 0 ∷ 0 ∷ 0 ∷ 0 ∷ 0 ∷ 0 ∷ 0 ∷
    1 ∷ 0 ∷ 1 ∷ 1 ∷ 107 ∷ 1 ∷ 0 ∷ 118 ∷ []

pub first_is_read : segment_frames first_segment ≡ first_example ∷ []
unfolding segment_frames frames_at heading_of front_at text_at value_at op_at pair_at many_at place_at page_at pairs_at delta_at base_at upper_at
    split_at block_at
    head_at number_bytes
first_is_read = refl

-- torn at its last byte it holds no whole frame, and torn in its header none either
first_is_torn : segment_frames (take 76 first_segment) ++ segment_frames (take 23 first_segment) ≡ []
unfolding segment_frames frames_at heading_of front_at text_at value_at op_at pair_at many_at place_at page_at pairs_at delta_at base_at upper_at
    split_at block_at
    head_at number_bytes
first_is_torn = refl

first_places : (place_of 1 (first_example ∷ []) ≡ Some (record { frame = 1; index = 1 }))
    × (base_of 1 (first_example ∷ []) ≡ Some (record { frame = 1; index = 0 })) × (place_of 2 (first_example ∷ []) ≡ None)
first_places = (refl, refl, refl)

first_links : (bad_link 1 [] (all_placed (first_example ∷ [])) ≡ None) × (next_of (first_example ∷ []) ≡ Some 2)
first_links = (refl, refl)

-- the segments 2 and 3 of a log that gave up segment 1: frame 2 links back to frame 1, and the cleaner's frame 4 sets page 1
abbrev pub older_segment : List ℕ
older_segment =
    66 ∷ 87 ∷ 76 ∷ 79 ∷ 71 ∷ 83 ∷ 71 ∷ 50 ∷ 2 ∷ 0 ∷ 0 ∷ 0 ∷ 0 ∷ 0 ∷ 0 ∷ 0 ∷ 4 ∷ 0 ∷ 0 ∷ 0 ∷ 0 ∷ 0 ∷ 1 ∷ 0 ∷ 70 ∷ 82 ∷ 77 ∷ 50 ∷ 2 ∷ 0 ∷ 0 ∷ 0 ∷ 0 ∷
    0 ∷ 0 ∷ 0 ∷ 25 ∷ 0 ∷ 0 ∷ 0 ∷ 1 ∷ 0 ∷ 0 ∷ 0 ∷ 1 ∷ 1 ∷ 0 ∷ 0 ∷ 0 ∷ 1 ∷ 0 ∷ 0 ∷ 0 ∷ 0 ∷ 0 ∷ 0 ∷ 0 ∷ 1 ∷ 0 ∷ 0 ∷ 0 ∷ 1 ∷ 0 ∷ 1 ∷ 1 ∷ 106 ∷ 1 ∷ 0 ∷
    50 ∷ []

abbrev pub newer_segment : List ℕ
newer_segment =
    66 ∷ 87 ∷ 76 ∷ 79 ∷ 71 ∷ 83 ∷ 71 ∷ 50 ∷ 3 ∷ 0 ∷ 0 ∷ 0 ∷ 0 ∷ 0 ∷ 0 ∷ 0 ∷ 4 ∷ 0 ∷ 0 ∷ 0 ∷ 0 ∷ 0 ∷ 1 ∷ 0 ∷ 70 ∷ 82 ∷ 77 ∷ 50 ∷ 3 ∷ 0 ∷ 0 ∷ 0 ∷ 0 ∷
    0 ∷ 0 ∷ 0 ∷ 25 ∷ 0 ∷ 0 ∷ 0 ∷ 1 ∷ 0 ∷ 0 ∷ 0 ∷ 1 ∷ 1 ∷ 0 ∷ 0 ∷ 0 ∷ 2 ∷ 0 ∷ 0 ∷ 0 ∷ 0 ∷ 0 ∷ 0 ∷ 0 ∷ 0 ∷ 0 ∷ 0 ∷ 0 ∷ 1 ∷ 0 ∷ 1 ∷ 1 ∷ 107 ∷ 1 ∷ 0 ∷
    51 ∷ 70 ∷ 82 ∷ 77 ∷ 50 ∷ 4 ∷ 0 ∷ 0 ∷ 0 ∷ 0 ∷ 0 ∷ 0 ∷ 0 ∷ 18 ∷ 0 ∷ 0 ∷ 0 ∷ 1 ∷ 0 ∷ 0 ∷ 0 ∷ 2 ∷ 1 ∷ 0 ∷ 0 ∷ 0 ∷ 0 ∷ 2 ∷ 0 ∷ 1 ∷ 106 ∷ 1 ∷ 0 ∷ 50 ∷
    1 ∷ 107 ∷ 1 ∷ 0 ∷ 51 ∷ []

abbrev cleaned : Image
cleaned = record {
  m = 4;
  f = 65536;
  number = 2;
  old_to = 0;
  is_open = true;
  is_failed = false;
  next = Some 5;
  bytes = older_segment ∷ newer_segment ∷ [];
  frames = [];
  pages = [];
}

cleaned_frames : counted_in cleaned ≡ after_first_example ∷ after_second_example ∷ rewritten_example ∷ []
unfolding segment_frames frames_at heading_of front_at text_at value_at op_at pair_at many_at place_at page_at pairs_at delta_at base_at upper_at
    split_at block_at
    head_at number_bytes
cleaned_frames = refl

cleaned_at : counted_at cleaned ≡ record { number = 2; segment = 2; at = 24; len = 45; starts = 20 ∷ [] }
    ∷ record { number = 3; segment = 3; at = 24; len = 45; starts = 20 ∷ [] } ∷ record { number = 4; segment = 3; at = 69; len = 38; starts = 20 ∷ [] } ∷ []
unfolding segment_frames frames_at heading_of front_at text_at value_at op_at pair_at many_at place_at page_at pairs_at delta_at base_at upper_at
    split_at block_at
    head_at number_bytes
cleaned_at = refl

cleaned_places : (place_of 1 (counted_in cleaned) ≡ Some (record { frame = 4; index = 0 }))
    × (base_of 1 (counted_in cleaned) ≡ Some (record { frame = 4; index = 0 }))
unfolding segment_frames frames_at heading_of front_at text_at value_at op_at pair_at many_at place_at page_at pairs_at delta_at base_at upper_at
    split_at block_at
    head_at number_bytes
cleaned_places = (refl, refl)

cleaned_links : (first_number (counted_in cleaned) ≡ 2) × (bad_link 2 [] (all_placed (counted_in cleaned)) ≡ None)
unfolding segment_frames frames_at heading_of front_at text_at value_at op_at pair_at many_at place_at page_at pairs_at delta_at base_at upper_at
    split_at block_at
    head_at number_bytes
cleaned_links = (refl, refl)

-- a log whose append of frame 4 failed does not count that frame, though all its bytes are there
abbrev failed : Image
failed = record cleaned { is_failed = true; next = Some 4 }

failed_count : (length (counted_in failed) ≡ 2) × (length (frames_of failed.bytes) ≡ 3) × (base_of 1 (counted_in failed) ≡ None)
unfolding segment_frames frames_at heading_of front_at text_at value_at op_at pair_at many_at place_at page_at pairs_at delta_at base_at upper_at
    split_at block_at
    head_at number_bytes
failed_count = (refl, refl, refl)

-- a link to an earlier block than the last one of its page is wrong, and so is one to a frame that is not there
wrong_link : bad_link 2 [] (all_placed (record { number = 2; blocks = Delta 1 (record { frame = 2; index = 0 }) [] ∷ [] } ∷ [])) ≡ Some 1
wrong_link = refl

-- page 1 is split in two by the second block of frame 5
abbrev split_frames : List Frame
split_frames = split_frame_1 ∷ split_frame_2 ∷ split_frame_3 ∷ split_frame_4 ∷ split_frame_5 ∷ []

lower_places : (place_of 1 split_frames ≡ Some (record { frame = 5; index = 1 })) × (base_of 1 split_frames ≡ Some (record { frame = 1; index = 0 }))
lower_places = (refl, refl)

upper_places : (place_of 2 split_frames ≡ Some (record { frame = 5; index = 1 })) × (base_of 2 split_frames ≡ Some (record { frame = 5; index = 1 }))
upper_places = (refl, refl)

split_links : AreLinked split_frames × (next_of split_frames ≡ Some 6)
split_links = (refl, refl)

-- ---- the roster

abbrev box : List ℕ → ℕ → Holding
box bytes lease = record { bytes = bytes; room = 65560; lease = lease; failed = 0 }

-- live segments first, then spares
its_roster : roster (record (fresh 4 65536 (box [] 3 ∷ [])) { live = box older_segment 1 ∷ box newer_segment 2 ∷ [] }) ≡ 1 ∷ 2 ∷ 3 ∷ []
its_roster = refl

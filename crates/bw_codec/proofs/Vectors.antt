-- The grammar on worked bytes: the frame of the first vector, and the frame with a Split of the second, both ways.

use Rattle.std.proofs.Common.{◌≡◌, ℕ, Some, List, [], ◌∷◌, refl}
use Rattle.bw_codec.specs.Bytes.{number_bytes}
use Rattle.bw_codec.specs.Grammar.{frame_bytes, frame_bytes_in, header_bytes}
use Rattle.bw_codec.specs.Reading.{front_at, heading_of, text_at, value_at, op_at, pair_at, many_at, place_at, page_at, pairs_at, delta_at, base_at}
use Rattle.bw_codec.specs.Reading.{upper_at, split_at}
use Rattle.bw_codec.specs.Reading.{block_at, head_at}
use Rattle.bw_record.specs.declared.record.Record.TheVariants.{Put}
use Rattle.bw_record.specs.declared.block.Block.TheVariants.{Delta, Base, Split}
use Rattle.bw_record.specs.declared.block.Frame.{Frame}
use Rattle.bw_codec.specs.declared.head.Header.{Header}
use Rattle.bw_codec.specs.declared.head.FrameRead.TheVariants.{Whole}
use Rattle.bw_codec.specs.declared.head.HeaderRead.TheVariants as heading

-- ---- format 1

-- segment 1, pages of at most 4 pairs, frames of at most 16,384 bytes
abbrev header : Header
header = record { version = 1; number = 1; m = 4; f = 16384 }

abbrev header_spelled : List ℕ
header_spelled = 66 ∷ 87 ∷ 76 ∷ 79 ∷ 71 ∷ 83 ∷ 71 ∷ 49 ∷ 1 ∷ 0 ∷ 0 ∷ 0 ∷ 0 ∷ 0 ∷ 0 ∷ 0 ∷ 4 ∷ 0 ∷ 0 ∷ 0 ∷ 0 ∷ 64 ∷ 0 ∷ 0 ∷ []

header_is_spelled : header_bytes header ≡ header_spelled
unfolding number_bytes
header_is_spelled = refl

header_is_read : heading_of header_spelled ≡ heading.Whole header
unfolding heading_of
header_is_read = refl

-- frame 1: page 1 is empty, and then has k=v
abbrev first_frame : Frame
first_frame = record {
  number = 1;
  blocks = Base (record { page = 1; low = []; pairs = [] }) ∷ Delta 1 (record { frame = 1; index = 0 }) (Put (107 ∷ []) (118 ∷ []) ∷ []) ∷ [];
}

abbrev first_spelled : List ℕ
first_spelled =
    70 ∷ 82 ∷ 77 ∷ 49 ∷ 1 ∷ 0 ∷ 0 ∷ 0 ∷ 0 ∷ 0 ∷ 0 ∷ 0 ∷ 32 ∷ 0 ∷ 0 ∷ 0 ∷ 2 ∷ 0 ∷ 0 ∷ 0 ∷ 2 ∷ 1 ∷ 0 ∷ 0 ∷ 0 ∷ 0 ∷ 0 ∷ 0 ∷ 1 ∷ 1 ∷ 0 ∷ 0 ∷ 0 ∷ 1 ∷ 0 ∷ 0 ∷ 0 ∷ 0 ∷
    0 ∷ 0 ∷ 0 ∷ 0 ∷ 0 ∷ 0 ∷ 0 ∷ 1 ∷ 0 ∷ 1 ∷ 1 ∷ 107 ∷ 1 ∷ 118 ∷ []

first_is_spelled : frame_bytes_in 1 first_frame ≡ first_spelled
unfolding number_bytes
first_is_spelled = refl

first_is_read : front_at 1 4 16384 first_spelled ≡ Some (Whole first_frame 52)
unfolding front_at text_at value_at op_at pair_at many_at place_at page_at pairs_at delta_at base_at upper_at split_at block_at head_at
first_is_read = refl

-- frame 5: page 1 has e=5, and then loses c, d and e to page 2
abbrev split_frame : Frame
split_frame = record {
  number = 5;
  blocks =
      Delta 1 (record { frame = 4; index = 0 }) (Put (101 ∷ []) (53 ∷ []) ∷ [])
      ∷ Split 1 (record { frame = 5; index = 0 })
      (record { page = 2; low = 99 ∷ []; pairs = (99 ∷ [], 51 ∷ []) ∷ (100 ∷ [], 52 ∷ []) ∷ (101 ∷ [], 53 ∷ []) ∷ [] })
      ∷ [];
}

abbrev split_spelled : List ℕ
split_spelled =
    70 ∷ 82 ∷ 77 ∷ 49 ∷ 5 ∷ 0 ∷ 0 ∷ 0 ∷ 0 ∷ 0 ∷ 0 ∷ 0 ∷ 61 ∷ 0 ∷ 0 ∷ 0 ∷ 2 ∷ 0 ∷ 0 ∷ 0 ∷ 1 ∷ 1 ∷ 0 ∷ 0 ∷ 0 ∷ 4 ∷ 0 ∷ 0 ∷ 0 ∷ 0 ∷ 0 ∷ 0 ∷ 0 ∷ 0 ∷ 0 ∷ 0 ∷ 0 ∷ 1 ∷
    0 ∷ 1 ∷ 1 ∷ 101 ∷ 1 ∷ 53 ∷ 3 ∷ 1 ∷ 0 ∷ 0 ∷ 0 ∷ 5 ∷ 0 ∷ 0 ∷ 0 ∷ 0 ∷ 0 ∷ 0 ∷ 0 ∷ 0 ∷ 0 ∷ 0 ∷ 0 ∷ 1 ∷ 99 ∷ 2 ∷ 0 ∷ 0 ∷ 0 ∷ 3 ∷ 0 ∷ 1 ∷ 99 ∷ 1 ∷ 51 ∷ 1 ∷
    100 ∷ 1 ∷ 52 ∷ 1 ∷ 101 ∷ 1 ∷ 53 ∷ []

split_is_spelled : frame_bytes_in 1 split_frame ≡ split_spelled
unfolding number_bytes
split_is_spelled = refl

split_is_read : front_at 1 4 16384 split_spelled ≡ Some (Whole split_frame 81)
unfolding front_at text_at value_at op_at pair_at many_at place_at page_at pairs_at delta_at base_at upper_at split_at block_at head_at
split_is_read = refl

-- ---- format 2

abbrev new_header : Header
new_header = record { version = 2; number = 1; m = 4; f = 65536 }

abbrev new_header_spelled : List ℕ
new_header_spelled = 66 ∷ 87 ∷ 76 ∷ 79 ∷ 71 ∷ 83 ∷ 71 ∷ 50 ∷ 1 ∷ 0 ∷ 0 ∷ 0 ∷ 0 ∷ 0 ∷ 0 ∷ 0 ∷ 4 ∷ 0 ∷ 0 ∷ 0 ∷ 0 ∷ 0 ∷ 1 ∷ 0 ∷ []

new_header_is_spelled : header_bytes new_header ≡ new_header_spelled
unfolding number_bytes
new_header_is_spelled = refl

new_header_is_read : heading_of new_header_spelled ≡ heading.Whole new_header
unfolding heading_of
new_header_is_read = refl

-- the first frame again: its value has two bytes of length
abbrev new_spelled : List ℕ
new_spelled =
    70 ∷ 82 ∷ 77 ∷ 50 ∷ 1 ∷ 0 ∷ 0 ∷ 0 ∷ 0 ∷ 0 ∷ 0 ∷ 0 ∷ 33 ∷ 0 ∷ 0 ∷ 0 ∷ 2 ∷ 0 ∷ 0 ∷ 0 ∷ 2 ∷ 1 ∷ 0 ∷ 0 ∷ 0 ∷ 0 ∷ 0 ∷ 0 ∷ 1 ∷ 1 ∷ 0 ∷ 0 ∷ 0 ∷ 1 ∷ 0 ∷ 0 ∷ 0 ∷ 0 ∷
    0 ∷ 0 ∷ 0 ∷ 0 ∷ 0 ∷ 0 ∷ 0 ∷ 1 ∷ 0 ∷ 1 ∷ 1 ∷ 107 ∷ 1 ∷ 0 ∷ 118 ∷ []

new_is_spelled : frame_bytes first_frame ≡ new_spelled
unfolding number_bytes
new_is_spelled = refl

new_is_read : front_at 2 4 65536 new_spelled ≡ Some (Whole first_frame 53)
unfolding front_at text_at value_at op_at pair_at many_at place_at page_at pairs_at delta_at base_at upper_at split_at block_at head_at
new_is_read = refl

-- The frames that the tests append.

use Rattle.std.specs.Prelude.{ℕ, ◌==◌, if◌then◌else◌, List, [], ◌∷◌, ◌++◌, replicate}
use Rattle.bw_record.specs.declared.record.Record.{Record}
use Rattle.bw_record.specs.declared.record.Record.TheVariants.{Put}
use Rattle.bw_record.specs.declared.leaf.Leaf.{Leaf}
use Rattle.bw_record.specs.declared.block.Block.{Block}
use Rattle.bw_record.specs.declared.block.Block.TheVariants.{Base, Split}
use Rattle.bw_record.specs.declared.block.Frame.{Frame}
use Rattle.log_tests.specs.OnePage.{leaf_with, put_of, put_after, first_with, frame_of_one}

-- page 1 was given this value, after the block at a place
abbrev pub put_block : ℕ → ℕ → ℕ → ℕ → Block
put_block frame index key value = put_after (record { frame = frame; index = index }) key value

-- an empty page 1, and k=v
abbrev pub first_blocks : List Block
first_blocks = first_with (put_of 107 118 ∷ [])

abbrev pub first_example : Frame
first_example = record { number = 1; blocks = first_blocks }

-- b=2, after the second block of frame 1
abbrev pub second_blocks : List Block
second_blocks = put_block 1 1 98 50 ∷ []

abbrev pub split_frame_2 : Frame
split_frame_2 = record { number = 2; blocks = second_blocks }

-- page 1 after it
abbrev pub first_leaf : Leaf
first_leaf = leaf_with ((107 ∷ [], 118 ∷ []) ∷ [])

-- ---- the vector of a page that is split in two

abbrev pub split_upper : Leaf
split_upper = record { page = 2; low = 99 ∷ []; pairs = (99 ∷ [], 51 ∷ []) ∷ (100 ∷ [], 52 ∷ []) ∷ (101 ∷ [], 53 ∷ []) ∷ [] }

abbrev pub opening_blocks : List Block
opening_blocks = first_with (put_of 97 49 ∷ [])

abbrev pub third_blocks : List Block
third_blocks = put_block 2 0 99 51 ∷ []

abbrev pub fourth_blocks : List Block
fourth_blocks = put_block 3 0 100 52 ∷ []

abbrev pub fifth_blocks : List Block
fifth_blocks = put_block 4 0 101 53 ∷ Split 1 (record { frame = 5; index = 0 }) split_upper ∷ []

abbrev pub split_frame_1 : Frame
split_frame_1 = record { number = 1; blocks = opening_blocks }

abbrev pub split_frame_3 : Frame
split_frame_3 = record { number = 3; blocks = third_blocks }

abbrev pub split_frame_4 : Frame
split_frame_4 = record { number = 4; blocks = fourth_blocks }

abbrev pub split_frame_5 : Frame
split_frame_5 = record { number = 5; blocks = fifth_blocks }

-- what each of the five frames has, by its number
abbrev pub split_blocks : ℕ → List Block
split_blocks n =
    if n == 1 then opening_blocks
    else if n == 2 then second_blocks
    else if n == 3 then third_blocks
    else if n == 4 then fourth_blocks
    else fifth_blocks

-- the frames before the one of this number, and all of them
abbrev pub split_frames : ℕ → List Frame
split_frames n =
    if n == 1 then []
    else if n == 2 then split_frame_1 ∷ []
    else if n == 3 then split_frame_1 ∷ split_frame_2 ∷ []
    else if n == 4 then split_frame_1 ∷ split_frame_2 ∷ split_frame_3 ∷ []
    else if n == 5 then split_frame_1 ∷ split_frame_2 ∷ split_frame_3 ∷ split_frame_4 ∷ []
    else split_frame_1 ∷ split_frame_2 ∷ split_frame_3 ∷ split_frame_4 ∷ split_frame_5 ∷ []

-- ---- the vector of a page whose older places were given up

abbrev pub after_first_example : Frame
after_first_example = frame_of_one 2 (put_block 1 1 106 50)

abbrev pub after_second_example : Frame
after_second_example = frame_of_one 3 (put_block 2 0 107 51)

-- page 1 as the cleaner writes it again
abbrev pub rewritten_example : Frame
rewritten_example = frame_of_one 4 (Base (leaf_with ((106 ∷ [], 50 ∷ []) ∷ (107 ∷ [], 51 ∷ []) ∷ [])))

-- ---- a frame of 65,536 bytes: 8 of an empty page 1, and a Delta of 126 puts of 517 bytes and one of 347

abbrev pub long_put : Record
long_put = Put (107 ∷ []) (replicate 512 118)

abbrev pub last_put : Record
last_put = Put (107 ∷ []) (replicate 342 119)

abbrev pub filling_blocks : List Block
filling_blocks = first_with (replicate 126 long_put ++ last_put ∷ [])

abbrev pub filling_example : Frame
filling_example = record { number = 1; blocks = filling_blocks }

abbrev pub filling_leaf : Leaf
filling_leaf = leaf_with ((107 ∷ [], replicate 342 119) ∷ [])

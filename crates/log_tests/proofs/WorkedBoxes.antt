-- What recovery says of worked boxes: the vectors torn, exchanged, doubled and changed.

use Rattle.std.proofs.Common.{◌≡◌, ℕ, suc, ◌+◌, Bool, true, Some, ap, ◌∙◌, Result, Ok, Err, List, [], ◌∷◌, ◌++◌, length, take, drop, refl}
use Rattle.std.specs.List.{AllByRecursion}
use Rattle.bw_record.specs.declared.leaf.Leaf.{Leaf}
use Rattle.bw_record.specs.declared.block.Block.TheVariants.{Base}
use Rattle.bw_codec.specs.Bytes.{number_bytes}
use Rattle.bw_codec.specs.Reading.{front_at, heading_of, text_at, value_at, op_at, pair_at, many_at, place_at, page_at, pairs_at, delta_at, base_at}
use Rattle.bw_codec.specs.Reading.{upper_at, split_at}
use Rattle.bw_codec.specs.Reading.{block_at, head_at}
use Rattle.bw_device.specs.Holding.{Holding}
use Rattle.bw_log.specs.Segments.{segment_frames, frames_at}
use Rattle.bw_care.specs.Scanning.{rest_of}
use Rattle.bw_lines.specs.Lawful.{is_at_fault, first_such, contents}
use Rattle.bw_care.specs.Recovery.{Finding, recovery, page_fault, page_fault_by}
use Rattle.bw_lines.specs.declared.cause.RecoverCause.{RecoverCause}
use Rattle.bw_lines.specs.declared.cause.RecoverCause.TheVariants.{BadConfig, Empty, BadBytes, Gap, Mixed, BadLink, Unlawful}
use Rattle.log_tests.proofs.Vectors.{first_segment, older_segment, newer_segment}

-- ---- two more worked segments

-- five frames, the last with a Delta and its Split
abbrev second : List ℕ
second =
    66 ∷ 87 ∷ 76 ∷ 79 ∷ 71 ∷ 83 ∷ 71 ∷ 50 ∷ 1 ∷ 0 ∷ 0 ∷ 0 ∷ 0 ∷ 0 ∷ 0 ∷ 0 ∷ 4 ∷ 0 ∷ 0 ∷ 0 ∷ 0 ∷ 0 ∷ 1 ∷ 0 ∷ 70 ∷ 82 ∷ 77 ∷ 50 ∷ 1 ∷ 0 ∷ 0 ∷ 0 ∷ 0 ∷
    0 ∷ 0 ∷ 0 ∷ 33 ∷ 0 ∷ 0 ∷ 0 ∷ 2 ∷ 0 ∷ 0 ∷ 0 ∷ 2 ∷ 1 ∷ 0 ∷ 0 ∷ 0 ∷ 0 ∷ 0 ∷ 0 ∷ 1 ∷ 1 ∷ 0 ∷ 0 ∷ 0 ∷ 1 ∷ 0 ∷ 0 ∷ 0 ∷ 0 ∷ 0 ∷ 0 ∷ 0 ∷ 0 ∷ 0 ∷ 0 ∷ 0 ∷
    1 ∷ 0 ∷ 1 ∷ 1 ∷ 97 ∷ 1 ∷ 0 ∷ 49 ∷ 70 ∷ 82 ∷ 77 ∷ 50 ∷ 2 ∷ 0 ∷ 0 ∷ 0 ∷ 0 ∷ 0 ∷ 0 ∷ 0 ∷ 25 ∷ 0 ∷ 0 ∷ 0 ∷ 1 ∷ 0 ∷ 0 ∷ 0 ∷ 1 ∷ 1 ∷ 0 ∷ 0 ∷ 0 ∷ 1 ∷
    0 ∷ 0 ∷ 0 ∷ 0 ∷ 0 ∷ 0 ∷ 0 ∷ 1 ∷ 0 ∷ 0 ∷ 0 ∷ 1 ∷ 0 ∷ 1 ∷ 1 ∷ 98 ∷ 1 ∷ 0 ∷ 50 ∷ 70 ∷ 82 ∷ 77 ∷ 50 ∷ 3 ∷ 0 ∷ 0 ∷ 0 ∷ 0 ∷ 0 ∷ 0 ∷ 0 ∷ 25 ∷ 0 ∷ 0 ∷
    0 ∷ 1 ∷ 0 ∷ 0 ∷ 0 ∷ 1 ∷ 1 ∷ 0 ∷ 0 ∷ 0 ∷ 2 ∷ 0 ∷ 0 ∷ 0 ∷ 0 ∷ 0 ∷ 0 ∷ 0 ∷ 0 ∷ 0 ∷ 0 ∷ 0 ∷ 1 ∷ 0 ∷ 1 ∷ 1 ∷ 99 ∷ 1 ∷ 0 ∷ 51 ∷ 70 ∷ 82 ∷ 77 ∷ 50 ∷ 4 ∷
    0 ∷ 0 ∷ 0 ∷ 0 ∷ 0 ∷ 0 ∷ 0 ∷ 25 ∷ 0 ∷ 0 ∷ 0 ∷ 1 ∷ 0 ∷ 0 ∷ 0 ∷ 1 ∷ 1 ∷ 0 ∷ 0 ∷ 0 ∷ 3 ∷ 0 ∷ 0 ∷ 0 ∷ 0 ∷ 0 ∷ 0 ∷ 0 ∷ 0 ∷ 0 ∷ 0 ∷ 0 ∷ 1 ∷ 0 ∷ 1 ∷ 1 ∷
    100 ∷ 1 ∷ 0 ∷ 52 ∷ 70 ∷ 82 ∷ 77 ∷ 50 ∷ 5 ∷ 0 ∷ 0 ∷ 0 ∷ 0 ∷ 0 ∷ 0 ∷ 0 ∷ 65 ∷ 0 ∷ 0 ∷ 0 ∷ 2 ∷ 0 ∷ 0 ∷ 0 ∷ 1 ∷ 1 ∷ 0 ∷ 0 ∷ 0 ∷ 4 ∷ 0 ∷ 0 ∷ 0 ∷ 0 ∷
    0 ∷ 0 ∷ 0 ∷ 0 ∷ 0 ∷ 0 ∷ 0 ∷ 1 ∷ 0 ∷ 1 ∷ 1 ∷ 101 ∷ 1 ∷ 0 ∷ 53 ∷ 3 ∷ 1 ∷ 0 ∷ 0 ∷ 0 ∷ 5 ∷ 0 ∷ 0 ∷ 0 ∷ 0 ∷ 0 ∷ 0 ∷ 0 ∷ 0 ∷ 0 ∷ 0 ∷ 0 ∷ 1 ∷ 99 ∷ 2 ∷
    0 ∷ 0 ∷ 0 ∷ 3 ∷ 0 ∷ 1 ∷ 99 ∷ 1 ∷ 0 ∷ 51 ∷ 1 ∷ 100 ∷ 1 ∷ 0 ∷ 52 ∷ 1 ∷ 101 ∷ 1 ∷ 0 ∷ 53 ∷ []

-- one frame of the greatest number, with the empty page 1
abbrev greatest : List ℕ
greatest =
    66 ∷ 87 ∷ 76 ∷ 79 ∷ 71 ∷ 83 ∷ 71 ∷ 50 ∷ 1 ∷ 0 ∷ 0 ∷ 0 ∷ 0 ∷ 0 ∷ 0 ∷ 0 ∷ 4 ∷ 0 ∷ 0 ∷ 0 ∷ 0 ∷ 0 ∷ 1 ∷ 0 ∷ 70 ∷ 82 ∷ 77 ∷ 50 ∷ 255 ∷ 255 ∷ 255 ∷
    255 ∷ 255 ∷ 255 ∷ 255 ∷ 255 ∷ 8 ∷ 0 ∷ 0 ∷ 0 ∷ 1 ∷ 0 ∷ 0 ∷ 0 ∷ 2 ∷ 1 ∷ 0 ∷ 0 ∷ 0 ∷ 0 ∷ 0 ∷ 0 ∷ []

-- ---- boxes and rows

-- bytes with others from an offset on
abbrev with : ℕ → List ℕ → List ℕ → List ℕ
with at piece bytes = take at bytes ++ (piece ++ drop (at + length piece) bytes)

abbrev box : List ℕ → Holding
box bytes = record { bytes = bytes; room = 65560; lease = 0; failed = 0 }

-- an empty box of this room
abbrev roomed : ℕ → Holding
roomed room = record { bytes = []; room = room; lease = 0; failed = 0 }

-- boxes, and what recovery says of them
abbrev Row : Type 0
Row = List Holding × Result Finding RecoverCause

abbrev found : List Leaf → ℕ → ℕ → ℕ → ℕ → Result Finding RecoverCause
found leaves first last tail dropped = Ok (record { leaves = leaves; first = first; last = last; tail = tail; dropped = dropped })

abbrev AreTold : List Row → Type 0
AreTold rows = AllByRecursion (λ r. recovery r.0 ≡ r.1) rows

-- the first page, of these pairs
abbrev page_one : List (List ℕ × List ℕ) → Leaf
page_one pairs = record { page = 1; low = []; pairs = pairs }

-- the second page of the second vector
abbrev page_two : Leaf
page_two = record { page = 2; low = 99 ∷ []; pairs = (99 ∷ [], 51 ∷ []) ∷ (100 ∷ [], 52 ∷ []) ∷ (101 ∷ [], 53 ∷ []) ∷ [] }

-- ---- what is said of them

-- whole vectors, in any order, beside a spare and a part of a header
pub vectors_whole : AreTold ((
  box second ∷ [],
  found (page_one ((97 ∷ [], 49 ∷ []) ∷ (98 ∷ [], 50 ∷ []) ∷ []) ∷ page_two ∷ []) 1 5 0 0,
) ∷
    (box greatest ∷ [], found (page_one [] ∷ []) 18446744073709551615 18446744073709551615 0 0) ∷
    (box older_segment ∷ box newer_segment ∷ [], found (page_one ((106 ∷ [], 50 ∷ []) ∷ (107 ∷ [], 51 ∷ []) ∷ []) ∷ []) 2 4 0 0) ∷
    (box newer_segment ∷ box older_segment ∷ [], found (page_one ((106 ∷ [], 50 ∷ []) ∷ (107 ∷ [], 51 ∷ []) ∷ []) ∷ []) 2 4 0 0) ∷
    (box first_segment ∷ box older_segment ∷ [], found (page_one ((106 ∷ [], 50 ∷ []) ∷ (107 ∷ [], 118 ∷ []) ∷ []) ∷ []) 1 2 0 0) ∷
    (box [] ∷ box first_segment ∷ box (take 3 first_segment) ∷ [], found (page_one ((107 ∷ [], 118 ∷ []) ∷ []) ∷ []) 1 1 0 1) ∷
    [])
unfolding segment_frames frames_at heading_of front_at text_at value_at op_at pair_at many_at place_at page_at pairs_at delta_at base_at upper_at
    split_at block_at
    head_at number_bytes rest_of first_such contents
vectors_whole = (refl, (refl, (refl, (refl, (refl, (refl, tt))))))

-- vectors torn, and with bytes after
pub vectors_cut : AreTold (
    (box (take 296 second) ∷ [], found (page_one ((97 ∷ [], 49 ∷ []) ∷ (98 ∷ [], 50 ∷ []) ∷ (99 ∷ [], 51 ∷ []) ∷ (100 ∷ [], 52 ∷ []) ∷ []) ∷ []) 1 4 84 0) ∷
    (box (take 76 second) ∷ [], Err Empty) ∷
    (box (take 24 first_segment) ∷ [], Err Empty) ∷
    (box (take 23 first_segment) ∷ [], Err Empty) ∷
    (box (first_segment ++ 88 ∷ []) ∷ [], Err (BadBytes 0 77)) ∷
    (box (first_segment ++ 70 ∷ []) ∷ [], found (page_one ((107 ∷ [], 118 ∷ []) ∷ []) ∷ []) 1 1 1 0) ∷
    ([], Err Empty) ∷
    [])
unfolding segment_frames frames_at heading_of front_at text_at value_at op_at pair_at many_at place_at page_at pairs_at delta_at base_at upper_at
    split_at block_at
    head_at number_bytes rest_of first_such contents
vectors_cut = (refl, (refl, (refl, (refl, (refl, (refl, (refl, tt)))))))

-- bytes that cannot be read
pub bytes_changed : AreTold (
    (box (with 27 (51 ∷ []) first_segment) ∷ [], Err (BadBytes 0 24)) ∷
    (box (with 16 (3 ∷ []) first_segment) ∷ [], Err (BadBytes 0 0)) ∷
    (box first_segment ∷ box (with 27 (51 ∷ []) older_segment) ∷ [], Err (BadBytes 1 24)) ∷
    (box (with 36 (255 ∷ 255 ∷ 255 ∷ 255 ∷ []) first_segment) ∷ [], Err (BadBytes 0 24)) ∷
    (box (with 40 (255 ∷ 255 ∷ 255 ∷ 255 ∷ []) first_segment) ∷ [], Err (BadBytes 0 24)) ∷
    [])
unfolding segment_frames frames_at heading_of front_at text_at value_at op_at pair_at many_at place_at page_at pairs_at delta_at base_at upper_at
    split_at block_at
    head_at number_bytes rest_of first_such contents
bytes_changed = (refl, (refl, (refl, (refl, (refl, tt)))))

-- numbers with a gap, other limits, and rooms
pub gaps_and_limits : AreTold (
    (box older_segment ∷ box older_segment ∷ [], Err Gap) ∷
    (box first_segment ∷ box newer_segment ∷ [], Err Gap) ∷
    (box first_segment ∷ box (with 16 (5 ∷ []) older_segment) ∷ [], Err Mixed) ∷
    (box first_segment ∷ roomed 65559 ∷ [], Err BadConfig) ∷
    [])
unfolding segment_frames frames_at heading_of front_at text_at value_at op_at pair_at many_at place_at page_at pairs_at delta_at base_at upper_at
    split_at block_at
    head_at number_bytes rest_of first_such contents
gaps_and_limits = (refl, (refl, (refl, (refl, tt))))

-- wrong links, and pages at fault
pub links_and_pages : AreTold (
    (box older_segment ∷ [], Err (Unlawful 1)) ∷
    (box older_segment ∷ box (take 106 newer_segment) ∷ [], Err (Unlawful 1)) ∷
    (box first_segment ∷ box (with 57 (0 ∷ []) older_segment) ∷ [], Err (BadLink 1)) ∷
    (box (with 53 (3 ∷ []) first_segment) ∷ [], Err (BadLink 3)) ∷
    (box (with 45 (2 ∷ []) greatest) ∷ [], Err (Unlawful 1)) ∷
    [])
unfolding segment_frames frames_at heading_of front_at text_at value_at op_at pair_at many_at place_at page_at pairs_at delta_at base_at upper_at
    split_at block_at
    head_at number_bytes rest_of first_such contents
links_and_pages = (refl, (refl, (refl, (refl, (refl, tt)))))

-- two faults, of which the earlier one is said: rooms, bytes, limits, gaps, no frame and small
-- spares, in this order
pub two_faults : AreTold (
    (box (7 ∷ []) ∷ roomed 1073741825 ∷ [], Err BadConfig) ∷
    (box first_segment ∷ box (with 16 (5 ∷ []) (take 24 older_segment) ++ 88 ∷ []) ∷ [], Err (BadBytes 1 24)) ∷
    (box first_segment ∷ box (with 16 (5 ∷ []) newer_segment) ∷ [], Err Mixed) ∷
    (box (take 24 first_segment) ∷ box (take 24 newer_segment) ∷ [], Err Gap) ∷
    (roomed 65559 ∷ box first_segment ∷ box newer_segment ∷ [], Err Gap) ∷
    (box (take 24 first_segment) ∷ roomed 65559 ∷ [], Err Empty) ∷
    (box (with 53 (3 ∷ []) first_segment) ∷ roomed 65559 ∷ [], Err BadConfig) ∷
    [])
unfolding segment_frames frames_at heading_of front_at text_at value_at op_at pair_at many_at place_at page_at pairs_at delta_at base_at upper_at
    split_at block_at
    head_at number_bytes rest_of first_such contents
two_faults = (refl, (refl, (refl, (refl, (refl, (refl, (refl, tt)))))))

-- the least page is found at once, however great the last one
first_now : (test : ℕ → Bool) (p n : ℕ) → test p ≡ true → first_such test p (suc n) ≡ Some p
unfolding first_such
first_now test p n is = rw (is, first_such) refl

by_now : (test : ℕ → Bool) (p n top : ℕ) → top ≡ suc n → test p ≡ true → first_such test p top ≡ Some p
by_now test p n top top_is is = ap (first_such test p) top_is ∙ first_now test p n is

pub base_of_the_greatest_page : page_fault 4 (Base (record { page = 4294967295; low = []; pairs = [] }) ∷ []) ≡ Some (Unlawful 1)
base_of_the_greatest_page = ap page_fault_by
    (by_now (is_at_fault 4 (Base (record { page = 4294967295; low = []; pairs = [] }) ∷ [])) 1 4294967294 4294967295 refl refl)

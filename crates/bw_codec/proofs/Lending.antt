-- What is read of blocks that are spelled, and of frames that stand there.

use Rattle.std.proofs.Common.{◌≡◌, ℕ, ◌^◌, ◌<◌, ◌+◌, ◌==◌, true, false, if◌then◌else◌, Some, None, List, ◌++◌, length, take, nat_lt, refl, ap, ◌∙◌, arith}
use Rattle.std.specs.List.{flat_map}
use Rattle.bw_record.specs.Version.{key_limit}
use Rattle.bw_record.specs.declared.record.Record.{Record}
use Rattle.bw_record.specs.declared.leaf.Leaf.{Leaf}
use Rattle.bw_record.specs.declared.block.Place.{Place}
use Rattle.bw_codec.specs.Bytes.{number_bytes, text}
use Rattle.bw_codec.specs.Grammar.{agrees, frame_word, op_bytes_in, pair_bytes_in, place_bytes, pairs_bytes_in, ops_bytes_in, upper_bytes_in, IsPage, IsPlace, IsDeltaIn, IsBaseIn, IsSplitIn}
use Rattle.bw_codec.specs.Reading.{◌>>=◌, number_at, text_at, page_at, place_at, head_at, front_at, many_at, block_at}
use Rattle.bw_codec.specs.Lent.{delta_parts, base_parts, split_parts, headed, frame_found}
use Rattle.bw_codec.specs.Checking.{seen_of}
use Rattle.bw_codec.specs.declared.head.FrameRead.{FrameRead}
use Rattle.bw_codec.specs.declared.head.FrameRead.TheVariants.{Whole, Tail}
use Rattle.bw_codec.specs.declared.check.FrameSeen.TheVariants as seen
use Rattle.bw_codec.proofs.Format.{again_on, number_format, text_format, IsRun, bind_some, held, found}
use Rattle.bw_codec.proofs.BlockFormat.{page_format, place_format}

-- ---- blocks

pub delta_spelled : (v page : ℕ) (back : Place) (ops : List Record) (rest : List ℕ) → IsDeltaIn v page back ops
    → delta_parts ((number_bytes 4 page ++ (place_bytes back ++ ops_bytes_in v ops)) ++ rest)
    ≡ Some ((page, back, length ops), flat_map (op_bytes_in v) ops ++ rest)
unfolding delta_parts
delta_spelled v page back ops rest law =
    rw (
      again_on (number_bytes 4) IsPage page_at page_format page (place_bytes back ++ ops_bytes_in v ops) rest law.changes,
      again_on place_bytes IsPlace place_at place_format back (ops_bytes_in v ops) rest law.links,
      again_on (number_bytes 2) (λ n. n < 256 ^ 2) (number_at 2) (number_format 2) (length ops) (flat_map (op_bytes_in v) ops) rest law.count.1,
    ) refl

pub base_spelled : (v m : ℕ) (leaf : Leaf) (rest : List ℕ) → m < 2 ^ 16 → IsBaseIn v m leaf
    → base_parts v ((number_bytes 4 leaf.page ++ (text leaf.low ++ pairs_bytes_in v leaf.pairs)) ++ rest)
    ≡ Some ((leaf.page, leaf.low, length leaf.pairs), flat_map (pair_bytes_in v) leaf.pairs ++ rest)
unfolding base_parts
base_spelled v m leaf rest small law =
    rw (
      again_on (number_bytes 4) IsPage page_at page_format leaf.page (text leaf.low ++ pairs_bytes_in v leaf.pairs) rest law.page,
      again_on text (IsRun 0 (key_limit v)) (text_at 0 (key_limit v)) (text_format 0 (key_limit v)) leaf.low (pairs_bytes_in v leaf.pairs) rest (omega arith, law.low),
      again_on (number_bytes 2) (λ n. n < 256 ^ 2) (number_at 2) (number_format 2) (length leaf.pairs) (flat_map (pair_bytes_in v) leaf.pairs) rest
          (let few = law.count in omega (arith, few, small)),
    ) refl

pub split_spelled : (v m page : ℕ) (back : Place) (upper : Leaf) (rest : List ℕ) → m < 2 ^ 16 → IsSplitIn v m page back upper
    → split_parts v ((number_bytes 4 page ++ (place_bytes back ++ upper_bytes_in v upper)) ++ rest)
    ≡ Some ((page, back, upper.low, upper.page, length upper.pairs), flat_map (pair_bytes_in v) upper.pairs ++ rest)
unfolding split_parts
split_spelled v m page back upper rest small law =
    rw (
      again_on (number_bytes 4) IsPage page_at page_format page (place_bytes back ++ upper_bytes_in v upper) rest law.splits,
      again_on place_bytes IsPlace place_at place_format back (upper_bytes_in v upper) rest law.links,
      again_on text (IsRun 0 (key_limit v)) (text_at 0 (key_limit v)) (text_format 0 (key_limit v)) upper.low
          (number_bytes 4 upper.page ++ pairs_bytes_in v upper.pairs) rest (omega arith, law.makes.low),
      again_on (number_bytes 4) (λ n. n < 256 ^ 4) (number_at 4) (number_format 4) upper.page (pairs_bytes_in v upper.pairs) rest law.makes.page.1,
      again_on (number_bytes 2) (λ n. n < 256 ^ 2) (number_at 2) (number_format 2) (length upper.pairs) (flat_map (pair_bytes_in v) upper.pairs) rest
          (let few = law.makes.count in omega (arith, few, small)),
    ) refl

-- ---- frames

pub frame_told : (v m f : ℕ) (bytes : List ℕ) (read : FrameRead) → front_at v m f bytes ≡ Some read → frame_found v f bytes ≡ seen_of read
unfolding front_at frame_found
frame_told v m f bytes read e =
    elim (nat_lt (length bytes) 20) as (λ t. (if t then (if agrees bytes (frame_word v) then Some Tail else None) else
    (head_at v f bytes >>= λ head. if nat_lt (length head.1) head.0.body then Some Tail else
    (many_at (block_at v m) head.0.blocks (take head.0.body head.1) >>= λ blocks. if length blocks.1 == 0 then Some
    (Whole (record { number = head.0.number; blocks = blocks.0 }) (head.0.body + 20)) else None))) ≡ Some read
    → (if t then seen.Tail else headed (head_at v f bytes)) ≡ seen_of read) [
      | true ↦ λ front. ap seen_of (found (held (agrees bytes (frame_word v)) (Some Tail) read front).1)
      | false ↦ λ front. (
          let h = bind_some (head_at v f bytes) (λ head. if nat_lt (length head.1) head.0.body then Some Tail else
          (many_at (block_at v m) head.0.blocks (take head.0.body head.1) >>= λ blocks. if length blocks.1 == 0 then Some
          (Whole (record { number = head.0.number; blocks = blocks.0 }) (head.0.body + 20)) else None)) read front in
          ap headed h.1
          ∙ elim (nat_lt (length h.0.1) h.0.0.body) as
          (λ t. (if t then Some Tail else (many_at (block_at v m) h.0.0.blocks (take h.0.0.body h.0.1) >>= λ blocks. if length blocks.1 == 0 then Some
          (Whole (record { number = h.0.0.number; blocks = blocks.0 }) (h.0.0.body + 20)) else None)) ≡ Some read
          → (if t then seen.Tail else seen.Whole h.0.0.number (h.0.0.body + 20)) ≡ seen_of read) [
            | true ↦ λ tail. ap seen_of (found tail)
            | false ↦ λ whole. (
                let b = bind_some (many_at (block_at v m) h.0.0.blocks (take h.0.0.body h.0.1))
                (λ blocks. if length blocks.1 == 0 then Some (Whole (record { number = h.0.0.number; blocks = blocks.0 }) (h.0.0.body + 20)) else
                None) read whole in
                ap seen_of (found (held (length b.0.1 == 0) (Some (Whole (record { number = h.0.0.number; blocks = b.0.0 }) (h.0.0.body + 20))) read b.2).1))
          ] h.2)
    ] e

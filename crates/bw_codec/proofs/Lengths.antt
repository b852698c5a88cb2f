-- How long each block's spelling is.

use Rattle.std.proofs.Common.{◌≡◌, ℕ, ◌+◌, List, ◌++◌, length, arith, length-append}
use Rattle.std.specs.List.{flat_map}
use Rattle.bw_record.specs.Version.{latest}
use Rattle.bw_codec.specs.Bytes.{number_bytes, text, value_bytes}
use Rattle.bw_codec.specs.Grammar.{op_bytes, pair_bytes, place_bytes, pairs_bytes, ops_bytes, delta_front, upper_bytes, block_bytes}
use Rattle.bw_record.specs.declared.record.Record.{Record}
use Rattle.bw_record.specs.declared.leaf.Leaf.{Leaf}
use Rattle.bw_record.specs.declared.block.Place.{Place}
use Rattle.bw_record.specs.declared.block.Block.TheVariants.{Delta, Base, Split}
use Rattle.bw_codec.proofs.FrontFormat.{length-number}

length-place : (place : Place) → length (place_bytes place) ≡ 12
length-place place = omega (
  arith,
  length-number 8 place.frame,
  length-number 4 place.index,
  length-append (number_bytes 8 place.frame) (number_bytes 4 place.index),
)

-- a value as it is written
pub length-value : (x : List ℕ) → length (value_bytes latest x) ≡ 2 + length x
length-value x = omega (arith, length-number 2 (length x), length-append (number_bytes 2 (length x)) x)

length-pairs : (pairs : List (List ℕ × List ℕ)) → length (pairs_bytes pairs) ≡ 2 + length (flat_map pair_bytes pairs)
length-pairs pairs = omega (arith, length-number 2 (length pairs), length-append (number_bytes 2 (length pairs)) (flat_map pair_bytes pairs))

length-upper : (leaf : Leaf) → length (upper_bytes leaf) ≡ 7 + length leaf.low + length (flat_map pair_bytes leaf.pairs)
length-upper leaf =
    omega (
      arith,
      length-pairs leaf.pairs,
      length-number 4 leaf.page,
      length-append (text leaf.low) (number_bytes 4 leaf.page ++ pairs_bytes leaf.pairs),
      length-append (number_bytes 4 leaf.page) (pairs_bytes leaf.pairs),
    )

pub length-delta : (page : ℕ) (back : Place) (ops : List Record) → length (block_bytes (Delta page back ops)) ≡ 19 + length (flat_map op_bytes ops)
length-delta page back ops =
    omega (
      arith,
      length-place back,
      length-number 4 page,
      length-number 2 (length ops),
      length-append (number_bytes 4 page) (place_bytes back ++ ops_bytes ops),
      length-append (place_bytes back) (ops_bytes ops),
      length-append (number_bytes 2 (length ops)) (flat_map op_bytes ops),
    )

pub length-base : (leaf : Leaf) → length (block_bytes (Base leaf)) ≡ 8 + length leaf.low + length (flat_map pair_bytes leaf.pairs)
length-base leaf =
    omega (
      arith,
      length-pairs leaf.pairs,
      length-number 4 leaf.page,
      length-append (number_bytes 4 leaf.page) (text leaf.low ++ pairs_bytes leaf.pairs),
      length-append (text leaf.low) (pairs_bytes leaf.pairs),
    )

pub length-split : (page : ℕ) (back : Place) (upper : Leaf)
    → length (block_bytes (Split page back upper)) ≡ 24 + length upper.low + length (flat_map pair_bytes upper.pairs)
length-split page back upper =
    omega (
      arith,
      length-place back,
      length-upper upper,
      length-number 4 page,
      length-append (number_bytes 4 page) (place_bytes back ++ upper_bytes upper),
      length-append (place_bytes back) (upper_bytes upper),
    )

pub length-front : (page : ℕ) (back : Place) (ops : ℕ) → length (delta_front page back ops) ≡ 19
length-front page back ops =
    omega (
      arith,
      length-place back,
      length-number 4 page,
      length-number 2 ops,
      length-append (number_bytes 4 page) (place_bytes back ++ number_bytes 2 ops),
      length-append (place_bytes back) (number_bytes 2 ops),
    )

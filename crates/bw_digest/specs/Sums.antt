-- What a row of sums says of the bytes of a file. The file is cut into consecutive pieces; the sum
-- of a piece says where it ends and the digest of its bytes, and has a mark by which it follows the
-- sum before it.
use Rattle.std.specs.Prelude.{◌≡◌, ◌≢◌, ℕ, zero, suc, ◌+◌, ◌-◌, ◌/◌, ◌==◌, ◌&&◌, ◌^◌, nat_lt, nat_le, if◌then◌else◌, Bool, List, [], ◌∷◌, ◌++◌, length, take, drop}
use Rattle.byteorder.specs.Endian.{little_bytes, little_number}
use Rattle.bw_digest.specs.Digest.{digest}
use Rattle.bw_digest.specs.declared.sum.Sum.{Sum}

-- ---- sums as bytes

-- three numbers as bytes
abbrev pub three : ℕ → ℕ → ℕ → List ℕ
three a b c = little_bytes 8 a ++ little_bytes 8 b ++ little_bytes 8 c

-- the mark of a sum after one of this mark
unfoldable pub mark_of : ℕ → ℕ → ℕ → ℕ
mark_of before end digested = digest (three before end digested)

-- a sum as bytes
abbrev pub sum_bytes : Sum → List ℕ
sum_bytes s = three s.end s.digest s.mark

-- the sum that these bytes begin with
abbrev pub sum_in : List ℕ → Sum
sum_in bytes = record { end = little_number 8 bytes; digest = little_number 8 (drop 8 bytes); mark = little_number 8 (drop 16 bytes) }

-- ---- rows

-- how far a row has come: how many sums it has, where the last piece ends, and the last mark
pub record Reach : Type 0 where
  pub count : ℕ
  pub end : ℕ
  pub mark : ℕ

-- no sum yet
abbrev pub no_sums : Reach
no_sums = record { count = 0; end = 0; mark = 0 }

-- the row with one more sum
abbrev pub after : Reach → Sum → Reach
after row s = record { count = row.count + 1; end = s.end; mark = s.mark }

-- the bytes after the row's pieces, up to an end
abbrev pub piece_to : List ℕ → Reach → ℕ → List ℕ
piece_to bytes row end = take (end - row.end) (drop row.end bytes)

-- the sum of this piece, after a row
abbrev pub sum_of : Reach → List ℕ → Sum
sum_of row piece = record { end = row.end + length piece; digest = digest piece; mark = mark_of row.mark (row.end + length piece) (digest piece) }

-- ---- what counts of a row that a crash may have left

-- in a file of this length a sum follows a row: its piece has bytes that all are there, and its
-- mark is the one after the row's
abbrev pub follows : ℕ → Reach → Sum → Bool
follows len row s = nat_lt row.end s.end && nat_le s.end len && s.mark == mark_of row.mark s.end s.digest

-- of so many sums in these bytes the first ones, each of which follows
abbrev pub standing : ℕ → ℕ → Reach → List ℕ → List Sum
standing zero len row sums = []
standing (suc n) len row sums =
    if follows len row (sum_in sums) then sum_in sums ∷ standing n len (after row (sum_in sums)) (drop 24 sums) else []

-- the sums that count of a file of sums, beside a file of this length
abbrev pub sums_in : ℕ → List ℕ → List Sum
sums_in len sums = standing (length sums / 24) len no_sums sums

-- the row with all of these
abbrev pub with_all : Reach → List Sum → Reach
with_all row [] = row
with_all row (s ∷ ss) = with_all (after row s) ss

-- where the last piece ends of which a file of sums speaks: a sum is not asked whether its piece is
-- there
abbrev pub told_end : List ℕ → ℕ
told_end sums = (with_all no_sums (sums_in (2 ^ 64 - 1) sums)).end

-- ---- whether bytes fit their sums

-- consecutive pieces, each with its digest
abbrev pub Fits : List ℕ → Reach → List Sum → Type 0
Fits bytes row [] = Unit {0}
Fits bytes row (s ∷ ss) = (digest (piece_to bytes row s.end) ≡ s.digest) × Fits bytes (after row s) ss

-- after a row, the first piece that has not its digest begins here
pub record IsDamagedAt (bytes : List ℕ) (row : Reach) (sums : List Sum) (at : ℕ) : Type 0 where
  pub before : List Sum
  pub its : Sum
  pub later : List Sum
  pub parts : sums ≡ before ++ its ∷ later
  pub fits : Fits bytes row before
  pub begins : at ≡ (with_all row before).end
  pub misfits : digest (piece_to bytes (with_all row before) its.end) ≢ its.digest

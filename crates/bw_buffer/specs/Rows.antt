-- How blocks stand in a buffer before their bytes stand in order.

use Rattle.std.specs.Prelude.{ℕ, suc, ◌+◌, ◌≡◌, ◌<◌, ◌==◌, false, if◌then◌else◌, List, [], ◌∷◌, ◌++◌, length, take, drop}
use Rattle.std.specs.List.{AllByRecursion, flat_map}
use Rattle.bw_codec.specs.Grammar.{op_bytes, block_bytes, delta_front}
use Rattle.bw_record.specs.declared.block.Place.{Place}
use Rattle.bw_record.specs.declared.block.Block.{Block}
use Rattle.bw_record.specs.declared.block.Block.TheVariants.{Delta, Base, Split}
use Rattle.bw_buffer.specs.Marks.{is_closed_by}
use Rattle.bw_buffer.specs.declared.mark.Mark.{Mark}
use Rattle.bw_buffer.specs.declared.mark.Mark.TheVariants.{Changes, Sets, Splits}
use Rattle.bw_buffer.specs.declared.rows.Row.{Row}
use Rattle.bw_buffer.specs.declared.rows.Piece.{Piece}

-- ---- pieces

-- the bytes of pieces, each with the index of its block
abbrev pub Parts : Type 0
Parts = List (ℕ × List ℕ)

-- an arena parted into its pieces
abbrev pub parts : List Piece → List ℕ → Parts
parts [] bytes = []
parts (q ∷ qs) bytes = (q.block, take q.len bytes) ∷ parts qs (drop q.len bytes)

-- how long pieces are together
abbrev pub pieces_length : List Piece → ℕ
pieces_length [] = 0
pieces_length (q ∷ qs) = q.len + pieces_length qs

-- the pieces of one block
abbrev pub bytes_at : ℕ → Parts → List ℕ
bytes_at i ps = flat_map (λ x. if x.0 == i then x.1 else []) ps

-- ---- rows

-- what stands before the pieces of a block: of a Delta all but its records
abbrev pub front_by : Mark → Place → ℕ → List ℕ
front_by (Changes page) back ops = delta_front page back ops
front_by (Sets page) back ops = []
front_by (Splits page upper) back ops = []

abbrev pub front_of : Row → List ℕ
front_of row = front_by row.mark row.back row.ops

-- blocks laid out, from an index on
abbrev pub laid : ℕ → List Row → Parts → List ℕ
laid i [] ps = []
laid i (r ∷ rs) ps = (front_of r ++ bytes_at i ps) ++ laid (suc i) rs ps

-- a row and the bytes of its pieces are a block
abbrev pub IsRow : Row → List ℕ → Block → Type 0
IsRow row bytes (Delta page back ops) =
    (row.mark ≡ Changes page) × (row.back ≡ back) × (row.ops ≡ length ops) × (row.len ≡ length bytes) × (bytes ≡ flat_map op_bytes ops)
IsRow row bytes (Base leaf) = (row.mark ≡ Sets leaf.page) × (row.len ≡ length bytes) × (bytes ≡ block_bytes (Base leaf))
IsRow row bytes (Split page back upper) =
    (row.mark ≡ Splits page upper.page) × (row.len ≡ length bytes) × (bytes ≡ block_bytes (Split page back upper))

-- rows and their pieces are blocks, from an index on
abbrev pub AreRows : ℕ → List Row → Parts → List Block → Type 0
AreRows i [] ps [] = Unit {0}
AreRows i [] ps (b ∷ bs) = ⊥
AreRows i (r ∷ rs) ps [] = ⊥
AreRows i (r ∷ rs) ps (b ∷ bs) = IsRow r (bytes_at i ps) b × AreRows (suc i) rs ps bs

-- a Delta's number of records has its two bytes
abbrev pub IsFewBy : Mark → ℕ → Type 0
IsFewBy (Changes page) ops = ops < 65536
IsFewBy (Sets page) ops = Unit {0}
IsFewBy (Splits page upper) ops = Unit {0}

-- each row says how long its pieces are, and few records
abbrev pub AreMeasured : ℕ → List Row → Parts → Type 0
AreMeasured i [] ps = Unit {0}
AreMeasured i (r ∷ rs) ps = (r.len ≡ length (bytes_at i ps)) × IsFewBy r.mark r.ops × AreMeasured (suc i) rs ps

-- no block of these rows touches a page
abbrev pub IsUntouched : ℕ → List Row → Type 0
IsUntouched p rows = AllByRecursion (λ r. is_closed_by p r.mark ≡ false) rows

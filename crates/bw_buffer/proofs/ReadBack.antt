-- A block read back out of its pieces.

use Rattle.std.proofs.Common.{◌≡◌, ℕ, zero, suc, ◌+◌, ◌<◌, ◌≤◌, Some, Result, Ok, Err, List, [], ◌∷◌, ◌++◌, length, get_or, take, drop, refl, sym, ap, ◌∙◌, arith}
use Rattle.std.proofs.Common.{append_assoc, append-nil, if◌then◌else◌, length-drop}
use Rattle.std.specs.Prelude.{◌==◌, IfOk}
use Rattle.std.specs.declared.alloc.AllocError.{AllocError}
use Rattle.std.specs.List.{AllByRecursion as All, slice_get}
use Rattle.std.proofs.lemmas.Grind.{flat_map-append}
use Rattle.std.proofs.lemmas.List.{take_all}
use Rattle.bw_codec.specs.Grammar.{block_bytes, IsBlock}
use Rattle.bw_codec.specs.Reading.{Says}
use Rattle.bw_record.specs.declared.block.Block.{Block}
use Rattle.bw_record.specs.declared.block.Place.{Place}
use Rattle.bw_codec.specs.declared.fault.CodecFault.{CodecFault}
use Rattle.bw_codec.specs.declared.fault.CodecFault.TheVariants.{NoMemory, BadBytes}
use Rattle.bw_codec.proofs.Lengths.{length-front}
use Rattle.bw_buffer.specs.Rows.{Parts, parts, pieces_length, bytes_at, front_by, front_of, IsFewBy, AreRows}
use Rattle.bw_buffer.specs.Laid.{blocks_of, parts_of, IsLaid}
use Rattle.bw_buffer.specs.declared.buffer.Buffer.TheInside.{Inside}
use Rattle.bw_buffer.specs.declared.mark.Mark.{Mark}
use Rattle.bw_buffer.specs.declared.mark.Mark.TheVariants.{Changes, Sets, Splits}
use Rattle.bw_buffer.specs.declared.rows.Row.{Row}
use Rattle.bw_buffer.specs.declared.rows.Piece.{Piece}
use Rattle.bw_buffer.proofs.Holding.{counted}
use Rattle.bw_buffer.proofs.Passes.{drop_sum, parts_count, parts_next, pieces_take, pieces_within}
use Rattle.bw_buffer.proofs.Pieces.{row_spelled}
use Rattle.bw_buffer.proofs.Sealing.{row_measured}

-- ---- the pieces of one block

pub front_short : (mark : Mark) (back : Place) (ops : ℕ) → length (front_by mark back ops) ≤ 19
front_short (Changes page) back ops = omega (arith, length-front page back ops)
front_short (Sets page) back ops = omega arith
front_short (Splits page upper) back ops = omega arith

-- the next piece stands at the front of what is left
pub piece_inside : (qs : List Piece) (arena rest : List ℕ) (j : ℕ) (q : Piece) → pieces_length qs ≡ length arena → j < length qs → q ≡ get_or qs j q
    → rest ≡ drop (pieces_length (take j qs)) arena → q.len ≤ length rest
piece_inside qs arena rest j q parted lt is left =
    let gone = pieces_take qs j q lt is in
    let upto = pieces_within qs (j + 1) in
    omega (arith, ap (λ (l : List ℕ). length l) left, length-drop (pieces_length (take j qs)) arena)

pub piece_behind : (qs : List Piece) (arena rest : List ℕ) (j : ℕ) (q : Piece) → j < length qs → q ≡ get_or qs j q
    → rest ≡ drop (pieces_length (take j qs)) arena → drop q.len rest ≡ drop (pieces_length (take (j + 1) qs)) arena
piece_behind qs arena rest j q lt is left =
    ap (drop q.len) left ∙ drop_sum arena (pieces_length (take j qs)) q.len ∙ ap (λ (n : ℕ). drop n arena) (sym (pieces_take qs j q lt is))

pub piece_next : (front : List ℕ) (i : ℕ) (qs : List Piece) (arena rest : List ℕ) (j : ℕ) (q : Piece) (old new piece : List ℕ) → j < length qs
    → q ≡ get_or qs j q → rest ≡ drop (pieces_length (take j qs)) arena → piece ≡ take q.len rest
    → old ≡ front ++ bytes_at i (take j (parts qs arena)) → new ≡ old ++ (if q.block == i then piece else [])
    → new ≡ front ++ bytes_at i (take (j + 1) (parts qs arena))
piece_next front i qs arena rest j q old new piece lt is left parted was more =
    let done = bytes_at i (take j (parts qs arena)) in
    let part = take q.len (drop (pieces_length (take j qs)) arena) in
    let its = if q.block == i then part else [] in
    more
    ∙ ap (λ (l : List ℕ). l ++ (if q.block == i then piece else [])) was
    ∙ ap (λ (l : List ℕ). (front ++ done) ++ (if q.block == i then l else [])) (parted ∙ ap (take q.len) left)
    ∙ append_assoc front done its
    ∙ ap (λ (l : List ℕ). front ++ (done ++ l)) (sym (append-nil its))
    ∙ ap (λ (l : List ℕ). front ++ l) (sym (flat_map-append (λ (x : ℕ × List ℕ). if x.0 == i then x.1 else []) (take j (parts qs arena)) ((q.block, part) ∷ [])))
    ∙ ap (λ (ps : Parts). front ++ bytes_at i ps) (sym (parts_next qs arena j q lt is))

pub pieces_all : (front : List ℕ) (i : ℕ) (qs : List Piece) (arena bytes : List ℕ) (j : ℕ) → length qs ≤ j
    → bytes ≡ front ++ bytes_at i (take j (parts qs arena)) → bytes ≡ front ++ bytes_at i (parts qs arena)
pieces_all front i qs arena bytes j end is =
    is ∙ ap (λ (ps : Parts). front ++ bytes_at i ps) (take_all j (parts qs arena) (let n = parts_count qs arena in omega arith))

-- ---- the block of an index

-- what a row and its pieces say of the block at the same index
pub record Told (row : Row) (bytes : List ℕ) (bs : List Block) (k : ℕ) : Type 0 where
  pub block : Block
  pub there : slice_get bs k ≡ Some block
  pub lawful : IsBlock 32 block
  pub few : IsFewBy row.mark row.ops
  pub is : front_of row ++ bytes ≡ block_bytes block

told_at : (i k n : ℕ) (rows : List Row) (ps : Parts) (bs : List Block) (row : Row) → n ≡ i + k → AreRows i rows ps bs → All (IsBlock 32) bs → k < length rows
    → row ≡ get_or rows k row → Told row (bytes_at n ps) bs k
told_at i k n [] ps [] row at h law lt is = absurd (omega arith)
told_at i k n [] ps (c ∷ cs) row at h law lt is = absurd h
told_at i k n (x ∷ xs) ps [] row at h law lt is = absurd h
told_at i zero n (x ∷ xs) ps (c ∷ cs) row at h law lt is =
    let first : n ≡ i = omega arith in
    rw (first, is) (record {
      block = c;
      there = refl;
      lawful = law.0;
      few = (row_measured x (bytes_at i ps) c law.0 h.0).1;
      is = row_spelled x (bytes_at i ps) c h.0;
    })
told_at i (suc k) n (x ∷ xs) ps (c ∷ cs) row at h law lt is =
    let rest = told_at (suc i) k n xs ps cs row (omega arith) h.1 law.1 (omega arith) is in
    record { block = rest.block; there = rest.there; lawful = rest.lawful; few = rest.few; is = rest.is }

pub told_here : (a : Inside) (k : ℕ) (row : Row) → IsLaid a → k < length (blocks_of a) → row ≡ get_or a.rows.items k row
    → Told row (bytes_at k (parts_of a)) (blocks_of a) k
told_here a k row h lt is =
    let many = counted a h in
    told_at 0 k k a.rows.items (parts_of a) (blocks_of a) row (omega arith) h.rows h.lawful (omega arith) is

-- ---- a read of lawful bytes

pub not_bad : (fault : CodecFault) (block : Block) → fault ≡ BadBytes → Says fault (Some block) → ⊥
not_bad NoMemory block is says = absurd cc
not_bad BadBytes block is says = absurd cc

-- what was answered is what stands there
pub gave : (a b : Block) → Some a ≡ Some b → b ≡ a
gave a b e = (let same : a ≡ b = cc in sym same)

pub is_there : (bs : List Block) (k : ℕ) (block : Block) (r : Result Block AllocError) → slice_get bs k ≡ Some block → IfOk r (λ b. b ≡ block)
    → IfOk r (λ b. slice_get bs k ≡ Some b)
is_there bs k block (Ok b) there is = there ∙ ap (λ (x : Block). Some x) (sym is)
is_there bs k block (Err e) there is = tt

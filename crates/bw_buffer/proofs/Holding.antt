-- What a buffer's fields hold, after each thing that is done to them.

use Rattle.std.proofs.Common.{◌≡◌, ℕ, zero, suc, ◌*◌, ◌<◌, ◌≤◌, Some, List, [], ◌∷◌, ◌++◌, length, get_or, sym, ap, ◌∙◌, subst, arith}
use Rattle.std.proofs.Common.{append-nil, length-append}
use Rattle.std.specs.List.{AllByRecursion as All, slice_get}
use Rattle.bw_record.specs.Version.{latest}
use Rattle.bw_codec.specs.Grammar.{block_bytes, body_bytes, head_bytes, frame_bytes, IsBlock}
use Rattle.bw_codec.specs.Reading.{many_at, block_at}
use Rattle.bw_record.specs.declared.block.Block.{Block}
use Rattle.bw_record.specs.declared.block.Block.TheVariants.{Delta, Base, Split}
use Rattle.bw_codec.proofs.Lengths.{length-delta, length-base, length-split}
use Rattle.bw_codec.proofs.BlockFormat.{many_again, block_format}
use Rattle.bw_codec.proofs.FrontFormat.{length-head}
use Rattle.bw_buffer.specs.Filling.{Filling, frame_of, size_of}
use Rattle.bw_buffer.specs.Laid.{first_of, blocks_in, blocks_of, parts_of, body_of, filling_of, Holds, IsLaid}
use Rattle.bw_buffer.specs.declared.buffer.Buffer.TheInside.{Inside}
use Rattle.bw_buffer.proofs.Pieces.{rows_spelled, rows_count}

-- a body's blocks are read again
pub read_again : (count : ℕ) (blocks : List Block) (body : List ℕ) → All (IsBlock 32) blocks → length blocks ≡ count → body ≡ body_bytes blocks
    → blocks_in count body ≡ blocks
unfolding blocks_in
read_again count blocks body lawful counted is =
    let whole : body ≡ body_bytes blocks ++ [] = is ∙ sym (append-nil (body_bytes blocks)) in
    let read : many_at (block_at latest 32) count body ≡ Some (blocks, []) =
    ap (λ (n : ℕ). many_at (block_at latest 32) n body) (sym counted) ∙ ap (many_at (block_at latest 32) (length blocks)) whole
    ∙ many_again block_bytes (IsBlock 32) (block_at latest 32) (block_format latest 32 (omega arith)) blocks [] lawful in
    ap first_of read

-- fields that hold blocks hold those that callers see
pub held : (a : Inside) (blocks : List Block) → Holds a blocks → blocks_of a ≡ blocks
held a blocks h =
    read_again (length a.rows.items) blocks (body_of a) h.lawful (sym (rows_count 0 a.rows.items (parts_of a) blocks h.rows))
    (rows_spelled 0 a.rows.items (parts_of a) blocks h.rows)

pub filled : (a : Inside) (blocks : List Block) → Holds a blocks → IsLaid a
filled a blocks h = subst (λ (bs : List Block). Holds a bs) (sym (held a blocks h)) h

-- the same as callers see it
pub seen : (a : Inside) (blocks : List Block) → Holds a blocks
    → filling_of a ≡ record { frame = a.frame; limit = a.limit; blocks = blocks; is_sealed = a.is_sealed }
seen a blocks h =
    ap (λ (bs : List Block). let f : Filling = record { frame = a.frame; limit = a.limit; blocks = bs; is_sealed = a.is_sealed } in f) (held a blocks h)

-- how many
pub counted : (a : Inside) → IsLaid a → length a.rows.items ≡ length (blocks_of a)
counted a h = rows_count 0 a.rows.items (parts_of a) (blocks_of a) h.rows

pub size_is : (a : Inside) (f : Filling) → IsLaid a → filling_of a ≡ f → a.size ≡ size_of f
size_is a f h view = h.size ∙ ap size_of view

-- a block's bytes are at least eight
pub some_bytes : (block : Block) → 8 ≤ length (block_bytes block)
some_bytes (Delta page back ops) = omega (arith, length-delta page back ops)
some_bytes (Base leaf) = omega (arith, length-base leaf)
some_bytes (Split page back upper) = omega (arith, length-split page back upper)

pub few_blocks : (blocks : List Block) → 8 * length blocks ≤ length (body_bytes blocks)
few_blocks [] = omega arith
few_blocks (b ∷ bs) = omega (arith, some_bytes b, few_blocks bs, length-append (block_bytes b) (body_bytes bs))

-- what stands at an index
pub got : {X : Type 0} (xs : List X) (i : ℕ) (x : X) → i < length xs → x ≡ get_or xs i x → slice_get xs i ≡ Some x
got [] i x lt e = absurd (omega arith)
got {X} (y ∷ ys) zero x lt e = ap (λ (z : X). Some z) (sym e)
got (y ∷ ys) (suc i) x lt e = got ys i x (omega arith) e

-- rows are few
pub few_rows : (a : Inside) → IsLaid a → 8 * length a.rows.items ≤ 262144
few_rows a h = (let n = counted a h in let f = few_blocks (blocks_of a) in let s = h.size in let l = h.fits in let m = h.limited.1 in omega arith)

-- the frame's length
pub length_of_frame : (b : Filling) → length (frame_bytes (frame_of b)) ≡ size_of b
length_of_frame b =
    omega (
      arith,
      length-head latest b.frame (length (body_bytes b.blocks)) (length b.blocks),
      length-append (head_bytes b.frame (length (body_bytes b.blocks)) (length b.blocks)) (body_bytes b.blocks),
    )

-- no other lawful block has the same bytes
pub same_block : (a b : Block) → IsBlock 32 a → IsBlock 32 b → block_bytes a ≡ block_bytes b → a ≡ b
same_block a b law_a law_b same =
    let format = block_format latest 32 (omega arith) in
    let first : Block × List ℕ = (a, []) in
    let second : Block × List ℕ = (b, []) in
    let reads : Some first ≡ Some second =
    sym (format.again a [] law_a) ∙ ap (λ (bytes : List ℕ). block_at latest 32 (bytes ++ [])) same ∙ format.again b [] law_b in
    let pairs : first ≡ second = cc in
    ap (λ (read : Block × List ℕ). read.0) pairs

use Rattle.std.proofs.Common.{◌≡◌, ◌==◌, ◌≤◌, ℕ, false, Some, None, List, length, take, refl, sym, ◌∙◌}
use Rattle.std.proofs.lemmas.Bool.{le-ltb}
use Rattle.bw_codec.specs.Reading.{many_at, block_at, head_at, front_at}
use Rattle.bw_record.specs.declared.block.Block.{Block}
use Rattle.bw_codec.proofs.decoder.front_of.Goals as goal

-- blocks with bytes after them are no body
left_over : (v m f number body count : ℕ) (bytes rest after : List ℕ) (blocks : List Block) → 20 ≤ length bytes
    → (head_at v) f bytes ≡ Some (record { number = number; body = body; blocks = count }, rest)
    → body ≤ length rest → many_at ((block_at v) m) count (take body rest) ≡ Some (blocks, after) → (length after == 0) ≡ false
    → (front_at v) m f bytes ≡ None
unfolding front_at
left_over v m f number body count bytes rest after blocks long first within read more =
    rw (le-ltb (length bytes) 20 long, first, le-ltb (length rest) body within, read, more) refl

pub returns-then-not-is_empty : goal.returns-then-not-is_empty
returns-then-not-is_empty c =
    left_over c.args.version c.args.m c.args.limit _ _ _ c.args.bytes.now c.in_ok-head.rest.now c.in_ok-blocks.after.now _
    c.if-bytes-lt-HEAD_LEN.false c.in_ok-head.ensures.gives c.if-rest-body.false c.in_ok-blocks.ensures (sym c.is_empty.ensures ∙ c.if-not-is_empty.true)

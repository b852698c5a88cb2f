-- The first frame has room for the first page.

use Rattle.std.proofs.Common.{◌≡◌, ◌∙◌, ℕ, ◌+◌, ◌≤◌, false, List, [], ◌∷◌, length, sym, ap, subst, arith, append-nil}
use Rattle.bw_codec.specs.Grammar.{body_bytes, block_bytes}
use Rattle.bw_codec.proofs.Lengths.{length-base}
use Rattle.bw_record.specs.declared.block.Block.{Block}
use Rattle.bw_record.specs.declared.block.Block.TheVariants.{Base}
use Rattle.bw_leaf.specs.Changed.{empty_leaf}
use Rattle.bw_buffer.specs.Filling.{Filling, size_of, with_all}
use Rattle.bw_buffer.specs.Joining.{added}

first_fits : (f : ℕ) (blocks : List Block) → 65536 ≤ f → blocks ≡ Base empty_leaf ∷ [] → 20 + length (body_bytes (added [] blocks)) ≤ f
first_fits f blocks h is =
    (let e = ap (λ (bs : List Block). length (body_bytes (added [] bs))) is in
    let a = ap length (append-nil (block_bytes (Base empty_leaf))) in
    let b = length-base empty_leaf in
    omega arith)

pub fits_at : (b : Filling) (f : ℕ) (items shown : List Block) → b ≡ record { frame = 1; limit = f; blocks = []; is_sealed = false } → 65536 ≤ f
    → items ≡ Base empty_leaf ∷ [] → shown ≡ items → size_of (with_all b shown) ≤ b.limit
fits_at b f items shown is h made same =
    subst (λ (x : Filling). size_of (with_all x shown) ≤ x.limit) (sym is) (first_fits f shown h (same ∙ made))

-- A buffer of lawful blocks is a lawful frame.

use Rattle.std.proofs.Common.{◌≡◌, ◌^◌, ◌<◌, ◌≤◌, ap, arith}
use Rattle.bw_buffer.specs.Filling.{Filling, size_of, IsLawfulFrame}
use Rattle.bw_buffer.specs.Laid.{filling_of, IsLaid}
use Rattle.bw_buffer.specs.declared.buffer.Buffer.TheInside.{Inside}
use Rattle.bw_buffer.proofs.Holding.{few_blocks, size_is}

pub lawful_frame : (b : Filling) → 1 ≤ b.frame → b.frame < 2 ^ 64 → size_of b ≤ b.limit → b.limit ≤ 262144 → IsLawfulFrame b
lawful_frame b numbered counted fits small m some lawful =
    let few = few_blocks b.blocks in
    record {
      head = record { numbered = (numbered, counted); fits = (omega arith, omega arith); some = (some, omega arith) };
      blocks = lawful;
    }

-- the same, of the buffer as it stands
pub laid_frame : (a : Inside) (b : Filling) → filling_of a ≡ b → IsLaid a → 1 ≤ b.frame → b.frame < 2 ^ 64 → IsLawfulFrame b
laid_frame a b view h numbered counted =
    let size = size_is a b h view in
    let limit = ap (λ (f : Filling). f.limit) view in
    let within = h.fits in
    let limited = h.limited.1 in
    lawful_frame b numbered counted (omega arith) (omega arith)

use Rattle.std.proofs.Common.{◌≡◌, true, false, not, nat_eq, sym, arith}
use Rattle.std.proofs.Common.{true≢false}
use lib.Pointwise.{pointwise}
use Rattle.bw_rescue.proofs.SameFiles.{goes_on, ends_here}
use Rattle.bw_rescue.proofs.alike.are_held.Goals as goal

pub returns-then-ne : goal.returns-then-ne
returns-then-ne c =
    let differ : not (pointwise nat_eq c.bytes_at.result.now c.as_slice.result.now) ≡ true = cc in (
      λ none. absurd (true≢false (sym none)),
      λ held. absurd (ends_here c.args.others.now c.args.images.now c.loop-image.image-index c.image-item.result (omega arith)
          c.image-item.is c.loop-image.invariant (rw (c.bytes_at.ensures, c.as_slice.ensures.value) at differ) held),
    )

pub loop-image-preserved : goal.loop-image-preserved
loop-image-preserved c =
    let same : not (pointwise nat_eq c.bytes_at.result.now c.as_slice.result.now) ≡ false = cc in
    goes_on c.args.others.now c.args.images.now c.loop-image.image-index c.image-item.result (omega arith) c.image-item.is c.loop-image.invariant
    (rw (c.bytes_at.ensures, c.as_slice.ensures.value) at same)

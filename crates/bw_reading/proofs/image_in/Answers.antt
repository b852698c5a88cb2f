use Rattle.std.proofs.lemmas.Result.{IfOk-weaker}
use Rattle.bw_page.specs.Leaves.{union}
use Rattle.bw_reading.specs.Images.{IsImage, IsImageOfPages}
use Rattle.bw_reading.proofs.image_in.Goals as goal

pub returns : goal.returns
returns c =
    let found = c.in_ok-leaves.ensures {u = tt} in
    IfOk-weaker c.image_of.result (λ image. IsImage (union c.in_ok-leaves.leaves.leaves) image.bytes.items image.count)
    (λ image. IsImageOfPages c.args.bytes.now c.args.sums.now c.args.parts.now image.bytes.items image.count)
    (λ image is. record { whole = found.whole; pages = c.in_ok-leaves.leaves.leaves; found = found.pages; its = is }) c.image_of.ensures

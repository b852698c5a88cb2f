use Rattle.std.proofs.Common.{◌≡◌, ◌<◌, ◌+◌, ◌∙◌, ap, max, length, drop, arith}
use Rattle.bw_log.specs.PageTable.{top_of, top_page}
use Rattle.bw_log.proofs.Noted.{block_here, top_goes_on}
use Rattle.bw_log.proofs.place_changes.top.Goals as goal

pub loop-index-preserved : goal.loop-index-preserved
loop-index-preserved c =
    let bs = c.args.buffer.now.blocks in
    let inside : c.loop-index.index < length bs = omega (arith, c.loop-index-test.true, c.count-index-end.ensures) in
    let here = block_here bs c.loop-index.index c.mark.result inside c.mark.ensures in
    let best : c.max-best.result ≡ max c.loop-index.best (top_of c.mark.result) =
    c.max-best.ensures ∙ ap (λ n. max c.loop-index.best n) c.top_of_mark.ensures in
    ap (λ n. max n (top_page (drop (c.loop-index.index + 1) bs))) best
    ∙ top_goes_on bs c.loop-index.index c.mark.result c.loop-index.best (top_page bs) here c.loop-index.invariant

use Rattle.std.proofs.Common.{◌≡◌, ◌<◌, [], length, subst, ap, ◌∙◌, arith}
use Rattle.std.proofs.lemmas.List.{get_or_read, length-map}
use Rattle.std.specs.Prelude.{IfSome}
use Rattle.bw_lows.specs.LowHeads.{Bytes}
use Rattle.bw_lows.specs.Rows.{Low, low_at}
use Rattle.bw_lows.specs.LowRow.{IsHeadBehind}
use Rattle.bw_lows.proofs.HeadBounds.{row_next, key_at}
use Rattle.bw_lows.proofs.row.fill.Goals as goal

pub loop-entry-preserved : goal.loop-entry-preserved
loop-entry-preserved c lows are =
    let i = c.loop-entry.entry-index in
    let inside : i < length lows = omega (arith, c.loop-entry-test.true, ap length are, length-map lows (λ (p : Low). p.0)) in
    let low : c.entry-item.result ≡ low_at lows i =
    get_or_read c.args.entries.now i c.entry-item.result c.loop-entry-test.true c.entry-item.is [] ∙ key_at lows _ i are in
    let its = subst (λ (k : Bytes). IfSome c.head_behind.result (λ h. IsHeadBehind c.args.shared.now k h)) low c.head_behind.ensures in
    row_next _ _ _ lows i c.head_behind.result inside (c.loop-entry.invariant lows are) c.if-not-push.ensures.some its c.if-not-push.ensures.pushed

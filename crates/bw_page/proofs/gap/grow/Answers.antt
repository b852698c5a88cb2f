use Rattle.std.proofs.Common.{◌≡◌, ◌∙◌, true, sym, subst}
use Rattle.bw_leaf.specs.Changed.{Bytes}
use Rattle.bw_page.specs.Ahead.{HasCome}
use Rattle.bw_page.specs.Gap.{IsGap, is_at}
use Rattle.bw_page.proofs.Gaps.{come_grown}
use Rattle.bw_page.proofs.gap.grow.Goals as goal

pub returns-in-Some : goal.returns-in-Some
returns-in-Some c map h come =
    subst (λ (to : Bytes). HasCome map c.in-Some.gap.from to) (sym c.copy-gap.ensures)
    (come_grown map c.args.from.now c.args.to.now c.in-Some.gap
    (subst (λ (k : Bytes). is_at k c.in-Some.gap ≡ true) c.as_slice.ensures.value (sym c.touches.ensures ∙ c.if-touches.true))
    (subst (IsGap map) c.in-Some.is h) come)

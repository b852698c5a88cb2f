use Rattle.std.proofs.Common.{◌≡◌, ◌∙◌, true, sym, subst}
use Rattle.bw_leaf.specs.Changed.{Bytes}
use Rattle.bw_page.specs.Ahead.{HasCome}
use Rattle.bw_page.specs.Gap.{IsGap, is_inside}
use Rattle.bw_page.proofs.Gaps.{come_here, come_past}
use Rattle.bw_page.proofs.gap.past.Goals as goal

pub returns-in-Some : goal.returns-in-Some
returns-in-Some c map h =
    subst (λ (to : Bytes). HasCome map c.args.key.now to) (sym c.copy.ensures)
    (come_past map c.args.key.now c.in-Some.gap
    (subst (λ (k : Bytes). is_inside k c.in-Some.gap ≡ true) c.as_slice.ensures.value (sym c.has.ensures ∙ c.if-has.true))
    (subst (IsGap map) c.in-Some.is h))

pub returns-in_default : goal.returns-in_default
returns-in_default c map h =
    subst (λ (to : Bytes). HasCome map c.args.key.now to) (sym c.copy-in_default.ensures) (come_here map c.args.key.now)

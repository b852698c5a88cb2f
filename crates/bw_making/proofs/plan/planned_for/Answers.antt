use Rattle.std.proofs.Common.{◌∙◌, ap, sym, refl}
use Rattle.std.specs.Option.{option_copied}
use Rattle.std.proofs.lemmas.Result.{err_from_is_err_and}
use Rattle.bw_making.proofs.PlanMade.{planned_is, room_is, leaf_is_here, wanting_is}
use Rattle.bw_making.proofs.plan.planned_for.Goals as goal

pub returns-clause-blocks : goal.returns-clause-blocks
returns-clause-blocks c =
    planned_is _ _ _ _ _ _ _ _ c.limit.result c.in-Some.leaf.now _ _ c.count-pages.ensures.lawful refl c.requires.page
    (sym (ap option_copied c.in-Some.is) ∙ c.page.ensures ∙ leaf_is_here c.args.leaves.now c.args.page _ c.args.item.now refl
    c.requires.page c.requires.here) c.limit.ensures
    c.count-pages.ensures.value c.in_ok-upper.ensures.upper c.in_ok-blocks.ensures

pub returns-clause-room : goal.returns-clause-room
returns-clause-room c =
    room_is _ _ _ _ _ _ c.limit.result c.in-Some.leaf.now c.count-pages.ensures.lawful refl c.requires.page
    (sym (ap option_copied c.in-Some.is) ∙ c.page.ensures ∙ leaf_is_here c.args.leaves.now c.args.page _ c.args.item.now refl
    c.requires.page c.requires.here) c.limit.ensures
    c.count-pages.ensures.value c.in_ok-upper.ensures.room

pub returns-in_err-upper-clause-refused : goal.returns-in_err-upper-clause-refused
returns-in_err-upper-clause-refused c =
    let p = err_from_is_err_and c.from_residual.result c.from_residual.ensures.1 in
    rw (p.1, p.2) (wanting_is _ _ c.args.item.now _ _ _ c.limit.result c.in-Some.leaf.now _ c.count-pages.ensures.lawful refl c.requires.page
    (sym (ap option_copied c.in-Some.is) ∙ c.page.ensures ∙ leaf_is_here c.args.leaves.now c.args.page _ c.args.item.now refl
    c.requires.page c.requires.here) c.limit.ensures
    c.count-pages.ensures.value c.in_err-upper.ensures.refused)

use Rattle.std.proofs.Common.{lit≤, sym, ◌∙◌}
use Rattle.log_tests.proofs.OnePage.{none_before, holds_fewer}
use Rattle.log_tests.proofs.tests.log.page.give_up.Goals as goal

pub give_up_oldest-requires-clause-bases : goal.give_up_oldest-requires-clause-bases
give_up_oldest-requires-clause-bases g c =
    none_before _ _ _ c.in-Some-Some.last c.in-Some-Some.base c.requires (sym c.pages.ensures ∙ c.if-pages-ne1.false)
    (sym (c.in-Some-Some.ensures.some (lit≤ tt)))
    c.if-base-last.false c.in-Some-Some.ensures'

pub returns : goal.returns
returns g c = holds_fewer _ _ _ c.requires c.give_up_oldest.ensures.sound c.give_up_oldest.ensures.given_up c.give_up_oldest.ensures.stands

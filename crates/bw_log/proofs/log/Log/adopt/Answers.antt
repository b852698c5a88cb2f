use Rattle.std.proofs.Common.{◌≡◌, ◌∙◌, ◌<◌, ◌^◌, rules, refl, ap, arith}
use Rattle.bw_log.specs.Adopting.{old_in}
use Rattle.bw_log.proofs.Adopted.{small_lines, old_small}
use Rattle.bw_log.proofs.log.Log.adopt.Goals as goal

pub number_lines-next-requires : goal.number_lines-next-requires
number_lines-next-requires g c = small_lines _ _ _ _ _ c.requires.holds.live.1 c.requires.holds.listed

pub returns-clause-made : goal.returns-clause-made
returns-clause-made g c = rw (c.number_lines-next.ensures.lines, c.number_lines-next.ensures.next, c.old_in.ensures, c.deref.ensures.value) refl

pub returns-clause-sound : goal.returns-clause-sound
returns-clause-sound g c = rw (c.number_lines-next.ensures.lines, c.number_lines-next.ensures.next, c.old_in.ensures, c.deref.ensures.value) c.requires

pub overflow_add-old_to : goal.overflow_add-old_to
overflow_add-old_to g c =
    let small : c.args.tables.number < 2 ^ 64 = search rules in
    let old : c.old_in.result ≡ old_in c.args.tables.versions.items = c.old_in.ensures ∙ ap old_in c.deref.ensures.value in
    record { fits = (let h = old_small _ _ _ _ c.requires.holds.live.1 small c.requires.holds.news in omega (arith, h, old)) }

use Rattle.std.proofs.Common.{ap, sym, ◌∙◌, refl}
use Rattle.bw_log.specs.Contents.{counted}
use Rattle.bw_core.specs.Needed.{is_between}
use Rattle.bw_core.specs.Views.{kept_by}
use Rattle.bw_core.proofs.NeededMore.{needed_there, needed_elsewhere}
use Rattle.bw_core.proofs.store.Core.needed_on.Goals as goal

pub returns-then-is_between-clause-value : goal.returns-then-is_between-clause-value
returns-then-is_between-clause-value g c =
    let s = kept_by c.args.self.now (λ z. (goal.Segment-dyn g z).holding z.1) in
    needed_there c.args.after c.args.last (counted s.log) s.filed.leaves c.args.page c.base_length.result _ refl c.requires.sound.grown.stands.lawful.pages
    (sym (c.is_between.ensures ∙ ap (is_between c.args.after c.args.last) (c.base_of.ensures.some c.requires.inside.0)) ∙ c.if-is_between.true)
    c.base_length.ensures.value

pub returns-else-is_between-clause-value : goal.returns-else-is_between-clause-value
returns-else-is_between-clause-value g c =
    let s = kept_by c.args.self.now (λ z. (goal.Segment-dyn g z).holding z.1) in
    needed_elsewhere c.args.after c.args.last (counted s.log) s.filed.leaves c.args.page _ refl c.requires.sound.grown.stands.lawful.pages
    (sym (c.is_between.ensures ∙ ap (is_between c.args.after c.args.last) (c.base_of.ensures.some c.requires.inside.0)) ∙ c.if-is_between.false)

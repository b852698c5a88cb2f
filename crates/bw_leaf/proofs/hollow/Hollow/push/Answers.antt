use Rattle.std.proofs.Common.{◌∙◌, ap, ◌++◌, ◌∷◌, []}
use Rattle.bw_leaf.specs.Hollow.{blank}
use Rattle.bw_leaf.proofs.Hollowed.{pushed, more_keys, on_any}
use Rattle.bw_leaf.proofs.hollow.Hollow.push.Goals as goal

pub returns-in_err-push-clause-unchanged : goal.returns-in_err-push-clause-unchanged
returns-in_err-push-clause-unchanged c =
    on_any _
    ((more_keys c.self.inside.keys.items c.args.key.now c.add_key.new.keys.items c.self.inside.items.items c.push.new.self.items
    c.in_ok-item.ensures.keys c.in_err-push.ensures.items c.self.invariant).1 ∙ c.self.view_is)

pub invariant_of-self-2 : goal.invariant_of-self-2
invariant_of-self-2 c =
    (pushed c.self.inside.keys.items c.args.key.now c.add_key.new.keys.items c.self.inside.items.items c.push.new.self.items c.in_ok-item.item c.args.size
    c.in_ok-item.ensures.keys c.in_ok-push.ensures.items c.in_ok-item.ensures.at c.in_ok-item.ensures.len c.in_ok-item.ensures.size c.self.invariant).0

pub returns-clause-ok : goal.returns-clause-ok
returns-clause-ok c =
    (pushed c.self.inside.keys.items c.args.key.now c.add_key.new.keys.items c.self.inside.items.items c.push.new.self.items c.in_ok-item.item c.args.size
    c.in_ok-item.ensures.keys c.in_ok-push.ensures.items c.in_ok-item.ensures.at c.in_ok-item.ensures.len c.in_ok-item.ensures.size c.self.invariant).1
    ∙ ap (λ ps. ps ++ (c.args.key.now, blank c.args.size) ∷ []) c.self.view_is

use Rattle.std.proofs.Common.{◌∙◌, ap}
use Rattle.std.specs.Prelude.{remove}
use Rattle.bw_leaf.proofs.Hollowed.{removed}
use Rattle.bw_leaf.proofs.hollow.Hollow.remove.Goals as goal

pub returns : goal.returns
returns c =
    (removed c.self.inside.keys.items c.self.inside.items.items c.remove.new.self.items c.args.at c.remove.ensures.items c.self.invariant).1
    ∙ ap (λ ps. remove ps c.args.at) c.self.view_is

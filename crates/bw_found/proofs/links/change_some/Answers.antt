use Rattle.std.proofs.Common.{◌∙◌, Some, sym, ap}
use Rattle.std.specs.Option.{option_map}
use Rattle.std.proofs.lemmas.Result.{on_ok_weaker}
use Rattle.bw_leaf.specs.Changed.{all_changed}
use Rattle.bw_found.proofs.links.change_some.Goals as goal

pub returns-in-Some : goal.returns-in-Some
returns-in-Some c ops are =
    on_ok_weaker c.change_by.result (λ is. ap Some is ∙ ap (option_map (all_changed ops)) (sym c.in-Some.is)) (c.change_by.ensures ops are)

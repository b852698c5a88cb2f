use Rattle.std.proofs.Common.{◌≡◌, ◌∙◌, ap, sym, ◌<◌, length, subst}
use Rattle.std.proofs.lemmas.List.{length-map}
use Rattle.std.specs.Prelude.{slice_set, slice_index_or}
use Rattle.bw_leaf.specs.Changed.{Bytes, Pairs}
use Rattle.bw_leaf.specs.Hollow.{blank, pair_in}
use Rattle.bw_leaf.proofs.Hollowed.{reset}
use Rattle.bw_leaf.proofs.hollow.Hollow.set.Goals as goal

pub returns-clause-ok : goal.returns-clause-ok
returns-clause-ok c key named =
    let keys = c.self.inside.keys.items in let items = c.self.inside.items.items in
    let within : c.args.at < length items =
    subst (λ n. c.args.at < n) (length-map items (pair_in keys)) (subst (λ (ps : Pairs). c.args.at < length ps) (sym c.self.view_is) c.requires) in
    reset keys items c.args.at c.index.result.now key c.args.size within c.index.ensures
    (subst (λ (ps : Pairs). (d : Bytes × Bytes) → (slice_index_or ps c.args.at d).0 ≡ key) (sym c.self.view_is) named)
    ∙ ap (λ (ps : Pairs). slice_set ps c.args.at (key, blank c.args.size)) c.self.view_is

use Rattle.std.proofs.Common.{◌≡◌, ◌∙◌, sym, ap, Ok, Err, Some, get_or}
use Rattle.bw_leaf.specs.Changed.{Bytes, Pairs}
use Rattle.bw_leaf.specs.Seek.{seek_of}
use Rattle.bw_leaf.proofs.Sorted.{ascends_rises}
use Rattle.bw_leaf.proofs.Valued.{reads}
use Rattle.bw_leaf.proofs.changes.value_in.Goals as goal

pub returns-in-Ok : goal.returns-in-Ok
returns-in-Ok c =
    let found : Ok c.in-Ok.at ≡ seek_of c.args.key.now c.args.leaf.now.pairs = cc (c.in-Ok.ensures.found) in
    ap Some (c.to_value.ensures ∙ ap (λ (p : Bytes × Bytes). p.1) c.index-pairs-at.is)
    ∙ ap (λ (ps : Pairs). Some (get_or ps c.in-Ok.at c.index-pairs-at.result).1) c.as_slice-pairs.ensures
    ∙ sym (reads c.args.key.now c.args.leaf.now.pairs (Ok c.in-Ok.at) (ascends_rises _ c.requires) found c.index-pairs-at.result)

pub returns-in-Err : goal.returns-in-Err
returns-in-Err c =
    let found : Err c.in-Err.field-0 ≡ seek_of c.args.key.now c.args.leaf.now.pairs = cc (c.in-Err.ensures.found) in
    sym (reads c.args.key.now c.args.leaf.now.pairs (Err c.in-Err.field-0) (ascends_rises _ c.requires) found)

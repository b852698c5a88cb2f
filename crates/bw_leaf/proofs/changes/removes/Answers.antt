use Rattle.std.proofs.Common.{◌≡◌, ◌∙◌, sym, ap}
use Rattle.std.specs.Prelude.{is_none}
use Rattle.std.specs.FinMap.Entries.{find}
use Rattle.bw_record.specs.Record.{key_of}
use Rattle.bw_record.specs.declared.record.Record.{Record}
use Rattle.bw_record.specs.declared.record.Record.TheVariants.{Del}
use Rattle.bw_leaf.specs.Changed.{order}
use Rattle.bw_leaf.specs.Seek.{back_of}
use Rattle.bw_leaf.proofs.Sorted.{ascends_rises}
use Rattle.bw_leaf.proofs.Valued.{removed}
use Rattle.bw_leaf.proofs.changes.removes.Goals as goal

pub returns-in-Err : goal.returns-in-Err
returns-in-Err c pairs rises found =
    let is : c.args.change.now ≡ Del c.in-Err.field-0.now.0 = c.in-Err.ensures in
    c.is_ok.ensures.value ∙ removed (key_of c.args.change.now) pairs c.args.found (ascends_rises _ rises) found
    ∙ ap (λ (r : Record). is_none (back_of r (find order (key_of c.args.change.now) pairs))) (ap Del (ap key_of is) ∙ sym is)

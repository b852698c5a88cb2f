use Rattle.std.proofs.Common.{◌∙◌, sym, ap}
use Rattle.std.specs.FinMap.Entries.{put}
use Rattle.bw_record.specs.declared.record.Record.{Record}
use Rattle.bw_leaf.specs.Changed.{order, changed_pairs, without}
use Rattle.bw_leaf.proofs.Trees.{inserted_is_put, removed_is_without, ordered_rises}
use Rattle.bw_leaf.proofs.tree.change_tree.Goals as goal

pub returns-in_ok-insert-in-Ok : goal.returns-in_ok-insert-in-Ok
returns-in_ok-insert-in-Ok c =
    c.in_ok-insert-in-Ok.ensures.entries ∙ inserted_is_put c.to_key.result c.to_value.result c.args.tree.now.entries
    ∙ (λ i. put order (c.to_key.ensures i) (c.to_value.ensures i) c.args.tree.now.entries)
    ∙ ap (λ (r : Record). changed_pairs r c.args.tree.now.entries) (sym c.in-Ok.ensures)

pub returns-in-Err : goal.returns-in-Err
returns-in-Err c =
    c.remove.ensures.entries ∙ removed_is_without c.to_key-in-Err.result c.args.tree.now.entries (ordered_rises _ c.len.ensures.ordered)
    ∙ ap (λ k. without k c.args.tree.now.entries) c.to_key-in-Err.ensures
    ∙ ap (λ (r : Record). changed_pairs r c.args.tree.now.entries) (sym c.in-Err.ensures)

use Rattle.bw_tables.specs.Writing.{named}
use Rattle.std.proofs.Common.{◌≡◌, ◌∙◌, ap, Some, None, List, ℕ}
use Rattle.bw_rows.specs.Spelling.{row_place, whole_row}
use Rattle.bw_rows.specs.Steps.{row_group}
use Rattle.bw_tables.proofs.CallLaws.{makes_short}
use Rattle.bw_tables.proofs.groups.short_step.Goals as goal

pub returns : goal.returns
returns c =
    let is : c.row_change.result ≡ row_group (row_place c.args.table.bytes c.args.key.now) (Some (whole_row c.args.value.now)) None (named c.args.old)
    = c.row_change.ensures ∙ ap (λ (r : List ℕ). row_group (row_place c.args.table.bytes c.args.key.now) (Some r) None (named c.args.old)) c.whole.ensures in
    record { step = makes_short c.args.table.bytes c.args.key.now c.args.value.now (named c.args.old) c.row_change.result is }

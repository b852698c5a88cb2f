use Rattle.std.proofs.Common.{◌≡◌, ◌<◌, ◌^◌, ◌∙◌, ap, ℕ, List, Some, length, rules}
use Rattle.bw_rows.specs.Spelling.{row_place, head_row}
use Rattle.bw_rows.specs.Steps.{row_group}
use Rattle.bw_tables.specs.Writing.{named}
use Rattle.bw_tables.proofs.CallLaws.{makes_long}
use Rattle.bw_tables.proofs.groups.long_step.Goals as goal

pub returns : goal.returns
returns c =
    let n = c.args.number.bytes in
    let wide : length c.args.number.bytes ≡ 8 = search rules in
    let fits : length c.args.value.now < 2 ^ 64 = search rules in
    let is : c.row_change.result ≡ row_group (row_place c.args.table.bytes c.args.key.now) (Some (head_row n (length c.args.value.now))) (Some (n, length c.args.value.now)) (named c.args.old)
    = c.row_change.ensures
    ∙ ap (λ (r : List ℕ). row_group (row_place c.args.table.bytes c.args.key.now) (Some r) (Some (n, length c.args.value.now)) (named c.args.old)) c.row.ensures.row in
    record { step = makes_long c.args.table.bytes c.args.key.now n c.args.value.now (named c.args.old) c.row_change.result wide c.requires fits is }

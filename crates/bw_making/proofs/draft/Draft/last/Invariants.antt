use Rattle.std.proofs.Common.{◌≡◌, take}
use Rattle.bw_making.specs.Drafting.{row_in}
use Rattle.bw_making.proofs.draft.Draft.last.Given as goal

abbrev pub invariant-rows : goal.invariant-rows
invariant-rows l = record { found : l.found ≡ row_in (take l.row-index l.self.rows.items) l.page }

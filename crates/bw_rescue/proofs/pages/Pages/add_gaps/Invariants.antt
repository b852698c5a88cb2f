use Rattle.std.specs.Prelude.{◌≡◌, ◌++◌, map, take}
use Rattle.bw_rescue.specs.Pages.{told_gap}
use Rattle.bw_rescue.proofs.pages.Pages.add_gaps.Given as goal

abbrev pub invariant-loop-gap : goal.invariant-loop-gap
invariant-loop-gap l = l.losses.items ≡ l.fn.losses.items ++ map told_gap (take l.gap-index l.self.gaps.items)

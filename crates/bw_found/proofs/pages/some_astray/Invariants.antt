use Rattle.std.proofs.Common.{◌≡◌, ◌||◌, drop}
use Rattle.std.specs.List.{list_any}
use Rattle.bw_record.specs.Keys.{is_below}
use Rattle.bw_lines.specs.Paging.{is_past}
use Rattle.bw_found.proofs.pages.some_astray.Given as goal

abbrev pub invariant-loop-at : goal.invariant-loop-at
invariant-loop-at l = list_any (λ p. is_below p.0 l.leaf.low || is_past l.next p.0) (drop l.at l.leaf.pairs)
    ≡ list_any (λ p. is_below p.0 l.leaf.low || is_past l.next p.0) l.leaf.pairs

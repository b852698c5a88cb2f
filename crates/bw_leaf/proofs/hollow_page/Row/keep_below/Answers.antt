use Rattle.std.proofs.Common.{◌∙◌, ap, sym}
use Rattle.bw_leaf.specs.Hollow.{hollow}
use Rattle.bw_leaf.specs.HollowPages.{row_pairs}
use Rattle.bw_leaf.proofs.HollowLaws.{hollow_below}
use Rattle.std.specs.List.{filter}
use Rattle.bw_record.specs.Keys.{is_below}
use Rattle.bw_leaf.specs.declared.hollow_page.Row.{Row}
use Rattle.bw_record.specs.declared.leaf.Leaf.{Leaf}
use Rattle.bw_leaf.proofs.hollow_page.Row.keep_below.Goals as goal

pub returns-in-Few : goal.returns-in-Few
returns-in-Few c =
    ap hollow c.keep_below.ensures ∙ hollow_below c.args.separator.now c.in-Few.few
    ∙ ap (λ (r : Row). filter (λ p. is_below p.0 c.args.separator.now) (hollow (row_pairs r))) (sym c.in-Few.is)

pub returns-in-Many : goal.returns-in-Many
returns-in-Many c =
    ap (λ (l : Leaf). hollow l.pairs) c.keep_below-in-Many.ensures ∙ hollow_below c.args.separator.now c.in-Many.many.pairs
    ∙ ap (λ (r : Row). filter (λ p. is_below p.0 c.args.separator.now) (hollow (row_pairs r))) (sym c.in-Many.is)

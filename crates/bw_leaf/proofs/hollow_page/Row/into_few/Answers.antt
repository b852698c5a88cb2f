use Rattle.std.proofs.Common.{◌∙◌, ap, sym}
use Rattle.bw_leaf.specs.Hollow.{hollow}
use Rattle.bw_leaf.specs.HollowPages.{row_pairs}
use Rattle.bw_leaf.proofs.HollowLaws.{hollow_twice, if_ok_from}
use Rattle.bw_leaf.specs.declared.hollow_page.Row.{Row}
use Rattle.bw_record.specs.declared.leaf.Leaf.{Leaf}
use Rattle.bw_leaf.proofs.hollow_page.Row.into_few.Goals as goal

pub returns-in_ok-into_leaf-in-Many : goal.returns-in_ok-into_leaf-in-Many
returns-in_ok-into_leaf-in-Many c =
    if_ok_from c.hollow_of.result
    (λ h is. ap hollow is ∙ hollow_twice c.as_slice.result.now
    ∙ ap hollow (c.as_slice.ensures ∙ ap (λ (l : Leaf). l.pairs) c.in_ok-into_leaf-in-Many.ensures)
    ∙ ap (λ (r : Row). hollow (row_pairs r)) (sym c.in-Many.is))
    c.hollow_of.ensures

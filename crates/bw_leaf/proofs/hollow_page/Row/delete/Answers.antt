use Rattle.std.proofs.Common.{◌∙◌, ap, sym}
use Rattle.std.proofs.lemmas.Result.{on_ok_weaker}
use Rattle.bw_leaf.specs.Changed.{Bytes, without, changed}
use Rattle.bw_leaf.specs.Hollow.{hollow}
use Rattle.bw_leaf.specs.HollowPages.{row_pairs}
use Rattle.bw_leaf.proofs.HollowLaws.{hollow_without}
use Rattle.bw_leaf.specs.declared.hollow_page.Row.{Row}
use Rattle.bw_record.specs.declared.leaf.Leaf.{Leaf}
use Rattle.bw_record.specs.declared.record.Record.{Record}
use Rattle.bw_record.specs.declared.record.Record.TheVariants.{Del}
use Rattle.bw_leaf.proofs.hollow_page.Row.delete.Goals as goal

pub returns-in-Few : goal.returns-in-Few
returns-in-Few c =
    ap hollow c.delete.ensures ∙ hollow_without c.args.key.now c.in-Few.few
    ∙ ap (λ (r : Row). without c.args.key.now (hollow (row_pairs r))) (sym c.in-Few.is)

pub returns-in_ok-pair_of-in-Many : goal.returns-in_ok-pair_of-in-Many
returns-in_ok-pair_of-in-Many c =
    on_ok_weaker c.apply-in-Many.result
    (λ is. ap (λ (l : Leaf). hollow l.pairs) (is ∙ ap (λ (r : Record). changed r c.in-Many.many) (c.del.ensures ∙ ap (λ (p : Bytes × Bytes). Del p.0) c.in_ok-pair_of-in-Many.ensures))
    ∙ hollow_without c.args.key.now c.in-Many.many.pairs
    ∙ ap (λ (r : Row). without c.args.key.now (hollow (row_pairs r))) (sym c.in-Many.is))
    c.apply-in-Many.ensures

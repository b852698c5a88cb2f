use Rattle.std.proofs.Common.{◌∙◌, ap, sym, length}
use Rattle.std.specs.FinMap.Entries.{put}
use Rattle.std.proofs.lemmas.Result.{on_ok_weaker}
use Rattle.bw_leaf.specs.Changed.{Bytes, Pairs, order, changed}
use Rattle.bw_leaf.specs.Hollow.{hollow, blank}
use Rattle.bw_leaf.specs.HollowPages.{row_pairs}
use Rattle.bw_leaf.proofs.HollowLaws.{hollow_put, put_blank}
use Rattle.bw_leaf.specs.declared.hollow_page.Row.{Row}
use Rattle.bw_record.specs.declared.leaf.Leaf.{Leaf}
use Rattle.bw_record.specs.declared.record.Record.{Record}
use Rattle.bw_record.specs.declared.record.Record.TheVariants.{Put}
use Rattle.bw_leaf.proofs.hollow_page.Row.put.Goals as goal

pub returns-in-Few : goal.returns-in-Few
returns-in-Few c =
    let n = length c.args.value.now in
    on_ok_weaker c.put.result
    (λ is. ap hollow is ∙ put_blank c.args.key.now n c.in-Few.few
    ∙ ap (λ (ps : Pairs). put order c.args.key.now (blank n) ps) (ap (λ (r : Row). hollow (row_pairs r)) (sym c.in-Few.is) ∙ c.spread.ensures))
    c.put.ensures.ok

pub returns-in_ok-pair_of-in-Many : goal.returns-in_ok-pair_of-in-Many
returns-in_ok-pair_of-in-Many c =
    let n = length c.args.value.now in
    on_ok_weaker c.apply-in-Many.result
    (λ is. ap (λ (l : Leaf). hollow l.pairs)
    (is ∙ ap (λ (r : Record). changed r c.in-Many.many) (c.put-in-Many.ensures ∙ ap (λ (p : Bytes × Bytes). Put p.0 p.1) c.in_ok-pair_of-in-Many.ensures))
    ∙ hollow_put c.args.key.now c.args.value.now c.in-Many.many.pairs
    ∙ ap (λ (ps : Pairs). put order c.args.key.now (blank n) ps) (ap (λ (r : Row). hollow (row_pairs r)) (sym c.in-Many.is) ∙ c.spread.ensures))
    c.apply-in-Many.ensures

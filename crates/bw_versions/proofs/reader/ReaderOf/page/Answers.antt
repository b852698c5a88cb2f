use Rattle.std.proofs.Common.{◌≡◌, ◌∙◌, List, ap, sym, subst}
use Rattle.std.specs.Result.{IfOk}
use mathlib.Core.List.{IsPrefix}
use Rattle.bw_versions.specs.Batches.{BatchData}
use Rattle.bw_versions.specs.Heard.{Heard}
use Rattle.bw_versions.specs.Posted.{posted_of, leaf_in}
use Rattle.bw_versions.specs.Reach.{Reach}
use Rattle.bw_versions.proofs.reader.ReaderOf.page.Goals as goal

pub returns-clause-reads : goal.returns-clause-reads
returns-clause-reads g c =
    let said = c.in-Some.ensures in
    let mark = c.again.ensures in
    let seen = c.self.view_is in
    record {
      book = ap (λ (r : Reach). r.book) mark ∙ said.book ∙ ap (λ (h : Heard). h.book) seen;
      seen = subst (λ (x : List BatchData × List BatchData). IsPrefix x.0 x.1) (λ i. ((seen i).seen, (sym mark i).log)) said.seen;
      learnt = subst (λ (x : List BatchData × List BatchData). IsPrefix x.0 x.1) (λ i. ((seen i).learnt, (sym mark i).log)) said.learnt;
      level = ap (λ (r : Reach). r.log) (sym mark);
    }

pub returns-clause-answer : goal.returns-clause-answer
returns-clause-answer g c =
    subst (λ a. IfOk a (λ leaf. leaf ≡ leaf_in (posted_of c.in-Some.mark.log) c.args.page)) c.in-Ok.is c.in-Some.ensures.answer
    ∙ ap (λ (r : Reach). leaf_in (posted_of r.log) c.args.page) (sym c.again.ensures)

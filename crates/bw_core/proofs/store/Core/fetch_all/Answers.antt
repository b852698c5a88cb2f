use Rattle.std.proofs.Common.{◌∙◌, refl, arith}
use Rattle.std.proofs.lemmas.Result.{err_from_is_err_and}
use Rattle.bw_record.specs.Lawful.{IsOp}
use Rattle.bw_record.specs.Record.{key_of}
use Rattle.bw_page.proofs.Together.{together}
use Rattle.bw_page.specs.Shown.{IsHere}
use Rattle.bw_core.proofs.Fetched.{all_here, all_more, all_taken, at_index, later_unread}
use Rattle.bw_core.proofs.store.Core.fetch_all.Goals as goal

pub records-init : goal.records-init
records-init g c = record { sound = c.requires.sound; intake = refl; same = refl; here = tt; ops = tt; noted = refl }

pub records-preserved : goal.records-preserved
records-preserved g c =
    let i = c.records.invariant in
    record {
      sound = c.fetch_one.ensures.keeps.sound;
      intake = c.fetch_one.ensures.keeps.intake ∙ i.intake;
      noted = c.fetch_one.ensures.keeps.noted ∙ i.noted;
      same = c.in_ok-fetch_one.ensures.leaves ∙ i.same;
      here = all_more (λ r. IsHere (key_of r) c.fetch_one.new.self.pages.leaves) c.args.records.now c.records.at _ c.records-test.true c.index-records-at.is
          (all_here c.records.self.pages.leaves c.fetch_one.new.self.pages.leaves _ c.in_ok-fetch_one.ensures.others i.here) c.in_ok-fetch_one.ensures.here;
      ops = all_more IsOp c.args.records.now c.records.at _ c.records-test.true c.index-records-at.is i.ops c.fetch_one.ensures.lawful;
    }

pub returns-in_err-fetch_one-clause-leaves : goal.returns-in_err-fetch_one-clause-leaves
returns-in_err-fetch_one-clause-leaves g c =
    let p = err_from_is_err_and c.from_residual.result c.from_residual.ensures.1 in
    rw (p.1, p.2) (later_unread (Unit {0}) _ c.args.records.now c.records.at _ _ _ _ _ c.records.invariant.same
    (at_index c.args.records.now c.records.at _ c.records-test.true c.index-records-at.is) c.in_err-fetch_one.ensures.away
    c.fetch_one.ensures.read c.in_err-fetch_one.ensures.leaves)

pub returns-clause-lawful : goal.returns-clause-lawful
returns-clause-lawful g c = all_taken IsOp c.args.records.now c.records.at (let end = c.records-test.false in omega arith) c.records.invariant.ops

pub returns-clause-here : goal.returns-clause-here
returns-clause-here g c =
    let f = c.records.self.pages.leaves in
    let top = c.count.ensures.limit in
    together f c.args.records.now (omega arith) c.count.ensures.lawful c.count.ensures.beyond
    (all_taken IsOp c.args.records.now c.records.at (let end = c.records-test.false in omega arith) c.records.invariant.ops)
    (all_taken (λ r. IsHere (key_of r) f) c.args.records.now c.records.at (let end = c.records-test.false in omega arith) c.records.invariant.here)

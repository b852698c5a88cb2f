use Rattle.std.proofs.Common.{◌∙◌, ◌<◌, length, subst, sym}
use Rattle.std.proofs.lemmas.List.{length-set}
use Rattle.bw_reading.proofs.Led.{noted_lead}
use Rattle.bw_reading.proofs.Starts.{noted_there}
use Rattle.bw_reading.proofs.bw_index_of.Goals as goal

pub loop-i-preserved : goal.loop-i-preserved
loop-i-preserved c =
    let below = subst (λ n. c.loop-i.i < n) (sym c.loop-i.invariant.long) c.loop-i-test.true in
    record {
      long = length-set c.loop-i.starts c.loop-i.i c.loop-i.at ∙ c.loop-i.invariant.long;
      noted = noted_there c.args.image.now c.loop-i.starts c.loop-i.i c.loop-i.at c.end_of-at.result below c.end_of-at.ensures c.loop-i.invariant.noted;
    }

pub returns-clause-lead : goal.returns-clause-lead
returns-clause-lead c pairs rest begins few =
    noted_lead c.args.image.now c.loop-i.starts (length c.args.starts.now) c.loop-i.i c.loop-i.at pairs rest c.loop-i.invariant.long c.loop-i-test.false
    c.loop-i.invariant.noted begins few

use Rattle.bw_file.specs.Settled.{calls_of, owed_calls}
use Rattle.bw_file.specs.FileHolding.{owes}
use Rattle.bw_file.proofs.Asking.{on_err}
use Rattle.bw_file.proofs.Cut.{cut_nothing, cut_all, cut_of_one, all_of_one}
use Rattle.bw_file.proofs.unsettled.settle.Goals as goal

pub returns-in_err-files-clause-cut : goal.returns-in_err-files-clause-cut
returns-in_err-files-clause-cut g c = on_err c.from_residual.result (cut_nothing (calls_of (owes c.args.one)) c.args.all.now.value)

pub returns-in_err-paid-clause-cut : goal.returns-in_err-paid-clause-cut
returns-in_err-paid-clause-cut g c =
    on_err c.from_residual-in_err-paid.result
    (cut_of_one c.args.one.lease (owed_calls (owes c.args.one)) c.nothing-asked.result.value c.pay-paid.new.asked.value c.args.all.now.value c.add.new.all.value
    c.nothing-asked.ensures c.in_err-paid.ensures.stopped c.add.ensures)

pub returns-clause-cut : goal.returns-clause-cut
returns-clause-cut g c =
    cut_all (calls_of (owes c.args.one)) c.args.all.now.value c.add.new.all.value
    (all_of_one c.args.one.lease (owed_calls (owes c.args.one)) c.nothing-asked.result.value c.pay-paid.new.asked.value c.args.all.now.value c.add.new.all.value
    c.nothing-asked.ensures c.in_ok-paid.ensures.asked c.add.ensures)

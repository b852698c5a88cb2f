use Rattle.std.proofs.Common.{◌++◌, ℕ, List, subst}
use Rattle.bw_file.specs.Asked.{IsStopped}
use Rattle.bw_file.specs.Settled.{end_calls, cut_calls, told_calls}
use Rattle.bw_file.proofs.Asking.{on_err, on_err_of}
use Rattle.bw_file.proofs.Paid.{stopped_first, stopped_next, both_done}
use Rattle.bw_file.proofs.paying.pay.Goals as goal

pub returns-in_err-write_end-clause-stopped : goal.returns-in_err-write_end-clause-stopped
returns-in_err-write_end-clause-stopped g c =
    let o = c.args.owed.now in
    let end = c.deref.result.now in
    on_err c.from_residual.result
    (subst (λ (e : List ℕ). IsStopped (end_calls o.from e ++ cut_calls o.held o.counted ++ told_calls o.counted o.sum) c.args.asked.now.value c.write_end.new.asked.value) c.deref.ensures.value
    (stopped_first (end_calls o.from end ++ cut_calls o.held o.counted) (told_calls o.counted o.sum) c.args.asked.now.value c.write_end.new.asked.value
    (stopped_first (end_calls o.from end) (cut_calls o.held o.counted) c.args.asked.now.value c.write_end.new.asked.value c.in_err-write_end.ensures.stopped)))

pub returns-in_err-cut_to-clause-stopped : goal.returns-in_err-cut_to-clause-stopped
returns-in_err-cut_to-clause-stopped g c =
    let o = c.args.owed.now in
    let end = c.deref.result.now in
    on_err c.from_residual-in_err-cut_to.result
    (subst (λ (e : List ℕ). IsStopped (end_calls o.from e ++ cut_calls o.held o.counted ++ told_calls o.counted o.sum) c.args.asked.now.value c.cut_to.new.asked.value) c.deref.ensures.value
    (stopped_first (end_calls o.from end ++ cut_calls o.held o.counted) (told_calls o.counted o.sum) c.args.asked.now.value c.cut_to.new.asked.value
    (stopped_next (end_calls o.from end) (cut_calls o.held o.counted) c.args.asked.now.value c.write_end.new.asked.value c.cut_to.new.asked.value
    c.in_ok-write_end.ensures.asked c.in_err-cut_to.ensures.stopped)))

pub returns-clause-stopped : goal.returns-clause-stopped
returns-clause-stopped g c =
    let o = c.args.owed.now in
    let end = c.deref.result.now in
    on_err_of c.tell.result
    (λ stopped same. subst (λ (e : List ℕ). IsStopped (end_calls o.from e ++ cut_calls o.held o.counted ++ told_calls o.counted o.sum) c.args.asked.now.value c.tell.new.asked.value) c.deref.ensures.value
    (stopped_next (end_calls o.from end ++ cut_calls o.held o.counted) (told_calls o.counted o.sum)
    c.args.asked.now.value c.cut_to.new.asked.value c.tell.new.asked.value
    (both_done (end_calls o.from end) (cut_calls o.held o.counted) c.args.asked.now.value c.write_end.new.asked.value c.cut_to.new.asked.value
    c.in_ok-write_end.ensures.asked c.in_ok-cut_to.ensures.asked) stopped))
    c.tell.ensures.stopped c.tell.ensures.stopped

use Rattle.bw_calls.proofs.PlainLaws.{all_same, itself, moved, lawful_moved, tables_from, unnamed_from, written_from, on_err}
use Rattle.bw_calls.proofs.LeaveLaws.{in_moved}
use Rattle.bw_calls.proofs.OtherLaws.{all_others}
use Rattle.bw_calls.proofs.writing.write.Goals as goal

pub returns-in_err-number-clause-stays : goal.returns-in_err-number-clause-stays
returns-in_err-number-clause-stays g c = λ lawful. on_err c.from_residual.result (moved _ _ _ (itself _ lawful) c.fresh.ensures.same)

pub returns-in_err-begin-clause-stays : goal.returns-in_err-begin-clause-stays
returns-in_err-begin-clause-stays g c = λ lawful.
    let still = lawful_moved _ _ lawful c.fresh.ensures.same in
    let unnamed = unnamed_from _ _ c.in_ok-number.number.bytes c.fresh.ensures.same (c.in_ok-number.ensures.unnamed lawful) in
    on_err c.from_residual-in_err-begin.result (tables_from _ _ _ c.fresh.ensures.same (c.in_err-begin.ensures.stays still unnamed))

pub returns-in_err-add_all-clause-stays : goal.returns-in_err-add_all-clause-stays
returns-in_err-add_all-clause-stays g c = λ lawful.
    let still = lawful_moved _ _ lawful c.fresh.ensures.same in
    let unnamed = unnamed_from _ _ c.in_ok-number.number.bytes c.fresh.ensures.same (c.in_ok-number.ensures.unnamed lawful) in
    on_err c.from_residual-in_err-add_all.result (tables_from _ _ _ c.fresh.ensures.same (c.in_err-add_all.ensures.stays _ (c.in_ok-begin.ensures.begins still unnamed)))

pub returns-clause-written : goal.returns-clause-written
returns-clause-written g c = λ lawful.
    let still = lawful_moved _ _ lawful c.fresh.ensures.same in
    let unnamed = unnamed_from _ _ c.in_ok-number.number.bytes c.fresh.ensures.same (c.in_ok-number.ensures.unnamed lawful) in
    written_from _ _ _ c.in_ok-number.number.bytes c.args.value.now c.chunk_count-count.result _ c.fresh.ensures.same c.chunk_count-count.ensures
    (c.in_ok-add_all.ensures.goes_on _ (c.in_ok-begin.ensures.begins still unnamed))

pub returns-clause-rows : goal.returns-clause-rows
returns-clause-rows g c = all_same _ _ _ _ c.fresh.ensures.same c.in_ok-begin.ensures.rows c.in_ok-add_all.ensures.rows

pub returns-in_err-number-clause-leaves : goal.returns-in_err-number-clause-leaves
returns-in_err-number-clause-leaves g c = λ lawful ts among stops. c.fresh.ensures.leaves ts stops

pub returns-in_err-begin-clause-leaves : goal.returns-in_err-begin-clause-leaves
returns-in_err-begin-clause-leaves g c = λ lawful ts among stops.
    let still = lawful_moved _ _ lawful c.fresh.ensures.same in
    let unnamed = unnamed_from _ _ c.in_ok-number.number.bytes c.fresh.ensures.same (c.in_ok-number.ensures.unnamed lawful) in
    let its = in_moved ts _ _ c.fresh.ensures.same among in
    let begun = c.begin.ensures.leaves still unnamed ts its (c.fresh.ensures.leaves ts stops) in
    begun

pub returns-in_err-add_all-clause-leaves : goal.returns-in_err-add_all-clause-leaves
returns-in_err-add_all-clause-leaves g c = λ lawful ts among stops.
    let still = lawful_moved _ _ lawful c.fresh.ensures.same in
    let unnamed = unnamed_from _ _ c.in_ok-number.number.bytes c.fresh.ensures.same (c.in_ok-number.ensures.unnamed lawful) in
    let its = in_moved ts _ _ c.fresh.ensures.same among in
    let begun = c.begin.ensures.leaves still unnamed ts its (c.fresh.ensures.leaves ts stops) in
    c.add_all.ensures.leaves _ (c.in_ok-begin.ensures.begins still unnamed) ts its begun

pub returns-clause-leaves : goal.returns-clause-leaves
returns-clause-leaves g c = λ lawful ts among stops.
    let still = lawful_moved _ _ lawful c.fresh.ensures.same in
    let unnamed = unnamed_from _ _ c.in_ok-number.number.bytes c.fresh.ensures.same (c.in_ok-number.ensures.unnamed lawful) in
    let its = in_moved ts _ _ c.fresh.ensures.same among in
    let begun = c.begin.ensures.leaves still unnamed ts its (c.fresh.ensures.leaves ts stops) in
    c.add_all.ensures.leaves _ (c.in_ok-begin.ensures.begins still unnamed) ts its begun

pub returns-clause-others : goal.returns-clause-others
returns-clause-others g c = all_others _ _ c.in_ok-number.number.bytes _ _ c.fresh.ensures.same c.in_ok-begin.ensures.others c.in_ok-add_all.ensures.others

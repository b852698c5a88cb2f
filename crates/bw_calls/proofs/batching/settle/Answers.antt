use Rattle.std.proofs.Common.{inl}
use Rattle.bw_calls.proofs.PlainLaws.{behind, itself, moved, tables_from, lawful_moved}
use Rattle.bw_calls.proofs.LeaveLaws.{in_its}
use Rattle.bw_calls.proofs.OtherLaws.{on_any}
use Rattle.bw_calls.proofs.BatchLaws.{left_moved, left_quiet, left_stands, mark_told, some_stands}
use Rattle.bw_calls.proofs.batching.settle.Goals as goal

-- ---- whether a batch stands was not read

pub returns-in_err-get-clause-stays : goal.returns-in_err-get-clause-stays
returns-in_err-get-clause-stays g c = λ lawful. moved _ _ _ (itself _ lawful) c.get.ensures.same

pub returns-in_err-get-clause-left : goal.returns-in_err-get-clause-left
returns-in_err-get-clause-left g c = λ tables left. left_moved tables _ _ left c.get.ensures.same

pub returns-in_err-get-clause-leaves : goal.returns-in_err-get-clause-leaves
returns-in_err-get-clause-leaves g c = λ tables left ts among stops. c.get.ensures.leaves ts stops

-- ---- one stands

pub returns-in-Some-clause-done : goal.returns-in-Some-clause-done
returns-in-Some-clause-done g c = λ tables left.
    let there = mark_told _ _ c.stands_key.result _ _ c.get.ensures.same c.in-Some.is c.in_ok-get.ensures.value c.stands_key.ensures in
    c.carry_all.ensures.done tables (left_stands tables _ _ (left_moved tables _ _ left c.get.ensures.same) there)

pub returns-in-Some-clause-left : goal.returns-in-Some-clause-left
returns-in-Some-clause-left g c = λ tables left.
    let there = mark_told _ _ c.stands_key.result _ _ c.get.ensures.same c.in-Some.is c.in_ok-get.ensures.value c.stands_key.ensures in
    c.carry_all.ensures.left tables (left_stands tables _ _ (left_moved tables _ _ left c.get.ensures.same) there)

pub returns-in-Some-clause-stays : goal.returns-in-Some-clause-stays
returns-in-Some-clause-stays g c = λ lawful.
    let there = mark_told _ _ c.stands_key.result _ _ c.get.ensures.same c.in-Some.is c.in_ok-get.ensures.value c.stands_key.ensures in
    some_stands _ _ (lawful_moved _ _ lawful c.get.ensures.same) there

pub returns-in-Some-clause-leaves : goal.returns-in-Some-clause-leaves
returns-in-Some-clause-leaves g c = λ tables left ts among stops.
    let there = mark_told _ _ c.stands_key.result _ _ c.get.ensures.same c.in-Some.is c.in_ok-get.ensures.value c.stands_key.ensures in
    c.carry_all.ensures.leaves tables (left_stands tables _ _ (left_moved tables _ _ left c.get.ensures.same) there) ts among (c.get.ensures.leaves ts stops)

-- ---- none stands

pub returns-in-None-clause-stays : goal.returns-in-None-clause-stays
returns-in-None-clause-stays g c = λ lawful.
    tables_from _ _ _ c.get.ensures.same (c.clear_asides.ensures.stays (lawful_moved _ _ lawful c.get.ensures.same))

pub returns-in-None-clause-done : goal.returns-in-None-clause-done
returns-in-None-clause-done g c = λ tables left.
    let none = mark_told _ _ c.stands_key.result _ _ c.get.ensures.same c.in-None.is c.in_ok-get.ensures.value c.stands_key.ensures in
    let h = left_quiet tables _ (left_moved tables _ _ left c.get.ensures.same) none in
    on_any c.clear_asides.result (behind _ _ _ h (c.clear_asides.ensures.stays h.lawful))

pub returns-in-None-clause-left : goal.returns-in-None-clause-left
returns-in-None-clause-left g c = λ tables left.
    let none = mark_told _ _ c.stands_key.result _ _ c.get.ensures.same c.in-None.is c.in_ok-get.ensures.value c.stands_key.ensures in
    let h = left_quiet tables _ (left_moved tables _ _ left c.get.ensures.same) none in
    inl (behind _ _ _ h (c.clear_asides.ensures.stays h.lawful))

pub returns-in-None-clause-leaves : goal.returns-in-None-clause-leaves
returns-in-None-clause-leaves g c = λ tables left ts among stops.
    let none = mark_told _ _ c.stands_key.result _ _ c.get.ensures.same c.in-None.is c.in_ok-get.ensures.value c.stands_key.ensures in
    let h = left_quiet tables _ (left_moved tables _ _ left c.get.ensures.same) none in
    c.clear_asides.ensures.leaves h.lawful ts (in_its ts _ _ h among) (c.get.ensures.leaves ts stops)

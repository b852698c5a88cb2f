use Rattle.std.proofs.Common.{inl}
use Rattle.bw_calls.proofs.PlainLaws.{behind}
use Rattle.bw_calls.proofs.LeaveLaws.{in_its}
use Rattle.bw_calls.proofs.OtherLaws.{on_any}
use Rattle.bw_calls.proofs.OpenLaws.{all_finished, all_of_tables}
use Rattle.bw_calls.proofs.opening.open.Goals as goal

-- ---- settle was refused

pub returns-in_err-settle-clause-stays : goal.returns-in_err-settle-clause-stays
returns-in_err-settle-clause-stays g c = λ lawful. c.settle.ensures.stays lawful

pub returns-in_err-settle-clause-left : goal.returns-in_err-settle-clause-left
returns-in_err-settle-clause-left g c = λ tables left. c.settle.ensures.left tables left

pub returns-in_err-settle-clause-leaves : goal.returns-in_err-settle-clause-leaves
returns-in_err-settle-clause-leaves g c = λ tables left ts among stops. c.settle.ensures.leaves tables left ts among stops

-- ---- the tables that are gone were not cleared

pub returns-in_err-clear_gone-clause-stays : goal.returns-in_err-clear_gone-clause-stays
returns-in_err-clear_gone-clause-stays g c = λ lawful.
    let h = c.settle.ensures.stays lawful in
    behind _ _ _ h (c.clear_gone.ensures.stays h.lawful)

pub returns-in_err-clear_gone-clause-left : goal.returns-in_err-clear_gone-clause-left
returns-in_err-clear_gone-clause-left g c = λ tables left.
    let h = c.in_ok-settle.ensures.done tables left in
    inl (behind _ _ _ h (c.clear_gone.ensures.stays h.lawful))

pub returns-in_err-clear_gone-clause-leaves : goal.returns-in_err-clear_gone-clause-leaves
returns-in_err-clear_gone-clause-leaves g c = λ tables left ts among stops.
    let h = c.in_ok-settle.ensures.done tables left in
    c.clear_gone.ensures.leaves h.lawful ts (in_its ts _ _ h among) (c.settle.ensures.leaves tables left ts among stops)

-- ---- all went on

pub returns-clause-stays : goal.returns-clause-stays
returns-clause-stays g c = λ lawful.
    let h = c.settle.ensures.stays lawful in
    let k = behind _ _ _ h (c.clear_gone.ensures.stays h.lawful) in
    behind _ _ _ k (c.collect_all.ensures.stays k.lawful)

pub returns-clause-opened : goal.returns-clause-opened
returns-clause-opened g c = λ tables left.
    let h = c.in_ok-settle.ensures.done tables left in
    let k = behind _ _ _ h (c.clear_gone.ensures.stays h.lawful) in
    on_any c.collect_all.result (behind _ _ _ k (c.collect_all.ensures.stays k.lawful))

pub returns-clause-left : goal.returns-clause-left
returns-clause-left g c = λ tables left.
    let h = c.in_ok-settle.ensures.done tables left in
    let k = behind _ _ _ h (c.clear_gone.ensures.stays h.lawful) in
    inl (behind _ _ _ k (c.collect_all.ensures.stays k.lawful))

pub returns-clause-leaves : goal.returns-clause-leaves
returns-clause-leaves g c = λ tables left ts among stops.
    let h = c.in_ok-settle.ensures.done tables left in
    let k = behind _ _ _ h (c.clear_gone.ensures.stays h.lawful) in
    let settled = c.settle.ensures.leaves tables left ts among stops in
    let cleared = c.clear_gone.ensures.leaves h.lawful ts (in_its ts _ _ h among) settled in
    c.collect_all.ensures.leaves k.lawful ts (in_its ts _ _ k among) cleared

pub returns-clause-finished : goal.returns-clause-finished
returns-clause-finished g c =
    all_finished _ _ _ c.collect_all.result c.in_ok-settle.ensures.none c.in_ok-clear_gone.ensures.asides c.in_ok-clear_gone.ensures.none c.collect_all.ensures.marks c.collect_all.ensures.clean

pub returns-clause-rows : goal.returns-clause-rows
returns-clause-rows g c = λ tables left.
    let h = c.in_ok-settle.ensures.done tables left in
    let k = behind _ _ _ h (c.clear_gone.ensures.stays h.lawful) in
    let last = behind _ _ _ k (c.collect_all.ensures.stays k.lawful) in
    all_of_tables _ _ c.collect_all.result last.lawful c.in_ok-clear_gone.ensures.none c.collect_all.ensures.marks

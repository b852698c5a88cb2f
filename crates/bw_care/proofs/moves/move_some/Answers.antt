use Rattle.std.proofs.Common.{sym}
use Rattle.std.proofs.lemmas.Result.{err_from_is_err_and}
use Rattle.bw_buffer.specs.Filling.{frame_of}
use Rattle.bw_care.specs.Views.{seen}
use Rattle.bw_care.proofs.BasesLeave.{next_range}
use Rattle.bw_care.proofs.CleaningSteps.{fill_refused, fill_reason, append_refused, append_reason, next_sent, sends_of, short_enough, follows_sent}
use Rattle.bw_care.proofs.CleaningSteps.{moved_sent, other_fault, full_sent}
use Rattle.bw_care.proofs.moves.move_some.Goals as goal

pub new-requires-clause-numbered : goal.new-requires-clause-numbered
new-requires-clause-numbered g c = (next_range _ c.in-Some.number c.requires.sound (sym c.in-Some.ensures)).0

pub returns-in_err-count-clause-refused : goal.returns-in_err-count-clause-refused
returns-in_err-count-clause-refused g c =
    let p = err_from_is_err_and c.from_residual-in_err-count.result c.from_residual-in_err-count.ensures.1 in
    rw (p.1, p.2) (fill_refused _ _ _ c.in_err-count.field-0.0 c.in_err-count.ensures.stops (other_fault c.in_err-count.field-0.0 c.in_err-count.ensures.paged))

pub returns-in_err-count-clause-reason : goal.returns-in_err-count-clause-reason
returns-in_err-count-clause-reason g c =
    let p = err_from_is_err_and c.from_residual-in_err-count.result c.from_residual-in_err-count.ensures.1 in
    rw (p.1, p.2) (fill_reason _ _ c.in_err-count.field-0.0 c.args.pages.now c.in_err-count.ensures.stops
    (other_fault c.in_err-count.field-0.0 c.in_err-count.ensures.paged) c.requires.some)

pub append_care-requires-clause-follows : goal.append_care-requires-clause-follows
append_care-requires-clause-follows g c =
    let filled = c.in_ok-count.ensures.filled in
    let s = sends_of _ _ _ _ _ _ _ _ c.in_ok-buffer.ensures c.limit.ensures filled.2 filled.3 c.seal.ensures in
    follows_sent _ _ c.seal.new.self c.args.pages.now c.in_ok-count.count c.in-Some.number c.requires.sound c.in_ok-count.ensures.stops c.requires.pages
    c.requires.some s filled.0 filled.1 (sym c.in-Some.ensures) c.bytes.ensures.fits

pub returns-in_err-append_care-clause-refused : goal.returns-in_err-append_care-clause-refused
returns-in_err-append_care-clause-refused g c =
    let p = err_from_is_err_and c.from_residual-in_err-append_care.result c.from_residual-in_err-append_care.ensures.1 in
    let filled = c.in_ok-count.ensures.filled in
    let s = sends_of _ _ _ _ _ _ _ _ c.in_ok-buffer.ensures c.limit.ensures filled.2 filled.3 c.seal.ensures in
    rw (p.1, p.2) (append_refused _ _ (frame_of c.seal.new.self) _ _ c.in_err-append_care.field-0.0 s.holds c.in_ok-count.ensures.stops c.requires.works
    (short_enough s c.bytes.ensures.fits) c.in_err-append_care.ensures.leaves.answers c.in_err-append_care.ensures.leaves.device
    c.in_err-append_care.ensures.leaves.log)

pub returns-in_err-append_care-clause-reason : goal.returns-in_err-append_care-clause-reason
returns-in_err-append_care-clause-reason g c =
    let p = err_from_is_err_and c.from_residual-in_err-append_care.result c.from_residual-in_err-append_care.ensures.1 in
    let filled = c.in_ok-count.ensures.filled in
    let s = sends_of _ _ _ _ _ _ _ _ c.in_ok-buffer.ensures c.limit.ensures filled.2 filled.3 c.seal.ensures in
    rw (p.1, p.2) (append_reason _ _ (seen c.append_care.new.self (λ b. (goal.Segment-dyn g b).holding b.1)) c.args.pages.now (frame_of c.seal.new.self) c.in_err-append_care.field-0.0
    (next_sent _ c.fill.new.buffer c.seal.new.self c.args.pages.now c.in_ok-count.count c.in-Some.number s filled.0 filled.1 c.seal.ensures filled.4)
    c.in_ok-count.ensures.stops c.requires.works (short_enough s c.bytes.ensures.fits) c.in_err-append_care.ensures.leaves.answers
    c.in_err-append_care.ensures.leaves.device)

pub returns-clause-some : goal.returns-clause-some
returns-clause-some g c = (c.in_ok-count.ensures.filled.0, c.in_ok-count.ensures.filled.1)

pub returns-clause-moved : goal.returns-clause-moved
returns-clause-moved g c = λ last behind.
    let filled = c.in_ok-count.ensures.filled in
    let s = sends_of _ _ _ _ _ _ _ _ c.in_ok-buffer.ensures c.limit.ensures filled.2 filled.3 c.seal.ensures in
    moved_sent last _ _ _ c.seal.new.self c.args.pages.now c.in_ok-count.count c.in-Some.number behind
    filled.0 filled.1 c.requires.sound c.in_ok-count.ensures.stops c.requires.pages c.requires.some s (sym c.in-Some.ensures)
    c.in_ok-append_care.ensures.leaves
    (full_sent (seen c.args.log.now (λ b. (goal.Segment-dyn g b).holding b.1)) c.fill.new.buffer c.seal.new.self _ c.seal.ensures filled.4)

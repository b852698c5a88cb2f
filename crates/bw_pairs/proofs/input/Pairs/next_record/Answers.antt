use Rattle.std.proofs.Common.{◌≡◌, refl, true, false, Ok, Err, Some, IfSome, inl, inr, sym, ap, subst, ◌∙◌, rules}
use Rattle.std.specs.Result.{is_ok}
use Rattle.bw_pairs.specs.declared.fault.PairsFault.TheVariants.{Line}
use Rattle.bw_pairs.specs.Faults.{fault_line, was_read}
use Rattle.bw_pairs.specs.Records.{Reading, Given, Bad, Over, noted, passed, next_answer}
use Rattle.bw_pairs.specs.Readings.{place_of, reading_of, came_of, refused, Says}
use Rattle.bw_pairs.proofs.Heading.{with_line}
use Rattle.bw_pairs.proofs.Stepping.{with_reading, IsAnswer, answers, failed, when_read, bad_ends, bad_noted, on_ok}
use Rattle.bw_pairs.proofs.input.Pairs.next_record.Goals as goal

pub returns-in_err-record-clause-says : goal.returns-in_err-record-clause-says
returns-in_err-record-clause-says g c =
    let fault = c.in_err-record.field-0.0 in
    let was : c.from_residual.result ≡ Err fault = search rules in
    with_reading (reading_of g.I.Read.remaining c.args.self.now) _ _ (λ first h.
    let (now, at, same) = h in
    subst (λ r. Says r (next_answer first).came) (sym was)
    (with_line (fault_line fault) _ _ (λ line f. inl (ap (λ a. a.came) (sym same) ∙ f.0))
    (failed g.I.Read.remaining c.loop.self c.next.new.self fault now c.in_err-record.ensures.step c.in_err-record.ensures.same at)))
    c.loop.invariant

pub returns-in_err-record-clause-left : goal.returns-in_err-record-clause-left
returns-in_err-record-clause-left g c read =
    let fault = c.in_err-record.field-0.0 in
    let was : c.from_residual.result ≡ Err fault = search rules in
    with_reading (reading_of g.I.Read.remaining c.args.self.now) _ _ (λ first h.
    let (now, at, same) = h in
    when_read (fault_line fault) (reading_of g.I.Read.remaining c.next.new.self ≡ Some (next_answer first).reading)
    (ap was_read (sym was) ∙ read)
    (with_line (fault_line fault) _ _ (λ line f. f.1 ∙ ap (λ a. Some a.reading) same)
    (failed g.I.Read.remaining c.loop.self c.next.new.self fault now c.in_err-record.ensures.step c.in_err-record.ensures.same at)))
    c.loop.invariant

pub returns-in-One-clause-says : goal.returns-in-One-clause-says
returns-in-One-clause-says g c =
    with_reading (reading_of g.I.Read.remaining c.args.self.now) _ _ (λ first h.
    let (now, at, same) = h in
    ap (λ a. a.came) (sym same)
    ∙ (answers g.I.Read.remaining c.loop.self c.next.new.self (Ok c.in_ok-record.field-0) (Given c.in-One.record) now
    (ap (λ n. came_of (Ok n)) c.in-One.is) tt c.in_ok-record.ensures.step c.in_ok-record.ensures.same at).0)
    c.loop.invariant

pub returns-in-One-clause-left : goal.returns-in-One-clause-left
returns-in-One-clause-left g c read =
    with_reading (reading_of g.I.Read.remaining c.args.self.now) _ _ (λ first h.
    let (now, at, same) = h in
    (answers g.I.Read.remaining c.loop.self c.next.new.self (Ok c.in_ok-record.field-0) (Given c.in-One.record) now
    (ap (λ n. came_of (Ok n)) c.in-One.is) tt c.in_ok-record.ensures.step c.in_ok-record.ensures.same at).1
    ∙ ap (λ a. Some a.reading) same)
    c.loop.invariant

pub returns-in-End-clause-says : goal.returns-in-End-clause-says
returns-in-End-clause-says g c =
    with_reading (reading_of g.I.Read.remaining c.args.self.now) _ _ (λ first h.
    let (now, at, same) = h in
    ap (λ a. a.came) (sym same)
    ∙ (answers g.I.Read.remaining c.loop.self c.next.new.self (Ok c.in_ok-record.field-0) Over now
    (ap (λ n. came_of (Ok n)) c.in-End.is) tt c.in_ok-record.ensures.step c.in_ok-record.ensures.same at).0)
    c.loop.invariant

pub returns-in-End-clause-left : goal.returns-in-End-clause-left
returns-in-End-clause-left g c read =
    with_reading (reading_of g.I.Read.remaining c.args.self.now) _ _ (λ first h.
    let (now, at, same) = h in
    (answers g.I.Read.remaining c.loop.self c.next.new.self (Ok c.in_ok-record.field-0) Over now
    (ap (λ n. came_of (Ok n)) c.in-End.is) tt c.in_ok-record.ensures.step c.in_ok-record.ensures.same at).1
    ∙ ap (λ a. Some a.reading) same)
    c.loop.invariant

pub returns-in_err-note-in-Bad-clause-says : goal.returns-in_err-note-in-Bad-clause-says
returns-in_err-note-in-Bad-clause-says g c =
    let fault = c.in_err-note-in-Bad.field-0.0 in
    let was : c.from_residual-in_err-note-in-Bad.result ≡ Err fault = search rules in
    let is : fault ≡ Line c.in-Bad.number c.in-Bad.fault = c.in_err-note-in-Bad.ensures.ends in
    with_reading (reading_of g.I.Read.remaining c.args.self.now) _ _ (λ first h.
    let (now, at, same) = h in
    subst (λ r. Says r (next_answer first).came) (sym (was ∙ ap Err is))
    (inr (ap (λ a. a.came) (sym same)
    ∙ (bad_ends g.I.Read.remaining c.loop.self c.next.new.self (Ok c.in_ok-record.field-0) c.in-Bad.number now
    (ap (λ n. came_of (Ok n)) c.in-Bad.is) c.in_ok-record.ensures.step c.in_ok-record.ensures.same
    (sym c.in_err-note-in-Bad.ensures.skips) at).0)))
    c.loop.invariant

pub returns-in_err-note-in-Bad-clause-left : goal.returns-in_err-note-in-Bad-clause-left
returns-in_err-note-in-Bad-clause-left g c read =
    with_reading (reading_of g.I.Read.remaining c.args.self.now) _ _ (λ first h.
    let (now, at, same) = h in
    ap (reading_of g.I.Read.remaining) (c.in_err-note-in-Bad.ensures.same refl)
    ∙ (bad_ends g.I.Read.remaining c.loop.self c.next.new.self (Ok c.in_ok-record.field-0) c.in-Bad.number now
    (ap (λ n. came_of (Ok n)) c.in-Bad.is) c.in_ok-record.ensures.step c.in_ok-record.ensures.same
    (sym c.in_err-note-in-Bad.ensures.skips) at).1
    ∙ ap (λ a. Some a.reading) same)
    c.loop.invariant

pub loop-preserved : goal.loop-preserved
loop-preserved g c =
    let ok : is_ok c.note.result ≡ true = search rules in
    with_reading (reading_of g.I.Read.remaining c.args.self.now) _ _ (λ first h.
    let (now, at, same) = h in
    let noted_ = bad_noted g.I.Read.remaining c.loop.self c.next.new.self c.note.new.self (Ok c.in_ok-record.field-0) c.in-Bad.number now
    (ap (λ n. came_of (Ok n)) c.in-Bad.is) c.in_ok-record.ensures.step c.in_ok-record.ensures.same
    (sym c.note.ensures.skips ∙ ok) (on_ok c.note.result _ ok c.note.ensures.noted) c.note.ensures.lines at in
    (noted c.in-Bad.number (passed now), noted_.0, noted_.1 ∙ same))
    c.loop.invariant

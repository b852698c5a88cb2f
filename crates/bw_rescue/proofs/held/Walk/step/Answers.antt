use Rattle.std.proofs.Common.{ℕ, ◌≡◌, ◌+◌, ◌∙◌, Option, refl, ap, subst, arith}
use Rattle.std.specs.Prelude.{MatchOption}
use Rattle.bw_record.specs.declared.block.Frame.{Frame}
use Rattle.bw_rescue.specs.Taken.{StandsAt, NoneAt}
use Rattle.bw_rescue.specs.Hurt.{cuts, is_hurt_in}
use Rattle.bw_rescue.specs.Walked.{GoesTo}
use Rattle.bw_rescue.proofs.RowTaken.{still_open, goes_there, ends_within, the_same, none_found, not_above}
use Rattle.bw_rescue.proofs.held.Walk.step.Goals.{in_default-via-in-Some+else-branch-self, in_default-via-in_default}
use Rattle.bw_rescue.proofs.held.Walk.step.Goals as goal

pub returns-in-Some-clause-taken : goal.returns-in-Some-clause-taken
returns-in-Some-clause-taken c = λ taken.
    let stands : StandsAt c.args.header c.args.bytes.now c.args.self.now.at c.in-Some.frame c.in-Some.len = subst
    (λ (o : Option (Frame × ℕ)). MatchOption o (NoneAt c.args.header c.args.bytes.now c.args.self.now.at) (λ f. StandsAt c.args.header c.args.bytes.now c.args.self.now.at f.0 f.1))
    c.in-Some.is c.in_ok-len.ensures.found in
    c.in_ok-take-in-Some.ensures.taken c.args.header c.args.bytes.now taken (record { frame = c.in-Some.frame; len = c.in-Some.len; stands = stands; is = refl }) c.if-branch-self.true

pub returns-in-Some-clause-goes : goal.returns-in-Some-clause-goes
returns-in-Some-clause-goes c = λ frame len stands more begun.
    let same = the_same c.in_ok-len.field-0 c.in-Some.frame frame c.in-Some.len len c.in-Some.is (c.in_ok-len.ensures.only frame len stands) in
    let within = ends_within c.args.header c.args.bytes.now c.args.self.now.at frame len stands in
    let used = same.1 in
    let end : c.saturating_add-end.result ≡ c.args.self.now.at + len = (let sat = c.saturating_add-end.ensures in omega (arith, within, used, sat)) in (
      refl,
      still_open c.args.self.now.at c.around-piece.new.self c.take.new.self.pieces c.in_ok-take-in-Some.ensures.goes.cuts c.take.ensures.passed (c.around-piece.ensures.open begun),
      subst (λ (f : Frame). GoesTo f.number (c.args.self.now.at + len) (is_hurt_in (cuts c.args.self.now.pieces) c.args.self.now.at (c.args.self.now.at + len)) c.args.self.now c.take.new.self) same.0
          (goes_there c.args.self.now c.take.new.self c.around-piece.new.self c.in-Some.frame.number c.saturating_add-end.result (c.args.self.now.at + len) _ _ c.around-piece.ensures.same end
          (c.worth_of.ensures ∙ c.around-piece.ensures.hurt begun c.saturating_add-end.result ∙ ap (λ (e : ℕ). is_hurt_in (cuts c.args.self.now.pieces) c.args.self.now.at e) end) c.in_ok-take-in-Some.ensures.goes),
    )

pub returns-in-Some-next_start-clause-goes : goal.returns-in-Some-next_start-clause-goes
returns-in-Some-next_start-clause-goes c = λ frame len stands more begun. absurd (elim c.in_default.branch [
  | in_default-via-in-Some+else-branch-self w ↦ (let same = the_same c.in_ok-len.field-0 w.in-Some.frame frame w.in-Some.len len w.in-Some.is (c.in_ok-len.ensures.only frame len stands) in
      not_above c.args.self.now.last w.in-Some.frame frame w.if-branch-self.false more same.0)
  | in_default-via-in_default w ↦ none_found c.in_ok-len.field-0 frame len w.in_default.is (c.in_ok-len.ensures.only frame len stands)
])

pub returns-clause-goes : goal.returns-clause-goes
returns-clause-goes c = λ frame len stands more begun. absurd (elim c.in_default.branch [
  | in_default-via-in-Some+else-branch-self w ↦ (let same = the_same c.in_ok-len.field-0 w.in-Some.frame frame w.in-Some.len len w.in-Some.is (c.in_ok-len.ensures.only frame len stands) in
      not_above c.args.self.now.last w.in-Some.frame frame w.if-branch-self.false more same.0)
  | in_default-via-in_default w ↦ none_found c.in_ok-len.field-0 frame len w.in_default.is (c.in_ok-len.ensures.only frame len stands)
])

use Rattle.std.proofs.Common.{◌≡◌, ◌∙◌, ◌∷◌, [], ◌++◌, List, Err, inl, inr, map, ap, sym, subst}
use Rattle.std.proofs.lemmas.List.{map-append}
use Rattle.std.proofs.lemmas.Result.{err_from_is_err_and}
use Rattle.bw_record.specs.Record.{key_of}
use Rattle.bw_record.specs.declared.record.Record.{Record}
use Rattle.bw_page.specs.declared.fault.ApplyError.TheVariants.{Spent}
use Rattle.bw_page.specs.Leaves.{HasPage, HasPages}
use Rattle.bw_page.specs.Shown.{Shown, IsHere, IsSpent, run}
use Rattle.bw_page.specs.Batch.{SomeIsSpent, AreHere, step_of, steps_of}
use Rattle.bw_page.proofs.Runs.{all_back, has-push, steps-push}
use Rattle.bw_page.proofs.Batches.{here_first, here_last, spent_before, spent_last, none_is_spent, on_ok, was_ok, is_ok_on}
use Rattle.bw_page.proofs.leaves.Leaves.steps.Goals as goal

pub walk-walked-requires-clause-here : goal.walk-walked-requires-clause-here
walk-walked-requires-clause-here g c =
    let held = g.T.HasRecord.record_of in
    let all = ap (map held) c.in-Some.ensures.cases.0 ∙ map-append held c.in-Some.front.now (c.in-Some.last.now ∷ []) in
    here_first c.args.self.now (map held c.in-Some.front.now) (held c.in-Some.last.now) (subst (AreHere c.args.self.now) all c.requires)

pub end_of-ended-requires : goal.end_of-ended-requires
end_of-ended-requires g c =
    let held = g.T.HasRecord.record_of in
    let all = ap (map held) c.in-Some.ensures.cases.0 ∙ map-append held c.in-Some.front.now (c.in-Some.last.now ∷ []) in
    on_ok c.walk-walked.result
    (λ ran room. subst (IsHere (key_of (held c.in-Some.last.now))) (sym ran)
    (here_last c.args.self.now (map held c.in-Some.front.now) (held c.in-Some.last.now) room (subst (AreHere c.args.self.now) all c.requires)))
    c.walk-walked.ensures.run c.walk-walked.ensures.pages

pub returns-in_err-ended-clause-same : goal.returns-in_err-ended-clause-same
returns-in_err-ended-clause-same g c = c.take_back.ensures ∙ all_back _ _ _ _ c.walk-walked.ensures.back.1

pub returns-clause-same : goal.returns-clause-same
returns-clause-same g c = c.take_back.ensures ∙ all_back _ _ _ _ c.walk-walked.ensures.back.1

pub returns-in_err-ended-clause-only_spent : goal.returns-in_err-ended-clause-only_spent
returns-in_err-ended-clause-only_spent g c e =
    let held = g.T.HasRecord.record_of in
    let front = map held c.in-Some.front.now in
    let r = held c.in-Some.last.now in
    let all = ap (map held) c.in-Some.ensures.cases.0 ∙ map-append held c.in-Some.front.now (c.in-Some.last.now ∷ []) in
    let p = err_from_is_err_and c.from_residual-in_err-ended.result c.from_residual-in_err-ended.ensures.1 in
    let was : c.in_err-ended.field-0.0 ≡ Spent = cc (e, p.1, p.2) in
    subst (SomeIsSpent c.args.self.now) (sym all)
    (elim (c.in_err-ended.ensures.only_spent (ap Err was)) [
      | inl h ↦ spent_before c.args.self.now front r (c.walk-walked.ensures.only_spent h)
      | inr h ↦ spent_last c.args.self.now front r
          (subst (λ (f : Shown). IsSpent f r) (is_ok_on c.walk-walked.result h.0 c.walk-walked.ensures.run) h.1)
    ])

pub returns-clause-steps : goal.returns-clause-steps
returns-clause-steps g c =
    let held = g.T.HasRecord.record_of in
    let front = map held c.in-Some.front.now in
    let r = held c.in-Some.last.now in
    let all = ap (map held) c.in-Some.ensures.cases.0 ∙ map-append held c.in-Some.front.now (c.in-Some.last.now ∷ []) in
    let ran = was_ok c.walk-walked.result c.in_ok-ended.ensures.walked c.walk-walked.ensures.run in
    let told = was_ok c.walk-walked.result c.in_ok-ended.ensures.walked c.walk-walked.ensures.steps in
    c.push_reserved.ensures.items
    ∙ (λ i. told i ++ c.in_ok-ended.ensures.step i ∷ [])
    ∙ ap (λ (f : Shown). steps_of c.args.self.now front ++ step_of f r ∷ []) ran
    ∙ sym (steps-push c.args.self.now front r)
    ∙ ap (steps_of c.args.self.now) (sym all)

room_is : (f now : Shown) (front : List Record) (r : Record) (rs : List Record) → rs ≡ front ++ r ∷ [] → now ≡ run f front
    → HasPages f.m f.leaves front → HasPage now.m now.leaves r → HasPages f.m f.leaves rs
room_is f now front r rs all ran room last =
    subst (HasPages f.m f.leaves) (sym all) (has-push f.m f.leaves front r room (subst (λ (x : Shown). HasPage x.m x.leaves r) ran last))

pub returns-clause-room : goal.returns-clause-room
returns-clause-room g c =
    let held = g.T.HasRecord.record_of in
    let all = ap (map held) c.in-Some.ensures.cases.0 ∙ map-append held c.in-Some.front.now (c.in-Some.last.now ∷ []) in
    let ran = was_ok c.walk-walked.result c.in_ok-ended.ensures.walked c.walk-walked.ensures.run in
    let room = was_ok c.walk-walked.result c.in_ok-ended.ensures.walked c.walk-walked.ensures.pages in
    room_is c.args.self.now _ (map held c.in-Some.front.now) (held c.in-Some.last.now) _ all ran room c.in_ok-ended.ensures.room

pub returns-clause-spent : goal.returns-clause-spent
returns-clause-spent g c spent =
    let held = g.T.HasRecord.record_of in
    let all = ap (map held) c.in-Some.ensures.cases.0 ∙ map-append held c.in-Some.front.now (c.in-Some.last.now ∷ []) in
    let ran = was_ok c.walk-walked.result c.in_ok-ended.ensures.walked c.walk-walked.ensures.run in
    let room = was_ok c.walk-walked.result c.in_ok-ended.ensures.walked c.walk-walked.ensures.pages in
    let whole = room_is c.args.self.now _ (map held c.in-Some.front.now) (held c.in-Some.last.now) _ all ran room c.in_ok-ended.ensures.room in
    absurd (none_is_spent c.args.self.now _ whole spent)

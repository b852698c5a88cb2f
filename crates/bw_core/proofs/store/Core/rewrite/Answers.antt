use Rattle.std.proofs.Common.{◌≡◌, ℕ, true, inl, inr, Err, length, refl, subst, ap, sym, ◌∙◌}
use Rattle.std.specs.List.{AllByRecursion as All}
use Rattle.std.proofs.lemmas.Bool.{true≢false}
use Rattle.std.proofs.lemmas.Result.{err_from_is_err_and}
use Rattle.bw_terms.specs.declared.fault.StoreFault.{StoreFault}
use Rattle.bw_terms.specs.declared.fault.StoreFault.TheVariants.{NoPage}
use Rattle.bw_core.specs.Faults.{FlushAnswers, refusal_by}
use Rattle.bw_log.specs.Reads.{IsPage}
use Rattle.bw_core.specs.Kept.{IsSound, Kept}
use Rattle.bw_core.specs.Emptied.{Emptied}
use Rattle.bw_core.specs.Rewriting.{are_pages, RewriteMoves}
use Rattle.bw_core.specs.Views.{kept_by}
use Rattle.bw_core.proofs.CleanedMore.{goes_on}
use Rattle.bw_core.proofs.Machines.{flush_stops, rewrite_keeps}
use Rattle.bw_core.proofs.Refusing.{never_page}
use Rattle.bw_core.proofs.SettledMore.{settled_by}
use Rattle.bw_core.proofs.RewrittenMore.{all_there, same_count, rewrite_stays, never_no_page}
use Rattle.bw_core.proofs.GoesMore.{goes_flushed, goes_nowhere, goes_same, goes_then, runs_as}
use Rattle.bw_core.proofs.store.Core.rewrite.Goals as goal

pub returns-then-not-are_pages-clause-goes : goal.returns-then-not-are_pages-clause-goes
returns-then-not-are_pages-clause-goes g c = goes_nowhere _ _ c.requires.sound

pub returns-in_err-flush_making-clause-goes : goal.returns-in_err-flush_making-clause-goes
returns-in_err-flush_making-clause-goes g c = goes_flushed _ _ _ _ c.flush_making.ensures.keeps c.flush_making.ensures.leaves

pub returns-in_err-reserve_cuts-clause-goes : goal.returns-in_err-reserve_cuts-clause-goes
returns-in_err-reserve_cuts-clause-goes g c = goes_same _ _ _ _ (goes_flushed c.args.self.now _ _ _ c.flush_making.ensures.keeps c.flush_making.ensures.leaves) c.reserve_cuts.ensures.same c.reserve_cuts.ensures.stays

pub rewrite_pages-requires-clause-settled : goal.rewrite_pages-requires-clause-settled
rewrite_pages-requires-clause-settled g c =
    rw c.reserve_cuts.ensures.same (settled_by true _ _ c.in_ok-flush_making.field-0 c.in_ok-flush_making.ensures.keeps.sound c.in_ok-flush_making.ensures.answers
    c.in_ok-flush_making.ensures.leaves)

pub rewrite_pages-requires-clause-pages : goal.rewrite_pages-requires-clause-pages
rewrite_pages-requires-clause-pages g c =
    let old = kept_by c.args.self.now (λ z. (goal.Segment-dyn g z).holding z.1) in
    let flushed = kept_by c.flush_making.new.self (λ z. (goal.Segment-dyn g z).holding z.1) in
    let done = settled_by true _ _ c.in_ok-flush_making.field-0 c.in_ok-flush_making.ensures.keeps.sound c.in_ok-flush_making.ensures.answers
    c.in_ok-flush_making.ensures.leaves in
    let same = same_count old flushed c.in_ok-flush_making.field-0 c.in_ok-flush_making.ensures.leaves in
    subst (λ (k : Kept). All (IsPage k.log) c.args.pages.now) (sym c.reserve_cuts.ensures.same)
    (all_there old flushed c.args.pages.now c.in_ok-flush_making.ensures.keeps.sound done same
    (ap (λ (n : ℕ). are_pages n c.args.pages.now) (sym c.count.ensures.value) ∙ sym c.are_pages.ensures ∙ c.if-not-are_pages.false))

pub returns-clause-goes : goal.returns-clause-goes
returns-clause-goes g c =
    goes_then _ _ _ _ (goes_same _ _ _ _ (goes_flushed c.args.self.now _ _ _ c.flush_making.ensures.keeps c.flush_making.ensures.leaves) c.reserve_cuts.ensures.same c.reserve_cuts.ensures.stays) c.rewrite_pages.ensures.quiet
    (rewrite_stays _ _ c.args.pages.now c.rewrite_pages.result c.rewrite_pages.ensures.leaves)

pub returns-clause-leaves : goal.returns-clause-leaves
returns-clause-leaves g c =
    let old = kept_by c.args.self.now (λ z. (goal.Segment-dyn g z).holding z.1) in
    let are : are_pages (length old.filed.leaves) c.args.pages.now ≡ true =
    ap (λ (n : ℕ). are_pages n c.args.pages.now) (sym c.count.ensures.value) ∙ sym c.are_pages.ensures ∙ c.if-not-are_pages.false in
    let empty : Emptied true old (kept_by c.flush_making.new.self (λ z. (goal.Segment-dyn g z).holding z.1)) =
    record { number = _; answers = c.in_ok-flush_making.ensures.answers; leaves = c.in_ok-flush_making.ensures.leaves } in
    let begun : Emptied true old (kept_by c.reserve_cuts.new.self (λ z. (goal.Segment-dyn g z).holding z.1)) = rw c.reserve_cuts.ensures.same empty in
    goes_on _ _ _ (λ s r t. RewriteMoves s c.args.pages.now r t) _ _ _ c.rewrite_pages.result are begun c.rewrite_pages.ensures.leaves

pub returns-in_err-reserve_cuts-clause-leaves : goal.returns-in_err-reserve_cuts-clause-leaves
returns-in_err-reserve_cuts-clause-leaves g c =
    let p = err_from_is_err_and c.from_residual-in_err-reserve_cuts.result c.from_residual-in_err-reserve_cuts.ensures.1 in
    let old = kept_by c.args.self.now (λ z. (goal.Segment-dyn g z).holding z.1) in
    let are : are_pages (length old.filed.leaves) c.args.pages.now ≡ true =
    ap (λ (n : ℕ). are_pages n c.args.pages.now) (sym c.count.ensures.value) ∙ sym c.are_pages.ensures ∙ c.if-not-are_pages.false in
    let empty : Emptied true old (kept_by c.flush_making.new.self (λ z. (goal.Segment-dyn g z).holding z.1)) =
    record { number = _; answers = c.in_ok-flush_making.ensures.answers; leaves = c.in_ok-flush_making.ensures.leaves } in
    rw (p.1, p.2) (inr (are, inl (inr (_, empty, refl, c.reserve_cuts.ensures.same))))

pub returns-in_err-flush_making-clause-no_page : goal.returns-in_err-flush_making-clause-no_page
returns-in_err-flush_making-clause-no_page g c =
    let p = err_from_is_err_and c.from_residual.result c.from_residual.ensures.1 in
    let old = kept_by c.args.self.now (λ z. (goal.Segment-dyn g z).holding z.1) in
    let are : are_pages (length old.filed.leaves) c.args.pages.now ≡ true =
    ap (λ (n : ℕ). are_pages n c.args.pages.now) (sym c.count.ensures.value) ∙ sym c.are_pages.ensures ∙ c.if-not-are_pages.false in
    let never : (c.in_err-flush_making.field-0.0 ≡ NoPage) → ⊥ =
    λ e. never_page true old (subst (λ (x : StoreFault). FlushAnswers (refusal_by true old) (Err x)) e c.in_err-flush_making.ensures.answers) in
    rw (p.1, p.2) (λ e. absurd (never cc), λ none. absurd (true≢false (sym are ∙ none)))

pub returns-clause-no_page : goal.returns-clause-no_page
returns-clause-no_page g c =
    let old = kept_by c.args.self.now (λ z. (goal.Segment-dyn g z).holding z.1) in
    let are : are_pages (length old.filed.leaves) c.args.pages.now ≡ true =
    ap (λ (n : ℕ). are_pages n c.args.pages.now) (sym c.count.ensures.value) ∙ sym c.are_pages.ensures ∙ c.if-not-are_pages.false in
    (λ e. absurd (never_no_page _ _ c.args.pages.now c.rewrite_pages.result c.rewrite_pages.ensures.leaves e), λ none. absurd (true≢false (sym are ∙ none)))

pub returns-then-not-are_pages-clause-runs : goal.returns-then-not-are_pages-clause-runs
returns-then-not-are_pages-clause-runs g c = runs_as _ _ _ c.requires.sound (inr (inl refl))

pub returns-in_err-flush_making-clause-runs : goal.returns-in_err-flush_making-clause-runs
returns-in_err-flush_making-clause-runs g c =
    let p = err_from_is_err_and c.from_residual.result c.from_residual.ensures.1 in
    rw p.1 (runs_as _ _ _ c.flush_making.ensures.keeps.sound
    (inr (flush_stops true _ _ _ c.requires.sound c.in_err-flush_making.ensures.answers c.in_err-flush_making.ensures.leaves)))

pub returns-in_err-reserve_cuts-clause-runs : goal.returns-in_err-reserve_cuts-clause-runs
returns-in_err-reserve_cuts-clause-runs g c =
    runs_as _ _ _ (subst IsSound (sym c.reserve_cuts.ensures.same) c.flush_making.ensures.keeps.sound)
    (rewrite_keeps (kept_by c.args.self.now (λ z. (goal.Segment-dyn g z).holding z.1)) (kept_by c.reserve_cuts.new.self (λ z. (goal.Segment-dyn g z).holding z.1)) c.args.pages.now
    c.from_residual-in_err-reserve_cuts.result c.requires.sound (returns-in_err-reserve_cuts-clause-leaves g c))

pub returns-clause-runs : goal.returns-clause-runs
returns-clause-runs g c =
    runs_as _ _ _ c.rewrite_pages.ensures.quiet.sound
    (rewrite_keeps (kept_by c.args.self.now (λ z. (goal.Segment-dyn g z).holding z.1)) (kept_by c.rewrite_pages.new.self (λ z. (goal.Segment-dyn g z).holding z.1)) c.args.pages.now c.rewrite_pages.result
    c.requires.sound (returns-clause-leaves g c))

-- One turn more, with what the plan wants after it.

use Rattle.std.proofs.Common.{◌≡◌, ℕ, suc, ◌+◌, inr, Bool, true, false, Result, Ok, Err, MatchResult, sym, subst, ap, ◌∙◌, arith}
use Rattle.bw_terms.specs.declared.fault.StoreFault.{StoreFault}
use Rattle.bw_store.specs.Kept.{Kept}
use Rattle.bw_drive.specs.declared.plan.Plan.{Plan}
use Rattle.bw_drive.specs.Pace.{FlushesAndCleans, FlushOrCleanStops, Paces, Tends, TurnedOnce, TurnStops, is_due}

-- nothing is due
pub tends_none : (due : Bool) (clean_at : ℕ) (old new : Kept) → due ≡ false → new ≡ old → Tends due clean_at old new
tends_none true clean_at old new is same = absurd cc
tends_none false clean_at old new is same = same

-- a flush is due
tends_some : (due : Bool) (clean_at : ℕ) (old new : Kept) → due ≡ true → FlushesAndCleans clean_at old new → Tends due clean_at old new
tends_some true clean_at old new is went = went
tends_some false clean_at old new is went = absurd cc

pub paced_by : (r : Result (Unit {0}) StoreFault) (plan : Plan) (due : Bool) (old turned new : Kept) → due ≡ true → TurnedOnce plan.limit old turned
    → MatchResult r (λ _. FlushesAndCleans plan.clean_at turned new) (λ cause. FlushOrCleanStops plan.clean_at turned cause new)
    → MatchResult r (λ _. (middle : Kept) × TurnedOnce plan.limit old middle × Tends due plan.clean_at middle new) (λ cause. TurnStops plan due old cause new)
paced_by (Ok x) plan due old turned new is once went = (turned, once, tends_some due plan.clean_at turned new is went)
paced_by (Err cause) plan due old turned new is once stops = inr (is, (turned, once, stops))

pub paces_more : (plan : Plan) (n every : ℕ) (due : Bool) (old before new : Kept) → every ≡ plan.flush_every → due ≡ is_due every n
    → Paces plan n old before → (turned : Kept) × TurnedOnce plan.limit before turned × Tends due plan.clean_at turned new
    → Paces plan (n + 1) old new
paces_more plan n every due old before new same told paced went =
    let more : suc n ≡ n + 1 = omega arith in
    let as_planned : due ≡ is_due plan.flush_every n = told ∙ ap (λ k. is_due k n) same in
    subst (λ (k : ℕ). Paces plan k old new) more
    (before, paced, (went.0, went.1, subst (λ (b : Bool). Tends b plan.clean_at went.0 new) as_planned went.2))

pub paced_at : (plan : Plan) (n turns : ℕ) (old new : Kept) → turns ≡ n → Paces plan n old new → Paces plan turns old new
paced_at plan n turns old new same paced = subst (λ (k : ℕ). Paces plan k old new) (sym same) paced

pub stops_as_planned : (plan : Plan) (n every : ℕ) (due : Bool) (before : Kept) (cause : StoreFault) (new : Kept) → every ≡ plan.flush_every
    → due ≡ is_due every n → TurnStops plan due before cause new → TurnStops plan (is_due plan.flush_every n) before cause new
stops_as_planned plan n every due before cause new same told stops =
    subst (λ (b : Bool). TurnStops plan b before cause new) (told ∙ ap (λ k. is_due k n) same) stops

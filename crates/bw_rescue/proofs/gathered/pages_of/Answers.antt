use Rattle.std.proofs.Common.{List, ℕ, [], ◌≡◌, ◌∷◌, refl, sym, subst}
use Rattle.std.specs.Map.{keys_of}
use Rattle.bw_rescue.specs.declared.gathered.At.{At}
use Rattle.bw_rescue.proofs.AllGathered.{Listed, SoFar, listed, one_more_read, all_read}
use Rattle.bw_rescue.proofs.gathered.pages_of.Goals as goal

pub loop-number-init : goal.loop-number-init
loop-number-init c =
    let gives = c.into_iter-number-iterator.ensures.into_iter_gives in
    record {
      listed = subst (λ (es : List (ℕ × At)). Listed c.args.held.now es) (sym gives.0) (listed c.args.held.now c.in_ok-frames.frames (λ number. c.in_ok-frames.ensures number) gives.5);
      read = λ searched. record { frames = []; each = tt; keys = refl; read = c.new-pages.ensures.read; last = c.new-pages.ensures.gaps.0; gaps = c.new-pages.ensures.gaps.1 };
    }

pub loop-number-preserved : goal.loop-number-preserved
loop-number-preserved c =
    let parts : c.loop-number._number-iterator ≡ (c.in-Some._number, c.in-Some.at) ∷ c.next.new.self = c.in-Some.ensures.steps in
    let there = subst (λ (es : List (ℕ × At)). Listed c.args.held.now es) parts c.loop-number.invariant.listed in
    record {
      listed = there.1;
      read = λ searched. one_more_read c.args.held.now (keys_of c.into_iter-number-iterator.result) c.in-Some._number c.in-Some.at c.next.new.self c.loop-number.pages c.read_at.new.pages searched there.0
          (λ h f len its stands. c.in_ok-read_at.ensures h f len its stands)
          (subst (λ (es : List (ℕ × At)). SoFar c.args.held.now (keys_of c.into_iter-number-iterator.result) es c.loop-number.pages) parts (c.loop-number.invariant.read searched));
    }

pub returns : goal.returns
returns c = λ searched.
    let gives = c.into_iter-number-iterator.ensures.into_iter_gives in
    all_read c.args.held.now c.in_ok-frames.frames c.loop-number.pages (λ number. c.in_ok-frames.ensures number) gives.5
    (subst (λ (es : List (ℕ × At)). SoFar c.args.held.now (keys_of es) [] c.loop-number.pages) gives.0
    (subst (λ (es : List (ℕ × At)). SoFar c.args.held.now (keys_of c.into_iter-number-iterator.result) es c.loop-number.pages) c.in-None.ensures.steps.0 (c.loop-number.invariant.read searched)))

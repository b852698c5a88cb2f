use Rattle.std.proofs.Common.{◌≡◌, ◌<◌, ℕ, zero, suc, ◌&&◌, Bool, false, Some, List, [], ◌∷◌, length, drop, get_or, sym, ap, ◌∙◌, arith}
use Rattle.bw_record.specs.Keys.{is_below, ascends}
use Rattle.bw_record.proofs.SideBySide.{ascends_after}
use Rattle.bw_record.proofs.pair.ascend.Goals as goal

-- a key that is not above the one before it
not_above : (key : List ℕ) (pairs : List (List ℕ × List ℕ)) (i : ℕ) (item : List ℕ × List ℕ) → i < length pairs → item ≡ get_or pairs i item
    → is_below key item.0 ≡ false → ascends_after (Some key) (drop i pairs) ≡ false
not_above key [] i item inside is falls = absurd (omega arith)
not_above key (p ∷ ps) zero item inside is falls =
    let first : is_below key p.0 ≡ false = ap (λ (q : List ℕ × List ℕ). is_below key q.0) (sym is) ∙ falls in
    ap (λ (b : Bool). b && ascends (p ∷ ps)) first
not_above key (p ∷ ps) (suc i) item inside is falls = not_above key ps i item (omega arith) is falls

pub returns-then-not-is_before : goal.returns-then-not-is_before
returns-then-not-is_before c =
    let falls : is_below c.in-Some.before.now c.pair-item.result.0 ≡ false =
    rw c.key-key.ensures.value at (sym c.is_before.ensures ∙ c.if-not-is_before.true) in
    sym (not_above c.in-Some.before.now c.args.pairs.now c.loop-pair.pair-index c.pair-item.result c.loop-pair-test.true c.pair-item.is falls)
    ∙ rw c.in-Some.is at c.loop-pair.invariant

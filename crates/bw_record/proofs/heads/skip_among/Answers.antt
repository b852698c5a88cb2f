use Rattle.std.proofs.Common.{◌≡◌, ℕ, zero, suc, ◌+◌, ◌<◌, List, [], ◌∷◌, get_or, length, take, subst, arith}
use Rattle.std.specs.List.{AllByRecursion}
use Rattle.bw_record.proofs.heads.skip_among.Goals as goal

one_more : (P : ℕ → Type 0) (xs : List ℕ) (i : ℕ) → i < length xs → AllByRecursion P (take i xs) → P (get_or xs i 0) → AllByRecursion P (take (suc i) xs)
one_more P [] i inside all one = absurd (omega arith)
one_more P (x ∷ xs) zero inside all one = (one, tt)
one_more P (x ∷ xs) (suc i) inside all one = (all.0, one_more P xs i (omega arith) all.1 one)

pub loop-i-preserved : goal.loop-i-preserved
loop-i-preserved c =
    let next : suc c.loop-i.i ≡ c.loop-i.i + 1 = omega arith in
    subst (λ (n : ℕ). AllByRecursion (λ h. h < c.args.head) (take n c.args.row.now)) next
    (one_more (λ h. h < c.args.head) c.args.row.now c.loop-i.i c.loop-i-test.true c.loop-i.invariant c.if-other-head.false)

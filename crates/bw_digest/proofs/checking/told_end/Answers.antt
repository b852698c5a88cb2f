use Rattle.std.proofs.Common.{◌≡◌, ℕ, suc, ◌+◌, ◌-◌, ◌*◌, ◌/◌, ◌^◌, ◌<◌, length, drop, sym, subst, ap, ◌∙◌, refl, arith}
use Rattle.std.proofs.lemmas.List.{drop-drop}
use Rattle.bw_digest.specs.Sums.{Reach, standing, no_sums, sums_in, with_all}
use Rattle.bw_digest.specs.Rows.{reach}
use Rattle.bw_digest.proofs.Walking.{told_no_more, told_one_more}
use Rattle.bw_digest.proofs.checking.told_end.Goals as goal

pub returns-then-not-is_followed_by : goal.returns-then-not-is_followed_by
returns-then-not-is_followed_by c =
    let last = told_no_more c.args.sums.now (length c.args.sums.now / 24 - c.loop-i.i) (c.loop-i.i * 24) (2 ^ 64 - 1) (reach c.loop-i.row) _ c.read-sum.result
    c.read-sum.ensures (sym c.is_followed_by.ensures ∙ c.if-not-is_followed_by.true) c.loop-i.invariant.ahead in
    c.end.ensures ∙ ap (λ (r : Reach). r.end) last

-- one sum less is ahead
one_less : (n i : ℕ) → i < n → n - i ≡ suc (n - (i + 1))
one_less n i below = omega arith

pub loop-i-preserved : goal.loop-i-preserved
loop-i-preserved c =
    let n = length c.args.sums.now / 24 in
    let row = reach c.loop-i.row in
    let all = with_all no_sums (sums_in (2 ^ 64 - 1) c.args.sums.now) in
    let less = one_less n c.loop-i.i c.loop-i-test.true in
    let ahead = subst (λ m. with_all row (standing m (2 ^ 64 - 1) row (drop (c.loop-i.i * 24) c.args.sums.now)) ≡ all) less c.loop-i.invariant.ahead in
    let goes = told_one_more c.args.sums.now (n - (c.loop-i.i + 1)) (c.loop-i.i * 24) (2 ^ 64 - 1) row (reach c.with-row.result) all c.read-sum.result
    c.read-sum.ensures (sym c.is_followed_by.ensures ∙ c.if-not-is_followed_by.false) c.with-row.ensures ahead in
    let next : c.loop-i.i * 24 + 24 ≡ (c.loop-i.i + 1) * 24 = omega arith in
    let moved = drop-drop 24 (c.loop-i.i * 24) c.args.sums.now ∙ ap (λ k. drop k c.args.sums.now) next in
    record {
      number = refl;
      ahead = subst (λ rest. with_all (reach c.with-row.result) (standing (n - (c.loop-i.i + 1)) (2 ^ 64 - 1) (reach c.with-row.result) rest) ≡ all) moved goes;
    }

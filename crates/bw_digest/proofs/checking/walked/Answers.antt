use Rattle.std.proofs.Common.{rules, List, take, ◌≡◌, ℕ, suc, ◌+◌, ◌-◌, ◌*◌, ◌/◌, ◌<◌, length, drop, Ok, Err, sym, subst, ap, ◌∙◌, refl, arith}
use Rattle.std.proofs.lemmas.List.{drop-drop}
use Rattle.bw_digest.specs.Digest.{digest}
use Rattle.bw_digest.specs.Sums.{standing, no_sums, sums_in}
use Rattle.bw_digest.specs.Rows.{reach}
use Rattle.bw_digest.specs.Checked.{checked, IsAnswer}
use Rattle.bw_digest.proofs.Walking.{at_the_end, at_a_misfit, over_a_piece}
use Rattle.bw_digest.proofs.checking.walked.Goals as goal

pub returns-then-not-is_followed_by-clause-answer : goal.returns-then-not-is_followed_by-clause-answer
returns-then-not-is_followed_by-clause-answer c =
    let all = at_the_end c.args.bytes.now c.args.sums.now (length c.args.sums.now / 24 - c.loop-i.i) (c.loop-i.i * 24) (reach c.loop-i.row) c.read-sum.result _
    c.read-sum.ensures (sym c.is_followed_by.ensures ∙ c.if-not-is_followed_by.true) c.loop-i.invariant.ahead in
    subst (λ answer. IsAnswer (Ok c.loop-i.row) answer) (sym all) refl

-- one sum less is ahead
one_less : (n i : ℕ) → i < n → n - i ≡ suc (n - (i + 1))
one_less n i below = omega arith

-- the digest of the piece that was looked at
digested : (bytes : List ℕ) (from at end d : ℕ) → d ≡ digest (take (end - at) (drop at bytes)) → at ≡ from → d ≡ digest (take (end - from) (drop from bytes))
digested bytes from at end d is begins = subst (λ k. d ≡ digest (take (end - k) (drop k bytes))) begins is

pub returns-then-digest_of-sum-clause-answer : goal.returns-then-digest_of-sum-clause-answer
returns-then-digest_of-sum-clause-answer c =
    let n = length c.args.sums.now / 24 in
    let row = reach c.loop-i.row in
    let bytes = c.args.bytes.now in
    let less = one_less n c.loop-i.i c.loop-i-test.true in
    let ahead = subst (λ m. checked bytes row (standing m (length bytes) row (drop (c.loop-i.i * 24) c.args.sums.now)) ≡ checked bytes no_sums (sums_in (length bytes) c.args.sums.now))
    less c.loop-i.invariant.ahead in
    let piece = digested bytes c.loop-i.row.end c.end-at.result c.read-sum.result.end c.digest_of.result c.digest_of.ensures c.end-at.ensures in
    let all = at_a_misfit bytes c.args.sums.now (n - (c.loop-i.i + 1)) (c.loop-i.i * 24) row c.read-sum.result _
    c.read-sum.ensures (sym c.is_followed_by.ensures ∙ c.if-not-is_followed_by.false) (λ same. c.if-digest_of-sum.true (piece ∙ same)) ahead in
    subst (λ answer. IsAnswer (Err c.end-at.result) answer) (sym all) c.end-at.ensures

pub loop-i-preserved : goal.loop-i-preserved
loop-i-preserved c =
    let n = length c.args.sums.now / 24 in
    let row = reach c.loop-i.row in
    let bytes = c.args.bytes.now in
    let less = one_less n c.loop-i.i c.loop-i-test.true in
    let ahead = subst (λ m. checked bytes row (standing m (length bytes) row (drop (c.loop-i.i * 24) c.args.sums.now)) ≡ checked bytes no_sums (sums_in (length bytes) c.args.sums.now))
    less c.loop-i.invariant.ahead in
    let piece = digested bytes c.loop-i.row.end c.end-at.result c.read-sum.result.end c.digest_of.result c.digest_of.ensures c.end-at.ensures in
    let goes = over_a_piece bytes c.args.sums.now (n - (c.loop-i.i + 1)) (c.loop-i.i * 24) row (reach c.with-row.result) c.read-sum.result _
    c.read-sum.ensures (sym c.is_followed_by.ensures ∙ c.if-not-is_followed_by.false) (sym piece ∙ c.if-digest_of-sum.false) c.with-row.ensures ahead in
    let next : c.loop-i.i * 24 + 24 ≡ (c.loop-i.i + 1) * 24 = omega arith in
    let moved = drop-drop 24 (c.loop-i.i * 24) c.args.sums.now ∙ ap (λ k. drop k c.args.sums.now) next in
    record {
      number = refl;
      within = search rules;
      ahead = subst (λ rest. checked bytes (reach c.with-row.result) (standing (n - (c.loop-i.i + 1)) (length bytes) (reach c.with-row.result) rest)
          ≡ checked bytes no_sums (sums_in (length bytes) c.args.sums.now)) moved goes;
    }

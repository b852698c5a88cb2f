use Rattle.std.proofs.Common.{◌≡◌, ◌+◌, ◌-◌, ◌*◌, ◌/◌, ◌||◌, ◌<◌, ◌∷◌, ◌++◌, [], ℕ, suc, List, length, drop, map, refl, sym, ap, subst, ◌∙◌, arith}
use Rattle.std.proofs.lemmas.List.{drop-drop, map_push}
use Rattle.bw_digest.specs.Sums.{Reach, standing}
use Rattle.bw_digest.specs.Rows.{reach}
use Rattle.bw_rescue.specs.Hurt.{Cut, cut_of, is_hurt, is_hurt_in, is_hurt_after, Follow, last_end}
use Rattle.bw_rescue.proofs.PiecesLooked.{no_more, one_more, longer, follow_more, end_more}
use Rattle.bw_rescue.proofs.pieces.rows_of.Goals as goal

pub returns-then-not-is_followed_by-clause-hurt : goal.returns-then-not-is_followed_by-clause-hurt
returns-then-not-is_followed_by-clause-hurt c = λ from to.
    no_more c.args.bytes.now c.args.sums.now (length c.args.sums.now / 24 - c.loop-index.index) (c.loop-index.index * 24) (reach c.loop-index.row) c.read-sum.result
    (is_hurt_in (map cut_of c.loop-index.rows.items) from to) _ from to c.read-sum.ensures (sym c.is_followed_by.ensures ∙ c.if-not-is_followed_by.true) (c.loop-index.invariant.hurt from to)

-- one sum less is ahead
one_less : (n i : ℕ) → i < n → n - i ≡ suc (n - (i + 1))
one_less n i below = omega arith

pub loop-index-preserved : goal.loop-index-preserved
loop-index-preserved c =
    let n = length c.args.sums.now / 24 in
    let row = reach c.loop-index.row in
    let bytes = c.args.bytes.now in
    let sums = c.args.sums.now in
    let old : List Cut = map cut_of c.loop-index.rows.items in
    let cut : Cut = cut_of c.piece_of.result in
    let less = one_less n c.loop-index.index c.loop-index-test.true in
    let next = sym c.is_followed_by.ensures ∙ c.if-not-is_followed_by.false in
    let steps : c.loop-index.index * 24 + 24 ≡ (c.loop-index.index + 1) * 24 = omega arith in
    let moved = drop-drop 24 (c.loop-index.index * 24) sums ∙ ap (λ k. drop k sums) steps in
    let items : map cut_of c.push.new.self.items ≡ old ++ cut ∷ [] = ap (map cut_of) c.in_ok-push.ensures.items ∙ map_push cut_of c.loop-index.rows.items c.piece_of.result in
    record {
      number = refl;
      follow = subst (λ (l : List Cut). Follow 0 l) (sym items) (follow_more 0 old cut c.loop-index.invariant.follow (ap (λ (x : Cut). x.from) c.piece_of.ensures ∙ sym c.loop-index.invariant.ends) (subst (λ (x : Cut). x.from < x.to) (sym c.piece_of.ensures) (longer (length bytes) row c.read-sum.result next)));
      ends = ap (last_end 0) items ∙ end_more 0 old cut ∙ ap (λ (x : Cut). x.to) c.piece_of.ensures ∙ ap (λ (r : Reach). r.end) (sym c.with-row.ensures);
      hurt = λ from to.
          let ahead = subst (λ m. (is_hurt_in old from to || is_hurt_after bytes row (standing m (length bytes) row (drop (c.loop-index.index * 24) sums)) from to) ≡ is_hurt bytes sums from to)
          less (c.loop-index.invariant.hurt from to) in
          let goes = one_more bytes sums (n - (c.loop-index.index + 1)) (c.loop-index.index * 24) row (reach c.with-row.result) c.read-sum.result old cut _ from to
          c.read-sum.ensures next c.with-row.ensures c.piece_of.ensures ahead in
          ap (λ (l : List Cut). is_hurt_in l from to || is_hurt_after bytes (reach c.with-row.result) (standing (n - (c.loop-index.index + 1)) (length bytes) (reach c.with-row.result) (drop ((c.loop-index.index + 1) * 24) sums)) from to) items
          ∙ subst (λ rest. (is_hurt_in (old ++ cut ∷ []) from to || is_hurt_after bytes (reach c.with-row.result) (standing (n - (c.loop-index.index + 1)) (length bytes) (reach c.with-row.result) rest) from to)
          ≡ is_hurt bytes sums from to) moved goes;
    }

use Rattle.std.proofs.Common.{◌<◌, ℕ, length, get_or, arith}
use Rattle.std.proofs.Common.{subst}
use Rattle.bw_lows.proofs.HeadCounts.{is_next, is_not}
use Rattle.bw_lows.proofs.row.narrow.Goals as goal
use Rattle.bw_lows.proofs.row.narrow.Goals.{then-row-at, else-row-at}

pub loop-at-preserved : goal.loop-at-preserved
loop-at-preserved c =
    let inside : c.loop-at.at < length c.args.row.now = omega (arith, c.requires.within, c.loop-at-test.true) in
    elim c.if-row-at.branch [
      | then-row-at w ↦ record {
        order = omega arith;
        parts = omega arith;
        within = omega arith;
        before = λ asc i e less.
            let next = is_next c.args.row.now c.args.head c.loop-at.below c.args.width c.loop-at.at asc inside c.requires.some c.loop-at.invariant.parts
            (c.loop-at.invariant.behind asc) w.if-row-at.true in
            subst (λ (j : ℕ). get_or c.args.row.now j 0 < c.args.head) {x = c.loop-at.at} (omega arith) w.if-row-at.true;
        behind = λ asc i e less.
            let next = is_next c.args.row.now c.args.head c.loop-at.below c.args.width c.loop-at.at asc inside c.requires.some c.loop-at.invariant.parts
            (c.loop-at.invariant.behind asc) w.if-row-at.true in
            absurd (omega arith);
      }
      | else-row-at w ↦ record {
        order = omega arith;
        parts = omega arith;
        within = omega arith;
        before = λ asc i e less. c.loop-at.invariant.before asc i (omega arith) (omega arith);
        behind = λ asc i e less.
            is_not c.args.row.now c.args.head c.loop-at.below c.args.width c.loop-at.at asc inside c.requires.some c.loop-at.invariant.parts
            (c.loop-at.invariant.behind asc) w.if-row-at.false i (omega arith) less;
      }
    ]

use Rattle.std.proofs.Common.{◌+◌, refl, sym, ◌∙◌, subst, arith, drop}
use Rattle.bw_making.specs.Drafting.{AreIn}
use Rattle.bw_making.proofs.RowsMore.{got, in_here, in_rest, set_rest, set_end}
use Rattle.bw_making.proofs.filing.set_all.Goals as goal

pub rows-init : goal.rows-init
rows-init c = record { rest = refl; inside = c.requires.inside; room = (let room = c.requires.room in omega arith) }

pub rows-preserved : goal.rows-preserved
rows-preserved c =
    let i = c.rows.invariant in
    let lt = c.rows-test.true in
    let is = got c.args.rows.now c.rows.at _ lt in
    record {
      rest = set_rest c.args.rows.now c.rows.at _ _ _ lt is c.set_one.ensures.items ∙ i.rest;
      inside = subst (λ n. AreIn n (drop (c.rows.at + 1) c.args.rows.now)) (sym c.set_one.ensures.count)
          (in_rest _ c.args.rows.now c.rows.at _ lt is i.inside);
      room = omega (arith, i.room, lt, c.set_one.ensures.len, c.set_one.ensures.capacity);
    }

pub set_one-requires-clause-inside : goal.set_one-requires-clause-inside
set_one-requires-clause-inside c =
    in_here _ c.args.rows.now c.rows.at _ c.rows-test.true (got c.args.rows.now c.rows.at _ c.rows-test.true) c.rows.invariant.inside

pub set_one-requires-clause-room : goal.set_one-requires-clause-room
set_one-requires-clause-room c = (let lt = c.rows-test.true in let room = c.rows.invariant.room in omega arith)

pub returns : goal.returns
returns c = set_end c.args.rows.now c.rows.at _ (let end = c.rows-test.false in omega arith) ∙ c.rows.invariant.rest

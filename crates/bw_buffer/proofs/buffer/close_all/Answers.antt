use Rattle.std.proofs.Common.{◌∙◌, refl, arith}
use Rattle.bw_buffer.specs.Index.{index_at}
use Rattle.bw_buffer.proofs.Closing.{closed_so_far, none_left}
use Rattle.bw_buffer.proofs.buffer.close_all.Goals as goal

pub loop-row-init : goal.loop-row-init
loop-row-init c = record { none = c.requires.told; len = refl; room = refl }

pub loop-row-preserved : goal.loop-row-preserved
loop-row-preserved c = record {
  none = λ q u. closed_so_far q c.loop-row.row-index c.args.rows.now _ (index_at c.loop-row.index q) (index_at c.close.new.index q) c.loop-row-test.true
      (c.close.ensures.value q) (c.loop-row.invariant.none q) u;
  len = c.close.ensures.len ∙ c.loop-row.invariant.len;
  room = c.close.ensures.room ∙ c.loop-row.invariant.room;
}

pub returns-clause-none : goal.returns-clause-none
returns-clause-none c = λ q. c.loop-row.invariant.none q (none_left q c.loop-row.row-index c.args.rows.now c.loop-row-test.false)

pub returns-clause-few : goal.returns-clause-few
returns-clause-few c =
    (let few = c.if-len-most.false in let len = c.loop-row.invariant.len in omega (arith, c.len.ensures.len))

pub returns-clause-room : goal.returns-clause-room
returns-clause-room c =
    (let len = c.loop-row.invariant.len in let room = c.loop-row.invariant.room in omega arith)

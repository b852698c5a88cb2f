use Rattle.std.proofs.Common.{arith, suc, take, drop, sym, ◌∙◌}
use Rattle.std.proofs.lemmas.Result.{err_from_is_err_and}
use Rattle.bw_lines.proofs.LinksRead.{next_at, blocks_step, blocks_wrong}
use Rattle.bw_lines.proofs.links.read_blocks_linked.Goals as goal

pub returns-in_err-read_linked-clause-fault : goal.returns-in_err-read_linked-clause-fault
returns-in_err-read_linked-clause-fault c =
    let p = err_from_is_err_and c.from_residual.result c.from_residual.ensures.1 in
    let i = c.loop-block.block-index in
    let items = c.as_slice-items.result.now in
    let n = next_at items i c.block-item.result c.loop-block-test.true c.block-item.is in
    λ done rest read. rw (p.1, p.2) (blocks_wrong c.args.first c.args.number i done rest (take i items) (drop (suc i) items) c.args.blocks.items
    c.block-item.result c.loop-block.lines c.in_err-read_linked.field-0.0 n.index (sym c.as_slice-items.ensures.value ∙ n.split)
    (c.loop-block.invariant.read done read) (c.in_err-read_linked.ensures.fault _ (c.loop-block.invariant.read done read)))

pub loop-block-preserved : goal.loop-block-preserved
loop-block-preserved c =
    let i = c.loop-block.block-index in
    let items = c.as_slice-items.result.now in
    let n = next_at items i c.block-item.result c.loop-block-test.true c.block-item.is in
    record {
      index = (let same = c.loop-block.invariant.index in omega arith);
      read = λ done read. blocks_step c.args.first c.args.number i done items (drop (suc i) items) c.block-item.result
          c.read_linked.new.lines n (rw c.loop-block.invariant.index at (c.in_ok-read_linked.ensures.ok _ (c.loop-block.invariant.read done read)));
    }

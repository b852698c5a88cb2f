use Rattle.std.proofs.lemmas.Result.{err_from_is_err_and}
use Rattle.bw_codec.proofs.FirstBlock.{block_there, only_block, no_block}
use Rattle.bw_codec.proofs.decoder.read_block.Goals as goal

pub returns-clause-found : goal.returns-clause-found
returns-clause-found c =
    block_there c.args.version c.args.m c.args.bytes.now c.in_ok-block.block _ c.ranges.m.fits (λ i. (c.type_inv.bytes i).fits) c.in_ok-block.ensures

pub returns-clause-only : goal.returns-clause-only
returns-clause-only c =
    only_block c.args.version c.args.m c.args.bytes.now c.in_ok-block.block _ c.ranges.m.fits c.in_ok-block.ensures

pub returns-in_err-block-clause-only : goal.returns-in_err-block-clause-only
returns-in_err-block-clause-only c =
    let p = err_from_is_err_and c.from_residual.result c.from_residual.ensures.1 in
    rw (p.1, p.2) (no_block c.args.version c.args.m c.args.bytes.now c.in_err-block.field-0.0 c.ranges.m.fits c.in_err-block.ensures)

use Rattle.std.proofs.Common.{◌<◌, length, ap, ◌∙◌, arith}
use Rattle.std.proofs.lemmas.List.{get_or_read}
use Rattle.bw_lows.proofs.PagesBeside.{length_now, page_now}
use Rattle.bw_lows.proofs.block.Block.page.Goals as goal

pub index-requires : goal.index-requires
index-requires c =
    omega (arith, c.requires, c.self.invariant.long, ap length c.as_slice.ensures.value, c.as_slice.ensures.len, length_now _ _ _ c.self.invariant.long c.self.view_is)

pub returns : goal.returns
returns c =
    let inside : c.args.at < length c.self.inside.pages.items = omega (arith, c.requires, c.self.invariant.long, length_now _ _ _ c.self.invariant.long c.self.view_is) in
    get_or_read c.self.inside.pages.items c.args.at c.index.result.now inside c.index.ensures 0
    ∙ page_now _ _ _ c.self.invariant.long c.self.view_is c.args.at

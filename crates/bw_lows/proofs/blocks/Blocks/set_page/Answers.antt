use Rattle.std.proofs.Common.{◌≡◌, ◌<◌, List, [], length, subst, sym, ap, ◌∙◌}
use Rattle.std.proofs.lemmas.List.{get_or_read}
use Rattle.bw_lows.specs.Rows.{Low, low_at}
use Rattle.bw_lows.specs.Flat.{block_at}
use Rattle.bw_lows.proofs.HeadBounds.{first_kept}
use Rattle.bw_lows.proofs.FirstHeads.{firsts_kept}
use Rattle.bw_lows.proofs.blocks.Blocks.set_page.Goals as goal

pub invariant_of-self : goal.invariant_of-self
invariant_of-self c =
    let blocks : List (List Low) = c.self.inside.blocks.items in
    let within : c.args.at < length blocks = subst (λ (bs : List (List Low)). c.args.at < length bs) (sym c.self.view_is) c.requires.within in
    let first : low_at c.set_page.new.self 0 ≡ low_at (block_at blocks c.args.at) 0 =
    ap (λ (b : List Low). low_at b 0) c.set_page.ensures ∙ first_kept c.index_mut.result.now c.args.index c.args.page
    ∙ ap (λ (b : List Low). low_at b 0) (get_or_read blocks c.args.at c.index_mut.result.now within c.index_mut.ensures.value []) in
    firsts_kept _ _ blocks c.args.at c.self.invariant c.set_page.new.self first

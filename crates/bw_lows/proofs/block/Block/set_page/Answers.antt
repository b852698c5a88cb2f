use Rattle.std.proofs.Common.{List, length, subst, sym, ap, ◌∙◌, arith}
use Rattle.std.proofs.lemmas.List.{length-set}
use Rattle.std.specs.Prelude.{slice_set, zip}
use Rattle.bw_lows.specs.Rows.{Low, low_at}
use Rattle.bw_lows.specs.LowRow.{IsRow}
use Rattle.bw_lows.proofs.HeadBounds.{row_kept}
use Rattle.bw_lows.proofs.PagesBeside.{length_now, set_beside}
use Rattle.bw_lows.proofs.block.Block.set_page.Goals as goal

pub index_mut-requires : goal.index_mut-requires
index_mut-requires c =
    omega (arith, c.requires, c.self.invariant.long, ap length c.as_slice.ensures.value, c.as_slice.ensures.len, length_now _ _ _ c.self.invariant.long c.self.view_is)

pub invariant_of-self : goal.invariant_of-self
invariant_of-self c =
    let entries = c.self.inside.entries.items in
    let pages = c.self.inside.pages.items in
    record {
      long = length-set pages c.args.at c.args.page ∙ c.self.invariant.long;
      row = subst (λ (lows : List Low). IsRow c.self.inside.row.shared.items c.self.inside.row.heads.items lows)
          (sym (set_beside entries pages c.args.at c.args.page c.self.invariant.long))
          (row_kept _ _ (zip entries pages) c.args.at c.args.page c.self.invariant.row);
    }

pub returns : goal.returns
returns c =
    set_beside c.self.inside.entries.items c.self.inside.pages.items c.args.at c.args.page c.self.invariant.long
    ∙ ap (λ (lows : List Low). slice_set lows c.args.at (low_at lows c.args.at, c.args.page)) c.self.view_is

use Rattle.std.proofs.Common.{◌<◌, List, length, remove, subst, sym, ap, ◌∙◌, arith}
use Rattle.std.specs.Prelude.{zip}
use Rattle.bw_lows.specs.Rows.{Low}
use Rattle.bw_lows.specs.LowRow.{IsRow}
use Rattle.bw_lows.proofs.PagesBeside.{length_now, long_out, beside_out}
use Rattle.bw_lows.proofs.block.Block.remove.Goals as goal

pub remove-requires : goal.remove-requires
remove-requires c =
    omega (arith, c.requires, ap length c.as_slice.ensures.value, c.as_slice.ensures.len, length_now _ _ _ c.self.invariant.long c.self.view_is)

pub invariant_of-self : goal.invariant_of-self
invariant_of-self c =
    let lows : List Low = zip c.self.inside.entries.items c.self.inside.pages.items in
    let inside : c.args.at < length lows = omega (arith, c.requires, ap length c.self.view_is) in
    record {
      long = long_out _ _ _ _ c.args.at c.self.invariant.long c.remove.ensures.items c.remove-2.ensures.items;
      row = subst (λ (r : List Low). IsRow c.remove-3.new.self.shared.items c.remove-3.new.self.heads.items r)
          (sym (beside_out _ _ _ _ c.args.at c.self.invariant.long c.remove.ensures.items c.remove-2.ensures.items))
          (c.remove-3.ensures lows inside c.self.invariant.row);
    }

pub returns : goal.returns
returns c =
    beside_out _ _ _ _ c.args.at c.self.invariant.long c.remove.ensures.items c.remove-2.ensures.items
    ∙ ap (λ (lows : List Low). remove lows c.args.at) c.self.view_is

use Rattle.std.proofs.Common.{◌≡◌, ℕ, List, length, insert, subst, sym, ap, ◌∙◌, arith}
use Rattle.std.specs.Prelude.{zip}
use Rattle.bw_lows.specs.LowHeads.{Bytes}
use Rattle.bw_lows.specs.Rows.{Low}
use Rattle.bw_lows.specs.LowRow.{IsRow}
use Rattle.bw_lows.proofs.PagesBeside.{length_now, keys_beside, long_put, beside_put}
use Rattle.bw_lows.proofs.block.Block.insert.Goals as goal

pub put-requires-clause-within : goal.put-requires-clause-within
put-requires-clause-within c =
    omega (arith, c.requires, c.make_room.ensures.len, ap length c.as_slice.ensures.value, c.as_slice.ensures.len, length_now _ _ _ c.self.invariant.long c.self.view_is)

pub put-requires-2-clause-within : goal.put-requires-2-clause-within
put-requires-2-clause-within c =
    omega (
      arith,
      c.requires,
      c.make_room-2.ensures.len,
      ap length c.as_slice-2.ensures.value,
      c.as_slice-2.ensures.len,
      c.self.invariant.long,
      length_now _ _ _ c.self.invariant.long c.self.view_is,
    )

pub invariant_of-self-then-is_missing : goal.invariant_of-self-then-is_missing
invariant_of-self-then-is_missing c =
    let entries : c.put.new.items.items ≡ insert c.self.inside.entries.items c.args.at c.args.entry =
    c.put.ensures ∙ ap (λ (r : List Bytes). insert r c.args.at c.args.entry) c.make_room.ensures.items in
    let pages : c.put-2.new.items.items ≡ insert c.self.inside.pages.items c.args.at c.args.page =
    c.put-2.ensures ∙ ap (λ (r : List ℕ). insert r c.args.at c.args.page) c.make_room-2.ensures.items in
    let long = long_put _ _ _ _ c.args.at c.args.entry c.args.page c.self.invariant.long entries pages in
    record {
      long = long;
      row = c.of.ensures (zip c.put.new.items.items c.put-2.new.items.items)
          (keys_beside _ _ long ∙ sym c.as_slice-then-is_missing.ensures.value);
    }

pub invariant_of-self-else-is_missing : goal.invariant_of-self-else-is_missing
invariant_of-self-else-is_missing c =
    let entries : c.put.new.items.items ≡ insert c.self.inside.entries.items c.args.at c.args.entry =
    c.put.ensures ∙ ap (λ (r : List Bytes). insert r c.args.at c.args.entry) c.make_room.ensures.items in
    let pages : c.put-2.new.items.items ≡ insert c.self.inside.pages.items c.args.at c.args.page =
    c.put-2.ensures ∙ ap (λ (r : List ℕ). insert r c.args.at c.args.page) c.make_room-2.ensures.items in
    let lows : List Low = zip c.self.inside.entries.items c.self.inside.pages.items in
    let count : length lows ≡ c.len-count.result = ap length c.self.view_is ∙ sym c.len-count.ensures in
    record {
      long = long_put _ _ _ _ c.args.at c.args.entry c.args.page c.self.invariant.long entries pages;
      row = subst (λ (r : List Low). IsRow c.insert.new.self.shared.items c.insert.new.self.heads.items r)
          (sym (beside_put _ _ _ _ c.args.at c.args.entry c.args.page c.self.invariant.long entries pages))
          (c.insert.ensures lows (c.args.entry, c.args.page) count c.head-head.ensures c.self.invariant.row);
    }

pub returns-then-is_missing-clause-ok : goal.returns-then-is_missing-clause-ok
returns-then-is_missing-clause-ok c =
    let entries : c.put.new.items.items ≡ insert c.self.inside.entries.items c.args.at c.args.entry =
    c.put.ensures ∙ ap (λ (r : List Bytes). insert r c.args.at c.args.entry) c.make_room.ensures.items in
    let pages : c.put-2.new.items.items ≡ insert c.self.inside.pages.items c.args.at c.args.page =
    c.put-2.ensures ∙ ap (λ (r : List ℕ). insert r c.args.at c.args.page) c.make_room-2.ensures.items in
    beside_put _ _ _ _ c.args.at c.args.entry c.args.page c.self.invariant.long entries pages
    ∙ ap (λ (lows : List Low). insert lows c.args.at (c.args.entry, c.args.page)) c.self.view_is

pub returns-else-is_missing-clause-ok : goal.returns-else-is_missing-clause-ok
returns-else-is_missing-clause-ok c =
    let entries : c.put.new.items.items ≡ insert c.self.inside.entries.items c.args.at c.args.entry =
    c.put.ensures ∙ ap (λ (r : List Bytes). insert r c.args.at c.args.entry) c.make_room.ensures.items in
    let pages : c.put-2.new.items.items ≡ insert c.self.inside.pages.items c.args.at c.args.page =
    c.put-2.ensures ∙ ap (λ (r : List ℕ). insert r c.args.at c.args.page) c.make_room-2.ensures.items in
    beside_put _ _ _ _ c.args.at c.args.entry c.args.page c.self.invariant.long entries pages
    ∙ ap (λ (lows : List Low). insert lows c.args.at (c.args.entry, c.args.page)) c.self.view_is

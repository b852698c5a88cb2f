use Rattle.std.proofs.Common.{◌≡◌, ◌<◌, ◌+◌, length, get_or, List, [], subst, sym, ap, ◌∙◌, arith}
use Rattle.std.proofs.lemmas.List.{get_or_read, length-set}
use Rattle.std.specs.Prelude.{slice_set}
use Rattle.bw_lows.specs.Rows.{Low, nothing}
use Rattle.bw_lows.specs.LowRow.{IsRow}
use Rattle.bw_lows.specs.Flat.{flat, firsts, block_at}
use Rattle.bw_lows.proofs.Changed.{flat_halved}
use Rattle.bw_lows.proofs.FirstHeads.{length-firsts, firsts_halved, firsts_inserted}
use Rattle.bw_lows.proofs.blocks.Blocks.halve.Goals as goal

pub invariant_of-self-2 : goal.invariant_of-self-2
invariant_of-self-2 c =
    let blocks : List (List Low) = c.reserve.new.self.items in
    let inside : c.args.at < length blocks = omega (arith, c.requires.within, ap length c.self.view_is, ap length c.reserve.ensures.items) in
    let block : c.index_mut.result.now ≡ block_at blocks c.args.at = get_or_read blocks c.args.at c.index_mut.result.now inside c.index_mut.ensures.value [] in
    let row : IsRow c.self.inside.begins.shared.items c.self.inside.begins.heads.items (firsts blocks) =
    subst (λ (bs : List (List Low)). IsRow c.self.inside.begins.shared.items c.self.inside.begins.heads.items (firsts bs)) (sym c.reserve.ensures.items) c.self.invariant in
    let lower : List Low = c.split.new.self in
    let kept = firsts_halved _ _ blocks c.args.at row lower c.in_ok-upper.upper (c.in_ok-upper.ensures.all ∙ block) c.in_ok-upper.ensures.lower in
    let long = length-firsts (slice_set blocks c.args.at lower) ∙ length-set blocks c.args.at lower ∙ ap length c.reserve.ensures.items
    ∙ ap length (sym c.as_slice-count.ensures.value) in
    subst (λ (bs : List (List Low)). IsRow c.mend.new.begins.shared.items c.mend.new.begins.heads.items (firsts bs)) c.as_slice.ensures.value
    (c.mend.ensures (firsts_inserted _ _ (slice_set blocks c.args.at lower) c.as_slice.result.now (c.args.at + 1) c.in_ok-upper.upper
    (c.as_slice.ensures.value ∙ c.in-Ok.ensures.items)
    (c.insert-2.ensures (firsts (slice_set blocks c.args.at lower)) (get_or c.in_ok-upper.upper 0 nothing) long c.head_of_first-head.ensures kept)))

pub returns-clause-lows : goal.returns-clause-lows
returns-clause-lows c =
    let blocks : List (List Low) = c.reserve.new.self.items in
    let inside : c.args.at < length blocks = omega (arith, c.requires.within, ap length c.self.view_is, ap length c.reserve.ensures.items) in
    let block : c.index_mut.result.now ≡ block_at blocks c.args.at = get_or_read blocks c.args.at c.index_mut.result.now inside c.index_mut.ensures.value [] in
    ap (λ (bs : List (List Low)). flat bs) c.in-Ok.ensures.items
    ∙ flat_halved blocks c.args.at c.split.new.self c.in_ok-upper.upper inside (c.in_ok-upper.ensures.all ∙ block)
    ∙ ap (λ (bs : List (List Low)). flat bs) (c.reserve.ensures.items ∙ c.self.view_is)

use Rattle.std.proofs.Common.{◌≡◌, ◌-◌, Some, List, length, sym, refl, ap, ◌∙◌, slice_get}
use Rattle.bw_record.specs.Keys.{is_below}
use Rattle.bw_whole.specs.Paging.{Pair, Making, is_next}
use Rattle.bw_whole.proofs.Rising.{ascends_more}
use Rattle.bw_whole.proofs.writer.Writer.is_next.Goals as goal

pub returns-in-Some : goal.returns-in-Some
returns-in-Some c =
    let pairs : List Pair = c.self.inside.pairs.items in
    let last : Pair = c.in-Some.last.now in
    let at : slice_get pairs (length pairs - 1) ≡ Some last =
    sym (rw (c.in-Some.is, c.as_slice.ensures.value) at c.last.ensures.value) in
    let more = ascends_more pairs (length pairs - 1) last c.args.pair.now refl at c.self.invariant.lawful.ascends in
    let is : c.is_before.result ≡ is_below last.0 c.args.pair.now.0 =
    rw (c.key.ensures.value, c.key-in-Some.ensures.value) at c.is_before.ensures in
    is ∙ sym more ∙ ap (λ (w : Making). is_next w c.args.pair.now) c.self.view_is

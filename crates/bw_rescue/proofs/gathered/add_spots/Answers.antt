use Rattle.std.proofs.Common.{◌∙◌, ◌+◌, List, ap, sym, take, get_or, arith}
use Rattle.std.specs.BTreeMap as tree
use Rattle.std.specs.Ordering.{nat_cmp}
use Rattle.std.proofs.lemmas.List.{take_more}
use Rattle.bw_rescue.specs.declared.held.Spot.{Spot}
use Rattle.bw_rescue.specs.Gathered.{first_of, or_at}
use Rattle.bw_rescue.proofs.AllGathered.{noted_more}
use Rattle.bw_rescue.proofs.gathered.add_spots.Goals as goal

pub loop-spot-preserved : goal.loop-spot-preserved
loop-spot-preserved c = λ number.
    let slice = c.as_slice-spot-items.result.now in
    let at = c.loop-spot.spot-index in
    let noted = tree.get nat_cmp c.args.frames.now number in
    let none : Spot = record { number = 0; at = 0 } in
    let value = c.as_slice-spot-items.ensures.value in
    let old = c.loop-spot.invariant number ∙ ap (λ (l : List Spot). or_at noted c.args.segment (first_of number (take at l))) (sym value) in
    c.in_ok-add_spot.ensures number
    ∙ noted_more number c.args.segment (take at slice) (get_or slice at none) noted (tree.get nat_cmp c.loop-spot.frames number) old
    ∙ ap (λ (l : List Spot). or_at noted c.args.segment (first_of number l)) (sym (take_more slice at none (let below = c.loop-spot-test.true in omega (arith, below))))
    ∙ ap (λ (l : List Spot). or_at noted c.args.segment (first_of number (take (at + 1) l))) value

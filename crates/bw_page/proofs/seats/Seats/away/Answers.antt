use Rattle.std.proofs.Common.{◌≡◌, ◌∙◌, ◌++◌, ◌+◌, ◌∷◌, [], List, length, ap, sym, subst, length-append}
use Rattle.std.specs.List.{AllByRecursion}
use Rattle.bw_codec.specs.Grammar.{IsBase}
use Rattle.bw_record.specs.declared.leaf.Leaf.{Leaf}
use Rattle.bw_page.specs.Seats.{numbers_from}
use Rattle.bw_page.proofs.Seating.{numbers_more}
use Rattle.bw_page.proofs.seats.Seats.away.Goals as goal

pub loop-page-preserved : goal.loop-page-preserved
loop-page-preserved c =
    let page = c.in-Some.page in
    let so_far : List Leaf = c.loop-page.yielded in
    let longer : length (so_far ++ page ∷ []) ≡ length so_far + 1 = length-append so_far (page ∷ []) in (
      c.in_ok-push_away.ensures.items ∙ ap (λ (xs : List Leaf). xs ++ page ∷ []) c.loop-page.invariant.0,
      c.in_ok-push_away.ensures.evicted
          ∙ (λ t. c.loop-page.invariant.1 t ++ (length (c.loop-page.invariant.0 t) + 1) ∷ [])
          ∙ sym (ap (numbers_from 1) longer ∙ numbers_more 1 (length so_far)),
      (subst (AllByRecursion (IsBase 32)) c.in-Some.ensures.steps.0 c.loop-page.invariant.2).1,
    )

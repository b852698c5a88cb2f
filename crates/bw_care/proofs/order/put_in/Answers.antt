use Rattle.std.proofs.Common.{◌∙◌, sym, ap, insert, map, List}
use Rattle.bw_care.specs.Parting.{place_among}
use Rattle.bw_care.specs.Ordering.{number_found}
use Rattle.bw_care.specs.declared.order.Found.{Found}
use Rattle.bw_care.proofs.PartedByKind.{placed_is}
use Rattle.bw_care.proofs.order.put_in.Goals as goal

pub returns : goal.returns
returns c =
    c.in_ok-insert.ensures.items
    ∙ ap (λ n. insert c.args.live.now.items n c.args.found)
    (c.place_in-at.ensures.place ∙ ap (λ (l : List Found). place_among c.args.found.header.number (map number_found l)) c.deref.ensures.value)
    ∙ sym (placed_is number_found c.args.found c.args.live.now.items)

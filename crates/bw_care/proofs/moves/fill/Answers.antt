use Rattle.std.proofs.Common.{◌∙◌, ap, arith}
use Rattle.std.proofs.lemmas.Option.{IfSome_then}
use Rattle.std.proofs.lemmas.Result.{err_from_is_err_and}
use Rattle.bw_care.proofs.CleaningSteps.{read_lawful, not_first, full_here, stops_for}
use Rattle.bw_care.proofs.ReadAhead.{spot_within, piece_here, no_room_for}
use Rattle.bw_care.proofs.moves.fill.Goals as goal

pub base-requires : goal.base-requires
base-requires g c =
    let ahead = c.args.ahead.now in
    spot_within _ ahead.bytes.items ahead.spots.items c.args.pages.now c.args.from c.loop-at.at c.requires.ahead c.loop-at-test.true

pub put_page-requires-clause-found : goal.put_page-requires-clause-found
put_page-requires-clause-found g c =
    let ahead = c.args.ahead.now in
    IfSome_then c.base.result c.base.ensures
    (λ piece is. piece_here _ _ ahead.bytes.items ahead.spots.items c.args.pages.now c.args.from c.loop-at.at piece.now c.loop-at.invariant.same
    c.requires.ahead c.loop-at-test.true is)

pub returns-then-not-fits-clause-filled : goal.returns-then-not-fits-clause-filled
returns-then-not-fits-clause-filled g c =
    let none = no_room_for _ _ _ c.loop-at.buffer c.put_page.new.buffer c.in_ok-fits.fits c.loop-at.invariant.same c.if-not-fits.true
    c.in_ok-fits.ensures.put in
    let limit = ap (λ b. b.limit) c.loop-at.invariant.kept ∙ c.requires.limit in (
      not_first _ c.loop-at.buffer.blocks c.args.pages.now c.loop-at.at c.loop-at.buffer.limit none.leaf c.requires.sound limit
          c.loop-at.invariant.holds (read_lawful _ _ none.leaf c.requires.sound none.read) none.over,
      omega (arith, c.loop-at-test.true),
      rw none.same c.loop-at.invariant.kept,
      rw none.same c.loop-at.invariant.holds,
      rw none.same
          (full_here _ c.loop-at.buffer c.args.pages.now c.loop-at.at 0 c.loop-at.buffer.limit none.leaf c.loop-at-test.true none.read limit none.over),
    )

pub returns-in_err-fits-clause-stops : goal.returns-in_err-fits-clause-stops
returns-in_err-fits-clause-stops g c =
    let p = err_from_is_err_and c.from_residual.result c.from_residual.ensures.1 in
    rw (p.1, p.2) (stops_for _ _ _ c.args.pages.now c.loop-at.at 0 c.in_err-fits.field-0.0 c.loop-at.invariant.same c.loop-at-test.true
    c.in_err-fits.ensures.stops)

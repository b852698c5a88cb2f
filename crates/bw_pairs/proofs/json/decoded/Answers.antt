use Rattle.std.proofs.Common.{◌≡◌, ◌≤◌, length, sym, ◌∙◌, arith}
use Rattle.bw_pairs.proofs.Membering.{too_long}
use Rattle.bw_pairs.proofs.json.decoded.Goals as goal

pub returns-in_default-clause-err : goal.returns-in_default-clause-err
returns-in_default-clause-err c =
    let text = c.as_slice.ensures.value in
    let fits : length c.as_slice.result.now ≤ 684 = c.as_slice.ensures.fits in
    let room : length c.args.room.now ≡ 684 = omega arith in
    rw (← text) (too_long c.as_slice.result.now (length c.args.room.now) c.in_default.field-0 (sym c.decode_slice.ensures.value ∙ c.in_default.is) room fits)

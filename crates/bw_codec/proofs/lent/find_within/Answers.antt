use Rattle.std.proofs.Common.{◌∙◌}
use Rattle.bw_codec.proofs.FrontFormat.{is_front}
use Rattle.bw_codec.proofs.Lending.{frame_told}
use Rattle.bw_codec.proofs.lent.find_within.Goals as goal

pub returns : goal.returns
returns c read there =
    c.found_front.ensures
    ∙ frame_told c.args.version c.args._m c.args.limit c.args.bytes.now read
    (is_front c.args.version c.args._m c.args.limit c.args.bytes.now read c.ranges._m.fits c.ranges.limit.fits there)

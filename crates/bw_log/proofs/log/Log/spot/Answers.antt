use Rattle.std.proofs.Common.{Some, ap, sym, refl, ◌∙◌, arith}
use Rattle.std.proofs.lemmas.Option.{slice_get-get_or}
use Rattle.bw_log.proofs.Fetched.{boxed_line}
use Rattle.bw_log.proofs.log.Log.spot.Goals as goal

pub overflow_sub-result : goal.overflow_sub-result
overflow_sub-result g c =
    let first = (boxed_line _ c.args.i c.index-line.result.now c.requires.sound c.requires.inside c.index-line.ensures).from_first in
    omega arith

pub returns : goal.returns
returns g c =
    let first = (boxed_line _ c.args.i c.index-line.result.now c.requires.sound c.requires.inside c.index-line.ensures).from_first in
    record {
      line = c.index-line.result.now;
      told = slice_get-get_or c.args.self.now.frames.items c.args.i c.index-line.result.now c.requires.inside ∙ ap Some (sym c.index-line.ensures);
      at = omega arith;
      from = refl;
      len = refl;
      version = c.version_at.ensures;
    }

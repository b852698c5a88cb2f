use Rattle.std.proofs.Common.{length, take, sym, ◌∙◌, arith, true≢false}
use Rattle.bw_pairs.proofs.Fronts.{found, missing, enough, not_enough}
use Rattle.bw_pairs.proofs.lines.shown_front.Goals as goal

pub returns-in-Some : goal.returns-in-Some
returns-in-Some c =
    let m = c.min-count.result in
    let is = c.min-count.ensures in
    let at = found c.args.shown.now c.args.most m c.in-Some.at (omega (arith, is)) (omega (arith, is)) (sym c.end_in.ensures ∙ c.in-Some.is) in
    record {
      within = omega (arith, at.0, is);
      short = omega (arith, at.0, is);
      whole = λ _ rest _. at.1 rest;
      part = λ e. absurd (true≢false e);
    }

pub returns-in-None : goal.returns-in-None
returns-in-None c =
    let m = c.min-count.result in
    let is = c.min-count.ensures in
    let none = missing (take m c.args.shown.now) (sym c.end_in.ensures ∙ c.in-None.is) in
    record {
      within = omega (arith, is);
      short = omega (arith, is);
      whole = λ e rest end. enough c.args.shown.now c.args.most m is none c.requires.some (sym c.is_enough.ensures ∙ e) rest end;
      part = λ e. (not_enough (length c.args.shown.now) c.args.most m is (sym c.is_enough.ensures ∙ e), none);
    }

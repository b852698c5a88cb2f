use Rattle.std.proofs.Common.{◌≡◌, ◌+◌, ◌&&◌, not, eqb, ltb, cond, Some, length, drop, sym, ap, ap₂, ◌∙◌}
use Rattle.std.specs.Option.{option_map}
use Rattle.std.specs.Io.BufRead.{ends_with_byte, drop_through}
use Rattle.bw_pairs.specs.Inputs.{front, shown, without_end, line_of, bytes_left}
use Rattle.bw_pairs.proofs.Fronts.{weaker}
use Rattle.bw_pairs.proofs.Kept.{kept, there, at_some}
use Rattle.bw_pairs.proofs.lines.Lines.read_line.Goals as goal

pub returns-clause-is_there : goal.returns-clause-is_there
returns-clause-is_there g c =
    let longest = c.pass_rest.new.self.longest in
    weaker (bytes_left g.R.Read.remaining c.args.self.now) _ _ (λ bytes h.
    let read = at_some _ bytes _ h c.in_ok-count.ensures.shown in
    ap (ltb 0) read.1 ∙ there longest bytes)
    c.in_ok-pass_rest.ensures.left

pub returns-clause-line : goal.returns-clause-line
returns-clause-line g c =
    let longest = c.pass_rest.new.self.longest in
    weaker (bytes_left g.R.Read.remaining c.args.self.now) _ _ (λ bytes h.
    let read = at_some _ bytes _ h c.in_ok-count.ensures.shown in
    c.cut_end.ensures.line ∙ ap without_end read.0 ∙ (kept longest bytes).0 ∙ ap (λ n. line_of n bytes) c.in_ok-pass_rest.ensures.longest)
    c.in_ok-pass_rest.ensures.left

pub returns-clause-left : goal.returns-clause-left
returns-clause-left g c =
    let longest = c.pass_rest.new.self.longest in
    weaker (bytes_left g.R.Read.remaining c.args.self.now) _ _ (λ bytes h.
    let read = at_some _ bytes _ h c.in_ok-count.ensures.shown in
    let all = shown longest bytes in
    let rest = drop (length all) bytes in
    let more : c.is_cut-self.result ≡ (not (ends_with_byte 10 all) && eqb (length (front (longest + 1) bytes)) (longest + 1)) =
    c.is_cut-self.ensures ∙ ap₂ (λ a b. not a && b) (c.cut_end.ensures.is_there ∙ ap (ends_with_byte 10) read.0)
    (ap₂ (λ n m. eqb n (m + 1)) read.1 c.in_ok-count.ensures.longest) in
    ap (option_map (λ l. cond c.is_cut-self.result (drop_through 10 l) l)) read.2
    ∙ ap Some (ap (λ b. cond b (drop_through 10 rest) rest) more ∙ (kept longest bytes).1))
    c.in_ok-pass_rest.ensures.left

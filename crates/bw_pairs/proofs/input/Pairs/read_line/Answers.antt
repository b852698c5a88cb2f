use Rattle.bw_pairs.specs.Inputs.{bytes_left, line_held, line_number, longest_line}
use Rattle.bw_pairs.proofs.Cutting.{moved}
use Rattle.bw_pairs.proofs.input.Pairs.read_line.Goals as goal

pub returns-in-Ok-clause-read : goal.returns-in-Ok-clause-read
returns-in-Ok-clause-read g c =
    let old = c.args.self.now.lines in
    let new = c.read_line.new.self in
    let is = c.in-Ok.ensures in
    moved (bytes_left g.I.Read.remaining old) (bytes_left g.I.Read.remaining new) (line_held new) c.in-Ok.is_there
    (line_number old) (line_number new) (longest_line old) (longest_line new) is.is_there is.line is.left is.number is.longest

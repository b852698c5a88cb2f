use Rattle.std.proofs.Common.{◌+◌, sym, ap, ◌∙◌, rules, arith}
use Rattle.std.specs.Io.Buffered.{reader_remaining}
use Rattle.std.specs.Io.BufRead.{ends_with_byte}
use Rattle.bw_pairs.specs.Inputs.{counted_left}
use Rattle.bw_pairs.proofs.Kept.{cr_read}
use Rattle.bw_pairs.proofs.lines.Lines.read_shown.Goals as goal

pub returns-in_ok-read_front-clause-shown : goal.returns-in_ok-read_front-clause-shown
returns-in_ok-read_front-clause-shown g c =
    cr_read c.args.self.now.longest c.in_ok-count.count (c.from.result + 1)
    (reader_remaining (counted_left g.R.Read.remaining) c.args.self.now.input)
    (reader_remaining (counted_left g.R.Read.remaining) c.read_front.new.input)
    (reader_remaining (counted_left g.R.Read.remaining) c.read_front-then-ends_in.new.input)
    c.clear.new.self.items c.read_front.new.line.items c.read_front-then-ends_in.new.line.items
    c.clear.ensures.items (omega (arith, c.from.ensures))
    c.in_ok-count.ensures.line c.in_ok-count.ensures.left
    c.in_ok-read_front.ensures.line c.in_ok-read_front.ensures.left
    (ap (ends_with_byte 13) (sym c.as_slice.ensures.value) ∙ sym c.ends_in.ensures ∙ c.if-ends_in.true)
    (omega (arith, c.in_ok-count.ensures.count, c.read_front.new.line.ok, c.clear.new.self.ok))

use Rattle.std.specs.Io.KnownBytes.{prepend_known}
use Rattle.bw_pairs.specs.Dumps.{unescaped, dump_meant}
use Rattle.bw_pairs.specs.declared.dump.Escape.TheVariants.{Outside}
use Rattle.bw_pairs.proofs.Escaping.{printed, if_ok_along, on_err_along}
use Rattle.bw_pairs.proofs.dump.bytes_in.Goals as goal

pub returns-in-Print-clause-ok : goal.returns-in-Print-clause-ok
returns-in-Print-clause-ok c =
    let text = c.in_ok-text.text.now in
    let new = c.new.result.items in
    if_ok_along c.unescaped.result (prepend_known new (unescaped Outside text)) (dump_meant c.args.letters c.args.line.now) _
    (printed c.args.letters c.args.line.now text new c.in-Print.is c.in_ok-text.ensures.ok c.new.ensures) c.unescaped.ensures.ok

pub returns-in-Print-clause-err : goal.returns-in-Print-clause-err
returns-in-Print-clause-err c =
    let text = c.in_ok-text.text.now in
    let new = c.new.result.items in
    on_err_along c.unescaped.result (prepend_known new (unescaped Outside text)) (dump_meant c.args.letters c.args.line.now) 512
    (printed c.args.letters c.args.line.now text new c.in-Print.is c.in_ok-text.ensures.ok c.new.ensures) c.unescaped.ensures.err

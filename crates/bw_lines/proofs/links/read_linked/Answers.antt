use Rattle.std.proofs.Common.{refl, sym}
use Rattle.bw_lines.proofs.LinksRead.{delta_linked, delta_unlinked, set_linked}
use Rattle.bw_lines.proofs.links.read_linked.Goals as goal

pub returns-in-Delta-clause-ok : goal.returns-in-Delta-clause-ok
returns-in-Delta-clause-ok c = λ done read.
    delta_linked c.read_delta.result c.args.first done c.args.lines.now c.read_delta.new.lines c.args.place _ _ _ c.as_slice.result.now
    c.args.block.now c.in-Delta.is c.as_slice.ensures c.read_delta.ensures.linked c.read_delta.ensures.lines read

pub returns-in-Delta-clause-fault : goal.returns-in-Delta-clause-fault
returns-in-Delta-clause-fault c = λ done read.
    delta_unlinked c.read_delta.result c.args.first done c.args.lines.now _ _ _ c.args.block.now c.in-Delta.is c.read_delta.ensures.fault read

pub returns-in_ok-read_base-in-Base-clause-ok : goal.returns-in_ok-read_base-in-Base-clause-ok
returns-in_ok-read_base-in-Base-clause-ok c = λ done read.
    set_linked c.args.first done c.args.lines.now c.read_base.new.lines c.args.place c.args.block.now _ c.in-Base.is refl
    c.in_ok-read_base-in-Base.ensures read

pub returns-in_ok-read_split-in-None-clause-ok : goal.returns-in_ok-read_split-in-None-clause-ok
returns-in_ok-read_split-in-None-clause-ok c = λ done read.
    set_linked c.args.first done c.args.lines.now c.read_split.new.lines c.args.place c.args.block.now _ c.in-Split.is
    (sym (c.in-None.ensures done read)) (c.in_ok-read_split-in-None.ensures c.in-Split.back) read

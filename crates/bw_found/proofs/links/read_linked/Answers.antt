use Rattle.std.proofs.Common.{◌++◌, ◌∷◌, [], OnOk, IfErr, refl, sym, subst}
use Rattle.bw_record.specs.declared.block.Block.{Block}
use Rattle.bw_log.specs.Places.{fault_of}
use Rattle.bw_lines.specs.Reading.{IsRead, LinkFaultIs}
use Rattle.bw_lines.proofs.LinksRead.{set_linked}
use Rattle.bw_found.proofs.FirstRead.{delta_here, base_here, split_here}
use Rattle.bw_found.proofs.links.read_linked.Goals as goal

pub returns-then-tag-eq1-clause-ok : goal.returns-then-tag-eq1-clause-ok
returns-then-tag-eq1-clause-ok c m block done small first read =
    let h = delta_here c.args.version m c.args.bytes.now block c.if-tag-eq1.true first in
    subst (λ (b : Block). OnOk c.read_delta_at.result (IsRead c.args.first (done ++ (c.args.place, b) ∷ []) c.read_delta_at.new.lines)) (sym h.is)
    (c.read_delta_at.ensures.ok h.page h.back h.ops done h.after read)

pub returns-then-tag-eq1-clause-fault : goal.returns-then-tag-eq1-clause-fault
returns-then-tag-eq1-clause-fault c m block done small first read =
    let h = delta_here c.args.version m c.args.bytes.now block c.if-tag-eq1.true first in
    subst (λ (b : Block). IfErr c.read_delta_at.result (LinkFaultIs (fault_of c.args.first done b))) (sym h.is)
    (c.read_delta_at.ensures.fault h.page h.back h.ops done h.after read)

pub returns-in_ok-read_base_at-in-len1-up-clause-ok : goal.returns-in_ok-read_base_at-in-len1-up-clause-ok
returns-in_ok-read_base_at-in-len1-up-clause-ok c m block done small first read =
    let h = base_here c.args.version m c.args.bytes.now block small c.if-tag-eq2.true first in
    set_linked c.args.first done c.args.lines.now c.read_base_at.new.lines c.args.place block _ h.is refl
    (c.in_ok-read_base_at-in-len1-up.ensures m h.leaf h.after) read

pub returns-then-tag-eq3-clause-ok : goal.returns-then-tag-eq3-clause-ok
returns-then-tag-eq3-clause-ok c m block done small first read =
    let h = split_here c.args.version m c.args.bytes.now block small c.if-tag-eq3.true first in
    subst (λ (b : Block). OnOk c.read_split_at.result (IsRead c.args.first (done ++ (c.args.place, b) ∷ []) c.read_split_at.new.lines)) (sym h.is)
    (c.read_split_at.ensures.ok m h.page h.back h.upper done h.after read)

pub returns-then-tag-eq3-clause-fault : goal.returns-then-tag-eq3-clause-fault
returns-then-tag-eq3-clause-fault c m block done small first read =
    let h = split_here c.args.version m c.args.bytes.now block small c.if-tag-eq3.true first in
    subst (λ (b : Block). IfErr c.read_split_at.result (LinkFaultIs (fault_of c.args.first done b))) (sym h.is)
    (c.read_split_at.ensures.fault m h.page h.back h.upper done h.after read)

use Rattle.std.proofs.Common.{ℕ, ◌≡◌, ◌+◌, ◌-◌, List, [], ◌∷◌, ◌++◌, length, ap, ◌∙◌, arith, length-append}
use Rattle.bw_record.specs.declared.record.Record.{Record}
use Rattle.bw_tables.specs.Writing.{chunk_records}
use Rattle.bw_tables.proofs.WritingLaws.{one_more, length-chunk_records}
use Rattle.bw_tables.proofs.groups.add_chunks.Goals as goal

pub add-requires : goal.add-requires
add-requires c =
    let so_far : List Record = chunk_records c.args.number.bytes c.args.value.now c.args.from (c.loop-i.i - c.args.from) in
    let e : length c.loop-i.group ≡ length c.args.group.now + (c.loop-i.i - c.args.from)
    = ap length c.loop-i.invariant ∙ length-append c.args.group.now so_far
    ∙ ap (λ (k : ℕ). length c.args.group.now + k) (length-chunk_records c.args.number.bytes c.args.value.now c.args.from (c.loop-i.i - c.args.from)) in
    omega arith

pub loop-i-preserved : goal.loop-i-preserved
loop-i-preserved c =
    one_more c.args.group.now c.loop-i.group c.add.new.group c.args.number.bytes c.args.value.now c.args.from c.loop-i.i
    (omega arith) c.loop-i.invariant (c.add.ensures ∙ ap (λ (x : Record). c.loop-i.group ++ x ∷ []) c.chunk_of.ensures)

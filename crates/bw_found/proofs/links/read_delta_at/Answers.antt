use Rattle.std.proofs.Common.{◌≡◌, ◌∙◌, ◌++◌, ap, sym, refl, Some, ℕ, List, length}
use Rattle.std.specs.List.{flat_map}
use Rattle.bw_record.specs.declared.block.Place.{Place}
use Rattle.bw_record.specs.declared.record.Record.{Record}
use Rattle.bw_record.specs.declared.block.Block.TheVariants.{Delta}
use Rattle.bw_codec.specs.Grammar.{op_bytes_in}
use Rattle.bw_codec.specs.Lent.{delta_parts}
use Rattle.bw_codec.proofs.Format.{found}
use Rattle.bw_codec.proofs.Lending.{delta_spelled}
use Rattle.bw_found.specs.Lent.{AreOps, IsDeltaAfter}
use Rattle.bw_lines.proofs.LinksRead.{delta_linked, delta_unlinked}
use Rattle.bw_found.proofs.links.read_delta_at.Goals as goal

abbrev Parts : Type 0
Parts = (ℕ × Place × ℕ) × List ℕ

-- what was read is what stands there
parts : (v page : ℕ) (back : Place) (ops : List Record) (bytes : List ℕ) (got : Parts) (after : IsDeltaAfter v page back ops bytes) → delta_parts bytes ≡ Some got
    → got ≡ ((page, back, length ops), flat_map (op_bytes_in v) ops ++ after.rest)
parts v page back ops bytes got after gives =
    found (sym gives ∙ ap delta_parts after.there ∙ delta_spelled v page back ops after.rest after.lawful)

block_is : (v page : ℕ) (back : Place) (ops : List Record) (bytes : List ℕ) (got : Parts) (after : IsDeltaAfter v page back ops bytes)
    → delta_parts bytes ≡ Some got → Delta page back ops ≡ Delta got.0.0 got.0.1 ops
block_is v page back ops bytes got after gives =
    ap (λ (g : Parts). Delta g.0.0 g.0.1 ops) (sym (parts v page back ops bytes got after gives))

are_ops : (v page : ℕ) (back : Place) (ops : List Record) (bytes : List ℕ) (got : Parts) (after : IsDeltaAfter v page back ops bytes)
    → delta_parts bytes ≡ Some got → AreOps v got.0.2 got.1 ops
are_ops v page back ops bytes got after gives =
    let p = parts v page back ops bytes got after gives in
    record {
      count_is = ap (λ (g : Parts). g.0.2) p;
      each = after.lawful.each;
      rest = after.rest;
      there = ap (λ (g : Parts). g.1) p;
    }

pub returns-in-Ok-clause-ok : goal.returns-in-Ok-clause-ok
returns-in-Ok-clause-ok c page back ops done after read =
    let got : Parts = ((c.in-Ok.page, c.in-Ok.back, c.in-Ok.count), c.in-Ok.bytes.now) in
    delta_linked c.read_delta.result c.args.first done c.args.lines.now c.read_delta.new.lines c.args.place c.in-Ok.back c.in-Ok.page ops ops
    (Delta page back ops) (block_is c.args.version page back ops c.args.bytes.now got after c.in-Ok.ensures.gives) refl c.read_delta.ensures.linked
    (c.read_delta.ensures.lines ops (are_ops c.args.version page back ops c.args.bytes.now got after c.in-Ok.ensures.gives)) read

pub returns-in-Ok-clause-fault : goal.returns-in-Ok-clause-fault
returns-in-Ok-clause-fault c page back ops done after read =
    let got : Parts = ((c.in-Ok.page, c.in-Ok.back, c.in-Ok.count), c.in-Ok.bytes.now) in
    delta_unlinked c.read_delta.result c.args.first done c.args.lines.now c.in-Ok.back c.in-Ok.page ops (Delta page back ops)
    (block_is c.args.version page back ops c.args.bytes.now got after c.in-Ok.ensures.gives) c.read_delta.ensures.fault read

use Rattle.std.proofs.Common.{◌≡◌, ◌∙◌, sym, ap, Ok, Err}
use Rattle.bw_record.specs.Record.{key_of}
use Rattle.bw_record.specs.declared.record.Record.{Record}
use Rattle.bw_record.specs.declared.record.Record.TheVariants.{Put, Del}
use Rattle.bw_leaf.specs.Seek.{seek_of}
use Rattle.bw_leaf.proofs.Seeking.{put_there, gone_there}
use Rattle.bw_leaf.proofs.changes.take_back.Goals as goal

pub returns-in-Ok-Ok : goal.returns-in-Ok-Ok
returns-in-Ok-Ok c =
    let is : c.args.back ≡ Put c.in-Ok-Ok.pair.0 c.in-Ok-Ok.pair.1 = c.in-Ok-Ok.ensures in
    let found : Ok c.in-Ok-Ok.at ≡ seek_of c.in-Ok-Ok.pair.0 c.args.leaf.now.pairs =
    sym c.in-Ok-Ok.is-0 ∙ c.requires.found ∙ ap (λ (r : Record). seek_of (key_of r) c.args.leaf.now.pairs) is in
    let there = put_there c.args.leaf.now _ _ _ _ is found in
    there.0 _ (c.set.ensures.set ∙ there.1.0 c.in-Ok-Ok.pair.1)

pub returns-in-Ok-Err : goal.returns-in-Ok-Err
returns-in-Ok-Err c =
    let is : c.args.back ≡ Del c.in-Ok-Err.field-0-1.0 = c.in-Ok-Err.ensures in
    let found : Ok c.in-Ok-Err.at ≡ seek_of c.in-Ok-Err.field-0-1.0 c.args.leaf.now.pairs =
    sym c.in-Ok-Err.is-0 ∙ c.requires.found ∙ ap (λ (r : Record). seek_of (key_of r) c.args.leaf.now.pairs) is in
    let there = gone_there c.args.leaf.now _ _ _ is found in
    there.0 _ (c.remove.ensures ∙ there.1.1)

pub returns : goal.returns
returns c =
    let is : c.args.back ≡ Del c.in-Err-Err.field-0-1.0 = c.in-Err-Err.ensures in
    let found : Err c.in-Err-Err.field-0-0 ≡ seek_of c.in-Err-Err.field-0-1.0 c.args.leaf.now.pairs =
    sym c.in-Err-Err.is-0 ∙ c.requires.found ∙ ap (λ (r : Record). seek_of (key_of r) c.args.leaf.now.pairs) is in
    let there = gone_there c.args.leaf.now _ _ _ is found in
    there.0 _ there.1.1

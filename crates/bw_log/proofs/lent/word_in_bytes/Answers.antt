use Rattle.std.proofs.Common.{◌≡◌, ◌∙◌, ap, true, false}
use Rattle.bw_leaf.specs.declared.words.Word.TheVariants.{Silent, Gone, Holds}
use Rattle.bw_log.specs.Lent.{heard_of}
use Rattle.bw_log.proofs.LentBlocks.{heard_there, short_there, none_there}
use Rattle.bw_log.proofs.lent.word_in_bytes.Goals as goal

pub unreachable-requires : goal.unreachable-requires
unreachable-requires c =
    let short = short_there c.args.version c.args._m c.args.page c.args.key.now c.as_slice.result.now c.args.bytes.now c.in-Ok-Some-Some-default.value.now
    c.in-Ok-Some-Some-default.back c.ranges._m.fits c.as_slice.ensures.value c.requires (rw (c.in-Ok-Some-Some-default.field-0-0-is, c.in-Ok-Some-Some-default.field-0-0-0-is) at c.in-Ok-Some-Some-default.ensures.gives) in
    let e : false ≡ true = c.in-Err-new.ensures.variant.1 short in
    cc

pub unreachable-requires-in-Err : goal.unreachable-requires-in-Err
unreachable-requires-in-Err c =
    none_there c.args.version c.args._m c.args.page c.args.key.now c.as_slice.result.now c.args.bytes.now c.in-Err.field-0 c.ranges._m.fits
    c.as_slice.ensures.value c.requires c.in-Err.ensures.bad c.in-Err.ensures.gives

pub returns-in-Ok : goal.returns-in-Ok
returns-in-Ok c block s =
    ap (λ v. heard_of (Holds v) c.in-Ok-Some-Some-default.back) c.in-Ok.ensures.ok
    ∙ heard_there c.args.version c.args._m c.args.page c.args.key.now c.as_slice.result.now c.args.bytes.now block
    (Holds c.in-Ok-Some-Some-default.value.now) c.in-Ok-Some-Some-default.back c.ranges._m.fits c.as_slice.ensures.value s
    (rw (c.in-Ok-Some-Some-default.field-0-0-is, c.in-Ok-Some-Some-default.field-0-0-0-is) at c.in-Ok-Some-Some-default.ensures.gives)

pub returns-in-Ok-Some-None-default : goal.returns-in-Ok-Some-None-default
returns-in-Ok-Some-None-default c block s =
    heard_there c.args.version c.args._m c.args.page c.args.key.now c.as_slice.result.now c.args.bytes.now block Gone c.in-Ok-Some-None-default.back
    c.ranges._m.fits c.as_slice.ensures.value s
    (rw (c.in-Ok-Some-None-default.field-0-0-is, c.in-Ok-Some-None-default.field-0-0-0-is) at c.in-Ok-Some-None-default.ensures.gives)

pub returns-in-Ok-None-default : goal.returns-in-Ok-None-default
returns-in-Ok-None-default c block s =
    heard_there c.args.version c.args._m c.args.page c.args.key.now c.as_slice.result.now c.args.bytes.now block Silent c.in-Ok-None-default.back
    c.ranges._m.fits c.as_slice.ensures.value s
    (rw c.in-Ok-None-default.field-0-0-is at c.in-Ok-None-default.ensures.gives)

use Rattle.std.proofs.Common.{arith, subst}
use Rattle.bw_codec.specs.Grammar.{IsFront}
use Rattle.page_tests.proofs.Rewritten.{blocks_newer}
use Rattle.page_tests.proofs.tests.codec.writing.copy_frame.Goals as goal

pub write_frame-requires : goal.write_frame-requires
write_frame-requires c =
    let h = c.args.header.now in
    let found = subst (IsFront h.version h.m h.f c.args.bytes.now) c.in-Ok-Whole.field-0-is c.in-Ok-Whole.ensures.found in
    blocks_newer h.version h.m 32 c.in-Ok-Whole.frame.blocks (omega (arith, c.if-header-gt32.false)) found.0.blocks

use Rattle.std.proofs.Common.{List, [], ◌∷◌, ◌++◌, ◌<◌, ◌^◌, map, arith, rules, subst, ◌∙◌, ap}
use Rattle.std.specs.List.{flat_map, AllByRecursion}
use Rattle.bw_codec.specs.Grammar.{frame_bytes_in, IsFrameIn}
use Rattle.bw_record.specs.declared.block.Frame.{Frame}
use Rattle.bw_codec.specs.declared.head.FrameRead.TheVariants.{Whole, Tail}
use Rattle.bw_codec.proofs.FrontFormat.{is_front}
use Rattle.bw_log.specs.Segments.{entries_from}
use Rattle.bw_care.specs.Scanning.{rest_of}
use Rattle.bw_care.proofs.FrontsRead.{ends_parts, ends_torn, fits_there, read_more, ends_tail, ends_bad, tail_lawful}
use Rattle.bw_care.proofs.FrontsRead.{bad_there, tail_len, whole_from, tail_from, unseen_from, first_spelled, len_from, line_from}
use Rattle.bw_care.proofs.scan.read_behind.Goals as goal

pub line_of-requires : goal.line_of-requires
line_of-requires c =
    let k = c.args.header in
    let small : k.m < 2 ^ 16 = search rules in
    let limit : k.f < 2 ^ 32 = search rules in
    let w = whole_from k c.args.bytes.now c.frames.at c.in-Ok-Whole.field-0 c.in-Ok-Whole.number c.in-Ok-Whole.used c.in-Ok-Whole.ensures.found
    c.in-Ok-Whole.field-0-is in
    let fits = fits_there k c.frames.at c.args.bytes.now w.frame c.in-Ok-Whole.used c.frames.invariant.1.within w.there in
    let used = fits.2 in
    let len = len_from k c.args.bytes.now c.frames.at c.in-Ok-Whole.number c.in-Ok-Whole.used w small in
    (omega (arith, len), first_spelled k c.args.bytes.now c.frames.at c.in-Ok-Whole.number c.in-Ok-Whole.used w small limit)

pub frames-preserved : goal.frames-preserved
frames-preserved c =
    let k = c.args.header in
    let small : k.m < 2 ^ 16 = search rules in
    let limit : k.f < 2 ^ 32 = search rules in
    let w = whole_from k c.args.bytes.now c.frames.at c.in-Ok-Whole.field-0 c.in-Ok-Whole.number c.in-Ok-Whole.used c.in-Ok-Whole.ensures.found
    c.in-Ok-Whole.field-0-is in
    let line = line_from k c.args.bytes.now c.frames.at c.in-Ok-Whole.number c.in-Ok-Whole.used c.line_of.result w small limit c.line_of.ensures in
    let front = is_front k.version k.m k.f _ (Whole w.frame c.in-Ok-Whole.used) small limit w.there in (
      c.frames.invariant.0 ++ w.frame ∷ [],
      rw (c.in_ok-push-in-Ok-Whole.ensures.items, line)
          (read_more k c.args.bytes.now c.frames.at c.frames.invariant.0 c.frames.lines.items w.frame c.in-Ok-Whole.used
          c.frames.invariant.1 front w.there),
    )

pub returns-in-Ok-Tail-clause-found : goal.returns-in-Ok-Tail-clause-found
returns-in-Ok-Tail-clause-found c =
    let k = c.args.header in
    let small : k.m < 2 ^ 16 = search rules in
    let limit : k.f < 2 ^ 32 = search rules in
    let there = tail_from k c.args.bytes.now c.frames.at c.in-Ok-Tail.field-0 c.in-Ok-Tail.ensures.found c.in-Ok-Tail.field-0-is in
    let front = is_front k.version k.m k.f _ Tail small limit there in
    let e = ends_tail k c.args.bytes.now c.frames.at c.frames.invariant.0 c.frames.lines.items c.frames.invariant.1 front in
    record {
      lines = c.frames.invariant.1.lines ∙ ap (λ (fs : List Frame). map (λ r. r.0) (entries_from k.version 0 24 fs)) e.frames;
      tail = tail_len k c.args.bytes.now c.frames.at c.frames.invariant.0 e;
      lawful = tail_lawful k c.args.bytes.now c.frames.at c.frames.invariant.0 e front;
      laws = subst (AllByRecursion (IsFrameIn k.version k.m k.f)) e.frames c.frames.invariant.1.laws;
      parts = ends_parts k c.args.bytes.now c.frames.at c.frames.invariant.0 c.frames.lines.items c.frames.invariant.1 e
          ∙ ap (λ (fs : List Frame). flat_map (frame_bytes_in k.version) fs ++ rest_of k c.args.bytes.now) e.frames;
      torn = ends_torn k c.args.bytes.now c.frames.at c.frames.invariant.0 e there;
    }

pub returns-in-Err-clause-fault : goal.returns-in-Err-clause-fault
returns-in-Err-clause-fault c =
    let front = unseen_from c.args.header c.args.bytes.now c.frames.at c.in-Err.ensures.none in
    bad_there c.args.header c.args.bytes.now c.frames.at c.frames.invariant.0
    (ends_bad c.args.header c.args.bytes.now c.frames.at c.frames.invariant.0 c.frames.lines.items c.frames.invariant.1 front) front

use Rattle.std.proofs.Common.{◌∙◌, List, ℕ, Some, Ok, Err, ap, subst}
use Rattle.bw_codec.specs.declared.head.FrameRead.{FrameRead}
use Rattle.bw_codec.specs.Grammar.{IsFront}
use Rattle.bw_codec.specs.Reading.{Gives}
use Rattle.bw_look.proofs.FramesKept.{ends_there, ends_bad, ends_above}
use Rattle.bw_look.proofs.restored.next.Goals as goal

pub returns-in-Ok-Whole : goal.returns-in-Ok-Whole
returns-in-Ok-Whole c = ends_above c.args.last c.args.header _ c.read_frame.result c.in-Ok-Whole.frame c.in-Ok-Whole.len
    (subst (λ (l : List ℕ). (there : FrameRead) → IsFront c.args.header.version c.args.header.m c.args.header.f l there → Gives (λ x. x) c.read_frame.result (Some there))
    c.rest_of.ensures c.read_frame.ensures.only) (c.in-Ok-Whole.is ∙ ap Ok c.in-Ok-Whole.field-0-is) c.if-frame-last.false

pub returns-in-Ok-Tail : goal.returns-in-Ok-Tail
returns-in-Ok-Tail c = ends_there c.args.last c.args.header _ c.read_frame.result
    (subst (λ (l : List ℕ). (there : FrameRead) → IsFront c.args.header.version c.args.header.m c.args.header.f l there → Gives (λ x. x) c.read_frame.result (Some there))
    c.rest_of.ensures c.read_frame.ensures.only) (c.in-Ok-Tail.is ∙ ap Ok c.in-Ok-Tail.field-0-is)

pub returns-in-Err-BadBytes : goal.returns-in-Err-BadBytes
returns-in-Err-BadBytes c = ends_bad c.args.last c.args.header _ c.read_frame.result
    (subst (λ (l : List ℕ). (there : FrameRead) → IsFront c.args.header.version c.args.header.m c.args.header.f l there → Gives (λ x. x) c.read_frame.result (Some there))
    c.rest_of.ensures c.read_frame.ensures.only) (c.in-Err-BadBytes.is ∙ ap Err c.in-Err-BadBytes.field-0-is)

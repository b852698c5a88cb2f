use Rattle.std.proofs.Common.{◌∙◌, List, ℕ, Some, Ok, Err, ap, subst}
use Rattle.bw_codec.specs.declared.head.FrameRead.{FrameRead}
use Rattle.bw_codec.specs.Grammar.{IsFront}
use Rattle.bw_codec.specs.Reading.{Gives}
use Rattle.bw_rescue.proofs.WholeTaken.{none_beside, none_if_bad, same_whole}
use Rattle.bw_rescue.proofs.held.frame_at.Goals as goal

pub returns-in-Ok-Tail-clause-found : goal.returns-in-Ok-Tail-clause-found
returns-in-Ok-Tail-clause-found c = none_beside c.args.header.version c.args.header.m c.args.header.f _ c.read_frame.result
    (subst (λ (l : List ℕ). (there : FrameRead) → IsFront c.args.header.version c.args.header.m c.args.header.f l there → Gives (λ x. x) c.read_frame.result (Some there))
    c.rest_of.ensures c.read_frame.ensures.only) (c.in-Ok-Tail.is ∙ ap Ok c.in-Ok-Tail.field-0-is)

pub returns-in-Err-BadBytes-clause-found : goal.returns-in-Err-BadBytes-clause-found
returns-in-Err-BadBytes-clause-found c = none_if_bad c.args.header.version c.args.header.m c.args.header.f _ c.read_frame.result
    (subst (λ (l : List ℕ). (there : FrameRead) → IsFront c.args.header.version c.args.header.m c.args.header.f l there → Gives (λ x. x) c.read_frame.result (Some there))
    c.rest_of.ensures c.read_frame.ensures.only) (c.in-Err-BadBytes.is ∙ ap Err c.in-Err-BadBytes.field-0-is)

pub returns-in-Ok-Whole-clause-only : goal.returns-in-Ok-Whole-clause-only
returns-in-Ok-Whole-clause-only c = same_whole c.args.header.version c.args.header.m c.args.header.f _ c.read_frame.result c.in-Ok-Whole.frame c.in-Ok-Whole.len
    (subst (λ (l : List ℕ). (there : FrameRead) → IsFront c.args.header.version c.args.header.m c.args.header.f l there → Gives (λ x. x) c.read_frame.result (Some there))
    c.rest_of.ensures c.read_frame.ensures.only) (c.in-Ok-Whole.is ∙ ap Ok c.in-Ok-Whole.field-0-is)

pub returns-in-Ok-Tail-clause-only : goal.returns-in-Ok-Tail-clause-only
returns-in-Ok-Tail-clause-only c = λ frame len stands. absurd (none_beside c.args.header.version c.args.header.m c.args.header.f _ c.read_frame.result
    (subst (λ (l : List ℕ). (there : FrameRead) → IsFront c.args.header.version c.args.header.m c.args.header.f l there → Gives (λ x. x) c.read_frame.result (Some there))
    c.rest_of.ensures c.read_frame.ensures.only) (c.in-Ok-Tail.is ∙ ap Ok c.in-Ok-Tail.field-0-is) frame len stands)

pub returns-in-Err-BadBytes-clause-only : goal.returns-in-Err-BadBytes-clause-only
returns-in-Err-BadBytes-clause-only c = λ frame len stands. absurd (none_if_bad c.args.header.version c.args.header.m c.args.header.f _ c.read_frame.result
    (subst (λ (l : List ℕ). (there : FrameRead) → IsFront c.args.header.version c.args.header.m c.args.header.f l there → Gives (λ x. x) c.read_frame.result (Some there))
    c.rest_of.ensures c.read_frame.ensures.only) (c.in-Err-BadBytes.is ∙ ap Err c.in-Err-BadBytes.field-0-is) frame len stands)

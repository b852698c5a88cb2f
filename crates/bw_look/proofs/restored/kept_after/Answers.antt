use Rattle.std.proofs.Common.{ℕ, Option, subst, drop}
use Rattle.std.specs.Prelude.{MatchOption}
use Rattle.bw_look.specs.Restored.{Ends, IsNext}
use Rattle.bw_look.proofs.FramesKept.{walk_goes_on, walk_ends, walk_is_over}
use Rattle.bw_look.proofs.restored.kept_after.Goals as goal

pub returns-in-None : goal.returns-in-None
returns-in-None c = walk_ends c.args.last c.args.header c.args.bytes.now c.frames.counter c.frames.at c.frames.kept c.frames.invariant
    (subst (λ (o : Option ℕ). MatchOption o (Ends c.args.last c.args.header (drop c.frames.at c.args.bytes.now)) (IsNext c.args.last c.args.header c.args.bytes.now c.frames.at))
    c.in-None.is c.in_ok-end.ensures)

pub frames-preserved : goal.frames-preserved
frames-preserved c = walk_goes_on c.args.last c.args.header c.args.bytes.now c.frames.counter c.frames.at c.frames.kept c.in-Some.end c.frames.invariant
    (subst (λ (o : Option ℕ). MatchOption o (Ends c.args.last c.args.header (drop c.frames.at c.args.bytes.now)) (IsNext c.args.last c.args.header c.args.bytes.now c.frames.at))
    c.in-Some.is c.in_ok-end.ensures)

pub returns : goal.returns
returns c = walk_is_over c.args.last c.args.header c.args.bytes.now c.frames.counter c.frames.at c.frames.kept c.frames.invariant c.frames-test.false

use Rattle.std.proofs.Common.{ℕ, List, ap, sym, ◌∙◌}
use Rattle.bw_codec.specs.Grammar.{agrees}
use Rattle.bw_codec.proofs.FrameHead.{head_there, no_head_there}
use Rattle.bw_codec.proofs.decoder.head_of.Goals as goal

pub returns-then-not-is_lawful-clause-gives : goal.returns-then-not-is_lawful-clause-gives
returns-then-not-is_lawful-clause-gives c =
    no_head_there c.args.version c.args.limit c.args.bytes.now c.in_ok-number.rest.now c.in_ok-body.rest.now c.in_ok-blocks.rest.now
    _ _ _ (ap (λ (w : List ℕ). agrees c.args.bytes.now w) (sym c.frame_word.ensures) ∙ sym c.begins_as.ensures ∙ c.if-not-begins_as.false)
    c.in_ok-number.ensures.gives c.in_ok-body.ensures.gives
    c.in_ok-blocks.ensures.gives (sym c.is_lawful.ensures ∙ c.if-not-is_lawful.true)

pub returns-clause-gives : goal.returns-clause-gives
returns-clause-gives c =
    head_there c.args.version c.args.limit c.args.bytes.now c.in_ok-number.rest.now c.in_ok-body.rest.now c.in_ok-blocks.rest.now
    _ _ _ (ap (λ (w : List ℕ). agrees c.args.bytes.now w) (sym c.frame_word.ensures) ∙ sym c.begins_as.ensures ∙ c.if-not-begins_as.false)
    c.in_ok-number.ensures.gives c.in_ok-body.ensures.gives
    c.in_ok-blocks.ensures.gives (sym c.is_lawful.ensures ∙ c.if-not-is_lawful.false)

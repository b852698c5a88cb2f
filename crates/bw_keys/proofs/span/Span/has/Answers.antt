use Rattle.std.proofs.Common.{◌∙◌}
use Rattle.bw_keys.proofs.WantedKeys.{wanted_then, wanted_else}
use Rattle.bw_keys.proofs.span.Span.has.Goals as goal

pub returns-then-has_begun : goal.returns-then-has_begun
returns-then-has_begun c =
    wanted_then c.args.self.now c.args.key.now c.is_over.result c.if-has_begun.ensures c.is_over.ensures

pub returns-else-has_begun : goal.returns-else-has_begun
returns-else-has_begun c = c.if-has_begun.false ∙ wanted_else c.args.self.now c.args.key.now c.if-has_begun.ensures

use Rattle.std.proofs.Common.{◌∙◌, ℕ, Some, ap}
use Rattle.bw_codec.specs.declared.outline.Outline.{Outline}
use Rattle.bw_codec.proofs.Stepping.{outlined, over_none}
use Rattle.bw_codec.proofs.outline.Outline.read.Goals as goal

pub returns-in-Ok : goal.returns-in-Ok
returns-in-Ok c m block rest small law parts =
    let same = outlined c.args.version m block c.args.bytes.now rest (c.in-Ok.page, c.in-Ok.made) c.in-Ok.rest.now small law parts c.in-Ok.ensures.gives in
    ap (λ (n : ℕ). let o : Outline = record { len = n; page = c.in-Ok.page; made = c.in-Ok.made } in Some o) c.saturating_sub.ensures
    ∙ ap (λ (o : Outline). Some o) same

pub returns-in-Err : goal.returns-in-Err
returns-in-Err c m block rest small law parts =
    let bad = c.in-Err.ensures.bad in
    let none = c.in-Err.ensures.gives in
    absurd (over_none c.args.version m block c.args.bytes.now rest c.in-Err.field-0 small law parts bad none)

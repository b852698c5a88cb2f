use Rattle.std.proofs.Common.{ℕ, List, ◌∙◌, ap, rules}
use Rattle.std.specs.List.{filter}
use Rattle.std.proofs.lemmas.Fn.{filter_same}
use Rattle.bw_record.specs.Keys.{is_below}
use Rattle.bw_leaf.specs.Changed.{Pairs}
use Rattle.bw_leaf.proofs.replay.keep_below.Goals as goal

pub returns : goal.returns
returns c =
    let kept = filter_same _ (λ p. is_below p.0 c.args.separator.now) _ (λ x b f' h. search rules) _ _ c.retain.ensures.filtered in
    let low = ap (λ (parts : List ℕ × Pairs). parts.0) c.into_parts-low.ensures in
    let all = c.into_vec-kept.ensures ∙ ap (λ (parts : List ℕ × Pairs). parts.1) c.into_parts-low.ensures in
    let pairs = c.of.ensures ∙ c.shrink_to_fit.ensures.items ∙ kept ∙ ap (filter (λ p. is_below p.0 c.args.separator.now)) all in
    λ i. record { page = c.args.leaf.page; low = low i; pairs = pairs i }

use Rattle.std.proofs.Common.{◌≡◌, ◌∙◌, ◌||◌, ◌+◌, ap, sym, Bool, drop, arith}
use Rattle.std.specs.List.{list_any}
use Rattle.bw_record.specs.Keys.{is_below}
use Rattle.bw_leaf.specs.Changed.{Bytes}
use Rattle.bw_lines.specs.Paging.{is_past}
use Rattle.bw_found.proofs.Astray.{any_from}
use Rattle.bw_found.proofs.pages.some_astray.Goals as goal

pub returns-then-is_astray : goal.returns-then-is_astray
returns-then-is_astray c =
    let low = c.args.leaf.now.low in
    let test : Bytes → Bool = λ k. is_below k low || is_past c.args.next.now k in
    let is : c.is_astray.result ≡ test c.key.result.now =
    c.is_astray.ensures ∙ ap (λ (l : Bytes). is_below c.key.result.now l || is_past c.args.next.now c.key.result.now) c.low.ensures in
    sym (ap (λ (b : Bool). b || list_any (λ p. test p.0) (drop (c.loop-at.at + 1) c.args.leaf.now.pairs)) (c.if-is_astray.true))
    ∙ sym (any_from test c.args.leaf.now.pairs c.loop-at.at c.key.result.now c.is_astray.result (let n = c.count-at-end.ensures in let l = c.loop-at-test.true in omega (arith, n, l)) c.key.ensures is)
    ∙ c.loop-at.invariant

pub loop-at-preserved : goal.loop-at-preserved
loop-at-preserved c =
    let low = c.args.leaf.now.low in
    let test : Bytes → Bool = λ k. is_below k low || is_past c.args.next.now k in
    let is : c.is_astray.result ≡ test c.key.result.now =
    c.is_astray.ensures ∙ ap (λ (l : Bytes). is_below c.key.result.now l || is_past c.args.next.now c.key.result.now) c.low.ensures in
    sym (ap (λ (b : Bool). b || list_any (λ p. test p.0) (drop (c.loop-at.at + 1) c.args.leaf.now.pairs)) (c.if-is_astray.false))
    ∙ sym (any_from test c.args.leaf.now.pairs c.loop-at.at c.key.result.now c.is_astray.result (let n = c.count-at-end.ensures in let l = c.loop-at-test.true in omega (arith, n, l)) c.key.ensures is)
    ∙ c.loop-at.invariant

use Rattle.std.proofs.Common.{◌≡◌, ◌-◌, List, take, drop, ap, sym, ◌∙◌, arith}
use Rattle.std.proofs.lemmas.List.{length-map}
use Rattle.bw_history.specs.declared.entry.Entry.{Entry}
use Rattle.bw_history.specs.Remembered.{Remembered}
use Rattle.bw_history.proofs.Laned.{drop_over}
use Rattle.bw_history.proofs.history.History.between.Goals as goal

pub returns : goal.returns
returns c =
    let items = ap (λ (r : Remembered). r.items) c.self.view_is in
    let gone = ap (λ (r : Remembered). r.gone) c.self.view_is in
    let past = length-map c.self.inside.past.items (λ s. s.value) in
    let whole = c.self.inside.past.ok in
    let len = c.len-gone.ensures in
    let low = c.requires.kept in
    let order = c.requires.order in
    let from = c.args.from - c.len-gone.result in
    let count : c.args.to - c.len-gone.result - from ≡ c.args.to - c.args.from = omega arith in
    ap (λ n. take n (drop from c.deref.result.now)) count
    ∙ ap (λ (es : List Entry). take (c.args.to - c.args.from) (drop from es)) c.deref.ensures.value
    ∙ ap (take (c.args.to - c.args.from)) (sym (drop_over _ c.self.inside.kept.items c.args.from from (omega arith)) ∙ ap (drop c.args.from) items)

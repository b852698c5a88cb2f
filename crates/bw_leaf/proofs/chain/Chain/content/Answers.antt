use Rattle.std.proofs.Common.{◌≡◌, ◌∙◌, ap, sym}
use Rattle.std.specs.Prelude.{reverse}
use Rattle.std.proofs.lemmas.List.{take_all}
use Rattle.bw_leaf.specs.Links.{Chained, told, ground_of}
use Rattle.bw_leaf.proofs.chain.Chain.content.Goals as goal
use Rattle.bw_leaf.proofs.chain.Chain.content.Goals.{in-Whole+in_ok-leaf-in-Whole, in-OnLog+in_ok-leaf-in-OnLog}

pub returns : goal.returns
returns c =
    let ground : c.match-self.leaf ≡ ground_of c.args.self.now.end c.args.below.now =
    elim c.match-self.branch [
      | in-Whole+in_ok-leaf-in-Whole w ↦ w.leaf-is ∙ w.in_ok-leaf-in-Whole.ensures ∙ ap (λ e. ground_of e c.args.below.now) (sym w.in-Whole.is)
      | in-OnLog+in_ok-leaf-in-OnLog w ↦ w.leaf-is ∙ w.in_ok-leaf-in-OnLog.ensures ∙ ap (λ e. ground_of e c.args.below.now) (sym w.in-OnLog.is)
    ]
    ∙ ap (λ (x : Chained). ground_of x.end c.args.below.now) c.self.view_is in
    c.loop-link.invariant
    ∙ ap (λ links. told (reverse links) c.match-self.leaf)
    (take_all c.loop-link.link-index c.as_slice-link-items.result.now c.loop-link-test.false ∙ c.as_slice-link-items.ensures)
    ∙ ap (λ (x : Chained). told x.links c.match-self.leaf) c.self.view_is
    ∙ ap (told c.args.self.now.links) ground

use Rattle.std.proofs.Common.{◌≡◌, ◌-◌, ltb, true, [], ◌∷◌, Some, is_some, length, get_or, take, drop, ap, sym, ◌∙◌, arith}
use Rattle.std.specs.Prelude.{reverse}
use Rattle.std.specs.Option.{unwrap_or}
use Rattle.std.proofs.lemmas.List.{length-drop}
use Rattle.bw_leaf.specs.declared.chain.Link.TheVariants.{Flushed}
use Rattle.bw_leaf.specs.declared.chain.End.TheVariants.{Whole}
use Rattle.bw_leaf.specs.Links.{Chained, told, consolidated, content_of}
use Rattle.bw_leaf.proofs.Chains.{newest_left, newest_first, consolidates}
use Rattle.bw_leaf.proofs.chain.Chain.consolidate.Goals as goal

pub returns-in_ok-leaf-in-Some-Flushed-clause-room : goal.returns-in_ok-leaf-in-Some-Flushed-clause-room
returns-in_ok-leaf-in-Some-Flushed-clause-room c =
    let one_left = c.drop-drain.ensures.items (omega arith) ∙ c.drain.ensures.kept in
    let shorter = ap length one_left ∙ length-drop _ c.self.inside.links.items in
    let capacity = c.drop-drain.ensures.capacity ∙ c.drain.ensures.capacity in
    let room = ap (λ (x : Chained). x.room) c.self.view_is in
    omega arith

-- the newest link, which is flushed, is the last one in memory
some_link : (c : goal.Joined-self) → true ≡ ltb 0 (length c.self.inside.links.items)
some_link c = c.in-Some-Flushed.ensures.item.0 ∙ ap (λ links. ltb 0 (length links)) c.as_slice.ensures

is_newest : (c : goal.Joined-self)
    → c.in-Some-Flushed.field-0.now ≡ get_or c.self.inside.links.items (length c.self.inside.links.items - 1) c.in-Some-Flushed.field-0.now
is_newest c =
    c.in-Some-Flushed.ensures.item.1 ∙ ap (λ links. get_or links (length links - 1) c.in-Some-Flushed.field-0.now) c.as_slice.ensures

-- only it stays there
one_left : (c : goal.Joined-self) → c.drop-drain.new.self.0.items ≡ Flushed c.in-Some-Flushed.field-0-0 ∷ []
one_left c =
    let items = c.self.inside.links.items in
    c.drop-drain.ensures.items (omega arith) ∙ c.drain.ensures.kept ∙ ap (λ links. drop (length links - 1) items) c.as_slice-len.ensures
    ∙ newest_left items c.in-Some-Flushed.field-0.now (some_link c) (is_newest c) ∙ ap (λ link. link ∷ []) c.in-Some-Flushed.field-0-is

consolidation : (c : goal.Joined-self) → consolidated c.args.self.now c.args.below.now
    ≡ Some (record c.args.self.now { links = Flushed c.in-Some-Flushed.field-0-0 ∷ []; end = Whole (content_of c.args.self.now c.args.below.now) })
consolidation c =
    let items = c.self.inside.links.items in
    let rest = reverse (take (length items - 1) items) in
    let first = newest_first items c.in-Some-Flushed.field-0.now (some_link c) (is_newest c) in
    consolidates c.args.self.now c.in-Some-Flushed.field-0-0 rest c.args.below.now
    (ap (λ (x : Chained). x.links) (sym c.self.view_is) ∙ first ∙ ap (λ link. link ∷ rest) c.in-Some-Flushed.field-0-is)

pub returns-in_ok-leaf-in-Some-Flushed-clause-acts : goal.returns-in_ok-leaf-in-Some-Flushed-clause-acts
returns-in_ok-leaf-in-Some-Flushed-clause-acts c = sym (ap is_some (consolidation c))

pub returns-in_ok-leaf-in-Some-Flushed-clause-links : goal.returns-in_ok-leaf-in-Some-Flushed-clause-links
returns-in_ok-leaf-in-Some-Flushed-clause-links c =
    ap reverse (one_left c) ∙ sym (ap (λ x. (unwrap_or x c.args.self.now).links) (consolidation c))

pub returns-in_ok-leaf-in-Some-Flushed-clause-end : goal.returns-in_ok-leaf-in-Some-Flushed-clause-end
returns-in_ok-leaf-in-Some-Flushed-clause-end c =
    ap Whole c.in_ok-leaf-in-Some-Flushed.ensures ∙ sym (ap (λ x. (unwrap_or x c.args.self.now).end) (consolidation c))

pub returns-in_ok-leaf-in-Some-Flushed-clause-content : goal.returns-in_ok-leaf-in-Some-Flushed-clause-content
returns-in_ok-leaf-in-Some-Flushed-clause-content c acts other =
    ap (λ links. told (reverse links) c.in_ok-leaf-in-Some-Flushed.leaf) (one_left c) ∙ c.in_ok-leaf-in-Some-Flushed.ensures

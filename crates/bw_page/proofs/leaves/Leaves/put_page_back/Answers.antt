use Rattle.std.proofs.Common.{◌≡◌, ◌+◌, ◌-◌, ◌∙◌, List, Some, false, ap, subst, refl, length, length-set, take, get_or, cond, None, arith}
use Rattle.std.specs.Prelude.{slice_set}
use Rattle.std.specs.Ordering.{eq_by_cmp}
use Rattle.bw_record.specs.declared.leaf.Leaf.{Leaf}
use Rattle.bw_page.specs.declared.journal.Undo.TheVariants.{Page}
use Rattle.bw_page.specs.Index.{view_of}
use Rattle.bw_page.specs.Journal.{undone}
use Rattle.bw_leaf.specs.Changed.{Bytes, order}
use Rattle.bw_page.specs.Gap.{IsPassed}
use Rattle.bw_lows.specs.LowHeads.{page_of_low}
use Rattle.bw_page.specs.Seats.{is_among}
use Rattle.bw_page.specs.Shown.{Shown}
use Rattle.bw_page.proofs.Closed.{same_gets}
use Rattle.bw_page.proofs.PutBack.{put_here, put_page, put_within, put_seat, put_less, put_parts, put_back_filed}
use Rattle.bw_page.proofs.leaves.Leaves.put_page_back.Goals as goal
use Rattle.bw_page.proofs.leaves.Leaves.put_page_back.Goals.{After-set}

pub into_leaf-leaf-requires-clause-seat : goal.into_leaf-leaf-requires-clause-seat
into_leaf-leaf-requires-clause-seat c =
    put_seat c.self.inside c.self.invariant c.args.self.now c.self.view_is c.args.displaced c.requires c.take_above-upper.new.leaves
    (c.take_above-upper.ensures.leaves ∙ ap (λ p. take p c.self.inside.leaves.items) c.pages.ensures)
    c.take_above-upper.ensures.evicted

pub into_leaf-leaf-requires-clause-less : goal.into_leaf-leaf-requires-clause-less
into_leaf-leaf-requires-clause-less c =
    put_less c.self.inside c.self.invariant c.args.self.now c.self.view_is c.args.displaced c.requires c.take_above-upper.new.leaves
    (c.take_above-upper.ensures.leaves ∙ ap (λ p. take p c.self.inside.leaves.items) c.pages.ensures)

pub into_leaf-leaf-requires-clause-parts : goal.into_leaf-leaf-requires-clause-parts
into_leaf-leaf-requires-clause-parts c =
    let pages = c.pages.ensures in
    put_parts c.self.inside c.self.invariant c.args.self.now c.self.view_is c.args.displaced c.requires c.take_above-upper.new.leaves c.take_above-upper.result
    (c.take_above-upper.ensures.leaves ∙ ap (λ p. take p c.self.inside.leaves.items) pages)
    (λ d more. c.take_above-upper.ensures.upper d (omega arith) ∙ ap (λ p. Some (get_or c.self.inside.leaves.items p d)) pages)

pub set-requires : goal.set-requires
set-requires c =
    let within = put_within c.self.inside c.self.invariant c.args.self.now c.self.view_is c.args.displaced c.requires in
    let page = ap (λ (l : Leaf). l.page) c.into_leaf-leaf.ensures.leaf in
    let x = c.into_leaf-leaf.result in
    let i = c.args.displaced.leaf.page - 1 in
    let same : length (slice_set c.into_leaf-leaf.new.leaves.items i x) ≡ length (slice_set c.take_above-upper.new.leaves.items i x) =
    ap length (c.into_leaf-leaf.ensures.others x) in
    let one = length-set c.into_leaf-leaf.new.leaves.items i x in
    let other = length-set c.take_above-upper.new.leaves.items i x in
    let long : length c.take_above-upper.new.leaves.items ≡ length (take c.args.displaced.pages c.self.inside.leaves.items) =
    ap length (c.take_above-upper.ensures.leaves ∙ ap (λ p. take p c.self.inside.leaves.items) c.pages.ensures) in
    omega arith

-- the leaf stands in its place again
items : (c : After-set) → c.set.new.self.items
    ≡ slice_set (take c.args.displaced.pages c.self.inside.leaves.items) (c.args.displaced.leaf.page - 1) c.args.displaced.leaf
items c =
    let leaf = c.into_leaf-leaf.ensures.leaf in
    c.set.ensures.items
    ∙ (λ i. slice_set c.into_leaf-leaf.new.leaves.items ((leaf i).page - 1) (leaf i))
    ∙ c.into_leaf-leaf.ensures.others c.args.displaced.leaf
    ∙ ap (λ (ls : List Leaf). slice_set ls (c.args.displaced.leaf.page - 1) c.args.displaced.leaf)
    (c.take_above-upper.ensures.leaves ∙ ap (λ p. take p c.self.inside.leaves.items) c.pages.ensures)

evicted : (c : After-set) → c.set.new.self.evicted ≡ c.self.inside.leaves.evicted
evicted c =
    let some = put_page c.self.inside c.self.invariant c.args.self.now c.self.view_is c.args.displaced c.requires in
    let page = ap (λ (l : Leaf). l.page) c.into_leaf-leaf.ensures.leaf in
    let at : c.into_leaf-leaf.result.page - 1 + 1 ≡ c.args.displaced.leaf.page = omega arith in
    let here : is_among (c.into_leaf-leaf.result.page - 1 + 1) c.into_leaf-leaf.new.leaves.evicted ≡ false =
    (λ i. is_among (at i) ((c.into_leaf-leaf.ensures.evicted ∙ c.take_above-upper.ensures.evicted) i))
    ∙ put_here c.self.inside c.self.invariant c.args.self.now c.self.view_is c.args.displaced c.requires in
    c.set.ensures.kept here ∙ c.into_leaf-leaf.ensures.evicted ∙ c.take_above-upper.ensures.evicted

pub invariant_of-self : goal.invariant_of-self
invariant_of-self c =
    let pages = c.pages.ensures in
    put_back_filed c.self.inside c.self.invariant c.args.self.now c.self.view_is c.args.displaced c.requires _ refl (evicted c) (items c)
    (λ few. same_gets c.self.inside.index c.take_above-upper.new.index (c.take_above-upper.ensures.kept (omega arith)))
    (λ d more q. c.take_above-upper.ensures.dropped d (omega arith) q
    ∙ ap (λ p. cond (eq_by_cmp order q (get_or c.self.inside.leaves.items p d).low) None (page_of_low c.self.inside.index q)) pages)
    (subst (λ (k : Bytes). IsPassed c.self.inside.gap k c.pass.new.gap) c.key.ensures c.pass.ensures)

pub returns : goal.returns
returns c =
    let to : (let f : Shown = record { m = c.self.inside.m; leaves = c.set.new.self.items; evicted = c.set.new.self.evicted } in f)
    ≡ undone (view_of c.self.inside) (Page c.args.displaced) =
    λ i. record { m = c.self.inside.m; leaves = items c i; evicted = evicted c i } in
    to ∙ ap (λ f. undone f (Page c.args.displaced)) c.self.view_is

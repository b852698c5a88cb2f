use Rattle.std.proofs.Common.{◌≡◌, ℕ, ◌+◌, ◌-◌, ◌≤◌, ◌∙◌, List, false, refl, ap, sym, subst, get_or, length, IsTrue, Option, Some, arith}
use Rattle.std.specs.Prelude.{slice_set}
use Rattle.std.specs.Vec.{vec_capacity}
use Rattle.std.proofs.lemmas.List.{set-set}
use Rattle.bw_record.specs.Record.{key_of}
use Rattle.bw_record.specs.declared.leaf.Leaf.{Leaf}
use Rattle.bw_record.specs.declared.record.Record.{Record}
use Rattle.bw_record.specs.declared.record.Record.TheVariants.{Del}
use Rattle.bw_page.specs.declared.journal.Kept.{Kept}
use Rattle.bw_page.specs.declared.journal.Kept.TheVariants.{Lost, Parted}
use Rattle.bw_page.specs.declared.journal.Displaced.TheInside.{Inside}
use Rattle.bw_leaf.specs.Changed.{Bytes, changed}
use Rattle.bw_page.specs.Seats.{Seating}
use Rattle.bw_page.specs.Displaced.{Displaced, joined, with_pair_at, IsLess, AreParts}
use Rattle.bw_page.specs.Keeping.{is_parted, kept_key, displaced_view, IsLost, IsKept}
use Rattle.bw_page.proofs.Parting.{again}
use Rattle.bw_page.proofs.journal.Displaced.into_leaf.Goals as goal

module _ (inside : Inside) (d : Displaced) (v : displaced_view inside ≡ d) (kept : IsKept inside) where
  was_is : inside.was.value ≡ d.leaf
  was_is = ap (λ (x : Displaced). x.leaf) v

  seat_is : inside.page - 1 ≡ d.leaf.page - 1
  seat_is = ap (λ n. n - 1) (kept.page ∙ ap (λ (l : Leaf). l.page) was_is)

  others : (old new : List Leaf) (none x : Leaf) → new ≡ slice_set old (inside.page - 1) none
      → slice_set new (d.leaf.page - 1) x ≡ slice_set old (d.leaf.page - 1) x
  others old new none x e =
      ap (λ ls. slice_set ls (d.leaf.page - 1) x) (e ∙ ap (λ i. slice_set old i none) seat_is)
      ∙ set-set old (d.leaf.page - 1) none x

  -- the leaf that lost a pair
  lost_again : (seats : Seating) (at : ℕ) (pair : Bytes × Bytes) (rest : Leaf) → (d.is_split ≡ false → IsLess d seats)
      → inside.kept ≡ Lost at pair → rest ≡ get_or seats.items (inside.page - 1) rest
      → (at ≤ length rest.pairs) × (length rest.pairs + 1 ≤ vec_capacity inside.room) × (with_pair_at rest at pair ≡ d.leaf)
  lost_again seats at pair rest less is stands =
      let whole : d.is_split ≡ false = sym (ap (λ (x : Displaced). x.is_split) v) ∙ ap is_parted is in
      let key : d.key ≡ pair.0 = sym (ap (λ (x : Displaced). x.key) v) ∙ ap kept_key is in
      let was = was_is in
      let rest_is : rest ≡ changed (Del pair.0) inside.was.value =
      stands ∙ ap (λ i. get_or seats.items i rest) seat_is ∙ less whole rest ∙ (λ i. changed (Del (key i)) (sym was i)) in
      let lost : IsLost (Lost at pair) inside.was.value = subst (λ (k : Kept). IsLost k inside.was.value) is kept.lost in
      let all = again rest inside.was.value at pair rest_is lost in
      let room = kept.room in
      let more = all.1 in
      let n = ap (λ (l : Leaf). length l.pairs) was in
      (all.0, omega arith, all.2 ∙ was)

  -- the leaf that was split
  parts_again : (seats : Seating) (by : Record) (rest upper : Leaf) (above : Option Leaf) → (IsTrue d.is_split → AreParts d seats above)
      → inside.kept ≡ Parted by → above ≡ Some upper → rest ≡ get_or seats.items (inside.page - 1) rest
      → (length rest.pairs + length upper.pairs ≤ vec_capacity inside.room) × (changed (Del (key_of by)) (joined rest upper) ≡ d.leaf)
  parts_again seats by rest upper above parts is some stands =
      let split : IsTrue d.is_split = subst IsTrue (sym (ap is_parted is) ∙ ap (λ (x : Displaced). x.is_split) v) refl in
      let key : key_of by ≡ d.key = sym (ap kept_key is) ∙ ap (λ (x : Displaced). x.key) v in
      let p = parts split in
      let both : Some upper ≡ Some p.other = sym some ∙ p.is in
      let same : upper ≡ p.other = cc in
      let lower : rest ≡ get_or seats.items (d.leaf.page - 1) rest = stands ∙ ap (λ i. get_or seats.items i rest) seat_is in
      let few = p.few rest in
      let room = kept.room in
      let a = ap (λ (l : Leaf). length l.pairs) lower in
      let b = ap (λ (l : Leaf). length l.pairs) same in
      let n = ap (λ (l : Leaf). length l.pairs) was_is in
      (omega arith, (λ i. changed (Del (key i)) (joined (lower i) (same i))) ∙ p.whole rest)

pub put_at-requires-clause-within : goal.put_at-requires-clause-within
put_at-requires-clause-within c =
    (lost_again c.self.inside c.args.self c.self.view_is c.self.invariant c.args.leaves.now c.in-Lost.at c.in-Lost.pair c.exchange-rest.result
    c.requires.less c.in-Lost.is (c.exchange-rest.ensures.was c.exchange-rest.result)).0

pub put_at-requires-clause-room : goal.put_at-requires-clause-room
put_at-requires-clause-room c =
    (lost_again c.self.inside c.args.self c.self.view_is c.self.invariant c.args.leaves.now c.in-Lost.at c.in-Lost.pair c.exchange-rest.result
    c.requires.less c.in-Lost.is (c.exchange-rest.ensures.was c.exchange-rest.result)).1

pub returns-in-Lost-clause-leaf : goal.returns-in-Lost-clause-leaf
returns-in-Lost-clause-leaf c =
    c.put_at.ensures
    ∙ (lost_again c.self.inside c.args.self c.self.view_is c.self.invariant c.args.leaves.now c.in-Lost.at c.in-Lost.pair c.exchange-rest.result
    c.requires.less c.in-Lost.is (c.exchange-rest.ensures.was c.exchange-rest.result)).2

pub returns-in-Lost-clause-others : goal.returns-in-Lost-clause-others
returns-in-Lost-clause-others c x =
    others c.self.inside c.args.self c.self.view_is c.self.invariant c.args.leaves.now.items c.exchange-rest.new.self.items c.empty_page-none.result x
    c.exchange-rest.ensures.items

pub join-requires-clause-room : goal.join-requires-clause-room
join-requires-clause-room c =
    (parts_again c.self.inside c.args.self c.self.view_is c.self.invariant c.args.leaves.now c.in-Parted.by c.exchange-rest.result c.in-Some.upper
    c.args.upper c.requires.parts c.in-Parted.is c.in-Some.is (c.exchange-rest.ensures.was c.exchange-rest.result)).0

pub returns-clause-leaf : goal.returns-clause-leaf
returns-clause-leaf c =
    c.without.ensures ∙ ap (changed (Del (key_of c.in-Parted.by))) c.join.ensures
    ∙ (parts_again c.self.inside c.args.self c.self.view_is c.self.invariant c.args.leaves.now c.in-Parted.by c.exchange-rest.result c.in-Some.upper
    c.args.upper c.requires.parts c.in-Parted.is c.in-Some.is (c.exchange-rest.ensures.was c.exchange-rest.result)).1

pub returns-clause-others : goal.returns-clause-others
returns-clause-others c x =
    others c.self.inside c.args.self c.self.view_is c.self.invariant c.args.leaves.now.items c.exchange-rest.new.self.items c.empty_page-none.result x
    c.exchange-rest.ensures.items

use Rattle.std.proofs.Common.{◌≡◌, ◌≤◌, ◌+◌, ℕ, ◌<◌, ◌∙◌, sym, ap, subst, get_or, length, Ok}
use Rattle.std.specs.Vec.{vec_capacity}
use Rattle.bw_record.specs.declared.leaf.Leaf.{Leaf}
use Rattle.bw_page.specs.declared.journal.Kept.TheVariants.{Lost}
use Rattle.bw_leaf.specs.Changed.{Bytes, Pairs}
use Rattle.bw_leaf.specs.Seek.{seek_of}
use Rattle.bw_page.specs.Keeping.{IsLost}
use Rattle.bw_page.proofs.Parting.{put_again}
use Rattle.bw_page.proofs.journal.Displaced.lost.Goals as goal

-- a pair that is found by its key is one that can be put back
found_lost : (leaf : Leaf) (at : ℕ) (pair d : Bytes × Bytes) → at < length leaf.pairs → pair ≡ get_or leaf.pairs at d
    → Ok at ≡ seek_of (get_or leaf.pairs at d).0 leaf.pairs → IsLost (Lost at pair) leaf
found_lost leaf at pair d within is sought =
    subst (λ p. IsLost (Lost at p) leaf) (sym is) (put_again (get_or leaf.pairs at d).0 leaf.pairs at d sought within)

pub invariant_of-result : goal.invariant_of-result
invariant_of-result c =
    let d = c.index-as_slice-at.result in
    let leaf = c.args.leaf.now in
    let is : c.in_ok-pair.pair ≡ get_or leaf.pairs c.args.at d =
    c.in_ok-pair.ensures ∙ c.index-as_slice-at.is ∙ ap (λ (ps : Pairs). get_or ps c.args.at d) c.as_slice.ensures in
    let was : c.of.result.value ≡ leaf = c.of.ensures in
    record {
      page = ap (λ (l : Leaf). l.page) (sym was);
      empty = c.in_ok-room_for.ensures.empty;
      room = subst (λ (l : Leaf). length l.pairs + 1 ≤ vec_capacity c.in_ok-room_for.field-0) (sym was) c.in_ok-room_for.ensures.room;
      lost = subst (IsLost (Lost c.args.at c.in_ok-pair.pair)) (sym was)
          (found_lost leaf c.args.at c.in_ok-pair.pair d c.requires.within is (c.requires.sought d));
    }

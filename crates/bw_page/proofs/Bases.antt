-- Lawful leaves are lawful Bases, whatever the most pairs of a page is.

use Rattle.std.proofs.Common.{ℕ, ◌≡◌, ◌<◌, ◌≤◌, ◌∙◌, Some, List, length, get_or, ap, sym, arith}
use Rattle.std.specs.List.{AllByRecursion as All, slice_get}
use Rattle.bw_codec.specs.Grammar.{IsBase}
use Rattle.bw_record.specs.declared.leaf.Leaf.{Leaf}
use Rattle.bw_codec.proofs.Wider.{base_wider}
use Rattle.bw_page.specs.declared.seats.Seats.TheInside.{Inside}
use Rattle.bw_page.specs.Leaves.{AreLeaves}
use Rattle.bw_page.specs.Seating.{seats_view}
use Rattle.bw_page.specs.Seats.{Seated, Seating}
use Rattle.bw_page.proofs.Hinted.{all-get}
use Rattle.bw_page.proofs.Seating.{count_is, look_at}
use Rattle.bw_leaf.proofs.Sorted.{all-map}

pub all_bases : (m : ℕ) (leaves : List Leaf) → m ≤ 32 → AreLeaves m leaves → All (IsBase 32) leaves
all_bases m leaves few lawful = all-map (IsBase m) (IsBase 32) (λ leaf is. base_wider m 32 leaf few is) leaves lawful.each

-- the leaf of a seat, and that it is a lawful Base where all are
pub seat_leaf : (a : Inside) (v : Seating) → seats_view a ≡ v → (at : ℕ) (s : Seated) → at < length v.items → s ≡ get_or a.seats.items at s
    → slice_get v.items at ≡ Some s.leaf
seat_leaf a v e at s within is =
    let long = count_is a v e in
    ap (λ (x : Seating). slice_get x.items at) (sym e) ∙ look_at a.seats.items at s (omega arith)
    ∙ ap (λ (x : Seated). Some x.leaf) (sym is)

pub seat_base : (a : Inside) (v : Seating) → seats_view a ≡ v → (at : ℕ) (s : Seated) → at < length v.items → s ≡ get_or a.seats.items at s
    → All (IsBase 32) v.items → IsBase 32 s.leaf
seat_base a v e at s within is lawful = all-get (IsBase 32) v.items at s.leaf lawful (seat_leaf a v e at s within is)

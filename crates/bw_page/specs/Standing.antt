-- What blocks say of all pages, read forwards, page by page.

use Rattle.std.specs.Prelude.{ℕ, ◌+◌, ◌≡◌, ◌≤◌, false, List, length}
use Rattle.std.specs.List.{AllByRecursion}
use Rattle.bw_record.specs.Touch.{touches}
use Rattle.bw_record.specs.declared.leaf.Leaf.{Leaf}
use Rattle.bw_record.specs.declared.block.Frame.{Frame}
use Rattle.bw_leaf.specs.Forwards.{content, blocks_of}
use Rattle.bw_page.specs.Leaves.{leaf_at, AreLeaves}

-- frames, read forwards, are these leaves
pub record Stand (m : ℕ) (frames : List Frame) (leaves : List Leaf) : Type 0 where
  pub some : 1 ≤ length frames
  pub lawful : AreLeaves m leaves
  pub each : (p : ℕ) → 1 ≤ p → p ≤ length leaves → content p (blocks_of frames) ≡ leaf_at p leaves
  pub all : (p : ℕ) → length leaves + 1 ≤ p → AllByRecursion (λ b. touches p b ≡ false) (blocks_of frames)

-- What holds of the forward reading.

use Rattle.std.specs.Prelude.{ℕ, ◌≡◌, if◌then◌else◌, List, [], ◌∷◌, ◌++◌}
use Rattle.std.specs.List.{fold}
use Rattle.bw_record.specs.Touch.{sets, touches}
use Rattle.bw_record.specs.declared.block.Block.{Block}
use Rattle.bw_leaf.specs.Forwards.{content}

-- the blocks that touch a page, from its last setting one on
abbrev pub trail : ℕ → List Block → List Block
trail p blocks = fold (λ was b. if sets p b then b ∷ [] else if touches p b then was ++ b ∷ [] else was) [] blocks

-- a page's content depends only on them
abbrev pub Locality : Type 0
Locality = (p : ℕ) (a b : List Block) → trail p a ≡ trail p b → content p a ≡ content p b

-- A page fits an empty frame, and stands after all others.

use Rattle.std.proofs.Common.{◌≡◌, ℕ, ◌≤◌, true, List, [], ◌∷◌, ◌++◌, refl, arith}
use Rattle.bw_record.specs.declared.block.Block.{Block}
use Rattle.bw_record.specs.declared.block.Block.TheVariants.{Delta, Base, Split}
use Rattle.bw_codec.specs.Sizes.{LargestBlocks}
use Rattle.bw_buffer.specs.Filling.{Filling, with_all, size_of}
use Rattle.bw_buffer.specs.Joining.{added}
use Rattle.bw_whole.specs.Framing.{is_base, filled, empty_frame, IsPageBlock}

pub added_base : (blocks : List Block) (page : Block) → is_base page ≡ true → added blocks (page ∷ []) ≡ blocks ++ page ∷ []
added_base blocks (Delta page back ops) h = absurd (cc)
added_base blocks (Base leaf) h = refl
added_base blocks (Split page back upper) h = absurd (cc)

pub with_base : (b : Filling) (page : Block) → is_base page ≡ true → with_all b (page ∷ []) ≡ filled b page
with_base b (Delta page back ops) h = absurd (cc)
with_base b (Base leaf) h = refl
with_base b (Split page back upper) h = absurd (cc)

pub fits_empty : LargestBlocks → (n f : ℕ) (page : Block) → IsPageBlock 32 page → 65536 ≤ f → size_of (filled (empty_frame n f) page) ≤ f
fits_empty l n f (Delta page back ops) h k = absurd (cc (h.base))
fits_empty l n f (Base leaf) h k = let short = l.base leaf h.lawful in omega arith
fits_empty l n f (Split page back upper) h k = absurd (cc (h.base))

-- Where the blocks of one record go in the frame in the making.

use Rattle.std.proofs.Common.{◌≡◌, ℕ, ◌+◌, ◌-◌, ◌<◌, ◌≤◌, List, [], ◌∷◌, ◌++◌, length, set, ap, ◌∙◌, arith, length-append}
use Rattle.std.specs.Prelude.{IfSome, unwrap_or}
use Rattle.std.specs.List.{slice_get}
use Rattle.std.proofs.lemmas.Bool.{lt-leb}
use Rattle.bw_record.specs.declared.block.Place.{Place}
use Rattle.bw_record.specs.declared.block.Block.{Block}
use Rattle.bw_record.specs.declared.block.Block.TheVariants.{Delta, Base, Split}
use Rattle.bw_buffer.specs.Filling.{Filling, frame_of, with_all, place_at}
use Rattle.bw_buffer.specs.Joining.{joins, joins_of, joined, index_for, added}
use Rattle.bw_making.specs.Adding.{count_after, here_for, last_for, noted}
use Rattle.bw_making.specs.Filing.{AreOne, IsDeltaOf, IsSplit}
use Rattle.bw_making.proofs.Placing.{delta_end}

abbrev pub same_at : ℕ → ℕ → Place
same_at frame index = record { frame = frame; index = index }

module _ (making now : Filling) (page : ℕ) (blocks : List Block) (one : AreOne page blocks) where
  delta_first : (b : Block) → IsDeltaOf page b → place_at making (index_for making.blocks b) ≡ here_for (frame_of making) page
  delta_first (Delta p back ops) is =
      ap (λ (n : ℕ). place_at making (unwrap_or (joins_of n p making.blocks) (length making.blocks))) is.1
      ∙ ap (λ (q : ℕ). here_for (frame_of making) q) is.0
  delta_first (Base leaf) is = absurd is
  delta_first (Split p back upper) is = absurd is

  of_first : (place : Place) (bs : List Block) → AreOne page bs → IfSome (slice_get bs 0) (λ b. place ≡ place_at making (index_for making.blocks b))
      → place ≡ here_for (frame_of making) page
  of_first place [] h is = absurd h
  of_first place (b ∷ []) h is = is ∙ delta_first b h
  of_first place (b ∷ c ∷ []) h is = is ∙ delta_first b h.0
  of_first place (b ∷ c ∷ d ∷ bs) h is = absurd h

  -- the place that is answered is that of the Delta
  pub first_here : (place : Place) → IfSome (slice_get blocks 0) (λ b. place ≡ place_at making (index_for making.blocks b))
      → place ≡ here_for (frame_of making) page
  first_here place is = of_first place blocks one is

  two : (b c : Block) → IsDeltaOf page b → IsSplit c
      → length (added making.blocks (b ∷ c ∷ [])) ≡ count_after (joins page making.blocks) (length making.blocks) + 1
  two (Delta p back ops) (Delta q k more) is split = absurd split
  two (Delta p back ops) (Base leaf) is split = absurd split
  two (Delta p back []) (Split q k upper) is split = absurd (let none = is.1 in omega arith)
  two (Delta p back (r ∷ [])) (Split q k upper) is split =
      length-append (joined making.blocks (Delta p back (r ∷ []))) (Split q k upper ∷ [])
      ∙ ap (λ (x : Place). x.index + 1) (delta_end [] (frame_of making) p back r)
      ∙ ap (λ (n : ℕ). count_after (joins n making.blocks) (length making.blocks) + 1) is.0
  two (Delta p back (r ∷ s ∷ rs)) (Split q k upper) is split = absurd (let more = is.1 in omega arith)
  two (Base leaf) c is split = absurd is
  two (Split p back upper) c is split = absurd is

  of_two : (bs : List Block) → AreOne page bs → 1 < length bs
      → length (added making.blocks bs) ≡ count_after (joins page making.blocks) (length making.blocks) + 1
  of_two [] h more = absurd h
  of_two (b ∷ []) h more = absurd (omega arith)
  of_two (b ∷ c ∷ []) h more = two b c h.0 h.1
  of_two (b ∷ c ∷ d ∷ bs) h more = absurd h

  -- if there are two, the second is the last
  pub two_more : 1 < length blocks → now ≡ with_all making blocks
      → length now.blocks ≡ count_after (joins page making.blocks) (length making.blocks) + 1
  two_more more is = ap (λ (b : Filling). length b.blocks) is ∙ of_two blocks one more

  pub last_here : 1 < length blocks → now ≡ with_all making blocks → (frame count : ℕ) → frame ≡ making.frame → count ≡ length now.blocks
      → same_at frame (count - 1) ≡ last_for (frame_of making) page
  last_here more is frame count at counted =
      let long = two_more more is in
      ap (λ (n : ℕ). same_at n (count - 1)) at ∙ ap (same_at making.frame) (omega arith)

  pub one_or_two : (1 ≤ length blocks) × (length blocks ≤ 2)
  one_or_two = of_some blocks one
    where
      of_some : (bs : List Block) → AreOne page bs → (1 ≤ length bs) × (length bs ≤ 2)
      of_some [] h = absurd h
      of_some (b ∷ []) h = (omega arith, omega arith)
      of_some (b ∷ c ∷ []) h = (omega arith, omega arith)
      of_some (b ∷ c ∷ d ∷ bs) h = absurd h

-- what is noted of two
pub filed_two : (newest now : List Place) (page n : ℕ) (here last is : Place) → 1 < n → now ≡ set newest (page - 1) is ++ is ∷ [] → is ≡ last
    → now ≡ noted newest page here last n
filed_two newest now page n here last is more e same = rw (lt-leb n 1 more) (e ∙ ap (λ (x : Place). set newest (page - 1) x ++ x ∷ []) same)

-- Several blocks in one call.

use Rattle.std.proofs.Common.{◌≡◌, ℕ, ◌+◌, ◌-◌, ◌<◌, ◌≤◌, List, [], ◌∷◌, ◌++◌, length, take, drop, get_or, sym, ap, ◌∙◌, arith}
use Rattle.std.proofs.lemmas.List.{take_more, take-append-drop}
use Rattle.bw_codec.specs.Grammar.{body_bytes}
use Rattle.bw_record.specs.declared.block.Block.{Block}
use Rattle.bw_buffer.specs.Filling.{Filling, size_of, with_all}
use Rattle.bw_buffer.specs.Joining.{added}
use Rattle.bw_buffer.proofs.Sizes.{added_longer, added_more, added_next}

-- those taken, and the next one
pub taken_next : (blocks : List Block) (i : ℕ) (b : Block) → i < length blocks → b ≡ get_or blocks i b → take (i + 1) blocks ≡ take i blocks ++ b ∷ []
taken_next blocks i b lt is = take_more blocks i b lt ∙ ap (λ (x : Block). take i blocks ++ x ∷ []) (sym is)

-- some of the blocks make no longer frame than all
pub some_shorter : (f : Filling) (blocks : List Block) (k : ℕ) → size_of (with_all f (take k blocks)) ≤ size_of (with_all f blocks)
some_shorter f blocks k =
    let all : added f.blocks blocks ≡ added (added f.blocks (take k blocks)) (drop k blocks) =
    ap (added f.blocks) (sym (take-append-drop k blocks)) ∙ added_more f.blocks (take k blocks) (drop k blocks) in
    let more = added_longer (added f.blocks (take k blocks)) (drop k blocks) in
    let same = ap (λ (bs : List Block). length (body_bytes bs)) all in
    omega arith

pub room_step : (f : Filling) (blocks : List Block) (i left more : ℕ) (b : Block) → i < length blocks → b ≡ get_or blocks i b
    → left + size_of (with_all f (take i blocks)) ≡ f.limit
    → more + size_of (with_all f (take i blocks)) ≡ size_of (with_all f (take i blocks ++ b ∷ [])) → more ≤ left
    → (left - more) + size_of (with_all f (take (i + 1) blocks)) ≡ f.limit
room_step f blocks i left more b lt is was adds fits =
    let next = ap (λ (bs : List Block). size_of (with_all f bs)) (taken_next blocks i b lt is) in omega arith

pub room_over : (f : Filling) (blocks : List Block) (i left more : ℕ) (b : Block) → i < length blocks → b ≡ get_or blocks i b
    → left + size_of (with_all f (take i blocks)) ≡ f.limit
    → more + size_of (with_all f (take i blocks)) ≡ size_of (with_all f (take i blocks ++ b ∷ [])) → left < more
    → f.limit < size_of (with_all f blocks)
room_over f blocks i left more b lt is was adds over =
    let next = ap (λ (bs : List Block). size_of (with_all f bs)) (taken_next blocks i b lt is) in
    let all = some_shorter f blocks (i + 1) in
    omega arith

pub put_step : (f now : Filling) (blocks : List Block) (i : ℕ) (b : Block) → i < length blocks → b ≡ get_or blocks i b → now ≡ with_all f (take i blocks)
    → with_all now (b ∷ []) ≡ with_all f (take (i + 1) blocks)
put_step f now blocks i b lt is same =
    ap (λ (x : Filling). with_all x (b ∷ [])) same
    ∙ ap (λ (bs : List Block). let g : Filling = record f { blocks = bs } in g) (sym (added_next f.blocks blocks i b lt is))

pub put_fits : (f now : Filling) (blocks : List Block) (i : ℕ) (b : Block) → i < length blocks → b ≡ get_or blocks i b → now ≡ with_all f (take i blocks)
    → size_of (with_all f blocks) ≤ f.limit → size_of (with_all now (b ∷ [])) ≤ now.limit
put_fits f now blocks i b lt is same fits =
    let size = ap size_of (put_step f now blocks i b lt is same) in
    let limit : now.limit ≡ f.limit = ap (λ (x : Filling). x.limit) same in
    let some = some_shorter f blocks (i + 1) in
    omega arith

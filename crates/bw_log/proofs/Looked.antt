-- A frame looked through: where its blocks begin.

use Rattle.std.proofs.Common.{◌≡◌, ◌≢◌, ◌==◌, ℕ, ◌+◌, ◌-◌, ◌≤◌, true, false, Some, None, List, [], ◌∷◌, ◌++◌, length, drop, sym, ap, ◌∙◌}
use Rattle.std.proofs.Common.{append_assoc, append-nil, arith, length-append}
use Rattle.std.specs.List.{AllByRecursion}
use Rattle.std.proofs.lemmas.Bool.{eqb-true, eqb-false}
use Rattle.std.proofs.lemmas.List.{drop_at}
use Rattle.bw_codec.specs.Grammar.{block_bytes_in, body_bytes_in, head_bytes_in, frame_bytes_in, IsBlockIn, IsFrameIn}
use Rattle.bw_codec.specs.Outline.{outline_of}
use Rattle.bw_codec.specs.Reading.{Says}
use Rattle.bw_record.specs.declared.block.Block.{Block}
use Rattle.bw_record.specs.declared.block.Block.TheVariants.{Delta, Base, Split}
use Rattle.bw_record.specs.declared.block.Frame.{Frame}
use Rattle.bw_codec.specs.declared.fault.CodecFault.{CodecFault}
use Rattle.bw_codec.specs.declared.fault.CodecFault.TheVariants.{NoMemory, BadBytes}
use Rattle.bw_codec.specs.declared.outline.Outline.{Outline}
use Rattle.bw_log.specs.Starts.{starts_from, starts_of}
use Rattle.bw_codec.proofs.FrontFormat.{length-head}
use Rattle.bw_codec.proofs.Stepping.{length-outlined}

pub some_left : (rest : List ℕ) → false ≡ (length rest == 0) → 1 ≤ length rest
some_left rest is = let none : length rest ≢ 0 = eqb-false (length rest) 0 (sym is) in omega arith

pub none_left : (rest : List ℕ) → true ≡ (length rest == 0) → length rest ≡ 0
none_left rest is = eqb-true (length rest) 0 (sym is)

some_bytes : (v : ℕ) (b : Block) → 1 ≤ length (block_bytes_in v b)
some_bytes v (Delta page back ops) = omega arith
some_bytes v (Base leaf) = omega arith
some_bytes v (Split page back upper) = omega arith

-- of the blocks of a frame these were passed over: the rest are left, and it was noted where the others begin
pub record Passed (v m : ℕ) (frame : Frame) (bytes rest starts : List ℕ) : Type 0 where
  pub left : List Block
  pub laws : AllByRecursion (IsBlockIn v m) left
  pub parts : rest ≡ body_bytes_in v left
  pub split : starts ++ starts_from v (length bytes - length rest) left ≡ starts_of v frame

pub body_behind : (v : ℕ) (frame : Frame) (bytes : List ℕ) → bytes ≡ frame_bytes_in v frame → drop 20 bytes ≡ body_bytes_in v frame.blocks
body_behind v frame bytes is =
    let body = body_bytes_in v frame.blocks in
    ap (λ (r : List ℕ). drop 20 r) is
    ∙ drop_at (head_bytes_in v frame.number (length body) (length frame.blocks)) body 20 (length-head v frame.number (length body) (length frame.blocks))

pub frame_length : (v : ℕ) (frame : Frame) (bytes : List ℕ) → bytes ≡ frame_bytes_in v frame → length bytes ≡ 20 + length (body_bytes_in v frame.blocks)
frame_length v frame bytes is =
    let body = body_bytes_in v frame.blocks in
    omega (
      arith,
      ap (λ (r : List ℕ). length r) is,
      length-head v frame.number (length body) (length frame.blocks),
      length-append (head_bytes_in v frame.number (length body) (length frame.blocks)) body,
    )

pub now_is : (was now others : List ℕ) → Some was ≡ Some now → was ≡ others → now ≡ others
now_is was now others same is = let e : was ≡ now = cc in sym e ∙ is

pub begins : (v m f : ℕ) (frame : Frame) (bytes rest : List ℕ) → IsFrameIn v m f frame → bytes ≡ frame_bytes_in v frame → Some (drop 20 bytes) ≡ Some rest
    → Passed v m frame bytes rest []
begins v m f frame bytes rest law is there =
    let parts = now_is (drop 20 bytes) rest (body_bytes_in v frame.blocks) there (body_behind v frame bytes is) in
    record {
      left = frame.blocks;
      laws = law.blocks;
      parts = parts;
      split = ap (λ (n : ℕ). starts_from v n frame.blocks) (omega (arith, frame_length v frame bytes is, ap (λ (r : List ℕ). length r) parts));
    }

-- the block that is next
pub record Next (v m : ℕ) (frame : Frame) (bytes rest starts : List ℕ) : Type 0 where
  pub block : Block
  pub others : List Block
  pub law : IsBlockIn v m block
  pub laws : AllByRecursion (IsBlockIn v m) others
  pub parts : rest ≡ block_bytes_in v block ++ body_bytes_in v others
  pub split : starts ++ starts_from v (length bytes - length rest) (block ∷ others) ≡ starts_of v frame

next_by : (v m : ℕ) (frame : Frame) (bytes rest starts : List ℕ) (left : List Block) → 1 ≤ length rest → AllByRecursion (IsBlockIn v m) left
    → rest ≡ body_bytes_in v left → starts ++ starts_from v (length bytes - length rest) left ≡ starts_of v frame → Next v m frame bytes rest starts
next_by v m frame bytes rest starts [] some laws parts split = absurd (omega (arith, ap (λ (r : List ℕ). length r) parts))
next_by v m frame bytes rest starts (b ∷ bs) some laws parts split =
    record { block = b; others = bs; law = laws.0; laws = laws.1; parts = parts; split = split }

pub next_block : {v m : ℕ} {frame : Frame} {bytes rest starts : List ℕ} → Passed v m frame bytes rest starts → 1 ≤ length rest
    → Next v m frame bytes rest starts
next_block {v} {m} {frame} {bytes} {rest} {starts} p some = next_by v m frame bytes rest starts p.left some p.laws p.parts p.split

-- nothing is left
end_by : (v : ℕ) (frame : Frame) (bytes rest starts : List ℕ) (left : List Block) → length rest ≡ 0 → rest ≡ body_bytes_in v left
    → starts ++ starts_from v (length bytes - length rest) left ≡ starts_of v frame → starts_of v frame ≡ starts
end_by v frame bytes rest starts [] none parts split = sym split ∙ append-nil starts
end_by v frame bytes rest starts (b ∷ bs) none parts split =
    absurd (omega (arith, some_bytes v b, ap (λ (r : List ℕ). length r) parts, length-append (block_bytes_in v b) (body_bytes_in v bs)))

pub all_passed : {v m : ℕ} {frame : Frame} {bytes rest starts : List ℕ} → Passed v m frame bytes rest starts → length rest ≡ 0 → starts_of v frame ≡ starts
all_passed {v} {m} {frame} {bytes} {rest} {starts} p none = end_by v frame bytes rest starts p.left none p.parts p.split

-- what its outline says
pub outlined_as : {v m : ℕ} {frame : Frame} {bytes rest starts : List ℕ} (n : Next v m frame bytes rest starts) (o : Outline)
    → Some o ≡ Some (outline_of v n.block) → o ≡ outline_of v n.block
outlined_as n o is = cc

-- the length in the outline is within the bytes, and what stands after it is what the others spell
pub record Behind (v : ℕ) (block : Block) (others : List Block) (rest : List ℕ) (len : ℕ) : Type 0 where
  pub some : 1 ≤ len
  pub within : len ≤ length rest
  pub size : len ≡ length (block_bytes_in v block)
  pub is : drop len rest ≡ body_bytes_in v others

pub behind_it : {v m : ℕ} {frame : Frame} {bytes rest starts : List ℕ} (n : Next v m frame bytes rest starts) (o : Outline)
    → o ≡ outline_of v n.block → Behind v n.block n.others rest o.len
behind_it {v} {m} {frame} {bytes} {rest} {starts} n o is =
    let len : o.len ≡ length (block_bytes_in v n.block) = ap (λ (x : Outline). x.len) is ∙ length-outlined v n.block in
    record {
      some = omega (arith, some_bytes v n.block);
      within = omega (arith, ap (λ (r : List ℕ). length r) n.parts, length-append (block_bytes_in v n.block) (body_bytes_in v n.others));
      size = len;
      is = ap (λ (r : List ℕ). drop o.len r) n.parts ∙ drop_at (block_bytes_in v n.block) (body_bytes_in v n.others) o.len (sym len);
    }

-- past a block
pub stepped : {v m : ℕ} {frame : Frame} {bytes rest starts : List ℕ} (n : Next v m frame bytes rest starts) (now more : List ℕ) (len at : ℕ)
    → Behind v n.block n.others rest len → Some (drop len rest) ≡ Some now → length rest ≤ length bytes → at ≡ length bytes - length rest
    → more ≡ starts ++ at ∷ [] → Passed v m frame bytes now more
stepped {v} {m} {frame} {bytes} {rest} {starts} n now more len at b there within is push =
    let parts = now_is (drop len rest) now (body_bytes_in v n.others) there b.is in
    let size = b.size in
    let from : length bytes - length now ≡ (length bytes - length rest) + length (block_bytes_in v n.block) =
    omega (
      arith,
      ap (λ (r : List ℕ). length r) parts,
      ap (λ (r : List ℕ). length r) n.parts,
      length-append (block_bytes_in v n.block) (body_bytes_in v n.others),
    ) in
    record {
      left = n.others;
      laws = n.laws;
      parts = parts;
      split = ap (λ (l : List ℕ). l ++ starts_from v (length bytes - length now) n.others) (push ∙ ap (λ (k : ℕ). starts ++ k ∷ []) is)
          ∙ append_assoc starts ((length bytes - length rest) ∷ []) (starts_from v (length bytes - length now) n.others)
          ∙ ap (λ (k : ℕ). starts ++ (length bytes - length rest) ∷ starts_from v k n.others) from
          ∙ n.split;
    }

pub no_outline : (o : Outline) → None ≡ Some o → ⊥
no_outline o e = cc

-- a fault that says nothing but that memory ran out
pub only_memory : {A B : Type 0} (fault : CodecFault) (x : A) (y : B) → Says fault (Some x) → Says fault (Some y)
only_memory NoMemory x y says = tt
only_memory BadBytes x y says = cc

pub some_as : {A : Type 0} (x y : A) → x ≡ y → Some x ≡ Some y
some_as x y e = cc

-- such bytes are not bad
pub not_bad : {Y : Type 0} (fault : CodecFault) (y : Y) → fault ≡ BadBytes → Says fault (Some y) → ⊥
not_bad NoMemory y is says = absurd cc
not_bad BadBytes y is says = absurd cc

-- what was answered is what stands there
pub gave : {A : Type 0} (x y : A) → Some x ≡ Some y → y ≡ x
gave x y e = let same : x ≡ y = cc in sym same

pub head_there : (v : ℕ) (frame : Frame) (bytes : List ℕ) → bytes ≡ frame_bytes_in v frame → 20 ≤ length bytes
head_there v frame bytes is = omega (arith, frame_length v frame bytes is)

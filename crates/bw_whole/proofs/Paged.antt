-- Pages are put, and pairs into pages.

use Rattle.std.proofs.Common.{◌≡◌, ℕ, ◌+◌, ◌^◌, ◌<◌, ◌≤◌, nat_le, true, false, if◌then◌else◌, List, [], ◌∷◌, ◌++◌, length, refl, sym, ap, ◌∙◌, arith}
use Rattle.std.proofs.lemmas.List.{append_assoc, map-append, length-append}
use Rattle.std.proofs.lemmas.Bool.Decides.{nat_tests}
use Rattle.bw_record.specs.declared.leaf.Leaf.{Leaf}
use Rattle.bw_record.specs.declared.block.Block.{Block}
use Rattle.bw_record.specs.declared.block.Block.TheVariants.{Base}
use Rattle.bw_codec.specs.Grammar.{body_bytes, IsBase, IsBlock}
use Rattle.bw_codec.specs.Sizes.{AreShort}
use Rattle.bw_codec.proofs.Sizing.{largest_blocks}
use Rattle.bw_buffer.specs.Filling.{size_of}
use Rattle.bw_whole.specs.Framing.{Framed, filled, with_frame, with_page}
use Rattle.bw_whole.specs.Paging.{AreLimits}
use Rattle.bw_leaf.specs.Forwards.{blocks_of}
use Rattle.bw_whole.proofs.Putting.{Puts, Bounds, framed, all-push}

-- ---- pages

base_short : (m : ℕ) (leaf : Leaf) → m ≤ 32 → IsBase m leaf → AreShort 20712 (Base leaf ∷ [])
base_short m leaf few h =
    let count = h.count in
    largest_blocks.base leaf (record { page = h.page; low = h.low; count = omega arith; pairs = h.pairs; ascends = h.ascends })

-- the frame that there is, or the next one, with a page
abbrev page_on : Framed → Framed → Leaf → Framed
page_on w v leaf = record { m = w.m; room = w.room; closed = v.closed; newest = v.newest; filling = filled v.filling (Base leaf) }

page_added : (m f room : ℕ) (leaves : List Leaf) (w v : Framed) (leaf : Leaf) → w.m ≡ m → w.room ≡ room → Puts m f room leaves v → IsBase m leaf
    → size_of (filled v.filling (Base leaf)) ≤ f → Puts m f room (leaves ++ leaf ∷ []) (page_on w v leaf)
page_added m f room leaves w v leaf m_is room_is p lawful fit =
    let few = p.few in
    record {
      done = p.done;
      last = p.last;
      all = p.all;
      all_is = p.all_is;
      m_is = m_is;
      room_is = room_is;
      limit = p.limit;
      closed = p.closed;
      newest = p.newest;
      short = p.short;
      short_newest = p.short_newest;
      frames = p.frames;
      number = p.number;
      few = omega (arith, length-append leaves (leaf ∷ []));
      blocks = sym (append_assoc (blocks_of p.all) v.filling.blocks (Base leaf ∷ []))
          ∙ ap (λ t. t ++ Base leaf ∷ []) p.blocks ∙ sym (map-append (λ (l : Leaf). Base l) leaves (leaf ∷ []));
      lawful = all-push (IsBlock m) v.filling.blocks (Base leaf) p.lawful lawful;
      fit = fit;
    }

-- a frame that a page does not fit has one
some_blocks : (blocks : List Block) (leaf : Leaf) (f : ℕ) → AreShort 20712 (Base leaf ∷ []) → 65536 ≤ f
    → nat_le (20 + length (body_bytes (blocks ++ Base leaf ∷ []))) f ≡ false → 1 ≤ length blocks
some_blocks [] leaf f h k e =
    let above : f < 20 + length (body_bytes (Base leaf ∷ [])) = grind (arith, nat_tests) in
    absurd (omega arith)
some_blocks (b ∷ bs) leaf f h k e = omega arith

pub paged : (m f room : ℕ) (leaves : List Leaf) (w : Framed) (leaf : Leaf) → AreLimits m f room → length leaves + 1 < 2 ^ 32
    → Puts m f room leaves w → IsBase m leaf → Puts m f room (leaves ++ leaf ∷ []) (with_page w (Base leaf))
paged m f room leaves w leaf limits few p lawful =
    let short = base_short m leaf limits.pairs.1 lawful in
    let limit = p.limit in
    let large = limits.frame.0 in
    elim (nat_le (size_of (filled w.filling (Base leaf))) w.filling.limit)
    as (λ b. nat_le (size_of (filled w.filling (Base leaf))) w.filling.limit ≡ b
    → Puts m f room (leaves ++ leaf ∷ []) (page_on w (if b then w else with_frame w) leaf)) [
      | true ↦ λ e. (let fit : size_of (filled w.filling (Base leaf)) ≤ w.filling.limit = grind (arith, nat_tests) in
          page_added m f room leaves w w leaf p.m_is p.room_is p lawful (omega arith))
      | false ↦ λ e. (let some = some_blocks w.filling.blocks leaf w.filling.limit short (omega arith) e in
          let bounds : Bounds f room leaves = record { frame = limits.frame.1; segment = limits.segment.0; few = omega arith } in
          let next = framed m f room leaves w p bounds some in
          page_added m f room leaves w (with_frame w) leaf p.m_is p.room_is next lawful (omega arith))
    ]
    refl

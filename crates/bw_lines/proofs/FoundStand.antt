-- What recovery finds stands: and what stands, recovery finds.

use Rattle.std.proofs.Common.{◌≡◌, ℕ, zero, suc, ◌+◌, ◌^◌, ◌<◌, ◌≤◌, ◌==◌, ◌||◌, Bool, true, false, max}
use Rattle.std.proofs.Common.{List, [], ◌∷◌, length, slice_get, refl, sym, ap, ◌∙◌, subst, arith, length-append}
use Rattle.std.specs.List.{AllByRecursion}
use Rattle.std.proofs.lemmas.Bool.{eqb-true}
use Rattle.bw_codec.specs.Grammar.{IsBlock}
use Rattle.bw_record.specs.Touch.{touches}
use Rattle.bw_record.specs.declared.block.Block.{Block}
use Rattle.bw_record.specs.declared.block.Block.TheVariants.{Delta, Base, Split}
use Rattle.bw_record.specs.declared.block.Frame.{Frame}
use Rattle.bw_record.proofs.Order.{must_not}
use Rattle.bw_buffer.specs.Marks.{mark_of}
use Rattle.bw_page.specs.Leaves.{leaf_at}
use Rattle.bw_leaf.specs.Forwards.{content, blocks_of}
use Rattle.bw_page.specs.Standing.{Stand}
use Rattle.bw_log.specs.PageTable.{top_of, top_page}
use Rattle.bw_lines.specs.Lawful.{HasLawful, contents}
use Rattle.bw_lines.proofs.PagesAtFault.{NoneAtFault, all_set, contents_at, contents_length, leaves_lawful}
use Rattle.bw_log.proofs.Entries.{all_append}

-- ---- pages that are touched

no_page : (p page top : ℕ) → page ≤ top → top < p → (page == p) ≡ false
no_page p page top within beyond = must_not (page == p) (λ e. (let same = eqb-true page p e in omega arith))

neither : (a b : Bool) → a ≡ false → b ≡ false → (a || b) ≡ false
neither false false x y = refl
neither true b x y = absurd cc
neither false true x y = absurd cc

untouched : (p : ℕ) (b : Block) → top_of (mark_of b) < p → touches p b ≡ false
untouched p (Delta page back ops) beyond = no_page p page page (omega arith) beyond
untouched p (Base leaf) beyond = no_page p leaf.page leaf.page (omega arith) beyond
untouched p (Split page back upper) beyond =
    neither (page == p) (upper.page == p) (no_page p page (max page upper.page) (omega arith) beyond)
    (no_page p upper.page (max page upper.page) (omega arith) beyond)

pub all_untouched : (p : ℕ) (bs : List Block) → top_page bs < p → AllByRecursion (λ b. touches p b ≡ false) bs
all_untouched p [] beyond = tt
all_untouched p (b ∷ bs) beyond = (untouched p b (omega arith), all_untouched p bs (omega arith))

block_page : (m : ℕ) (b : Block) → IsBlock m b → (1 ≤ top_of (mark_of b)) × (top_of (mark_of b) < 2 ^ 32)
block_page m (Delta page back ops) law = law.changes
block_page m (Base leaf) law = law.page
block_page m (Split page back upper) law = let a = law.splits in let b = law.makes.page in (omega arith, omega arith)

pub top_small : (m : ℕ) (bs : List Block) → AllByRecursion (IsBlock m) bs → top_page bs < 2 ^ 32
top_small m [] laws = omega arith
top_small m (b ∷ bs) laws = let one = block_page m b laws.0 in let more = top_small m bs laws.1 in omega arith

pub top_some : (m : ℕ) (bs : List Block) → AllByRecursion (IsBlock m) bs → 1 ≤ length bs → 1 ≤ top_page bs
top_some m [] laws some = absurd (omega arith)
top_some m (b ∷ bs) laws some = let one = block_page m b laws.0 in omega arith

-- ---- frames

pub blocks_lawful : (m : ℕ) (fs : List Frame) → AllByRecursion (HasLawful m) fs → AllByRecursion (IsBlock m) (blocks_of fs)
blocks_lawful m [] laws = tt
blocks_lawful m (x ∷ xs) laws = all_append (IsBlock m) x.blocks (blocks_of xs) laws.0.2 (blocks_lawful m xs laws.1)

pub blocks_some : (m : ℕ) (fs : List Frame) → AllByRecursion (HasLawful m) fs → 1 ≤ length fs → 1 ≤ length (blocks_of fs)
blocks_some m [] laws some = absurd (omega arith)
blocks_some m (x ∷ xs) laws some = let head = laws.0.1 in omega (arith, length-append x.blocks (blocks_of xs))

-- ---- what is found stands

page_here : (blocks : List Block) (n p : ℕ) → 1 ≤ p → p ≤ n → ((i : ℕ) → i < n → content (1 + i) blocks ≡ slice_get (contents blocks 1 n) i)
    → content p blocks ≡ leaf_at p (contents blocks 1 n)
page_here blocks n zero from to at = absurd (omega arith)
page_here blocks n (suc i) from to at = (let same : suc i ≡ 1 + i = omega arith in ap (λ (k : ℕ). content k blocks) same) ∙ at i (omega arith)

pub found_stands : (m : ℕ) (frames : List Frame) → AllByRecursion (HasLawful m) frames → 1 ≤ length frames
    → NoneAtFault m (blocks_of frames) (top_page (blocks_of frames))
    → Stand m frames (contents (blocks_of frames) 1 (top_page (blocks_of frames)))
found_stands m frames laws some none = by_top (top_page (blocks_of frames)) refl
    (top_some m (blocks_of frames) (blocks_lawful m frames laws) (blocks_some m frames laws some)) where
      by_top : (n : ℕ) → top_page (blocks_of frames) ≡ n → 1 ≤ n → Stand m frames (contents (blocks_of frames) 1 (top_page (blocks_of frames)))
      by_top zero is one = absurd (omega arith)
      by_top (suc n) is one =
          let blocks = blocks_of frames in
          let blocks_law = blocks_lawful m frames laws in
          let none_here : NoneAtFault m blocks (suc n) = subst (NoneAtFault m blocks) is none in
          let set = all_set m blocks (suc n) none_here in
          let small = top_small m blocks blocks_law in
          let len = contents_length blocks 1 (suc n) set in
          subst (λ (k : ℕ). Stand m frames (contents blocks 1 k)) (sym is) (record {
            some = some;
            lawful = leaves_lawful m blocks n (omega arith) blocks_law none_here;
            each = λ p from to. page_here blocks (suc n) p from (omega arith) (λ i inside. contents_at blocks 1 (suc n) i set inside);
            all = λ p beyond. all_untouched p blocks (omega arith);
          })

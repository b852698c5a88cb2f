-- What is needed of a segment, page by page.

use Rattle.std.proofs.Common.{◌≡◌, ℕ, zero, suc, ◌+◌, ◌<◌, ◌≤◌, ◌∙◌, Bool, true, false, if◌then◌else◌, Option, Some, None, List, [], ◌∷◌, length}
use Rattle.std.proofs.Common.{take, refl, sym, ap, arith}
use Rattle.std.specs.Prelude.{IfSome, MatchOption}
use Rattle.std.specs.List.{slice_get}
use Rattle.bw_codec.specs.Grammar.{block_bytes}
use Rattle.bw_record.specs.declared.leaf.Leaf.{Leaf}
use Rattle.bw_record.specs.declared.block.Block.TheVariants.{Base}
use Rattle.bw_record.specs.declared.block.Frame.{Frame}
use Rattle.bw_page.specs.Leaves.{leaf_at, AreNumbered}
use Rattle.bw_page.proofs.PageByPage.{leaf_page}
use Rattle.bw_device.specs.Holding.{Holding}
use Rattle.bw_log.specs.Places.{base_of}
use Rattle.bw_core.specs.Needed.{is_between, needed_by, needed_of}

pub needed_none : (after last : ℕ) (frames : List Frame) (ls : List Leaf) → needed_of after last frames (take 0 ls) ≡ 0
needed_none after last frames [] = refl
needed_none after last frames (l ∷ ls) = refl

pub needed_all : (after last : ℕ) (frames : List Frame) (ls : List Leaf) (n : ℕ) → length ls ≤ n
    → needed_of after last frames (take n ls) ≡ needed_of after last frames ls
needed_all after last frames [] zero le = refl
needed_all after last frames [] (suc n) le = refl
needed_all after last frames (l ∷ ls) zero le = absurd (omega arith)
needed_all after last frames (l ∷ ls) (suc n) le =
    ap (λ k. needed_by after last frames l + k) (needed_all after last frames ls n (omega arith))

-- one page more, whatever is said of it
pub needed_next : (after last : ℕ) (frames : List Frame) (ls : List Leaf) (n k : ℕ) → n < length ls
    → IfSome (slice_get ls n) (λ l. k ≡ needed_by after last frames l)
    → needed_of after last frames (take (suc n) ls) ≡ needed_of after last frames (take n ls) + k
needed_next after last frames [] n k lt h = absurd (omega arith)
needed_next after last frames (l ∷ ls) zero k lt h = ap (λ j. j + needed_of after last frames (take 0 ls)) (sym h)
    ∙ (let none = needed_none after last frames ls in omega arith)
needed_next after last frames (l ∷ ls) (suc n) k lt h =
    (let rest = needed_next after last frames ls n k (omega arith) h in omega arith)

-- one page, by whether it was last set there
pub needed_there : (after last : ℕ) (frames : List Frame) (leaves : List Leaf) (page k : ℕ) (o : Option Leaf) → leaf_at page leaves ≡ o → AreNumbered 1 leaves
    → is_between after last (base_of page frames) ≡ true → IfSome o (λ leaf. k ≡ length (block_bytes (Base leaf)))
    → IfSome o (λ leaf. k ≡ needed_by after last frames leaf)
needed_there after last frames leaves page k None e numbered is h = tt
needed_there after last frames leaves page k (Some l) e numbered is h =
    let same = leaf_page page leaves l numbered e in
    h ∙ sym (ap (λ (b : Bool). if b then length (block_bytes (Base l)) else 0) (ap (λ p. is_between after last (base_of p frames)) same ∙ is))

pub needed_elsewhere : (after last : ℕ) (frames : List Frame) (leaves : List Leaf) (page : ℕ) (o : Option Leaf) → leaf_at page leaves ≡ o → AreNumbered 1 leaves
    → is_between after last (base_of page frames) ≡ false → IfSome o (λ leaf. 0 ≡ needed_by after last frames leaf)
needed_elsewhere after last frames leaves page None e numbered is = tt
needed_elsewhere after last frames leaves page (Some l) e numbered is =
    let same = leaf_page page leaves l numbered e in
    sym (ap (λ (b : Bool). if b then length (block_bytes (Base l)) else 0) (ap (λ p. is_between after last (base_of p frames)) same ∙ is))

-- of two segments there is a first one
pub needed_told : (hs : List Holding) (r : Option ℕ) (n x : ℕ) → 2 ≤ length hs → MatchOption (slice_get hs 0) (r ≡ None) (λ h. r ≡ Some n) → r ≡ Some x → x ≡ n
needed_told [] r n x two h is = absurd (omega arith)
needed_told (h ∷ hs) r n x two told is = cc

pub needed_some : (hs : List Holding) (r : Option ℕ) (n : ℕ) → 2 ≤ length hs → MatchOption (slice_get hs 0) (r ≡ None) (λ h. r ≡ Some n) → r ≡ None → ⊥
needed_some [] r n two h is = absurd (omega arith)
needed_some (h ∷ hs) r n two told is = absurd cc

-- Which page of a forward reading is at fault, and the leaves if none is.

use Rattle.std.specs.Prelude.{ℕ, zero, suc, ◌+◌, ◌≤◌, ◌==◌, ◌&&◌, ◌||◌, not, nat_lt, nat_eq, Bool, true, if◌then◌else◌, Option, Some, None, List, [], ◌∷◌}
use Rattle.std.specs.Prelude.{length}
use Rattle.std.specs.List.{flat_map, list_any, AllByRecursion}
use lib.Pointwise.{pointwise}
use Rattle.bw_record.specs.Keys.{is_below}
use Rattle.bw_codec.specs.Grammar.{IsBlock}
use Rattle.bw_record.specs.declared.leaf.Leaf.{Leaf}
use Rattle.bw_record.specs.declared.block.Block.{Block}
use Rattle.bw_record.specs.declared.block.Frame.{Frame}
use Rattle.bw_record.specs.declared.block.Block.TheVariants.{Delta, Base, Split}
use Rattle.bw_leaf.specs.Changed.{Bytes}
use Rattle.bw_leaf.specs.Forwards.{content}

abbrev pub as_list : {A : Type 0} → Option A → List A
as_list None = []
as_list (Some x) = x ∷ []

-- ---- frames

-- a frame from number 1 on, with a block, all of them lawful if pages have at most so many pairs
abbrev pub HasLawful : ℕ → Frame → Type 0
HasLawful m f = (1 ≤ f.number) × (1 ≤ length f.blocks) × AllByRecursion (IsBlock m) f.blocks

-- ---- pages that are set

-- the page that a block sets
abbrev pub page_set : Block → Option ℕ
page_set (Delta page back ops) = None
page_set (Base leaf) = Some leaf.page
page_set (Split page back upper) = Some upper.page

-- each page that is set, as it is in the end; if a page is set twice, it stands here twice
abbrev pub set_by : List Block → Option ℕ → List Leaf
set_by blocks None = []
set_by blocks (Some p) = as_list (content p blocks)

abbrev pub leaves_set : List Block → List Leaf
leaves_set blocks = flat_map (λ b. set_by blocks (page_set b)) blocks

-- ---- a page at fault

abbrev pub is_same : Bytes → Bytes → Bool
is_same a b = pointwise nat_eq a b

-- a page of smaller number has the same low
abbrev pub has_low_before : List Leaf → Leaf → Bool
has_low_before set leaf = list_any (λ l. nat_lt l.page leaf.page && is_same l.low leaf.low) set

-- a key is below its page's low, or not below a greater low
abbrev pub is_astray : List Leaf → Leaf → Bytes → Bool
is_astray set leaf key = is_below key leaf.low || list_any (λ l. is_below leaf.low l.low && not (is_below key l.low)) set

-- only page 1 has the empty low
abbrev pub has_wrong_low : Leaf → Bool
has_wrong_low leaf = if leaf.page == 1 then not (is_same leaf.low []) else is_same leaf.low []

abbrev pub is_bad_leaf : ℕ → List Leaf → Leaf → Bool
is_bad_leaf m set leaf =
    has_wrong_low leaf || has_low_before set leaf || nat_lt m (length leaf.pairs) || list_any (λ p. is_astray set leaf p.0) leaf.pairs

abbrev pub is_bad_page : ℕ → List Leaf → Option Leaf → Bool
is_bad_page m set None = true
is_bad_page m set (Some leaf) = is_bad_leaf m set leaf

abbrev pub is_at_fault : ℕ → List Block → ℕ → Bool
is_at_fault m blocks p = is_bad_page m (leaves_set blocks) (content p blocks)

-- ---- pages from 1 on

-- the first of n numbers from p on that passes a test
unfoldable pub first_such : (ℕ → Bool) → ℕ → ℕ → Option ℕ
first_such test p zero = None
first_such test p (suc n) = if test p then Some p else first_such test (p + 1) n

-- n pages from p on, as they are in the end
unfoldable pub contents : List Block → ℕ → ℕ → List Leaf
contents blocks p zero = []
contents blocks p (suc n) = elim (content p blocks) as (λ _. List Leaf) [
  | None ↦ contents blocks (p + 1) n
  | Some leaf ↦ leaf ∷ contents blocks (p + 1) n
]

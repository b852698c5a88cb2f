-- Pages in the order of their numbers, with an index of their lows.

use Rattle.std.specs.Prelude.{ℕ, ◌+◌, ◌<◌, ◌≤◌, ◌≡◌, ◌==◌, ◌&&◌, nat_lt, not, Bool, true, false, if◌then◌else◌, Option, Some, None, IsSome, List, []}
use Rattle.std.specs.Prelude.{◌∷◌, ◌++◌, length}
use Rattle.std.specs.List.{list_any, AllByRecursion}
use Rattle.bw_record.specs.Keys.{is_below, IsKey}
use Rattle.bw_record.specs.declared.leaf.Leaf.{Leaf}
use Rattle.bw_leaf.specs.Changed.{Bytes}
use Rattle.std.specs.BTreeMap as tree
use Rattle.std.specs.FinMap as finite
use Rattle.std.specs.Ordering.{nat_cmp}
use Rattle.bw_record.specs.declared.block.Frame.{Frame}
use Rattle.bw_leaf.specs.Forwards.{blocks_of}
use Rattle.bw_page.specs.Leaves.{union}
use Rattle.bw_log.specs.PageTable.{top_page}
use Rattle.bw_log.specs.Places.{all_placed}
use Rattle.bw_log.specs.Contents.{IsTable}
use Rattle.bw_log.specs.declared.places.PageAt.{PageAt}
use Rattle.bw_lines.specs.Lawful.{HasLawful, as_list, is_same, is_bad_page, is_at_fault, first_such, contents}
use Rattle.bw_lines.specs.Reading.{line_of}
use Rattle.bw_lines.specs.declared.pages.Pages.{Pages}
use Rattle.bw_lines.specs.declared.cause.RecoverCause.{RecoverCause}
use Rattle.bw_lines.specs.declared.cause.RecoverCause.TheVariants.{NoMemory, BadConfig, Device, Spent, Empty, BadBytes, Gap, Mixed, BadLink, Unlawful}
use Rattle.bw_lines.specs.declared.links.Line.{Line}

-- a page's number and its line
abbrev pub Paged : Type 0
Paged = ℕ × Line

-- page numbers rise, from above a number on
abbrev pub Rise : ℕ → List Paged → Type 0
Rise n [] = Unit {0}
Rise n (e ∷ es) = (n < e.0) × Rise e.0 es

-- ---- an index of lows

abbrev pub has_low : Bytes → Option Leaf → Bool
has_low k None = false
has_low k (Some leaf) = is_same leaf.low k

-- the first page with a low
abbrev pub first_with : Bytes → List Paged → Option ℕ
first_with k [] = None
first_with k (e ∷ es) = if has_low k e.1.leaf then Some e.0 else first_with k es

-- what an index knows of the lows that are keys
abbrev pub IsIndex : List Paged → (Bytes → Option ℕ) → Type 0
IsIndex pages got = (k : Bytes) → IsKey k → got k ≡ first_with k pages

-- the least low above this one, if there is one
abbrev pub IsNext : Bytes → (Bytes → Option ℕ) → Option Bytes → Type 0
IsNext low got None = (k : Bytes) → IsKey k → is_below low k ≡ true → got k ≡ None
IsNext low got (Some next) = IsSome (got next) × IsKey next × (is_below low next ≡ true)
    × ((k : Bytes) → is_below low k ≡ true → IsSome (got k) → is_below k next ≡ false)

-- a key is at a low or above it
abbrev pub is_past : Option Bytes → Bytes → Bool
is_past None key = false
is_past (Some next) key = not (is_below key next)

-- a page before this one has the low
abbrev pub taken_before : Option ℕ → ℕ → Bool
taken_before None page = false
taken_before (Some first) page = nat_lt first page

-- an index gives the lows of these leaves, and the least page of each
pub record IsLows (set : List Leaf) (got : Bytes → Option ℕ) : Type 0 where
  pub from : AllByRecursion (λ l. 1 ≤ l.page) set
  pub short : AllByRecursion (λ l. length l.low ≤ 128) set
  pub listed : AllByRecursion (λ l. IsKey l.low → IsSome (got l.low)) set
  pub least : AllByRecursion (λ l. IsKey l.low → (page : ℕ) → got l.low ≡ Some page → page ≤ l.page) set
  pub taken : (k : Bytes) (page : ℕ) → IsKey k → got k ≡ Some page
      → (l : Leaf) × (l.low ≡ k) × (l.page ≡ page) × ((test : Leaf → Bool) → test l ≡ true → list_any test set ≡ true)

-- a low is no longer than a key
abbrev pub IsShortIf : Option Leaf → Type 0
IsShortIf None = Unit {0}
IsShortIf (Some leaf) = length leaf.low ≤ 128

-- ---- pages one after the other

-- the first number that is no page's, or is that of a page at fault; n was the page before
abbrev pub first_wrong : ℕ → List Leaf → ℕ → List Paged → Option ℕ
first_wrong m set n [] = None
first_wrong m set n (e ∷ es) = if (n + 1 == e.0) && not (is_bad_page m set e.1.leaf) then first_wrong m set e.0 es else Some (n + 1)

-- leaves of the pages that were set
abbrev pub leaves_in : List Paged → List Leaf
leaves_in [] = []
leaves_in (e ∷ es) = as_list e.1.leaf ++ leaves_in es

-- the last page's number
abbrev pub last_page : ℕ → List Paged → ℕ
last_page n [] = n
last_page n (e ∷ es) = last_page e.0 es

-- ---- lines of the blocks of frames

-- a list of lines, looked at by page
abbrev pub line_at : ℕ → List Paged → Option Line
line_at p [] = None
line_at p (e ∷ es) = if p == e.0 then Some e.1 else line_at p es

-- these are the lines of all pages that frames touch
abbrev pub AreOf : List Frame → List Paged → Type 0
AreOf frames es = (p : ℕ) → line_at p es ≡ line_of p None (all_placed frames)

-- a map has the lines of all pages that frames touch
abbrev pub IsMapOf : List Frame → tree.BTreeMap ℕ Line → Type 0
IsMapOf frames lines = (p : ℕ) → tree.get nat_cmp lines p ≡ line_of p None (all_placed frames)

-- the least page at fault
abbrev pub fault_among : ℕ → List Frame → Option ℕ
fault_among m frames = first_such (is_at_fault m (blocks_of frames)) 1 (top_page (blocks_of frames))

-- a page's places
abbrev pub at_line : Paged → PageAt
at_line e = e.1.at

-- there are lawful frames, of which these are the lines
abbrev pub HasFrames : ℕ → tree.BTreeMap ℕ Line → Type 0
HasFrames m lines = (frames : List Frame) × AllByRecursion (HasLawful m) frames × (1 ≤ length frames) × IsMapOf frames lines

-- the pages of frames, if none is at fault
pub record IsRight (m : ℕ) (frames : List Frame) (r : Pages) : Type 0 where
  pub none : fault_among m frames ≡ None
  pub limit : r.leaves.m ≡ m
  pub leaves : r.leaves.leaves ≡ contents (blocks_of frames) 1 (top_page (blocks_of frames))
  pub table : IsTable r.table.items frames
  pub count : length r.table.items ≡ length r.leaves.leaves
  pub pairs : r.pairs ≡ finite.len (union r.leaves.leaves)

-- this is the page at fault, unless memory ran out
abbrev pub PageFaultIs : Option ℕ → RecoverCause → Type 0
PageFaultIs page NoMemory = Unit {0}
PageFaultIs page (Unlawful p) = page ≡ Some p
PageFaultIs page (Device lease) = ⊥
PageFaultIs page Spent = ⊥
PageFaultIs page BadConfig = ⊥
PageFaultIs page Empty = ⊥
PageFaultIs page (BadBytes segment at) = ⊥
PageFaultIs page Gap = ⊥
PageFaultIs page Mixed = ⊥
PageFaultIs page (BadLink p) = ⊥

-- What a block does to the table of places.

use Rattle.std.specs.Prelude.{ℕ, ◌+◌, ◌-◌, ◌≤◌, ◌==◌, if◌then◌else◌, max, replicate, length, ◌++◌, List, [], ◌∷◌, slice_set, slice_index_or}
use Rattle.std.specs.List.{AllByRecursion}
use Rattle.bw_record.specs.declared.block.Place.{Place}
use Rattle.bw_record.specs.declared.block.Block.{Block}
use Rattle.bw_buffer.specs.Marks.{mark_of}
use Rattle.bw_buffer.specs.declared.mark.Mark.{Mark}
use Rattle.bw_buffer.specs.declared.mark.Mark.TheVariants.{Changes, Sets, Splits}
use Rattle.bw_log.specs.Places.{one_more}
use Rattle.bw_log.specs.declared.places.PageAt.{PageAt}

-- a page's last touching block stands here now, and its last setting one where it stood
abbrev pub changed_line : Place → PageAt → PageAt
changed_line place e = record {
  place = place;
  base = e.base;
  walk = if e.place.frame == place.frame then e.walk else one_more e.walk;
}

-- both stand here now
abbrev pub set_line : Place → PageAt
set_line place = record { place = place; base = place; walk = 1 }

abbrev pub with_place : ℕ → Place → List PageAt → List PageAt
with_place page place pages = slice_set pages (page - 1) (changed_line place (slice_index_or pages (page - 1) (set_line place)))

abbrev pub with_base : ℕ → Place → List PageAt → List PageAt
with_base page place pages = slice_set pages (page - 1) (set_line place)

abbrev pub noted : Mark → Place → List PageAt → List PageAt
noted (Changes page) place pages = with_place page place pages
noted (Sets page) place pages = with_base page place pages
noted (Splits page made) place pages = with_base made place (with_place page place pages)

-- the blocks of a frame, from an index on
abbrev pub noted_all : ℕ → ℕ → List Block → List PageAt → List PageAt
noted_all number i [] pages = pages
noted_all number i (b ∷ bs) pages = noted_all number (i + 1) bs (noted (mark_of b) (record { frame = number; index = i }) pages)

abbrev pub IsInTable : ℕ → ℕ → Type 0
IsInTable page n = (1 ≤ page) × (page ≤ n)

-- the table has a line for each page of a block
abbrev pub HasLines : Mark → ℕ → Type 0
HasLines (Changes page) n = IsInTable page n
HasLines (Sets page) n = IsInTable page n
HasLines (Splits page made) n = IsInTable page n × IsInTable made n

-- the table has a line for each page of these blocks
abbrev pub HaveLines : List Block → ℕ → Type 0
HaveLines blocks n = AllByRecursion (λ b. HasLines (mark_of b) n) blocks

-- ---- lines for new pages

-- the greatest page that a block speaks of
abbrev pub top_of : Mark → ℕ
top_of (Changes page) = page
top_of (Sets page) = page
top_of (Splits page made) = max page made

abbrev pub top_page : List Block → ℕ
top_page [] = 0
top_page (b ∷ bs) = max (top_of (mark_of b)) (top_page bs)

abbrev pub no_place : Place
no_place = record { frame = 0; index = 0 }

-- the line of a page of which nothing was said yet
abbrev pub empty_line : PageAt
empty_line = record { place = no_place; base = no_place; walk = 0 }

-- the table with lines up to a page
abbrev pub grown_to : ℕ → List PageAt → List PageAt
grown_to top pages = pages ++ replicate (top - length pages) empty_line

-- What a log is made of that a scan found.

use Rattle.std.specs.Prelude.{ℕ, suc, ◌+◌, ◌-◌, ◌≡◌, ◌==◌, ◌++◌, false, if◌then◌else◌, Option, Some, List, [], ◌∷◌, map, length}
use Rattle.std.specs.List.{fold}
use Rattle.bw_device.specs.Holding.{Holding}
use Rattle.bw_log.specs.Segments.{following}
use Rattle.bw_log.specs.Contents.{Contents}
use Rattle.bw_log.specs.Contents as contents
use Rattle.bw_log.specs.declared.places.FrameAt.{FrameAt}
use Rattle.bw_log.specs.declared.places.Tables.{Tables}

-- the number after the last line's
abbrev pub next_in : List FrameAt → Option ℕ
next_in frames = fold (λ was e. following e.number) (Some 1) frames

-- lines that name their segments by number in place of position
abbrev pub in_segments : ℕ → List FrameAt → List FrameAt
in_segments number frames = map {A = FrameAt} (λ e. record e { segment = number + e.segment }) frames

-- how many of the first segments have version 1
abbrev pub old_in : List ℕ → ℕ
old_in [] = 0
old_in (v ∷ vs) = if v == 1 then suc (old_in vs) else 0

abbrev pub adopted : List Holding → List Holding → Tables → Contents
adopted live spares t = record {
  live = live;
  spares = spares;
  m = t.m;
  f = t.f;
  number = t.number;
  old_to = t.number - 1 + old_in t.versions.items;
  is_open = t.is_open;
  is_failed = false;
  next = next_in t.frames.items;
  frames = in_segments t.number t.frames.items;
  pages = t.pages.items;
}

abbrev pub IsAdoptable : List Holding → List Holding → Tables → Type 0
IsAdoptable live spares t = contents.IsSound (adopted live spares t)

-- so many lines name their segments by number, and this is the number after them
pub record Numbering (number : ℕ) (old : List FrameAt) (i : ℕ) (now : List FrameAt) (next : Option ℕ) : Type 0 where
  pub done : List FrameAt
  pub rest : List FrameAt
  pub split : old ≡ done ++ rest
  pub count : length done ≡ i
  pub is : now ≡ in_segments number done ++ rest
  pub told : next ≡ next_in done

-- A writer as it stands in memory.

use Rattle.std.specs.Prelude.{◌≤◌, ◌≡◌}
use Rattle.std.specs.Vec.{vec_capacity}
use Rattle.bw_record.specs.declared.leaf.Leaf.{Leaf}
use Rattle.bw_codec.specs.Grammar.{IsBase}
use Rattle.bw_whole.specs.Paging.{Making}
use Rattle.bw_whole.specs.declared.writer.Writer.TheInside.{Inside}

abbrev pub page_of : Inside → Leaf
page_of a = record { page = a.page; low = a.low; pairs = a.pairs.items }

abbrev pub making_of : Inside → Making
making_of a = record { framed = a.frames; page = page_of a }

pub record IsHeld (a : Inside) : Type 0 where
  pub lawful : IsBase a.m (page_of a)
  pub limit : (4 ≤ a.m) × (a.m ≤ 32)
  pub same : a.frames.m ≡ a.m
  -- there is room for all that the page may get
  pub room : a.m ≤ vec_capacity a.pairs

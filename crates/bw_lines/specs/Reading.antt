-- One page after another block: its places and what it is.

use Rattle.std.specs.Prelude.{ℕ, ◌≡◌, false, if◌then◌else◌, Option, Some, None, List, []}
use Rattle.std.specs.List.{fold}
use Rattle.std.specs.Option.{option_map}
use Rattle.std.specs.BTreeMap as tree
use Rattle.std.specs.Ordering.{nat_cmp}
use Rattle.bw_record.specs.Touch.{sets, touches}
use Rattle.bw_record.specs.declared.block.Block.{Block}
use Rattle.bw_record.specs.declared.block.Place.{Place}
use Rattle.bw_record.specs.declared.leaf.Leaf.{Leaf}
use Rattle.bw_record.specs.declared.record.Record.{Record}
use Rattle.bw_leaf.specs.Changed.{all_changed}
use Rattle.bw_leaf.specs.Forwards.{after}
use Rattle.bw_log.specs.PageTable.{changed_line, set_line, empty_line}
use Rattle.bw_log.specs.Places.{bad_link, is_back}
use Rattle.bw_lines.specs.declared.links.ReadFault.{ReadFault}
use Rattle.bw_lines.specs.declared.links.ReadFault.TheVariants.{NoMemory, BadLink}
use Rattle.bw_log.specs.declared.places.PageAt.{PageAt}
use Rattle.bw_lines.specs.declared.links.Line.{Line}

-- what a line says; a page without a line was never touched
abbrev pub leaf_in : Option Line → Option Leaf
leaf_in None = None
leaf_in (Some l) = l.leaf

abbrev pub place_in : Option Line → Option Place
place_in None = None
place_in (Some l) = Some l.at.place

abbrev pub at_in : Option Line → PageAt
at_in None = empty_line
at_in (Some l) = l.at

-- a page's line after the records of a Delta
abbrev pub changed_by : Place → List Record → Option Line → Line
changed_by place ops was = record { at = changed_line place (at_in was); leaf = option_map (all_changed ops) (leaf_in was) }

-- a page's line after one more block
abbrev pub line_after : ℕ → Option Line → Place × Block → Option Line
line_after p was x =
    if touches p x.1 then Some (record {
      at = if sets p x.1 then set_line x.0 else changed_line x.0 (at_in was);
      leaf = after p (leaf_in was) x.1;
    }) else was

-- after blocks
abbrev pub line_of : ℕ → Option Line → List (Place × Block) → Option Line
line_of p was blocks = fold (line_after p) was blocks

-- the lines of a map after blocks
abbrev pub AreLines : tree.BTreeMap ℕ Line → List (Place × Block) → tree.BTreeMap ℕ Line → Type 0
AreLines old blocks new = (p : ℕ) → tree.get nat_cmp new p ≡ line_of p (tree.get nat_cmp old p) blocks

-- these blocks were read, and each of them links back as it may
pub record IsRead (first : ℕ) (done : List (Place × Block)) (map : tree.BTreeMap ℕ Line) : Type 0 where
  pub lines : (p : ℕ) → tree.get nat_cmp map p ≡ line_of p None done
  pub linked : bad_link first [] done ≡ None

-- this is the page of a wrong link, unless memory ran out
abbrev pub LinkFaultIs : Option ℕ → ReadFault → Type 0
LinkFaultIs page NoMemory = Unit {0}
LinkFaultIs page (BadLink p) = page ≡ Some p

-- a block of a page links back wrongly, if this is the last one that touches it; unless memory ran
-- out
abbrev pub IsUnlinked : ℕ → ℕ → Option Place → Place → ReadFault → Type 0
IsUnlinked first page last back NoMemory = Unit {0}
IsUnlinked first page last back (BadLink p) = (p ≡ page) × (is_back first last back ≡ false)

-- What a listing writes of the pairs of a stretch, and how far it is.

use Rattle.std.specs.Prelude.{ℕ, ◌≡◌, ◌-◌, ◌==◌, if◌then◌else◌, List, [], ◌++◌, length, take, drop, reverse, flat_map, Option, None}
use Rattle.std.specs.Io.KnownBytes.{Appends}
use Rattle.bw_leaf.specs.Changed.{Pairs}
use Rattle.bw_pairs.specs.Dumps.{dump_header, dump_end}
use Rattle.bw_keys.specs.Styles.{styled}
use Rattle.bw_keys.specs.declared.listing.Style.{Style}
use Rattle.bw_keys.specs.declared.listing.Style.TheVariants.{Tabs, Keys, Values, Json, Csv, Dump}
use Rattle.bw_keys.specs.declared.listing.Order.{Order}
use Rattle.bw_keys.specs.declared.listing.Due.{Due}

-- ---- which pairs, and how

-- so many pairs with the greatest keys, of pairs in the order of their keys
abbrev pub greatest : ℕ → Pairs → Pairs
greatest count pairs = drop (length pairs - count) pairs

-- the pairs that go out, of those of a stretch
abbrev pub chosen : Order → Pairs → Pairs
chosen order pairs =
    take order.limit (if order.reverse then reverse (greatest order.last pairs) else greatest order.last pairs)

-- each in its spelling, one after the other
abbrev pub spelled : Style → Pairs → List ℕ
spelled style pairs = flat_map (λ p. styled style p.0 p.1) pairs

-- what stands before the pairs, and after them
abbrev pub before : Style → List ℕ
before (Tabs spelling) = []
before (Keys spelling) = []
before (Values spelling) = []
before (Json parts) = []
before (Csv parts) = []
before (Dump letters mapsize) = dump_header letters None mapsize

abbrev pub behind : Style → List ℕ
behind (Tabs spelling) = []
behind (Keys spelling) = []
behind (Values spelling) = []
behind (Json parts) = []
behind (Csv parts) = []
behind (Dump letters mapsize) = dump_end

-- all that is written of the pairs of a stretch
abbrev pub listing : Order → Pairs → List ℕ
listing order pairs = before order.style ++ spelled order.style (chosen order pairs) ++ behind order.style

-- ---- on the way

-- of pairs that come next those that are written: some are passed over, and no more than wanted go out
abbrev pub due_of : Due → Pairs → Pairs
due_of due pairs = take due.left (drop due.passed pairs)

-- how many are still to be passed over, and wanted, after so many pairs
abbrev pub passed_after : Due → ℕ → ℕ
passed_after due count = if due.left == 0 then due.passed else due.passed - count

abbrev pub left_after : Due → ℕ → ℕ
left_after due count = due.left - (count - due.passed)

-- of these pairs those that are due are written, each in its spelling
pub record Writes (style : Style) (due after : Due) (old new : Option (List ℕ)) (pairs : Pairs) : Type 0 where
  pub bytes : Appends old new (spelled style (due_of due pairs))
  pub passed : after.passed ≡ passed_after due (length pairs)
  pub left : after.left ≡ left_after due (length pairs)

-- Keys between which no page has a pair.

use Rattle.std.specs.Prelude.{◌≡◌, ⊤, Option, Some, None, Bool, false, not, if◌then◌else◌}
use Rattle.bw_record.specs.Keys.{is_below}
use Rattle.bw_leaf.specs.Changed.{Bytes, Map}
use Rattle.bw_page.specs.declared.gap.Gap.{Gap}
use Rattle.bw_page.specs.Ahead.{HasCome}

-- no key of the gap has a value, if there is one
abbrev pub IsGap : Map → Option Gap → Type 0
IsGap map None = ⊤
IsGap map (Some gap) = HasCome map gap.from gap.to

-- whether a key is in a gap: at or above the one, and below the other
abbrev pub is_inside : Bytes → Gap → Bool
is_inside key gap = if is_below key gap.from then false else is_below key gap.to

-- whether a key is in a gap, or is its end
abbrev pub is_at : Bytes → Gap → Bool
is_at key gap = if is_below key gap.from then false else not (is_below gap.to key)

-- the gap is the old one, and has not this key; or there is none
abbrev pub IsPassed : Option Gap → Bytes → Option Gap → Type 0
IsPassed old key None = ⊤
IsPassed old key (Some gap) = (old ≡ Some gap) × (is_inside key gap ≡ false)

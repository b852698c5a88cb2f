-- Which keys of a stretch are wanted.

use Rattle.std.specs.Prelude.{ℕ, Bool, true, false, not, ◌&&◌, ◌||◌, nat_eq, List, Option, Some, None, is_none}
use Rattle.std.specs.List.{starts_with}
use Rattle.bw_record.specs.Keys.{is_below}
use Rattle.bw_keys.specs.declared.span.Span.{Span}

-- a key is this one or above it
abbrev pub is_from : Option (List ℕ) → List ℕ → Bool
is_from None key = true
is_from (Some from) key = not (is_below key from)

-- a key is below this one
abbrev pub is_to : Option (List ℕ) → List ℕ → Bool
is_to None key = true
is_to (Some to) key = is_below key to

-- a key begins with these bytes
abbrev pub begins : Option (List ℕ) → List ℕ → Bool
begins None key = true
begins (Some prefix) key = starts_with nat_eq key prefix

-- a key is above all that begin with these bytes
abbrev pub is_behind : Option (List ℕ) → List ℕ → Bool
is_behind None key = false
is_behind (Some prefix) key = not (starts_with nat_eq key prefix) && is_below prefix key

-- whether a key is wanted
abbrev pub is_wanted : Span → List ℕ → Bool
is_wanted span key = is_from span.from key && is_to span.to key && begins span.prefix key

-- whether a key is not below all that are wanted, and whether it is above all of them
abbrev pub has_begun : Span → List ℕ → Bool
has_begun span key = is_from span.from key && is_from span.prefix key

abbrev pub is_over : Span → List ℕ → Bool
is_over span key = not (is_to span.to key) || is_behind span.prefix key

-- whether each key is wanted
abbrev pub has_all : Span → Bool
has_all span = is_none span.from && is_none span.to && is_none span.prefix

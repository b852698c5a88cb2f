-- Records in an order that fills pages: those of each key stay in theirs.

use Rattle.std.specs.Prelude.{ℕ, ◌≡◌, Bool, true, false, List, [], ◌∷◌, ◌++◌, map, Option, Some, None}
use Rattle.std.specs.List.{AllByRecursion, filter}
use Rattle.std.specs.Ordering.{is_eq}
use Rattle.bw_record.specs.declared.record.Record.{Record}
use Rattle.bw_record.specs.Keys.{order, is_below}
use Rattle.bw_record.specs.Record.{key_of}
use Rattle.bw_keys.specs.declared.held.Held.{Held}

-- the record that goes in now, if one does
abbrev pub goes_in : Option Record → List Record
goes_in None = []
goes_in (Some item) = item ∷ []

-- the records that were read and did not go in yet
abbrev pub pending : Held → List Record
pending h = map (λ w. w.item) h.waiting.items ++ goes_in h.next

-- the records of a key, in their order
abbrev pub of_key : List ℕ → List Record → List Record
of_key key items = filter (λ r. is_eq (order (key_of r) key)) items

-- the same records of each key, in their order
abbrev pub AreAsRead : List Record → List Record → Type 0
AreAsRead items others = (key : List ℕ) → of_key key items ≡ of_key key others

-- a record that was read goes in now, before all that wait, since none of these has its key; or it waits behind them
abbrev pub Accepts : Record → Option Record → Held → Held → Type 0
Accepts item None old new = pending new ≡ pending old ++ item ∷ []
Accepts item (Some now) old new = (now ≡ item) × (pending new ≡ pending old) × (of_key (key_of item) (pending old) ≡ [])

-- no record goes in before another one is read
pub record IsIdle (h : Held) : Type 0 where
  pub stays : h.is_released ≡ false

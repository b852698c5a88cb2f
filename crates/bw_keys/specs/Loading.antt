-- What a load puts of the records that a source hands out, and what it leaves once all is in the store.

use Rattle.std.specs.Prelude.{ℕ, ◌≡◌, ◌<◌, List, [], ◌∷◌, ◌++◌, length, map, slice_index_or, Option, Some, None, Result, Ok, Err}
use Rattle.std.specs.List.{AllByRecursion}
use Rattle.bw_device.specs.Holding.{Holding}
use Rattle.bw_record.specs.declared.record.Record.{Record}
use Rattle.bw_ring.specs.Marks.{Marked}
use Rattle.bw_ring.specs.Ends.{accepted}
use Rattle.bw_history.specs.History.{streams}
use Rattle.bw_core.specs.Settled.{IsAllCut}
use Rattle.bw_home.specs.Ready.{kept_in}
use Rattle.bw_home.specs.declared.home.Home.{Home}
use Rattle.bw_keys.specs.declared.load.Next.{Next}
use Rattle.bw_keys.specs.declared.load.Next.TheVariants.{Open, Over}

-- ---- what a source hands out

-- the record of an answer, if there is one
abbrev pub got : {E : Type 0} → Result (Option Record) E → List Record
got (Ok (Some item)) = item ∷ []
got (Ok None) = []
got (Err fault) = []

-- the records of a group, if there is one
abbrev pub records_of : Option (List Record) → List Record
records_of (Some group) = group
records_of None = []

-- the records that were handed out, and wait to be put
abbrev pub waits : Next → List Record
waits (Open group) = records_of group
waits (Over fault) = []

-- ---- what was put

-- what the first writer's queue accepted, of what all queues did
abbrev pub first_of : List (List Marked) → List Record
first_of queues = map (λ m. m.item) (slice_index_or queues 0 [])

module _ {I : Type 0} {H : I → Type 0} where
  -- what each queue accepted
  abbrev pub queues : Home I H → List (List Marked)
  queues h = map accepted h.feeds.items

-- these waited, or the source handed them out since
pub record Comes (was given waited group : List Record) : Type 0 where
  pub came : List Record
  pub handed : given ≡ was ++ came
  pub items : group ≡ waited ++ came

-- with one writer: what was put, and what waits to be, is what was and did before, and then these records
pub record Puts (old new : List (List Marked)) (waited waiting came : List Record) : Type 0 where
  pub writers : length new ≡ length old
  pub all : length old ≡ 1 → first_of new ++ waiting ≡ (first_of old ++ waited) ++ came

-- these are the records that the source handed out since
pub record PutsAll (was given : List Record) (old new : List (List Marked)) (waited waiting : List Record) : Type 0 where
  pub came : List Record
  pub handed : given ≡ was ++ came
  pub puts : Puts old new waited waiting came

-- of a leg: it goes on in the next one, or came to its end
abbrev pub UnlessRefused : {A E : Type 0} → Option (Result A E) → Type 0 → Type 0
UnlessRefused None P = P
UnlessRefused (Some (Ok x)) P = P
UnlessRefused (Some (Err fault)) P = Unit {0}

-- ---- what is durable

module _ {I : Type 0} {H : I → Type 0} where
  -- each record that a queue accepted was taken once, in its order, and nothing else; and all of it is durable
  pub record IsStored (h : Home I H) (v : (i : I) × H i → Holding) : Type 0 where
    pub exactly : streams 0 (length h.feeds.items) (kept_in h v).entries ≡ queues h
    pub writers : AllByRecursion (λ e. e.writer < length h.feeds.items) (kept_in h v).entries
    pub last_cut : IsAllCut (kept_in h v)

-- What is asked of a lane before a group of it is taken, and what every such take leaves.

use Rattle.std.specs.Prelude.{ℕ, ◌≡◌, ◌≤◌, ◌<◌, false, Option, Some, Result, List, length, map, IfNone, IfOk, IfSome, MatchOption, OnErr, OnOk}
use Rattle.std.specs.List.{AllByRecursion}
use Rattle.bw_record.specs.Lawful.{IsOp}
use Rattle.bw_record.specs.declared.record.Record.{Record}
use Rattle.bw_record.specs.Record.{key_of}
use Rattle.bw_device.specs.Holding.{Holding}
use Rattle.bw_page.specs.Batch.{AreHere}
use Rattle.bw_page.specs.Leaves.{directed_at}
use Rattle.bw_page.specs.Shown.{IsHere}
use Rattle.bw_ring.specs.Ends as ends
use Rattle.bw_ring.specs.Marks.{marked}
use Rattle.bw_history.specs.declared.entry.Entry.{Entry}
use Rattle.bw_history.specs.Entries as history
use Rattle.bw_history.specs.History.{entered}
use Rattle.bw_history.specs.Lanes.{Dries, IsNext, IsWaiting, KnowAfter, KnowMore, TookKnown}
use Rattle.bw_terms.specs.declared.fault.StoreFault.{StoreFault}
use Rattle.bw_core.specs.declared.store.Core.{Core}
use Rattle.bw_core.specs.Views.{kept_by, lanes_of, noted_of, IsSound}

module _ {I : Type 0} {H : I → Type 0} where
  -- the store is sound, and has this lane
  pub record HasLane (lane : ℕ) (s : Core I H) (v : (i : I) × H i → Holding) : Type 0 where
    pub sound : IsSound s v
    pub inside : lane < length (lanes_of s)

  -- and the lane knows of a group
  pub record Waits (lane : ℕ) (s : Core I H) (v : (i : I) × H i → Holding) : Type 0 where
    pub sound : IsSound s v
    pub inside : lane < length (lanes_of s)
    pub waits : IsWaiting (lanes_of s) lane

  -- and this group is the next of the lane
  pub record Comes (lane : ℕ) (group : List Record) (s : Core I H) (v : (i : I) × H i → Holding) : Type 0 where
    pub sound : IsSound s v
    pub inside : lane < length (lanes_of s)
    pub next : IsNext (lanes_of s) lane group

  -- the record is directed at this page, which is in memory
  pub record IsAt (page : ℕ) (item : Record) (s : Core I H) : Type 0 where
    pub here : IsHere (key_of item) s.pages.leaves
    pub directed : page ≡ directed_at s.pages.leaves.leaves item

  -- the frame in the making is open, and the next of the log
  pub record HasFrame (s : Core I H) (v : (i : I) × H i → Holding) : Type 0 where
    pub unsealed : s.pages.making.is_sealed ≡ false
    pub next : (kept_by s v).log.next ≡ Some s.pages.making.frame

  -- the group's entries are packed, and all its pages are in memory
  pub record IsPacked (lane : ℕ) (group : List Record) (packed : List Entry) (s : Core I H) : Type 0 where
    pub entries : packed ≡ entered lane (marked group)
    pub records : history.records packed ≡ group
    pub here : AreHere s.pages.leaves group
    pub lawful : AllByRecursion IsOp group

  -- a take of the next group, which there may not be: the store stays sound, its lanes stay as
  -- many, and if there was none, all that the lane's ring had was taken before
  pub record TakesAny (lane : ℕ) (old : Core I H) (result : Result (Option ℕ) StoreFault) (new : Core I H) (v : (i : I) × H i → Holding) : Type 0 where
    pub sound : IsSound new v
    pub count : length (lanes_of new) ≡ length (lanes_of old)
    pub dry : IfOk result (λ took. IfNone took (Dries lane (lanes_of old) (lanes_of new)))
    pub knows : IfOk result (λ took. MatchOption took (KnowMore (lanes_of old) (lanes_of new)) (λ _. KnowAfter lane (lanes_of old) (lanes_of new)))
    pub few : IfOk result (λ took. IfSome took (λ n. n ≤ 4))
    pub noted : noted_of new ≡ noted_of old

  -- a take of a group that the lane knows of: no ring is looked at, and the group leaves the lane
  pub record TakesWaiting (lane : ℕ) (old : Core I H) (result : Result (Unit {0}) StoreFault) (new : Core I H) (v : (i : I) × H i → Holding) : Type 0 where
    pub sound : IsSound new v
    pub count : length (lanes_of new) ≡ length (lanes_of old)
    pub given : OnOk result (map ends.given (lanes_of new) ≡ map ends.given (lanes_of old))
    pub known : OnOk result (TookKnown lane (lanes_of old) (lanes_of new))
    -- a refusal leaves all lanes as they were
    pub stays : OnErr result (lanes_of new ≡ lanes_of old)
    pub noted : noted_of new ≡ noted_of old

  -- a take of this group
  pub record TakesGroup (lane : ℕ) (old : Core I H) (result : Result (Unit {0}) StoreFault) (new : Core I H) (v : (i : I) × H i → Holding) : Type 0 where
    pub sound : IsSound new v
    pub count : length (lanes_of new) ≡ length (lanes_of old)
    pub given : OnOk result (map ends.given (lanes_of new) ≡ map ends.given (lanes_of old))
    pub known : OnOk result (TookKnown lane (lanes_of old) (lanes_of new))
    pub stays : OnErr result (lanes_of new ≡ lanes_of old)
    pub noted : noted_of new ≡ noted_of old

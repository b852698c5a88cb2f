-- What a stop may leave after each way to a home, and after a life.

use Rattle.std.proofs.Common.{◌≡◌, inl, inr, ℕ, true, Option, Some, zero, suc, List, [], ◌∷◌, ◌++◌, length, map, drop, take, refl, sym, ap, subst, ◌∙◌, arith}
use Rattle.std.specs.Prelude.{Result, Ok, Err, slice_index_or}
use Rattle.std.specs.Option.{option_map}
use Rattle.std.specs.List.{fold, AllByRecursion}
use Rattle.std.proofs.lemmas.List.{length-map}
use Rattle.bw_device.specs.Holding.{Holding}
use Rattle.bw_record.specs.declared.record.Record.{Record}
use Rattle.bw_leaf.specs.Changed.{Map, changed_map}
use Rattle.bw_page.specs.Leaves.{plain}
use Rattle.bw_ring.specs.Ends.{accepted}
use Rattle.bw_ring.specs.Marks.{Marked}
use Rattle.bw_ring.specs.declared.feed.Feed.{Feed}
use Rattle.bw_log.specs.Contents.{boxes}
use Rattle.bw_history.specs.declared.entry.Entry.{Entry}
use Rattle.bw_history.specs.History.{streams}
use Rattle.bw_history.specs.Machine.{IsMachine, Machine, MayLeave}
use Rattle.bw_core.specs.Heard.{EachBegins, IsOfFeeds}
use Rattle.bw_core.specs.Kept.{IsSound, Kept}
use Rattle.bw_core.specs.Machine.{machine_of}
use Rattle.bw_core.specs.Opened.{AreUnused}
use Rattle.bw_core.specs.Reopened.{Begins}
use Rattle.bw_core.proofs.Relived.{go_on}
use Rattle.bw_record.specs.declared.record.Record.TheVariants.{Del}
use Rattle.bw_rows.specs.Spelling.{Bytes, name_key, chunk_key, chunk_place}
use Rattle.bw_rows.specs.Meaning.{Plain, Tables, tables_of, table_in, with_value}
use Rattle.bw_rows.specs.Law.{is_doomed}
use Rattle.bw_rows.specs.Laws.{IsLawful, IsTables, HasNumber}
use Rattle.bw_rows.specs.Steps.{after}
use Rattle.bw_home.specs.Cuts.{ChangedCuts, IsAmong, IsLater, RefusedCuts}
use Rattle.bw_home.specs.Laws.{cuts_of}
use Rattle.bw_home.specs.Maps.{cuts_by, map_of, maps_of, IsMapBy, Keeps, StaysMap}
use Rattle.bw_home.specs.declared.fault.MapFault.{MapFault}
use Rattle.bw_home.specs.declared.fault.MapFault.TheVariants.{NotKept, NotPut, Waits, Writers}
use Rattle.bw_home.specs.declared.home.Home.{Home}
use Rattle.bw_home.proofs.Cuts.{begin_put, kept_cuts, left_among}
use Rattle.bw_calls.specs.Lives.{IsIn, HasSome, HaveSome, StopsWith, LeavesSome, Reads, Writes}
use Rattle.bw_calls.specs.Standing.{plain_in}
use Rattle.bw_calls.proofs.PlainLaws.{plain_of, all_changes, chunk_goes, itself}

-- ---- maps with some tables

all_drop : (P : Map → Type 0) (k : ℕ) (ms : List Map) → AllByRecursion P ms → AllByRecursion P (drop k ms)
all_drop P zero ms all = all
all_drop P (suc k) [] all = all
all_drop P (suc k) (m ∷ ms) all = all_drop P k ms all.1

all_push : (P : Map → Type 0) (ms : List Map) (m : Map) → AllByRecursion P ms → P m → AllByRecursion P (ms ++ m ∷ [])
all_push P [] m all its = (its, tt)
all_push P (x ∷ ms) m all its = (all.0, all_push P ms m all.1 its)

later_some : (ts : List Tables) (old new : List Map) → IsLater old new → HaveSome ts old → HaveSome ts new
later_some ts old new later all = subst (HaveSome ts) (sym later.2) (all_drop (λ m. HasSome ts (plain_of m)) later.0 old all)

refused_some : (ts : List Tables) (fault : MapFault) (old : List Map) (changed : Map) (new : List Map) → RefusedCuts fault old changed new
    → HaveSome ts old → HasSome ts (plain_of changed) → HaveSome ts new
refused_some ts Writers old changed new later all some = later_some ts old new later all
refused_some ts (NotPut cause) old changed new later all some = later_some ts old new later all
refused_some ts (Waits cause) old changed new later all some =
    later_some ts (old ++ changed ∷ []) new later (all_push (λ m. HasSome ts (plain_of m)) old changed all some)
refused_some ts (NotKept cause) old changed new later all some = later_some ts old new later all

changed_some : (ts : List Tables) (r : Result (Unit {0}) MapFault) (old : List Map) (changed : Map) (new : List Map) → ChangedCuts r old changed new
    → HaveSome ts old → HasSome ts (plain_of changed) → HaveSome ts new
changed_some ts (Ok x) old changed new later all some =
    later_some ts (old ++ changed ∷ []) new later (all_push (λ m. HasSome ts (plain_of m)) old changed all some)
changed_some ts (Err fault) old changed new cuts all some = refused_some ts fault old changed new cuts all some

pub some_among : (ts : List Tables) (maps : List Map) (m : Map) → HaveSome ts maps → IsAmong maps m → HasSome ts (plain_of m)
some_among ts [] m all among = absurd among
some_among ts (x ∷ maps) m all (inl is) = subst (λ (k : Map). HasSome ts (plain_of k)) (sym is) all.0
some_among ts (x ∷ maps) m all (inr among) = some_among ts maps m all.1 among

-- ---- ways

module _ {I : Type 0} {H : I → Type 0} where
  pub reads_by : (old new : Home I H) (v : (i : I) × H i → Holding) → StaysMap old new v → Reads old new v
  reads_by old new v stays ts stops = record { map = stays.map stops.map; cuts = later_some ts _ _ (stays.cuts stops.map) stops.cuts }

  pub writes_by : (old new : Home I H) (v : (i : I) × H i → Holding) (r : Result (Unit {0}) MapFault) (group : List Record)
      → (IsMapBy old v → IsMapBy new v)
      → (IsMapBy old v → ChangedCuts r (maps_of old v).cuts (fold changed_map (maps_of old v).put group) (maps_of new v).cuts)
      → Writes (after (plain_in old v) group) old new v
  writes_by old new v r group is cuts ts some stops =
      let put = (maps_of old v).put in
      record {
        map = is stops.map;
        cuts = changed_some ts r _ (fold changed_map put group) _ (cuts stops.map) stops.cuts (subst (HasSome ts) (sym (all_changes put group)) some);
      }

  -- all that was put is kept
  pub kept_some : (old new : Home I H) (v : (i : I) × H i → Holding) → IsLawful (plain_in old v) → StaysMap old new v → IsMapBy old v
      → Keeps (maps_of old v).put (maps_of new v) → LeavesSome (tables_of (plain_in old v) ∷ []) new v
  kept_some old new v lawful stays is keeps =
      let tables = tables_of (plain_in old v) in
      record {
        map = stays.map is;
        cuts = subst (HaveSome (tables ∷ [])) (sym keeps.cuts) ((tables, inl refl, inl (itself (plain_in old v) lawful)), tt);
      }

-- ---- tables of maps that are the same

pub in_its : (ts : List Tables) (tables : Tables) (p : Plain) → IsTables tables p → IsIn tables ts → IsIn (tables_of p) ts
in_its ts tables p h among = subst (λ (t : Tables). IsIn t ts) (sym h.its) among

pub in_moved : (ts : List Tables) (m new : Map) → new ≡ m → IsIn (tables_of (plain_of m)) ts → IsIn (tables_of (plain_of new)) ts
in_moved ts m new same among = subst (λ (x : Map). IsIn (tables_of (plain_of x)) ts) (sym same) among

pub set_moved : (ts : List Tables) (m new : Map) (name key : Bytes) (value : Option Bytes) → new ≡ m
    → IsIn (with_value (tables_of (plain_of m)) name key value) ts → IsIn (with_value (tables_of (plain_of new)) name key value) ts
set_moved ts m new name key value same among = subst (λ (x : Map). IsIn (with_value (tables_of (plain_of x)) name key value) ts) (sym same) among

pub number_moved : (m new : Map) (name t : Bytes) → new ≡ m → Some t ≡ option_map table_in (plain_of m (name_key name)) → HasNumber (plain_of new) name t
number_moved m new name t same told = subst (λ (x : Map). HasNumber (plain_of x) name t) (sym same) (sym told)

-- a chunk of a doomed number goes away
pub after_chunk : (ts : List Tables) (p : Plain) (n : Bytes) (i : ℕ) (group : List Record) → length n ≡ 8 → group ≡ Del (chunk_key (chunk_place n i)) ∷ []
    → IsLawful p → is_doomed p n ≡ true → IsIn (tables_of p) ts → HasSome ts (after p group)
after_chunk ts p n i group wide is lawful doomed among =
    subst (λ (g : List Record). HasSome ts (after p g)) (sym is) (tables_of p, among, inl (chunk_goes p n i wide lawful doomed))

-- ---- lives

pub stopped : (ts : List Tables) (feeds : List Feed) (s : Kept) (left : List Entry) → StopsWith ts feeds s → IsMachine (machine_of s)
    → MayLeave (machine_of s) left → HasSome ts (plain_of (map_of s left))
stopped ts feeds s left stops machine may =
    some_among ts (cuts_of feeds s) (map_of s left) stops.cuts (left_among s _ left machine (begin_put feeds s.entries stops.map.one stops.map.heard) may)

take_none : (n : ℕ) (es : List Entry) → es ≡ [] → take n es ≡ []
take_none zero es none = refl
take_none (suc n) es none = ap (λ (l : List Entry). take (suc n) l) none

abbrev no_records : List Marked
no_records = []

-- feeds that accepted nothing, and no entries
unused_heard : (feeds : List Feed) (es : List Entry) → length feeds ≡ 1 → map accepted feeds ≡ no_records ∷ [] → es ≡ [] → IsOfFeeds feeds es
unused_heard feeds es one nothing none =
    let first : EachBegins (streams 0 1 []) (no_records ∷ []) = (([], refl), tt) in
    let counted : EachBegins (streams 0 (length feeds) []) (no_records ∷ []) = subst (λ n. EachBegins (streams 0 n []) (no_records ∷ [])) (sym one) first in
    let heard : EachBegins (streams 0 (length feeds) []) (map accepted feeds)
    = subst (λ (l : List (List Marked)). EachBegins (streams 0 (length feeds) []) l) (sym nothing) counted in
    subst (λ (l : List Entry). IsOfFeeds feeds l) (sym none) record { begins = heard; writers = tt }

pub went_on : (ts : List Tables) (feeds fresh : List Feed) (old new : Kept) (places : ℕ) → StopsWith ts feeds old → IsSound old → IsMachine (machine_of old)
    → Begins (boxes old.log) new → AreUnused 1 places fresh → StopsWith ts fresh new
went_on ts feeds fresh old new places stops sound machine begins unused =
    let relives = go_on old new sound begins in
    let among : IsAmong (cuts_of feeds old) (plain new.start []) =
    subst (λ (m : Map). IsAmong (cuts_of feeds old) m) (sym (ap (λ (m : Machine). m.start) relives.machine))
    (left_among old _ relives.left machine (begin_put feeds old.entries stops.map.one stops.map.heard) relives.may_leave) in
    let some = some_among ts (cuts_of feeds old) (plain new.start []) stops.cuts among in
    let count = length-map fresh accepted in
    let ends = ap (λ (l : List (List Marked)). length l) unused.nothing in
    let one : length fresh ≡ 1 = omega arith in
    let durable = (machine_of new).durable in
    let kept : map_of new (take durable new.entries) ≡ plain new.start [] = ap (λ (l : List Entry). map_of new l) (take_none durable new.entries begins.entries) in
    let put : slice_index_or (map accepted fresh) 0 no_records ≡ [] = ap (λ (l : List (List Marked)). slice_index_or l 0 no_records) unused.nothing in
    let only : cuts_of fresh new ≡ plain new.start [] ∷ [] =
    ap (λ (l : List Marked). cuts_by new l) put ∙ kept_cuts (map_of new (take durable new.entries)) durable [] (omega arith) ∙ ap (λ (m : Map). m ∷ []) kept in
    record {
      map = record { one = one; heard = unused_heard fresh new.entries one unused.nothing begins.entries };
      cuts = subst (HaveSome ts) (sym only) (some, tt);
    }

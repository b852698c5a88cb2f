-- A store with readers makes the steps of the machine.

use Rattle.std.proofs.Common.{◌≡◌, ◌⊎◌, ℕ, zero, suc, inl, inr, Option, Some, Result, Ok, Err, length, ap, ◌∙◌, MatchResult}
use Rattle.std.proofs.lemmas.List.{length-take-le}
use Rattle.bw_versions.specs.Posted.{Posted, entries_in, posted_of}
use Rattle.bw_history.specs.History.{cut}
use Rattle.bw_history.specs.Machine.{Machine, Stops, TakesAndKeeps, TakesAndStops, TakesMany, TakesOne, keeps, shows}
use Rattle.bw_core.specs.Machine as core_machine
use Rattle.bw_terms.specs.declared.fault.TurnFault.{TurnFault}
use Rattle.bw_core.proofs.Machines.{may_leave}
use Rattle.bw_core.proofs.RecordMore.{cut_within}
use Rattle.bw_store.specs.Kept.{IsSound, Kept, core_of}
use Rattle.bw_store.specs.Machine.{MayBeStopped, TakesKeepsShows, machine_of}
use Rattle.bw_store.specs.Showing.{Hides, Shows}

-- a machine of which so many entries are shown
abbrev seen : ℕ → Machine → Machine
seen n m = record m { shown = n }

-- ---- the steps of a core, beside readers that see the same

one_seen : (n : ℕ) (a b : Machine) → TakesOne a b → TakesOne (seen n a) (seen n b)
one_seen n a b t = (t.0, t.1, elim t.2 [ inl e ↦ inl (ap (seen n) e) | inr e ↦ inr (ap (seen n) e) ])

many_seen : (n k : ℕ) (a b : Machine) → TakesMany k a b → TakesMany k (seen n a) (seen n b)
many_seen n zero a b t = ap (seen n) t
many_seen n (suc k) a b t = (seen n t.0, many_seen n k a t.0 t.1, one_seen n t.0 b t.2)

stops_seen : (n : ℕ) (a b : Machine) → (b ≡ keeps a) ⊎ Stops a b → (seen n b ≡ keeps (seen n a)) ⊎ Stops (seen n a) (seen n b)
stops_seen n a b (inl e) = inl (ap (seen n) e)
stops_seen n a b (inr (inl e)) = inr (inl (ap (seen n) e))
stops_seen n a b (inr (inr e)) = inr (inr (ap (seen n) e))

takes_stops_seen : (n : ℕ) (a b : Machine) → TakesAndStops a b → TakesAndStops (seen n a) (seen n b)
takes_stops_seen n a b t = (t.0, seen n t.1, many_seen n t.0 a t.1 t.2, stops_seen n t.1 b t.3)

takes_keeps_seen : (n : ℕ) (a b : Machine) → TakesAndKeeps a b → TakesAndKeeps (seen n a) (seen n b)
takes_keeps_seen n a b t = (t.0, seen n t.1, many_seen n t.0 a t.1 t.2, ap (seen n) t.3)

-- how many entries readers of a store see
abbrev shown_in : Kept → ℕ
shown_in s = length (entries_in (posted_of s.versions.published))

-- readers see the same
beside : (old new : Kept) → new.versions ≡ old.versions → machine_of new ≡ seen (shown_in old) (core_machine.machine_of (core_of new))
beside old new same = ap (λ n. seen n (core_machine.machine_of (core_of new))) (ap (λ v. length (entries_in (posted_of v.published))) same)

pub turn_steps : (old new : Kept) (groups : ℕ) (r : Result ℕ TurnFault)
    → MatchResult r (λ _. TakesMany groups (core_machine.machine_of (core_of old)) (core_machine.machine_of (core_of new)))
    (λ _. TakesAndStops (core_machine.machine_of (core_of old)) (core_machine.machine_of (core_of new)))
    → new.versions ≡ old.versions
    → MatchResult r (λ _. TakesMany groups (machine_of old) (machine_of new)) (λ _. TakesAndStops (machine_of old) (machine_of new))
turn_steps old new groups (Ok n) steps same = rw (beside old new same)
    (many_seen (shown_in old) groups (core_machine.machine_of (core_of old)) (core_machine.machine_of (core_of new)) steps)
turn_steps old new groups (Err fault) steps same = rw (beside old new same)
    (takes_stops_seen (shown_in old) (core_machine.machine_of (core_of old)) (core_machine.machine_of (core_of new)) steps)

-- ---- a publication

length_of : (o : Option Posted) (p : Posted) → o ≡ Some p → length (entries_in o) ≡ length p.entries
length_of o p e = ap (λ x. length (entries_in x)) e

pub shows_machine : (middle new : Kept) → IsSound middle → Shows middle new → machine_of new ≡ shows (machine_of middle)
shows_machine middle new sound x =
    let c = cut middle.cuts middle.durable in
    let many = length_of (posted_of new.versions.published) _ x.shown
    ∙ length-take-le c middle.entries (cut_within middle.cuts (length middle.entries) middle.durable sound.base.ordered) in
    let core_same = ap (λ (s : Kept). core_machine.machine_of (core_of s)) x.is in
    ap (λ m. seen (shown_in new) m) core_same ∙ ap (λ n. seen n (core_machine.machine_of (core_of middle))) many

pub hides_machine : (middle new : Kept) → Hides middle new → machine_of new ≡ machine_of middle
hides_machine middle new x = ap machine_of x.is

-- ---- the calls that end with a publication

-- all that was taken is kept, and then shown
pub keeps_shows : (old middle new : Kept) → IsSound middle → core_machine.machine_of (core_of middle) ≡ keeps (core_machine.machine_of (core_of old))
    → middle.versions ≡ old.versions → Shows middle new → machine_of new ≡ shows (keeps (machine_of old))
keeps_shows old middle new sound kept same x =
    shows_machine middle new sound x ∙ ap shows (beside old middle same ∙ ap (seen (shown_in old)) kept)

-- the publication was refused
pub keeps_hides : (old middle new : Kept) → core_machine.machine_of (core_of middle) ≡ keeps (core_machine.machine_of (core_of old))
    → middle.versions ≡ old.versions → Hides middle new → machine_of new ≡ keeps (machine_of old)
keeps_hides old middle new kept same x = hides_machine middle new x ∙ beside old middle same ∙ ap (seen (shown_in old)) kept

-- the core's call was refused
pub refused_seen : (old new : Kept) → (core_machine.machine_of (core_of new) ≡ keeps (core_machine.machine_of (core_of old)))
    ⊎ Stops (core_machine.machine_of (core_of old)) (core_machine.machine_of (core_of new)) → new.versions ≡ old.versions
    → (machine_of new ≡ keeps (machine_of old)) ⊎ Stops (machine_of old) (machine_of new)
refused_seen old new steps same = rw (beside old new same)
    (stops_seen (shown_in old) (core_machine.machine_of (core_of old)) (core_machine.machine_of (core_of new)) steps)

-- ---- a settlement

pub settle_shows : (old middle new : Kept) → IsSound middle
    → TakesAndKeeps (core_machine.machine_of (core_of old)) (core_machine.machine_of (core_of middle)) → middle.versions ≡ old.versions → Shows middle new
    → TakesKeepsShows (machine_of old) (machine_of new)
settle_shows old middle new sound steps same x =
    let core_old = core_machine.machine_of (core_of old) in
    let core_middle = core_machine.machine_of (core_of middle) in (
      seen (shown_in old) core_middle,
      takes_keeps_seen (shown_in old) core_old core_middle steps,
      shows_machine middle new sound x ∙ ap shows (beside old middle same),
    )

pub settle_hides : (old middle new : Kept) → TakesAndKeeps (core_machine.machine_of (core_of old)) (core_machine.machine_of (core_of middle))
    → middle.versions ≡ old.versions → Hides middle new → TakesAndStops (machine_of old) (machine_of new)
settle_hides old middle new steps same x =
    let core_old = core_machine.machine_of (core_of old) in (
      steps.0,
      seen (shown_in old) steps.1,
      many_seen (shown_in old) steps.0 core_old steps.1 steps.2,
      inl (hides_machine middle new x ∙ beside old middle same ∙ ap (seen (shown_in old)) steps.3),
    )

pub settle_stops : (old new : Kept) → TakesAndStops (core_machine.machine_of (core_of old)) (core_machine.machine_of (core_of new))
    → new.versions ≡ old.versions → TakesAndStops (machine_of old) (machine_of new)
settle_stops old new steps same = rw (beside old new same)
    (takes_stops_seen (shown_in old) (core_machine.machine_of (core_of old)) (core_machine.machine_of (core_of new)) steps)

-- ---- a stop

pub left : (s : Kept) → IsSound s → MayBeStopped s
left s h = may_leave (core_of s) h.base

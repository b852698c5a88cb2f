-- What holds of a home that was just opened.

use Rattle.std.proofs.Common.{◌≡◌, ℕ, zero, suc, inl, inr, List, [], ◌∷◌, length, map, take, refl, sym, ap, ◌∙◌, subst, arith}
use Rattle.std.specs.Prelude.{slice_index_or, replicate, MatchResult, Ok, Err, Result}
use Rattle.std.specs.declared.alloc.Global.{Global}
use Rattle.std.specs.declared.vec.Vec.{Vec}
use Rattle.std.proofs.lemmas.List.{length-map, length-replicate}
use Rattle.bw_device.specs.Holding.{Holding}
use Rattle.bw_leaf.specs.Changed.{Map}
use Rattle.bw_page.specs.Leaves.{pages, plain, union}
use Rattle.bw_ring.specs.Ends.{accepted}
use Rattle.bw_ring.specs.Marks.{Marked}
use Rattle.bw_ring.specs.declared.feed.Feed.{Feed}
use Rattle.bw_log.specs.Contents.{boxes}
use Rattle.bw_lines.specs.declared.cause.RecoverCause.{RecoverCause}
use Rattle.bw_lines.specs.declared.cause.RecoverCause.TheVariants.{Empty}
use Rattle.bw_care.specs.Recovery.{Finding, recovery}
use Rattle.bw_history.specs.declared.entry.Entry.{Entry}
use Rattle.bw_history.specs.Entries.{records}
use Rattle.bw_history.specs.History.{cut, streams}
use Rattle.bw_history.specs.Machine.{MayLeave, begun}
use Rattle.bw_core.specs.Heard.{EachBegins, IsOfFeeds}
use Rattle.bw_core.specs.Kept.{IsSound, Kept}
use Rattle.bw_core.specs.Machine.{machine_of}
use Rattle.bw_core.specs.Opened.{AreUnused}
use Rattle.bw_core.specs.Reopened.{Begins}
use Rattle.bw_core.specs.Views.{kept_by}
use Rattle.bw_core.specs.declared.store.Core.{Core}
use Rattle.bw_core.proofs.Machines.{may_leave}
use Rattle.bw_store.specs.Kept.{core_of}
use Rattle.bw_store.specs.Views as shared
use Rattle.bw_store.specs.declared.store.Store.{Store}
use Rattle.bw_home.specs.Beginning.{AreBegun, IsBegun}
use Rattle.bw_home.specs.Cuts.{IsMap}
use Rattle.bw_home.specs.Maps.{Keeps, accepted_in, cuts_by, map_of, maps_of}
use Rattle.bw_home.specs.Ready.{kept_in}
use Rattle.bw_home.specs.declared.home.Home.{Home}
use Rattle.bw_home.proofs.Cuts.{kept_cuts}

abbrev no_marks : List Marked
no_marks = []

-- ---- feeds that were never used

unused_put : (writers places : ℕ) (feeds : List Feed) → AreUnused writers places feeds → map accepted feeds ≡ replicate (length feeds) no_marks
unused_put writers places feeds unused =
    let count = length-map feeds accepted in
    let ends = ap (λ (l : List (List Marked)). length l) unused.nothing in
    let long = length-replicate writers no_marks in
    let same : writers ≡ length feeds = omega arith in
    unused.nothing ∙ ap (λ n. replicate n no_marks) same

-- a store whose feeds were never used, and that has no entry and no cut
pub begun_by : (writers places : ℕ) (feeds : List Feed) (entries : List Entry) (cuts : List ℕ) → AreUnused writers places feeds → entries ≡ [] → cuts ≡ []
    → AreBegun feeds entries cuts
begun_by writers places feeds entries cuts unused taken sealed =
    record { put = unused_put writers places feeds unused; taken = taken; sealed = sealed }

module _ {I : Type 0} {H : I → Type 0} where
  pub begun_home : (writers places : ℕ) (now store : Core I H) (ends feeds : Vec Feed Global) → now ≡ store → ends ≡ feeds
      → AreUnused writers places feeds.items → store.intake.history.items ≡ [] → store.seals.cuts.items ≡ []
      → AreBegun ends.items now.intake.history.items now.seals.cuts.items
  begun_home writers places now store ends feeds same kin unused taken sealed =
      begun_by writers places ends.items now.intake.history.items now.seals.cuts.items
      (subst (λ (f : Vec Feed Global). AreUnused writers places f.items) (sym kin) unused)
      (ap (λ (s : Core I H). s.intake.history.items) same ∙ taken) (ap (λ (s : Core I H). s.seals.cuts.items) same ∙ sealed)

  pub begins_home : (held : List Holding) (now store : Core I H) (v : (i : I) × H i → Holding) → now ≡ store → Begins held (kept_by store v)
      → Begins held (kept_by now v)
  begins_home held now store v same begins = subst (λ (s : Core I H). Begins held (kept_by s v)) (sym same) begins

  -- ---- with readers

  pub begun_shared : (writers places : ℕ) (now store : Store I H) (ends feeds : Vec Feed Global) → now ≡ store → ends ≡ feeds
      → AreUnused writers places feeds.items → store.core.intake.history.items ≡ [] → store.core.seals.cuts.items ≡ []
      → AreBegun ends.items now.core.intake.history.items now.core.seals.cuts.items
  begun_shared writers places now store ends feeds same kin unused taken sealed =
      begun_by writers places ends.items now.core.intake.history.items now.core.seals.cuts.items
      (subst (λ (f : Vec Feed Global). AreUnused writers places f.items) (sym kin) unused)
      (ap (λ (s : Store I H). s.core.intake.history.items) same ∙ taken) (ap (λ (s : Store I H). s.core.seals.cuts.items) same ∙ sealed)

  pub begins_shared : (held : List Holding) (now store : Store I H) (v : (i : I) × H i → Holding) → now ≡ store
      → Begins held (core_of (shared.kept_by store v)) → Begins held (core_of (shared.kept_by now v))
  begins_shared held now store v same begins = subst (λ (s : Store I H). Begins held (core_of (shared.kept_by s v))) (sym same) begins

-- ---- one map

take_none : (n : ℕ) (es : List Entry) → es ≡ [] → take n es ≡ []
take_none zero es none = refl
take_none (suc n) es none = ap (λ (l : List Entry). take (suc n) l) none

first_none : (n : ℕ) → slice_index_or (replicate n no_marks) 0 no_marks ≡ []
first_none zero = refl
first_none (suc n) = refl

put_none : (feeds : List Feed) → map accepted feeds ≡ replicate (length feeds) no_marks → slice_index_or (map accepted feeds) 0 no_marks ≡ []
put_none feeds put = ap (λ (l : List (List Marked)). slice_index_or l 0 no_marks) put ∙ first_none (length feeds)

module _ {I : Type 0} {H : I → Type 0} where
  pub keeps_its_map : (h : Home I H) (v : (i : I) × H i → Holding) → IsBegun h v → Keeps (plain (kept_in h v).start []) (maps_of h v)
  keeps_its_map h v b =
      let s = kept_in h v in
      let durable = (machine_of s).durable in
      let put : accepted_in h ≡ no_marks = put_none h.feeds.items b.put in
      let kept : map_of s (take durable s.entries) ≡ plain s.start [] = ap (λ (l : List Entry). map_of s l) (take_none durable s.entries b.taken) in
      record {
        has = record {
          put = ap (λ (l : List Marked). plain s.start (map (λ (m : Marked). m.item) l)) put;
          now = ap (λ (l : List Entry). map_of s l) b.taken;
        };
        kept = kept;
        cuts = ap (λ (l : List Marked). cuts_by s l) put ∙ kept_cuts (map_of s (take durable s.entries)) durable [] (omega arith)
            ∙ ap (λ (m : Map). m ∷ []) kept;
      }

-- ---- with one writer

pub is_a_map : (feeds : List Feed) (s : Kept) → AreBegun feeds s.entries s.cuts → length feeds ≡ 1 → IsMap feeds s
is_a_map feeds s b one =
    let only : map accepted feeds ≡ no_marks ∷ [] = b.put ∙ ap (λ n. replicate n no_marks) one in
    let first : EachBegins (streams 0 1 []) (no_marks ∷ []) = (([], refl), tt) in
    let counted : EachBegins (streams 0 (length feeds) []) (no_marks ∷ []) = subst (λ n. EachBegins (streams 0 n []) (no_marks ∷ [])) (sym one) first in
    let heard : EachBegins (streams 0 (length feeds) []) (map accepted feeds)
    = subst (λ (l : List (List Marked)). EachBegins (streams 0 (length feeds) []) l) (sym only) counted in
    record { one = one; heard = subst (λ (l : List Entry). IsOfFeeds feeds l) (sym b.taken) record { begins = heard; writers = tt } }

-- ---- as a machine

cut_none : (cuts : List ℕ) (k : ℕ) → cuts ≡ [] → cut cuts k ≡ 0
cut_none cuts zero none = refl
cut_none cuts (suc k) none = ap (λ (l : List ℕ). cut l (suc k)) none

machine_as : (start : Map) (entries : List Entry) (durable written : ℕ) → entries ≡ [] → durable ≡ 0 → written ≡ 0
    → record (begun start) { entries = entries; durable = durable; written = written } ≡ begun start
machine_as start entries durable written a b c =
    ap (λ (l : List Entry). record (begun start) { entries = l; durable = durable; written = written }) a
    ∙ ap (λ n. record (begun start) { durable = n; written = written }) b ∙ ap (λ n. record (begun start) { written = n }) c

pub begins_as : (feeds : List Feed) (s : Kept) → AreBegun feeds s.entries s.cuts → machine_of s ≡ begun (union s.start)
begins_as feeds s b =
    machine_as (union s.start) s.entries (cut s.cuts s.durable) (cut s.cuts (length s.cuts)) b.taken (cut_none s.cuts s.durable b.sealed)
    (cut_none s.cuts (length s.cuts) b.sealed)

-- ---- what recovery finds

left_none : (s : Kept) (left : List Entry) → s.entries ≡ [] → MayLeave (machine_of s) left → left ≡ []
left_none s left none may = elim may [
  | inl is ↦ is ∙ take_none (machine_of s).durable s.entries none
  | inr is ↦ is ∙ take_none (machine_of s).written s.entries none
]

found_start : (s : Kept) (r : Result Finding RecoverCause) → s.entries ≡ []
    → MatchResult r (λ f. (left : List Entry) × MayLeave (machine_of s) left × (f.leaves ≡ pages s.filed.m s.start (records left)))
    (λ e. (e ≡ Empty) × (s.before ≡ 0) × (s.durable ≡ 0))
    → MatchResult r (λ f. f.leaves ≡ s.start) (λ e. (e ≡ Empty) × (s.before ≡ 0))
found_start s (Ok f) none found =
    found.2 ∙ ap (λ (l : List Entry). pages s.filed.m s.start (records l)) (left_none s found.0 none found.1)
found_start s (Err e) none found = (found.0, found.1)

pub is_found : (feeds : List Feed) (s : Kept) → AreBegun feeds s.entries s.cuts → IsSound s
    → MatchResult (recovery (boxes s.log)) (λ f. f.leaves ≡ s.start) (λ e. (e ≡ Empty) × (s.before ≡ 0))
is_found feeds s b sound = found_start s (recovery (boxes s.log)) b.taken (may_leave s sound)

-- What the writing again of pages says of the store.

use Rattle.std.proofs.Common.{inl, inr, ◌≡◌, ℕ, ◌≤◌, ◌&&◌, true, Option, Some, None, Result, Ok, Err, List, [], ◌∷◌}
use Rattle.std.proofs.Common.{length, refl, sym, ap, ◌∙◌, subst, arith}
use Rattle.std.specs.Prelude.{nat_le, IfOk, IfErr}
use Rattle.std.specs.List.{AllByRecursion as All, list_all}
use Rattle.std.proofs.lemmas.Bool.{leb-true, and_parts}
use Rattle.bw_record.specs.declared.leaf.Leaf.{Leaf}
use Rattle.bw_page.specs.Leaves.{pages}
use Rattle.bw_page.specs.Standing.{Stand}
use Rattle.bw_log.specs.Contents as logs
use Rattle.bw_log.specs.Reads.{IsPage}
use Rattle.bw_log.specs.declared.fault.LogFault.{LogFault}
use Rattle.bw_log.specs.declared.fault.LogFault.TheVariants as log
use Rattle.bw_care.specs.Moving as care
use Rattle.bw_care.specs.Rewriting as rewrites
use Rattle.bw_care.proofs.BoxesGrown.{same_roster}
use Rattle.bw_history.specs.Entries.{records}
use Rattle.bw_terms.specs.declared.fault.StoreFault.{StoreFault}
use Rattle.bw_terms.specs.declared.fault.StoreFault.TheVariants as store
use Rattle.bw_core.specs.Faults.{FlushLeaves}
use Rattle.bw_terms.specs.Told.{fault_of}
use Rattle.bw_core.specs.Following.{Follows, HasBoxes}
use Rattle.bw_core.specs.Kept.{Kept, IsSound}
use Rattle.bw_core.specs.Rewriting.{are_pages, RewriteMoves}
use Rattle.bw_core.specs.Settled.{IsSettled}
use Rattle.bw_core.proofs.CleanedMore.{Begins, Cleans, StandsOn, moved_follows, moved_wrote, refused_wrote, stopped_roster}
use Rattle.bw_core.proofs.FramesBehind.{pages_counted}

-- ---- the pages are there

pages_in : (count : ℕ) (ps : List ℕ) (c : logs.Contents) → count ≤ length c.pages → are_pages count ps ≡ true → All (IsPage c) ps
pages_in count [] c many are = tt
pages_in count (p ∷ ps) c many are =
    let parts = and_parts (nat_le 1 p && nat_le p count) (list_all (λ q. nat_le 1 q && nat_le q count) ps) are in
    let one = and_parts (nat_le 1 p) (nat_le p count) parts.0 in
    let low = leb-true _ _ one.0 in
    let high = leb-true _ _ one.1 in
    ((low, omega arith), pages_in count ps c many parts.1)

-- the log after a flush knows each page of the store
pub all_there : (old s : Kept) (ps : List ℕ) → IsSound s → IsSettled s → length s.filed.leaves ≡ length old.filed.leaves
    → are_pages (length old.filed.leaves) ps ≡ true → All (IsPage s.log) ps
all_there old s ps h done same are =
    let stand : Stand s.log.m (logs.counted s.log) s.filed.leaves =
    subst (λ (ls : List Leaf). Stand s.log.m (logs.counted s.log) ls)
    (ap (λ m. pages m s.start (records s.entries)) (sym h.pairs) ∙ sym h.leaves) done.stands in
    let many = pages_counted s.log s.filed.leaves h.log stand in
    pages_in (length old.filed.leaves) ps s.log (omega arith) are

pub same_count : (old new : Kept) (o : Option ℕ) → FlushLeaves old (Ok o) new → length new.filed.leaves ≡ length old.filed.leaves
same_count old new None left = ap (λ (s : Kept). length s.filed.leaves) left.0
same_count old new (Some n) left = ap (λ (s : Kept). length s.filed.leaves) left.is

-- ---- the log after it

-- a rewriting that is not refused at once
pub held_of : (s : Kept) (ps : List ℕ) (cause : LogFault) (new : logs.Contents) → Begins s → rewrites.RefusesRewrite cause s.log ps new
    → care.StoppedBehind 0 s.log ps cause new
held_of s ps cause new b (inl failed) = (let works = b.works in let is = failed.2 in absurd cc)
held_of s ps cause new b (inr stopped) = stopped.1

pub rewrites_of : (s : Kept) (ps : List ℕ) (new : logs.Contents) (r : Result ℕ LogFault) → Begins s → logs.IsSound new
    → IfOk r (λ frames. care.MovedBehind 0 s.log new ps [] frames) → IfErr r (λ cause. rewrites.RefusesRewrite cause s.log ps new)
    → StandsOn s new → Cleans s (length ps) new
rewrites_of s ps new (Ok frames) b sound ok err stands = (moved_wrote s 0 ps frames (length ps) new b sound (omega arith) ok stands).0
rewrites_of s ps new (Err cause) b sound ok err stands =
    (refused_wrote s 0 ps cause (length ps) new b sound (omega arith) (held_of s ps cause new b err) stands).0

-- ---- what no rewriting takes back

moved_stays : (s new : Kept) (frames : ℕ) (log : logs.Contents) → logs.roster log ≡ logs.roster s.log
    → new ≡ Rattle.bw_core.specs.Cleaning.with_moved s frames s.floor new.newest new.making new.log → new.log ≡ log
    → Follows s new × HasBoxes s new
moved_stays s new frames log same is at = (
  record { continues = moved_follows s frames s.floor new.newest new.making new.log new (omega arith) is; floor = ap (λ (k : Kept). k.floor) is },
  record { same = ap logs.roster at ∙ same },
)

pub rewrite_stays : (s new : Kept) (ps : List ℕ) (r : Result ℕ StoreFault) → RewriteMoves s ps r new → Follows s new × HasBoxes s new
rewrite_stays s new ps (Ok frames) left =
    moved_stays s new frames new.log (same_roster s.log new.log left.log.boxes_grew) left.is refl
rewrite_stays s new ps (Err fault) left =
    moved_stays s new left.2.frames new.log (roster_by left.2.log) left.2.is refl
  where
    roster_by : rewrites.RefusesRewrite left.0 s.log ps new.log → logs.roster new.log ≡ logs.roster s.log
    roster_by (inl failed) = ap logs.roster failed.1
    roster_by (inr stopped) = stopped_roster 0 ps s.log new.log left.0 stopped.1

-- ---- no refusal of its own

never_by : (s new : Kept) (ps : List ℕ) (cause : LogFault) → store.NoPage ≡ fault_of cause → rewrites.RefusesRewrite cause s.log ps new.log → ⊥
never_by s new ps log.NoPage e (inl failed) = (let is = failed.0 in cc)
never_by s new ps log.NoPage e (inr stopped) = stopped.1.refused
never_by s new ps log.NoMemory e r = cc
never_by s new ps log.BadConfig e r = cc
never_by s new ps log.NoSegment e r = cc
never_by s new ps (log.Device lease) e r = cc
never_by s new ps log.Failed e r = cc
never_by s new ps log.Spent e r = cc

pub never_no_page : (s new : Kept) (ps : List ℕ) (r : Result ℕ StoreFault) → RewriteMoves s ps r new → r ≡ Err store.NoPage → ⊥
never_no_page s new ps (Ok frames) left e = cc
never_no_page s new ps (Err fault) left e =
    (let same : fault ≡ store.NoPage = cc in never_by s new ps left.0 (sym same ∙ left.1) left.2.log)

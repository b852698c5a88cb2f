-- What writers leave of their scripts.

use Rattle.std.specs.Prelude.{ℕ, ◌≤◌, ◌≡◌, List, [], ◌∷◌, ◌++◌, length, map, take}
use Rattle.std.specs.declared.alloc.Global.{Global}
use Rattle.std.specs.declared.vec.Vec.{Vec}
use Rattle.bw_record.specs.declared.record.Record.{Record}
use Rattle.bw_ring.specs.declared.feed.Feed.{Feed}
use Rattle.bw_ring.specs.Marks.{Marked, joined}
use Rattle.bw_ring.specs.Ends.{Ring, accepted, ring_of_feed}
use Rattle.bw_drive.specs.declared.writers.Job.{Job}
use Rattle.bw_drive.specs.declared.writers.Written.{Written}

-- ---- one writer

-- the feed of the job accepted so many records: the first ones of the script
abbrev pub IsWritten : Job → Written → Type 0
IsWritten j w =
    (ring_of_feed w.feed ≡ ring_of_feed j.feed)
    × (accepted w.feed ≡ accepted j.feed ++ take w.accepted (joined j.script.items))
    × (w.accepted ≤ length (joined j.script.items))

abbrev pub ring_of_job : Job → Ring
ring_of_job j = ring_of_feed j.feed

abbrev pub given_before : Job → List Marked
given_before j = accepted j.feed

abbrev pub script_of : Job → List Marked
script_of j = joined j.script.items

-- ---- all of them, in turn

-- the records of each script, group after group
abbrev pub texts : List (Vec (List Record) Global) → List (List Marked)
texts scripts = map (λ s. joined s.items) scripts

-- what each feed had accepted, followed by so many records of its script
abbrev pub after_scripts : List (List Marked) → List (List Marked) → List ℕ → List (List Marked)
after_scripts [] ss ks = []
after_scripts (g ∷ gs) [] ks = []
after_scripts (g ∷ gs) (s ∷ ss) [] = []
after_scripts (g ∷ gs) (s ∷ ss) (k ∷ ks) = (g ++ take k s) ∷ after_scripts gs ss ks

-- each number is at most the length of its script
abbrev pub AreWithin : List (List Marked) → List ℕ → Type 0
AreWithin ss [] = Unit {0}
AreWithin [] (k ∷ ks) = ⊥
AreWithin (s ∷ ss) (k ∷ ks) = (k ≤ length s) × AreWithin ss ks

-- the feeds, still those of their rings, and in each of them the first records of its script, so many
pub record Wrote (old : List Feed) (scripts : List (Vec (List Record) Global)) (counts : List ℕ) (new : List Feed) : Type 0 where
  pub rings : map ring_of_feed new ≡ map ring_of_feed old
  pub accepted : map accepted new ≡ after_scripts (map accepted old) (texts scripts) counts
  pub within : AreWithin (texts scripts) counts

-- the feeds, and in each of them the first records of its script, whatever their numbers
abbrev pub WroteSome : List Feed → List (Vec (List Record) Global) → List Feed → Type 0
WroteSome old scripts new = (counts : List ℕ) × Wrote old scripts counts new

-- Writers that have ended, one after the other.

use Rattle.std.proofs.Common.{ℕ, ◌≡◌, ◌≤◌, List, [], ◌∷◌, ◌++◌, length, map, take, refl, ap, sym, ◌∙◌, arith, append_assoc, append-nil, length-append}
use Rattle.bw_record.specs.declared.record.Record.{Record}
use Rattle.bw_ring.specs.declared.feed.Feed.{Feed}
use Rattle.bw_ring.specs.Marks.{joined}
use Rattle.bw_ring.specs.Ends.{accepted, ring_of_feed}
use Rattle.bw_drive.specs.declared.writers.Job.{Job}
use Rattle.bw_drive.specs.declared.writers.Writer.{Writer}
use Rattle.bw_drive.specs.declared.writers.Written.{Written}
use Rattle.bw_drive.specs.Pending.{job_of}
use Rattle.std.specs.declared.alloc.Global.{Global}
use Rattle.std.specs.declared.vec.Vec.{Vec}
use Rattle.bw_drive.specs.Written.{IsWritten, after_scripts, AreWithin, texts, WroteSome, ring_of_job, given_before, script_of}

-- of all jobs those before the rest have ended, and left these feeds and counts
pub record HaveEnded (jobs rest : List Job) (feeds : List Feed) (counts : List ℕ) : Type 0 where
  pub done : List Job
  pub whole : done ++ rest ≡ jobs
  pub rings : map ring_of_feed feeds ≡ map ring_of_job done
  pub gave : map accepted feeds ≡ after_scripts (map given_before done) (map script_of done) counts
  pub number : length counts ≡ length done
  pub within : AreWithin (map script_of done) counts

map_last : {A B : Type 0} (f : A → B) (xs : List A) (x : A) → map f (xs ++ x ∷ []) ≡ map f xs ++ f x ∷ []
map_last f [] x = refl
map_last f (y ∷ ys) x = ap (λ t. f y ∷ t) (map_last f ys x)

after_last : (done : List Job) (ks : List ℕ) (j : Job) (k : ℕ) → length ks ≡ length done
    → after_scripts (map given_before (done ++ j ∷ [])) (map script_of (done ++ j ∷ [])) (ks ++ k ∷ [])
    ≡ after_scripts (map given_before done) (map script_of done) ks ++ (given_before j ++ take k (script_of j)) ∷ []
after_last [] [] j k len = refl
after_last [] (n ∷ ks) j k len = absurd (omega arith)
after_last (d ∷ ds) [] j k len = absurd (omega arith)
after_last (d ∷ ds) (n ∷ ks) j k len = ap (λ t. (given_before d ++ take n (script_of d)) ∷ t) (after_last ds ks j k (omega arith))

within_last : (done : List Job) (ks : List ℕ) (j : Job) (k : ℕ) → length ks ≡ length done → AreWithin (map script_of done) ks
    → k ≤ length (script_of j) → AreWithin (map script_of (done ++ j ∷ [])) (ks ++ k ∷ [])
within_last [] [] j k len w le = (le, tt)
within_last [] (n ∷ ks) j k len w le = absurd (omega arith)
within_last (d ∷ ds) [] j k len w le = absurd (omega arith)
within_last (d ∷ ds) (n ∷ ks) j k len w le = (w.0, within_last ds ks j k (omega arith) w.1 le)

pub one_more : (jobs rest : List Job) (feeds : List Feed) (counts : List ℕ) (j : Job) (w : Written) → HaveEnded jobs (j ∷ rest) feeds counts
    → IsWritten j w → HaveEnded jobs rest (feeds ++ w.feed ∷ []) (counts ++ w.accepted ∷ [])
one_more jobs rest feeds counts j w e is = record {
  done = e.done ++ j ∷ [];
  whole = append_assoc e.done (j ∷ []) rest ∙ e.whole;
  rings = map_last ring_of_feed feeds w.feed ∙ ap (λ t. t ++ ring_of_feed w.feed ∷ []) e.rings
      ∙ ap (λ r. map ring_of_job e.done ++ r ∷ []) is.0 ∙ sym (map_last ring_of_job e.done j);
  gave = map_last accepted feeds w.feed ∙ ap (λ t. t ++ accepted w.feed ∷ []) e.gave
      ∙ ap (λ r. after_scripts (map given_before e.done) (map script_of e.done) counts ++ r ∷ []) is.1
      ∙ sym (after_last e.done counts j w.accepted e.number);
  number = omega (arith, length-append counts (w.accepted ∷ []), length-append e.done (j ∷ []), e.number);
  within = within_last e.done counts j w.accepted e.number e.within is.2;
}

-- ---- nothing was put

take_none : {A : Type 0} (xs : List A) → take 0 xs ≡ []
take_none [] = refl
take_none (x ∷ xs) = refl

none_after : (feeds : List Feed) (scripts : List (Vec (List Record) Global)) → length scripts ≡ length feeds
    → map accepted feeds ≡ after_scripts (map accepted feeds) (texts scripts) (map (λ f. 0) feeds)
none_after [] scripts len = refl
none_after (f ∷ fs) [] len = absurd (omega arith)
none_after (f ∷ fs) (s ∷ ss) len =
    let here : accepted f ≡ accepted f ++ take 0 (joined s.items) = sym (ap (λ t. accepted f ++ t) (take_none (joined s.items)) ∙ append-nil (accepted f)) in
    ap (λ t. t ∷ map accepted fs) here ∙ ap (λ t. (accepted f ++ take 0 (joined s.items)) ∷ t) (none_after fs ss (omega arith))

none_within : (feeds : List Feed) (scripts : List (Vec (List Record) Global)) → length scripts ≡ length feeds
    → AreWithin (texts scripts) (map (λ f. 0) feeds)
none_within [] scripts len = tt
none_within (f ∷ fs) [] len = absurd (omega arith)
none_within (f ∷ fs) (s ∷ ss) len = (omega arith, none_within fs ss (omega arith))

pub none_wrote : (old new : List Feed) (scripts : List (Vec (List Record) Global)) → length scripts ≡ length old → new ≡ old
    → WroteSome old scripts new
none_wrote old new scripts len e = (
  map (λ f. 0) old,
  record {
    rings = ap (map ring_of_feed) e;
    accepted = ap (map accepted) e ∙ none_after old scripts len;
    within = none_within old scripts len;
  },
)

-- ---- all have ended

-- if no writer is left, all jobs are done
pub all_done : (jobs : List Job) (left : List Writer) (feeds : List Feed) (counts : List ℕ) (had : HaveEnded jobs (map job_of left) feeds counts)
    → length left ≡ 0 → had.done ≡ jobs
all_done jobs [] feeds counts had none = sym (append-nil had.done) ∙ had.whole
all_done jobs (w ∷ ws) feeds counts had none = absurd (omega arith)

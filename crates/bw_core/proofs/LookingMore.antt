-- Looks at pages, one after the other, change nothing that a store keeps.

use Rattle.std.proofs.Common.{◌≡◌, ◌∙◌, ℕ, Ok, Result, ap, refl, subst}
use Rattle.bw_device.specs.Holding.{Holding}
use Rattle.bw_page.specs.Shown.{Shown, is_evicted_page}
use Rattle.bw_log.proofs.Fetched.{kept_same}
use Rattle.bw_terms.specs.declared.fault.StoreFault.{StoreFault}
use Rattle.bw_core.specs.declared.store.Core.{Core}
use Rattle.bw_core.specs.Kept.{Kept}
use Rattle.bw_core.specs.Looking.{LooksAt, OnlyReads}
use Rattle.bw_core.specs.Reading.{HasRead}
use Rattle.bw_core.specs.Views.{kept_by, noted_of, IsSound}
use Rattle.bw_core.proofs.FollowMore.{follows_as, follows_read}

-- nothing was read so far
nothing_read : (k : Kept) → HasRead k k
nothing_read k = record { is = refl; kept = kept_same k.log k.log refl }

module _ {I : Type 0} {H : I → Type 0} where
  -- all looks so far were answered: the store is as it was
  pub record Stays (old new : Core I H) (v : (i : I) × H i → Holding) : Type 0 where
    pub sound : IsSound new v
    pub same : kept_by new v ≡ kept_by old v
    pub pages : new.pages.leaves ≡ old.pages.leaves
    pub noted : noted_of new ≡ noted_of old

  pub stays_yet : (s : Core I H) (v : (i : I) × H i → Holding) → IsSound s v → Stays s s v
  stays_yet s v sound = record { sound = sound; same = refl; pages = refl; noted = refl }

  pub stays_on : {A : Type 0} (page : ℕ) (answer : A) (old mid new : Core I H) (v : (i : I) × H i → Holding) → Stays old mid v
      → LooksAt page mid (Ok answer) new v → Stays old new v
  stays_on page answer old mid new v stays looks = record {
    sound = looks.sound;
    same = looks.leaves ∙ stays.same;
    pages = looks.pages ∙ stays.pages;
    noted = looks.noted ∙ stays.noted;
  }

  -- a note that changes none of it
  pub stays_as : (old mid new : Core I H) (v : (i : I) × H i → Holding) → Stays old mid v → IsSound new v → kept_by new v ≡ kept_by mid v
      → new.pages.leaves ≡ mid.pages.leaves → noted_of new ≡ noted_of mid → Stays old new v
  stays_as old mid new v stays sound same pages noted = record {
    sound = sound;
    same = same ∙ stays.same;
    pages = pages ∙ stays.pages;
    noted = noted ∙ stays.noted;
  }

  -- a look after them, whatever its answer
  pub reads_behind : {A : Type 0} (page : ℕ) (result : Result A StoreFault) (old mid new : Core I H) (v : (i : I) × H i → Holding) → Stays old mid v
      → LooksAt page mid result new v → OnlyReads old new v
  reads_behind page result old mid new v stays looks =
      let read = subst (λ (k : Kept). HasRead k (kept_by new v)) stays.same looks.read in
      let turned = follows_read (kept_by old v) (kept_by new v) read in
      record {
        sound = looks.sound;
        read = read;
        evicted = λ p. ap (λ (f : Shown). is_evicted_page p f) (looks.pages ∙ stays.pages);
        follows = turned.follows;
        boxes = turned.boxes;
        noted = looks.noted ∙ stays.noted;
      }

  -- no look after them
  pub reads_no_more : (old new : Core I H) (v : (i : I) × H i → Holding) → Stays old new v → OnlyReads old new v
  reads_no_more old new v stays =
      let turned = follows_as (kept_by old v) (kept_by new v) stays.same in
      record {
        sound = stays.sound;
        read = subst (λ (k : Kept). HasRead k (kept_by new v)) stays.same (nothing_read (kept_by new v));
        evicted = λ p. ap (λ (f : Shown). is_evicted_page p f) stays.pages;
        follows = turned.follows;
        boxes = turned.boxes;
        noted = stays.noted;
      }

  -- one look
  pub reads_once : {A : Type 0} (page : ℕ) (result : Result A StoreFault) (old new : Core I H) (v : (i : I) × H i → Holding) → IsSound old v
      → LooksAt page old result new v → OnlyReads old new v
  reads_once page result old new v sound looks = reads_behind page result old old new v (stays_yet old v sound) looks

  -- none
  pub reads_none : (s : Core I H) (v : (i : I) × H i → Holding) → IsSound s v → OnlyReads s s v
  reads_none s v sound = reads_no_more s s v (stays_yet s v sound)

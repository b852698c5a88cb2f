-- What a call of the core says, as the store says it.

use Rattle.std.proofs.Common.{◌≡◌, ℕ, ◌≤◌, Bool, inl, inr, Result, Ok, Err, List, [], refl, ap, ◌∙◌, arith, IfOk, IfErr, MatchResult}
use Rattle.std.specs.Prelude.{max, min}
use Rattle.bw_page.specs.Shown.{Shown}
use Rattle.bw_ring.specs.declared.lane.Lane.{Lane}
use Rattle.bw_versions.specs.Versioned.{Versioned}
use Rattle.bw_core.specs.Noted.{Noted}
use Rattle.bw_core.specs.Kept as core
use Rattle.bw_core.specs.Following as follow
use Rattle.bw_core.specs.Settling as settling
use Rattle.bw_terms.specs.declared.fault.StoreFault.{StoreFault}
use Rattle.bw_terms.specs.declared.fault.StoreFault.TheVariants.{NoMemory}
use Rattle.bw_terms.specs.declared.fault.TurnFault.{TurnFault}
use Rattle.bw_store.specs.Following.{Turned}
use Rattle.bw_store.specs.Kept.{Kept, IsSound, Beside, core_of, with_versions}
use Rattle.bw_store.specs.Showing.{AreUnseen, Hides, Settles, SettleRefuses, Shows}
use Rattle.bw_store.proofs.Readers.{unseen_begins, unseen_ends}

-- nothing was forgotten
pub still_known : (a b : Noted) (n : ℕ) → b ≡ a → a.gone ≤ n → b.gone ≤ n
still_known a b n same le = (let e = ap (λ (x : Noted). x.gone) same in omega arith)

-- what the book has is forgotten, and no more
pub forgets_known : (n gone known end durable book : ℕ) → n ≡ max gone (min known end) → end ≡ durable → known ≡ book → gone ≤ book → book ≤ durable
    → n ≡ known
forgets_known n gone known end durable book is same count low high = omega arith

-- ---- a store that begins

pub begun_sound : (k : core.Kept) (v : Versioned) (leaves : Shown) (readers : ℕ) → core.IsSound k → AreUnseen leaves readers v
    → leaves ≡ record { m = k.filed.m; leaves = k.start; evicted = [] } → IsSound (with_versions k v)
begun_sound k v leaves readers sound unseen is = record {
  base = sound;
  shown = record {
    start = unseen.start ∙ is;
    begins = unseen_begins v _ unseen.entered;
    ends = unseen_ends (with_versions k v) v.entered unseen.entered;
  };
}

-- ---- a turn

module _ (old new : Kept) (same : new.versions ≡ old.versions) where
  pub ok_beside : {A B : Type 0} (P : A → core.Kept → core.Kept → Type 0) (r : Result A B) → IfOk r (λ x. P x (core_of old) (core_of new))
      → IfOk r (λ x. Beside (P x) old new)
  ok_beside P (Ok x) p = record { base = p; quiet = same }
  ok_beside P (Err e) p = tt

  pub err_beside : {A B : Type 0} (P : B → core.Kept → core.Kept → Type 0) (r : Result A B) → IfErr r (λ x. P x (core_of old) (core_of new))
      → IfErr r (λ x. Beside (P x) old new)
  err_beside P (Ok x) p = tt
  err_beside P (Err e) p = record { base = p; quiet = same }

  pub turned_beside : (r : Result ℕ TurnFault) → MatchResult r (λ n. follow.Turned n (core_of old) (core_of new)) (λ f. follow.Turned f.taken (core_of old) (core_of new))
      → MatchResult r (λ n. Turned n old new) (λ f. Turned f.taken old new)
  turned_beside (Ok n) p = record { base = p; quiet = same }
  turned_beside (Err f) p = record { base = p; quiet = same }

pub turned_continues : (a b : core.Kept) (r : Result ℕ TurnFault) → MatchResult r (λ n. follow.Turned n a b) (λ f. follow.Turned f.taken a b)
    → follow.Continues a b
turned_continues a b (Ok n) p = p.follows.continues
turned_continues a b (Err f) p = p.follows.continues

-- ---- a settlement

module _ (old : Kept) (t : core.Kept) (lanes : List Lane) (away : ℕ → Bool) where
  -- it was refused
  pub settle_refuses : (fault : StoreFault) → settling.SettleRefuses (core_of old) lanes away fault t
      → SettleRefuses old lanes away fault (with_versions t old.versions)
  settle_refuses fault (inl at) = inl (record { base = at; quiet = refl })
  settle_refuses fault (inr x) = inr (inl (
    with_versions x.0 old.versions,
    record { base = x.1; quiet = refl },
    x.2,
    record { base = x.3; quiet = refl },
  ))

  -- it was done, and then the publication refused, or done
  pub settle_hides : (new : Kept) → settling.Settles (core_of old) t → Hides (with_versions t old.versions) new
      → SettleRefuses old lanes away NoMemory new
  settle_hides new x hides = inr (inr (
    refl,
    (
      with_versions x.0 old.versions,
      record { base = x.1; quiet = refl },
      (with_versions t old.versions, record { base = x.2; quiet = refl }, hides),
    ),
  ))

  pub settle_shows : (new : Kept) → settling.Settles (core_of old) t → Shows (with_versions t old.versions) new → Settles old new
  settle_shows new x shows = (
    with_versions x.0 old.versions,
    record { base = x.1; quiet = refl },
    (with_versions t old.versions, record { base = x.2; quiet = refl }, shows),
  )

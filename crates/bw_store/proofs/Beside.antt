-- What the core's call leaves, a store's call leaves too, beside readers that see what they saw; and
-- after a publication, or one that was refused.

use Rattle.std.proofs.Common.{◌≡◌, ◌∙◌, ◌⊎◌, inl, Result, Ok, Err}
use Rattle.bw_device.specs.Holding.{Holding}
use Rattle.bw_terms.specs.declared.fault.StoreFault.{StoreFault}
use Rattle.bw_core.specs.Going as going
use Rattle.bw_core.specs.Looking as core
use Rattle.bw_core.specs.Machine as core_machine
use Rattle.bw_history.specs.Machine.{Stops, keeps}
use Rattle.bw_store.specs.declared.store.Store.{Store}
use Rattle.bw_store.specs.Going.{GoesOn, IsQuiet}
use Rattle.bw_store.specs.Kept.{Kept, core_of}
use Rattle.bw_store.specs.Kept as kept
use Rattle.bw_store.specs.Looking.{OnlyReads, Walks}
use Rattle.bw_store.specs.Machine.{RunsAs}
use Rattle.bw_store.specs.Showing.{Hides, Shows}
use Rattle.bw_store.specs.Views.{kept_by, IsSound}
use Rattle.bw_store.proofs.Later.{beside_sound}
use Rattle.bw_store.proofs.Machines.{keeps_hides, keeps_shows, left, refused_seen}
use Rattle.bw_store.proofs.Showing.{beside_follows, hides_follows, hides_roster, shows_follows, shows_roster}

-- ---- the steps of the machine

-- the core's call was refused
pub runs_refused : {A : Type 0} (old new : Kept) (fault : StoreFault) → kept.IsSound new
    → (core_machine.machine_of (core_of new) ≡ keeps (core_machine.machine_of (core_of old)))
    ⊎ Stops (core_machine.machine_of (core_of old)) (core_machine.machine_of (core_of new)) → new.versions ≡ old.versions
    → RunsAs {A = A} old (Err fault) new
runs_refused old new fault sound steps same = record {
  each_cut = sound.base.stands;
  steps = refused_seen old new steps same;
  may_leave = left new sound;
}

-- the publication was
pub runs_hidden : {A : Type 0} (old middle new : Kept) (fault : StoreFault) → kept.IsSound new
    → core_machine.machine_of (core_of middle) ≡ keeps (core_machine.machine_of (core_of old)) → middle.versions ≡ old.versions → Hides middle new
    → RunsAs {A = A} old (Err fault) new
runs_hidden old middle new fault sound kept same hides = record {
  each_cut = sound.base.stands;
  steps = inl (keeps_hides old middle new kept same hides);
  may_leave = left new sound;
}

-- neither was
pub runs_shown : {A : Type 0} (old middle new : Kept) (answer : A) → kept.IsSound middle → kept.IsSound new
    → core_machine.machine_of (core_of middle) ≡ keeps (core_machine.machine_of (core_of old)) → middle.versions ≡ old.versions → Shows middle new
    → RunsAs old (Ok answer) new
runs_shown old middle new answer before sound kept same shows = record {
  each_cut = sound.base.stands;
  steps = keeps_shows old middle new before kept same shows;
  may_leave = left new sound;
}

-- ---- what calls leave alike

module _ {I : Type 0} {H : I → Type 0} where
  pub goes_beside : (old new : Store I H) (v : (i : I) × H i → Holding) → IsSound old v → going.GoesOn old.core new.core v → new.versions ≡ old.versions
      → GoesOn old new v
  goes_beside old new v sound goes same = record {
    sound = beside_sound (kept_by old v) (kept_by new v) sound goes.sound goes.follows.continues same;
    follows = beside_follows (kept_by old v) (kept_by new v) goes.follows same;
    boxes = goes.boxes;
    noted = goes.noted;
  }

  -- and then what is durable was published
  pub goes_shown : (old middle new : Store I H) (v : (i : I) × H i → Holding) → GoesOn old middle v → IsQuiet middle new v
      → Shows (kept_by middle v) (kept_by new v) → GoesOn old new v
  goes_shown old middle new v goes quiet shows = record {
    sound = quiet.sound;
    follows = shows_follows (kept_by old v) (kept_by middle v) (kept_by new v) goes.follows shows;
    boxes = record { same = shows_roster (kept_by middle v) (kept_by new v) shows ∙ goes.boxes.same };
    noted = quiet.noted ∙ goes.noted;
  }

  -- or that was refused
  pub goes_hidden : (old middle new : Store I H) (v : (i : I) × H i → Holding) → GoesOn old middle v → IsQuiet middle new v
      → Hides (kept_by middle v) (kept_by new v) → GoesOn old new v
  goes_hidden old middle new v goes quiet hides = record {
    sound = quiet.sound;
    follows = hides_follows (kept_by old v) (kept_by middle v) (kept_by new v) goes.follows hides;
    boxes = record { same = hides_roster (kept_by middle v) (kept_by new v) hides ∙ goes.boxes.same };
    noted = quiet.noted ∙ goes.noted;
  }

  -- ---- looks at pages

  pub reads_beside : (old new : Store I H) (v : (i : I) × H i → Holding) → IsSound old v → core.OnlyReads old.core new.core v → new.versions ≡ old.versions
      → OnlyReads old new v
  reads_beside old new v sound reads same = record {
    sound = beside_sound (kept_by old v) (kept_by new v) sound reads.sound reads.follows.continues same;
    read = record { base = reads.read; quiet = same };
    evicted = reads.evicted;
    follows = beside_follows (kept_by old v) (kept_by new v) reads.follows same;
    boxes = reads.boxes;
    noted = reads.noted;
  }

  pub walks_beside : {A : Type 0} (old new : Store I H) (result : Result A StoreFault) (v : (i : I) × H i → Holding) → core.Walks old.core result new.core v
      → new.versions ≡ old.versions → Walks old result new v
  walks_beside old new result v walks same = record {
    leaves = record { base = walks.leaves; quiet = same };
    memory = walks.memory;
  }

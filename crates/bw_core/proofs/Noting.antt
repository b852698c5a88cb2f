-- What noting asks after a step that wrote pages again, and what it leaves.

use Rattle.std.proofs.Common.{◌≡◌, ℕ, ◌+◌, ◌≤◌, Option, ◌++◌, length, sym, ◌∙◌, subst, replicate}
use Rattle.bw_device.specs.Holding.{Holding}
use Rattle.bw_log.specs.Contents as logs
use Rattle.bw_core.specs.Cleaning.{HasMoved, HasStopped}
use Rattle.bw_core.specs.Kept.{Kept, IsSound}
use Rattle.bw_core.specs.Moving.{HasNoted, MayMove, MayNote}
use Rattle.bw_core.specs.Views.{kept_by}
use Rattle.bw_core.specs.declared.store.Core.{Core}
use Rattle.bw_core.proofs.CleanedMore.{Begins, Cleans, Notes, Wrote, done_sound, few_newest, has_given, has_moved, has_stopped, note_after, note_few}
use Rattle.bw_core.proofs.CleanedMore.{note_room, note_some, notes_of, refused_sound, there}

pub begins : {I : Type 0} {H : I → Type 0} {s : Core I H} {v : (i : I) × H i → Holding} → MayMove s v → Begins (kept_by s v)
begins ready = record { sound = ready.sound; done = ready.settled; empty = ready.empty; works = ready.works }

module _ (s : Kept) (most : ℕ) (new : logs.Contents) (b : Begins s) (first : Option ℕ) (at_first : first ≡ s.log.next) where
  pub may_note : (x : Cleans s most new) (cuts capacity : ℕ) → cuts + most ≤ capacity → MayNote (record s { log = new }) first cuts capacity
  may_note x cuts capacity room = record {
    sound = x.sound;
    some = note_some s most new x first b.sound at_first;
    after = note_after s most new x first b.sound at_first;
    few = note_few s most new x first b.sound at_first;
    room = note_room s most new x first b.sound at_first cuts capacity room;
    empty = b.empty;
    unsealed = b.sound.sealed ∙ b.works;
    cut = b.done.cut;
    count = few_newest s b.sound b.done;
    there = λ p from to. there s new x p from to b.sound;
  }

  module _ (frames : ℕ) (now : Kept) (n : HasNoted (record s { log = new }) first frames now) where
    notes : Cleans s most new → Notes s most new frames (s.cuts ++ replicate frames (length s.entries)) now.newest now.making
    notes x = notes_of s most new x first b.sound at_first frames now.newest now.making n.told n.count n.each n.limit n.empty n.sealed n.number

    -- if segments were given up
    pub given_noted : (told : ℕ) → Wrote s most new (λ fs. length fs ≡ told) → (holds : logs.Contents → Type 0) → holds new
        → IsSound (record now { floor = now.durable }) × HasMoved s told (s.durable + told) holds (record now { floor = now.durable })
    unfolding notes
    given_noted told wrote holds held = (
      done_sound s now b (notes wrote.0) n.noted,
      has_given holds s now n.noted ((notes wrote.0).frames_are ∙ wrote.1) n.empty held,
    )

    none_given : (x : Cleans s most new) → logs.counted new ≡ logs.counted s.log ++ x.written → IsSound now
    unfolding notes
    none_given x counts = subst IsSound (sym n.noted) (refused_sound s most b new frames _ now.newest now.making (notes x) counts)

    -- if none was
    pub moved_noted : (told : ℕ) → Wrote s most new (λ fs. (logs.counted new ≡ logs.counted s.log ++ fs) × (length fs ≡ told))
        → (holds : logs.Contents → Type 0) → holds new → IsSound now × HasMoved s told s.floor holds now
    unfolding notes
    moved_noted told wrote holds held =
        (none_given wrote.0 wrote.1.0, has_moved holds s now n.noted ((notes wrote.0).frames_are ∙ wrote.1.1) n.empty held)

    -- if a step was refused
    pub stopped_noted : Wrote s most new (λ fs. logs.counted new ≡ logs.counted s.log ++ fs) → (holds : logs.Contents → Type 0) → holds new
        → IsSound now × HasStopped s holds now
    stopped_noted wrote holds held = (none_given wrote.0 wrote.1, has_stopped holds s now frames n.noted n.empty held)

-- What holds of a store while group after group is taken.

use Rattle.std.proofs.Common.{◌≡◌, length, map, refl, ◌∙◌}
use Rattle.bw_device.specs.Holding.{Holding}
use Rattle.bw_ring.specs.Ends.{given}
use Rattle.bw_core.specs.Following.{TookSome}
use Rattle.bw_core.specs.Views.{kept_by, noted_of, IsSound}
use Rattle.bw_core.specs.declared.store.Core.{Core}
use Rattle.bw_core.proofs.FollowMore.{in_turn_as}

-- so far some groups were taken, and the lanes give what they gave
pub record TookOn {I : Type 0} {H : I → Type 0} (v : (i : I) × H i → Holding) (old new : Core I H) : Type 0 where
  pub sound : IsSound new v
  pub count : length new.intake.lanes.items ≡ length old.intake.lanes.items
  pub same_given : map given new.intake.lanes.items ≡ map given old.intake.lanes.items
  pub took : TookSome (kept_by old v) (kept_by new v)
  pub noted : noted_of new ≡ noted_of old

module _ {I : Type 0} {H : I → Type 0} (v : (i : I) × H i → Holding) where
  pub took_none : (s : Core I H) → IsSound s v → TookOn v s s
  took_none s h = record { sound = h; count = refl; same_given = refl; took = (0, in_turn_as _ _ refl); noted = refl }

  pub took_on : (a b c : Core I H) → TookOn v a b → IsSound c v → length c.intake.lanes.items ≡ length b.intake.lanes.items
      → map given c.intake.lanes.items ≡ map given b.intake.lanes.items → TookSome (kept_by a v) (kept_by c v) → noted_of c ≡ noted_of b → TookOn v a c
  took_on a b c so_far sound count same_given took noted = record {
    sound = sound;
    count = count ∙ so_far.count;
    same_given = same_given ∙ so_far.same_given;
    took = took;
    noted = noted ∙ so_far.noted;
  }

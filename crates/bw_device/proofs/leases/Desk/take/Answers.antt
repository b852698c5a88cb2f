use Rattle.std.proofs.Common.{List, Bool, true, ap, ◌∙◌, set, refl}
use Rattle.std.proofs.lemmas.List.{map-set}
use Rattle.bw_device.proofs.Desks.{first_free, all_out, not_all_out}
use Rattle.bw_device.proofs.leases.Desk.take.Goals as goal

pub returns-in_default-clause-no_lease : goal.returns-in_default-clause-no_lease
returns-in_default-clause-no_lease c =
    (λ _. all_out _ (first_free _ _ _ _ c.deref.ensures.value c.self.view_is c.in_default.ensures), λ _. refl)

pub returns-in_default-new-clause-no_lease : goal.returns-in_default-new-clause-no_lease
returns-in_default-new-clause-no_lease c =
    (λ e. cc, λ all. absurd (not_all_out _ _ (first_free _ _ _ _ c.deref.ensures.value c.self.view_is c.in-Some.ensures) all))

pub returns-in_default-clone-clause-no_lease : goal.returns-in_default-clone-clause-no_lease
returns-in_default-clone-clause-no_lease c =
    (λ e. cc, λ all. absurd (not_all_out _ _ (first_free _ _ _ _ c.deref.ensures.value c.self.view_is c.in-Some.ensures) all))

pub returns-clause-least : goal.returns-clause-least
returns-clause-least c = first_free _ _ _ _ c.deref.ensures.value c.self.view_is c.in-Some.ensures

pub returns-clause-taken : goal.returns-clause-taken
returns-clause-taken c = map-set _ _ _ _ ∙ ap (λ (flags : List Bool). set flags c.in-Some.number true) c.self.view_is

pub returns-clause-no_lease : goal.returns-clause-no_lease
returns-clause-no_lease c =
    (λ e. cc, λ all. absurd (not_all_out _ _ (first_free _ _ _ _ c.deref.ensures.value c.self.view_is c.in-Some.ensures) all))

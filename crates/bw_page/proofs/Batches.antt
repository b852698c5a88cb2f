-- Records that stand in other values, one after the other.

use Rattle.std.proofs.Common.{◌≡◌, ℕ, zero, suc, ◌+◌, ◌<◌, arith, false, true, Some, Result, Ok, Err, IsErr, IsOk, OnOk, List, [], ◌∷◌, ◌++◌, map}
use Rattle.std.proofs.Common.{take, length, get_or, refl, sym, ap, ◌∙◌, subst}
use Rattle.std.specs.List.{slice_get}
use Rattle.std.specs.Option.{option_map}
use Rattle.std.proofs.lemmas.List.{take_more, take-map, map-append}
use Rattle.std.proofs.lemmas.Option.{slice_get-map, slice_get-get_or}
use Rattle.bw_record.specs.Record.{key_of}
use Rattle.bw_record.specs.declared.record.Record.{Record}
use Rattle.bw_page.specs.declared.journal.Undo.{Undo}
use Rattle.bw_page.specs.Leaves.{HasPages}
use Rattle.bw_page.specs.Shown.{Shown, IsHere, IsSpent, after_record, run}
use Rattle.bw_page.specs.Batch.{SomeIsSpent, AreHere}
use Rattle.bw_page.specs.Journal.{Ran}
use Rattle.bw_page.proofs.Runs.{here_at, has_at}

module _ {X : Type 0} (held : X → Record) (items : List X) (i : ℕ) (item : X) (r : Record) (below : i < length items) (is : item ≡ get_or items i item)
    (its : r ≡ held item) where
  pub record_at : slice_get (map held items) i ≡ Some r
  record_at =
      slice_get-map held items i ∙ ap (λ o. option_map held o) (slice_get-get_or items i item below ∙ ap Some (sym is)) ∙ ap Some (sym its)

  pub records_more : map held (take (i + 1) items) ≡ map held (take i items) ++ r ∷ []
  records_more =
      ap (map held) (take_more items i item below ∙ ap (λ x. take i items ++ x ∷ []) (sym is))
      ∙ map-append held (take i items) (item ∷ []) ∙ ap (λ (x : Record). map held (take i items) ++ x ∷ []) (sym its)

  module _ (start now : Shown) (us : List Undo) (ran : Ran start (map held (take i items)) now us) where
    now_is : now ≡ run start (take i (map held items))
    now_is = ran.is ∙ ap (run start) (sym (take-map held i items))

    -- the page of the next record is in memory
    pub next_here : AreHere start (map held items) → IsHere (key_of r) now
    next_here h =
        subst (IsHere (key_of r)) (sym now_is)
        (here_at start (map held items) i r (subst (HasPages start.m start.leaves) (sym (take-map held i items)) ran.room) h record_at)

    -- if there is no number for its new page
    pub next_spent : IsSpent now r → SomeIsSpent start (map held items)
    next_spent s = (i, r, record_at, subst (λ (f : Shown). IsSpent f r) now_is s)

-- ---- the last of several records

pub here_first : (f : Shown) (rs : List Record) (r : Record) → AreHere f (rs ++ r ∷ []) → AreHere f rs
here_first f [] r h = tt
here_first f (x ∷ rs) r h = (h.0, λ p. here_first (after_record f x) rs r (h.1 p))

pub here_last : (f : Shown) (rs : List Record) (r : Record) → HasPages f.m f.leaves rs → AreHere f (rs ++ r ∷ []) → IsHere (key_of r) (run f rs)
here_last f [] r room h = h.0
here_last f (x ∷ rs) r room h = here_last (after_record f x) rs r room.1 (h.1 room.0)

pub spent_before : (f : Shown) (rs : List Record) (r : Record) → SomeIsSpent f rs → SomeIsSpent f (rs ++ r ∷ [])
spent_before f [] r (k, x, at, s) = absurd (cc at)
spent_before f (y ∷ rs) r (zero, x, at, s) = (zero, x, at, s)
spent_before f (y ∷ rs) r (suc k, x, at, s) = let rest = spent_before (after_record f y) rs r (k, x, at, s) in (suc rest.0, rest.1, rest.2, rest.3)

pub spent_last : (f : Shown) (rs : List Record) (r : Record) → IsSpent (run f rs) r → SomeIsSpent f (rs ++ r ∷ [])
spent_last f [] r s = (zero, r, refl, s)
spent_last f (y ∷ rs) r s = let rest = spent_last (after_record f y) rs r s in (suc rest.0, rest.1, rest.2, rest.3)

pub none_is_spent : (f : Shown) (rs : List Record) → HasPages f.m f.leaves rs → SomeIsSpent f rs → ⊥
none_is_spent f rs room s =
    let fits = has_at f.m f.leaves rs s.0 s.1 room s.2 s.3.0 in
    let full = s.3.1 in
    absurd (omega arith)

-- ---- what holds where a step was not refused

pub on_ok : {A B C X E : Type 0} (r : Result X E) → (A → B → C) → OnOk r A → OnOk r B → OnOk r C
on_ok (Ok x) f a b = f a b
on_ok (Err e) f a b = tt

pub was_ok : {A X E : Type 0} (r : Result X E) → (IsErr r → false ≡ true) → OnOk r A → A
was_ok (Ok x) never a = a
was_ok (Err e) never a = absurd (let no : false ≡ true = never refl in cc no)

pub is_ok_on : {A X E : Type 0} (r : Result X E) → IsOk r → OnOk r A → A
is_ok_on (Ok x) ok a = a
is_ok_on (Err e) ok a = absurd (cc ok)

-- What readers have is a beginning of what is durable, step by step.

use Rattle.std.proofs.Common.{◌≡◌, ℕ, zero, suc, ◌+◌, ◌-◌, ◌≤◌, Some, Result, Ok, Err, IsOk, OnOk, OnErr, MatchResult, List, [], ◌∷◌, ◌++◌, length, length-append, length-take, length-take-le, take, drop, refl, sym, ap, ◌∙◌, ◌⊎◌, inl, inr, append-nil, append_assoc, subst, arith}
use Rattle.std.specs.declared.alloc.AllocError.{AllocError}
use mathlib.Core.List.{IsPrefix}
use Rattle.bw_page.specs.Shown.{Shown}
use Rattle.bw_versions.specs.Batches.{BatchData, entries_of}
use Rattle.bw_versions.specs.Posted.{posted_of}
use Rattle.bw_versions.specs.Versioned.{EntersWhole, IsUpTo, Versioned}
use Rattle.bw_history.specs.declared.entry.Entry.{Entry}
use Rattle.bw_history.specs.History.{cut, upto}
use Rattle.bw_store.specs.Kept.{Kept, AreVersions, EndAtCuts, IsSound, core_of, with_batches}
use Rattle.bw_store.specs.Showing.{Hides, Shows, with_places}
use Rattle.bw_core.proofs.Forgetting.{end_within as core_end_within}

-- ---- beginnings of the history

pub take_prefix : {A : Type 0} (xs : List A) (c d : ℕ) → c ≤ d → IsPrefix (take c xs) (take d xs)
take_prefix xs zero d le = (take d xs, refl)
take_prefix [] (suc c) zero le = absurd (omega arith)
take_prefix [] (suc c) (suc d) le = ([], refl)
take_prefix (x ∷ xs) (suc c) zero le = absurd (omega arith)
take_prefix (x ∷ xs) (suc c) (suc d) le = (let rest = take_prefix xs c d (omega arith) in (rest.0, ap (λ ys. x ∷ ys) rest.1))

take_nil : {A : Type 0} (n : ℕ) → take n (let none : List A = [] in none) ≡ []
take_nil zero = refl
take_nil (suc n) = refl

-- a beginning of a list with one more is one of the list, or all of it
take_pushed : {A : Type 0} (xs : List A) (x : A) (n : ℕ) → (take n (xs ++ x ∷ []) ≡ take n xs) ⊎ (take n (xs ++ x ∷ []) ≡ xs ++ x ∷ [])
take_pushed xs x zero = inl refl
take_pushed [] x (suc n) = inr (ap (λ ys. x ∷ ys) (take_nil n))
take_pushed (y ∷ ys) x (suc n) = elim (take_pushed ys x n) [
  | inl few ↦ inl (ap (λ zs. y ∷ zs) few)
  | inr all ↦ inr (ap (λ zs. y ∷ zs) all)
]

entries_pushed : (bs : List BatchData) (b : BatchData) → entries_of (bs ++ b ∷ []) ≡ entries_of bs ++ b.entries
entries_pushed [] b = append-nil b.entries
entries_pushed (c ∷ cs) b = ap (λ es. c.entries ++ es) (entries_pushed cs b) ∙ sym (append_assoc c.entries (entries_of cs) b.entries)

-- a batch with all entries up to the durable cut ends there
pub ends_pushed : (s : Kept) (old new : List BatchData) → EndAtCuts s old → EntersWhole old new (upto s.cuts s.entries s.durable) → EndAtCuts s new
ends_pushed s old new ends (inl same) = subst (EndAtCuts s) (sym same) ends
ends_pushed s old new ends (inr x) = λ n. elim (take_pushed old x.0 n) [
  | inl few ↦ (
      let was = ends n in
      (was.0, was.1, ap (λ bs. entries_of (take n bs)) x.1 ∙ ap entries_of few ∙ was.2)
      )
  | inr all ↦ (
    s.durable,
    omega arith,
    ap (λ bs. entries_of (take n bs)) x.1 ∙ ap entries_of all ∙ entries_pushed old x.0 ∙ x.2,
  )
]

-- before the first publication
pub unseen_ends : (s : Kept) (batches : List BatchData) → batches ≡ [] → EndAtCuts s batches
unseen_ends s batches none = λ n. (0, omega arith, ap (λ bs. entries_of (take n bs)) none ∙ ap entries_of (take_nil n))

pub unseen_begins : (v : Versioned) (xs : List Entry) → v.entered ≡ [] → IsPrefix (entries_of v.entered) xs
unseen_begins v xs none = (xs, ap (λ (bs : List BatchData). entries_of bs ++ xs) none)

-- ---- a publication

-- only what is published and what is in the book may differ
same_readers : (old new : Versioned) → (new.start ≡ old.start) × (new.book ≡ old.book) × (new.places ≡ old.places)
    → new ≡ record old { published = new.published; entered = new.entered }
same_readers old new same =
    ap (λ s. record { start = s; book = new.book; published = new.published; entered = new.entered; places = new.places }) same.0
    ∙ ap (λ b. record { start = old.start; book = b; published = new.published; entered = new.entered; places = new.places }) same.1
    ∙ ap (λ p. record { start = old.start; book = old.book; published = new.published; entered = new.entered; places = p }) same.2

-- a store with other readers
abbrev pub reading : Kept → Versioned → Kept
reading s new = record s { versions = new }

batches_are : (s : Kept) (new : Versioned)
    → (new.start ≡ s.versions.start) × (new.book ≡ s.versions.book) × (new.places ≡ s.versions.places)
    → reading s new ≡ with_batches s new.published new.entered
batches_are s new same = ap (λ (v : Versioned). record s { versions = v }) (same_readers s.versions new same)

-- what readers have may change, if it stays a beginning of what is durable
shown_sound : (s : Kept) (versions : Versioned) → IsSound s → AreVersions (record s { versions = versions }) → IsSound (record s { versions = versions })
shown_sound s versions h shown = record { base = h.base; shown = shown }

batched_sound : (s : Kept) (published entered : List BatchData) → IsSound s → IsPrefix (entries_of entered) (upto s.cuts s.entries s.durable)
    → EndAtCuts s entered → IsSound (with_batches s published entered)
batched_sound s published entered h begins ends =
    shown_sound s (record s.versions { published = published; entered = entered }) h (record { start = h.shown.start; begins = begins; ends = ends })

placed_sound : (s : Kept) (places : ℕ) → IsSound s → IsSound (with_places s places)
placed_sound s places h =
    shown_sound s (record s.versions { places = places }) h (record { start = h.shown.start; begins = h.shown.begins; ends = h.shown.ends })

-- a reader more has one place less
pub places_are : (s : Kept) (new : Versioned) → new ≡ record s.versions { places = new.places } → reading s new ≡ with_places s new.places
places_are s new same = ap (λ (v : Versioned). reading s v) same

pub reader_sound : (s : Kept) (new : Versioned) → IsSound s → new ≡ record s.versions { places = new.places } → IsSound (reading s new)
reader_sound s new h same = subst IsSound (sym (places_are s new same)) (placed_sound s new.places h)

-- the durable cut is within the history
pub end_within : (s : Kept) (end : ℕ) → IsSound s → end ≡ cut s.cuts s.durable → end ≤ length s.entries
end_within s end h is = core_end_within (core_of s) end h.base is

-- ---- the entries up to the durable cut are handed to the readers

upto_is : (s : Kept) (end : ℕ) (entries : List Entry) → end ≡ cut s.cuts s.durable → entries ≡ s.entries → take end entries ≡ upto s.cuts s.entries s.durable
upto_is s end entries is same = ap (λ n. take n entries) is ∙ ap (λ (es : List Entry). take (cut s.cuts s.durable) es) same

pub publish_sound : (s : Kept) (new : Versioned) (end : ℕ) (entries : List Entry) → IsSound s → end ≡ cut s.cuts s.durable → entries ≡ s.entries
    → (new.start ≡ s.versions.start) × (new.book ≡ s.versions.book) × (new.places ≡ s.versions.places)
    → IsPrefix (entries_of new.entered) (take end entries) → EntersWhole s.versions.entered new.entered (take end entries) → IsSound (reading s new)
publish_sound s new end entries h is all same begins whole =
    subst IsSound (sym (batches_are s new same))
    (batched_sound s new.published new.entered h (subst (IsPrefix (entries_of new.entered)) (upto_is s end entries is all) begins)
    (ends_pushed s s.versions.entered new.entered h.shown.ends (subst (EntersWhole s.versions.entered new.entered) (upto_is s end entries is all) whole)))

-- a refusal is no answer
no_ok : (x : AllocError) → IsOk {T = Unit {0}} (Err x) → ⊥
no_ok x e = cc

pub publish_leaves : (s : Kept) (new : Versioned) (r : Result (Unit {0}) AllocError) (end : ℕ) (entries : List Entry) → IsSound s
    → end ≡ cut s.cuts s.durable → entries ≡ s.entries
    → (new.start ≡ s.versions.start) × (new.book ≡ s.versions.book) × (new.places ≡ s.versions.places)
    → OnOk r (posted_of new.published ≡ Some (record { start = s.versions.start; entries = take end entries }))
    → OnOk r (IsPrefix s.versions.published new.published) → OnErr r (new.published ≡ s.versions.published) → OnOk r (IsUpTo new (take end entries))
    → EntersWhole s.versions.entered new.entered (take end entries) → (IsUpTo s.versions (take end entries) → (new ≡ s.versions) × IsOk r)
    → MatchResult r (λ _. Shows s (reading s new)) (λ _. Hides s (reading s new))
publish_leaves s new (Ok x) end entries h is all same posted grows err level whole idle = record {
  is = batches_are s new same;
  shown =
      posted ∙ ap (λ (es : List Entry). Some (record { start = s.versions.start; entries = es })) (upto_is s end entries is all)
      ∙ ap (λ (l : Shown). Some (record { start = l; entries = upto s.cuts s.entries s.durable })) h.shown.start;
  more = grows.0;
  grows = sym grows.1;
  level = subst (IsUpTo new) (upto_is s end entries is all) level;
  whole = subst (EntersWhole s.versions.entered new.entered) (upto_is s end entries is all) whole;
  idle = λ was. ap (λ (v : Versioned). reading s v) (idle (subst (IsUpTo s.versions) (sym (upto_is s end entries is all)) was)).0;
}
publish_leaves s new (Err x) end entries h is all same posted grows err level whole idle = record {
  is = batches_are s new same ∙ ap (λ (bs : List BatchData). with_batches s bs new.entered) err;
  whole = subst (EntersWhole s.versions.entered new.entered) (upto_is s end entries is all) whole;
  fresh = λ was. no_ok x (idle (subst (IsUpTo s.versions) (sym (upto_is s end entries is all)) was)).1;
}

-- a beginning of a beginning, and what follows it
rest_of : {A : Type 0} (ys xs : List A) (c k : ℕ) → k + length ys ≡ c → IsPrefix ys (take c xs) → ys ++ take k (drop (length ys) xs) ≡ take c xs
rest_of [] xs c k e p = (let is : k ≡ c = omega arith in ap (λ n. take n xs) is)
rest_of (y ∷ ys) xs zero k e p = absurd (omega arith)
rest_of (y ∷ ys) [] (suc c) k e p = absurd (let none = p.1 in cc)
rest_of {A} (y ∷ ys) (x ∷ xs) (suc c) k e p =
    (let head : y ≡ x = (let all = p.1 in cc) in
    let rest : ys ++ p.0 ≡ take c xs = (let all = p.1 in cc) in
    ap (λ (z : A). z ∷ (ys ++ take k (drop (length ys) xs))) head
    ∙ ap (λ (zs : List A). x ∷ zs) (rest_of ys xs c k (omega arith) (p.0, rest)))

longer : {A : Type 0} (ys xs : List A) (c : ℕ) → IsPrefix ys (take c xs) → length ys ≤ c
longer ys xs c p = (let all = ap length p.1 in let both = length-append ys p.0 in let few = length-take c xs in omega arith)

-- what the book has is durable
pub known_within : (s : Kept) (end : ℕ) → IsSound s → end ≡ cut s.cuts s.durable → length (entries_of s.versions.entered) ≤ end
known_within s end h is =
    (let few = longer (entries_of s.versions.entered) s.entries (cut s.cuts s.durable) h.shown.begins in omega arith)

-- what the book has, and what it lacks of the history up to the durable cut
pub fresh_is : (s : Kept) (end known : ℕ) (fresh : List Entry) → IsSound s → end ≡ cut s.cuts s.durable → known ≡ length (entries_of s.versions.entered)
    → fresh ≡ take (end - known) (drop known s.entries) → entries_of s.versions.entered ++ fresh ≡ take end s.entries
fresh_is s end known fresh h is count new =
    let book = entries_of s.versions.entered in
    let low = known_within s end h is in
    ap (λ es. book ++ es) (new ∙ ap (λ n. take (end - known) (drop n s.entries)) count)
    ∙ rest_of book s.entries end (end - known) (omega arith) (subst (λ n. IsPrefix book (take n s.entries)) (sym is) h.shown.begins)

pub fresh_count : (s : Kept) (end known : ℕ) (fresh : List Entry) → IsSound s → end ≡ cut s.cuts s.durable → known ≡ length (entries_of s.versions.entered)
    → fresh ≡ take (end - known) (drop known s.entries) → length (entries_of s.versions.entered) + length fresh ≡ end
fresh_count s end known fresh h is count new =
    let all = ap length (fresh_is s end known fresh h is count new) in
    let both = length-append (entries_of s.versions.entered) fresh in
    let within = length-take-le end s.entries (end_within s end h is) in
    omega arith

-- the book gets no shorter
pub enters_longer : (old new : List BatchData) (es : List Entry) (n : ℕ) → EntersWhole old new es → n ≤ length (entries_of old)
    → n ≤ length (entries_of new)
enters_longer old new es n (inl same) le = subst (λ (bs : List BatchData). n ≤ length (entries_of bs)) (sym same) le
enters_longer old new es n (inr x) le =
    (let all = ap (λ (bs : List BatchData). length (entries_of bs)) x.1 ∙ ap length (entries_pushed old x.0)
    ∙ length-append (entries_of old) x.0.entries in omega arith)

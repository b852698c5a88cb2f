-- What the questions of a log rest on.

use Rattle.std.proofs.Common.{inl, inr, ◌≡◌, ℕ, zero, suc, ◌+◌, ◌-◌, ◌^◌, ◌<◌, ◌≤◌, ◌==◌, Bool, true, false, if◌then◌else◌, List, [], ◌∷◌, length, map}
use Rattle.std.proofs.Common.{slice_get, Option, Some, None, IfSome, MatchOption, refl, sym, ap, subst, ◌∙◌, arith}
use Rattle.std.proofs.lemmas.Bool.{eq-eqb, true≢false, cases_lt}
use Rattle.std.proofs.lemmas.List.{length-map}
use Rattle.std.proofs.lemmas.Option.{slice_get_within}
use Rattle.bw_device.specs.Holding.{Holding}
use Rattle.bw_log.specs.Segments.{Limits, version_at, AreLive}
use Rattle.bw_codec.specs.Reading.{version_in}
use Rattle.bw_log.proofs.Reread.{live_version}
use Rattle.bw_log.specs.declared.places.PageAt.{PageAt}

-- ---- one box, as a question answers it

pub found : {X : Type 0} (v : X → Holding) (xs : List X) (i : ℕ) → i < length xs → (h : Holding) × (slice_get (map v xs) i ≡ Some h)
found v [] i inside = absurd (omega arith)
found v (x ∷ xs) zero inside = (v x, refl)
found v (x ∷ xs) (suc i) inside = found v xs i (omega arith)

pub lease_told : {X : Type 0} (v : X → Holding) (xs ys : List X) (i lease : ℕ) → ys ≡ xs → i < length xs
    → IfSome (slice_get (map v ys) i) (λ h. lease ≡ h.lease)
    → MatchOption (slice_get (map v xs) i) (Some lease ≡ None) (λ h. Some lease ≡ Some h.lease)
lease_told {X} v xs ys i lease same inside told =
    let there = found v xs i inside in
    let all : ys ≡ xs → IfSome (slice_get (map v xs) i) (λ h. lease ≡ h.lease) =
    λ e. subst (λ (l : List X). IfSome (slice_get (map v l) i) (λ h. lease ≡ h.lease)) e told in
    let P : Option Holding → Type 0 = λ o. IfSome o (λ h. lease ≡ h.lease) → MatchOption o (Some lease ≡ None) (λ h. Some lease ≡ Some h.lease) in
    subst P (sym there.1) (λ e. ap (λ n. Some n) e) (all same)

-- each live segment has a number below the limit
pub live_number : (l : Limits) (number : ℕ) (live : List (List ℕ)) (i : ℕ) → AreLive l number live → i < length live → number + i < 2 ^ 64
live_number l number [] i are inside = absurd (omega arith)
live_number l number (b ∷ bs) zero are inside = let law = are.0.whole.lawful.number in omega arith
live_number l number (b ∷ bs) (suc i) are inside = let more = live_number l (number + 1) bs i are.1 (omega arith) in omega arith

-- each live box has a number below the limit
pub box_number : {X : Type 0} (v : X → Holding) (l : Limits) (number : ℕ) (xs : List X) (i : ℕ) → AreLive l number (map (λ h. h.bytes) (map v xs))
    → i < length xs
    → number + i < 2 ^ 64
box_number v l number xs i are inside =
    live_number l number (map (λ h. h.bytes) (map v xs)) i are (omega (arith, length-map (map v xs) (λ (h : Holding). h.bytes), length-map xs v))

-- the version of a live segment, by its bytes
version_told_in : (l : Limits) (number : ℕ) (hs : List Holding) (i v : ℕ) → AreLive l number (map (λ h. h.bytes) hs) → i < length hs
    → v ≡ version_at l.old_to (number + i) → MatchOption (slice_get hs i) (Some v ≡ None) (λ h. Some v ≡ Some (version_in h.bytes))
version_told_in l number [] i v are inside is = absurd (omega arith)
version_told_in l number (h ∷ hs) zero v are inside is =
    (let e : number + 0 ≡ number = omega arith in
    ap (λ (n : ℕ). Some n) (is ∙ ap (version_at l.old_to) e ∙ sym (live_version l number h.bytes are.0)))
version_told_in l number (h ∷ hs) (suc i) v are inside is =
    (let e : number + suc i ≡ number + 1 + i = omega arith in
    version_told_in l (number + 1) hs i v are.1 (omega arith) (is ∙ ap (version_at l.old_to) e))

pub version_told : {X : Type 0} (v : X → Holding) (l : Limits) (number : ℕ) (xs : List X) (i version : ℕ)
    → AreLive l number (map (λ h. h.bytes) (map v xs)) → i < length xs → version ≡ version_at l.old_to (number + i)
    → MatchOption (slice_get (map v xs) i) (Some version ≡ None) (λ h. Some version ≡ Some (version_in h.bytes))
version_told v l number xs i version are inside is = version_told_in l number (map v xs) i version are (omega (arith, length-map xs v)) is

-- ---- a line of the table

there_by : (page : ℕ) (pages : List PageAt) (e : PageAt) (t : Bool) → (page == 0) ≡ t → Some e ≡ (if t then None else slice_get pages (page - 1))
    → (1 ≤ page) × (page ≤ length pages)
there_by page pages e true is there = absurd cc
there_by page pages e false is there =
    let inside = slice_get_within pages (page - 1) e (sym there) in
    let some : 1 ≤ page = (elim (cases_lt 0 page)
    [ inl some ↦ omega arith | inr none ↦ (let z : page ≡ 0 = omega arith in absurd (true≢false (sym (eq-eqb page 0 z) ∙ is))) ]) in
    (some, omega arith)

pub page_there : (page : ℕ) (pages : List PageAt) (e : PageAt) → Some e ≡ (if page == 0 then None else slice_get pages (page - 1))
    → (1 ≤ page) × (page ≤ length pages)
page_there page pages e there = there_by page pages e (page == 0) refl there

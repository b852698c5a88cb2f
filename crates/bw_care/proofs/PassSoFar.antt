-- A pass over boxes, as far as it went.

use Rattle.std.proofs.Common.{◌≡◌, ℕ, zero, suc, ◌+◌, ◌<◌, ◌≤◌, Option, Some, None, List, [], ◌∷◌, ◌++◌, length, take, map, slice_get, IfSome, IfOk, IfErr, Result, Ok, Err}
use Rattle.std.proofs.Common.{refl, sym, ap, subst, ◌∙◌, arith}
use Rattle.bw_device.specs.Holding.{Holding}
use Rattle.std.proofs.lemmas.List.{length-map}
use Rattle.bw_care.specs.Scanning.{fault_in, FaultIs}
use Rattle.bw_care.specs.declared.scan.ScanFault.{ScanFault}
use Rattle.bw_care.specs.declared.scan.ScanFault.TheVariants.{BadBytes as scan_bad}
use Rattle.bw_care.specs.Scanned.{IsScan, IsScanned, AreScans}
use Rattle.bw_care.specs.Recovery.{bytes_fault, bytes_fault_by}
use Rattle.bw_care.specs.Passing.{ReadStops, PassStops}
use Rattle.bw_care.specs.declared.scan.Scan.{Scan}
use Rattle.bw_care.specs.declared.scan.Scan.TheVariants.{Bare, Part, Live}
use Rattle.bw_lines.specs.declared.cause.RecoverCause.{RecoverCause}
use Rattle.bw_lines.specs.declared.cause.RecoverCause.TheVariants.{NoMemory, BadConfig, Device, Spent, Empty, BadBytes, Gap, Mixed, BadLink, Unlawful}

pub scans_more : (hs : List Holding) (ss : List Scan) (i : ℕ) (h : Holding) (s : Scan) → slice_get hs i ≡ Some h → IsScan h.bytes s → AreScans (take i hs) ss
    → AreScans (take (suc i) hs) (ss ++ s ∷ [])
scans_more [] ss i h s there one all = absurd cc
scans_more (k ∷ hs) [] zero h s there one all = (let same : k ≡ h = cc in (subst (λ (x : Holding). IsScan x.bytes s) (sym same) one, tt))
scans_more (k ∷ hs) (t ∷ ss) zero h s there one all = absurd all
scans_more (k ∷ hs) [] (suc i) h s there one all = absurd all
scans_more (k ∷ hs) (t ∷ ss) (suc i) h s there one all = (all.0, scans_more hs ss i h s there one all.1)

pub scans_end : (hs : List Holding) (ss : List Scan) (i : ℕ) → length hs ≤ i → AreScans (take i hs) ss → AreScans hs ss
scans_end [] [] zero end all = tt
scans_end [] (t ∷ ss) zero end all = absurd all
scans_end [] [] (suc i) end all = tt
scans_end [] (t ∷ ss) (suc i) end all = absurd all
scans_end (k ∷ hs) ss zero end all = absurd (omega arith)
scans_end (k ∷ hs) [] (suc i) end all = absurd all
scans_end (k ∷ hs) (t ∷ ss) (suc i) end all = (all.0, scans_end hs ss i (omega arith) all.1)

-- a box that was read has no fault
pub no_fault : (bytes : List ℕ) (s : Scan) → IsScan bytes s → fault_in bytes ≡ None
no_fault bytes Bare is = ap fault_in is
no_fault bytes Part is = is.1
no_fault bytes (Live header b) is = is.1

-- the first fault is the one at this box
pub fault_here : (hs : List Holding) (ss : List Scan) (k i at : ℕ) (h : Holding) → AreScans (take i hs) ss → slice_get hs i ≡ Some h
    → fault_in h.bytes ≡ Some at → bytes_fault k hs ≡ Some (BadBytes (k + i) at)
fault_here [] ss k i at h all there fault = absurd cc
fault_here (x ∷ hs) ss k zero at h all there fault =
    let same : x ≡ h = cc in
    let here : fault_in x.bytes ≡ Some at = ap (λ (y : Holding). fault_in y.bytes) same ∙ fault in
    let number : k ≡ k + 0 = omega arith in
    ap (λ (o : Option ℕ). bytes_fault_by k o (bytes_fault (k + 1) hs)) here ∙ ap (λ (n : ℕ). Some (BadBytes n at)) number
fault_here (x ∷ hs) [] k (suc i) at h all there fault = absurd all
fault_here (x ∷ hs) (t ∷ ss) k (suc i) at h all there fault =
    let number : k + 1 + i ≡ k + suc i = omega arith in
    ap (λ (o : Option ℕ). bytes_fault_by k o (bytes_fault (k + 1) hs)) (no_fault x.bytes t all.0) ∙ fault_here hs ss (k + 1) i at h all.1 there fault
    ∙ ap (λ (n : ℕ). Some (BadBytes n at)) number

-- a read that stops ends the pass
pub pass_stops : (at : ℕ) (old now : List Holding) (new : List Holding) (cause : RecoverCause) → now ≡ old → ReadStops at now cause new
    → PassStops old cause new
pass_stops at old now new cause same stops = as_pass cause (subst (λ (hs : List Holding). ReadStops at hs cause new) same stops) where
  as_pass : (cause : RecoverCause) → ReadStops at old cause new → PassStops old cause new
  as_pass NoMemory s = s
  as_pass (Device lease) s = (at, s)
  as_pass Spent s = (s.0, at, s.1)
  as_pass BadConfig s = absurd s
  as_pass Empty s = absurd s
  as_pass (BadBytes segment offset) s = absurd s
  as_pass Gap s = absurd s
  as_pass Mixed s = absurd s
  as_pass (BadLink page) s = absurd s
  as_pass (Unlawful page) s = absurd s

-- the box at an index that is inside
pub there_is : (hs : List Holding) (i : ℕ) → i < length hs → (h : Holding) × (slice_get hs i ≡ Some h)
there_is [] i inside = absurd (omega arith)
there_is (h ∷ hs) zero inside = (h, refl)
there_is (h ∷ hs) (suc i) inside = there_is hs i (omega arith)

told_of : (P : Holding → Type 0) (o : Option Holding) (h : Holding) → o ≡ Some h → IfSome o P → P h
told_of P (Some k) h is told = (let same : k ≡ h = cc in subst P same told)
told_of P None h is told = absurd cc

-- what a look at it said
told_there : (P : Holding → Type 0) (old now : List Holding) (i : ℕ) (h : Holding) → now ≡ old → slice_get old i ≡ Some h → IfSome (slice_get now i) P
    → P h
told_there P old now i h same is told = told_of P (slice_get now i) h (ap (λ (hs : List Holding). slice_get hs i) same ∙ is) told

-- ---- as the code goes

pub inside_map : {X : Type 0} (v : X → Holding) (xs : List X) (i : ℕ) → i < length xs → i < length (map v xs)
inside_map v xs i inside = omega (arith, length-map xs v)

-- what a look at bytes answered, of the box that lends them
pub scan_lent : {R : Type 0} (now : R → List ℕ) (old hs : List Holding) (i : ℕ) (lent : Option R) (bytes : R) (found : Result Scan ScanFault) → hs ≡ old
    → IfSome lent (λ b. IfSome (slice_get hs i) (λ h. now b ≡ h.bytes)) → lent ≡ Some bytes → IfOk found (IsScan (now bytes))
    → IfErr found (FaultIs (fault_in (now bytes))) → IfSome (slice_get old i) (λ h. IsScanned h.bytes found)
scan_lent {R} now old hs i lent bytes found same told is ok err =
    let of_bytes : IfSome (slice_get hs i) (λ h. now bytes ≡ h.bytes) = subst (λ o. IfSome o (λ b. IfSome (slice_get hs i) (λ h. now b ≡ h.bytes))) is told in
    some_as (slice_get old i) (subst (λ l. IfSome (slice_get l i) (λ h. now bytes ≡ h.bytes)) same of_bytes) where
      looked : (r : Result Scan ScanFault) → IfOk r (IsScan (now bytes)) → IfErr r (FaultIs (fault_in (now bytes))) → IsScanned (now bytes) r
      looked (Ok scan) ok err = ok
      looked (Err fault) ok err = err

      some_as : (o : Option Holding) → IfSome o (λ h. now bytes ≡ h.bytes) → IfSome o (λ h. IsScanned h.bytes found)
      some_as (Some h) same = subst (λ b. IsScanned b found) same (looked found ok err)
      some_as None same = tt

pub scan_step : (old now : List Holding) (ss more : List Scan) (i : ℕ) (found : Result Scan ScanFault) (s : Scan) → now ≡ old → i < length old
    → AreScans (take i old) ss → IfSome (slice_get now i) (λ k. IsScanned k.bytes found) → found ≡ Ok s → more ≡ ss ++ s ∷ []
    → AreScans (take (i + 1) old) more
scan_step old now ss more i found s same inside all told is pushed =
    let there = there_is old i inside in
    let here : IsScan there.0.bytes s =
    subst (IsScanned there.0.bytes) is (told_there (λ k. IsScanned k.bytes found) old now i there.0 same there.1 told) in
    let number : suc i ≡ i + 1 = omega arith in
    subst (λ (n : ℕ). AreScans (take n old) more) number (subst (AreScans (take (suc i) old)) (sym pushed) (scans_more old ss i there.0 s there.1 here all))

pub fault_step : (old now : List Holding) (ss : List Scan) (i at : ℕ) (found : Result Scan ScanFault) → now ≡ old → i < length old → AreScans (take i old) ss
    → IfSome (slice_get now i) (λ k. IsScanned k.bytes found) → found ≡ Err (scan_bad at) → bytes_fault 0 old ≡ Some (BadBytes i at)
fault_step old now ss i at found same inside all told is =
    let there = there_is old i inside in
    let here : fault_in there.0.bytes ≡ Some at =
    subst (IsScanned there.0.bytes) is (told_there (λ k. IsScanned k.bytes found) old now i there.0 same there.1 told) in
    let number : 0 + i ≡ i = omega arith in
    fault_here old ss 0 i at there.0 all there.1 here ∙ ap (λ (n : ℕ). Some (BadBytes n at)) number

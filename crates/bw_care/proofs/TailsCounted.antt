-- Tails, parts of headers, and bytes without a fault, as the scans say.

use Rattle.std.proofs.Common.{◌≡◌, ℕ, suc, ◌+◌, ◌==◌, ◌&&◌, Bool, false, Option, None, List, [], ◌∷◌, length, refl, sym, ap, ◌∙◌, arith}
use Rattle.std.specs.List.{fold}
use Rattle.bw_codec.specs.Reading.{heading_of}
use Rattle.bw_codec.specs.declared.head.Header.{Header}
use Rattle.bw_device.specs.Holding.{Holding}
use Rattle.std.proofs.lemmas.Bool.{ne_eqb}
use Rattle.bw_care.specs.Scanning.{has_part, has_part_by, is_bare, rest_of, rest_in}
use Rattle.bw_care.specs.Scanned.{IsScan, AreScans}
use Rattle.bw_care.specs.Recovery.{parts_in, tails_of, bytes_fault, bytes_fault_by, takes_frames, ends_whole_from, ends_whole}
use Rattle.bw_care.specs.Ordering.{AreFound, is_clean, is_clean_from}
use Rattle.bw_care.specs.Surveying.{parts_seen, tails_found}
use Rattle.bw_care.specs.declared.scan.Scan.{Scan}
use Rattle.bw_care.specs.declared.scan.Scan.TheVariants.{Bare, Part, Live}
use Rattle.bw_care.specs.declared.order.Found.{Found}
use Rattle.bw_care.proofs.SortedOut.{header_is, keeps, drops}
use Rattle.bw_care.proofs.PassSoFar.{no_fault}

-- ---- tails

tail_here : (h : Holding) (r : Found) → IsScan h.bytes (Live r.header r.behind) → length (rest_in h.bytes) ≡ r.behind.tail
tail_here h r is = ap (λ (k : Header). length (rest_of k h.bytes)) (sym (header_is h.bytes r.header is.0)) ∙ sym is.2.tail

tails_by : (n : ℕ) (boxes hs : List Holding) (rs : List Found) → AreFound boxes hs rs
    → fold (λ k h. k + length (rest_in h.bytes)) n hs ≡ fold (λ k r. k + r.behind.tail) n rs
tails_by n boxes [] [] all = refl
tails_by n boxes [] (r ∷ rs) all = absurd all
tails_by n boxes (h ∷ hs) [] all = absurd all
tails_by n boxes (h ∷ hs) (r ∷ rs) all = ap (λ (k : ℕ). fold (λ k h. k + length (rest_in h.bytes)) (n + k) hs) (tail_here h r all.0)
    ∙ tails_by (n + r.behind.tail) boxes hs rs all.1

pub tails_are : (boxes hs : List Holding) (rs : List Found) → AreFound boxes hs rs → tails_of hs ≡ tails_found rs
tails_are boxes hs rs all = tails_by 0 boxes hs rs all

bare_is : (xs : List ℕ) → is_bare xs ≡ (length xs == 0)
bare_is [] = refl
bare_is (x ∷ xs) = sym (ne_eqb (suc (length xs)) 0 (λ e. absurd (omega arith)))

takes_here : (h : Holding) (r : Found) → IsScan h.bytes (Live r.header r.behind) → takes_frames h.bytes ≡ is_clean r
takes_here h r is =
    ap (λ (k : Header). (k.version == 2) && is_bare (rest_in h.bytes)) (sym (header_is h.bytes r.header is.0))
    ∙ ap (λ (t : Bool). (r.header.version == 2) && t) (bare_is (rest_in h.bytes) ∙ ap (λ (n : ℕ). n == 0) (tail_here h r is))

ends_by : (whole : Bool) (boxes hs : List Holding) (rs : List Found) → AreFound boxes hs rs → ends_whole_from whole hs ≡ is_clean_from whole rs
ends_by whole boxes [] [] all = refl
ends_by whole boxes [] (r ∷ rs) all = absurd all
ends_by whole boxes (h ∷ hs) [] all = absurd all
ends_by whole boxes (h ∷ hs) (r ∷ rs) all =
    ap (λ (t : Bool). ends_whole_from t hs) (takes_here h r all.0) ∙ ends_by (is_clean r) boxes hs rs all.1

-- the newest segment ends whole where the scan says so
pub ends_are : (boxes hs : List Holding) (rs : List Found) → AreFound boxes hs rs → ends_whole hs ≡ is_clean_from false rs
ends_are boxes hs rs all = ends_by false boxes hs rs all

-- ---- parts of headers

pub bare_part : has_part [] ≡ false
unfolding heading_of
bare_part = refl

pub parts_are : (hs : List Holding) (ss : List Scan) → AreScans hs ss → length (parts_in hs) ≡ parts_seen ss
parts_are [] [] all = refl
parts_are [] (s ∷ ss) all = absurd all
parts_are (h ∷ hs) [] all = absurd all
parts_are (h ∷ hs) (Bare ∷ ss) all =
    ap (λ (l : List Holding). length l) (drops (λ (x : Holding). has_part x.bytes) h hs (ap has_part all.0 ∙ bare_part)) ∙ parts_are hs ss all.1
parts_are (h ∷ hs) (Part ∷ ss) all =
    let more = parts_are hs ss all.1 in
    let one : suc (length (parts_in hs)) ≡ parts_seen ss + 1 = omega arith in
    ap (λ (l : List Holding). length l) (keeps (λ (x : Holding). has_part x.bytes) h hs (ap has_part_by all.0.0)) ∙ one
parts_are (h ∷ hs) (Live header b ∷ ss) all =
    ap (λ (l : List Holding). length l) (drops (λ (x : Holding). has_part x.bytes) h hs (ap has_part_by all.0.0)) ∙ parts_are hs ss all.1

-- ---- bytes

pub no_bytes_fault : (k : ℕ) (hs : List Holding) (ss : List Scan) → AreScans hs ss → bytes_fault k hs ≡ None
no_bytes_fault k [] [] all = refl
no_bytes_fault k [] (s ∷ ss) all = absurd all
no_bytes_fault k (h ∷ hs) [] all = absurd all
no_bytes_fault k (h ∷ hs) (s ∷ ss) all = ap (λ (o : Option ℕ). bytes_fault_by k o (bytes_fault (k + 1) hs)) (no_fault h.bytes s all.0)
    ∙ no_bytes_fault (k + 1) hs ss all.1

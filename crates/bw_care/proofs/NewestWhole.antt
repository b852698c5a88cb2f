-- The newest segment without a tail.

use Rattle.std.proofs.Common.{◌≡◌, ℕ, ◌+◌, ◌==◌, Bool, true, false, nat_le, if◌then◌else◌, List, [], ◌∷◌, length, map, refl, sym, ap, ◌∙◌, subst, arith}
use Rattle.std.specs.List.{AllByRecursion}
use Rattle.std.proofs.lemmas.Bool.{and_parts, eqb-true}
use Rattle.bw_codec.specs.Grammar.{IsWhole}
use Rattle.bw_record.specs.Version.{latest}
use Rattle.bw_codec.specs.declared.head.Header.{Header}
use Rattle.bw_record.specs.declared.block.Frame.{Frame}
use Rattle.bw_device.specs.Holding.{Holding}
use Rattle.bw_log.specs.Segments.{Limits, header_in, header_with, version_at, segment_frames, IsClean, IsCleanLast}
use Rattle.bw_care.specs.Scanning.{rest_of}
use Rattle.bw_care.specs.Scanned.{IsScan}
use Rattle.bw_care.specs.Ordering.{AreFound, is_clean, is_clean_from}
use Rattle.bw_care.specs.declared.scan.Scan.TheVariants.{Live}
use Rattle.bw_care.specs.declared.order.Found.{Found}
use Rattle.bw_care.proofs.HeadersRead.{live_is}
use Rattle.bw_care.proofs.NumberOrder.{frames_here}
use Rattle.bw_care.proofs.LiveRow.{AreNumbers, IsLike, like_at}

none_of : (xs : List ℕ) → length xs ≡ 0 → xs ≡ []
none_of [] e = refl
none_of (x ∷ xs) e = absurd (omega arith)

one_by : (l : Limits) (n : ℕ) (t : Bool) → nat_le n l.old_to ≡ t → (if t then 1 else latest) ≡ 2 → header_in l n ≡ header_with n l.m l.f
one_by l n true is e = (let one : ◌≡◌ {A = ℕ} 1 2 = e in absurd (omega arith))
one_by l n false is e =
    ap (λ (t : Bool). let h : Header = record { version = if t then 1 else latest; number = n; m = l.m; f = if t then l.old_f else l.f } in h) is

one_clean : (l : Limits) (n : ℕ) (h : Holding) (r : Found) → IsScan h.bytes (Live r.header r.behind) → r.header.number ≡ n → IsLike l r
    → is_clean r ≡ true → IsClean l.m l.f n h.bytes
one_clean l n h r is number like e =
    let two = and_parts (r.header.version == 2) (r.behind.tail == 0) e in
    let none : rest_of r.header h.bytes ≡ [] = none_of (rest_of r.header h.bytes) (sym is.2.tail ∙ eqb-true r.behind.tail 0 two.1) in
    let at = like_at l n r like number in
    let new : version_at l.old_to n ≡ 2 = sym (ap (λ (k : Header). k.version) at) ∙ eqb-true r.header.version 2 two.0 in
    let header : r.header ≡ header_with n l.m l.f = at ∙ one_by l n (nat_le n l.old_to) refl new in
    subst (λ (torn : List ℕ). IsWhole h.bytes (header_with n l.m l.f) (segment_frames h.bytes) torn) none
    (subst (λ (k : Header). IsWhole h.bytes k (segment_frames h.bytes) (rest_of r.header h.bytes)) header
    (subst (λ (fs : List Frame). IsWhole h.bytes r.header fs (rest_of r.header h.bytes)) (sym (frames_here h r is))
    (live_is h.bytes r.header r.behind is.3 is.2)))

pub clean_last : (l : Limits) (n : ℕ) (clean : Bool) (boxes hs : List Holding) (h : Holding) (rs : List Found) (r : Found) → AreFound boxes (h ∷ hs) (r ∷ rs)
    → AreNumbers n (r ∷ rs)
    → AllByRecursion (IsLike l) (r ∷ rs) → is_clean_from clean (r ∷ rs) ≡ true
    → IsCleanLast l.m l.f n (map (λ x. x.bytes) (h ∷ hs))
clean_last l n clean boxes [] h [] r all numbers like e = one_clean l n h r all.0 numbers.0 like.0 e
clean_last l n clean boxes [] h (q ∷ rs) r all numbers like e = absurd all.1
clean_last l n clean boxes (k ∷ hs) h [] r all numbers like e = absurd all.1
clean_last l n clean boxes (k ∷ hs) h (q ∷ rs) r all numbers like e = clean_last l (n + 1) (is_clean r) boxes hs k rs q all.1 numbers.1 like.1 e

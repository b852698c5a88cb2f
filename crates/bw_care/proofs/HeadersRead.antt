-- What a box's first bytes say.

use Rattle.std.proofs.Common.{◌≡◌, ◌≢◌, ℕ, ◌≤◌, Option, None, List, [], ◌∷◌, ◌++◌, length, drop}
use Rattle.std.proofs.Common.{refl, sym, ap, subst, ◌∙◌, arith, length-append}
use Rattle.std.proofs.lemmas.List.{drop_at}
use Rattle.bw_care.specs.Behind.{frames_behind, IsBehind}
use Rattle.bw_care.specs.declared.scan.Behind.{Behind}
use Rattle.bw_record.specs.Keys.{IsBytes}
use Rattle.bw_codec.specs.Grammar.{IsWhole, header_bytes, IsHeading}
use Rattle.bw_codec.specs.Reading.{heading_of}
use Rattle.bw_codec.specs.declared.head.Header.{Header}
use Rattle.bw_codec.specs.declared.head.HeaderRead.{HeaderRead}
use Rattle.bw_codec.specs.declared.head.HeaderRead.TheVariants as heading
use Rattle.bw_codec.proofs.Heading.{heading_is, header_again, length-header}
use Rattle.bw_care.specs.Scanning.{rest_of, fault_in, fault_under, fault_behind, FaultIs}
use Rattle.bw_care.specs.declared.scan.ScanFault.{ScanFault}

pub header_long : (bytes : List ℕ) (h : Header) → IsHeading bytes (heading.Whole h) → 24 ≤ length bytes
header_long bytes h there = (let size = ap (λ (b : List ℕ). length b) there.2 in omega (arith, size, length-header h, length-append (header_bytes h) there.1))

same_by : (bytes : List ℕ) (told : HeaderRead) (read : HeaderRead) → heading_of bytes ≡ read → IsHeading bytes read → IsHeading bytes told
    → heading_of bytes ≡ told
same_by bytes (heading.Whole h) read is there told = ap heading_of told.2 ∙ header_again h told.1 told.0
same_by bytes heading.Part (heading.Whole h) is there told = (let long = header_long bytes h there in let short = told.1 in absurd (omega arith))
same_by bytes heading.Part heading.Part is there told = is
same_by bytes heading.Part heading.Bad is there told = absurd (there.1 told)
same_by bytes heading.Bad (heading.Whole h) is there told = absurd (told.0 h there.1 there.0 there.2)
same_by bytes heading.Bad heading.Part is there told = absurd (told.1 there)
same_by bytes heading.Bad heading.Bad is there told = is

-- what `read_header` answers is what reading gives
pub heading_told : (bytes : List ℕ) (told : HeaderRead) → IsBytes bytes → IsHeading bytes told → heading_of bytes ≡ told
heading_told bytes told fits there = same_by bytes told (heading_of bytes) refl (heading_is bytes fits) there

-- ---- where a box's bytes cannot be read

pub fault_told : (bytes : List ℕ) (told : HeaderRead) → bytes ≢ [] → heading_of bytes ≡ told → fault_in bytes ≡ fault_under told bytes
fault_told [] told some is = absurd (some refl)
fault_told (b ∷ bs) told some is = ap (λ (r : HeaderRead). fault_under r (b ∷ bs)) is

whole_some : (bytes : List ℕ) (h : Header) → heading_of bytes ≡ heading.Whole h → bytes ≢ []
unfolding heading_of
whole_some bytes h is none = (let e : heading_of [] ≡ heading.Whole h = ap heading_of (sym none) ∙ is in absurd cc)

part_some : (bytes : List ℕ) → heading_of bytes ≡ heading.Part → bytes ≢ []
unfolding heading_of
part_some bytes is none = (let e : heading_of [] ≡ heading.Part = ap heading_of (sym none) ∙ is in absurd cc)

pub fault_whole : (bytes : List ℕ) (h : Header) → heading_of bytes ≡ heading.Whole h → fault_in bytes ≡ fault_behind h bytes
fault_whole bytes h is = fault_told bytes (heading.Whole h) (whole_some bytes h is) is

pub fault_part : (bytes : List ℕ) → heading_of bytes ≡ heading.Part → fault_in bytes ≡ None
fault_part bytes is = fault_told bytes heading.Part (part_some bytes is) is

pub fault_same : (o p : Option ℕ) (fault : ScanFault) → o ≡ p → FaultIs p fault → FaultIs o fault
fault_same o p fault same is = subst (λ (x : Option ℕ). FaultIs x fault) (sym same) is

-- a segment with a header, frames and a tail
pub live_is : (bytes : List ℕ) (h : Header) (b : Behind) → IsHeading bytes (heading.Whole h) → IsBehind h bytes b
    → IsWhole bytes h (frames_behind h bytes) (rest_of h bytes)
live_is bytes h b there is = record {
  lawful = there.0;
  each = is.laws;
  tail = is.torn;
  parts = there.2 ∙ ap (λ (r : List ℕ). header_bytes h ++ r)
      (sym (ap (λ (r : List ℕ). drop 24 r) there.2 ∙ drop_at (header_bytes h) there.1 24 (length-header h)) ∙ is.parts);
}

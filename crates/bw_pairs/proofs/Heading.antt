-- The header of a dump, line by line.

use Rattle.std.proofs.Common.{◌≡◌, ℕ, zero, suc, ◌+◌, Bool, true, false, List, [], ◌∷◌, drop, Option, None, Some, IfSome, Result, Ok, Err, refl, sym, ap, ◌∙◌, arith, length}
use Rattle.std.proofs.lemmas.Bool.{cond-true, lt-ltb}
use Rattle.std.specs.Io.Iter.{u64_saturate}
use Rattle.bw_pairs.specs.declared.dump.Letters.{Letters}
use Rattle.bw_pairs.specs.declared.dump.Header.{Header}
use Rattle.bw_pairs.specs.declared.dump.Header.TheVariants.{First, Rest, End}
use Rattle.bw_pairs.specs.declared.fault.LineFault.{LineFault}
use Rattle.bw_pairs.specs.declared.fault.PairsFault.{PairsFault}
use Rattle.bw_pairs.specs.Faults.{fault_line}
use Rattle.bw_pairs.specs.Records.{Place, next_place, headed_by, next_headed, headed, Headed}
use Rattle.bw_pairs.specs.Readings.{Knows}

-- more of a header comes
abbrev pub HasMore : Header → Type 0
HasMore First = Unit {0}
HasMore (Rest letters) = Unit {0}
HasMore (End letters) = ⊥

there : (header : Header) (n : ℕ) (line : List ℕ) (lines : List (List ℕ))
    → headed (headed_by header line) (u64_saturate (n + 1)) lines
    ≡ headed (next_headed header (record { number = n; lines = line ∷ lines })) (u64_saturate (n + 1)) (drop 1 (line ∷ lines))
there header n line lines =
    ap (λ k. headed k (u64_saturate (n + 1)) lines) (sym (cond-true _ _ _ (lt-ltb 0 (length (line ∷ lines)) (omega arith))))

more_of : (header : Header) (n : ℕ) (lines : List (List ℕ)) → HasMore header
    → headed (Ok header) n lines ≡ headed (next_headed header (record { number = n; lines = lines })) (u64_saturate (n + 1)) (drop 1 lines)
more_of First n [] h = refl
more_of First n (line ∷ lines) h = there First n line lines
more_of (Rest letters) n [] h = refl
more_of (Rest letters) n (line ∷ lines) h = there (Rest letters) n line lines
more_of (End letters) n lines h = absurd h

pub with_line : (o : Option (ℕ × LineFault)) (P Q : ℕ × LineFault → Type 0) → ((line : ℕ × LineFault) → P line → Q line) → IfSome o P → IfSome o Q
with_line None P Q f h = h
with_line (Some line) P Q f h = f line h

-- what is known once a line more is read is what the whole header says
header_then : (header : Header) (now : Place) (all : Headed) (known : Result Header LineFault) → HasMore header
    → headed (Ok header) now.number now.lines ≡ all → next_headed header now ≡ known
    → all ≡ headed known (next_place now).number (next_place now).lines
header_then header now all known more same is =
    sym same ∙ more_of header now.number now.lines more ∙ ap (λ k. headed k (next_place now).number (next_place now).lines) is

pub header_goes : (header next : Header) (now : Place) (all : Headed) (after : Option Place) → HasMore header
    → headed (Ok header) now.number now.lines ≡ all → Knows (Ok next) (next_headed header now) (next_place now) after
    → headed (Ok next) (next_place now).number (next_place now).lines ≡ all
header_goes header next now all after more same known = sym (header_then header now all (Ok next) more same known.0)

pub header_found : (header : Header) (letters : Letters) (now : Place) (all : Headed) (after : Option Place) → HasMore header
    → headed (Ok header) now.number now.lines ≡ all → Knows (Ok (End letters)) (next_headed header now) (next_place now) after
    → Knows (Ok letters) all.letters all.place after
header_found header letters now all after more same known =
    let is = header_then header now all (Ok (End letters)) more same known.0 in
    (ap (λ h. h.letters) is, known.1 ∙ ap Some (sym (ap (λ h. h.place) is)))

pub header_failed : (header : Header) (fault : PairsFault) (now : Place) (all : Headed) (after : Option Place) → HasMore header
    → headed (Ok header) now.number now.lines ≡ all
    → IfSome (fault_line fault) (λ line. (next_headed header now ≡ Err line.1) × (line.0 ≡ (next_place now).number) × (after ≡ Some (next_place now)))
    → IfSome (fault_line fault) (λ line. (all.letters ≡ Err line.1) × (line.0 ≡ all.place.number) × (after ≡ Some all.place))
header_failed header fault now all after more same known =
    with_line (fault_line fault) _ _ (λ line h.
    let is = header_then header now all (Err line.1) more same h.0 in
    (ap (λ h. h.letters) is, h.1 ∙ sym (ap (λ h. h.place.number) is), h.2 ∙ ap Some (sym (ap (λ h. h.place) is)))) known

-- Bad pairs are read over, each with a line at least.

use Rattle.std.proofs.Common.{◌≡◌, ℕ, zero, suc, ◌+◌, ◌-◌, ◌<◌, ◌≤◌, Bool, true, false, ltb, cond, List, [], ◌∷◌, length, drop, get_or, Option, None, Some, IfSome, Result, Ok, Err, refl, sym, ap, ap₂, subst, ◌∙◌, arith, length-drop}
use Rattle.std.specs.Option.{option_map}
use Rattle.std.specs.Io.Iter.{u64_saturate}
use Rattle.std.proofs.lemmas.Bool.{cond-true, cond-false}
use Rattle.bw_record.specs.declared.record.Record.{Record}
use Rattle.bw_pairs.specs.declared.dump.Letters.{Letters}
use Rattle.bw_pairs.specs.declared.dump.Header.{Header}
use Rattle.bw_pairs.specs.declared.dump.Header.TheVariants.{First, Rest, End}
use Rattle.bw_pairs.specs.declared.fault.LineFault.{LineFault}
use Rattle.bw_pairs.specs.declared.fault.LineFault.TheVariants.{NoEnd}
use Rattle.bw_pairs.specs.declared.input.Form.{Form}
use Rattle.bw_pairs.specs.declared.input.Form.TheVariants as forms
use Rattle.bw_pairs.specs.Records.{Place, has_line, next_line, next_place, is_end, step_to, line_step, headed_by, headed, value_came, after_end, end_step, data_step, dump_step, step, Came, Given, Bad, Over, Refused, Step, Reading, came, passed, noted, Answered, answered, next_answer}

-- ---- a bad pair has a line

-- a step that is a bad pair leaves fewer lines
abbrev Shrinks : List (List ℕ) → Step → Type 0
Shrinks lines made = (n : ℕ) → made.came ≡ Bad n → length made.place.lines < length lines

dropped : (lines : List (List ℕ)) → ltb 0 (length lines) ≡ true → length (drop 1 lines) < length lines
dropped [] h = cc h
dropped (line ∷ lines) h = omega arith

dropped_two : (lines : List (List ℕ)) → ltb 0 (length lines) ≡ true → length (drop 1 (drop 1 lines)) < length lines
dropped_two [] h = cc h
dropped_two (line ∷ []) h = omega arith
dropped_two (line ∷ next ∷ lines) h = omega arith

line_shrinks : (form : Form) (deletes : Bool) (place : Place) → Shrinks place.lines (line_step form deletes place)
line_shrinks form deletes place n = at (has_line place) refl
  where
    at : (b : Bool) → has_line place ≡ b → (line_step form deletes place).came ≡ Bad n → length (drop 1 place.lines) < length place.lines
    at true there h = dropped place.lines there
    at false there h = cc (sym (cond-false _ _ _ there) ∙ h)

end_came : (b : Bool) (m n : ℕ) (fault : LineFault) → cond b (Refused m fault) Over ≡ Bad n → ⊥
end_came true m n fault h = cc h
end_came false m n fault h = cc h

data_shrinks : (letters : Letters) (deletes : Bool) (place : Place) → Shrinks place.lines (data_step letters deletes place)
data_shrinks letters deletes place n = at (has_line place) (is_end (next_line place)) refl refl
  where
    at : (b e : Bool) → has_line place ≡ b → is_end (next_line place) ≡ e → (data_step letters deletes place).came ≡ Bad n
        → length (data_step letters deletes place).place.lines < length place.lines
    at true true there last h =
        let is : data_step letters deletes place ≡ end_step (next_place place) = cond-true _ _ _ there ∙ cond-true _ _ _ last in
        absurd (end_came (has_line (next_place place)) _ n _ (ap (λ s. s.came) (sym is) ∙ h))
    at true false there last h =
        let is : data_step letters deletes place ≡ step_to (forms.Data letters) (next_place (next_place place)) (value_came letters deletes place (next_place place)) = cond-true _ _ _ there ∙ cond-false _ _ _ last in
        subst (λ s. length s.place.lines < length place.lines) (sym is) (dropped_two place.lines there)
    at false e there last h =
        let is : data_step letters deletes place ≡ step_to (forms.Data letters) (next_place place) (Refused (next_place place).number NoEnd) = cond-false _ _ _ there in
        cc (ap (λ s. s.came) (sym is) ∙ h)

header_short : (known : Result Header LineFault) (number : ℕ) (lines : List (List ℕ)) → length (headed known number lines).place.lines ≤ length lines
header_short (Err fault) number lines = omega arith
header_short (Ok (End letters)) number lines = omega arith
header_short (Ok First) number [] = omega arith
header_short (Ok (Rest letters)) number [] = omega arith
header_short (Ok First) number (line ∷ lines) =
    omega (arith, header_short (headed_by First line) (u64_saturate (number + 1)) lines)
header_short (Ok (Rest letters)) number (line ∷ lines) =
    omega (arith, header_short (headed_by (Rest letters) line) (u64_saturate (number + 1)) lines)

dump_shrinks : (deletes : Bool) (letters : Result Letters LineFault) (place : Place) → Shrinks place.lines (dump_step deletes letters place)
dump_shrinks deletes (Ok letters) place n h = data_shrinks letters deletes place n h
dump_shrinks deletes (Err fault) place n h = cc h

pub shrinks : (form : Form) (deletes : Bool) (place : Place) → Shrinks place.lines (step form deletes place)
shrinks forms.Words deletes place n h = line_shrinks forms.Words deletes place n h
shrinks forms.Raw deletes place n h = line_shrinks forms.Raw deletes place n h
shrinks forms.Json deletes place n h = line_shrinks forms.Json deletes place n h
shrinks forms.Csv deletes place n h = line_shrinks forms.Csv deletes place n h
shrinks forms.Dump deletes place n h =
    let all = headed (Ok First) place.number place.lines in
    omega (arith, dump_shrinks deletes all.letters all.place n h, header_short (Ok First) place.number place.lines)
shrinks (forms.Data letters) deletes place n h = data_shrinks letters deletes place n h
shrinks forms.Ended deletes place n h = cc h

-- ---- so there is an end of them

-- as many may come as there are lines left
abbrev IsEnough : Came → Reading → ℕ → Type 0
IsEnough first reading most = (n : ℕ) → first ≡ Bad n → length reading.place.lines < most

then_enough : (number : ℕ) (reading : Reading) (most : ℕ) → length reading.place.lines ≤ most
    → IsEnough (came (noted number reading)) (passed (noted number reading)) most
then_enough number reading most h n bad =
    omega (arith, h, shrinks reading.form reading.deletes reading.place n bad)

same : (first : Came) (reading : Reading) (most more : ℕ) → IsEnough first reading most → IsEnough first reading more
    → answered first reading most ≡ answered first reading more
same (Given change) reading most more h k = refl
same Over reading most more h k = refl
same (Refused number fault) reading most more h k = refl
same (Bad number) reading zero more h k = absurd (omega (arith, h number refl))
same (Bad number) reading (suc most) zero h k = absurd (omega (arith, k number refl))
same (Bad number) reading (suc most) (suc more) h k =
    ap (λ all. cond reading.skips all (record { came = Bad number; reading = reading }))
    (same (came (noted number reading)) (passed (noted number reading)) most more
    (then_enough number reading most (omega (arith, h number refl))) (then_enough number reading more (omega (arith, k number refl))))

-- a bad pair is read over
over : (first : Came) (number : ℕ) (reading : Reading) (most : ℕ) → first ≡ Bad number → reading.skips ≡ true → IsEnough first reading most
    → answered first reading most ≡ answered (came (noted number reading)) (passed (noted number reading)) (length reading.place.lines)
over (Given change) number reading most e skips h = cc e
over Over number reading most e skips h = cc e
over (Refused n fault) number reading most e skips h = cc e
over (Bad n) number reading zero e skips h = absurd (omega (arith, h n refl))
over (Bad n) number reading (suc most) e skips h =
    let is : n ≡ number = cc e in
    cond-true _ _ _ skips
    ∙ same (came (noted n reading)) (passed (noted n reading)) most (length reading.place.lines)
    (then_enough n reading most (omega (arith, h n refl))) (then_enough n reading (length reading.place.lines) (omega arith))
    ∙ ap (λ m. answered (came (noted m reading)) (passed (noted m reading)) (length reading.place.lines)) is

pub read_over : (number : ℕ) (reading : Reading) → came reading ≡ Bad number → reading.skips ≡ true
    → next_answer (noted number (passed reading)) ≡ next_answer reading
unfolding next_answer
read_over number reading e skips =
    sym (over (came reading) number (passed reading) (length reading.place.lines) e skips
    (λ n bad. shrinks reading.form reading.deletes reading.place n bad))

-- ---- what ends the search

kept : (first : Came) (number : ℕ) (reading : Reading) (most : ℕ) → first ≡ Bad number → reading.skips ≡ false
    → answered first reading most ≡ record { came = first; reading = reading }
kept (Given change) number reading most e skips = refl
kept Over number reading most e skips = refl
kept (Refused n fault) number reading most e skips = refl
kept (Bad n) number reading zero e skips = refl
kept (Bad n) number reading (suc most) e skips = cond-false _ _ _ skips

-- a bad pair that may not be read over is the answer
pub not_over : (number : ℕ) (reading : Reading) → came reading ≡ Bad number → reading.skips ≡ false
    → next_answer reading ≡ record { came = came reading; reading = passed reading }
unfolding next_answer
not_over number reading e skips = kept (came reading) number (passed reading) (length reading.place.lines) e skips

-- anything else is the answer
abbrev pub IsLast : Came → Type 0
IsLast (Given change) = Unit {0}
IsLast Over = Unit {0}
IsLast (Refused number fault) = Unit {0}
IsLast (Bad number) = ⊥

last : (first : Came) (reading : Reading) (most : ℕ) → IsLast first → answered first reading most ≡ record { came = first; reading = reading }
last (Given change) reading most h = refl
last Over reading most h = refl
last (Refused number fault) reading most h = refl
last (Bad number) reading most h = absurd h

pub ended : (what : Came) (reading : Reading) → IsLast what → came reading ≡ what
    → next_answer reading ≡ record { came = what; reading = passed reading }
unfolding next_answer
ended what reading h e =
    ap (λ c. answered c (passed reading) (length reading.place.lines)) e ∙ last what (passed reading) (length reading.place.lines) h

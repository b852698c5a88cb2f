-- Steps: what was read makes one.

use Rattle.std.proofs.Common.{◌≡◌, ℕ, zero, suc, ◌+◌, ◌<◌, ◌≤◌, Bool, true, false, not, cond, List, [], ◌∷◌, length, drop, get_or, Option, None, Some, IfSome, Result, Ok, Err, refl, sym, ap, ap₂, subst, ◌∙◌, arith}
use Rattle.std.specs.Option.{option_map}
use Rattle.std.specs.Io.Iter.{u64_saturate}
use Rattle.std.proofs.lemmas.Bool.{cond-true, cond-false}
use Rattle.std.specs.Str.{IsUtf8, is_utf8}
use Rattle.std.proofs.lemmas.Str.{IsUtf8-from_is_utf8}
use Rattle.bw_record.specs.declared.record.Record.{Record}
use Rattle.bw_record.specs.declared.record.Record.TheVariants.{Put, Del}
use Rattle.bw_pairs.specs.declared.dump.Letters.{Letters}
use Rattle.bw_pairs.specs.declared.dump.Header.{Header}
use Rattle.bw_pairs.specs.declared.fault.LineFault.{LineFault}
use Rattle.bw_pairs.specs.declared.fault.LineFault.TheVariants.{BadHeader, NoValue, NoEnd, Second}
use Rattle.bw_pairs.specs.declared.input.Form.{Form}
use Rattle.bw_pairs.specs.declared.input.Form.TheVariants as forms
use Rattle.bw_pairs.specs.Records.{lines_in, Place, has_line, next_line, next_place, is_end, line_record, line_step, given_or_bad, headed_by, next_headed, headed, key_at, value_at, pair_came, value_came, after_end, end_step, data_step, Came, Given, Bad, Over, Refused, Step}
use Rattle.bw_pairs.specs.Readings.{place_at, IsRead, IsData, HasNoEnd, IsMade, Knows, refused}

-- what follows of a place
pub with_place : (before : Option Place) (P Q : Place → Type 0) → ((place : Place) → P place → Q place) → IfSome before P → IfSome before Q
with_place None P Q f h = h
with_place (Some place) P Q f h = f place h

-- and of the place after it
pub at_place : (o : Option Place) (place : Place) (P : Place → Type 0) → o ≡ Some place → IfSome o P → P place
at_place o place P e = subst (λ q. IfSome q P) e

-- the number of a place that is known
pub number_at : (o : Option (List ℕ)) (n longest : ℕ) (place : Place) → option_map (place_at n longest) o ≡ Some place → n ≡ place.number
number_at None n longest place h = cc h
number_at (Some bytes) n longest place h = ap (numbered n) h
  where
    numbered : ℕ → Option Place → ℕ
    numbered n None = n
    numbered n (Some place) = place.number

-- ---- lines

pub line_over : (form : Form) (deletes : Bool) (place : Place) (after : Option Place) (line : List ℕ) (now : Form)
    → IsRead false line place after → now ≡ form → IsMade (line_step form deletes place) Over now after
line_over form deletes place after line now read same = (cond-false _ _ _ (sym read.0), sym same, read.2)

pub line_given : (form : Form) (deletes : Bool) (place : Place) (after : Option Place) (line : List ℕ) (now : Form) (n : ℕ) (change : Option Record)
    → IsRead true line place after → now ≡ form → change ≡ line_record form deletes line → n ≡ (next_place place).number
    → IsMade (line_step form deletes place) (given_or_bad n change) now after
line_given form deletes place after line now n change read same is number = (
  cond-true _ _ _ (sym read.0) ∙ ap₂ given_or_bad (sym number) (ap (line_record form deletes) (sym read.1) ∙ sym is),
  sym same,
  read.2,
)

-- ---- headers

pub header_none : (header : Header) (place : Place) (after : Option Place) (line : List ℕ) → IsRead false line place after
    → next_headed header place ≡ Err BadHeader
header_none header place after line read = cond-false _ _ _ (sym read.0)

pub header_line : (header : Header) (place : Place) (after : Option Place) (line : List ℕ) → IsRead true line place after
    → next_headed header place ≡ headed_by header line
header_line header place after line read = cond-true _ _ _ (sym read.0) ∙ ap (headed_by header) (sym read.1)

-- ---- dumps

pub end_over : (place : Place) (after : Option Place) (line : List ℕ) → IsRead false line place after
    → IsMade (end_step place) Over forms.Ended after
end_over place after line read = (cond-false _ _ _ (sym read.0), refl, read.2)

pub end_second : (place : Place) (after : Option Place) (line : List ℕ) (n : ℕ) → IsRead true line place after → n ≡ (next_place place).number
    → IsMade (end_step place) (Refused n Second) forms.Ended after
end_second place after line n read number = (cond-true _ _ _ (sym read.0) ∙ ap (λ m. Refused m Second) (sym number), refl, read.2)

not_false : (b : Bool) → false ≡ not b → b ≡ true
not_false true h = refl
not_false false h = cc h

not_true : (b : Bool) → true ≡ not b → b ≡ false
not_true true h = cc h
not_true false h = refl

-- the end of a dump is read, and then no more of it than a line
pub data_end : (letters : Letters) (deletes : Bool) (place : Place) (line : List ℕ) (middle after : Option Place) (came : Came) (now : Form)
    → IsData false line place middle → IfSome middle (λ next. IsMade (end_step next) came now after)
    → IsMade (data_step letters deletes place) came now after
data_end letters deletes place line middle after came now begins made =
    let last : is_end (next_line place) ≡ true = ap is_end (sym begins.0.1) ∙ not_false (is_end line) begins.1 in
    let is : data_step letters deletes place ≡ end_step (next_place place) = cond-true _ _ _ (sym begins.0.0) ∙ cond-true _ _ _ last in
    subst (λ step. IsMade step came now after) (sym is) (at_place middle (next_place place) (λ next. IsMade (end_step next) came now after) begins.0.2 made)

pub data_none : (letters : Letters) (deletes : Bool) (place : Place) (line : List ℕ) (after : Option Place) (now : Form) (at : ℕ × LineFault)
    → HasNoEnd at line place after → now ≡ forms.Data letters
    → IsMade (data_step letters deletes place) (refused at) now after
data_none letters deletes place line after now at none same =
    let is : data_step letters deletes place ≡ record { came = Refused (next_place place).number NoEnd; form = forms.Data letters; place = next_place place } = cond-false _ _ _ (sym none.0.0) in
    subst (λ step. IsMade step (refused at) now after) (sym is) (ap refused (sym none.1), sym same, none.0.2)

-- a line of data, and what stands on the line after it
data_pair : (letters : Letters) (deletes : Bool) (place : Place) (line : List ℕ) (middle : Option Place) → IsData true line place middle
    → data_step letters deletes place ≡ record {
      came = value_came letters deletes place (next_place place);
      form = forms.Data letters;
      place = next_place (next_place place);
    }
data_pair letters deletes place line middle begins =
    cond-true _ _ _ (sym begins.0.0) ∙ cond-false _ _ _ (ap is_end (sym begins.0.1) ∙ not_true (is_end line) begins.1)

pub value_none : (letters : Letters) (deletes : Bool) (place : Place) (line second : List ℕ) (middle after : Option Place) (now : Form) (at : ℕ × LineFault)
    → IsData true line place middle → IfSome middle (λ next. HasNoEnd at second next after) → now ≡ forms.Data letters
    → IsMade (data_step letters deletes place) (refused at) now after
value_none letters deletes place line second middle after now at begins none same =
    let then_ = at_place middle (next_place place) (λ next. HasNoEnd at second next after) begins.0.2 none in
    subst (λ step. IsMade step (refused at) now after) (sym (data_pair letters deletes place line middle begins)) (
      cond-false _ _ _ (sym then_.0.0) ∙ ap refused (sym then_.1),
      sym same,
      then_.0.2,
    )

pub value_ended : (letters : Letters) (deletes : Bool) (place : Place) (line second : List ℕ) (middle after : Option Place) (now : Form) (n : ℕ)
    → IsData true line place middle → IfSome middle (λ next. IsData false second next after) → now ≡ forms.Data letters
    → ((next : Place) → after ≡ Some next → n ≡ next.number)
    → IsMade (data_step letters deletes place) (Refused n NoValue) now after
value_ended letters deletes place line second middle after now n begins none same number =
    let then_ = at_place middle (next_place place) (λ next. IsData false second next after) begins.0.2 none in
    subst (λ step. IsMade step (Refused n NoValue) now after) (sym (data_pair letters deletes place line middle begins)) (
      cond-true _ _ _ (sym then_.0.0) ∙ cond-true _ _ _ (ap is_end (sym then_.0.1) ∙ not_false (is_end second) then_.1)
          ∙ ap (λ m. Refused m NoValue) (sym (number _ then_.0.2)),
      sym same,
      then_.0.2,
    )

pub value_paired : (letters : Letters) (deletes : Bool) (place : Place) (line second : List ℕ) (middle after : Option Place) (now : Form) (n m : ℕ) (key value : Option (List ℕ))
    → IsData true line place middle → IfSome middle (λ next. IsData true second next after) → now ≡ forms.Data letters
    → ((next : Place) → middle ≡ Some next → n ≡ next.number) → ((next : Place) → after ≡ Some next → m ≡ next.number)
    → key ≡ key_at letters line → value ≡ value_at letters second
    → IsMade (data_step letters deletes place) (pair_came deletes n m key value) now after
value_paired letters deletes place line second middle after now n m key value begins more same first last is_key is_value =
    let then_ = at_place middle (next_place place) (λ next. IsData true second next after) begins.0.2 more in
    let a : n ≡ (next_place place).number = first _ begins.0.2 in
    let b : m ≡ (next_place (next_place place)).number = last _ then_.0.2 in
    let k : key_at letters (next_line place) ≡ key = ap (key_at letters) (sym begins.0.1) ∙ sym is_key in
    let v : value_at letters (next_line (next_place place)) ≡ value = ap (value_at letters) (sym then_.0.1) ∙ sym is_value in
    subst (λ step. IsMade step (pair_came deletes n m key value) now after) (sym (data_pair letters deletes place line middle begins)) (
      cond-true _ _ _ (sym then_.0.0) ∙ cond-false _ _ _ (ap is_end (sym then_.0.1) ∙ not_true (is_end second) then_.1)
          ∙ ap₂ (λ i j. pair_came deletes i j (key_at letters (next_line place)) (value_at letters (next_line (next_place place)))) (sym a) (sym b)
          ∙ ap₂ (λ i j. pair_came deletes n m i j) k v,
      sym same,
      then_.0.2,
    )

-- ---- headers

pub no_text : (bytes : List ℕ) → (IsUtf8 bytes → ⊥) → is_utf8 bytes ≡ false
no_text bytes h = at (is_utf8 bytes) refl
  where
    at : (b : Bool) → is_utf8 bytes ≡ b → is_utf8 bytes ≡ false
    at true e = absurd (h (IsUtf8-from_is_utf8 bytes e))
    at false e = e

-- a fault of a line is what came
pub made_refused : (o : Option (ℕ × LineFault)) (P : Came → Type 0) → IfSome o (λ at. P (refused at)) → IfSome (option_map refused o) P
made_refused None P h = h
made_refused (Some at) P h = h

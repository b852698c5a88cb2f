-- A step of an input, and its answer.

use Rattle.std.proofs.Common.{◌≡◌, is_some, ℕ, ◌+◌, Bool, true, false, List, Option, None, Some, IfSome, Result, Ok, Err, OnOk, refl, sym, ap, ap₂, subst, ◌∙◌, rules}
use Rattle.std.specs.Option.{option_map}
use Rattle.std.specs.Result.{is_ok}
use Rattle.bw_record.specs.declared.record.Record.{Record}
use Rattle.bw_pairs.specs.declared.fault.LineFault.{LineFault}
use Rattle.bw_pairs.specs.declared.fault.PairsFault.{PairsFault}
use Rattle.bw_pairs.specs.declared.input.Form.{Form}
use Rattle.bw_pairs.specs.declared.input.Next.{Next}
use Rattle.bw_pairs.specs.declared.input.Pairs.{Pairs}
use Rattle.bw_pairs.specs.Faults.{fault_line}
use Rattle.bw_pairs.proofs.ReadOver.{IsLast, ended, not_over, read_over}
use Rattle.bw_pairs.specs.Records.{Place, Came, Given, Bad, Over, Refused, Step, step, Reading, came, passed, noted, Answered, next_answer}
use Rattle.bw_pairs.specs.Readings.{place_of, first_skipped, reading_at, reading_of, came_of, refused, IsMade, Makes, OnlyMoved, Says}

-- the place of an input that is known
placed : {I : Type 0} (pairs : Pairs I) (o : Option Place) (now : Reading) → option_map (reading_at pairs) o ≡ Some now
    → (o ≡ Some now.place) × (now ≡ reading_at pairs now.place)
placed pairs None now h = cc h
placed pairs (Some place) now h =
    let is : reading_at pairs place ≡ now = cc h in
    (ap (λ r. Some r.place) is, sym is ∙ ap (λ r. reading_at pairs r.place) is)

-- what came of an input is what comes next in it, and the rest is left
pub stepped : {I : Type 0} (remaining : I → Option (List ℕ)) (old new : Pairs I) (result : Result Next PairsFault) (what : Came) (now : Reading)
    → came_of result ≡ Some what
    → Makes result (step old.form old.deletes) (place_of remaining old.lines) new.form (place_of remaining new.lines)
    → OnlyMoved old new → reading_of remaining old ≡ Some now
    → (came now ≡ what) × (reading_of remaining new ≡ Some (passed now))
stepped remaining old new result what now is makes same known =
    let at = placed old (place_of remaining old.lines) now known in
    let inner : IfSome (place_of remaining old.lines) (λ place. IsMade (step old.form old.deletes place) what new.form (place_of remaining new.lines)) =
    subst (λ o. IfSome o (λ c. IfSome (place_of remaining old.lines) (λ place. IsMade (step old.form old.deletes place) c new.form (place_of remaining new.lines)))) is makes in
    let made : IsMade (step old.form old.deletes now.place) what new.form (place_of remaining new.lines) =
    subst (λ o. IfSome o (λ place. IsMade (step old.form old.deletes place) what new.form (place_of remaining new.lines))) at.0 inner in
    let form : now.form ≡ old.form = ap (λ r. r.form) at.1 in
    let deletes : now.deletes ≡ old.deletes = ap (λ r. r.deletes) at.1 in
    let steps : step now.form now.deletes now.place ≡ step old.form old.deletes now.place = ap₂ (λ f d. step f d now.place) form deletes in
    let ends : passed now ≡ reading_at new (step old.form old.deletes now.place).place = search rules in
    (ap (λ s. s.came) steps ∙ made.0, ap (option_map (reading_at new)) made.2 ∙ ap Some (sym ends))

-- ---- answers

-- an answer, and the input after it
abbrev pub IsAnswer : Reading → Came → Option Reading → Type 0
IsAnswer now what after = ((next_answer now).came ≡ what) × (after ≡ Some (next_answer now).reading)

answer_is : (now : Reading) (what : Came) (after : Option Reading) → next_answer now ≡ record { came = what; reading = passed now }
    → after ≡ Some (passed now) → IsAnswer now what after
answer_is now what after is left = (ap (λ a. a.came) is, left ∙ ap Some (sym (ap (λ a. a.reading) is)))

pub answers : {I : Type 0} (remaining : I → Option (List ℕ)) (old new : Pairs I) (result : Result Next PairsFault) (what : Came) (now : Reading)
    → came_of result ≡ Some what → IsLast what
    → Makes result (step old.form old.deletes) (place_of remaining old.lines) new.form (place_of remaining new.lines)
    → OnlyMoved old new → reading_of remaining old ≡ Some now
    → IsAnswer now what (reading_of remaining new)
answers remaining old new result what now is last makes same known =
    let made = stepped remaining old new result what now is makes same known in
    answer_is now what (reading_of remaining new) (ended what now last made.0) made.1

pub failed : {I : Type 0} (remaining : I → Option (List ℕ)) (old new : Pairs I) (fault : PairsFault) (now : Reading)
    → Makes (Err fault) (step old.form old.deletes) (place_of remaining old.lines) new.form (place_of remaining new.lines)
    → OnlyMoved old new → reading_of remaining old ≡ Some now
    → IfSome (fault_line fault) (λ line. IsAnswer now (refused line) (reading_of remaining new))
failed remaining old new fault now makes same known = at (fault_line fault) refl
  where
    at : (o : Option (ℕ × LineFault)) → fault_line fault ≡ o → IfSome (fault_line fault) (λ line. IsAnswer now (refused line) (reading_of remaining new))
    at None e = subst (λ o. IfSome o (λ line. IsAnswer now (refused line) (reading_of remaining new))) (sym e) tt
    at (Some line) e =
        subst (λ o. IfSome o (λ line. IsAnswer now (refused line) (reading_of remaining new))) (sym e)
        (answers remaining old new (Err fault) (refused line) now (ap (option_map refused) e) tt makes same known)

-- the input was read, if there is a line at fault
pub when_read : (o : Option (ℕ × LineFault)) (P : Type 0) → is_some o ≡ true → IfSome o (λ line. P) → P
when_read None P e h = cc e
when_read (Some line) P e h = h

skips_of : {I : Type 0} (remaining : I → Option (List ℕ)) (pairs : Pairs I) (now : Reading) → reading_of remaining pairs ≡ Some now → now.skips ≡ pairs.skips
skips_of remaining pairs now known = ap (λ r. r.skips) (placed pairs (place_of remaining pairs.lines) now known).1

-- a bad pair ends the input, if none is read over
pub bad_ends : {I : Type 0} (remaining : I → Option (List ℕ)) (old new : Pairs I) (result : Result Next PairsFault) (number : ℕ) (now : Reading)
    → came_of result ≡ Some (Bad number)
    → Makes result (step old.form old.deletes) (place_of remaining old.lines) new.form (place_of remaining new.lines)
    → OnlyMoved old new → new.skips ≡ false → reading_of remaining old ≡ Some now
    → IsAnswer now (Bad number) (reading_of remaining new)
bad_ends remaining old new result number now is makes same skips known =
    let made = stepped remaining old new result (Bad number) now is makes same known in
    let ends = not_over number now made.0 (skips_of remaining new (passed now) made.1 ∙ skips) in
    answer_is now (Bad number) (reading_of remaining new) (ends ∙ ap (λ c. record { came = c; reading = passed now }) made.0) made.1

-- a bad pair was read over, and noted
pub bad_noted : {I : Type 0} (remaining : I → Option (List ℕ)) (old new then_ : Pairs I) (result : Result Next PairsFault) (number : ℕ) (now : Reading)
    → came_of result ≡ Some (Bad number)
    → Makes result (step old.form old.deletes) (place_of remaining old.lines) new.form (place_of remaining new.lines)
    → OnlyMoved old new → new.skips ≡ true
    → ((place : Place) → reading_at then_ place ≡ noted number (reading_at new place)) → then_.lines ≡ new.lines
    → reading_of remaining old ≡ Some now
    → (reading_of remaining then_ ≡ Some (noted number (passed now))) × (next_answer (noted number (passed now)) ≡ next_answer now)
bad_noted remaining old new then_ result number now is makes same skips notes lines known =
    let made = stepped remaining old new result (Bad number) now is makes same known in
    let at = placed new (place_of remaining new.lines) (passed now) made.1 in (
      ap (λ l. option_map (reading_at then_) (place_of remaining l)) lines
          ∙ ap (option_map (reading_at then_)) at.0
          ∙ ap Some (notes (passed now).place ∙ ap (noted number) (sym at.1)),
      read_over number now made.0 (skips_of remaining new (passed now) made.1 ∙ skips),
    )

-- ---- what follows of an input

pub with_reading : (before : Option Reading) (P Q : Reading → Type 0) → ((reading : Reading) → P reading → Q reading) → IfSome before P → IfSome before Q
with_reading None P Q f h = h
with_reading (Some reading) P Q f h = f reading h

pub on_ok : {T E : Type 0} (result : Result T E) (P : Type 0) → is_ok result ≡ true → OnOk result P → P
on_ok (Ok answer) P e h = h
on_ok (Err fault) P e h = cc e

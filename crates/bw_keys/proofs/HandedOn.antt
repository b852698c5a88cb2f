-- One record more that an input hands out.
use Rattle.std.proofs.Common.{◌≡◌, List, [], ◌∷◌, ◌++◌, Option, Some, None, Result, Ok, IfOk, IfSome, IsSome, refl, subst, sym, ap, ◌∙◌, rules}
use Rattle.bw_record.specs.declared.record.Record.{Record}
use Rattle.bw_pairs.specs.Records.{Reading, Given, next_answer}
use Rattle.bw_pairs.specs.Readings.{Says}
use Rattle.bw_keys.specs.Loading.{got}
use Rattle.bw_keys.specs.declared.fault.KeysFault.{KeysFault}
use Rattle.bw_keys.specs.Handed.{AreHanded, HasHanded}

pub one_more : (from : Reading) (given : List Record) (to : Reading) (item : Record) → AreHanded from given to
    → (next_answer to).came ≡ Given item → AreHanded from (given ++ item ∷ []) (next_answer to).reading
one_more from [] to item is came = subst (λ (r : Reading). ((next_answer r).came ≡ Given item) × ((next_answer to).reading ≡ (next_answer r).reading)) is (came, refl)
one_more from (x ∷ xs) to item (first, rest) came = (first, one_more (next_answer from).reading xs to item rest came)

-- the input after a record that it handed out
after_some : (from : Reading) (given : List Record) (old new : Option Reading) (x : Record) → HasHanded from given old
    → IfSome old (λ r. Says (Ok (Some x)) (next_answer r).came) → IfSome old (λ r. new ≡ Some (next_answer r).reading)
    → HasHanded from (given ++ x ∷ []) new
after_some from given old new x has says left =
    let came : (next_answer has.to).came ≡ Given x = rw has.is at says in
    let moved : new ≡ Some (next_answer has.to).reading = rw has.is at left in
    record { to = (next_answer has.to).reading; is = moved; handed = one_more from given has.to x has.handed came }

pub handed_next : (from : Reading) (given noted : List Record) (old new : Option Reading) (answer : Result (Option Record) KeysFault)
    (item : Option Record) → answer ≡ Ok item → noted ≡ given ++ got answer → HasHanded from given old
    → IfSome old (λ r. Says (Ok item) (next_answer r).came) → IfSome old (λ r. new ≡ Some (next_answer r).reading)
    → IfOk answer (λ it. IsSome it → HasHanded from noted new)
handed_next from given noted old new answer (Some x) e is has says left =
    let all : noted ≡ given ++ x ∷ [] = is ∙ ap (λ (a : Result (Option Record) KeysFault). given ++ got a) e in
    rw e (λ there. subst (λ (items : List Record). HasHanded from items new) (sym all) (after_some from given old new x has says left))
handed_next from given noted old new answer None e is has says left = rw e (λ there. search rules)

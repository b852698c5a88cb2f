-- Which records an input hands out: those of its lines, one after another.

use Rattle.std.specs.Prelude.{◌≡◌, List, [], ◌∷◌, Option, Some}
use Rattle.bw_record.specs.declared.record.Record.{Record}
use Rattle.bw_pairs.specs.Records.{Reading, Given, Over, next_answer}

-- if an input is read on from here, these records come first, and it is read up to there then
abbrev pub AreHanded : Reading → List Record → Reading → Type 0
AreHanded from [] to = to ≡ from
AreHanded from (item ∷ items) to =
    ((next_answer from).came ≡ Given item) × AreHanded (next_answer from).reading items to

-- these records came since an input was read up to here, and it is known how far it is read now
pub record HasHanded (from : Reading) (given : List Record) (now : Option Reading) : Type 0 where
  pub to : Reading
  pub is : now ≡ Some to
  pub handed : AreHanded from given to

-- these are all records that come from here on
pub record AreAll (from : Reading) (given : List Record) : Type 0 where
  pub to : Reading
  pub handed : AreHanded from given to
  pub over : (next_answer to).came ≡ Over

-- The worked bytes, by computing.

use Rattle.std.proofs.Common.{refl}
use Rattle.bw_rows.specs.Spelling.{four, eight, number_in}
use Rattle.bw_rows.specs.Worked.{AreSpelled, AreTold}

pub are_spelled : AreSpelled
unfolding four eight number_in
are_spelled = record {
  number = refl;
  name = refl;
  row = refl;
  doomed = refl;
  chunk = refl;
  whole = refl;
  head = refl;
  named = refl;
  itself = refl;
  one_chunk = refl;
  two_chunks = refl;
  three_chunks = refl;
}

pub are_told : AreTold
unfolding four eight number_in
are_told = record {
  value = refl;
  beginning = refl;
  no_table = refl;
  deleted = refl;
  emptied = refl;
  long = refl;
  aside = refl;
  stands = refl;
}

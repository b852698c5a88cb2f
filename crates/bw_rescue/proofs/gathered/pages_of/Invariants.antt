use Rattle.std.specs.Map.{keys_of}
use Rattle.bw_rescue.specs.Gathered.{AreSearched}
use Rattle.bw_rescue.proofs.AllGathered.{Listed, SoFar}
use Rattle.bw_rescue.proofs.gathered.pages_of.Given as goal

abbrev pub invariant-loop-number : goal.invariant-loop-number
invariant-loop-number l = record {
  listed : Listed l.held l._number-iterator;
  read : AreSearched l.held → SoFar l.held (keys_of l.initial._number-iterator) l._number-iterator l.pages;
}

use Rattle.std.specs.Prelude.{◌≡◌, ◌++◌, length}
use Rattle.bw_rescue.specs.Cut.{AreCut}
use Rattle.bw_rescue.proofs.cutting.cut_at.Given as goal

abbrev pub invariant-loop-image : goal.invariant-loop-image
invariant-loop-image l = record {
  cut : AreCut l.frame l.yielded l.cut.items;
  all : l.yielded ++ l.image-iterator.rest.items ≡ l.fn.images.items;
  long : length l.image-iterator.rest.items ≡ l.image-iterator.rest.len;
}

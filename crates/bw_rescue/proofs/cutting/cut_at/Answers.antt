use Rattle.std.proofs.Common.{◌≡◌, ◌∙◌, ◌+◌, List, [], ◌∷◌, ◌++◌, length, ap, sym, subst, append_assoc, arith}
use Rattle.bw_look.specs.declared.image.Image.{Image}
use Rattle.bw_rescue.specs.Cut.{AreCut}
use Rattle.bw_rescue.proofs.FilesCut.{one_cut, all_cut, length_none, one_less}
use Rattle.bw_rescue.proofs.cutting.cut_at.Goals as goal

pub loop-image-preserved : goal.loop-image-preserved
loop-image-preserved c = record {
  cut = subst (λ (l : List Image). AreCut c.args.frame (c.loop-image.yielded ++ c.in-Some.image ∷ []) l) (sym c.in_ok-push.ensures.items)
      (one_cut c.args.frame c.loop-image.yielded c.loop-image.cut.items c.in-Some.image c.in_ok-cut_one.field-0 c.loop-image.invariant.cut c.in_ok-cut_one.ensures);
  all = append_assoc c.loop-image.yielded (c.in-Some.image ∷ []) c.next.new.self.rest.items
      ∙ ap (λ (l : List Image). c.loop-image.yielded ++ l) (sym c.in-Some.ensures.steps.0) ∙ c.loop-image.invariant.all;
  long = (let one : length c.loop-image.image-iterator.rest.items ≡ length c.next.new.self.rest.items + 1 = one_less c.in-Some.image c.next.new.self.rest.items c.loop-image.image-iterator.rest.items c.in-Some.ensures.steps.0 in
      let its = c.in-Some.ensures.steps.1 in let was = c.loop-image.invariant.long in omega arith);
}

pub returns : goal.returns
returns c = all_cut c.args.frame c.args.images.items c.loop-image.yielded c.loop-image.image-iterator.rest.items c.loop-image.cut.items c.loop-image.invariant.cut
    c.loop-image.invariant.all (length_none c.loop-image.image-iterator.rest.items (c.loop-image.invariant.long ∙ c.in-None.ensures.steps.0))

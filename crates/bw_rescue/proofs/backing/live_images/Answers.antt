use Rattle.std.proofs.Common.{◌≡◌, ◌∙◌, List, ap, map, subst}
use Rattle.std.specs.Prelude.{IfSome, IsSome, MatchOption, None, slice_get}
use Rattle.bw_core.specs.Kept.{Kept}
use Rattle.bw_look.specs.declared.image.Image.{Image}
use Rattle.bw_home.specs.Ready.{kept_in}
use Rattle.bw_rescue.specs.Images.{copied, copy_of}
use Rattle.bw_rescue.proofs.OneMore.{one_more}
use Rattle.bw_rescue.proofs.backing.live_images.Goals as goal

pub segments-preserved : goal.segments-preserved
segments-preserved g c =
    let first = kept_in c.args.home.now (λ z. (goal.Segment-dyn g z).holding z.1) in
    let o = c.in_ok-image.field-0 in
    let found = subst (λ (k : Kept). MatchOption (slice_get k.log.live c.segments.index) (o ≡ None) (λ h. IsSome o × IfSome o (λ x. copied x ≡ copy_of h)))
    c.segments.invariant.same c.in_ok-image.ensures.image in
    record {
      ready = c.image_at.ensures.ready;
      same = c.in_ok-image.ensures.same ∙ c.segments.invariant.same;
      images = ap (λ (l : List Image). map copied l) c.in_ok-push-in-Some.ensures.items
          ∙ one_more first.log.live c.segments.images.items c.segments.index o c.in-Some.image c.in-Some.is found c.segments.invariant.images;
    }

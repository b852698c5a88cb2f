use Rattle.std.specs.Prelude.{◌≡◌, map, take}
use Rattle.bw_home.specs.Ready.{kept_in, IsReady}
use Rattle.bw_rescue.specs.Images.{copied, copy_of}
use Rattle.bw_rescue.proofs.backing.live_images.Given as goal

abbrev pub invariant-segments : goal.invariant-segments
invariant-segments g l = record {
  ready : IsReady l.home (λ z. (goal.Segment-dyn g z).holding z.1);
  same : kept_in l.home (λ z. (goal.Segment-dyn g z).holding z.1) ≡ kept_in l.initial.home (λ z. (goal.Segment-dyn g z).holding z.1);
  images : map copied l.images.items ≡ map copy_of (take l.index (kept_in l.initial.home (λ z. (goal.Segment-dyn g z).holding z.1)).log.live);
}

use Rattle.bw_care.specs.Found.{IsRecovered}
use Rattle.bw_rescue.proofs.walking.each_page.Given as goal

abbrev pub invariant-pages : goal.invariant-pages
invariant-pages g l = IsRecovered (λ b. (goal.Segment-dyn g (b.vtable, b.value)).holding b.value) l.pages

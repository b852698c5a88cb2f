use Rattle.std.proofs.Common.{◌≡◌, ℕ, ◌+◌, take, suc, sym, ap, ◌∙◌, arith}
use Rattle.bw_care.specs.Views.{seen}
use Rattle.bw_care.specs.Tallies.{bytes_of, up}
use Rattle.bw_care.proofs.Tallied.{bytes_next, bytes_none, up_more}
use Rattle.bw_care.proofs.lengths.bytes_upto.Goals as goal

pub segments-init : goal.segments-init
segments-init g c = sym (ap (up 0) (bytes_none (seen c.args.log.now (λ b. (goal.Segment-dyn g b).holding b.1)).live))

pub segments-preserved : goal.segments-preserved
segments-preserved g c =
    let live = (seen c.args.log.now (λ b. (goal.Segment-dyn g b).holding b.1)).live in
    let at : c.segments.i + 1 ≡ suc c.segments.i = omega arith in
    let next = ap (λ (n : ℕ). bytes_of (take n live)) at ∙ bytes_next live c.segments.i in
    c.saturating_add-bytes.ensures
    ∙ up_more (bytes_of (take c.segments.i live)) (bytes_of (take (c.segments.i + 1) live)) c.segments.bytes c.length_of.result c.segments.invariant
    (next ∙ ap (λ (k : ℕ). bytes_of (take c.segments.i live) + k) (sym c.length_of.ensures))

pub returns : goal.returns
returns g c =
    let live = (seen c.args.log.now (λ b. (goal.Segment-dyn g b).holding b.1)).live in
    let end = c.segments-test.false in
    let at : c.segments.i ≡ c.args.count = omega arith in
    c.segments.invariant ∙ ap (λ (n : ℕ). up 0 (bytes_of (take n live))) at

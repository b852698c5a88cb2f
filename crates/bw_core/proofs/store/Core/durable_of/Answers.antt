use Rattle.std.proofs.Common.{◌<◌, ap, ◌∙◌, length, take, subst, arith}
use Rattle.std.proofs.lemmas.List.{length-map}
use Rattle.std.specs.List.{AllByRecursion}
use Rattle.bw_ring.specs.Ends.{ring_of_lane}
use Rattle.bw_history.specs.History.{of_writer}
use Rattle.bw_core.specs.Views.{kept_by}
use Rattle.bw_core.proofs.Forgetting.{end_within}
use Rattle.bw_core.proofs.store.Core.durable_of.Goals as goal

pub count_upto-requires-clause-kept : goal.count_upto-requires-clause-kept
count_upto-requires-clause-kept g c =
    let gone = c.args.self.now.forgotten in
    let end = c.durable_end.ensures.value in
    omega arith

pub count_upto-requires-clause-within : goal.count_upto-requires-clause-within
count_upto-requires-clause-within g c =
    end_within (kept_by c.args.self.now (λ z. (goal.Segment-dyn g z).holding z.1)) c.durable_end.result c.requires c.durable_end.ensures.value

pub count_upto-requires-clause-writers : goal.count_upto-requires-clause-writers
count_upto-requires-clause-writers g c =
    subst (λ n. AllByRecursion (λ e. e.writer < n) c.args.self.now.intake.history.items) (length-map c.args.self.now.intake.lanes.items ring_of_lane)
    c.requires.writers

pub returns : goal.returns
returns g c =
    c.count_upto.ensures ∙ ap (λ n. length (of_writer c.args.writer (take n c.args.self.now.intake.history.items))) c.durable_end.ensures.value

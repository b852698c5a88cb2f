use Rattle.std.proofs.Common.{ap, subst, map, true, ◌∷◌, [], is_ok}
use Rattle.bw_file.specs.Asked.{Names, IsCutOff}
use Rattle.bw_file.specs.Settled.{all_calls, settle_calls}
use Rattle.bw_file.specs.FileHolding.{owes}
use Rattle.bw_file.proofs.Asking.{on_err}
use Rattle.bw_file.proofs.Cut.{cut_first, cut_at_names}
use Rattle.bw_file.proofs.folder.Folder.settle_waiting.Goals as goal

pub returns-in_err-settle_all-clause-cut : goal.returns-in_err-settle_all-clause-cut
returns-in_err-settle_all-clause-cut g c =
    let its = owes {F = g.row.F.Denot} in
    on_err c.from_residual.result
    (subst (λ v. IsCutOff (settle_calls (map its v.items)) c.args.self.now.asked.value c.settle_all.new.all.value) c.replace-waiting.ensures.value
    (cut_first (all_calls (map its c.replace-waiting.result.items)) (Names true ∷ []) c.args.self.now.asked.value c.settle_all.new.all.value c.in_err-settle_all.ensures.cut))

pub returns-in_err-sync_names-clause-cut : goal.returns-in_err-sync_names-clause-cut
returns-in_err-sync_names-clause-cut g c =
    let its = owes {F = g.row.F.Denot} in
    on_err c.from_residual-in_err-sync_names.result
    (subst (λ v. IsCutOff (settle_calls (map its v.items)) c.args.self.now.asked.value c.sync_names.new.all.value) c.replace-waiting.ensures.value
    (cut_at_names (map its c.replace-waiting.result.items) (is_ok c.sync_names.result) c.args.self.now.asked.value c.settle_all.new.all.value c.sync_names.new.all.value
    c.in_ok-settle_all.ensures.asked (ap is_ok c.in_err-sync_names.was) c.sync_names.ensures))

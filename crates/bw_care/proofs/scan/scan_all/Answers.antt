use Rattle.std.proofs.Common.{sym, ap, ◌∙◌, arith, ℕ, Some, Err}
use Rattle.bw_lines.specs.declared.cause.RecoverCause.TheVariants.{BadBytes}
use Rattle.bw_care.specs.declared.scan.ScanFault.{ScanFault}
use Rattle.std.proofs.lemmas.Result.{err_from_is_err_and}
use Rattle.bw_care.proofs.PassSoFar.{pass_stops, scan_step, fault_step, inside_map}
use Rattle.bw_care.proofs.scan.scan_all.Goals as goal

pub returns-in_err-scan-clause-stops : goal.returns-in_err-scan-clause-stops
returns-in_err-scan-clause-stops g c =
    let p = err_from_is_err_and c.from_residual.result c.from_residual.ensures.1 in
    rw (p.1, p.2) (pass_stops c.loop-at.at _ _ _ c.in_err-scan.field-0.0 c.loop-at.invariant.same c.in_err-scan.ensures.stops)

pub returns-in-Err-BadBytes-clause-stops : goal.returns-in-Err-BadBytes-clause-stops
returns-in-Err-BadBytes-clause-stops g c = (
  c.in_ok-scan.ensures.same ∙ c.loop-at.invariant.same,
  fault_step _ _ c.loop-at.scans.items c.loop-at.at _ c.in_ok-scan.field-0 c.loop-at.invariant.same
      (inside_map _ c.args.boxes.now.items c.loop-at.at (omega (arith, c.loop-at-test.true))) c.loop-at.invariant.scans c.in_ok-scan.ensures.found
      (c.in-Err-BadBytes.is ∙ ap (λ (f : ScanFault). Err f) c.in-Err-BadBytes.field-0-is)
      ∙ ap (λ (n : ℕ). Some (BadBytes c.loop-at.at n)) (sym c.in-Err-BadBytes.offset-is),
)

pub loop-at-preserved : goal.loop-at-preserved
loop-at-preserved g c = record {
  same = c.in_ok-scan.ensures.same ∙ c.loop-at.invariant.same;
  scans = scan_step _ _ c.loop-at.scans.items _ c.loop-at.at c.in_ok-scan.field-0 c.in-Ok.scan c.loop-at.invariant.same
      (inside_map _ c.args.boxes.now.items c.loop-at.at (omega (arith, c.loop-at-test.true))) c.loop-at.invariant.scans c.in_ok-scan.ensures.found
      c.in-Ok.is c.in_ok-push-in-Ok.ensures.items;
}

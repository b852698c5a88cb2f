use Rattle.std.proofs.Common.{ap, map, Bor, List, ℕ}
use Rattle.bw_care.proofs.PassSoFar.{scan_lent}
use Rattle.bw_care.proofs.scan.scan_one.Goals as goal

pub returns-in-Some-clause-found : goal.returns-in-Some-clause-found
returns-in-Some-clause-found g c = scan_lent (λ (b : Bor (List ℕ)). b.now) _ _ c.args.at c.in_ok-bytes.field-0 c.in-Some.bytes c.scan_bytes.result
    (ap (map _) c.deref.ensures.value) c.in_ok-bytes.ensures.bytes c.in-Some.is c.scan_bytes.ensures.found c.scan_bytes.ensures.fault

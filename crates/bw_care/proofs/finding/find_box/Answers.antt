use Rattle.std.proofs.Common.{Bor, List, ℕ, Some, map, slice_get, ap, arith, length}
use Rattle.bw_care.specs.Forward.{IsForward}
use Rattle.bw_care.proofs.SecondPass.{found_lent}
use Rattle.bw_care.proofs.PassSoFar.{inside_map}
use Rattle.bw_care.proofs.finding.find_box.Goals as goal

pub returns-in-Some-clause-found : goal.returns-in-Some-clause-found
returns-in-Some-clause-found g c = found_lent (λ (b : Bor (List ℕ)). b.now)
    (λ bytes. IsForward c.args.first bytes c.args.lines.now c.find_segment.result c.find_segment.new.lines) _ _ c.args.at c.in_ok-bytes.field-0
    c.in-Some.bytes (ap (map _) c.deref.ensures.value) (inside_map _ c.args.boxes.now.items c.args.at c.requires.inside) c.in_ok-bytes.ensures.bytes
    c.in-Some.is (record { ok = c.find_segment.ensures.ok; fault = c.find_segment.ensures.fault })

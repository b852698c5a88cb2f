use Rattle.std.proofs.Common.{◌≡◌, ℕ, ap, refl, subst, ◌+◌, List, ◌++◌, length}
use Rattle.bw_device.specs.Holding.{Holding}
use Rattle.bw_digest.specs.Rows.{reach}
use Rattle.bw_file.specs.Asked.{empty, after_all, append_calls, IsBrokenOff}
use Rattle.bw_file.proofs.Asking.{Has, ends_with, has_old, has_new}
use Rattle.bw_file.proofs.segment.FileSegmentSegment.append.Goals as goal

pub returns-in_default-clause-failed : goal.returns-in_default-clause-failed
returns-in_default-clause-failed g c = refl

pub returns-clause-added : goal.returns-clause-added
returns-clause-added g c = ap (λ (h : Holding). record h { failed = c.args.self.now.failed }) c.append.ensures.added

-- the calls up to the one that failed follow what was asked before
pub returns-in_default-clause-broken : goal.returns-in_default-clause-broken
returns-in_default-clause-broken g c =
    subst (λ (n : ℕ). IsBrokenOff (append_calls n (reach c.args.self.now.row) c.args.piece.now) c.args.self.now.asked.value c.write_through.new.asked.value)
    c.len-at.ensures.value c.in_default.ensures.broken

pub invariant_of-self : goal.invariant_of-self
invariant_of-self g c =
    let has : Has c.args.self.now.copy.bytes.items (after_all empty c.write_through.new.asked.value) =
    has_old c.args.self.now.copy.bytes.items c.args.piece.now (reach c.args.self.now.row) empty c.args.self.now.asked.value c.write_through.new.asked.value
    (record { given = c.args.self.now.given; stands = c.args.self.now.stands })
    (subst (λ (n : ℕ). IsBrokenOff (append_calls n (reach c.args.self.now.row) c.args.piece.now) c.args.self.now.asked.value c.write_through.new.asked.value)
    c.len-at.ensures.value c.in_default.ensures.broken) in
    record { noted = c.args.self.now.noted; given = has.given; stands = has.stands }

pub invariant_of-self-2 : goal.invariant_of-self-2
invariant_of-self-2 g c =
    let bytes : List ℕ = c.args.self.now.copy.bytes.items in
    let grown : c.append.new.self.bytes.items ≡ bytes ++ c.args.piece.now = ap (λ (h : Holding). h.bytes) c.append.ensures.added in
    let asked : c.write_through.new.asked.value ≡ c.args.self.now.asked.value ++ append_calls (length bytes) (reach c.args.self.now.row) c.args.piece.now =
    subst (λ (n : ℕ). c.write_through.new.asked.value ≡ c.args.self.now.asked.value ++ append_calls n (reach c.args.self.now.row) c.args.piece.now)
    c.len-at.ensures.value c.in-Ok.ensures.asked in
    let has : Has c.append.new.self.bytes.items (after_all empty c.write_through.new.asked.value) =
    has_new bytes c.args.piece.now c.append.new.self.bytes.items (reach c.args.self.now.row) empty c.args.self.now.asked.value c.write_through.new.asked.value
    grown (record { given = c.args.self.now.given; stands = c.args.self.now.stands }) asked in
    let ends : c.in-Ok.row.end ≡ length bytes + length c.args.piece.now =
    subst (λ (n : ℕ). c.in-Ok.row.end ≡ n + length c.args.piece.now) c.args.self.now.noted c.in-Ok.ensures.end in
    record { noted = ends_with bytes c.args.piece.now c.append.new.self.bytes.items c.in-Ok.row.end grown ends; given = has.given; stands = has.stands }

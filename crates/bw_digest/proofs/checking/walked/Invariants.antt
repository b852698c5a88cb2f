use Rattle.std.proofs.Common.{◌≡◌, ◌≤◌, ◌-◌, ◌*◌, ◌/◌, length, drop}
use Rattle.bw_digest.specs.Sums.{no_sums, standing, sums_in}
use Rattle.bw_digest.specs.Rows.{reach}
use Rattle.bw_digest.specs.Checked.{checked}
use Rattle.bw_digest.proofs.checking.walked.Given as goal

-- what the sums ahead say after this row is what all of them say
abbrev pub invariant-loop-i : goal.invariant-loop-i
invariant-loop-i l = record {
  number : l.i-end ≡ length l.sums / 24;
  within : (reach l.row).end ≤ length l.bytes;
  ahead : checked l.bytes (reach l.row) (standing (l.i-end - l.i) (length l.bytes) (reach l.row) (drop (l.i * 24) l.sums))
      ≡ checked l.bytes no_sums (sums_in (length l.bytes) l.sums);
}

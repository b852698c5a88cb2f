use Rattle.std.proofs.Common.{◌≡◌, ◌-◌, ◌*◌, ◌/◌, ◌^◌, length, drop}
use Rattle.bw_digest.specs.Sums.{no_sums, standing, sums_in, with_all}
use Rattle.bw_digest.specs.Rows.{reach}
use Rattle.bw_digest.proofs.checking.told_end.Given as goal

-- the sums ahead lead on from this row to where all of them lead
abbrev pub invariant-loop-i : goal.invariant-loop-i
invariant-loop-i l = record {
  number : l.count ≡ length l.sums / 24;
  ahead : with_all (reach l.row) (standing (l.count - l.i) (2 ^ 64 - 1) (reach l.row) (drop (l.i * 24) l.sums))
      ≡ with_all no_sums (sums_in (2 ^ 64 - 1) l.sums);
}

use Rattle.std.proofs.Common.{◌≡◌, ◌-◌, ◌*◌, ◌/◌, ◌||◌, ℕ, length, drop, map}
use Rattle.bw_digest.specs.Sums.{standing}
use Rattle.bw_digest.specs.Rows.{reach}
use Rattle.bw_rescue.specs.Hurt.{cut_of, is_hurt, is_hurt_in, is_hurt_after, Follow, last_end}
use Rattle.bw_rescue.proofs.pieces.rows_of.Given as goal

-- the pieces so far, and those of the sums ahead, are all
abbrev pub invariant-loop-index : goal.invariant-loop-index
invariant-loop-index l = record {
  number : l.index-end ≡ length l.sums / 24;
  follow : Follow 0 (map cut_of l.rows.items);
  ends : last_end 0 (map cut_of l.rows.items) ≡ (reach l.row).end;
  hurt : (from to : ℕ) → (is_hurt_in (map cut_of l.rows.items) from to
      || is_hurt_after l.bytes (reach l.row) (standing (l.index-end - l.index) (length l.bytes) (reach l.row) (drop (l.index * 24) l.sums)) from to) ≡ is_hurt l.bytes l.sums from to;
}

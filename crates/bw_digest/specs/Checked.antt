-- The check of bytes against their sums, as a function.
use Rattle.std.specs.Prelude.{◌≡◌, ℕ, ◌<◌, ◌==◌, if◌then◌else◌, Result, Ok, Err, List, [], ◌∷◌, length}
use Rattle.bw_digest.specs.Digest.{digest}
use Rattle.bw_digest.specs.Sums.{Reach, after, no_sums, piece_to, sums_in, told_end, Fits, IsDamagedAt}
use Rattle.bw_digest.specs.Rows.{reach}
use Rattle.bw_digest.specs.declared.row.Row.{Row}
use Rattle.bw_digest.specs.declared.sum.Sum.{Sum}
use Rattle.bw_digest.specs.declared.checking.Damage.{Damage}
use Rattle.bw_digest.specs.declared.checking.Damage.TheVariants.{Changed, Missing}

-- how far the pieces after a row lead, or where one begins that does not fit
abbrev pub checked : List ℕ → Reach → List Sum → Result Reach ℕ
checked bytes row [] = Ok row
checked bytes row (s ∷ ss) = if digest (piece_to bytes row s.end) == s.digest then checked bytes (after row s) ss else Err row.end

-- an answer says so
abbrev pub IsAnswer : Result Row ℕ → Result Reach ℕ → Type 0
IsAnswer (Ok row) (Ok reached) = reach row ≡ reached
IsAnswer (Err told) (Err at) = told ≡ at
IsAnswer (Ok row) (Err at) = ⊥
IsAnswer (Err told) (Ok reached) = ⊥

-- what is said of bytes that do not fit these sums: where the first piece begins that was changed;
-- or, if each piece that is there fits, where the bytes end, and where the last piece did
abbrev pub IsDamage : List ℕ → List ℕ → Damage → Type 0
IsDamage bytes sums (Changed at) = IsDamagedAt bytes no_sums (sums_in (length bytes) sums) at
IsDamage bytes sums (Missing from to) =
    Fits bytes no_sums (sums_in (length bytes) sums) × (from ≡ length bytes) × (to ≡ told_end sums) × (from < to)

-- What a settlement of a folder asks of the files of each segment that was read.
use Rattle.std.specs.Prelude.{◌≡◌, ◌≤◌, ℕ, ◌*◌, ◌-◌, ◌==◌, if◌then◌else◌, Option, Some, None, List, [], ◌∷◌, ◌++◌, true, length, map, max, drop, flat_map}
use Rattle.bw_digest.specs.declared.sum.Sum.{Sum}
use Rattle.bw_digest.specs.Sums.{Reach, no_sums, sum_bytes, sum_of, sums_in, with_all, told_end, Fits}
use Rattle.bw_file.specs.declared.unsettled.TheConstants.{LAST}
use Rattle.bw_file.specs.Asked.{Bytes, Sums, Write, SetLen, Sync, Step, done, FolderStep, Of, Names}

-- what is owed to the segment of a lease: an end of its bytes, from this offset on, that is written
-- again; how many bytes of sums there are, and how many of them count; and the sum of the bytes
-- that have none
pub record Owes : Type 0 where
  pub lease : ℕ
  pub from : ℕ
  pub end : List ℕ
  pub held : ℕ
  pub counted : ℕ
  pub sum : Option Sum

-- ---- what is owed to what was read

-- the row of the sums that count
abbrev pub row_of : List ℕ → List ℕ → Reach
row_of bytes sums = with_all no_sums (sums_in (length bytes) sums)

-- the sum of these bytes after a row, if there are any
abbrev pub sum_of_rest : Reach → List ℕ → Option Sum
sum_of_rest row rest = if length rest == 0 then None else Some (sum_of row rest)

-- The end has no sum, and no append is longer.
abbrev pub owed_from : List ℕ → Reach → ℕ
owed_from bytes row = max (length bytes - LAST) row.end

-- to these bytes, beside which there are so many bytes of sums, and this row of those that count
abbrev pub owed_after : ℕ → List ℕ → ℕ → Reach → Owes
owed_after lease bytes held row = record {
  lease = lease;
  from = owed_from bytes row;
  end = drop (owed_from bytes row) bytes;
  held = held;
  counted = row.count * 24;
  sum = sum_of_rest row (drop row.end bytes);
}

-- to these bytes, beside which there are these bytes of sums
abbrev pub owed_to : ℕ → List ℕ → List ℕ → Owes
owed_to lease bytes sums = owed_after lease bytes (length sums) (row_of bytes sums)

-- after a segment was read it waits too: what is owed to it is owed to these bytes, which fit the
-- sums beside them
abbrev pub IsOwed : ℕ → List ℕ → List Owes → List Owes → Type 0
IsOwed lease bytes old new =
    (sums : List ℕ) × (Fits bytes no_sums (sums_in (length bytes) sums) × (told_end sums ≤ length bytes) × (new ≡ old ++ owed_to lease bytes sums ∷ []))

-- ---- how it is paid

-- the end is written again and waited for, if it has bytes
abbrev pub end_calls : ℕ → List ℕ → List Step
end_calls from end = if length end == 0 then [] else (done Bytes (Write from end) ∷ done Bytes Sync ∷ [])

-- sums that do not count are taken off
abbrev pub cut_calls : ℕ → ℕ → List Step
cut_calls held counted = if held == counted then [] else (done Sums (SetLen counted) ∷ [])

-- the sum comes after those that count, if there is one
abbrev pub told_calls : ℕ → Option Sum → List Step
told_calls counted None = []
told_calls counted (Some s) = done Sums (Write counted (sum_bytes s)) ∷ []

-- all of that, in this order
abbrev pub owed_calls : Owes → List Step
owed_calls o = end_calls o.from o.end ++ cut_calls o.held o.counted ++ told_calls o.counted o.sum

-- on the files of the segment
abbrev pub calls_of : Owes → List FolderStep
calls_of o = map (λ s. Of o.lease s) (owed_calls o)

-- of one segment after the other
abbrev pub all_calls : List Owes → List FolderStep
all_calls waiting = flat_map calls_of waiting

-- a settlement: and then the names are waited for
abbrev pub settle_calls : List Owes → List FolderStep
settle_calls waiting = all_calls waiting ++ Names true ∷ []

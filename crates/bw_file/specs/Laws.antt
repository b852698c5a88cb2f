-- What a settlement does to the bytes of a segment that was read.
use Rattle.std.specs.Prelude.{◌≡◌, ℕ, ◌≤◌, List, ◌++◌, take}
use Rattle.bw_file.specs.Asked.{Step, broken_off, Disk, empty, after_all, IsFound}
use Rattle.bw_file.specs.Settled.{owed_to, owed_calls}

-- a file gives these bytes, and so many of them stand
abbrev pub read_so_far : List ℕ → ℕ → Disk
read_so_far bytes n = record { given = bytes; stands = take n bytes }

-- These bytes were read of the file of a segment, or there was none. They stand up to where the end
-- begins that is written again, or further. Then the calls of its settlement, and whatever calls
-- come after them, leave what the record of the segment says. No settlement is noted there: all that
-- was read counts as standing.
abbrev pub WhatWasReadStands : Type 0
WhatWasReadStands = (lease : ℕ) (bytes sums : List ℕ) (n : ℕ) (asked later : List Step) → IsFound bytes asked →
    (owed_to lease bytes sums).from ≤ n →
    after_all (read_so_far bytes n) (owed_calls (owed_to lease bytes sums) ++ later) ≡ after_all empty (asked ++ later)

-- A settlement that breaks off leaves what stood, up to where that end begins.
abbrev pub WhatStoodStays : Type 0
WhatStoodStays = (lease : ℕ) (bytes sums : List ℕ) (n k : ℕ) →
    (owed_to lease bytes sums).from ≤ n →
    let from = (owed_to lease bytes sums).from in
    take from (after_all (read_so_far bytes n) (broken_off k (owed_calls (owed_to lease bytes sums)))).stands ≡ take from bytes

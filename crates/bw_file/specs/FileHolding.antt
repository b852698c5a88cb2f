-- What a contract sees of a `FileSegment`, and of a segment whose bytes came from a file.
use Rattle.std.specs.Prelude.{◌≡◌, ℕ, ◌≤◌, Option, Some, None, List, [], length, map, max}
use Rattle.std.specs.Global.{Vec}
use Rattle.bw_device.specs.Holding.{Holding}
use Rattle.bw_device.specs.Memory.{memory_holding}
use Rattle.bw_device.specs.declared.memory.TheConstants.{MAX_CAPACITY}
use Rattle.bw_digest.specs.Sums.{Reach}
use Rattle.bw_digest.specs.Rows.{reach}
use Rattle.bw_file.specs.Asked.{Step, FolderStep, each_of, first_calls}
use Rattle.bw_file.specs.Settled.{Owes}
use Rattle.bw_file.specs.declared.asked.Done.{Done}
use Rattle.bw_file.specs.declared.folder.Folder.{Folder}
use Rattle.bw_file.specs.declared.folder.HeldBack.{HeldBack}
use Rattle.bw_file.specs.declared.segment.FileSegment.{FileSegment}
use Rattle.bw_file.specs.declared.unsettled.Owed.{Owed}
use Rattle.bw_file.specs.declared.unsettled.Unsettled.{Unsettled}

-- what it holds: the copy in memory, and how many appends have failed
abbrev pub file_holding : {F : Type 0} → FileSegment F → Holding
file_holding s = record (memory_holding s.copy) { failed = s.failed }

-- what was asked of its files
abbrev pub asked_of : {F : Type 0} → FileSegment F → List Step
asked_of s = s.asked.value

-- what was asked of the files of one whose first byte is held back
abbrev pub held_back_asked : {F : Type 0} → HeldBack F → List FolderStep
held_back_asked h = h.asked.value

-- what is left to be asked of them
abbrev pub left_for : ℕ → Option (ℕ × Vec ℕ) → List FolderStep
left_for lease None = []
left_for lease (Some last) = each_of lease (first_calls last.0 last.1.items)

abbrev pub held_back_left : {F : Type 0} → HeldBack F → List FolderStep
held_back_left h = left_for h.lease h.last

-- what a call asked that is done
abbrev pub asked_in : Done → List FolderStep
asked_in d = d.asked.value

-- how far its sums have come
abbrev pub sums_of : {F : Type 0} → FileSegment F → Reach
sums_of s = reach s.row

-- it has this lease, room for so many bytes or for those of its file if they are more, and no call
-- of it has failed; which bytes it holds is open
pub record IsOpened (lease capacity : ℕ) (held : Holding) : Type 0 where
  pub same_lease : held.lease ≡ lease
  pub room : held.room ≡ max capacity (length held.bytes)
  pub within_limits : held.room ≤ MAX_CAPACITY
  pub none_failed : held.failed ≡ 0

-- what a folder owes to the segment of this lease
abbrev pub owed_of : ℕ → Owed → Owes
owed_of lease o = record { lease = lease; from = o.from; end = o.end.items; held = o.held; counted = o.counted; sum = o.sum }

abbrev pub owes : {F : Type 0} → Unsettled F → Owes
owes u = owed_of u.lease u.owed

-- what it owes to the segments that it opened and has not settled, one after the other
abbrev pub waiting_of : {F : Type 0} → Folder F → List Owes
waiting_of f = map owes f.waiting.items

-- what it asked of its files
abbrev pub folder_asked : {F : Type 0} → Folder F → List FolderStep
folder_asked f = f.asked.value

-- Inputs: which bytes a line is, and what stands after it.

use Rattle.std.specs.Prelude.{ℕ, ◌+◌, Bool, if◌then◌else◌, nat_le, ◌==◌, List, length, take, Option, option_map}
use Rattle.std.specs.Io.BufRead.{take_through, drop_through, ends_with_byte, strip_last}
use Rattle.std.specs.Io.Buffered.{reader_remaining}
use Rattle.bw_pairs.specs.declared.lines.Counted.{Counted}
use Rattle.bw_pairs.specs.declared.lines.Lines.{Lines}

-- ---- a line

abbrev pub is_lf : ℕ → Bool
is_lf byte = byte == 10

-- the bytes up to and with the first LF, or all of them, but at most so many
abbrev pub front : ℕ → List ℕ → List ℕ
front most bytes = take most (take_through 10 bytes)

-- bytes without an LF at their end, and without a CR before that
abbrev pub without_end : List ℕ → List ℕ
without_end bytes = if ends_with_byte 10 bytes then strip_last 13 (strip_last 10 bytes) else bytes

-- the first line, without its end
abbrev pub whole_line : List ℕ → List ℕ
whole_line bytes = without_end (take_through 10 bytes)

-- what is read of a line that is too long: one byte more than the longest has, which shows so. If
-- that is a CR, it may belong to the line's end, so the byte after it is read too
abbrev pub shown : ℕ → List ℕ → List ℕ
shown longest bytes = if ends_with_byte 13 (front (longest + 1) bytes) then front (longest + 2) bytes else front (longest + 1) bytes

-- the first line, or so much of it as shows that it is too long
abbrev pub line_of : ℕ → List ℕ → List ℕ
line_of longest bytes = if nat_le (length (whole_line bytes)) longest then whole_line bytes else shown longest bytes

-- what stands after the first line and its end
abbrev pub after_line : List ℕ → List ℕ
after_line bytes = drop_through 10 bytes

-- ---- what reads lines

-- the bytes that are left to a reader whose reads are counted, where they are known
abbrev pub counted_left : {R : Type 0} → (R → Option (List ℕ)) → Counted R → Option (List ℕ)
counted_left remaining counted = remaining counted.input

-- the bytes after the last line and its end, where they are known
abbrev pub bytes_left : {R : Type 0} → (R → Option (List ℕ)) → Lines R → Option (List ℕ)
bytes_left remaining lines = option_map (λ bytes. if lines.has_rest then after_line bytes else bytes)
    (reader_remaining (counted_left remaining) lines.input)

-- the line that was read last
abbrev pub line_held : {R : Type 0} → Lines R → List ℕ
line_held lines = lines.line.items

-- its number
abbrev pub line_number : {R : Type 0} → Lines R → ℕ
line_number lines = lines.number

-- how many bytes the longest line has
abbrev pub longest_line : {R : Type 0} → Lines R → ℕ
longest_line lines = lines.longest

-- Records: which records the lines of an input are, one after another, and which of its pairs are
-- none.

use Rattle.std.specs.Prelude.{ℕ, zero, suc, ◌+◌, Bool, true, nat_le, nat_lt, if◌then◌else◌, codes, List, [], ◌∷◌, length, drop, get_or, Option, Some, None, Result, Ok, Err}
use Rattle.std.specs.Io.Iter.{u64_saturate}
use Rattle.std.specs.Str.{bytes_eq}
use Rattle.bw_record.specs.declared.record.Record.{Record}
use Rattle.bw_record.specs.declared.record.Record.TheVariants.{Put, Del}
use Rattle.bw_pairs.specs.declared.dump.Letters.{Letters}
use Rattle.bw_pairs.specs.declared.dump.Header.{Header}
use Rattle.bw_pairs.specs.declared.dump.Header.TheVariants.{First, Rest, End}
use Rattle.bw_pairs.specs.declared.fault.LineFault.{LineFault}
use Rattle.bw_pairs.specs.declared.fault.LineFault.TheVariants.{TooLong, BadHeader, NoValue, NoEnd, Second}
use Rattle.bw_pairs.specs.declared.input.TheConstants.{LONGEST}
use Rattle.bw_pairs.specs.declared.input.Form.{Form}
use Rattle.bw_pairs.specs.declared.input.Form.TheVariants as forms
use Rattle.bw_pairs.specs.Inputs.{line_of, after_line}
use Rattle.bw_pairs.specs.Lines.{tab_put, raw_put, tab_del, raw_del}
use Rattle.bw_pairs.specs.Json.{json_put, json_del}
use Rattle.bw_pairs.specs.Csv.{csv_put, csv_del}
use Rattle.bw_pairs.specs.Dumps.{dump_key, dump_value}
use Rattle.bw_pairs.specs.Headers.{header_by}

-- ---- lines

-- the lines of bytes, but at most so many
abbrev pub lines_up_to : ℕ → ℕ → List ℕ → List (List ℕ)
lines_up_to zero longest bytes = []
lines_up_to (suc most) longest [] = []
lines_up_to (suc most) longest (byte ∷ bytes) =
    line_of longest (byte ∷ bytes) ∷ lines_up_to most longest (after_line (byte ∷ bytes))

-- all of them, since each has a byte: of one that is too long, as much as shows so
unfoldable pub lines_in : ℕ → List ℕ → List (List ℕ)
lines_in longest bytes = lines_up_to (length bytes) longest bytes

-- a place in an input: how many lines were read, and those that come
pub record Place : Type 0 where
  pub number : ℕ
  pub lines : List (List ℕ)

-- the place after the next line. It is counted even if there is none
abbrev pub next_place : Place → Place
next_place place = record { number = u64_saturate (place.number + 1); lines = drop 1 place.lines }

abbrev pub has_line : Place → Bool
has_line place = nat_lt 0 (length place.lines)

abbrev pub next_line : Place → List ℕ
next_line place = get_or place.lines 0 []

-- whether the next line is no longer than that of a pair may be
abbrev pub fits : List ℕ → Bool
fits line = nat_le (length line) LONGEST

-- ---- one pair

-- what comes next: a record; a pair that is none, by the number of the line that is at fault; no
-- more pairs; or a fault, which is never read over
pub data Came : Type 0 where
  Given : Record → Came
  Bad : ℕ → Came
  Over : Came
  Refused : ℕ → LineFault → Came

-- what comes next, how far the input is read then, and the place after it
pub record Step : Type 0 where
  pub came : Came
  pub form : Form
  pub place : Place

abbrev pub step_to : Form → Place → Came → Step
step_to form place came = record { came = came; form = form; place = place }

-- the put of a line, and the delete of its key
abbrev pub line_put : Form → List ℕ → Option Record
line_put forms.Raw line = raw_put line
line_put forms.Json line = json_put line
line_put forms.Csv line = csv_put line
line_put form line = tab_put line

abbrev pub line_del : Form → List ℕ → Option Record
line_del forms.Raw line = raw_del line
line_del forms.Json line = json_del line
line_del forms.Csv line = csv_del line
line_del form line = tab_del line

-- the record for which a line stands
abbrev pub line_record : Form → Bool → List ℕ → Option Record
line_record form deletes line =
    if fits line then (if deletes then line_del form line else line_put form line) else None

-- a record, or a bad pair at the line of this number
abbrev pub given_or_bad : ℕ → Option Record → Came
given_or_bad number (Some change) = Given change
given_or_bad number None = Bad number

-- the record of the next line
abbrev pub line_came : Form → Bool → Place → Came
line_came form deletes place =
    if has_line place then given_or_bad (next_place place).number (line_record form deletes (next_line place)) else Over

abbrev pub line_step : Form → Bool → Place → Step
line_step form deletes place = step_to form (next_place place) (line_came form deletes place)

-- ---- dumps

-- what a header says: the letters after it or its fault, and the place after its end or that fault
pub record Headed : Type 0 where
  pub letters : Result Letters LineFault
  pub place : Place

-- what is known once a line more of a header is read
abbrev pub headed_by : Header → List ℕ → Result Header LineFault
headed_by header line = if fits line then header_by header line else Err TooLong

abbrev pub next_headed : Header → Place → Result Header LineFault
next_headed header place = if has_line place then headed_by header (next_line place) else Err BadHeader

-- what the lines of a header say, from what is known of it
abbrev pub headed : Result Header LineFault → ℕ → List (List ℕ) → Headed
headed (Err fault) number lines = record { letters = Err fault; place = record { number = number; lines = lines } }
headed (Ok (End letters)) number lines = record { letters = Ok letters; place = record { number = number; lines = lines } }
headed (Ok header) number [] =
    record { letters = Err BadHeader; place = record { number = u64_saturate (number + 1); lines = [] } }
headed (Ok header) number (line ∷ lines) = headed (headed_by header line) (u64_saturate (number + 1)) lines

-- the line after the last pair of a dump
abbrev pub is_end : List ℕ → Bool
is_end line = bytes_eq line (codes "DATA=END")

-- the key and the value of two lines of data
abbrev pub key_at : Letters → List ℕ → Option (List ℕ)
key_at letters line = if fits line then dump_key letters line else None

abbrev pub value_at : Letters → List ℕ → Option (List ℕ)
value_at letters line = if fits line then dump_value letters line else None

-- the record of a key and a value, or a bad pair at the first line that is at fault
abbrev pub pair_came : Bool → ℕ → ℕ → Option (List ℕ) → Option (List ℕ) → Came
pair_came deletes first second (Some key) (Some value) = Given (if deletes then Del key else Put key value)
pair_came deletes first second None value = Bad first
pair_came deletes first second (Some key) None = Bad second

-- the pair whose key is the next line, and whose value stands on the line after that
abbrev pub value_came : Letters → Bool → Place → Place → Came
value_came letters deletes key value =
    if has_line value then (if is_end (next_line value) then Refused (next_place value).number NoValue
    else pair_came deletes value.number (next_place value).number (key_at letters (next_line key)) (value_at letters (next_line value)))
    else Refused (next_place value).number NoEnd

-- nothing may stand after the end of a dump
abbrev pub after_end : Place → Came
after_end place = if has_line place then Refused (next_place place).number Second else Over

abbrev pub end_step : Place → Step
end_step place = step_to forms.Ended (next_place place) (after_end place)

-- the pair of the next two lines, or the end
abbrev pub data_step : Letters → Bool → Place → Step
data_step letters deletes place =
    if has_line place then (if is_end (next_line place) then end_step (next_place place)
    else step_to (forms.Data letters) (next_place (next_place place)) (value_came letters deletes place (next_place place)))
    else step_to (forms.Data letters) (next_place place) (Refused (next_place place).number NoEnd)

-- the first pair of a dump
abbrev pub dump_step : Bool → Result Letters LineFault → Place → Step
dump_step deletes (Ok letters) place = data_step letters deletes place
dump_step deletes (Err fault) place = step_to forms.Dump place (Refused place.number fault)

-- ---- an input

-- what comes next in an input that is read so far
abbrev pub step : Form → Bool → Place → Step
step forms.Dump deletes place =
    dump_step deletes (headed (Ok First) place.number place.lines).letters (headed (Ok First) place.number place.lines).place
step (forms.Data letters) deletes place = data_step letters deletes place
step forms.Ended deletes place = step_to forms.Ended place Over
step form deletes place = line_step form deletes place

-- an input as far as it is read: its form, whether bad pairs are read over, whether keys are deleted,
-- how many bad pairs were read over, the line of the first one, and the place
pub record Reading : Type 0 where
  pub form : Form
  pub skips : Bool
  pub deletes : Bool
  pub bad : ℕ
  pub first_bad : Option ℕ
  pub place : Place

-- the same input, whose keys are deleted
abbrev pub deleting : Reading → Reading
deleting reading = record reading { deletes = true }

-- what comes next, and the input after it
abbrev pub came : Reading → Came
came reading = (step reading.form reading.deletes reading.place).came

abbrev pub passed : Reading → Reading
passed reading =
    record reading { form = (step reading.form reading.deletes reading.place).form; place = (step reading.form reading.deletes reading.place).place }

-- a bad pair more is read over
abbrev pub first_of : Option ℕ → ℕ → Option ℕ
first_of (Some first) number = Some first
first_of None number = Some number

abbrev pub noted : ℕ → Reading → Reading
noted number reading =
    record reading { bad = u64_saturate (reading.bad + 1); first_bad = first_of reading.first_bad number }

-- an answer, and the input after it
pub record Answered : Type 0 where
  pub came : Came
  pub reading : Reading

-- what is answered once this came: at most so many bad pairs are read over, if any may be
abbrev pub answered : Came → Reading → ℕ → Answered
answered (Bad number) reading (suc most) =
    if reading.skips then answered (came (noted number reading)) (passed (noted number reading)) most
    else record { came = Bad number; reading = reading }
answered (Bad number) reading zero = record { came = Bad number; reading = reading }
answered (Given change) reading most = record { came = Given change; reading = reading }
answered Over reading most = record { came = Over; reading = reading }
answered (Refused number fault) reading most = record { came = Refused number fault; reading = reading }

-- what is answered to who asks for the next record. Each bad pair has a line, so there are no more of
-- them than lines
unfoldable pub next_answer : Reading → Answered
next_answer reading = answered (came reading) (passed reading) (length reading.place.lines)

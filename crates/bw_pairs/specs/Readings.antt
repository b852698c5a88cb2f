-- Readings: an input of pairs as far as it is read, and an answer as what comes next in it.

use Rattle.std.specs.Prelude.{ℕ, Bool, true, false, not, ◌≡◌, ◌⊎◌, List, Option, Some, None, is_some, option_map, Result, Ok, Err, IfSome}
use Rattle.std.specs.Io.Buffered.{reader_remaining}
use Rattle.bw_record.specs.declared.record.Record.{Record}
use Rattle.bw_pairs.specs.declared.lines.Lines.{Lines}
use Rattle.bw_pairs.specs.declared.dump.Letters.{Letters}
use Rattle.bw_pairs.specs.declared.dump.Header.{Header}
use Rattle.bw_pairs.specs.declared.fault.LineFault.{LineFault}
use Rattle.bw_pairs.specs.declared.fault.LineFault.TheVariants.{NoEnd}
use Rattle.bw_pairs.specs.declared.fault.PairsFault.{PairsFault}
use Rattle.bw_pairs.specs.declared.input.Source.{Source}
use Rattle.bw_pairs.specs.declared.input.Source.TheVariants as sources
use Rattle.bw_pairs.specs.declared.input.Form.{Form}
use Rattle.bw_pairs.specs.declared.input.Form.TheVariants as forms
use Rattle.bw_pairs.specs.declared.input.Next.{Next}
use Rattle.bw_pairs.specs.declared.input.Next.TheVariants as nexts
use Rattle.bw_pairs.specs.declared.input.Skipped.{Skipped}
use Rattle.bw_pairs.specs.declared.input.Pairs.{Pairs}
use Rattle.bw_pairs.specs.Inputs.{bytes_left, line_number, longest_line}
use Rattle.bw_pairs.specs.Faults.{fault_line}
use Rattle.bw_pairs.specs.Records.{lines_in, Place, has_line, next_line, next_place, is_end, Came, Given, Bad, Over, Refused, Step, Headed, Reading, Answered}

-- ---- what is read

-- the place of what reads lines, where the bytes that come are known
abbrev pub place_at : ℕ → ℕ → List ℕ → Place
place_at number longest bytes = record { number = number; lines = lines_in longest bytes }

abbrev pub place_of : {R : Type 0} → (R → Option (List ℕ)) → Lines R → Option Place
place_of remaining lines =
    option_map (place_at (line_number lines) (longest_line lines)) (bytes_left remaining lines)

-- the form of an input before its first line
abbrev pub source_form : Source → Form
source_form sources.Words = forms.Words
source_form sources.Raw = forms.Raw
source_form sources.Json = forms.Json
source_form sources.Csv = forms.Csv
source_form sources.Dump = forms.Dump

-- the line of the first bad pair that was read over
abbrev pub first_skipped : Skipped → Option ℕ
first_skipped skipped = option_map (λ bad. bad.0) skipped.first

-- what was read over
abbrev pub skipped_of : {I : Type 0} → Pairs I → Skipped
skipped_of pairs = pairs.skipped

-- pairs as an input that is read so far, where the bytes that come are known
abbrev pub reading_at : {I : Type 0} → Pairs I → Place → Reading
reading_at pairs place = record {
  form = pairs.form;
  skips = pairs.skips;
  deletes = pairs.deletes;
  bad = pairs.skipped.count;
  first_bad = first_skipped pairs.skipped;
  place = place;
}

abbrev pub reading_of : {I : Type 0} → (I → Option (List ℕ)) → Pairs I → Option Reading
reading_of remaining pairs = option_map (reading_at pairs) (place_of remaining pairs.lines)

-- an input of which nothing is read yet
abbrev pub unread : Source → Bool → ℕ → List ℕ → Reading
unread source skips longest bytes = record {
  form = source_form source;
  skips = skips;
  deletes = false;
  bad = 0;
  first_bad = None;
  place = place_at 0 longest bytes;
}

-- ---- steps

-- a line was read, or there was none
abbrev pub IsRead : Bool → List ℕ → Place → Option Place → Type 0
IsRead is_there line place after =
    (is_there ≡ has_line place) × (line ≡ next_line place) × (after ≡ Some (next_place place))

-- a line of data was read, which is no end, or is the end
abbrev pub IsData : Bool → List ℕ → Place → Option Place → Type 0
IsData is_data line place after = IsRead true line place after × (is_data ≡ not (is_end line))

-- there was no line of data
abbrev pub HasNoEnd : ℕ × LineFault → List ℕ → Place → Option Place → Type 0
HasNoEnd at line place after = IsRead false line place after × (at ≡ ((next_place place).number, NoEnd))

-- what is known once the input was read, or the fault of the line that was read last
abbrev pub Knows : {T : Type 0} → Result T PairsFault → Result T LineFault → Place → Option Place → Type 0
Knows (Ok found) known place after = (known ≡ Ok found) × (after ≡ Some place)
Knows (Err fault) known place after =
    IfSome (fault_line fault) (λ line. (known ≡ Err line.1) × (line.0 ≡ place.number) × (after ≡ Some place))

-- what came by a step, where the input was read
abbrev pub refused : ℕ × LineFault → Came
refused line = Refused line.0 line.1

abbrev pub came_of : Result Next PairsFault → Option Came
came_of (Ok (nexts.One change)) = Some (Given change)
came_of (Ok (nexts.Bad number fault)) = Some (Bad number)
came_of (Ok nexts.End) = Some Over
came_of (Err fault) = option_map refused (fault_line fault)

-- the step from a place was made
abbrev pub IsMade : Step → Came → Form → Option Place → Type 0
IsMade step came form after = (step.came ≡ came) × (step.form ≡ form) × (after ≡ Some step.place)

abbrev pub Makes : Result Next PairsFault → (Place → Step) → Option Place → Form → Option Place → Type 0
Makes result step before form after =
    IfSome (came_of result) (λ came. IfSome before (λ place. IsMade (step place) came form after))

-- whose lines were read, and in which form, and no more
abbrev pub OnlyMoved : {I : Type 0} → Pairs I → Pairs I → Type 0
OnlyMoved old new = (new.skips ≡ old.skips) × (new.deletes ≡ old.deletes) × (new.skipped ≡ old.skipped)

-- ---- answers

-- an answer says what came, where the input was read
abbrev pub Says : Result (Option Record) PairsFault → Came → Type 0
Says (Ok (Some change)) came = came ≡ Given change
Says (Ok None) came = came ≡ Over
Says (Err fault) came = IfSome (fault_line fault) (λ line. (came ≡ refused line) ⊎ (came ≡ Bad line.0))

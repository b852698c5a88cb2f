-- The forward reading of all segments: a second pass over their boxes.

use Rattle.std.specs.Prelude.{ℕ, ◌≤◌, ◌≡◌, Some, List, [], ◌∷◌, ◌++◌, length, slice_get, Result, OnOk, IfErr}
use Rattle.std.specs.BTreeMap as tree
use Rattle.bw_record.specs.declared.block.Place.{Place}
use Rattle.bw_codec.specs.Reading.{heading_of}
use Rattle.bw_record.specs.declared.block.Block.{Block}
use Rattle.bw_codec.specs.declared.head.Header.{Header}
use Rattle.bw_codec.specs.declared.head.HeaderRead.TheVariants as heading
use Rattle.bw_device.specs.Holding.{Holding}
use Rattle.bw_log.specs.Places.{all_placed, bad_link}
use Rattle.bw_log.specs.Segments.{segment_frames}
use Rattle.bw_care.specs.Behind.{frames_behind, EndsInTail}
use Rattle.bw_care.specs.Passing.{Fails, IsWorn}
use Rattle.bw_lines.specs.Reading.{IsRead, LinkFaultIs}
use Rattle.bw_lines.specs.declared.links.Line.{Line}
use Rattle.bw_lines.specs.declared.links.ReadFault.{ReadFault}
use Rattle.bw_lines.specs.declared.cause.RecoverCause.{RecoverCause}
use Rattle.bw_lines.specs.declared.cause.RecoverCause.TheVariants.{NoMemory, BadConfig, Device, Spent, Empty, BadBytes, Gap, Mixed, BadLink, Unlawful}

-- a segment's frames stand after its header, and a tail after them
pub record IsFramed (bytes : List ℕ) : Type 0 where
  pub header : Header
  pub read : heading_of bytes ≡ heading.Whole header
  pub long : 24 ≤ length bytes
  pub frames : segment_frames bytes ≡ frames_behind header bytes
  pub lawful : EndsInTail header bytes

-- these segments stand among the boxes at these positions
abbrev pub AreReady : List Holding → List ℕ → List Holding → Type 0
AreReady boxes [] [] = Unit {0}
AreReady boxes [] (h ∷ hs) = ⊥
AreReady boxes (i ∷ is) [] = ⊥
AreReady boxes (i ∷ is) (h ∷ hs) = (slice_get boxes i ≡ Some h) × IsFramed h.bytes × AreReady boxes is hs

-- why the pass over these blocks stops
abbrev pub ForwardStops : ℕ → List (Place × Block) → List Holding → RecoverCause → List Holding → Type 0
ForwardStops first blocks old NoMemory new = new ≡ old
ForwardStops first blocks old (Device lease) new = (at : ℕ) × Fails at lease old new
ForwardStops first blocks old Spent new = (new ≡ old) × (at : ℕ) × IsWorn at old
ForwardStops first blocks old (BadLink page) new = (new ≡ old) × (bad_link first [] blocks ≡ Some page)
ForwardStops first blocks old BadConfig new = ⊥
ForwardStops first blocks old Empty new = ⊥
ForwardStops first blocks old (BadBytes segment at) new = ⊥
ForwardStops first blocks old Gap new = ⊥
ForwardStops first blocks old Mixed new = ⊥
ForwardStops first blocks old (Unlawful page) new = ⊥

-- what the bytes of one segment make of lines, or the page of the first wrong link
pub record IsForward (first : ℕ) (bytes : List ℕ) (old : tree.BTreeMap ℕ Line) (found : Result (Unit {0}) ReadFault) (new : tree.BTreeMap ℕ Line) : Type 0 where
  pub ok : (done : List (Place × Block)) → IsRead first done old → OnOk found (IsRead first (done ++ all_placed (segment_frames bytes)) new)
  pub fault : (done rest : List (Place × Block)) → IsRead first done old
      → IfErr found (LinkFaultIs (bad_link first [] (done ++ (all_placed (segment_frames bytes) ++ rest))))

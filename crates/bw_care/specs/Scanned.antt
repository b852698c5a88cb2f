-- What was read of one box, and of boxes one after the other.

use Rattle.std.specs.Prelude.{ℕ, ◌≡◌, None, List, [], ◌∷◌, Result, Ok, Err}
use Rattle.bw_codec.specs.Grammar.{IsHeading}
use Rattle.bw_codec.specs.Reading.{heading_of}
use Rattle.bw_codec.specs.declared.head.HeaderRead.TheVariants as heading
use Rattle.bw_device.specs.Holding.{Holding}
use Rattle.bw_care.specs.Behind.{IsBehind}
use Rattle.bw_care.specs.Scanning.{fault_in, FaultIs}
use Rattle.bw_care.specs.declared.scan.Scan.{Scan}
use Rattle.bw_care.specs.declared.scan.ScanFault.{ScanFault}
use Rattle.bw_care.specs.declared.scan.Scan.TheVariants.{Bare, Part, Live}

abbrev pub IsScan : List ℕ → Scan → Type 0
IsScan bytes Bare = bytes ≡ []
IsScan bytes Part = (heading_of bytes ≡ heading.Part) × (fault_in bytes ≡ None)
IsScan bytes (Live header b) = (heading_of bytes ≡ heading.Whole header) × (fault_in bytes ≡ None) × IsBehind header bytes b
    × IsHeading bytes (heading.Whole header)

-- what a look at a box's bytes answered
abbrev pub IsScanned : List ℕ → Result Scan ScanFault → Type 0
IsScanned bytes (Ok scan) = IsScan bytes scan
IsScanned bytes (Err fault) = FaultIs (fault_in bytes) fault

abbrev pub AreScans : List Holding → List Scan → Type 0
AreScans [] [] = Unit {0}
AreScans [] (s ∷ ss) = ⊥
AreScans (h ∷ hs) [] = ⊥
AreScans (h ∷ hs) (s ∷ ss) = IsScan h.bytes s × AreScans hs ss

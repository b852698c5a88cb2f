use Rattle.std.proofs.Common.{◌≡◌, ◌%◌, ◌++◌, ℕ, List, length}
use Rattle.std.specs.Io.KnownBytes.{Appends}
use Rattle.base64.specs.GeneralPurpose.{encode_of}
use Rattle.base64.specs.Engines.{standard}
use Rattle.bw_pairs.proofs.json.write_parts.Given as goal

abbrev pub invariant-parts : goal.invariant-parts
invariant-parts g l =
    (done : List ℕ) × (l.bytes ≡ done ++ l.rest) × (length done % 3 ≡ 0)
    × Appends (g.O.Write.contents l.initial.output) (g.O.Write.contents l.output) (encode_of standard done)

abbrev pub decreases-parts : goal.decreases-parts
decreases-parts g l = length l.rest

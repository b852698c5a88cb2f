-- What boxes are, before any of them is moved.

use Rattle.std.specs.Prelude.{ℕ, ◌+◌, ◌≤◌, List, [], ◌∷◌}
use Rattle.std.specs.List.{fold}
use Rattle.bw_care.specs.declared.scan.Scan.{Scan}
use Rattle.bw_care.specs.declared.scan.Scan.TheVariants.{Bare, Part, Live}
use Rattle.bw_care.specs.declared.boxes.Kind.{Kind}
use Rattle.bw_care.specs.declared.boxes.Kind.TheVariants as kind
use Rattle.bw_care.specs.declared.order.Found.{Found}

abbrev pub kind_seen : Scan → Kind
kind_seen Bare = kind.Bare
kind_seen Part = kind.Part
kind_seen (Live header b) = kind.Live header.number

abbrev pub parts_seen : List Scan → ℕ
parts_seen [] = 0
parts_seen (Bare ∷ ss) = parts_seen ss
parts_seen (Part ∷ ss) = parts_seen ss + 1
parts_seen (Live header b ∷ ss) = parts_seen ss

abbrev pub tails_found : List Found → ℕ
tails_found rs = fold (λ n r. n + r.behind.tail) 0 rs

-- no box holds more than 2^30 bytes
abbrev pub IsShortFound : Found → Type 0
IsShortFound r = r.behind.tail ≤ 1073741824

abbrev pub HasShortTail : Scan → Type 0
HasShortTail Bare = Unit {0}
HasShortTail Part = Unit {0}
HasShortTail (Live header b) = b.tail ≤ 1073741824

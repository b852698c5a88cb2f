-- The rule of the versions, in plain data: what holds of what is shown and of what each seat knows, at every step.

use Rattle.std.specs.Prelude.{ℕ, ◌≡◌, List, [], ◌∷◌, ◌++◌, Option, Some, None}
use mathlib.Core.List.{IsPrefix}
use mathlib.Core.Option.{some}
use lib.ListN.{get_elem?}
use Rattle.bw_versions.specs.Reach.{Reach}
use Rattle.bw_versions.specs.VersionData.{VersionData}
use Rattle.bw_versions.specs.declared.writer.Operation.{Operation}

-- a seat that knows the book has seen a beginning of what is shown
abbrev pub Fits : Reach → Option Reach → Type 0
Fits m None = Unit {0}
Fits m (Some p) = (p.book ≡ m.book) × IsPrefix p.log m.log

-- the front that is shown is that of its batches, and all lists seen are beginnings of its list
abbrev pub Keeps : VersionData → List (Option Reach) → Type 0
Keeps x views = (x.mark.log ≡ x.posts) × ((seat : ℕ) (v : Option Reach) → get_elem? views seat ≡ some v → Fits x.mark v)

-- to enter, or to publish: the list that is shown becomes the one that the seat has seen
abbrev pub Sees : Option Reach → VersionData → VersionData → Option Reach → Type 0
Sees v x y w = (y.mark.log ≡ y.posts) × Fits y.mark v × (w ≡ Some y.mark)

-- ---- operations, each a batch with the front that stands after it

abbrev pub applied : VersionData → Operation → VersionData
applied s op = record { mark = op.mark; posts = s.posts ++ op.batch ∷ [] }

-- the front after these operations
abbrev pub last_mark : Reach → List Operation → Reach
last_mark m [] = m
last_mark m (op ∷ ops) = last_mark op.mark ops

-- each operation's mark is the one before it with its batch
abbrev pub Follows : Reach → List Operation → Type 0
Follows m [] = Unit {0}
Follows m (op ∷ ops) = (op.mark.book ≡ m.book) × (op.mark.log ≡ m.log ++ op.batch ∷ []) × Follows op.mark ops

-- ---- a new reader hears its book

-- the book, with nothing seen
abbrev pub fresh : Option Reach → Option Reach
fresh None = None
fresh (Some p) = Some (record p { log = [] })

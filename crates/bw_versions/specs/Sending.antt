-- The publisher as it stands in memory.

use Rattle.std.specs.Prelude.{◌≡◌, List, [], ◌∷◌, ◌++◌, Option, Some, None, drop}
use Rattle.left_right.specs.Sides.{view}
use Rattle.bw_versions.specs.declared.writer.Operation.{Operation}
use Rattle.bw_versions.specs.declared.publisher.Publisher.TheInside.{Inside}
use Rattle.bw_versions.specs.Keeping.{Follows, last_mark}
use Rattle.bw_versions.specs.Publishing.{Publishing}

abbrev pub waiting_of : Option Operation → List Operation
waiting_of None = []
waiting_of (Some op) = op ∷ []

abbrev pub publishing : Inside → Publishing
publishing p =
    record { published = p.writer.desk.shown.value.mark; entered = p.front; waits = p.waiting; places = p.places }

-- the operations that are not shown
abbrev pub unseen : Inside → List Operation
unseen p = drop p.writer.behind p.writer.log.items ++ waiting_of p.waiting

pub record IsSent (p : Inside) : Type 0 where
  -- the front that is shown is that of the batches shown, and the writer knows it
  pub own : p.writer.desk.shown.value.mark.log ≡ p.writer.desk.shown.value.posts
  pub knows : view p.writer.desk.place ≡ Some p.writer.desk.shown.value.mark
  -- what is not shown leads from there to all that the book has
  pub follows : Follows p.writer.desk.shown.value.mark (unseen p)
  pub ends : p.front ≡ last_mark p.writer.desk.shown.value.mark (unseen p)
  -- all in one book
  pub head : p.head.word.book ≡ p.front.book
  pub origin : (p.origin.log ≡ []) × (p.origin.book ≡ p.front.book)

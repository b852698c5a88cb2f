-- What holds of a store and its feeds once both ends of each ring were looked at.

use Rattle.std.specs.Prelude.{◌<◌, List, [], ◌∷◌, length, map}
use Rattle.std.specs.List.{AllByRecursion}
use mathlib.Core.List.{IsPrefix}
use Rattle.bw_ring.specs.Marks.{Marked}
use Rattle.bw_ring.specs.Ends.{accepted}
use Rattle.bw_ring.specs.declared.feed.Feed.{Feed}
use Rattle.bw_history.specs.declared.entry.Entry.{Entry}
use Rattle.bw_history.specs.History.{streams}

-- each list begins the one that stands in its place
abbrev pub EachBegins : List (List Marked) → List (List Marked) → Type 0
EachBegins [] [] = Unit {0}
EachBegins [] (whole ∷ wholes) = ⊥
EachBegins (first ∷ firsts) [] = ⊥
EachBegins (first ∷ firsts) (whole ∷ wholes) = IsPrefix first whole × EachBegins firsts wholes

-- each writer's records in the history are a beginning of those that its feed accepted, and there are no others
pub record IsOfFeeds (feeds : List Feed) (entries : List Entry) : Type 0 where
  pub begins : EachBegins (streams 0 (length feeds) entries) (map accepted feeds)
  pub writers : AllByRecursion (λ e. e.writer < length feeds) entries

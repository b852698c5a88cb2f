-- What lanes gave is a beginning of what their feeds accepted.

use Rattle.std.proofs.Common.{◌≡◌, List, [], ◌∷◌, length, map, refl, sym, subst}
use Rattle.bw_ring.specs.Marks.{Marked, joined}
use Rattle.bw_ring.specs.Ends.{accepted, given, known, taken}
use Rattle.bw_ring.specs.declared.feed.Feed.{Feed}
use Rattle.bw_ring.specs.declared.lane.Lane.{Lane}
use Rattle.bw_history.specs.declared.entry.Entry.{Entry}
use Rattle.bw_history.specs.History.{streams}
use Rattle.bw_history.proofs.Laned.{as_many}
use Rattle.bw_core.specs.Heard.{EachBegins}

each_given : (lanes : List Lane) → EachBegins (map taken lanes) (map given lanes)
each_given [] = tt
each_given (l ∷ lanes) = ((joined (known l), refl), each_given lanes)

pub begin_with : (lanes : List Lane) (feeds : List Feed) (es : List Entry) → streams 0 (length lanes) es ≡ map taken lanes
    → map given lanes ≡ map accepted feeds → EachBegins (streams 0 (length feeds) es) (map accepted feeds)
begin_with lanes feeds es is whole =
    let taken_first = subst (λ (l : List (List Marked)). EachBegins l (map given lanes)) (sym is) (each_given lanes) in
    let all = subst (λ (l : List (List Marked)). EachBegins (streams 0 (length lanes) es) l) whole taken_first in
    subst (λ n. EachBegins (streams 0 n es) (map accepted feeds)) (as_many given accepted lanes feeds whole) all

-- A store's versions as they stand in memory.

use Rattle.std.specs.Prelude.{◌≡◌, List, [], length, MatchOption, Option, Some}
use Rattle.bw_page.specs.Shown.{Shown}
use Rattle.bw_versions.specs.Batches.{BatchData, entries_of}
use Rattle.bw_versions.specs.Posted.{posted_of}
use Rattle.bw_versions.specs.declared.versions.Versions.TheInside.{Inside}
use Rattle.bw_versions.specs.Versioned.{Versioned}

abbrev pub versioned : Inside → Versioned
versioned a = record {
  start = a.began.value;
  book = a.publisher.entered.book;
  published = a.publisher.published.log;
  entered = a.publisher.entered.log;
  places = a.publisher.places;
}

-- before the first batch the start leaves wait, and from then on the book has them
abbrev pub HasStart : Shown → List BatchData → Option Shown → Type 0
HasStart start log kept = MatchOption kept
    (posted_of log ≡ Some (record { start = start; entries = entries_of log }))
    (λ leaves. (leaves ≡ start) × (log ≡ []))

pub record IsHeld (a : Inside) : Type 0 where
  pub here : a.began.value.evicted ≡ []
  pub start : HasStart a.began.value a.publisher.entered.log a.start
  pub count : a.count ≡ length (entries_of a.publisher.entered.log)

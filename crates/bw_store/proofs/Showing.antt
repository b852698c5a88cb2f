-- What follows from a publication.

use Rattle.std.proofs.Common.{◌≡◌, ℕ, inr, Option, Some, None, Ok, Err, List, [], ◌++◌, length, take, take_all, refl, sym, ap, ◌∙◌, subst, arith, append-nil, append_assoc}
use Rattle.bw_device.specs.Holding.{Holding}
use Rattle.bw_log.specs.Contents.{roster}
use Rattle.bw_versions.specs.Batches.{BatchData}
use Rattle.bw_versions.specs.Versioned.{Versioned}
use Rattle.bw_versions.specs.Posted.{posted_of}
use Rattle.bw_terms.specs.declared.fault.StoreFault.{StoreFault}
use Rattle.bw_terms.specs.declared.fault.StoreFault.TheVariants.{NoMemory}
use Rattle.bw_core.specs.Faults.{FlushAnswers}
use Rattle.bw_core.specs.Cleaning as cleaning
use Rattle.bw_core.specs.Following as core
use Rattle.bw_core.specs.Machine as machine
use Rattle.bw_core.proofs.FollowMore as more
use Rattle.bw_store.specs.Kept.{Kept, core_of, start_of, with_batches}
use Rattle.bw_store.specs.Following.{Continues, Follows, HasBoxes}
use Rattle.bw_store.specs.Showing.{FlushLeaves, FlushShows, Hides, IsAllCut, Shows, flush_refusal, with_places}
use Rattle.bw_store.specs.Renewing.{HasBoxesAfter, HasFloorAfter}
use Rattle.bw_store.proofs.Readers.{places_are, reading}

-- ---- what no call takes back

-- readers see more, and the core is as it was
grows_on : (s : Kept) (versions : Versioned) (more_batches : List BatchData) → versions.book ≡ s.versions.book
    → versions.published ≡ s.versions.published ++ more_batches → Follows s (record s { versions = versions })
grows_on s versions batches book grows = record {
  continues = record {
    base = (more.follows_as (core_of s) (core_of s) refl).follows.continues;
    book = book;
    batches_more = batches;
    published = grows;
  };
  floor = refl;
}

-- nothing changed
pub stays_as_it_was : (s : Kept) → Follows s s
stays_as_it_was s = record {
  continues = record {
    base = (more.follows_as (core_of s) (core_of s) refl).follows.continues;
    book = refl;
    batches_more = [];
    published = sym (append-nil s.versions.published);
  };
  floor = refl;
}

pub boxes_stay : (s : Kept) → HasBoxes s s
boxes_stay s = (more.follows_as (core_of s) (core_of s) refl).boxes

-- readers see the same, and the core follows
pub beside_follows : (old new : Kept) → core.Follows (core_of old) (core_of new) → new.versions ≡ old.versions → Follows old new
beside_follows old new f same = record {
  continues = record {
    base = f.continues;
    book = ap (λ (v : Versioned). v.book) same;
    batches_more = [];
    published = ap (λ (v : Versioned). v.published) same ∙ sym (append-nil old.versions.published);
  };
  floor = f.floor;
}

pub continue_then : (a b c : Kept) → Continues a b → Continues b c → Continues a c
continue_then a b c f g = record {
  base = more.continue_then (core_of a) (core_of b) (core_of c) f.base g.base;
  book = g.book ∙ f.book;
  batches_more = f.batches_more ++ g.batches_more;
  published =
      g.published ∙ ap (λ (bs : List BatchData). bs ++ g.batches_more) f.published
      ∙ append_assoc a.versions.published f.batches_more g.batches_more;
}

follow_then : (a b c : Kept) → Follows a b → Follows b c → Follows a c
follow_then a b c f g = record { continues = continue_then a b c f.continues g.continues; floor = g.floor ∙ f.floor }

batched_follows : (s : Kept) (published entered batches : List BatchData) → published ≡ s.versions.published ++ batches
    → Follows s (with_batches s published entered)
batched_follows s published entered batches grows =
    grows_on s (record s.versions { published = published; entered = entered }) batches refl grows

placed_follows : (s : Kept) (places : ℕ) → Follows s (with_places s places)
placed_follows s places = grows_on s (record s.versions { places = places }) [] refl (sym (append-nil s.versions.published))

pub reader_follows : (s : Kept) (new : Versioned) → new ≡ record s.versions { places = new.places } → Follows s (reading s new)
reader_follows s new same = subst (Follows s) (sym (places_are s new same)) (placed_follows s new.places)

pub shows_follows : (old middle new : Kept) → Follows old middle → Shows middle new → Follows old new
shows_follows old middle new first x =
    follow_then old middle new first
    (subst (Follows middle) (sym x.is) (batched_follows middle new.versions.published new.versions.entered x.more x.grows))

pub hides_follows : (old middle new : Kept) → Follows old middle → Hides middle new → Follows old new
hides_follows old middle new first x =
    follow_then old middle new first
    (subst (Follows middle) (sym x.is) (batched_follows middle middle.versions.published new.versions.entered [] (sym (append-nil middle.versions.published))))

-- the same after a cleaning
pub shows_continues : (old middle new : Kept) → Continues old middle → Shows middle new → Continues old new
shows_continues old middle new first x =
    continue_then old middle new first
    (subst (Continues middle) (sym x.is) (batched_follows middle new.versions.published new.versions.entered x.more x.grows).continues)

pub hides_continues : (old middle new : Kept) → Continues old middle → Hides middle new → Continues old new
hides_continues old middle new first x =
    continue_then old middle new first
    (subst (Continues middle) (sym x.is)
    (batched_follows middle middle.versions.published new.versions.entered [] (sym (append-nil middle.versions.published))).continues)

-- readers see the same, and the core continues
pub beside_continues : (old new : Kept) → core.Continues (core_of old) (core_of new) → new.versions ≡ old.versions → Continues old new
beside_continues old new f same = record {
  base = f;
  book = ap (λ (v : Versioned). v.book) same;
  batches_more = [];
  published = ap (λ (v : Versioned). v.published) same ∙ sym (append-nil old.versions.published);
}

pub shows_roster : (middle new : Kept) → Shows middle new → roster new.log ≡ roster middle.log
shows_roster middle new x = ap (λ (s : Kept). roster s.log) x.is

pub hides_roster : (middle new : Kept) → Hides middle new → roster new.log ≡ roster middle.log
hides_roster middle new x = ap (λ (s : Kept). roster s.log) x.is

-- a publication leaves the floor and what is durable
pub shows_floor : {A : Type 0} (k : ℕ) (old middle new : Kept) (given : A) → cleaning.HasFloorBut (core_of old) (Ok given) (core_of middle)
    → Shows middle new → HasFloorAfter k old (Ok given) new
shows_floor k old middle new given floor x =
    ap (λ (s : Kept). s.floor) x.is ∙ floor ∙ sym (ap (λ (s : Kept). s.durable) x.is)

pub hides_floor : {A : Type 0} (k : ℕ) (old middle new : Kept) (given : A) → cleaning.HasFloorBut (core_of old) (Ok given) (core_of middle)
    → cleaning.HasBoxesBut k (core_of old) (Ok given) (core_of middle) → Hides middle new → HasFloorAfter {A = A} k old (Err NoMemory) new
hides_floor k old middle new given floor boxes x = inr (
  refl,
  ap (λ (s : Kept). s.floor) x.is ∙ floor ∙ sym (ap (λ (s : Kept). s.durable) x.is),
  hides_roster middle new x ∙ boxes,
)

pub hides_boxes : {A : Type 0} (k : ℕ) (old middle new : Kept) (given : A) → cleaning.HasBoxesBut k (core_of old) (Ok given) (core_of middle)
    → Hides middle new → HasBoxesAfter {A = A} k old (Err NoMemory) new
hides_boxes k old middle new given boxes x = inr (refl, hides_roster middle new x ∙ boxes)

-- ---- the core is as it was

pub shows_core : (middle new : Kept) → Shows middle new → core_of new ≡ core_of middle
shows_core middle new x = ap core_of x.is

pub hides_core : (middle new : Kept) → Hides middle new → core_of new ≡ core_of middle
hides_core middle new x = ap core_of x.is

pub shows_before : (given : List Holding) (middle new : Kept) → machine.MayBeStoppedBefore given (core_of middle) → Shows middle new
    → machine.MayBeStoppedBefore given (core_of new)
shows_before given middle new found x = subst (machine.MayBeStoppedBefore given) (sym (shows_core middle new x)) found

pub hides_before : (given : List Holding) (middle new : Kept) → machine.MayBeStoppedBefore given (core_of middle) → Hides middle new
    → machine.MayBeStoppedBefore given (core_of new)
hides_before given middle new found x = subst (machine.MayBeStoppedBefore given) (sym (hides_core middle new x)) found

-- ---- the calls that end with a publication

pub flush_shows : (old middle new : Kept) (o : Option ℕ) → FlushLeaves old (Ok o) middle → Shows middle new → FlushShows old (Ok o) new
flush_shows old middle new o left x = (middle, left, x)

pub flush_hides : (old middle new : Kept) (o : Option ℕ) → FlushAnswers (flush_refusal old) (Ok o) → FlushLeaves old (Ok o) middle → Hides middle new
    → FlushShows old (Err NoMemory) new
flush_hides old middle new o answers left x =
    inr (refl, (middle, record { base = record { number = o; answers = answers; leaves = left.base }; quiet = left.quiet }, x))

-- what a flush may answer it may also refuse for want of memory
pub may_want : (o : Option StoreFault) (x : Option ℕ) → FlushAnswers o (Ok x) → FlushAnswers o (Err NoMemory)
may_want None x a = tt
may_want (Some fault) x a = absurd cc

-- if the last cut is the whole history, all entries are published
pub shows_all : (middle new : Kept) → IsAllCut middle → Shows middle new
    → posted_of new.versions.published ≡ Some (record { start = start_of new; entries = new.entries })
shows_all middle new all x =
    x.shown
    ∙ ap (λ c. Some (record { start = start_of middle; entries = take c middle.entries })) all.1
    ∙ ap (λ es. Some (record { start = start_of middle; entries = es })) (take_all (length middle.entries) middle.entries (omega arith))
    ∙ sym (ap (λ (s : Kept). Some (record { start = start_of s; entries = s.entries })) x.is)

-- A log over one live box that has room only for its bytes.

use Rattle.std.proofs.Common.{◌≡◌, ℕ, ◌≤◌, ◌-◌, inl, true, inr, Some, None, List, [], ◌∷◌, slice_get}
use Rattle.std.proofs.Common.{refl, sym, ap, subst, ◌∙◌, lit≤, lit<, arith, zero, suc}
use Rattle.std.proofs.lemmas.Option.{slice_get_past}
use Rattle.bw_codec.specs.Bytes.{number_bytes}
use Rattle.bw_codec.specs.Grammar.{IsWhole}
use Rattle.bw_record.specs.declared.block.Frame.{Frame}
use Rattle.bw_device.specs.Holding.{Holding}
use Rattle.bw_page.specs.Standing.{Stand}
use Rattle.bw_log.specs.Places.{place_of, base_of, walk_to}
use Rattle.bw_log.specs.Segments.{segment_frames, entry_of}
use Rattle.bw_log.specs.Contents.{Contents, counted, place_in, entry_place, walk_in, entry_walk, IsSound}
use Rattle.log_tests.specs.Examples.{first_example, first_leaf}
use Rattle.bw_record.specs.declared.leaf.Leaf.{Leaf}
use Rattle.bw_log.specs.Adopting.{adopted}
use Rattle.bw_log.specs.Limits.{fresh}
use Rattle.bw_log.specs.declared.places.PageAt.{PageAt}
use Rattle.bw_log.specs.declared.places.Tables.{Tables}
use Rattle.log_tests.specs.OnePage.{HoldsOne}
use Rattle.log_tests.proofs.Exampled.{first_frame_lawful, first_stands, not_one}
use Rattle.log_tests.proofs.Vectors.{first_segment, first_is_read}

abbrev pub small_pages : List PageAt
small_pages = record { place = record { frame = 1; index = 1 }; base = record { frame = 1; index = 0 }; walk = 1 } ∷ []

-- a log of only that box, which has the first frame
abbrev pub small : ℕ → Contents
small lease = record (fresh 4 65536 []) {
  live = record { bytes = first_segment; room = 77; lease = lease; failed = 0 } ∷ [];
  is_open = true;
  next = Some 2;
  frames = entry_of 2 1 24 first_example ∷ [];
  pages = small_pages;
}

first_whole : IsWhole first_segment (record { version = 2; number = 1; m = 4; f = 65536 }) (first_example ∷ []) []
unfolding number_bytes
first_whole = record {
  lawful = record { version = inr refl; number = (lit≤ tt, lit< tt); m = (lit≤ tt, lit≤ tt); f = (lit≤ tt, lit≤ tt) };
  each = (first_frame_lawful, tt);
  tail = inl (lit< tt, refl);
  parts = refl;
}

whole : IsWhole first_segment (record { version = 2; number = 1; m = 4; f = 65536 }) (segment_frames first_segment) []
whole = subst (λ (fs : List Frame). IsWhole first_segment (record { version = 2; number = 1; m = 4; f = 65536 }) fs []) (sym first_is_read) first_whole

pages_are : (p : ℕ) → 1 ≤ p → (place_in (λ e. e.place) small_pages p ≡ place_of p (first_example ∷ []))
    × (place_in (λ e. e.base) small_pages p ≡ base_of p (first_example ∷ [])) × (walk_in small_pages p ≡ walk_to p (first_example ∷ []))
pages_are zero h = absurd (omega arith)
pages_are (suc zero) h = (refl, refl, refl)
pages_are (suc (suc n)) h =
    let no = not_one (suc (suc n)) (omega arith) in
    let past : slice_get small_pages (suc (suc n) - 1) ≡ None = slice_get_past small_pages (suc (suc n) - 1) (omega arith) in
    let places : None ≡ place_of (suc (suc n)) (first_example ∷ []) = rw no refl in
    let bases : None ≡ base_of (suc (suc n)) (first_example ∷ []) = rw no refl in
    let walks : (0, 0) ≡ walk_to (suc (suc n)) (first_example ∷ []) = rw no refl in
    (ap (entry_place (λ e. e.place)) past ∙ places, ap (entry_place (λ e. e.base)) past ∙ bases, ap entry_walk past ∙ walks)

first_counts : counted (small 0) ≡ first_example ∷ []
first_counts = rw first_is_read refl

pub small_is_sound : (lease : ℕ) → IsSound (small lease)
small_is_sound lease = record {
  few = lit≤ tt;
  bounds = (lit≤ tt, tt);
  rooms = tt;
  empty = λ _. tt;
  torn = λ e. absurd cc;
  holds = record {
    limits = (lit≤ tt, lit≤ tt, lit≤ tt, lit≤ tt);
    numbers = lit≤ tt;
    live = (65536, (record { torn = []; whole = whole }, tt));
    news = lit< tt;
    ends = λ _ _. whole;
    every = λ _. rw first_is_read refl;
    left = λ e. absurd cc;
    numbered = rw first_is_read (refl, tt);
    follows = rw first_is_read refl;
    listed = rw first_is_read refl;
    count = lit< tt;
    linked = rw first_is_read refl;
    stands = rw first_is_read (inr (first_leaf ∷ [], first_stands, refl));
    table = rw first_is_read (record { places = λ p h. (pages_are p h).0; bases = λ p h. (pages_are p h).1; walks = λ p h. (pages_are p h).2 });
  };
}

-- the log that is adopted from the box and its tables
pub small_is : (live spares : List Holding) (t : Tables) (lease : ℕ) → live ≡ record { bytes = first_segment; room = 77; lease = lease; failed = 0 } ∷ []
    → spares ≡ [] → t.m ≡ 4 → t.f ≡ 65536 → t.number ≡ 1 → t.versions.items ≡ 2 ∷ [] → t.is_open ≡ true
    → t.frames.items ≡ record { number = 1; segment = 0; at = 24; len = 53; starts = 20 ∷ 28 ∷ [] } ∷ []
    → t.pages.items ≡ small_pages → adopted live spares t ≡ small lease
unfolding number_bytes
small_is live spares t lease boxes none m f number versions takes frames pages = rw (boxes, none, m, f, number, versions, takes, frames, pages) refl

pub small_holds : (c : Contents) (lease : ℕ) (leaf : Leaf) → IsSound c → c ≡ small lease → leaf ≡ first_leaf → HoldsOne c leaf
small_holds c lease leaf sound is page = record {
  sound = sound;
  m = ap (λ (d : Contents). d.m) is;
  f = ap (λ (d : Contents). d.f) is;
  is = rw page refl;
  stands = rw page (subst (λ (fs : List Frame). Stand 4 fs (first_leaf ∷ [])) (sym (ap counted is ∙ first_counts)) first_stands);
}

-- its tables are what `adopt` asks for
pub small_adoptable : (live spares : List Holding) (t : Tables) (lease : ℕ) → adopted live spares t ≡ small lease → IsSound (adopted live spares t)
small_adoptable live spares t lease is = subst IsSound (sym is) (small_is_sound lease)

-- The frames of some segments are gathered by their numbers, and read.

use Rattle.std.proofs.Common.{◌≡◌, ℕ, zero, suc, ◌+◌, ◌<◌, ◌==◌, Bool, true, false, if◌then◌else◌, Option, Some, None, Result, Ok, Err, OnOk, IsSome, List, [], ◌∷◌, ◌++◌, length, map, slice_get, get_or, eqb-true, refl, sym, ap, subst, ◌∙◌, arith, append_assoc}
use Rattle.std.specs.List.{AllByRecursion, Contains}
use Rattle.std.specs.List.Sorted.{IsStrictlySortedBy}
use Rattle.std.specs.Map.{keys_of}
use Rattle.std.specs.BTreeMap as tree
use Rattle.std.specs.BTreeMap.{BTreeMap}
use Rattle.std.proofs.lemmas.Cmp.{nat_cmp_total}
use Rattle.std.proofs.lemmas.Map.Entries.{btree_map_get_place}
use Rattle.std.proofs.lemmas.Map.Views.{btree_map_contains_key_iff}
use Rattle.std.proofs.lemmas.Map.Lookups.{exact_unsigned}
use Rattle.std.proofs.lemmas.Grind.{flat_map-append}
use Rattle.std.proofs.lemmas.Option.{slice_get_read}
use Rattle.std.specs.declared.alloc.AllocError.{AllocError}
use Rattle.std.proofs.lemmas.List.{append-nil, map_push}
use Rattle.std.specs.Ordering.{nat_cmp}
use Rattle.bw_record.specs.declared.block.Frame.{Frame}
use Rattle.bw_record.specs.declared.block.Block.{Block}
use Rattle.bw_rescue.specs.declared.gathered.At.{At}
use Rattle.bw_rescue.specs.declared.held.Held.{Held}
use Rattle.bw_rescue.specs.declared.held.Spot.{Spot}
use Rattle.bw_rescue.specs.declared.pages.Gap.{Gap}
use Rattle.bw_rescue.specs.declared.pages.Pages.{Pages}
use Rattle.bw_rescue.specs.Pages.{AreRead, gap_before, gaps_of}
use Rattle.bw_rescue.proofs.PagesEnd.{by_index}
use Rattle.bw_rescue.proofs.RowTaken.{the_same, none_found}
use Rattle.bw_rescue.proofs.GapsTold.{gaps_told}
use Rattle.bw_rescue.specs.Taken.{StandsAt, IsSpotAt}
use Rattle.bw_rescue.specs.Gathered.{first_of, at_or, or_at, place_of, IsFirst, AreGathered, IsReadNext, ArePagesOf, blocks_in, AreSearched}

-- ---- what is noted of a number

-- one spot more
or_more : (number index : ℕ) (spots : List Spot) (s : Spot) (noted : Option At)
    → or_at (or_at noted index (first_of number spots)) index (first_of number (s ∷ [])) ≡ or_at noted index (first_of number (spots ++ s ∷ []))
or_more number index [] s None = refl
or_more number index [] s (Some a) = refl
or_more number index (x ∷ spots) s noted = by (x.number == number) noted (or_more number index spots s noted)
  where
    by : (same : Bool) (old : Option At)
        → or_at (or_at old index (first_of number spots)) index (first_of number (s ∷ [])) ≡ or_at old index (first_of number (spots ++ s ∷ []))
        → or_at (or_at old index (if same then Some x.at else first_of number spots)) index (first_of number (s ∷ []))
        ≡ or_at old index (if same then Some x.at else first_of number (spots ++ s ∷ []))
    by true None later = refl
    by true (Some a) later = refl
    by false old later = later

pub noted_more : (number index : ℕ) (spots : List Spot) (s : Spot) (noted old : Option At)
    → old ≡ or_at noted index (first_of number spots) → or_at old index (first_of number (s ∷ [])) ≡ or_at noted index (first_of number (spots ++ s ∷ []))
noted_more number index spots s noted old is = ap (λ (o : Option At). or_at o index (first_of number (s ∷ []))) is ∙ or_more number index spots s noted

-- one segment more
pub place_more : (number index at : ℕ) (hs : List Held) (h : Held) → at ≡ index + length hs
    → or_at (place_of number index hs) at (first_of number h.spots.items) ≡ place_of number index (hs ++ h ∷ [])
place_more number index at [] h is = ap (λ (k : ℕ). or_at None k (first_of number h.spots.items)) (the_first index at is) ∙ last (first_of number h.spots.items)
  where
    the_first : (index at : ℕ) → at ≡ index + 0 → at ≡ index
    the_first index at is = omega (arith, is)

    last : (o : Option ℕ) → or_at None index o ≡ at_or index o None
    last None = refl
    last (Some a) = refl
place_more number index at (x ∷ hs) h is = by (first_of number x.spots.items) (place_more number (index + 1) at hs h (omega (arith, is)))
  where
    by : (o : Option ℕ) → or_at (place_of number (index + 1) hs) at (first_of number h.spots.items) ≡ place_of number (index + 1) (hs ++ h ∷ [])
        → or_at (at_or index o (place_of number (index + 1) hs)) at (first_of number h.spots.items) ≡ at_or index o (place_of number (index + 1) (hs ++ h ∷ []))
    by None next = next
    by (Some a) next = refl

-- ---- what stands there

spot_stands : (h : Held) (number a : ℕ) (spots : List Spot) → first_of number spots ≡ Some a → AllByRecursion (λ s. IsSpotAt h.header h.bytes.items s.number s.at) spots
    → IsSpotAt h.header h.bytes.items number a
spot_stands h number a [] is all = cc
spot_stands h number a (s ∷ spots) is all = by (s.number == number) refl is (λ found. spot_stands h number a spots found all.1)
  where
    by : (b : Bool) → (s.number == number) ≡ b → (if b then Some s.at else first_of number spots) ≡ Some a
        → (first_of number spots ≡ Some a → IsSpotAt h.header h.bytes.items number a) → IsSpotAt h.header h.bytes.items number a
    by true same found later =
        let one : s.number ≡ number = eqb-true s.number number same in
        let two : s.at ≡ a = cc in
        subst (λ (n : ℕ). IsSpotAt h.header h.bytes.items n a) one (subst (λ (k : ℕ). IsSpotAt h.header h.bytes.items s.number k) two all.0)
    by false other found later = later found

pub record Stands (number index : ℕ) (hs : List Held) (p : At) : Type 0 where
  pub nth : ℕ
  pub is : p.segment ≡ index + nth
  pub segment : Held
  pub its : slice_get hs nth ≡ Some segment
  pub spot : IsSpotAt segment.header segment.bytes.items number p.at

pub place_stands : (number index : ℕ) (hs : List Held) (p : At) → place_of number index hs ≡ Some p → AreSearched hs → Stands number index hs p
place_stands number index [] p is all = cc
place_stands number index (h ∷ hs) p is all = by (first_of number h.spots.items) refl is (λ found. place_stands number (index + 1) hs p found all.1)
  where
    by : (o : Option ℕ) → first_of number h.spots.items ≡ o → at_or index o (place_of number (index + 1) hs) ≡ Some p
        → (place_of number (index + 1) hs ≡ Some p → Stands number (index + 1) hs p) → Stands number index (h ∷ hs) p
    by (Some a) here found later =
        let first : At = record { segment = index; at = a } in
        let both : first ≡ p = cc in
        record {
          nth = zero;
          is = sym (ap (λ (x : At). x.segment) both) ∙ (let same : index ≡ index + 0 = omega arith in same);
          segment = h;
          its = refl;
          spot = subst (λ (k : ℕ). IsSpotAt h.header h.bytes.items number k) (ap (λ (x : At). x.at) both) (spot_stands h number a h.spots.items here all.0);
        }
    by None none found later =
        let next = later found in
        record {
          nth = suc next.nth;
          is = (let a = next.is in omega (arith, a));
          segment = next.segment;
          its = next.its;
          spot = next.spot;
        }

pub noted_stands : (held : List Held) (number : ℕ) (p : At) → place_of number 0 held ≡ Some p → AreSearched held → Stands number 0 held p
noted_stands held number p is all = place_stands number 0 held p is all

-- it is the first of its number
pub first_there : (held : List Held) (number : ℕ) (p : At) → place_of number 0 held ≡ Some p → (there : Stands number 0 held p) → IsFirst held there.spot.frame
first_there held number p is there = record {
  place = p;
  is = ap (λ (n : ℕ). place_of n 0 held) there.spot.is ∙ is;
  segment = there.segment;
  its = (let same : p.segment ≡ there.nth = (let a = there.is in omega (arith, a)) in ap (slice_get held) same ∙ there.its);
  len = there.spot.len;
  stands = there.spot.stands;
}

-- ---- what is read

-- each entry is where a number is noted
abbrev pub Listed : List Held → List (ℕ × At) → Type 0
Listed held rest = AllByRecursion (λ (e : ℕ × At). place_of e.0 0 held ≡ Some e.1) rest

pub listed : (held : List Held) (m : BTreeMap ℕ At) → ((number : ℕ) → tree.get nat_cmp m number ≡ place_of number 0 held) → tree.IsOrdered nat_cmp m → Listed held m.entries
listed held m is ordered =
    by_index (λ (e : ℕ × At). place_of e.0 0 held ≡ Some e.1) m.entries (λ i e at. sym (is e.0) ∙ btree_map_get_place nat_cmp_total m i e.0 e.1 ordered at)

abbrev pub number_of : Frame → ℕ
number_of f = f.number

-- the last of some numbers, or else the one before them
abbrev pub last_read : ℕ → List ℕ → ℕ
last_read last [] = last
last_read last (n ∷ ns) = last_read n ns

last_more : (last n : ℕ) (ns : List ℕ) → n ≡ last_read last (ns ++ n ∷ [])
last_more last n [] = refl
last_more last n (x ∷ ns) = last_more x n ns

-- one frame more: the gap before it is the last one
gaps_more : (last n : ℕ) (ns : List ℕ) → gaps_of last ns ++ gap_before (last_read last ns) n ≡ gaps_of last (ns ++ n ∷ [])
gaps_more last n [] = sym (append-nil (gap_before last n))
gaps_more last n (x ∷ ns) = append_assoc (gap_before last x) (gaps_of x ns) (gap_before (last_read x ns) n) ∙ ap (λ (l : List Gap). gap_before last x ++ l) (gaps_more x n ns)

-- these frames were read, and the numbers ahead are the others of all
pub record SoFar (held : List Held) (all : List ℕ) (rest : List (ℕ × At)) (pages : Pages) : Type 0 where
  pub frames : List Frame
  pub each : AllByRecursion (IsFirst held) frames
  pub keys : map number_of frames ++ keys_of rest ≡ all
  pub read : AreRead (blocks_in frames) pages.lines
  pub last : pages.last ≡ last_read 0 (map number_of frames)
  pub gaps : pages.gaps.items ≡ gaps_of 0 (map number_of frames)

each_more : (held : List Held) (frames : List Frame) (f : Frame) → AllByRecursion (IsFirst held) frames → IsFirst held f → AllByRecursion (IsFirst held) (frames ++ f ∷ [])
each_more held [] f each this = (this, tt)
each_more held (x ∷ frames) f each this = (each.0, each_more held frames f each.1 this)

pub one_more_read : (held : List Held) (all : List ℕ) (k : ℕ) (p : At) (rest : List (ℕ × At)) (old new : Pages) → AreSearched held → place_of k 0 held ≡ Some p
    → ((h : Held) (f : Frame) (len : ℕ) → slice_get held p.segment ≡ Some h → StandsAt h.header h.bytes.items p.at f len → IsReadNext f old new)
    → SoFar held all ((k, p) ∷ rest) old → SoFar held all rest new
unfolding first_there
one_more_read held all k p rest old new searched is reads so =
    let there = noted_stands held k p is searched in
    let f = there.spot.frame in
    let first = first_there held k p is there in
    let next = reads first.segment f first.len first.its first.stands in
    let numbers : map number_of (so.frames ++ f ∷ []) ≡ map number_of so.frames ++ f.number ∷ [] = map_push number_of so.frames f in
    record {
      frames = so.frames ++ f ∷ [];
      each = each_more held so.frames f so.each first;
      keys = ap (λ (l : List ℕ). l ++ keys_of rest) numbers ∙ append_assoc (map number_of so.frames) (f.number ∷ []) (keys_of rest)
          ∙ ap (λ (n : ℕ). map number_of so.frames ++ n ∷ keys_of rest) there.spot.is ∙ so.keys;
      read = subst (λ (l : List Block). AreRead l new.lines)
          (sym (flat_map-append (λ (f : Frame). f.blocks) so.frames (f ∷ []) ∙ ap (λ (l : List Block). blocks_in so.frames ++ l) (append-nil f.blocks)))
          (next.pages (blocks_in so.frames) so.read);
      last = next.last ∙ last_more 0 f.number (map number_of so.frames) ∙ ap (last_read 0) (sym numbers);
      gaps = next.gap ∙ ap (λ (l : List Gap). l ++ gap_before old.last f.number) so.gaps
          ∙ ap (λ (n : ℕ). gaps_of 0 (map number_of so.frames) ++ gap_before n f.number) so.last
          ∙ gaps_more 0 f.number (map number_of so.frames) ∙ ap (gaps_of 0) (sym numbers);
    }

pub all_read : (held : List Held) (m : BTreeMap ℕ At) (pages : Pages) → ((number : ℕ) → tree.get nat_cmp m number ≡ place_of number 0 held) → tree.IsOrdered nat_cmp m
    → SoFar held (keys_of m.entries) [] pages → ArePagesOf held pages
all_read held m pages is ordered so =
    let keys : map number_of so.frames ≡ keys_of m.entries = sym (append-nil (map number_of so.frames)) ∙ so.keys in
    let gathered : AreGathered held so.frames = record {
      each = so.each;
      ascend = subst (λ (l : List ℕ). IsStrictlySortedBy nat_cmp l) (sym keys) ordered;
      all = λ number some. subst (λ (l : List ℕ). Contains l number) (sym keys)
          ((btree_map_contains_key_iff nat_cmp_total exact_unsigned m number).0 (subst (λ (o : Option At). IsSome o) (sym (is number)) some));
    } in
    record {
      frames = so.frames;
      gathered = gathered;
      read = so.read;
      gaps = so.gaps;
      lost = λ number. gaps_told held so.frames pages.gaps.items gathered so.gaps number;
    }

-- ---- what was found at a place

pub the_frame : (found : Option (Frame × ℕ)) (first frame : Frame) (used len : ℕ) → found ≡ Some (first, used) → found ≡ Some (frame, len) → first ≡ frame
the_frame found first frame used len a b = (the_same found first frame used len a b).0

pub no_frame : (found : Option (Frame × ℕ)) (frame : Frame) (len : ℕ) → found ≡ None → found ≡ Some (frame, len) → ⊥
no_frame found frame len a b = none_found found frame len a b

pub same_read : (first f : Frame) (r : Result (Unit {0}) AllocError) (old new : Pages) → first ≡ f
    → ((done : List Block) → AreRead done old.lines → OnOk r (AreRead (done ++ first.blocks) new.lines))
    → OnOk r (new.last ≡ first.number) → OnOk r (new.gaps.items ≡ old.gaps.items ++ gap_before old.last first.number) → OnOk r (IsReadNext f old new)
same_read first f (Ok u) old new same pages last gap = subst (λ (x : Frame). IsReadNext x old new) same (record { pages = pages; last = last; gap = gap })
same_read first f (Err e) old new same pages last gap = tt

pub that_one : (held : List Held) (n at : ℕ) (h its : Held) → n ≡ length held → at < n → its ≡ get_or held at its → slice_get held at ≡ Some h → h ≡ its
that_one held n at h its long below is there = (let here : slice_get held at ≡ Some its = slice_get_read held n at its long below is in let both : Some h ≡ Some its = sym there ∙ here in cc)

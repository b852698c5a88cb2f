-- A page whose last block stands in the oldest segment is what that segment's frames leave, and may
-- be spelled after its bytes.

use Rattle.std.proofs.Common.{inl, inr, ◌≡◌, ℕ, ◌+◌, ◌<◌, ◌≤◌, true, false, Option, Some, None, IfSome, List, [], ◌∷◌, ◌++◌, length}
use Rattle.std.proofs.Common.{map, take, drop, set, get_or, slice_get, refl, sym, ap, subst, ◌∙◌, length-append, length-drop, arith}
use Rattle.std.specs.BTreeMap as tree
use Rattle.std.specs.List.{fold, list_any, AllByRecursion}
use Rattle.std.specs.Ordering.{nat_cmp}
use Rattle.std.proofs.lemmas.Bool.{leb-true, false≢true, cases_Bool}
use Rattle.std.proofs.lemmas.Grind.{fold-append, flat_map-append}
use Rattle.std.proofs.lemmas.List.{take-append-le, drop-append-le}
use Rattle.std.proofs.Math.Seq.{drop-append_seam, take-length}
use Rattle.bw_codec.specs.Grammar.{block_bytes}
use Rattle.bw_record.specs.Touch.{touches}
use Rattle.bw_record.specs.declared.block.Block.TheVariants.{Base}
use Rattle.bw_record.specs.declared.block.Frame.{Frame}
use Rattle.bw_record.specs.declared.block.Place.{Place}
use Rattle.bw_record.specs.declared.leaf.Leaf.{Leaf}
use Rattle.bw_device.specs.Holding.{Holding}
use Rattle.bw_leaf.specs.Forwards.{after, content, blocks_of}
use Rattle.bw_log.specs.Contents.{Contents, image, limits_of, counted, IsSound}
use Rattle.bw_log.specs.Oldest.{last_number}
use Rattle.bw_log.specs.Places.{later, last_place, all_placed, first_number, place_of}
use Rattle.bw_log.specs.Reads.{IsPage}
use Rattle.bw_log.specs.Segments.{Limits, segment_frames, frames_of, AreFrom, AreLive, IsLive}
use Rattle.bw_log.specs.Segments as log
use Rattle.bw_log.proofs.GivenUp.{placed_more}
use Rattle.bw_log.proofs.Walk.{same_fold}
use Rattle.bw_care.specs.Ahead.{PageRead, IsBaseOf, Tells, AreSpots, piece_at, IsOldest, oldest_frames, Says, IsSpelled}
use Rattle.bw_care.specs.Behind.{frames_behind}
use Rattle.bw_care.specs.Forward.{IsFramed}
use Rattle.bw_care.specs.Cleaning.{is_old, oldest_last}
use Rattle.bw_lines.specs.Reading.{IsRead, leaf_in, line_of}
use Rattle.bw_care.specs.declared.copies.Spot.{Spot}
use Rattle.bw_lines.specs.declared.links.Line.{Line}
use Rattle.bw_care.proofs.BasesFound.{above}
use Rattle.bw_care.proofs.BasesLeave.{page_read}
use Rattle.bw_lines.proofs.LinesTaken.{leaf_is}
use Rattle.bw_care.proofs.OldPages.{all_after, any_all_placed, plain_by, set_where}
use Rattle.bw_care.proofs.OwnSegments.{live_heading, live_long, live_ends}
use Rattle.bw_care.proofs.ReadAhead.{set_tell}

-- ---- frames that come later

after_last : (n w : ℕ) (xs ys : List Frame) → AreFrom n (xs ++ ys) → w < n → AllByRecursion (λ f. fold (λ was x. x.number) w xs < f.number) ys
after_last n w [] ys from less = above w n ys from less
after_last n w (x ∷ xs) ys from less = after_last (n + 1) x.number xs ys from.1 (let is = from.0 in omega arith)

not_after : (last : ℕ) (o : Option Place) → is_old last o ≡ true → IfSome o (λ q. last < q.frame) → ⊥
not_after last None old later = false≢true old
not_after last (Some place) old later = let least = leb-true place.frame last old in absurd (omega arith)

place_over : (p : ℕ) (fs xs : List Frame) → place_of p (fs ++ xs) ≡ fold (later (touches p)) (place_of p fs) (all_placed xs)
place_over p fs xs = ap (last_place (touches p)) (placed_more fs xs) ∙ fold-append (later (touches p)) None (all_placed fs) (all_placed xs)

untouched : (last p : ℕ) (fs xs : List Frame) → AllByRecursion (λ f. last < f.number) xs → is_old last (place_of p (fs ++ xs)) ≡ true
    → list_any (touches p) (blocks_of xs) ≡ false
untouched last p fs xs are old = elim (cases_Bool (list_any (touches p) (blocks_of xs))) [
  | inl some ↦ absurd (not_after last (place_of p (fs ++ xs)) old (subst (λ (o : Option Place). IfSome o (λ q. last < q.frame)) (sym (place_over p fs xs))
      (set_where (λ q. last < q.frame) (touches p) (place_of p fs) (all_placed xs) (all_after last xs are) (any_all_placed (touches p) xs ∙ some))))
  | inr none ↦ none
]

same_content : (last p : ℕ) (fs xs : List Frame) → AllByRecursion (λ f. last < f.number) xs → is_old last (place_of p (fs ++ xs)) ≡ true
    → content p (blocks_of (fs ++ xs)) ≡ content p (blocks_of fs)
same_content last p fs xs are old =
    ap (content p) (flat_map-append (λ (f : Frame). f.blocks) fs xs)
    ∙ fold-append (after p) None (blocks_of fs) (blocks_of xs)
    ∙ same_fold p (content p (blocks_of fs)) (blocks_of xs) (untouched last p fs xs are old)

by_frames : (n last p : ℕ) (fs xs all : List Frame) (leaf : Leaf) → all ≡ fs ++ xs → AreFrom n all → last ≡ fold (λ was (x : Frame). x.number) 0 fs
    → is_old last (place_of p all) ≡ true → content p (blocks_of fs) ≡ Some leaf → content p (blocks_of all) ≡ Some leaf
by_frames n last p [] xs all leaf is from ends old said = absurd cc
by_frames n last p (f ∷ fs) xs all leaf is from ends old said =
    let numbered : AreFrom n (f ∷ (fs ++ xs)) = subst (AreFrom n) is from in
    let number = numbered.0 in
    let behind : AllByRecursion (λ (x : Frame). last < x.number) xs =
    subst (λ (k : ℕ). AllByRecursion (λ (x : Frame). k < x.number) xs) (sym ends) (after_last (n + 1) f.number fs xs numbered.1 (omega arith)) in
    ap (λ (l : List Frame). content p (blocks_of l)) is
    ∙ same_content last p (f ∷ fs) xs behind (ap (λ (l : List Frame). is_old last (place_of p l)) (sym is) ∙ old) ∙ said

-- the page of the oldest segment's frames is the page of the log
page_ahead : (c : Contents) (live : List Holding) (p : ℕ) (leaf : Leaf) → IsSound c → c.is_failed ≡ false → c.live ≡ live
    → is_old (oldest_last c live) (place_of p (counted c)) ≡ true → content p (blocks_of (oldest_frames live)) ≡ Some leaf
    → content p (blocks_of (counted c)) ≡ Some leaf
page_ahead c [] p leaf sound works is old said = absurd cc
page_ahead c (h ∷ hs) p leaf sound works is old said =
    by_frames (first_number (counted c)) (last_number c h) p (segment_frames h.bytes) (frames_of (map (λ (k : Holding). k.bytes) hs)) (counted c) leaf
    (sound.holds.every works ∙ ap (λ (l : List Holding). frames_of (map (λ (k : Holding). k.bytes) l)) is) sound.holds.numbered
    (plain_by c h hs sound is works) old said

-- ---- the map

pub nothing_read : (first : ℕ) (lines : tree.BTreeMap ℕ Line) → tree.IsEmpty lines → IsRead first [] lines
nothing_read first lines empty = record { lines = λ p. rw empty refl; linked = refl }

-- what was read says so
pub read_says : (frames : List Frame) (lines : tree.BTreeMap ℕ Line) → ((p : ℕ) → tree.get nat_cmp lines p ≡ line_of p None (all_placed frames))
    → Says (blocks_of frames) lines
read_says frames lines read p leaf is = sym (leaf_is p frames) ∙ ap leaf_in (sym (read p)) ∙ is

-- a leaf that the map has of a page is read, if the page's last block is old
pub says_read : (c : Contents) (lines : tree.BTreeMap ℕ Line) (last p : ℕ) → IsSound c → c.is_failed ≡ false → last ≡ oldest_last c c.live
    → Says (blocks_of (oldest_frames c.live)) lines → IsPage c p → is_old last (place_of p (counted c)) ≡ true → (leaf : Leaf)
    → leaf_in (tree.get nat_cmp lines p) ≡ Some leaf → PageRead c p leaf
says_read c lines last p sound works ends says page old leaf is =
    page_read c p leaf sound page.0 page.1
    (page_ahead c c.live p leaf sound works refl (ap (λ (n : ℕ). is_old n (place_of p (counted c))) (sym ends) ∙ old) (says p leaf is))

-- ---- the bytes

behind_is : (z : Limits) (n : ℕ) (bytes : List ℕ) → IsLive z n bytes → segment_frames bytes ≡ frames_behind (log.header_in z n) bytes
unfolding segment_frames
behind_is z n bytes live = rw (live_heading z n bytes live, segment_frames) refl

-- a header, the frames of the oldest segment, and a tail
pub record HoldsOldest (c : Contents) (bytes : List ℕ) : Type 0 where
  pub framed : IsFramed bytes
  pub frames : segment_frames bytes ≡ oldest_frames c.live

oldest_by : (c : Contents) (live : List Holding) (bytes : List ℕ) → IsSound c → c.live ≡ live → 0 < length live
    → IfSome (slice_get live 0) (λ h. bytes ≡ h.bytes) → HoldsOldest c bytes
oldest_by c [] bytes sound is some same = absurd (omega arith)
oldest_by c (h ∷ hs) bytes sound is some same =
    let z = limits_of (image c) sound.holds.live.0 in
    let live : IsLive z c.number h.bytes =
    (subst (λ (l : List Holding). AreLive z c.number (map (λ (x : Holding). x.bytes) l)) is sound.holds.live.1).0 in
    subst (HoldsOldest c) (sym same) (record {
      framed = record {
        header = log.header_in z c.number;
        read = live_heading z c.number h.bytes live;
        long = live_long z c.number h.bytes live;
        frames = behind_is z c.number h.bytes live;
        lawful = live_ends z c.number h.bytes live;
      };
      frames = ap oldest_frames (sym is);
    })

pub holds_oldest : (c : Contents) (bytes read : List ℕ) → IsSound c → 0 < length c.live → IsOldest c bytes → read ≡ bytes → HoldsOldest c read
holds_oldest c bytes read sound some oldest same = rw same (oldest_by c c.live bytes sound refl some oldest)

-- ---- a page spelled after them

piece_grown : (old more : List ℕ) (s : Spot) → s.at + s.len ≤ length old → piece_at (old ++ more) s ≡ piece_at old s
piece_grown old more s inside =
    ap (take s.len) (drop-append-le s.at old more (omega arith))
    ∙ take-append-le s.len (drop s.at old) more (omega (arith, length-drop s.at old))

spots_grown : (c : Contents) (old more : List ℕ) (spots : List Spot) (pages : List ℕ) → AreSpots c old spots pages → AreSpots c (old ++ more) spots pages
spots_grown c old more [] pages are = tt
spots_grown c old more (s ∷ ss) [] are = tt
spots_grown c old more (s ∷ ss) (p ∷ ps) are = (
  record {
    within = (let inside = are.0.within in omega (arith, length-append old more));
    holds = λ some. subst (IsBaseOf c p) (sym (piece_grown old more s are.0.within)) (are.0.holds some);
  },
  spots_grown c old more ss ps are.1,
)

spelled_tells : (c : Contents) (p : ℕ) (o : Option Leaf) (old new : List ℕ) (s : Spot) (sp : IsSpelled o old new s) → PageRead c p sp.leaf → Tells c new p s
spelled_tells c p o old new s sp read =
    let own = block_bytes (Base sp.leaf) in
    let size = ap (λ (b : List ℕ). length b) sp.added in
    let at = sp.at in
    let len = sp.len in
    record {
      within = omega (arith, length-append old own);
      holds = λ some. record {
        leaf = sp.leaf;
        read = read;
        spelled =
            ap (λ (b : List ℕ). take s.len (drop s.at b)) sp.added
            ∙ ap (λ (k : ℕ). take s.len (drop k (old ++ own))) at
            ∙ ap (take s.len) (drop-append_seam old own)
            ∙ ap (λ (k : ℕ). take k own) len ∙ take-length own;
      };
    }

-- one page more was spelled
pub one_spelled : (c : Contents) (lines : tree.BTreeMap ℕ Line) (old new : List ℕ) (spots : List Spot) (pages : List ℕ) (i : ℕ) (s : Spot)
    → IsSpelled (leaf_in (tree.get nat_cmp lines (get_or pages i 0))) old new s
    → ((leaf : Leaf) → leaf_in (tree.get nat_cmp lines (get_or pages i 0)) ≡ Some leaf → PageRead c (get_or pages i 0) leaf)
    → AreSpots c old spots pages → AreSpots c new (set spots i s) pages
one_spelled c lines old new spots pages i s sp reads are =
    let p = get_or pages i 0 in
    set_tell c new spots pages i s
    (subst (λ (b : List ℕ). AreSpots c b spots pages) (sym sp.added) (spots_grown c old (block_bytes (Base sp.leaf)) spots pages are))
    (spelled_tells c p (leaf_in (tree.get nat_cmp lines p)) old new s sp (reads sp.leaf sp.there))

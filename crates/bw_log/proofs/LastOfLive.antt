-- The last frame of a live segment, by a search among the lines.

use Rattle.std.proofs.Common.{inl, inr, ◌≡◌, ◌≢◌, ℕ, ◌+◌, ◌-◌, ◌<◌, ◌≤◌, Bool, true, false, nat_le, List, [], ◌∷◌, ◌++◌, length, map, get_or}
use Rattle.std.proofs.Common.{slice_get, Option, Some, MatchOption, ◌⊎◌, refl, sym, ap, subst, ◌∙◌, append_assoc, arith, length-append}
use Rattle.std.specs.List.{fold, filter, AllByRecursion}
use Rattle.std.specs.Borrow.{Bor}
use Rattle.std.specs.Fn.{Called, ComputesKey, Mut}
use Rattle.std.specs.List.Sorted.{IsPartitionedBy, IsPartitionPoint}
use Rattle.std.proofs.lemmas.List.Sorted.{IsPartitionPoint-from_clause}
use Rattle.std.proofs.lemmas.Bool.{le-leb, lt-leb}
use Rattle.std.proofs.lemmas.List.{map-append, length-map, get_or-append-add}
use Rattle.std.proofs.lemmas.List.Elements.{filter-append}
use Rattle.bw_codec.specs.Reading.{version_in}
use Rattle.bw_codec.specs.Grammar.{frame_bytes_in}
use Rattle.bw_record.specs.declared.block.Frame.{Frame}
use Rattle.bw_device.specs.Holding.{Holding}
use Rattle.bw_log.specs.Segments.{segment_frames, entries_from, entries, is_before_next}
use Rattle.bw_log.specs.Contents.{Contents, IsSound}
use Rattle.bw_log.specs.Oldest.{last_number}
use Rattle.bw_log.specs.declared.places.FrameAt.{FrameAt}
use Rattle.bw_log.proofs.Entries.{frames_in, all_append, all_filtered, all_mapped, filter_mapped, SplitAt, split_at}
use Rattle.bw_log.proofs.GivenUp.{all_map}
use Rattle.bw_log.proofs.LastNumber.{Found, no_line, at_front, own_last, numbers_in, parted, point_is, same_last}

-- ---- the lines before a segment, those in it, and the others

-- each line of a segment names it
named : (v segment at : ℕ) (fs : List Frame) → AllByRecursion (λ e. e.0.segment ≡ segment) (entries_from v segment at fs)
named v segment at [] = tt
named v segment at (f ∷ fs) = (refl, named v segment (at + length (frame_bytes_in v f)) fs)

entries_below : (number : ℕ) (bs : List (List ℕ)) → AllByRecursion (λ e. e.0.segment < number + length bs) (entries number bs)
entries_below number [] = tt
entries_below number (b ∷ bs) =
    all_append (λ (e : FrameAt × Frame). e.0.segment < number + length (b ∷ bs)) (entries_from (version_in b) number 24 (segment_frames b))
    (entries (number + 1) bs)
    (all_mapped (λ (e : FrameAt × Frame). e.0.segment ≡ number) (λ (e : FrameAt × Frame). e.0.segment < number + length (b ∷ bs))
    (entries_from (version_in b) number 24 (segment_frames b)) (λ e is. omega arith) (named (version_in b) number 24 (segment_frames b)))
    (all_mapped (λ (e : FrameAt × Frame). e.0.segment < number + 1 + length bs) (λ (e : FrameAt × Frame). e.0.segment < number + length (b ∷ bs))
    (entries (number + 1) bs) (λ e is. omega arith) (entries_below (number + 1) bs))

entries_above : (segment number : ℕ) (bs : List (List ℕ)) → segment < number → AllByRecursion (λ e. segment < e.0.segment) (entries number bs)
entries_above segment number [] less = tt
entries_above segment number (b ∷ bs) less =
    all_append (λ (e : FrameAt × Frame). segment < e.0.segment) (entries_from (version_in b) number 24 (segment_frames b)) (entries (number + 1) bs)
    (all_mapped (λ (e : FrameAt × Frame). e.0.segment ≡ number) (λ (e : FrameAt × Frame). segment < e.0.segment)
    (entries_from (version_in b) number 24 (segment_frames b)) (λ e is. omega arith) (named (version_in b) number 24 (segment_frames b)))
    (entries_above segment (number + 1) bs (omega arith))

entries_behind : (number : ℕ) (os bs : List (List ℕ)) → entries number (os ++ bs) ≡ entries number os ++ entries (number + length os) bs
entries_behind number [] bs = (let e : number ≡ number + 0 = omega arith in ap (λ (n : ℕ). entries n bs) e)
entries_behind number (o ∷ os) bs =
    let here = entries_from (version_in o) number 24 (segment_frames o) in
    let e : number + 1 + length os ≡ number + length (o ∷ os) = omega arith in
    ap (λ (l : List (FrameAt × Frame)). here ++ l) (entries_behind (number + 1) os bs ∙ ap (λ (n : ℕ). entries (number + 1) os ++ entries n bs) e)
    ∙ sym (append_assoc here (entries (number + 1) os) (entries (number + length (o ∷ os)) bs))

-- the three parts of the table
pub record ThreeParts (segment : ℕ) (lines : List FrameAt) (last : ℕ) : Type 0 where
  pub before : List FrameAt
  pub own : List FrameAt
  pub others : List FrameAt
  pub split : lines ≡ (before ++ own) ++ others
  pub below : AllByRecursion (λ e. e.segment < segment) before
  pub here : AllByRecursion (λ e. e.segment ≡ segment) own
  pub above : AllByRecursion (λ e. segment < e.segment) others
  pub tells : last ≡ fold (λ was e. e.number) 0 own

three_parts : (number : ℕ) (next : Option ℕ) (os : List (List ℕ)) (b : List ℕ) (bs : List (List ℕ))
    → ThreeParts (number + length os) (map (λ e. e.0) (filter (λ e. is_before_next next e.1.number) (entries number (os ++ b ∷ bs))))
    (fold (λ was f. f.number) 0 (filter (λ f. is_before_next next f.number) (segment_frames b)))
three_parts number next os b bs =
    let line : FrameAt × Frame → FrameAt = λ e. e.0 in
    let frame : FrameAt × Frame → Frame = λ e. e.1 in
    let test : FrameAt × Frame → Bool = λ e. is_before_next next e.1.number in
    let n = number + length os in
    let own_all = entries_from (version_in b) n 24 (segment_frames b) in
    let older = filter test (entries number os) in
    let own = filter test own_all in
    let newer = filter test (entries (n + 1) bs) in
    let frames : filter (λ (f : Frame). is_before_next next f.number) (segment_frames b) ≡ map frame own =
    ap (filter (λ (f : Frame). is_before_next next f.number)) (sym (frames_in (version_in b) n 24 (segment_frames b)))
    ∙ filter_mapped (λ (f : Frame). is_before_next next f.number) frame own_all in
    let parts : filter test (entries number (os ++ b ∷ bs)) ≡ older ++ (own ++ newer) =
    ap (filter test) (entries_behind number os (b ∷ bs)) ∙ filter-append test (entries number os) (own_all ++ entries (n + 1) bs)
    ∙ ap (λ (l : List (FrameAt × Frame)). older ++ l) (filter-append test own_all (entries (n + 1) bs)) in
    record {
      before = map line older;
      own = map line own;
      others = map line newer;
      split = ap (map line) parts ∙ map-append line older (own ++ newer) ∙ ap (λ (l : List FrameAt). map line older ++ l) (map-append line own newer)
          ∙ sym (append_assoc (map line older) (map line own) (map line newer));
      below = all_map line (λ (e : FrameAt). e.segment < n) older
          (all_filtered (λ (e : FrameAt × Frame). e.0.segment < n) test (entries number os) (entries_below number os));
      here = all_map line (λ (e : FrameAt). e.segment ≡ n) own
          (all_filtered (λ (e : FrameAt × Frame). e.0.segment ≡ n) test own_all (named (version_in b) n 24 (segment_frames b)));
      above = all_map line (λ (e : FrameAt). n < e.segment) newer
          (all_filtered (λ (e : FrameAt × Frame). n < e.0.segment) test (entries (n + 1) bs) (entries_above n (n + 1) bs (omega arith)));
      tells = ap (fold (λ was (f : Frame). f.number) 0) frames
          ∙ same_last 0 own (all_filtered (λ (e : FrameAt × Frame). e.1.number ≡ e.0.number) test own_all (numbers_in (version_in b) n 24 (segment_frames b)));
    }

-- ---- what the search finds

-- whether a line stands in a segment up to this one
abbrev upto : ℕ → FrameAt → Bool
upto segment e = nat_le e.segment segment

count_is : {segment : ℕ} {lines : List FrameAt} {last n : ℕ} (t : ThreeParts segment lines last) → Found (upto segment) lines n → (d : FrameAt)
    → n ≡ length (t.before ++ t.own)
count_is {segment} {lines} {last} {n} t found d =
    let p : FrameAt → Bool = upto segment in
    let front : AllByRecursion (λ (e : FrameAt). p e ≡ true) (t.before ++ t.own) =
    all_append (λ (e : FrameAt). p e ≡ true) t.before t.own
    (all_mapped (λ (e : FrameAt). e.segment < segment) (λ (e : FrameAt). p e ≡ true) t.before (λ e lt. le-leb e.segment segment (omega arith)) t.below)
    (all_mapped (λ (e : FrameAt). e.segment ≡ segment) (λ (e : FrameAt). p e ≡ true) t.own (λ e is. le-leb e.segment segment (omega arith)) t.here) in
    let back : AllByRecursion (λ (e : FrameAt). p e ≡ false) t.others =
    all_mapped (λ (e : FrameAt). segment < e.segment) (λ (e : FrameAt). p e ≡ false) t.others (λ e lt. lt-leb e.segment segment lt) t.above in
    let f : Found p ((t.before ++ t.own) ++ t.others) n = subst (λ (l : List FrameAt). Found p l n) t.split found in
    point_is p (t.before ++ t.own) t.others n d front back f.inside (f.point (parted p (t.before ++ t.own) t.others front back))

-- no line up to the segment's
pub none_last : {segment : ℕ} {lines : List FrameAt} {last n : ℕ} (t : ThreeParts segment lines last) → Found (upto segment) lines n → FrameAt
    → n ≡ 0 → last ≡ 0
none_last {segment} {lines} {last} {n} t found d none = t.tells ∙ empty t.own (let c = count_is t found d in omega (arith, length-append t.before t.own))
  where
    empty : (own : List FrameAt) → length own ≡ 0 → fold (λ was (e : FrameAt). e.number) 0 own ≡ 0
    empty [] e = refl
    empty (x ∷ xs) e = absurd (omega arith)

last_by : (segment : ℕ) (before own others : List FrameAt) (n : ℕ) (d : FrameAt) → AllByRecursion (λ e. e.segment < segment) before
    → AllByRecursion (λ e. e.segment ≡ segment) own → n ≡ length (before ++ own) → 0 < n
    → (((get_or ((before ++ own) ++ others) (n - 1) d).segment ≡ segment) ×
    (fold (λ was e. e.number) 0 own ≡ (get_or ((before ++ own) ++ others) (n - 1) d).number))
    ⊎ (((get_or ((before ++ own) ++ others) (n - 1) d).segment ≢ segment) × (fold (λ was e. e.number) 0 own ≡ 0))
last_by segment before [] others n d below here count some =
    let at : n - 1 < length (before ++ []) = omega arith in
    let all : AllByRecursion (λ (e : FrameAt). e.segment < segment) (before ++ []) = all_append (λ (e : FrameAt). e.segment < segment) before [] below tt in
    let less = at_front (λ (e : FrameAt). e.segment < segment) (before ++ []) others (n - 1) d all at in
    inr (λ e. absurd (omega arith), refl)
last_by segment before (x ∷ xs) others n d below here count some =
    let own = x ∷ xs in
    let k = length own - 1 in
    let at : length before + k ≡ n - 1 = omega (arith, length-append before own) in
    let is : get_or ((before ++ own) ++ others) (n - 1) d ≡ get_or (own ++ others) k d =
    ap (λ (l : List FrameAt). get_or l (n - 1) d) (append_assoc before own others) ∙ ap (λ (j : ℕ). get_or (before ++ (own ++ others)) j d) (sym at)
    ∙ get_or-append-add before (own ++ others) k d in
    inl (
      ap (λ (e : FrameAt). e.segment) is ∙ at_front (λ (e : FrameAt). e.segment ≡ segment) own others k d here (omega arith),
      own_last own others (length own) d refl (omega arith) ∙ ap (λ (e : FrameAt). e.number) (sym is),
    )

pub last_told : {segment : ℕ} {lines : List FrameAt} {last n : ℕ} (t : ThreeParts segment lines last) → Found (upto segment) lines n → (d : FrameAt) → 0 < n
    → (((get_or lines (n - 1) d).segment ≡ segment) × (last ≡ (get_or lines (n - 1) d).number)) ⊎ (((get_or lines (n - 1) d).segment ≢ segment) × (last ≡ 0))
last_told {segment} {lines} {last} {n} t found d some =
    elim (last_by segment t.before t.own t.others n d t.below t.here (count_is t found d) some) [
      | inl x ↦ inl (
        ap (λ (l : List FrameAt). (get_or l (n - 1) d).segment) t.split ∙ x.0,
        t.tells ∙ x.1 ∙ ap (λ (l : List FrameAt). (get_or l (n - 1) d).number) (sym t.split),
      )
      | inr x ↦ inr (
        λ e. x.0 (ap (λ (l : List FrameAt). (get_or l (n - 1) d).segment) (sym t.split) ∙ e),
        t.tells ∙ x.1,
      )
    ]

-- ---- of a log

-- the lines of a log around one of its live segments
pub record Around (c : Contents) (segment : ℕ) : Type 0 where
  pub box : Holding
  pub there : slice_get c.live (segment - c.number) ≡ Some box
  pub parts : ThreeParts segment c.frames (last_number c box)

at_split : (hs : List Holding) (i : ℕ) (s : SplitAt hs i) → slice_get hs i ≡ Some s.item
at_split hs i s = ap (λ (l : List Holding). slice_get l i) s.split ∙ ap (slice_get (s.before ++ s.item ∷ s.beyond)) (sym s.index)
    ∙ get_at s.before s.item s.beyond
  where
    get_at : (xs : List Holding) (y : Holding) (ys : List Holding) → slice_get (xs ++ y ∷ ys) (length xs) ≡ Some y
    get_at [] y ys = refl
    get_at (x ∷ xs) y ys = get_at xs y ys

pub around : (c : Contents) (segment : ℕ) → IsSound c → c.number ≤ segment → segment - c.number < length c.live → Around c segment
around c segment sound from inside =
    let s = split_at c.live (segment - c.number) inside in
    let bytes : Holding → List ℕ = λ k. k.bytes in
    let os = map bytes s.before in
    let split : map bytes c.live ≡ os ++ s.item.bytes ∷ map bytes s.beyond = ap (map bytes) s.split ∙ map-append bytes s.before (s.item ∷ s.beyond) in
    let number : c.number + length os ≡ segment = (let i = s.index in omega (arith, length-map s.before bytes)) in
    let is : c.frames ≡ map (λ e. e.0) (filter (λ e. is_before_next c.next e.1.number) (entries c.number (os ++ s.item.bytes ∷ map bytes s.beyond))) =
    sound.holds.listed ∙ ap (λ (l : List (List ℕ)). map (λ e. e.0) (filter (λ e. is_before_next c.next e.1.number) (entries c.number l))) split in
    record {
      box = s.item;
      there = at_split c.live (segment - c.number) s;
      parts = subst (λ (n : ℕ). ThreeParts n c.frames (last_number c s.item)) number
          (subst (λ (lines : List FrameAt). ThreeParts (c.number + length os) lines (last_number c s.item)) (sym is)
          (three_parts c.number c.next os s.item.bytes (map bytes s.beyond)));
    }

-- a search among the lines of a log for the end of those up to one of its live segments
pub record Search (c : Contents) (lines : List FrameAt) (segment n : ℕ) : Type 0 where
  pub same : lines ≡ c.frames
  pub sound : IsSound c
  pub from : c.number ≤ segment
  pub inside : segment - c.number < length c.live
  pub found : Found (upto segment) lines n

-- as the code searches
pub searched : {X F : Type 0} {g : Mut F (Bor FrameAt × Unit {0}) Bool} {f : F} (v : X → Holding) (c : Contents) (xs : List X) (lines : List FrameAt)
    (segment n : ℕ)
    → c.live ≡ map v xs → lines ≡ c.frames → IsSound c → c.number ≤ segment → segment - c.number < length xs → n ≤ length lines
    → ((q : FrameAt → Bool) → ComputesKey g q f → IsPartitionedBy q lines → IsPartitionPoint (λ e. q e ≡ true) (λ e. q e ≡ false) lines n)
    → ((a : Bor FrameAt × Unit {0}) (r : Bool) (f' : F) → Called g f a r f' → (r ≡ nat_le a.0.now.segment segment) × (f' ≡ f))
    → Search c lines segment n
searched v c xs lines segment n live same sound from inside few clause calls = record {
  same = same;
  sound = sound;
  from = from;
  inside = omega (arith, ap (λ (l : List Holding). length l) live, length-map xs v);
  found = record { inside = few; point = λ parted. IsPartitionPoint-from_clause (upto segment) lines n clause parted calls };
}

-- the lines around that segment
pub search_parts : {c : Contents} {lines : List FrameAt} {segment n : ℕ} → Search c lines segment n
    → (h : Holding) × (slice_get c.live (segment - c.number) ≡ Some h) × ThreeParts segment lines (last_number c h)
search_parts {c} {lines} {segment} {n} s =
    let a : Around c segment = around c segment s.sound s.from s.inside in
    (a.box, a.there, subst (λ (l : List FrameAt). ThreeParts segment l (last_number c a.box)) (sym s.same) a.parts)

told_by : {c : Contents} {lines : List FrameAt} {segment n : ℕ} (last : ℕ) (s : Search c lines segment n) → last ≡ last_number c (search_parts s).0
    → MatchOption (slice_get c.live (segment - c.number)) (last ≡ 0) (λ h. last ≡ last_number c h)
told_by {c} {lines} {segment} {n} last s is =
    subst (λ (o : Option Holding). MatchOption o (last ≡ 0) (λ h. last ≡ last_number c h)) (sym (search_parts s).1) is

pub none_told : {c : Contents} {lines : List FrameAt} {segment n : ℕ} → Search c lines segment n → n ≡ 0
    → MatchOption (slice_get c.live (segment - c.number)) (◌≡◌ {A = ℕ} 0 0) (λ h. 0 ≡ last_number c h)
none_told s none = told_by 0 s (sym (none_last (search_parts s).2 s.found no_line none))

-- the number of the line before the end, if it stands in the segment, and else 0
pub own_told : {c : Contents} {lines : List FrameAt} {segment n : ℕ} (line : FrameAt) → Search c lines segment n → line ≡ get_or lines (n - 1) line → 0 < n
    → line.segment ≡ segment
    → MatchOption (slice_get c.live (segment - c.number)) (line.number ≡ 0) (λ h. line.number ≡ last_number c h)
own_told line s is some own =
    elim (last_told (search_parts s).2 s.found line some) [
      | inl x ↦ told_by line.number s (ap (λ (l : FrameAt). l.number) is ∙ sym x.1)
      | inr x ↦ absurd (x.0 (ap (λ (l : FrameAt). l.segment) (sym is) ∙ own))
    ]

pub other_told : {c : Contents} {lines : List FrameAt} {segment n : ℕ} (line : FrameAt) → Search c lines segment n → line ≡ get_or lines (n - 1) line → 0 < n
    → line.segment ≢ segment
    → MatchOption (slice_get c.live (segment - c.number)) (◌≡◌ {A = ℕ} 0 0) (λ h. 0 ≡ last_number c h)
other_told line s is some other =
    elim (last_told (search_parts s).2 s.found line some) [
      | inl x ↦ absurd (other (ap (λ (l : FrameAt). l.segment) is ∙ x.0))
      | inr x ↦ told_by 0 s (sym x.1)
    ]

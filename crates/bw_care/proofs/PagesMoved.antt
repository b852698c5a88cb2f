-- Frames of Bases one after the other, and the oldest segment after all of them.

use Rattle.std.proofs.Common.{inl, inr, ◌≡◌, ℕ, zero, suc, ◌+◌, ◌^◌, ◌<◌, ◌≤◌, nat_lt, Bool, true, false, if◌then◌else◌, Option, Some, None, MatchOption}
use Rattle.std.proofs.Common.{List, [], ◌∷◌, ◌++◌, length, map, take, drop, slice_get, refl, sym, ap, subst, ◌∙◌, append_assoc, append-nil}
use Rattle.std.proofs.Common.{Ok, length-append, arith}
use Rattle.std.specs.List.{AllByRecursion}
use Rattle.std.proofs.lemmas.Bool.{cases_lt}
use Rattle.std.proofs.lemmas.List.{map-append, length-map}
use Rattle.bw_codec.specs.Grammar.{frame_bytes, IsBlock, IsFrame}
use Rattle.bw_record.specs.declared.block.Block.{Block}
use Rattle.bw_record.specs.declared.block.Frame.{Frame}
use Rattle.bw_leaf.specs.Forwards.{content, blocks_of}
use Rattle.bw_page.specs.Standing.{Stand}
use Rattle.bw_buffer.proofs.Holding.{few_blocks}
use Rattle.bw_device.specs.Holding.{Holding}
use Rattle.bw_log.specs.Places.{base_of, first_number}
use Rattle.bw_log.specs.Segments.{AreFrom, next_of}
use Rattle.bw_log.proofs.Adding.{next_is}
use Rattle.bw_log.specs.Contents.{Contents, boxes, roster, counted, IsSound}
use Rattle.bw_log.specs.Oldest.{IsAfter, IsBaseAfter, NoBaseBefore, last_number, oldest_count}
use Rattle.bw_log.specs.Appends.{AfterAppend}
use Rattle.bw_log.proofs.Entries.{all_append}
use Rattle.bw_log.proofs.Reread.{length-frame}
use Rattle.bw_log.proofs.Walks.{blocks_more}
use Rattle.bw_log.proofs.LogLeft.{same_count}
use Rattle.bw_care.specs.Cleaning.{IsRewritten, page_of, old_pages, oldest_last}
use Rattle.bw_care.specs.Moving.{AreBases, IsFull, AreFull, IsNextBehind, AreAppended, Moved, MovedBehind, KeepsOlder, KeepsNewest, IsCleaned}
use Rattle.bw_care.proofs.BasesLeave.{frames_leave, all_rewritten, one_frame, some_stand, stand_more, next_range}
use Rattle.bw_care.proofs.BoxesGrown.{longer_same, longer_all, appended_longer, appended_older, keeps_newest, older_same, older_all, same_roster}
use Rattle.bw_care.proofs.OldPages.{same_last, base_moved}
use Rattle.bw_care.specs.declared.cleaner.Cleaned.{Cleaned}

-- ---- one frame

pub frame_lawful : (c : Contents) (x : Frame) → IsSound c → c.next ≡ Some x.number → AllByRecursion (IsBlock c.m) x.blocks → 1 ≤ length x.blocks
    → length (frame_bytes x) ≤ c.f → IsFrame c.m c.f x
frame_lawful c x sound number lawful some short =
    let most = sound.holds.limits.3 in
    let few = few_blocks x.blocks in
    let len = length-frame x in
    record {
      head = record {
        numbered = next_range c x.number sound number;
        fits = (omega arith, omega arith);
        some = (some, omega arith);
      };
      blocks = lawful;
    }

same_pages : (old new : Contents) (x : Frame) → IsSound old → IsSound new → 1 ≤ length old.pages
    → AllByRecursion (IsRewritten (blocks_of (counted old))) x.blocks → counted new ≡ counted old ++ x ∷ [] → new.m ≡ old.m
    → length new.pages ≡ length old.pages
same_pages old new x a b some are counts m =
    let stands = some_stand old.m (length old.pages) (counted old) some a.holds.stands in
    let more : Stand old.m (counted old ++ x ∷ []) stands.0 =
    stand_more old.m (counted old) (x ∷ []) stands.0 stands.1 (subst (AllByRecursion (IsRewritten (blocks_of (counted old)))) (sym (one_frame x)) are) in
    let now : Stand new.m (counted new) stands.0 =
    subst (λ (n : ℕ). Stand n (counted new) stands.0) (sym m) (subst (λ (fs : List Frame). Stand old.m fs stands.0) (sym counts) more) in
    sym (same_count new stands.0 b now) ∙ stands.2

pub drop_at_length : (xs ys : List ℕ) → drop (length xs) (xs ++ ys) ≡ ys
drop_at_length [] ys = refl
drop_at_length (x ∷ xs) ys = drop_at_length xs ys

drop_told : (pages rest : List ℕ) (bs : List Block) → map page_of bs ≡ pages → drop (length bs) (pages ++ rest) ≡ rest
drop_told pages rest bs told =
    ap (λ (k : ℕ). drop k (pages ++ rest)) (sym (length-map bs page_of) ∙ ap (λ (l : List ℕ). length l) told) ∙ drop_at_length pages rest

drop_nil : (n : ℕ) → drop {A = ℕ} n [] ≡ []
drop_nil zero = refl
drop_nil (suc n) = refl

pub drop_twice : (i k : ℕ) (xs : List ℕ) → drop i (drop k xs) ≡ drop (k + i) xs
drop_twice i zero xs = ap (λ (n : ℕ). drop n xs) (omega arith)
drop_twice i (suc k) [] = drop_nil i ∙ sym (drop_nil (suc k + i))
drop_twice i (suc k) (x ∷ xs) = let e : suc k + i ≡ suc (k + i) = omega arith in drop_twice i k xs ∙ ap (λ (n : ℕ). drop n (x ∷ xs)) (sym e)

full_same : (old now : Contents) (x : Frame) (ps : List ℕ) → now.f ≡ old.f
    → ((p : ℕ) → content p (blocks_of (counted now)) ≡ content p (blocks_of (counted old))) → IsFull now x ps → IsFull old x ps
full_same old now x [] f same is = tt
full_same old now x (p ∷ ps) f same is = λ leaf there. (let less = is leaf (same p ∙ there) in omega arith)

full_as : (old now : Contents) (xs : List Frame) (ps : List ℕ) → now.f ≡ old.f
    → ((p : ℕ) → content p (blocks_of (counted now)) ≡ content p (blocks_of (counted old))) → AreFull now xs ps → AreFull old xs ps
full_as old now [] ps f same are = tt
full_as old now (x ∷ xs) ps f same are =
    (full_same old now x (drop (length x.blocks) ps) f same are.0, full_as old now xs (drop (length x.blocks) ps) f same are.1)

full_more : (c : Contents) (xs ys : List Frame) (all : List ℕ) → AreFull c xs all → AreFull c ys (drop (length (blocks_of xs)) all) → AreFull c (xs ++ ys) all
full_more c [] ys all a b = b
full_more c (x ∷ xs) ys all a b =
    let e : drop (length (blocks_of (x ∷ xs))) all ≡ drop (length (blocks_of xs)) (drop (length x.blocks) all) =
    ap (λ (n : ℕ). drop n all) (length-append x.blocks (blocks_of xs)) ∙ sym (drop_twice (length (blocks_of xs)) (length x.blocks) all) in
    (a.0, full_more c xs ys (drop (length x.blocks) all) a.1 (subst (AreFull c ys) e b))

full_then : (c : Contents) (xs ys : List Frame) (ps rest : List ℕ) → map page_of (blocks_of xs) ≡ ps → AreFull c xs (ps ++ rest) → AreFull c ys rest
    → AreFull c (xs ++ ys) (ps ++ rest)
full_then c xs ys ps rest told a b = full_more c xs ys (ps ++ rest) a (subst (AreFull c ys) (sym (drop_told ps rest (blocks_of xs) told)) b)

following_next : (number last n : ℕ) (t : Bool) → last < number → (if t then Some (number + 1) else None) ≡ Some n → last < n
following_next number last n true less is = (let e : number + 1 ≡ n = cc in omega arith)
following_next number last n false less is = absurd cc

pub moved_one : (last : ℕ) (old new : Contents) (x : Frame) (pages rest : List ℕ) → IsNextBehind last old → IsFull old x rest
    → 1 ≤ length pages → IsSound old → 1 ≤ length old.pages
    → AreBases old x.blocks pages → old.next ≡ Some x.number → AfterAppend old x true (Ok tt) new
    → MovedBehind last old new pages rest 1
moved_one last old new x pages rest next full more a some holds number after =
    let behind = next x.number number in
    let added = after.added in
    let same = after.log in
    record {
      written = x ∷ [];
      appends = (new, after, refl);
      counts = added.frames;
      count = refl;
      few = more;
      full = (subst (IsFull old x) (sym (drop_told pages rest x.blocks holds.told)) full, tt);
      holds = subst (λ (bs : List Block). AreBases old bs pages) (sym (one_frame x)) holds;
      later = (behind, tt);
      next = λ n is. following_next x.number last n (nat_lt (x.number + 1) (2 ^ 64)) behind (sym added.next ∙ is);
      boxes_grew = appended_longer old x new added;
      older = appended_older old x new added;
      newest = keeps_newest old x new tt added after.answers;
      works = added.works;
      table = same_pages old new x a after.sound some holds.bases added.frames same.m;
      m = same.m;
      f = same.f;
      number = same.number;
      old_to = same.old_to;
    }

pub moved_none : (last : ℕ) (c : Contents) (rest : List ℕ) → IsNextBehind last c → c.is_failed ≡ false → MovedBehind last c c [] rest 0
moved_none last c rest next works = record {
  written = [];
  appends = refl;
  counts = sym (append-nil (counted c));
  count = refl;
  few = omega arith;
  full = tt;
  holds = record { bases = tt; lawful = tt; told = refl };
  later = tt;
  next = next;
  boxes_grew = longer_same (boxes c);
  older = older_same c.live;
  newest = record { closed = λ shut none. shut; begun = λ shut some. absurd (omega arith); all = λ shut i inside. refl };
  works = works;
  table = refl;
  m = refl;
  f = refl;
  number = refl;
  old_to = refl;
}

-- the newest segment stays over both
newest_then : (old now new : Contents) (n k : ℕ) → KeepsOlder old.live now.live → KeepsOlder now.live new.live → KeepsNewest old now n → KeepsNewest now new k
    → KeepsNewest old new (n + k)
newest_then old now new n k a b x y = elim (cases_lt 0 n) [
  | inl some ↦ record {
    closed = λ shut none. absurd (omega arith);
    begun = λ shut more. (let long = x.begun shut (omega arith) in let many = b.many in omega arith);
    all = λ shut i inside. (let long = x.begun shut (omega arith) in b.same i (omega arith) ∙ x.all shut i inside);
  }
  | inr none ↦ (
      let zero_frames : n ≡ 0 = omega arith in
      record {
        closed = λ shut all_none. y.closed (x.closed shut zero_frames) (omega arith);
        begun = λ shut more. (let long = y.begun (x.closed shut zero_frames) (omega arith) in let many = a.many in omega arith);
        all = λ shut i inside. (let many = a.many in y.all (x.closed shut zero_frames) i (omega arith) ∙ x.all shut i inside);
      }
      )
]

-- ---- the oldest segment stays

pub record Heads (old now : List Holding) : Type 0 where
  pub first : Holding
  pub olds : List Holding
  pub nows : List Holding
  pub was : old ≡ first ∷ olds
  pub is : now ≡ first ∷ nows
  pub more : 1 ≤ length nows

pub heads : (old now : List Holding) → KeepsOlder old now → 2 ≤ length old → Heads old now
heads [] now keeps two = absurd (omega arith)
heads (h ∷ hs) [] keeps two = let many = keeps.many in absurd (omega arith)
heads (h ∷ hs) (k ∷ ks) keeps two =
    let many = keeps.many in
    let at : Some k ≡ Some h = keeps.same 0 (omega arith) in
    let e : k ≡ h = cc in
    record { first = h; olds = hs; nows = ks; was = refl; is = ap (λ (x : Holding). x ∷ ks) e; more = omega arith }

-- ---- frames after frames

-- frames appended after others were appended
appended_then : (old now new : Contents) (xs ys : List Frame) → AreAppended old xs now → AreAppended now ys new → AreAppended old (xs ++ ys) new
appended_then old now new [] ys a b = subst (λ (c : Contents). AreAppended c ys new) a b
appended_then old now new (x ∷ xs) ys a b = (a.0, a.1, appended_then a.0 now new xs ys a.2 b)

pub moved_then : (last : ℕ) (old now new : Contents) (ps qs rs : List ℕ) (n k : ℕ) → MovedBehind last old now ps (qs ++ rs) n
    → MovedBehind last now new qs rs k → MovedBehind last old new (ps ++ qs) rs (n + k)
moved_then last old now new ps qs rs n k x y =
    let xs = x.written in
    let ys = y.written in
    let then_same : (p : ℕ) → content p (blocks_of (counted now)) ≡ content p (blocks_of (counted old)) =
    λ p. ap (λ (fs : List Frame). content p (blocks_of fs)) x.counts ∙ frames_leave p (counted old) xs x.holds.bases in
    let xn = x.count in let yn = y.count in
    let xf = x.few in let yf = y.few in
    record {
      written = xs ++ ys;
      appends = appended_then old now new xs ys x.appends y.appends;
      counts = y.counts ∙ ap (λ (fs : List Frame). fs ++ ys) x.counts ∙ append_assoc (counted old) xs ys;
      count = omega (arith, length-append xs ys);
      few = omega (arith, length-append ps qs);
      full = subst (AreFull old (xs ++ ys)) (sym (append_assoc ps qs rs))
          (full_then old xs ys ps (qs ++ rs) x.holds.told x.full (full_as old now ys (qs ++ rs) x.f then_same y.full));
      holds = subst (λ (bs : List Block). AreBases old bs (ps ++ qs)) (sym (blocks_more xs ys)) (record {
        bases = all_append (IsRewritten (blocks_of (counted old))) (blocks_of xs) (blocks_of ys) x.holds.bases
            (all_rewritten (blocks_of (counted old)) (blocks_of (counted now)) then_same (blocks_of ys) y.holds.bases);
        lawful = all_append (IsBlock old.m) (blocks_of xs) (blocks_of ys) x.holds.lawful
            (subst (λ (m : ℕ). AllByRecursion (IsBlock m) (blocks_of ys)) x.m y.holds.lawful);
        told = map-append page_of (blocks_of xs) (blocks_of ys) ∙ ap (λ (l : List ℕ). l ++ map page_of (blocks_of ys)) x.holds.told
            ∙ ap (λ (l : List ℕ). ps ++ l) y.holds.told;
      });
      later = all_append (λ (f : Frame). last < f.number) xs ys x.later y.later;
      next = y.next;
      boxes_grew = longer_all (boxes old) (boxes now) (boxes new) x.boxes_grew y.boxes_grew;
      older = older_all old.live now.live new.live x.older y.older;
      newest = newest_then old now new n k x.older y.older x.newest y.newest;
      works = y.works;
      table = y.table ∙ x.table;
      m = y.m ∙ x.m;
      f = y.f ∙ x.f;
      number = y.number ∙ x.number;
      old_to = y.old_to ∙ x.old_to;
    }

-- ---- parts of a list

take_nil : (n : ℕ) → take {A = ℕ} n [] ≡ []
take_nil zero = refl
take_nil (suc n) = refl

pub take_more : (xs : List ℕ) (i n : ℕ) → take i xs ++ take n (drop i xs) ≡ take (i + n) xs
take_more xs zero n = ap (λ (k : ℕ). take k xs) (omega arith)
take_more [] (suc i) n = take_nil n ∙ sym (take_nil (suc i + n))
take_more (x ∷ xs) (suc i) n = let e : suc i + n ≡ suc (i + n) =
    omega arith in subst (λ (k : ℕ). x ∷ (take i xs ++ take n (drop i xs)) ≡ take k (x ∷ xs)) (sym e) (ap (λ (l : List ℕ). x ∷ l) (take_more xs i n))

pub take_drop_all : (xs : List ℕ) (i : ℕ) → xs ≡ take i xs ++ drop i xs
take_drop_all xs zero = refl
take_drop_all [] (suc i) = refl
take_drop_all (x ∷ xs) (suc i) = ap (λ (l : List ℕ). x ∷ l) (take_drop_all xs i)

-- ---- the end

pub no_base_before : (old now : Contents) (n : ℕ) → IsSound old → IsSound now → 2 ≤ length old.live → old.is_failed ≡ false → Moved old now (old_pages old) [] n
    → NoBaseBefore now
no_base_before old now n a b two works x =
    let hd = heads old.live now.live x.older two in
    let last : oldest_last old old.live ≡ last_number now hd.first =
    ap (oldest_last old) hd.was ∙ sym (same_last old now hd.first hd.olds hd.nows a b hd.was hd.is works x.works) in
    subst (IsBaseAfter now) (sym hd.is)
    (λ page is.
    subst (λ (w : ℕ). IsAfter w (base_of page (counted now))) last
    (subst (λ (fs : List Frame). IsAfter (oldest_last old old.live) (base_of page fs)) (sym x.counts)
    (base_moved (oldest_last old old.live) (counted old) x.written page (length old.pages) x.holds.bases x.holds.told x.later is.0
    (let high = is.1 in let len = x.table in omega arith))))

pub two_left : (old now : Contents) (ps rs : List ℕ) (n : ℕ) → 2 ≤ length old.live → Moved old now ps rs n → 2 ≤ length now.live
two_left old now ps rs n two x = let many = x.older.many in omega arith

pub same_some : {A : Type 0} (a b : A) → Some a ≡ Some b → a ≡ b
same_some a b e = cc

first_lease : (number : ℕ) (live : List Holding) (told : Option (ℕ × ℕ × ℕ)) (segment lease len : ℕ) → 1 ≤ length live
    → MatchOption (slice_get live 0) (told ≡ None) (λ h. told ≡ Some (number + 0, h.lease, length h.bytes))
    → told ≡ Some (segment, lease, len) → (segment ≡ number) × (map (λ (h : Holding). h.lease) (take 1 live) ≡ lease ∷ [])
first_lease number [] told segment lease len some answer is = absurd (omega arith)
first_lease number (h ∷ hs) told segment lease len some answer is =
    let e = same_some (number + 0, h.lease, length h.bytes) (segment, lease, len) (sym answer ∙ is) in
    let a : number + 0 ≡ segment = ap (λ (t : ℕ × ℕ × ℕ). t.0) e in
    let b : h.lease ≡ lease = ap (λ (t : ℕ × ℕ × ℕ). t.1) e in
    (omega arith, ap (λ (l : ℕ). l ∷ []) b)

pub all_cleaned : (old now new : Contents) (cleaned : Cleaned) (told : Option (ℕ × ℕ × ℕ)) (len : ℕ) → IsSound old → IsSound now
    → 2 ≤ length old.live → old.is_failed ≡ false
    → Moved old now (old_pages old) [] cleaned.frames
    → new ≡ record now { live = drop 1 now.live; number = now.number + 1; frames = new.frames } → counted new ≡ drop (oldest_count now.live) (counted now)
    → MatchOption (slice_get old.live 0) (told ≡ None) (λ h. told ≡ Some (old.number + 0, h.lease, length h.bytes))
    → told ≡ Some (cleaned.segment, cleaned.lease, len) → cleaned.pages ≡ length (old_pages old)
    → IsCleaned old cleaned new
all_cleaned old now new cleaned told len sound sound_then two works x given counts answer is pages =
    let hd = heads old.live now.live x.older two in
    let first = first_lease old.number old.live told cleaned.segment cleaned.lease len (omega arith) answer is in
    let left : roster new ≡ map (λ (h : Holding). h.lease) (drop 1 now.live ++ now.spares) = ap roster given in
    record {
      two = two;
      worked = works;
      then_log = now;
      moved = x;
      sound = sound_then;
      given_up = given;
      counts = counts ∙ ap (λ (l : List Holding). drop (oldest_count l) (counted now)) hd.is
          ∙ ap (λ (l : List Holding). drop (oldest_count l) (counted now)) (sym hd.was);
      segment = first.0;
      lease = first.1;
      pages = pages;
      leases = left
          ∙ ap (λ (l : List Holding). map (λ (h : Holding). h.lease) (drop 1 l ++ now.spares)) hd.is
          ∙ ap (λ (l : List Holding). drop 1 (map (λ (h : Holding). h.lease) (l ++ now.spares))) (sym hd.is)
          ∙ ap (drop 1) (same_roster old now x.boxes_grew);
    }

-- ---- the next number, after so many frames

some_first : (n : ℕ) (fs : List Frame) → AreFrom n fs → 1 ≤ length fs → (k : ℕ) → next_of fs ≡ Some k → k ≡ n + length fs
some_first n [] from some k next = absurd (omega arith)
some_first n (f ∷ fs) from some k next = next_is n f fs k from next

same_first : (xs ys : List Frame) → 1 ≤ length xs → first_number (xs ++ ys) ≡ first_number xs
same_first [] ys some = absurd (omega arith)
same_first (x ∷ xs) ys some = refl

pub numbers_more : (old now : Contents) (written : List Frame) (a b : ℕ) → IsSound old → IsSound now → 1 ≤ length (counted old)
    → counted now ≡ counted old ++ written → old.next ≡ Some a → now.next ≡ Some b → b ≡ a + length written
numbers_more old now written a b x y some counts was is =
    let n = first_number (counted old) in
    let same : first_number (counted now) ≡ n = ap first_number counts ∙ same_first (counted old) written some in
    let many = ap (λ (fs : List Frame). length fs) counts in
    let from : AreFrom n (counted now) = subst (λ (k : ℕ). AreFrom k (counted now)) same y.holds.numbered in
    let one = some_first n (counted old) x.holds.numbered some a (sym x.holds.follows ∙ was) in
    let two = some_first n (counted now) from (omega (arith, length-append (counted old) written)) b (sym y.holds.follows ∙ is) in
    omega (arith, length-append (counted old) written)

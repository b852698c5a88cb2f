-- A store after the cleaner's frames, and after its oldest segment was given up.

use Rattle.std.proofs.Common.{inl, inr, ◌≡◌, ◌⊎◌, ℕ, zero, suc, ◌+◌, ◌-◌, ◌^◌, ◌<◌}
use Rattle.std.proofs.Common.{◌≤◌, Bool, true, false, if◌then◌else◌, Some, None, List, [], ◌∷◌, ◌++◌}
use Rattle.std.proofs.Common.{length, take, drop, refl, sym, ap, ◌∙◌, subst, arith, length-append, append-nil, replicate, get_or, take_all}
use Rattle.std.proofs.Common.{drop_of_length-le}
use Rattle.std.specs.Prelude.{nat_le}
use Rattle.std.specs.List.{AllByRecursion as All, filter}
use Rattle.std.proofs.lemmas.Bool.{leb-true, leb-false, le-leb, lt-leb}
use Rattle.std.proofs.lemmas.List.{get_or_append_left}
use Rattle.std.proofs.lemmas.List.Elements.{filter-append}
use Rattle.bw_record.specs.declared.record.Record.{Record}
use Rattle.bw_record.specs.declared.leaf.Leaf.{Leaf}
use Rattle.bw_record.specs.declared.block.Place.{Place}
use Rattle.bw_record.specs.declared.block.Block.{Block}
use Rattle.bw_record.specs.declared.block.Block.TheVariants.{Delta, Base, Split}
use Rattle.bw_record.specs.declared.block.Frame.{Frame}
use Rattle.bw_page.specs.Leaves.{pages}
use Rattle.bw_leaf.specs.Forwards.{blocks_of}
use Rattle.bw_page.specs.Standing.{Stand}
use Rattle.bw_leaf.proofs.Sorted.{all-map, all-zip}
use Rattle.bw_buffer.specs.Filling.{Filling, frame_of}
use Rattle.bw_log.specs.Contents as logs
use Rattle.bw_log.specs.Places.{first_number}
use Rattle.bw_log.specs.Segments.{following, frames_of, next_of, AreFrom}
use Rattle.bw_log.proofs.Adding.{following_is, filter_all}
use Rattle.bw_log.proofs.Entries.{all_append}
use Rattle.bw_log.proofs.GivenUp.{filter_none}
use Rattle.bw_care.specs.Cleaning.{IsRewritten}
use Rattle.bw_care.proofs.BasesLeave.{stand_more}
use Rattle.bw_history.specs.declared.entry.Entry.{Entry}
use Rattle.bw_history.specs.Entries.{records}
use Rattle.bw_history.specs.History.{cut, upto, share}
use Rattle.bw_making.specs.Share.{IsBaseBlock}
use Rattle.bw_core.specs.Growing.{Grown, frames_upto}
use Rattle.bw_core.specs.Kept.{Kept, leaves_at, TellsAs, TellsBy, waiting, IsSound}
use Rattle.bw_history.specs.History.{AreCuts}
use Rattle.bw_core.specs.Settled.{IsSettled}
use Rattle.bw_core.specs.Edges.{IsBegun}
use Rattle.bw_core.specs.Cleaning.{with_moved}
use Rattle.bw_core.proofs.CutMore.{same_leaves, old_shares, mapped_more}
use Rattle.bw_core.proofs.EmptyBehind.{AreNoted, grown_empty}
use Rattle.bw_core.proofs.FramesBehind.{from_behind, from_within, next_after, first_ahead, same_end}
use Rattle.bw_core.proofs.SettledMore.{not_first}
use Rattle.bw_core.proofs.Telling.{tells_none}

-- ---- cuts at one place

get_replicate : (n x i : ℕ) → i < n → get_or (replicate n x) i 0 ≡ x
get_replicate zero x i lt = absurd (omega arith)
get_replicate (suc n) x zero lt = refl
get_replicate (suc n) x (suc i) lt = get_replicate n x i (omega arith)

pub get_behind : (cs : List ℕ) (n x i : ℕ) → length cs ≤ i → i < length cs + n → get_or (cs ++ replicate n x) i 0 ≡ x
get_behind [] n x i low high = get_replicate n x i (omega arith)
get_behind (c ∷ cs) n x zero low high = absurd (omega arith)
get_behind (c ∷ cs) n x (suc i) low high = get_behind cs n x i (omega arith) (omega arith)

cuts_many : (from : ℕ) (cs : List ℕ) (n x : ℕ) → AreCuts from cs x → AreCuts from (cs ++ replicate n x) x
cuts_many from [] zero x h = h
cuts_many from [] (suc n) x h = (h, cuts_many x [] n x (omega arith))
cuts_many from (c ∷ cs) n x h = (h.0, cuts_many c cs n x h.1)

length-many : (n x : ℕ) → length (replicate n x) ≡ n
length-many zero x = refl
length-many (suc n) x = ap suc (length-many n x)

-- ---- Bases

is_base : (was : List Block) (b : Block) → IsRewritten was b → IsBaseBlock b
is_base was (Delta page back ops) h = h
is_base was (Base leaf) h = tt
is_base was (Split page back upper) h = h

all_parts : {X : Type 0} (P : X → Type 0) (xs ys : List X) → All P (xs ++ ys) → All P xs × All P ys
all_parts P [] ys h = (tt, h)
all_parts P (x ∷ xs) ys h = (let rest = all_parts P xs ys h.1 in ((h.0, rest.0), rest.1))

all_bases : (was : List Block) (fs : List Frame) → All (IsRewritten was) (blocks_of fs) → All (λ f. All IsBaseBlock f.blocks) fs
all_bases was [] h = tt
all_bases was (f ∷ fs) h =
    (let parts = all_parts (IsRewritten was) f.blocks (blocks_of fs) h in
    (all-map (IsRewritten was) IsBaseBlock (is_base was) f.blocks parts.0, all_bases was fs parts.1))

some_bases_by : (was : List Block) (f : Frame) (fs : List Frame) (passes : Bool) → All (IsRewritten was) f.blocks → All (IsRewritten was) (blocks_of fs)
    → All (IsRewritten was) (blocks_of (if passes then f ∷ fs else fs))
some_bases_by was f fs true here rest = all_append (IsRewritten was) f.blocks (blocks_of fs) here rest
some_bases_by was f fs false here rest = rest

some_bases : (was : List Block) (test : Frame → Bool) (fs : List Frame) → All (IsRewritten was) (blocks_of fs)
    → All (IsRewritten was) (blocks_of (filter test fs))
some_bases was test [] h = tt
some_bases was test (f ∷ fs) h =
    (let parts = all_parts (IsRewritten was) f.blocks (blocks_of fs) h in
    some_bases_by was f (filter test fs) (test f) parts.0 (some_bases was test fs parts.1))

-- ---- from one place to the next

all_dropped : {X : Type 0} (P : X → Type 0) (k : ℕ) (xs : List X) → All P xs → All P (drop k xs)
all_dropped P zero xs h = h
all_dropped P (suc k) [] h = tt
all_dropped P (suc k) (x ∷ xs) h = all_dropped P k xs h.1

-- ---- what the cleaner added

pub record Adds (s : Kept) (written : List Frame) : Type 0 where
  pub sound : IsSound s
  pub empty : s.making.blocks ≡ []
  pub done : IsSettled s
  pub bases : All (IsRewritten (blocks_of (logs.counted s.log))) (blocks_of written)
  pub numbered : AreFrom (first_number (logs.counted s.log ++ written)) (logs.counted s.log ++ written)
  -- there is a number for each of them
  pub top : first_number (logs.counted s.log) + length (logs.counted s.log ++ written) ≤ 2 ^ 64

-- a cut within the history for each frame
abbrev pub Tells : Kept → List ℕ → Frame → Type 0
Tells s more f =
    s.before < f.number → TellsAs s f.number (pages s.filed.m s.start (records (upto more s.entries (f.number - s.before - 1))))
    (records (share more s.entries (f.number - s.before))) f.blocks

module _ (s : Kept) (written : List Frame) (a : Adds s written) where
  abbrev old : List Frame
  old = logs.counted s.log

  abbrev n : ℕ
  n = length written

  -- the first number after those that the log counts
  abbrev first : ℕ
  first = s.before + s.durable + 1

  abbrev more : List ℕ
  more = s.cuts ++ replicate n (length s.entries)

  some : 1 ≤ length old
  some = a.done.stands.some

  from : AreFrom (first_number old) (old ++ written)
  from = subst (λ k. AreFrom k (old ++ written)) (first_ahead old written some) a.numbered

  at : first ≡ first_number old + length old
  at =
      let h = a.sound in
      let some_now = some in
      let len = length-append old written in
      let top = a.top in
      let low = h.last in
      let last : s.before + s.durable ≡ first_number old + length old - 1 =
      same_end (s.before + s.durable) (first_number old + length old - 1) (omega arith) (omega arith)
      (sym (sym h.log.holds.follows ∙ h.next)
      ∙ next_after (first_number old) old h.log.holds.numbered some (first_number old + length old - 1) (omega arith)) in
      omega arith

  pub high : first + n ≤ 2 ^ 64
  high = (let len = length-append old written in let top = a.top in let is = at in omega arith)

  numbers_old : All (λ f. f.number < s.before + s.durable + 1) old
  numbers_old =
      all-map (λ f. (0 ≤ f.number) × (f.number < first)) (λ f. f.number < s.before + s.durable + 1) (λ f in_range. in_range.1) old
      (from_within 0 first (first_number old) old a.sound.log.holds.numbered (omega arith) (let is = at in omega arith))

  numbers_new : All (λ f. (first ≤ f.number) × (f.number < first + n)) written
  numbers_new =
      from_within first (first + n) first written
      (subst (λ k. AreFrom k written) (sym at) (from_behind (first_number old) old written from)) (omega arith) (omega arith)

  -- the number after them
  pub next_then : next_of (old ++ written) ≡ following (s.before + (s.durable + n))
  next_then =
      let len = length-append old written in
      let two = at in
      next_after (first_number old) (old ++ written) from (let m = some in omega arith) (s.before + (s.durable + n)) (omega arith)

  -- ---- cuts

  same_cut : (k : ℕ) → k ≤ s.durable → cut more k ≡ cut s.cuts k
  same_cut zero le = refl
  same_cut (suc k) le = (let e = a.done.cut.0 in get_or_append_left s.cuts (replicate n (length s.entries)) 0 k (omega arith))

  full_cut : (k : ℕ) → s.durable ≤ k → k ≤ s.durable + n → cut more k ≡ length s.entries
  full_cut zero low high = (let none : 0 ≡ s.durable = omega arith in ap (cut s.cuts) none ∙ a.done.cut.1)
  full_cut (suc k) low high =
      elim (nat_le (suc k) s.durable) as (λ b. nat_le (suc k) s.durable ≡ b → cut more (suc k) ≡ length s.entries) [
        | true ↦ λ e. (let le = leb-true _ _ e in let is : suc k ≡ s.durable = omega arith in
            same_cut (suc k) le ∙ ap (cut s.cuts) is ∙ a.done.cut.1)
        | false ↦ λ e. (let gt = leb-false _ _ e in let len = a.done.cut.0 in get_behind s.cuts n (length s.entries) k (omega arith) (omega arith))
      ] refl

  many_more : length more ≡ s.durable + n
  many_more =
      let len = length-append s.cuts (replicate n (length s.entries)) in
      let many = length-many n (length s.entries) in
      let all = a.done.cut.0 in
      omega arith

  whole : (k : ℕ) → s.durable ≤ k → k ≤ s.durable + n → take (cut more k) s.entries ≡ s.entries
  whole k low high = ap (λ c. take c s.entries) (full_cut k low high) ∙ take_all (length s.entries) s.entries (omega arith)

  leaves_then : (k : ℕ) → s.durable ≤ k → k ≤ s.durable + n → pages s.filed.m s.start (records (upto more s.entries k)) ≡ s.filed.leaves
  leaves_then k low high = ap (λ (es : List Entry). pages s.filed.m s.start (records es)) (whole k low high) ∙ sym a.sound.leaves

  none_then : (k : ℕ) → s.durable ≤ k → k ≤ s.durable + n → drop (cut more k) s.entries ≡ []
  none_then k low high = ap (λ c. drop c s.entries) (full_cut k low high) ∙ drop_of_length-le s.entries (omega arith)

  share_then : (k : ℕ) → s.durable < k → k ≤ s.durable + n → records (share more s.entries k) ≡ []
  share_then k low high =
      ap (λ (es : List Entry). records (drop (cut more (k - 1)) es)) (whole k (omega arith) high)
      ∙ ap records (none_then (k - 1) (omega arith) (omega arith))

  -- ---- what the frames stand for

  stands_now : Stand s.filed.m old s.filed.leaves
  stands_now =
      subst (λ (ls : List Leaf). Stand s.filed.m old ls) (sym a.sound.leaves)
      (subst (λ (m : ℕ). Stand m old (pages m s.start (records s.entries))) (sym a.sound.pairs) a.done.stands)

  pub stands_then : Stand s.filed.m (old ++ written) s.filed.leaves
  stands_then = stand_more s.filed.m old written s.filed.leaves stands_now a.bases

  apart : (number : ℕ) → frames_upto number (old ++ written) ≡ frames_upto number old ++ frames_upto number written
  apart number = filter-append (λ (f : Frame). nat_le f.number number) old written

  older : (number : ℕ) → number < first → frames_upto number (old ++ written) ≡ frames_upto number old
  older number below =
      apart number
      ∙ ap (λ (fs : List Frame). frames_upto number old ++ fs)
      (filter_none (λ (f : Frame). nat_le f.number number) written
      (all-map (λ f. (first ≤ f.number) × (f.number < first + n)) (λ f. nat_le f.number number ≡ false)
      (λ f in_range. lt-leb f.number number (let low = in_range.0 in omega arith)) written numbers_new))
      ∙ append-nil (frames_upto number old)

  newer : (number : ℕ) → first ≤ number + 1 → frames_upto number (old ++ written) ≡ old ++ frames_upto number written
  newer number above =
      apart number
      ∙ ap (λ (fs : List Frame). fs ++ frames_upto number written)
      (filter_all (λ (f : Frame). nat_le f.number number) old
      (all-map (λ f. f.number < s.before + s.durable + 1) (λ f. nat_le f.number number ≡ true)
      (λ f below. le-leb f.number number (omega arith)) old numbers_old))

  -- the counted frames with these, up to each cut
  pub stands_upto : (k : ℕ) → s.floor ≤ k → k ≤ s.durable + n → 1 ≤ s.before + k
      → Stand s.filed.m (frames_upto (s.before + k) (old ++ written)) (pages s.filed.m s.start (records (upto more s.entries k)))
  stands_upto k low high some_number =
      elim (nat_le k s.durable) as (λ b. nat_le k s.durable ≡ b → Stand s.filed.m (frames_upto (s.before + k) (old ++ written))
      (pages s.filed.m s.start (records (upto more s.entries k)))) [
        | true ↦ λ e. (
            let le = leb-true _ _ e in
            subst (λ (fs : List Frame). Stand s.filed.m fs (pages s.filed.m s.start (records (upto more s.entries k))))
            (sym (older (s.before + k) (omega arith)))
            (subst (λ (ls : List Leaf). Stand s.filed.m (frames_upto (s.before + k) old) ls) (sym (same_leaves s more same_cut k le))
            (a.sound.stands k low le some_number)))
        | false ↦ λ e. (
            let gt = leb-false _ _ e in
            subst (λ (fs : List Frame). Stand s.filed.m fs (pages s.filed.m s.start (records (upto more s.entries k))))
            (sym (newer (s.before + k) (omega arith)))
            (subst (λ (ls : List Leaf). Stand s.filed.m (old ++ frames_upto (s.before + k) written) ls) (sym (leaves_then k (omega arith) high))
            (stand_more s.filed.m old (frames_upto (s.before + k) written) s.filed.leaves stands_now
            (some_bases (blocks_of old) (λ f. nat_le f.number (s.before + k)) written a.bases))))
      ] refl

  -- ---- each frame says its share

  pub shares_then : All (Tells s more) (old ++ written)
  shares_then =
      all_append (Tells s more) old written (old_shares s more same_cut old numbers_old a.sound.shares)
      (all-zip (λ f. (first ≤ f.number) × (f.number < first + n)) (λ f. All IsBaseBlock f.blocks) (Tells s more)
      (λ f in_range bases above. (
      let low = in_range.0 in
      let high = in_range.1 in
      inr (λ zeroth one. not_first s a.sound a.empty zeroth (omega arith), share_then (f.number - s.before) (omega arith) (omega arith), bases)))
      written numbers_new (all_bases (blocks_of old) written a.bases))

  -- ---- the store with these cuts

  pub record Moves (floor : ℕ) (newest : List Place) (making : Filling) (new : logs.Contents) : Type 0 where
    pub sound : logs.IsSound new
    pub m : new.m ≡ s.log.m
    pub f : new.f ≡ s.log.f
    pub next : new.next ≡ following (s.before + (s.durable + n))
    pub stands : Stand s.filed.m (logs.counted new) s.filed.leaves
    pub upto_cuts : (k : ℕ) → floor ≤ k → k ≤ s.durable + n → 1 ≤ s.before + k
        → Stand s.filed.m (frames_upto (s.before + k) (logs.counted new)) (pages s.filed.m s.start (records (upto more s.entries k)))
    pub shares : All (Tells s more) (logs.counted new)
    pub within : floor ≤ s.durable + n
    pub count : length newest ≡ length s.filed.leaves
    pub each : AreNoted new s.filed.leaves newest
    pub limit : making.limit ≡ s.making.limit
    pub empty : making.blocks ≡ []
    pub sealed : making.is_sealed ≡ new.is_failed
    pub numbered : (new.next ≡ Some making.frame) ⊎ (new.next ≡ None)
    pub begun : IsBegun s.edge new
    pub left : new.is_failed ≡ true → Stand s.filed.m (frames_of (logs.image new).bytes) s.filed.leaves

  pub moved_sound : (floor : ℕ) (newest : List Place) (making : Filling) (new : logs.Contents) → Moves floor newest making new
      → IsSound (with_moved s n floor newest making new)
  moved_sound floor newest making new x =
      let h = a.sound in
      let t = with_moved s n floor newest making new in
      record {
        log = x.sound;
        pairs = h.pairs ∙ sym x.m;
        limit = x.limit ∙ h.limit ∙ sym x.f;
        leaves = h.leaves;
        mapped = h.mapped;
        mapped_at = mapped_more s more same_cut h (let all = a.done.cut.0 in omega arith)
            (λ k low high. whole k (omega arith) (let long = many_more in omega arith));
        first = h.first;
        ops = h.ops;
        writers = h.writers;
        grown =
            subst (λ (m : ℕ). Grown m (logs.counted new) (frame_of making) s.filed.leaves newest) (sym (h.pairs ∙ sym x.m))
            (grown_empty new s.filed.leaves x.sound (subst (λ (m : ℕ). Stand m (logs.counted new) s.filed.leaves) (h.pairs ∙ sym x.m) x.stands)
            newest making x.count x.each x.empty);
        next = x.next;
        last = (let top = high in omega arith);
        number = elim (x.numbered) [
          | inl e ↦ inl (following_is (s.before + (s.durable + n)) making.frame (sym x.next ∙ e))
          | inr e ↦ inr (e, x.empty)
        ];
        sealed = x.sealed;
        ordered = cuts_many 0 s.cuts n (length s.entries) h.ordered;
        beyond = inl many_more;
        last_cut = λ failed. ap (cut more) many_more ∙ full_cut (s.durable + n) (omega arith) (omega arith);
        floor = x.within;
        stands = x.upto_cuts;
        shares = x.shares;
        tells =
            subst (λ (bs : List Block). TellsBy t (s.before + (s.durable + n) + 1) (leaves_at t (s.durable + n)) (waiting t) bs) (sym x.empty)
            (subst (λ (rs : List Record). TellsBy t (s.before + (s.durable + n) + 1) (leaves_at t (s.durable + n)) rs [])
            (sym (ap records (none_then (s.durable + n) (omega arith) (omega arith))))
            (inr (λ zeroth one. not_first s h a.empty zeroth (omega arith), tells_none s.filed.m (leaves_at t (s.durable + n)))));
        edged = h.edged;
        begun = x.begun;
        left = λ failed. inr (inl (subst (Stand s.filed.m (frames_of (logs.image new).bytes))
            (sym (leaves_then (s.durable + n) (omega arith) (omega arith))) (x.left failed)));
      }

  -- all that the log says of them, whether its oldest segment was given up or not
  pub kept_shares : (gone : ℕ) (new : logs.Contents) → logs.counted new ≡ drop gone (old ++ written) → All (Tells s more) (logs.counted new)
  kept_shares gone new is = subst (All (Tells s more)) (sym is) (all_dropped (Tells s more) gone (old ++ written) shares_then)

  kept_numbers : (gone : ℕ) (new : logs.Contents) → logs.counted new ≡ drop gone (old ++ written)
      → All (λ f. nat_le f.number (s.before + (s.durable + n)) ≡ true) (logs.counted new)
  kept_numbers gone new is =
      subst (All (λ (f : Frame). nat_le f.number (s.before + (s.durable + n)) ≡ true)) (sym is)
      (all_dropped (λ (f : Frame). nat_le f.number (s.before + (s.durable + n)) ≡ true) gone (old ++ written)
      (all_append (λ (f : Frame). nat_le f.number (s.before + (s.durable + n)) ≡ true) old written
      (all-map (λ f. f.number < s.before + s.durable + 1) (λ f. nat_le f.number (s.before + (s.durable + n)) ≡ true)
      (λ f below. le-leb f.number (s.before + (s.durable + n)) (omega arith)) old numbers_old)
      (all-map (λ f. (first ≤ f.number) × (f.number < first + n)) (λ f. nat_le f.number (s.before + (s.durable + n)) ≡ true)
      (λ f in_range. le-leb f.number (s.before + (s.durable + n)) (let high = in_range.1 in omega arith)) written numbers_new)))

  -- where a segment was given up, the last cut is the only one that is left
  pub last_cut : (gone : ℕ) (new : logs.Contents) → logs.counted new ≡ drop gone (old ++ written) → Stand s.filed.m (logs.counted new) s.filed.leaves
      → (k : ℕ) → s.durable + n ≤ k → k ≤ s.durable + n → 1 ≤ s.before + k
      → Stand s.filed.m (frames_upto (s.before + k) (logs.counted new)) (pages s.filed.m s.start (records (upto more s.entries k)))
  last_cut gone new is stands k low high some_number =
      let last : s.durable + n ≡ k = omega arith in
      subst (λ j. Stand s.filed.m (frames_upto (s.before + j) (logs.counted new)) (pages s.filed.m s.start (records (upto more s.entries j)))) last
      (subst (λ (fs : List Frame). Stand s.filed.m fs (pages s.filed.m s.start (records (upto more s.entries (s.durable + n)))))
      (sym (filter_all (λ (f : Frame). nat_le f.number (s.before + (s.durable + n))) (logs.counted new) (kept_numbers gone new is)))
      (subst (λ (ls : List Leaf). Stand s.filed.m (logs.counted new) ls) (sym (leaves_then (s.durable + n) (omega arith) (omega arith))) stands))

  pub all_cuts : (new : logs.Contents) → logs.counted new ≡ old ++ written → (k : ℕ) → s.floor ≤ k → k ≤ s.durable + n → 1 ≤ s.before + k
      → Stand s.filed.m (frames_upto (s.before + k) (logs.counted new)) (pages s.filed.m s.start (records (upto more s.entries k)))
  all_cuts new is k low high some_number =
      subst (λ (fs : List Frame). Stand s.filed.m (frames_upto (s.before + k) fs) (pages s.filed.m s.start (records (upto more s.entries k)))) (sym is)
      (stands_upto k low high some_number)

-- A store after its frame was appended, and after the append failed.

use Rattle.std.proofs.Common.{◌≡◌, ℕ, zero, suc, ◌+◌, ◌-◌, ◌<◌, ◌≤◌, ◌⊎◌, inl, inr, Bool, true, false, Some, None, List, [], ◌∷◌, ◌++◌}
use Rattle.std.proofs.Common.{length, take, drop, refl, sym, ap, ◌∙◌, subst, append-nil, arith, length-append, take_all}
use Rattle.std.proofs.Common.{drop_of_length-le, if◌then◌else◌}
use Rattle.std.specs.List.{AllByRecursion as All}
use Rattle.std.proofs.lemmas.List.{get_or_append_left}
use Rattle.std.proofs.Math.Seq.{get_or-append_seam}
use Rattle.std.proofs.lemmas.Grind.{fold-append, flat_map-append}
use Rattle.bw_record.specs.Touch.{touches}
use Rattle.bw_record.specs.declared.record.Record.{Record}
use Rattle.bw_record.specs.declared.leaf.Leaf.{Leaf}
use Rattle.bw_record.specs.declared.block.Place.{Place}
use Rattle.bw_record.specs.declared.block.Block.{Block}
use Rattle.bw_record.specs.declared.block.Frame.{Frame}
use Rattle.bw_page.specs.Leaves.{pages}
use Rattle.bw_leaf.specs.Forwards.{content, blocks_of}
use Rattle.bw_page.specs.Standing.{Stand}
use Rattle.bw_leaf.proofs.Sorted.{all-map, all-push}
use Rattle.bw_buffer.specs.Filling.{Filling, frame_of}
use Rattle.bw_log.specs.Contents as logs
use Rattle.bw_log.specs.Places.{all_placed, placed, bad_link, first_number, last_place}
use Rattle.bw_log.specs.Segments.{following, frames_of, next_of, AreFrom}
use Rattle.bw_log.specs.Appends.{Appended, IsSameLog, LeftBehind, Stopped}
use Rattle.bw_log.proofs.Adding.{before_next, following_is, filter_all, next_is}
use Rattle.std.proofs.lemmas.List.Elements.{filter-append}
use Rattle.std.proofs.lemmas.Bool.{leb-true, leb-false, le-leb, lt-leb}
use Rattle.std.specs.Prelude.{nat_le}
use Rattle.bw_history.specs.declared.entry.Entry.{Entry}
use Rattle.bw_history.specs.Entries.{records}
use Rattle.bw_history.specs.History.{cut, upto, share}
use Rattle.bw_core.specs.Growing.{Grown, frames_upto}
use Rattle.bw_core.specs.Kept.{Kept, leaves_at, TellsBy, TellsAs, TellsShare, waiting, AreLeft, IsSound, with_frame, with_stop}
use Rattle.bw_history.specs.History.{AreCuts}
use Rattle.bw_core.proofs.FramesBehind.{IsNumbered, following_fits, counted_lawful}
use Rattle.bw_core.proofs.Edging.{begun_on, appended_more, stopped_more}
use Rattle.bw_core.proofs.CutMore.{same_leaves, old_shares, mapped_more}
use Rattle.bw_core.proofs.Telling.{tells_none}

-- ---- an empty frame after others

abbrev pub empty_frame : ℕ → Frame
empty_frame n = record { number = n; blocks = [] }

blocks_same : (fs : List Frame) (n : ℕ) → blocks_of (fs ++ empty_frame n ∷ []) ≡ blocks_of fs
blocks_same fs n = flat_map-append (λ (x : Frame). x.blocks) fs (empty_frame n ∷ []) ∙ append-nil (blocks_of fs)

pub placed_same : (fs : List Frame) (n : ℕ) → all_placed (fs ++ empty_frame n ∷ []) ≡ all_placed fs
placed_same fs n = flat_map-append (λ (x : Frame). placed x.number 0 x.blocks) fs (empty_frame n ∷ []) ∙ append-nil (all_placed fs)

first_same : (fs : List Frame) (f : Frame) (n : ℕ) → first_number ((fs ++ f ∷ []) ++ empty_frame n ∷ []) ≡ first_number (fs ++ f ∷ [])
first_same [] f n = refl
first_same (x ∷ xs) f n = refl

pub stands_next : (m : ℕ) (fs : List Frame) (n : ℕ) (leaves : List Leaf) → Stand m fs leaves → Stand m (fs ++ empty_frame n ∷ []) leaves
stands_next m fs n leaves s = record {
  some = (let e = length-append fs (empty_frame n ∷ []) in omega arith);
  lawful = s.lawful;
  each = λ p from within. ap (content p) (blocks_same fs n) ∙ s.each p from within;
  all = λ p beyond. subst (λ (bs : List Block). All (λ b. touches p b ≡ false) bs) (sym (blocks_same fs n)) (s.all p beyond);
}

pub grown_next : (m : ℕ) (counted : List Frame) (f : Frame) (n : ℕ) (leaves : List Leaf) (newest : List Place) → Grown m counted f leaves newest
    → Grown m (counted ++ f ∷ []) (empty_frame n) leaves newest
grown_next m counted f n leaves newest g = record {
  stands = stands_next m (counted ++ f ∷ []) n leaves g.stands;
  linked =
      ap (λ k. bad_link k [] (all_placed ((counted ++ f ∷ []) ++ empty_frame n ∷ []))) (first_same counted f n)
      ∙ ap (bad_link (first_number (counted ++ f ∷ [])) []) (placed_same (counted ++ f ∷ []) n)
      ∙ g.linked;
  count = g.count;
  places = g.places;
  each = λ p from. g.each p from ∙ sym (ap (last_place (touches p)) (placed_same (counted ++ f ∷ []) n));
  lawful = tt;
}

-- ---- frames up to a number

upto_older : (n : ℕ) (fs : List Frame) (f : Frame) → n < f.number → frames_upto n (fs ++ f ∷ []) ≡ frames_upto n fs
upto_older n fs f above =
    filter-append (λ (x : Frame). nat_le x.number n) fs (f ∷ [])
    ∙ ap (λ (b : Bool). frames_upto n fs ++ (if b then f ∷ [] else [])) (lt-leb f.number n above)
    ∙ append-nil (frames_upto n fs)

upto_all : (n : ℕ) (fs : List Frame) (f : Frame) → All (λ x. x.number ≤ n) fs → f.number ≤ n → frames_upto n (fs ++ f ∷ []) ≡ fs ++ f ∷ []
upto_all n fs f all last =
    filter_all (λ (x : Frame). nat_le x.number n) (fs ++ f ∷ [])
    (all-push (λ (x : Frame). nat_le x.number n ≡ true) fs f (all-map (λ x. x.number ≤ n) (λ x. nat_le x.number n ≡ true) (λ x le. le-leb x.number n le) fs all)
    (le-leb f.number n last))

-- ---- one cut more

cuts_push : (from : ℕ) (cs : List ℕ) (n : ℕ) → AreCuts from cs n → AreCuts from (cs ++ n ∷ []) n
cuts_push from [] n h = (h, omega arith)
cuts_push from (c ∷ cs) n h = (h.0, cuts_push c cs n h.1)

pub cut_old : (cs : List ℕ) (n k : ℕ) → k ≤ length cs → cut (cs ++ n ∷ []) k ≡ cut cs k
cut_old cs n zero h = refl
cut_old cs n (suc k) h = get_or_append_left cs (n ∷ []) 0 k (omega arith)

pub cut_new : (cs : List ℕ) (n : ℕ) → cut (cs ++ n ∷ []) (length cs + 1) ≡ n
cut_new cs n = let e : length cs + 1 ≡ suc (length cs) = omega arith in ap (cut (cs ++ n ∷ [])) e ∙ get_or-append_seam cs n [] 0

-- ---- a store with a cut more

module _ (s : Kept) (h : IsSound s) (works : s.log.is_failed ≡ false) where
  pub all_appended : length s.cuts ≡ s.durable
  all_appended = elim (h.beyond) [ inl e ↦ e | inr e ↦ absurd (let x = e.1 in cc) ]

  abbrev more : List ℕ
  more = s.cuts ++ length s.entries ∷ []

  same_cut : (k : ℕ) → k ≤ s.durable → cut more k ≡ cut s.cuts k
  same_cut k le = cut_old s.cuts (length s.entries) k (let e = all_appended in omega arith)

  last_cut : cut more (s.durable + 1) ≡ length s.entries
  last_cut = ap (λ n. cut more (n + 1)) (sym all_appended) ∙ cut_new s.cuts (length s.entries)

  one_longer : length more ≡ s.durable + 1
  one_longer = length-append s.cuts (length s.entries ∷ []) ∙ ap (λ n. n + 1) all_appended

  whole_behind : (k : ℕ) → s.durable < k → k ≤ length more → take (cut more k) s.entries ≡ s.entries
  whole_behind k low high =
      let long = one_longer in
      let last : k ≡ s.durable + 1 = omega arith in
      ap (λ n. take (cut more n) s.entries) last ∙ ap (λ n. take n s.entries) last_cut ∙ take_all (length s.entries) s.entries (omega arith)

  whole_history : (k : ℕ) → k ≡ s.durable + 1 → pages s.filed.m s.start (records (upto more s.entries k)) ≡ pages s.filed.m s.start (records s.entries)
  whole_history k last =
      ap (λ n. pages s.filed.m s.start (records (take (cut more n) s.entries))) last
      ∙ ap (λ n. pages s.filed.m s.start (records (take n s.entries))) last_cut
      ∙ ap (λ (es : List Entry). pages s.filed.m s.start (records es)) (take_all (length s.entries) s.entries (omega arith))

  last_share : records (share more s.entries (s.durable + 1)) ≡ waiting s
  last_share =
      ap (λ c. records (drop (cut more (s.durable + 1 - 1)) (take c s.entries))) last_cut
      ∙ ap (λ (es : List Entry). records (drop (cut more (s.durable + 1 - 1)) es)) (take_all (length s.entries) s.entries (omega arith))
      ∙ (let e : s.durable + 1 - 1 ≡ s.durable = omega arith in ap (λ k. records (drop (cut more k) s.entries)) e)
      ∙ ap (λ c. records (drop c s.entries)) (same_cut s.durable (omega arith))

  numbers_below : s.log.next ≡ Some s.making.frame → s.making.frame ≡ s.before + s.durable + 1
      → All (λ f. f.number < s.before + s.durable + 1) (logs.counted s.log)
  numbers_below next number = before_next (logs.counted s.log) (s.before + s.durable + 1) h.log.holds.numbered
      (sym h.log.holds.follows ∙ next ∙ ap (λ (n : ℕ). Some n) number)

  old_told : s.log.next ≡ Some s.making.frame → s.making.frame ≡ s.before + s.durable + 1
      → All (λ f. s.before < f.number → TellsAs s f.number (pages s.filed.m s.start (records (upto more s.entries (f.number - s.before - 1))))
      (records (share more s.entries (f.number - s.before))) f.blocks) (logs.counted s.log)
  old_told next number = old_shares s more same_cut (logs.counted s.log) (numbers_below next number) h.shares

  -- the frame in the making says its share
  new_share : s.making.frame ≡ s.before + s.durable + 1
      → TellsBy s s.making.frame (pages s.filed.m s.start (records (upto more s.entries (s.making.frame - s.before - 1))))
      (records (share more s.entries (s.making.frame - s.before))) s.making.blocks
  new_share number =
      let k : s.making.frame - s.before ≡ s.durable + 1 = omega arith in
      let j : s.making.frame - s.before - 1 ≡ s.durable = omega arith in
      subst (λ (n : ℕ). TellsBy s n (pages s.filed.m s.start (records (upto more s.entries (s.making.frame - s.before - 1))))
      (records (share more s.entries (s.making.frame - s.before))) s.making.blocks) (sym number)
      (subst (λ (ls : List Leaf). TellsBy s (s.before + s.durable + 1) ls (records (share more s.entries (s.making.frame - s.before))) s.making.blocks)
      (sym (ap (λ n. pages s.filed.m s.start (records (upto more s.entries n))) j ∙ same_leaves s more same_cut s.durable (omega arith)))
      (subst (λ (rs : List Record). TellsBy s (s.before + s.durable + 1) (leaves_at s s.durable) rs s.making.blocks)
      (sym (ap (λ n. records (share more s.entries n)) k ∙ last_share)) h.tells))

  -- the counted frames with this one, up to each cut
  stands_all : s.log.next ≡ Some s.making.frame → s.making.frame ≡ s.before + s.durable + 1
      → (k : ℕ) → s.floor ≤ k → k ≤ s.durable + 1 → 1 ≤ s.before + k
      → Stand s.filed.m (frames_upto (s.before + k) (logs.counted s.log ++ frame_of s.making ∷ [])) (pages s.filed.m s.start (records (upto more s.entries k)))
  stands_all next number k low high from =
      elim (nat_le k s.durable) as (λ b. nat_le k s.durable ≡ b → Stand s.filed.m (frames_upto (s.before + k) (logs.counted s.log ++ frame_of s.making ∷ []))
      (pages s.filed.m s.start (records (upto more s.entries k)))) [
        | true ↦ λ is. (
            let old : k ≤ s.durable = leb-true _ _ is in
            subst (λ (fs : List Frame). Stand s.filed.m fs (pages s.filed.m s.start (records (upto more s.entries k))))
            (sym (upto_older (s.before + k) (logs.counted s.log) (frame_of s.making) (omega arith)))
            (subst (λ (ls : List Leaf). Stand s.filed.m (frames_upto (s.before + k) (logs.counted s.log)) ls) (sym (same_leaves s more same_cut k old))
            (h.stands k low old from)))
        | false ↦ λ is. (
            let new : s.durable < k = leb-false _ _ is in
            let last : k ≡ s.durable + 1 = omega arith in
            let all : s.making.frame ≡ s.before + k = omega arith in
            subst (λ (fs : List Frame). Stand s.filed.m fs (pages s.filed.m s.start (records (upto more s.entries k))))
            (sym (upto_all (s.before + k) (logs.counted s.log) (frame_of s.making)
            (all-map (λ f. f.number < s.before + s.durable + 1) (λ f. f.number ≤ s.before + k) (λ f below. omega arith) (logs.counted s.log)
            (numbers_below next number)) (omega arith)))
            (subst (λ (ls : List Leaf). Stand s.filed.m (logs.counted s.log ++ frame_of s.making ∷ []) ls)
            (h.leaves ∙ sym (whole_history k last)) h.grown.stands))
      ] refl

  -- after the append of the frame; `fresh` is an empty buffer for the next frame, if there is a number for it
  pub flushed_sound : (fresh : Filling) (new : logs.Contents) → s.log.next ≡ Some s.making.frame → s.making.frame ≡ s.before + s.durable + 1
      → logs.IsSound new → Appended s.log (frame_of s.making) new → IsSameLog s.log new
      → fresh.limit ≡ s.making.limit → fresh.blocks ≡ [] → fresh.is_sealed ≡ false → (new.next ≡ Some fresh.frame) ⊎ (new.next ≡ None)
      → IsSound (with_frame s fresh new)
  flushed_sound fresh new next number sound added same limit empty open_again numbered =
      let t = with_frame s fresh new in
      let counted : logs.counted new ≡ logs.counted s.log ++ frame_of s.making ∷ [] = added.frames in
      let follows : new.next ≡ following s.making.frame =
      sound.holds.follows ∙ ap next_of counted ∙ fold-append (λ was f. following f.number) (Some 1) (logs.counted s.log) (frame_of s.making ∷ []) in
      let later : new.next ≡ following (s.before + (s.durable + 1)) = follows ∙ ap following (number ∙ omega arith) in
      record {
        log = sound;
        pairs = h.pairs ∙ sym same.m;
        limit = limit ∙ h.limit ∙ sym same.f;
        leaves = h.leaves;
        mapped = h.mapped;
        mapped_at = mapped_more s more same_cut h (let all = all_appended in omega arith) whole_behind;
        first = h.first;
        ops = h.ops;
        writers = h.writers;
        grown =
            subst (λ (fs : List Frame). Grown s.filed.m fs (frame_of fresh) s.filed.leaves s.newest) (sym counted)
            (subst (λ (bs : List Block). Grown s.filed.m (logs.counted s.log ++ frame_of s.making ∷ []) (record { number = fresh.frame; blocks = bs })
            s.filed.leaves s.newest) (sym empty)
            (grown_next s.filed.m (logs.counted s.log) (frame_of s.making) fresh.frame s.filed.leaves s.newest h.grown));
        next = later;
        last = (let top = following_fits (s.before + s.durable) s.making.frame (sym h.next ∙ next) in omega arith);
        number = elim numbered [
          | inl e ↦ inl (following_is (s.before + (s.durable + 1)) fresh.frame (sym later ∙ e))
          | inr e ↦ inr (e, empty)
        ];
        sealed = open_again ∙ sym added.works;
        ordered = cuts_push 0 s.cuts (length s.entries) h.ordered;
        floor = (let low = h.floor in omega arith);
        stands = λ k low high from. subst (λ (fs : List Frame). Stand s.filed.m (frames_upto (s.before + k) fs) (leaves_at t k)) (sym counted)
            (stands_all next number k low high from);
        beyond = inl one_longer;
        last_cut = λ failed. (let fine = added.works in absurd cc);
        shares = subst (λ (fs : List Frame). All (λ f. s.before < f.number → TellsShare t f) fs) (sym counted)
            (all-push (λ f. s.before < f.number → TellsShare t f) (logs.counted s.log) (frame_of s.making) (old_told next number)
            (λ above. inl (new_share number)));
        tells =
            subst (λ (bs : List Block). TellsBy t (s.before + (s.durable + 1) + 1) (leaves_at t (s.durable + 1)) (waiting t) bs) (sym empty)
            (subst (λ (rs : List Record). TellsBy t (s.before + (s.durable + 1) + 1) (leaves_at t (s.durable + 1)) rs [])
            (sym (ap (λ c. records (drop c s.entries)) last_cut ∙ ap records (drop_of_length-le s.entries (omega arith))))
            (inr (λ zeroth one. omega arith, tells_none s.filed.m (leaves_at t (s.durable + 1)))));
        edged = h.edged;
        begun = begun_on s.edge s.log new h.log.rooms same.rooms same.number same.f (appended_more s.log new (frame_of s.making) added) h.begun;
        left = λ failed. (let fine = added.works in absurd cc);
      }

  -- what stands in the live segments after an append that failed
  none_counted : s.log.next ≡ Some s.making.frame → s.making.frame ≡ s.before + s.durable + 1 → logs.counted s.log ≡ []
      → (s.before ≡ 0) × (s.durable ≡ 0)
  none_counted next number none =
      let first : Some s.making.frame ≡ Some 1 = sym next ∙ h.log.holds.follows ∙ ap next_of none in
      let one : s.making.frame ≡ 1 = cc in
      (omega arith, omega arith)

  some_counted : (x : Frame) (xs : List Frame) → s.log.next ≡ Some s.making.frame → s.making.frame ≡ s.before + s.durable + 1 → logs.counted s.log ≡ x ∷ xs
      → 1 ≤ s.before + s.durable
  some_counted x xs next number is =
      let from : AreFrom x.number (x ∷ xs) = subst (λ (fs : List Frame). AreFrom (first_number fs) fs) is h.log.holds.numbered in
      let laws : All IsNumbered (x ∷ xs) = subst (All IsNumbered) is (counted_lawful s.log h.log) in
      let low = laws.0.number.0 in
      let after = next_is x.number x xs s.making.frame from (ap next_of (sym is) ∙ sym h.log.holds.follows ∙ next) in
      omega arith

  all_upto : s.log.next ≡ Some s.making.frame → s.making.frame ≡ s.before + s.durable + 1
      → frames_upto (s.before + s.durable) (logs.counted s.log) ≡ logs.counted s.log
  all_upto next number =
      filter_all (λ (f : Frame). nat_le f.number (s.before + s.durable)) (logs.counted s.log)
      (all-map (λ f. f.number < s.before + s.durable + 1) (λ f. nat_le f.number (s.before + s.durable) ≡ true)
      (λ f below. le-leb f.number (s.before + s.durable) (omega arith)) (logs.counted s.log) (numbers_below next number))

  counted_left : (fs : List Frame) (new : logs.Contents) → s.log.next ≡ Some s.making.frame → s.making.frame ≡ s.before + s.durable + 1
      → frames_of (logs.image new).bytes ≡ logs.counted s.log → logs.counted s.log ≡ fs → AreLeft (with_stop s new)
  counted_left [] new next number same is = (let none = none_counted next number is in inl (same ∙ is, none.0, none.1))
  counted_left (x ∷ xs) new next number same is =
      inr (inl (subst (λ (fs : List Frame). Stand s.filed.m fs (leaves_at (with_stop s new) s.durable)) (sym same)
      (subst (Stand s.filed.m (logs.counted s.log)) (sym (same_leaves s more same_cut s.durable (omega arith)))
      (subst (λ (fs : List Frame). Stand s.filed.m fs (leaves_at s s.durable)) (all_upto next number)
      (h.stands s.durable h.floor (omega arith) (some_counted x xs next number is))))))

  stop_left : (new : logs.Contents) → s.log.next ≡ Some s.making.frame → s.making.frame ≡ s.before + s.durable + 1
      → LeftBehind s.log (frame_of s.making) new → AreLeft (with_stop s new)
  stop_left new next number (inl same) = counted_left (logs.counted s.log) new next number same refl
  stop_left new next number (inr one_more) =
      inr (inr (
        one_longer,
        subst (λ (fs : List Frame). Stand s.filed.m fs (leaves_at (with_stop s new) (s.durable + 1))) (sym one_more)
            (subst (Stand s.filed.m (logs.counted s.log ++ frame_of s.making ∷ [])) (h.leaves ∙ sym (whole_history (s.durable + 1) refl)) h.grown.stands),
      ))

  -- after an append that failed
  pub stopped_sound : (new : logs.Contents) → s.log.next ≡ Some s.making.frame → s.making.frame ≡ s.before + s.durable + 1
      → logs.IsSound new → Stopped s.log (frame_of s.making) new → IsSameLog s.log new → IsSound (with_stop s new)
  stopped_sound new next number sound stopped same =
      let counted = stopped.frames in
      let failed = stopped.failed in
      let t = with_stop s new in
      record {
        log = sound;
        pairs = h.pairs ∙ sym same.m;
        limit = h.limit ∙ sym same.f;
        leaves = h.leaves;
        mapped = h.mapped;
        mapped_at = mapped_more s more same_cut h (let all = all_appended in omega arith) whole_behind;
        first = h.first;
        ops = h.ops;
        writers = h.writers;
        grown = subst (λ (fs : List Frame). Grown s.filed.m fs (frame_of s.making) s.filed.leaves s.newest) (sym counted) h.grown;
        next = sound.holds.follows ∙ ap next_of counted ∙ sym h.log.holds.follows ∙ h.next;
        last = h.last;
        number = inl number;
        sealed = sym failed;
        ordered = cuts_push 0 s.cuts (length s.entries) h.ordered;
        floor = h.floor;
        stands = λ k low high from. subst (λ (fs : List Frame). Stand s.filed.m (frames_upto (s.before + k) fs) (leaves_at t k)) (sym counted)
            (subst (Stand s.filed.m (frames_upto (s.before + k) (logs.counted s.log))) (sym (same_leaves s more same_cut k high)) (h.stands k low high from));
        beyond = inr (one_longer, failed);
        last_cut = λ failed. ap (cut more) one_longer ∙ last_cut;
        shares = subst (λ (fs : List Frame). All (λ f. s.before < f.number → TellsShare t f) fs) (sym counted) (old_told next number);
        tells =
            subst (λ (ls : List Leaf). TellsBy t (s.before + s.durable + 1) ls (waiting t) s.making.blocks)
            (sym (same_leaves s more same_cut s.durable (omega arith)))
            (subst (λ (rs : List Record). TellsBy t (s.before + s.durable + 1) (leaves_at s s.durable) rs s.making.blocks)
            (sym (ap (λ c. records (drop c s.entries)) (same_cut s.durable (omega arith)))) h.tells);
        edged = h.edged;
        begun = begun_on s.edge s.log new h.log.rooms same.rooms same.number same.f (stopped_more s.log new (frame_of s.making) stopped) h.begun;
        left = λ failed. stop_left new next number stopped.left;
      }

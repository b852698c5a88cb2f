-- A store after one record, and after one frame.

use Rattle.std.proofs.Common.{◌≡◌, ℕ, zero, suc, ◌+◌, ◌-◌, ◌<◌, ◌≤◌, false, inl, inr, List, [], ◌∷◌, ◌++◌}
use Rattle.std.proofs.Common.{length, take, drop, get_or, refl, sym, ap, ◌∙◌, subst, arith, length-append, take-append-drop}
use Rattle.std.proofs.lemmas.List.{map-append, take-append-le, drop-append-le}
use Rattle.std.proofs.lemmas.Grind.{fold-append}
use Rattle.bw_record.specs.Lawful.{IsOp}
use Rattle.bw_record.specs.declared.record.Record.{Record}
use Rattle.bw_record.specs.declared.leaf.Leaf.{Leaf}
use Rattle.bw_record.specs.declared.block.Place.{Place}
use Rattle.bw_record.specs.declared.block.Block.{Block}
use Rattle.bw_leaf.specs.Changed.{Map, empty_leaf, changed_map}
use Rattle.bw_page.specs.Leaves.{pages, applied, union, plain}
use Rattle.bw_page.proofs.Law.{applied-plain}
use Rattle.bw_page.specs.Standing.{Stand}
use Rattle.bw_leaf.proofs.Sorted.{all-map, all-push}
use Rattle.bw_buffer.specs.Filling.{frame_of}
use Rattle.bw_buffer.specs.Joining.{added}
use Rattle.bw_ring.specs.Marks.{Marked}
use Rattle.bw_log.specs.Contents as logs
use Rattle.bw_history.specs.declared.entry.Entry.{Entry}
use Rattle.bw_history.specs.Entries.{records}
use Rattle.bw_history.specs.History.{cut, upto, share}
use Rattle.bw_making.specs.Share.{TellsFirst}
use Rattle.bw_making.specs.Adding.{blocks_for}
use Rattle.bw_core.specs.Fitting.{here_at}
use Rattle.bw_core.specs.Growing.{frames_upto}
use Rattle.bw_core.specs.Kept.{Kept, leaves_at, share_at, TellsBy, TellsAs, TellsShare, waiting, frames_there, IsSound}
use Rattle.bw_history.specs.History.{AreCuts}
use Rattle.bw_core.specs.Taken.{taken}
use Rattle.bw_making.proofs.Joins.{added_behind}
use Rattle.bw_core.proofs.Telling.{tells_more}
use Rattle.bw_core.proofs.Growing.{Takes, grown_more}

-- ---- cuts

pub cuts_longer : (from : ℕ) (cs : List ℕ) (n k : ℕ) → n ≤ k → AreCuts from cs n → AreCuts from cs k
cuts_longer from [] n k le h = omega arith
cuts_longer from (c ∷ cs) n k le h = (h.0, cuts_longer c cs n k le h.1)

from_within : (from : ℕ) (cs : List ℕ) (n : ℕ) → AreCuts from cs n → from ≤ n
from_within from [] n h = h
from_within from (c ∷ cs) n h = (let low = h.0 in let rest = from_within c cs n h.1 in omega arith)

get_within : (from : ℕ) (cs : List ℕ) (n i : ℕ) → AreCuts from cs n → get_or cs i 0 ≤ n
get_within from [] n i h = omega arith
get_within from (c ∷ cs) n zero h = from_within c cs n h.1
get_within from (c ∷ cs) n (suc i) h = get_within c cs n i h.1

pub cut_within : (cs : List ℕ) (n k : ℕ) → AreCuts 0 cs n → cut cs k ≤ n
cut_within cs n zero h = omega arith
cut_within cs n (suc k) h = get_within 0 cs n k h

upto_more : {A : Type 0} (cs : List ℕ) (xs ys : List A) (k : ℕ) → AreCuts 0 cs (length xs) → upto cs (xs ++ ys) k ≡ upto cs xs k
upto_more cs xs ys k h = take-append-le (cut cs k) xs ys (cut_within cs (length xs) k h)

share_more : {A : Type 0} (cs : List ℕ) (xs ys : List A) (k : ℕ) → AreCuts 0 cs (length xs) → share cs (xs ++ ys) k ≡ share cs xs k
share_more {A} cs xs ys k h = ap (λ (l : List A). drop (cut cs (k - 1)) l) (upto_more cs xs ys k h)

-- ---- histories

pub records_more : (es fs : List Entry) → records (es ++ fs) ≡ records es ++ records fs
records_more es fs = map-append (λ (e : Entry). e.item) es fs

pub pages_more : (m : ℕ) (start : List Leaf) (rs ss : List Record) → pages m start (rs ++ ss) ≡ pages m (pages m start rs) ss
pages_more m start rs ss = fold-append (applied m) start rs ss

-- what waits leads from the leaves at the last cut to the leaves now
pub waiting_leads : (s : Kept) → IsSound s → pages s.filed.m (leaves_at s s.durable) (waiting s) ≡ s.filed.leaves
waiting_leads s h =
    sym (pages_more s.filed.m s.start (records (upto s.cuts s.entries s.durable)) (waiting s))
    ∙ ap (pages s.filed.m s.start) (sym (records_more (take (cut s.cuts s.durable) s.entries) (drop (cut s.cuts s.durable) s.entries))
    ∙ ap records (take-append-drop (cut s.cuts s.durable) s.entries))
    ∙ sym h.leaves

-- ---- one record

-- what one record asks of a store
pub record TakesOne (s : Kept) (writer : ℕ) (item : Record) (back : Place) : Type 0 where
  pub sound : IsSound s
  pub takes : Takes s.filed.m (logs.counted s.log) (frame_of s.making) s.filed.leaves s.newest back item
  pub number : s.making.frame ≡ s.before + s.durable + 1
  pub inside : writer < length s.rings
  pub works : s.log.is_failed ≡ false

module _ (s : Kept) (writer : ℕ) (m : Marked) (back : Place) (t : TakesOne s writer m.item back) where
  same_leaves : (k : ℕ) → leaves_at (taken s writer m back) k ≡ leaves_at s k
  same_leaves k = ap (λ (es : List Entry). pages s.filed.m s.start (records es))
      (upto_more s.cuts s.entries (record { writer = writer; more = m.more; item = m.item } ∷ []) k t.sound.ordered)

  same_share : (k : ℕ) → share_at (taken s writer m back) k ≡ share_at s k
  same_share k = ap records (share_more s.cuts s.entries (record { writer = writer; more = m.more; item = m.item } ∷ []) k t.sound.ordered)

  more_waits : waiting (taken s writer m back) ≡ waiting s ++ m.item ∷ []
  more_waits =
      ap records (drop-append-le (cut s.cuts s.durable) s.entries (record { writer = writer; more = m.more; item = m.item } ∷ [])
      (cut_within s.cuts (length s.entries) s.durable t.sound.ordered))
      ∙ records_more (drop (cut s.cuts s.durable) s.entries) (record { writer = writer; more = m.more; item = m.item } ∷ [])

  first_more : (bs : List Block) → TellsFirst s.filed.m (leaves_at s s.durable) (waiting s) bs
      → TellsFirst s.filed.m (leaves_at s s.durable) (waiting s ++ m.item ∷ [])
      (added bs (blocks_for s.filed.m (pages s.filed.m (leaves_at s s.durable) (waiting s)) back (here_at s m.item) m.item))
  first_more [] h = absurd h
  first_more (b ∷ bs) h =
      let more = blocks_for s.filed.m (pages s.filed.m (leaves_at s s.durable) (waiting s)) back (here_at s m.item) m.item in
      subst (TellsFirst s.filed.m (leaves_at s s.durable) (waiting s ++ m.item ∷ []))
      (sym (ap (λ (x : Block). added (x ∷ bs) more) h.0 ∙ added_behind empty_leaf bs more))
      (refl, tells_more s.filed.m (leaves_at s s.durable) (waiting s) bs back (here_at s m.item) m.item h.1)

  tells_now : (number : ℕ) → TellsBy s number (leaves_at s s.durable) (waiting s) s.making.blocks
      → TellsBy s number (leaves_at s s.durable) (waiting s ++ m.item ∷ [])
      (added s.making.blocks (blocks_for s.filed.m (pages s.filed.m (leaves_at s s.durable) (waiting s)) back (here_at s m.item) m.item))
  tells_now number (inl first) = inl (first.0, first.1, first_more s.making.blocks first.2)
  tells_now number (inr other) = inr (
    other.0,
    tells_more s.filed.m (leaves_at s s.durable) (waiting s) s.making.blocks back (here_at s m.item) m.item other.1,
  )

  pub taken_sound : IsSound (taken s writer m back)
  taken_sound =
      let h = t.sound in
      let now = taken s writer m back in
      record {
        log = h.log;
        pairs = h.pairs;
        limit = h.limit;
        leaves = ap (λ (ls : List Leaf). applied s.filed.m ls m.item) h.leaves
            ∙ sym (ap (pages s.filed.m s.start) (records_more s.entries (record { writer = writer; more = m.more; item = m.item } ∷ []))
            ∙ pages_more s.filed.m s.start (records s.entries) (m.item ∷ []));
        mapped =
            applied-plain s.filed.m s.filed.leaves m.item (let some = t.takes.some in omega arith) t.takes.room t.takes.grown.stands.lawful t.takes.op
            ∙ ap (λ (u : Map). changed_map u m.item) h.mapped
            ∙ sym (ap (plain s.start) (records_more s.entries (record { writer = writer; more = m.more; item = m.item } ∷ []))
            ∙ fold-append changed_map (union s.start) (records s.entries) (m.item ∷ []));
        mapped_at = λ k high.
            ap (λ (ls : List Leaf). union ls) (same_leaves k) ∙ h.mapped_at k high
            ∙ sym (ap (λ (es : List Entry). plain s.start (records es))
            (upto_more s.cuts s.entries (record { writer = writer; more = m.more; item = m.item } ∷ []) k h.ordered));
        first = h.first;
        ops = all-push (λ (e : Entry). IsOp e.item) s.entries (record { writer = writer; more = m.more; item = m.item }) h.ops t.takes.op;
        writers = all-push (λ (e : Entry). e.writer < length s.rings) s.entries (record { writer = writer; more = m.more; item = m.item }) h.writers t.inside;
        grown = grown_more s.filed.m (logs.counted s.log) (frame_of s.making) s.filed.leaves s.newest back m.item t.takes;
        next = h.next;
        last = h.last;
        number = inl t.number;
        sealed = h.sealed;
        ordered = cuts_longer 0 s.cuts (length s.entries) (length now.entries)
            (let e = length-append s.entries (record { writer = writer; more = m.more; item = m.item } ∷ []) in omega arith) h.ordered;
        beyond = h.beyond;
        last_cut = λ failed. (let works = t.works in absurd cc);
        floor = h.floor;
        stands = λ k low high from. subst (Stand s.filed.m (frames_upto (s.before + k) (logs.counted s.log))) (sym (same_leaves k)) (h.stands k low high from);
        shares = all-map (λ f. s.before < f.number → TellsShare s f) (λ f. s.before < f.number → TellsShare now f)
            (λ f told above.
            subst (λ (ls : List Leaf). TellsAs now f.number ls (share_at now (f.number - s.before)) f.blocks) (sym (same_leaves (f.number - s.before - 1)))
            (subst (λ (rs : List Record). TellsAs now f.number (leaves_at s (f.number - s.before - 1)) rs f.blocks)
            (sym (same_share (f.number - s.before))) (told above)))
            (logs.counted s.log) h.shares;
        tells =
            subst (λ (ls : List Leaf). TellsBy now (s.before + s.durable + 1) ls (waiting now) now.making.blocks) (sym (same_leaves s.durable))
            (subst (λ (rs : List Record). TellsBy now (s.before + s.durable + 1) (leaves_at s s.durable) rs now.making.blocks) (sym more_waits)
            (subst (λ (ls : List Leaf). TellsBy now (s.before + s.durable + 1) (leaves_at s s.durable) (waiting s ++ m.item ∷ [])
            (added s.making.blocks (blocks_for s.filed.m ls back (here_at s m.item) m.item))) (waiting_leads s h)
            (tells_now (s.before + s.durable + 1) h.tells)));
        edged = h.edged;
        begun = h.begun;
        left = λ failed. elim (h.left failed) [
          | inl none ↦ inl none
          | inr some ↦ elim some [
            | inl here ↦ inr (inl (subst (Stand s.filed.m (frames_there s)) (sym (same_leaves s.durable)) here))
            | inr beyond ↦ inr (inr (beyond.0, subst (Stand s.filed.m (frames_there s)) (sym (same_leaves (s.durable + 1))) beyond.1))
          ]
        ];
      }

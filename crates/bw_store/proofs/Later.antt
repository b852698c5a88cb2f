-- A step of the core leaves what readers have a beginning of what is durable.

use Rattle.std.proofs.Common.{◌≡◌, ℕ, zero, suc, ◌≤◌, ◌<◌, inl, inr, List, [], ◌∷◌, ◌++◌, length, take, refl, sym, ap, ◌∙◌, subst, arith}
use Rattle.std.specs.Prelude.{get_or}
use Rattle.std.proofs.lemmas.List.{get_or_append_left, take-append-le}
use mathlib.Core.List.{IsPrefix}
use Rattle.bw_page.specs.Shown.{Shown}
use Rattle.bw_record.specs.declared.leaf.Leaf.{Leaf}
use Rattle.bw_versions.specs.Batches.{entries_of}
use Rattle.bw_versions.specs.Versioned.{Versioned}
use Rattle.bw_history.specs.declared.entry.Entry.{Entry}
use Rattle.bw_versions.proofs.Fronts.{prefix_trans}
use Rattle.bw_history.specs.History.{cut, upto}
use Rattle.bw_history.specs.History.{AreCuts}
use Rattle.bw_core.specs.Kept as core
use Rattle.bw_core.specs.Following as follow
use Rattle.bw_core.proofs.RecordMore.{cut_within}
use Rattle.bw_store.specs.Kept.{Kept, AreVersions, EndAtCuts, IsSound, core_of, start_of}
use Rattle.bw_store.proofs.Readers.{take_prefix}

-- ---- cuts rise

at_least : (from : ℕ) (cs : List ℕ) (n i : ℕ) → AreCuts from cs n → i < length cs → from ≤ get_or cs i 0
at_least from [] n i h lt = absurd (omega arith)
at_least from (c ∷ cs) n zero h lt = h.0
at_least from (c ∷ cs) n (suc i) h lt = (let low = h.0 in let rest = at_least c cs n i h.1 (omega arith) in omega arith)

get_rises : (from : ℕ) (cs : List ℕ) (n i j : ℕ) → AreCuts from cs n → i ≤ j → j < length cs → get_or cs i 0 ≤ get_or cs j 0
get_rises from [] n i j h le lt = absurd (omega arith)
get_rises from (c ∷ cs) n zero zero h le lt = omega arith
get_rises from (c ∷ cs) n zero (suc j) h le lt = at_least c cs n j h.1 (omega arith)
get_rises from (c ∷ cs) n (suc i) zero h le lt = absurd (omega arith)
get_rises from (c ∷ cs) n (suc i) (suc j) h le lt = get_rises c cs n i j h.1 (omega arith) (omega arith)

cut_rises : (cs : List ℕ) (n k l : ℕ) → AreCuts 0 cs n → k ≤ l → l ≤ length cs → cut cs k ≤ cut cs l
cut_rises cs n zero l h le lt = omega arith
cut_rises cs n (suc k) zero h le lt = absurd (omega arith)
cut_rises cs n (suc k) (suc l) h le lt = get_rises 0 cs n k l h (omega arith) (omega arith)

cut_kept : (cs ds : List ℕ) (k : ℕ) → k ≤ length cs → cut (cs ++ ds) k ≡ cut cs k
cut_kept cs ds zero le = refl
cut_kept cs ds (suc k) le = get_or_append_left cs ds 0 k (omega arith)

-- no frame that was appended lacks its cut
all_cut : (s : core.Kept) → core.IsSound s → s.durable ≤ length s.cuts
all_cut s h = elim (h.beyond) [ inl e ↦ omega arith | inr e ↦ (let one = e.0 in omega arith) ]

-- ---- what stood at a durable cut stays there

module _ (s t : core.Kept) (h : core.IsSound s) (f : follow.Continues s t) where
  later : (k : ℕ) → k ≤ s.durable → upto t.cuts t.entries k ≡ upto s.cuts s.entries k
  later k le =
      (let low = all_cut s h in
      ap (λ (es : List Entry). take (cut t.cuts k) es) f.history
      ∙ ap (λ (cs : List ℕ). take (cut cs k) (s.entries ++ f.entries_more)) f.cuts
      ∙ ap (λ n. take n (s.entries ++ f.entries_more)) (cut_kept s.cuts f.cuts_more k (omega arith))
      ∙ take-append-le (cut s.cuts k) s.entries f.entries_more (cut_within s.cuts (length s.entries) k h.ordered))

  risen : core.IsSound t → cut t.cuts s.durable ≤ cut t.cuts t.durable
  risen g = (let low = f.appended in let all = all_cut t g in cut_rises t.cuts (length t.entries) s.durable t.durable g.ordered (omega arith) (omega arith))

-- ---- readers

start_stays : (s t : Kept) → t.filed.m ≡ s.filed.m → t.start ≡ s.start → start_of t ≡ start_of s
start_stays s t limit start =
    ap (λ (m : ℕ). let l : Shown = record { m = m; leaves = t.start; evicted = [] } in l) limit
    ∙ ap (λ (ls : List Leaf). let l : Shown = record { m = s.filed.m; leaves = ls; evicted = [] } in l) start

ends_stay : (s t : Kept) → core.IsSound (core_of s) → follow.Continues (core_of s) (core_of t) → AreVersions s
    → EndAtCuts t s.versions.entered
ends_stay s t h f v = λ n. (
    let was = v.ends n in
    let low = f.appended in
    (was.0, omega arith, was.2 ∙ sym (later (core_of s) (core_of t) h f was.0 was.1)))

versions_stay : (s t : Kept) → core.IsSound (core_of s) → core.IsSound (core_of t) → follow.Continues (core_of s) (core_of t) → t.versions ≡ s.versions
    → AreVersions s → AreVersions t
versions_stay s t h g f same v = record {
  start = ap (λ (x : Versioned). x.start) same ∙ v.start ∙ sym (start_stays s t f.m f.start);
  begins =
      subst (λ (x : Versioned). IsPrefix (entries_of x.entered) (upto t.cuts t.entries t.durable)) (sym same)
      (prefix_trans _ _ _ (subst (IsPrefix (entries_of s.versions.entered)) (sym (later (core_of s) (core_of t) h f s.durable (omega arith))) v.begins)
      (take_prefix t.entries (cut t.cuts s.durable) (cut t.cuts t.durable) (risen (core_of s) (core_of t) h f g)));
  ends = subst (λ (x : Versioned). EndAtCuts t x.entered) (sym same) (ends_stay s t h f v);
}

-- the core is sound, and nothing was taken back: then the store is sound, if readers see the same
pub beside_sound : (s t : Kept) → IsSound s → core.IsSound (core_of t) → follow.Continues (core_of s) (core_of t) → t.versions ≡ s.versions → IsSound t
beside_sound s t h g f same = record { base = g; shown = versions_stay s t h.base g f same h.shown }

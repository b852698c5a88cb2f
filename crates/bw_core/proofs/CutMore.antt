-- A store with further cuts after those of its appended frames: what stood before them stays.

use Rattle.std.proofs.Common.{◌≡◌, ℕ, zero, suc, ◌+◌, ◌-◌, ◌<◌, ◌≤◌, true, false, List, [], length, take, drop, refl, sym, ap, ◌∙◌, subst, arith}
use Rattle.std.specs.Prelude.{nat_le}
use Rattle.std.proofs.lemmas.Bool.{leb-true, leb-false}
use Rattle.std.specs.List.{AllByRecursion as All}
use Rattle.bw_record.specs.declared.record.Record.{Record}
use Rattle.bw_record.specs.declared.leaf.Leaf.{Leaf}
use Rattle.bw_record.specs.declared.block.Frame.{Frame}
use Rattle.bw_page.specs.Leaves.{pages, plain, union}
use Rattle.bw_leaf.proofs.Sorted.{all-zip}
use Rattle.bw_history.specs.declared.entry.Entry.{Entry}
use Rattle.bw_history.specs.Entries.{records}
use Rattle.bw_history.specs.History.{cut, upto, share}
use Rattle.bw_core.specs.Kept.{Kept, leaves_at, share_at, TellsAs, TellsShare, IsSound}

-- before the first cut there is the start
pub none_mapped : (m : ℕ) (start : List Leaf) (k : ℕ) → k ≤ 0
    → union (pages m start (records (upto [] [] k))) ≡ plain start (records (upto [] [] k))
none_mapped m start zero le = refl
none_mapped m start (suc k) le = absurd (omega arith)

module _ (s : Kept) (more : List ℕ) (same_cut : (k : ℕ) → k ≤ s.durable → cut more k ≡ cut s.cuts k) where
  pub same_leaves : (k : ℕ) → k ≤ s.durable → pages s.filed.m s.start (records (upto more s.entries k)) ≡ leaves_at s k
  same_leaves k le = ap (λ c. pages s.filed.m s.start (records (take c s.entries))) (same_cut k le)

  -- further cuts at the end of the history: the pages up to each are the map up to it
  pub mapped_more : IsSound s → s.durable ≤ length s.cuts
      → ((k : ℕ) → s.durable < k → k ≤ length more → take (cut more k) s.entries ≡ s.entries) → (k : ℕ) → k ≤ length more
      → union (pages s.filed.m s.start (records (upto more s.entries k))) ≡ plain s.start (records (upto more s.entries k))
  mapped_more h within whole k high =
      elim (nat_le k s.durable) as (λ b. nat_le k s.durable ≡ b
      → union (pages s.filed.m s.start (records (upto more s.entries k))) ≡ plain s.start (records (upto more s.entries k))) [
        | true ↦ λ is. (
            let low : k ≤ s.durable = leb-true _ _ is in
            ap (λ (ls : List Leaf). union ls) (same_leaves k low) ∙ h.mapped_at k (omega arith)
            ∙ sym (ap (λ c. plain s.start (records (take c s.entries))) (same_cut k low)))
        | false ↦ λ is. (
            let beyond : s.durable < k = leb-false _ _ is in
            let all = whole k beyond high in
            ap (λ (es : List Entry). union (pages s.filed.m s.start (records es))) all
            ∙ ap (λ (ls : List Leaf). union ls) (sym h.leaves) ∙ h.mapped
            ∙ sym (ap (λ (es : List Entry). plain s.start (records es)) all))
      ] refl

  same_share : (k : ℕ) → k ≤ s.durable → records (share more s.entries k) ≡ share_at s k
  same_share k le =
      ap (λ c. records (drop (cut more (k - 1)) (take c s.entries))) (same_cut k le)
      ∙ ap (λ c. records (drop c (take (cut s.cuts k) s.entries))) (same_cut (k - 1) (omega arith))

  old_share : (f : Frame) → f.number < s.before + s.durable + 1 → s.before < f.number → TellsShare s f
      → TellsAs s f.number (pages s.filed.m s.start (records (upto more s.entries (f.number - s.before - 1))))
      (records (share more s.entries (f.number - s.before))) f.blocks
  old_share f low above told =
      subst (λ (ls : List Leaf). TellsAs s f.number ls (records (share more s.entries (f.number - s.before))) f.blocks)
      (sym (same_leaves (f.number - s.before - 1) (omega arith)))
      (subst (λ (rs : List Record). TellsAs s f.number (leaves_at s (f.number - s.before - 1)) rs f.blocks)
      (sym (same_share (f.number - s.before) (omega arith))) told)

  -- the frames counted before
  pub old_shares : (fs : List Frame) → All (λ f. f.number < s.before + s.durable + 1) fs → All (λ f. s.before < f.number → TellsShare s f) fs
      → All (λ f. s.before < f.number → TellsAs s f.number (pages s.filed.m s.start (records (upto more s.entries (f.number - s.before - 1))))
      (records (share more s.entries (f.number - s.before))) f.blocks) fs
  old_shares fs below told =
      all-zip (λ f. f.number < s.before + s.durable + 1) (λ f. s.before < f.number → TellsShare s f)
      (λ f. s.before < f.number → TellsAs s f.number (pages s.filed.m s.start (records (upto more s.entries (f.number - s.before - 1))))
      (records (share more s.entries (f.number - s.before))) f.blocks)
      (λ f low say above. old_share f low above (say above)) fs below told

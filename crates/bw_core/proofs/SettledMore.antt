-- Where nothing is in the making, all is in the segments.

use Rattle.std.proofs.Common.{◌≡◌, ◌≢◌, ℕ, ◌+◌, ◌≤◌, inl, inr, Bool, false, Option, Some, None, Result, Ok, Err, List, [], ◌∷◌, ◌++◌}
use Rattle.std.proofs.Common.{length, drop, refl, sym, ap, ◌∙◌, subst, append-nil, arith, if◌then◌else◌, length-drop}
use Rattle.std.specs.Prelude.{OnOk}
use Rattle.std.specs.List.{AllByRecursion as All}
use Rattle.std.proofs.lemmas.Bool.{eq-eqb}
use Rattle.std.proofs.lemmas.Grind.{flat_map-append}
use Rattle.bw_record.specs.Touch.{touches}
use Rattle.bw_record.specs.declared.record.Record.{Record}
use Rattle.bw_record.specs.declared.leaf.Leaf.{Leaf}
use Rattle.bw_record.specs.declared.block.Block.{Block}
use Rattle.bw_record.specs.declared.block.Frame.{Frame}
use Rattle.bw_page.specs.Leaves.{pages, directed_at, applied}
use Rattle.bw_leaf.specs.Forwards.{content, blocks_of}
use Rattle.bw_page.specs.Standing.{Stand}
use Rattle.bw_buffer.specs.Filling.{frame_of}
use Rattle.bw_log.specs.Contents as logs
use Rattle.bw_log.specs.Segments.{following, next_of}
use Rattle.bw_log.proofs.Adding.{following_is}
use Rattle.bw_history.specs.declared.entry.Entry.{Entry}
use Rattle.bw_history.specs.Entries.{records}
use Rattle.bw_history.specs.History.{cut}
use Rattle.bw_making.specs.Share.{Tells, directed}
use Rattle.bw_core.specs.Kept.{Kept, leaves_at, TellsBy, waiting, IsSound}
use Rattle.bw_core.specs.Settled.{IsSettled}
use Rattle.bw_terms.specs.declared.fault.StoreFault.{StoreFault}
use Rattle.bw_core.specs.Faults.{FlushAnswers, FlushLeaves, flush_refusal, refusal_by}
use Rattle.bw_core.proofs.Refusing.{worked}
use Rattle.bw_core.proofs.RecordMore.{cut_within}

-- ---- nothing waits

nothing_told : (m : ℕ) (leaves : List Leaf) (rs : List Record) → Tells m leaves rs [] → rs ≡ []
nothing_told m leaves [] t = refl
nothing_told m leaves (r ∷ rs) t =
    let here : [] ≡ r ∷ directed m (directed_at leaves r) (applied m leaves r) rs =
    t.deltas (directed_at leaves r) ∙ ap (λ (b : Bool). (if b then r ∷ [] else []) ++ directed m (directed_at leaves r) (applied m leaves r) rs)
    (eq-eqb (directed_at leaves r) (directed_at leaves r) refl) in
    absurd cc

nothing_by : (s : Kept) (number : ℕ) → TellsBy s number (leaves_at s s.durable) (waiting s) [] → ((s.before ≡ 0 → number ≢ 1) × (waiting s ≡ []))
nothing_by s number (inl first) = absurd first.2
nothing_by s number (inr other) = (other.0, nothing_told s.filed.m (leaves_at s s.durable) (waiting s) other.1)

no_records : (es : List Entry) → records es ≡ [] → length es ≡ 0
no_records [] e = refl
no_records (x ∷ xs) e = absurd cc

last_blocks : (fs : List Frame) (f : Frame) → f.blocks ≡ [] → blocks_of (fs ++ f ∷ []) ≡ blocks_of fs
last_blocks fs f e = flat_map-append (λ (x : Frame). x.blocks) fs (f ∷ []) ∙ ap (λ (bs : List Block). blocks_of fs ++ (bs ++ [])) e ∙ append-nil (blocks_of fs)

some_counted : (fs : List Frame) (n : ℕ) → next_of fs ≡ following n → n ≢ 0 → 1 ≤ length fs
some_counted [] n e ne = (let one = following_is n 1 (sym e) in absurd (ne (omega arith)))
some_counted (f ∷ fs) n e ne = omega arith

-- frame 1 of an opened store is never empty
pub not_first : (s : Kept) → IsSound s → s.making.blocks ≡ [] → s.before ≡ 0 → s.before + s.durable + 1 ≢ 1
not_first s h empty =
    (nothing_by s (s.before + s.durable + 1)
    (subst (λ (bs : List Block). TellsBy s (s.before + s.durable + 1) (leaves_at s s.durable) (waiting s) bs) empty h.tells)).0

pub all_appended : (s : Kept) → IsSound s → s.log.is_failed ≡ false → length s.cuts ≡ s.durable
all_appended s h works = (elim h.beyond as (λ _. length s.cuts ≡ s.durable) [ inl e ↦ e | inr p ↦ (let failed = p.1 in absurd cc) ])

pub settled : (s : Kept) → IsSound s → s.making.blocks ≡ [] → s.log.is_failed ≡ false → IsSettled s
settled s h empty works =
    let told = nothing_by s (s.before + s.durable + 1)
    (subst (λ (bs : List Block). TellsBy s (s.before + s.durable + 1) (leaves_at s s.durable) (waiting s) bs) empty h.tells) in
    let some = some_counted (logs.counted s.log) (s.before + s.durable) (sym h.log.holds.follows ∙ h.next) (λ zeroth. told.0 (omega arith) (omega arith)) in
    let same = last_blocks (logs.counted s.log) (frame_of s.making) empty in
    let stand : Stand s.filed.m (logs.counted s.log) s.filed.leaves = record {
      some = some;
      lawful = h.grown.stands.lawful;
      each = λ p from within. sym (ap (content p) same) ∙ h.grown.stands.each p from within;
      all = λ p beyond. subst (λ (bs : List Block). All (λ b. touches p b ≡ false) bs) same (h.grown.stands.all p beyond);
    } in
    let rest = no_records (drop (cut s.cuts s.durable) s.entries) told.1 in
    let long = length-drop (cut s.cuts s.durable) s.entries in
    let within = cut_within s.cuts (length s.entries) s.durable h.ordered in
    record {
      stands = subst (λ (m : ℕ). Stand m (logs.counted s.log) (pages m s.start (records s.entries))) h.pairs
          (subst (λ (ls : List Leaf). Stand s.filed.m (logs.counted s.log) ls) h.leaves stand);
      whole = h.log.holds.live;
      cut = (all_appended s h works, omega arith);
    }

-- a flush that answers Ok leaves nothing in the making
pub flushed_empty : (old new : Kept) (o : Option ℕ) → FlushLeaves old (Ok o) new → new.making.blocks ≡ []
flushed_empty old new None left = ap (λ (s : Kept). s.making.blocks) left.0 ∙ left.1
flushed_empty old new (Some n) left = ap (λ (s : Kept). s.making.blocks) left.is ∙ left.empty

pub settled_by : (takes_last : Bool) (old new : Kept) (o : Option ℕ) → IsSound new
    → FlushAnswers (refusal_by takes_last old) (Ok o) → FlushLeaves old (Ok o) new → IsSettled new
settled_by takes_last old new o sound a left = settled new sound (flushed_empty old new o left) (worked takes_last old new o a left)

pub flush_settled : (old new : Kept) (r : Result (Option ℕ) StoreFault) → IsSound new → FlushAnswers (flush_refusal old) r → FlushLeaves old r new
    → OnOk r (IsSettled new)
flush_settled old new (Ok o) sound a left = settled_by false old new o sound a left
flush_settled old new (Err fault) sound a left = tt

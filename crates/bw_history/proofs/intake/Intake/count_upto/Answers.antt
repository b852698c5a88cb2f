use Rattle.std.proofs.Common.{◌≡◌, ℕ, zero, suc, ◌+◌, ◌-◌, ◌<◌, List, [], ◌∷◌, length, take, drop, take_all, length-drop, get_or, refl, ap, ◌∙◌, arith}
use Rattle.bw_history.specs.declared.entry.Entry.{Entry}
use Rattle.bw_history.specs.History.{counts_of, of_writer}
use Rattle.bw_history.proofs.Laned.{counts_length, durable_and_waiting, none_durable}
use Rattle.bw_history.proofs.intake.Intake.count_upto.Goals as goal

pub returns-then-lane-len : goal.returns-then-lane-len
returns-then-lane-len c =
    let s = c.args.self.now in
    let counts = ap length s.counted ∙ counts_length (length s.lanes.items) s.history.items in
    let len = c.len.ensures in
    let beyond = c.if-lane-len.true in
    let whole = s.counts.ok in
    none_durable c.args.writer _ s.history.items _ (omega arith) c.requires.writers

same_at : (xs : List ℕ) (i d : ℕ) → i < length xs → get_or xs i d ≡ get_or xs i 0
same_at [] i d lt = absurd (omega arith)
same_at (x ∷ xs) zero d lt = refl
same_at (x ∷ xs) (suc i) d lt = same_at xs i d (omega arith)

count_at : (xs : List ℕ) (i d : ℕ) {cs : List ℕ} → i < length xs → xs ≡ cs → get_or xs i d ≡ get_or cs i 0
count_at xs i d lt is = same_at xs i d lt ∙ ap (λ (ys : List ℕ). get_or ys i 0) is

-- how many records the counts say of a writer: those that are durable, and those after them
durable_is : (w n : ℕ) (es between : List Entry) (from to waiting : ℕ) → w < n → between ≡ take (to - from) (drop from es) → to ≡ length es
    → waiting ≡ length (of_writer w between) → get_or (counts_of n es) w 0 ≡ length (of_writer w (take from es)) + waiting
durable_is w n es between from to waiting lt is all count =
    let rest = length-drop from es in
    durable_and_waiting w n es from waiting lt (count ∙ ap (λ xs. length (of_writer w xs)) (is ∙ take_all (to - from) (drop from es) (omega arith)))

pub overflow_sub-result : goal.overflow_sub-result
overflow_sub-result c =
    let s = c.args.self.now in
    let counts = ap length s.counted ∙ counts_length (length s.lanes.items) s.history.items in
    let inside : c.args.writer < length s.counts.items = omega (arith, c.len.ensures, c.if-lane-len.false, s.counts.ok) in
    let is = durable_is c.args.writer (length s.lanes.items) s.history.items c.between.result.now c.args.from c.len-to.result
    c.count_of-waiting.result (omega arith) c.between.ensures c.len-to.ensures c.count_of-waiting.ensures in
    let at = c.index.ensures ∙ count_at s.counts.items c.args.writer c.index.result.now inside s.counted in
    omega arith

pub returns : goal.returns
returns c =
    let s = c.args.self.now in
    let counts = ap length s.counted ∙ counts_length (length s.lanes.items) s.history.items in
    let inside : c.args.writer < length s.counts.items = omega (arith, c.len.ensures, c.if-lane-len.false, s.counts.ok) in
    let is = durable_is c.args.writer (length s.lanes.items) s.history.items c.between.result.now c.args.from c.len-to.result
    c.count_of-waiting.result (omega arith) c.between.ensures c.len-to.ensures c.count_of-waiting.ensures in
    let at = c.index.ensures ∙ count_at s.counts.items c.args.writer c.index.result.now inside s.counted in
    omega arith

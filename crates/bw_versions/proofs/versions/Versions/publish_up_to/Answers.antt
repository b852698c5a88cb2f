use Rattle.std.proofs.Common.{◌≡◌, ℕ, ◌+◌, List, Option, Some, None, [], ◌∷◌, ◌++◌, length, length-append, ap, sym, subst, ◌∙◌, arith}
use Rattle.std.proofs.lemmas.List.Concat.{flat_map-append}
use Rattle.std.proofs.lemmas.List.{append-nil}
use Rattle.std.proofs.lemmas.List.Sums.{fold_push}
use Rattle.bw_page.specs.Shown.{Shown}
use Rattle.bw_history.specs.declared.entry.Entry.{Entry}
use Rattle.bw_versions.specs.Batches.{BatchData, entries_of}
use Rattle.bw_versions.specs.Posted.{Posted, brings, begun}
use Rattle.bw_versions.specs.Reach.{Reach}
use Rattle.bw_versions.specs.Refusals.{WasKept}
use Rattle.bw_versions.specs.Versioned.{Versioned}
use Rattle.bw_versions.specs.Publishing.{Publishing}
use Rattle.bw_versions.specs.Holds.{versioned, HasStart, IsHeld}
use Rattle.bw_versions.proofs.versions.Versions.publish_up_to.Goals as goal
use Rattle.bw_versions.proofs.versions.Versions.publish_up_to.Goals.{in-Ok, in-Err-Entered, in-Err-Back}

pub returns-then-is_empty-clause-idle : goal.returns-then-is_empty-clause-idle
returns-then-is_empty-clause-idle g c up =
    let seen = c.self.view_is in
    let level = ap (λ (v : Versioned). v.published) seen ∙ sym up.all ∙ sym (ap (λ (v : Versioned). v.entered) seen) in
    let done = c.catch_up.ensures.idle level in
    (ap (λ (p : Publishing). versioned (record c.self.inside { publisher = p })) done.0 ∙ seen, done.1)

-- ---- one batch more

entries-more : (log : List BatchData) (b : BatchData) → entries_of (log ++ b ∷ []) ≡ entries_of log ++ b.entries
entries-more log b =
    flat_map-append (λ (x : BatchData). x.entries) log (b ∷ []) ∙ ap (λ (es : List Entry). entries_of log ++ es) (append-nil b.entries)

count-more : (log : List BatchData) (b : BatchData) (fresh : List Entry) (end : ℕ) → length (entries_of log) + length fresh ≡ end → b.entries ≡ fresh
    → end ≡ length (entries_of (log ++ b ∷ []))
count-more log b fresh end e d =
    let parts = length-append (entries_of log) b.entries in
    let added = ap length d in
    let all = ap length (entries-more log b) in
    omega arith

start-more : (log : List BatchData) (b : BatchData) (start : Shown) (kept : Option Shown) → HasStart start log kept → b.start ≡ kept
    → HasStart start (log ++ b ∷ []) None
start-more log b start (Some leaves) h e =
    subst (λ (l : List BatchData). HasStart start (l ++ b ∷ []) None) (sym h.1)
    (ap (λ s. begun s b.entries) e ∙ (λ i. Some (record { start = h.0 i; entries = sym (append-nil b.entries) i })))
start-more log b start None h e =
    fold_push brings None log b ∙ ap (λ (p : Option Posted). brings p b) h
    ∙ ap (λ (es : List Entry). let p : Posted = record { start = start; entries = es } in Some p) (sym (entries-more log b))

pub invariant_of-self-2 : goal.invariant_of-self-2
invariant_of-self-2 g c =
    let held = c.self.invariant in
    let old = c.self.inside.publisher.entered.log in
    let batch = c.of-batch.result in
    let brought = ap (λ (b : BatchData). b.start) c.of-batch.ensures ∙ c.take.ensures.value in
    let news = ap (λ (b : BatchData). b.entries) c.of-batch.ensures ∙ c.in_ok-entries.ensures in
    let wide = subst (λ (v : Versioned). length (entries_of v.entered) + length c.args.fresh.now ≡ c.args.end) (sym c.self.view_is) c.requires in
    let more = count-more old batch c.args.fresh.now c.args.end wide news in
    let start = start-more old batch c.self.inside.began.value c.self.inside.start held.start brought in
    let Starts : List BatchData × Option Shown → Type 0 = λ x. HasStart c.self.inside.began.value x.0 x.1 in
    elim c.match-publish.branch [
      | in-Ok w ↦
          let log = ap (λ (r : Reach). r.log) w.in-Ok.ensures.added.1 ∙ w.in-Ok.ensures.added.0 in
          subst IsHeld (sym w.self-inside-is) (record {
            here = held.here;
            start = subst Starts (λ i. (sym log i, sym c.take.ensures.after i)) start;
            count = more ∙ ap (λ l. length (entries_of l)) (sym log);
          })
      | in-Err-Entered w ↦
          let log = subst (WasKept batch old c.publish.new.self.entered.log) w.in-Err-Entered.field-0-is w.in-Err-Entered.ensures.kept in
          subst IsHeld (sym w.self-inside-is) (record {
            here = held.here;
            start = subst Starts (λ i. (sym log i, sym c.take.ensures.after i)) start;
            count = more ∙ ap (λ l. length (entries_of l)) (sym log);
          })
      | in-Err-Back w ↦
          let kept = subst (WasKept batch old c.publish.new.self.entered.log) w.in-Err-Back.field-0-is w.in-Err-Back.ensures.kept in
          let given = w.into_start.ensures ∙ ap (λ (b : BatchData). b.start) kept.0 ∙ brought in
          subst IsHeld (sym w.self-inside-is) (record {
            here = held.here;
            start = subst Starts (λ i. (sym kept.1 i, sym given i)) held.start;
            count = held.count ∙ ap (λ l. length (entries_of l)) (sym kept.1);
          })
    ]

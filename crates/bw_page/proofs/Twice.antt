-- Records applied twice in a row do what they do once.

use Rattle.std.proofs.Common.{◌≡◌, true, false, cond, Option, List, [], ◌∷◌, refl, sym, ap, ◌∙◌, ◌⊎◌, inl, inr}
use Rattle.std.proofs.lemmas.List.Sums.{fold-append}
use Rattle.std.specs.List.{fold}
use Rattle.std.specs.Ordering.{eq_by_cmp}
use Rattle.std.specs.FinMap.Entries.{find, same_entries}
use Rattle.bw_record.specs.Record.{key_of}
use Rattle.bw_record.specs.declared.leaf.Leaf.{Leaf}
use Rattle.bw_record.specs.declared.record.Record.{Record}
use Rattle.bw_record.proofs.Order.{order-same, order-total}
use Rattle.bw_leaf.specs.Changed.{Bytes, Pairs, order, changed_pairs, changed, all_changed}
use Rattle.bw_page.specs.Laws.{TwiceIsOnce, ReadsOverNewer}
use Rattle.bw_leaf.proofs.Sorted.{Rises, ascends_rises, rises_T, rises-changed, value_of, find-changed}

-- pairs after records
pairs_after : List Record → Pairs → Pairs
pairs_after records ps = fold (λ x r. changed_pairs r x) ps records

all_changed-pairs : (records : List Record) (leaf : Leaf) → all_changed records leaf ≡ record leaf { pairs = pairs_after records leaf.pairs }
unfolding pairs_after
all_changed-pairs [] leaf = refl
all_changed-pairs (r ∷ rs) leaf = all_changed-pairs rs (changed r leaf)

rises-after : (records : List Record) (ps : Pairs) → Rises ps → Rises (pairs_after records ps)
unfolding pairs_after
rises-after [] ps h = h
rises-after (r ∷ rs) ps h = rises-after rs (changed_pairs r ps) (rises-changed r ps h)

-- what records make of the look-up of a key
abbrev told_of : Bytes → List Record → Option Bytes → Option Bytes
told_of q [] found = found
told_of q (r ∷ rs) found = told_of q rs (cond (eq_by_cmp order q (key_of r)) (value_of r) found)

find-after : (q : Bytes) (records : List Record) (ps : Pairs) → Rises ps → find order q (pairs_after records ps) ≡ told_of q records (find order q ps)
unfolding pairs_after
find-after q [] ps h = refl
find-after q (r ∷ rs) ps h = find-after q rs (changed_pairs r ps) (rises-changed r ps h) ∙ ap (told_of q rs) (find-changed q r ps h)

-- records say nothing of a key, or one word whatever was there
one_word : (q : Bytes) (records : List Record)
    → ((v : Option Bytes) → told_of q records v ≡ v) ⊎ ((w : Option Bytes) × ((v : Option Bytes) → told_of q records v ≡ w))
one_word q [] = inl (λ v. refl)
one_word q (r ∷ rs) =
    elim (one_word q rs) [
      | inr word ↦ inr (word.0, λ v. word.1 (cond (eq_by_cmp order q (key_of r)) (value_of r) v))
      | inl none ↦ elim (eq_by_cmp order q (key_of r)) as
          (λ b. eq_by_cmp order q (key_of r) ≡ b → ((v : Option Bytes) → told_of q (r ∷ rs) v ≡ v)
          ⊎ ((w : Option Bytes) × ((v : Option Bytes) → told_of q (r ∷ rs) v ≡ w))) [
            | true ↦ λ e. inr (value_of r, λ v. none (cond (eq_by_cmp order q (key_of r)) (value_of r) v) ∙ ap (λ b. cond b (value_of r) v) e)
            | false ↦ λ e. inl (λ v. none (cond (eq_by_cmp order q (key_of r)) (value_of r) v) ∙ ap (λ b. cond b (value_of r) v) e)
          ] refl
    ]

words-twice : (q : Bytes) (records : List Record) (v : Option Bytes) → told_of q records (told_of q records v) ≡ told_of q records v
words-twice q records v = elim (one_word q records) [ inl none ↦ none (told_of q records v) | inr word ↦ word.1 (told_of q records v) ∙ sym (word.1 v) ]

pairs-twice : (records : List Record) (ps : Pairs) → Rises ps → pairs_after records (pairs_after records ps) ≡ pairs_after records ps
pairs-twice records ps h =
    let once = rises-after records ps h in
    same_entries order order-total order-same (pairs_after records (pairs_after records ps)) (pairs_after records ps)
    (rises_T (pairs_after records (pairs_after records ps)) (rises-after records (pairs_after records ps) once)) (rises_T (pairs_after records ps) once)
    (λ q. find-after q records (pairs_after records ps) once ∙ ap (told_of q records) (find-after q records ps h)
    ∙ words-twice q records (find order q ps) ∙ sym (find-after q records ps h))

pub twice : TwiceIsOnce
twice leaf records h =
    ap (all_changed records) (all_changed-pairs records leaf)
    ∙ all_changed-pairs records (record leaf { pairs = pairs_after records leaf.pairs })
    ∙ ap (λ (ps : Pairs). record leaf { pairs = ps }) (pairs-twice records leaf.pairs (ascends_rises leaf.pairs h))
    ∙ sym (all_changed-pairs records leaf)

pub over_newer : ReadsOverNewer
over_newer leaf old new h =
    fold-append (λ l r. changed r l) (all_changed old leaf) old new
    ∙ ap (all_changed new) (twice leaf old h)
    ∙ sym (fold-append (λ l r. changed r l) leaf old new)

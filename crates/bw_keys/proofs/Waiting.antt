-- Records in an order that fills pages: a key that ascends is none of those that wait.

use Rattle.std.proofs.Common.{◌≡◌, ℕ, Bool, true, false, List, [], ◌∷◌, ◌++◌, map, cond, refl, sym, ap, ◌∙◌, subst}
use Rattle.std.specs.Prelude.{Option, Some, None, not, ◌&&◌, if◌then◌else◌}
use Rattle.std.specs.Ordering.{is_eq}
use Rattle.bw_record.specs.declared.record.Record.{Record}
use Rattle.bw_record.specs.Keys.{order, is_below}
use Rattle.bw_record.specs.Record.{key_of}
use Rattle.bw_record.proofs.Order.{below_apart, below_upto, below-upto, upto-below, upto-refl}
use Rattle.bw_keys.specs.declared.held.Waiting.{Waiting}
use Rattle.bw_keys.specs.Keyed.{Follows, is_upto, are_upto}
use Rattle.bw_keys.specs.Held.{of_key}

both : (a b : Bool) → (a && b) ≡ true → (a ≡ true) × (b ≡ true)
both true true e = (refl, refl)
both true false e = absurd cc
both false b e = absurd cc

join : (a b : Bool) → a ≡ true → b ≡ true → (a && b) ≡ true
join true true e f = refl
join true false e f = absurd cc
join false b e f = absurd cc

not_it : (a : Bool) → not a ≡ true → a ≡ false
not_it false e = refl
not_it true e = absurd cc

upto_next : (last now : Option (List ℕ)) (key other : List ℕ) → Follows last now key → is_upto last other ≡ true → is_upto now other ≡ true
upto_next None now key other follows upto = absurd follows
upto_next (Some last) now key other follows upto =
    ap (λ l. is_upto l other) follows.1 ∙ ap not (below_upto other key (upto-below other last key (not_it _ upto) follows.0))

-- those that wait are not above the next key either
pub all_upto : (last now : Option (List ℕ)) (key : List ℕ) (keys : List (List ℕ)) → Follows last now key → are_upto last keys ≡ true → are_upto now keys ≡ true
all_upto last now key [] follows all = refl
all_upto last now key (k ∷ keys) follows all =
    let split = both (is_upto last k) (are_upto last keys) all in
    join (is_upto now k) (are_upto now keys) (upto_next last now key k follows split.0) (all_upto last now key keys follows split.1)

-- nor is that key itself
own_upto : (last now : Option (List ℕ)) (key : List ℕ) → Follows last now key → is_upto now key ≡ true
own_upto None now key follows = absurd follows
own_upto (Some last) now key follows = ap (λ l. is_upto l key) follows.1 ∙ ap not (upto-refl key)

all_then : (last : Option (List ℕ)) (waiting : List Waiting) (w : Waiting) → are_upto last (map (λ w. key_of w.item) waiting) ≡ true
    → is_upto last (key_of w.item) ≡ true → are_upto last (map (λ w. key_of w.item) (waiting ++ w ∷ [])) ≡ true
all_then last [] w all upto = join (is_upto last (key_of w.item)) true upto refl
all_then last (v ∷ waiting) w all upto =
    let split = both (is_upto last (key_of v.item)) (are_upto last (map (λ w. key_of w.item) waiting)) all in
    join (is_upto last (key_of v.item)) _ split.0 (all_then last waiting w split.1 upto)

-- one more waits
pub one_waits : (last now : Option (List ℕ)) (waiting later : List Waiting) (w : Waiting) → Follows last now (key_of w.item) → later ≡ waiting ++ w ∷ []
    → are_upto last (map (λ w. key_of w.item) waiting) ≡ true → are_upto now (map (λ w. key_of w.item) later) ≡ true
one_waits last now waiting later w follows same all =
    ap (λ (ws : List Waiting). are_upto now (map (λ w. key_of w.item) ws)) same
    ∙ all_then now waiting w (all_upto last now (key_of w.item) _ follows all) (own_upto last now (key_of w.item) follows)

-- one more may wait
pub one_may_wait : (ok : Bool) (last now : Option (List ℕ)) (waiting later : List Waiting) (w : Waiting) → Follows last now (key_of w.item)
    → later ≡ (if ok then waiting ++ w ∷ [] else waiting) → are_upto last (map (λ w. key_of w.item) waiting) ≡ true
    → are_upto now (map (λ w. key_of w.item) later) ≡ true
one_may_wait true last now waiting later w follows same all = one_waits last now waiting later w follows same all
one_may_wait false last now waiting later w follows same all =
    ap (λ (ws : List Waiting). are_upto now (map (λ w. key_of w.item) ws)) same ∙ all_upto last now (key_of w.item) _ follows all

apart : (last now : Option (List ℕ)) (key other : List ℕ) → Follows last now key → is_upto last other ≡ true → is_eq (order other key) ≡ false
apart None now key other follows upto = absurd follows
apart (Some last) now key other follows upto = below_apart other key (upto-below other last key (not_it _ upto) follows.0)

-- none that waits has the next key
pub none_waits : (last now : Option (List ℕ)) (key : List ℕ) (waiting : List Waiting) → Follows last now key
    → are_upto last (map (λ w. key_of w.item) waiting) ≡ true → of_key key (map (λ w. w.item) waiting) ≡ []
none_waits last now key [] follows all = refl
none_waits last now key (w ∷ waiting) follows all =
    let split = both (is_upto last (key_of w.item)) (are_upto last (map (λ w. key_of w.item) waiting)) all in
    ap (λ b. cond b (w.item ∷ of_key key (map (λ v. v.item) waiting)) (of_key key (map (λ v. v.item) waiting))) (apart last now key (key_of w.item) follows split.0)
    ∙ none_waits last now key waiting follows split.1

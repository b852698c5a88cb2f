-- A key is wanted if it is neither below all that are nor above all of them.

use Rattle.std.proofs.Common.{◌≡◌, ℕ, ◌≤◌, Bool, true, false, not, ◌&&◌, ◌||◌, nat_eq, inl, inr, List, [], ◌∷◌, length, Option, Some, None, refl, ap, ◌∙◌, arith}
use Rattle.std.specs.List.{starts_with}
use Rattle.std.proofs.lemmas.Bool.{eqb-true}
use Rattle.std.proofs.lemmas.Bool.Decides.{nat_tests}
use Rattle.bw_record.specs.Keys.{is_below}
use Rattle.bw_record.proofs.Order.{Below, first_or_rest, must_be, must_not, upto-antisymm}
use Rattle.bw_keys.specs.Spans.{is_from, is_behind, begins, is_wanted, has_begun, is_over, is_to}
use Rattle.bw_keys.specs.declared.span.Span.{Span}

both : (a b : Bool) → a && b ≡ true → (a ≡ true) × (b ≡ true)
both true b h = (refl, h)
both false b h = cc h

-- a key is not below what it begins with
beginning : (prefix key : List ℕ) → Below key prefix → starts_with nat_eq key prefix ≡ true → ⊥
beginning [] [] below h = cc below
beginning [] (x ∷ key) below h = cc below
beginning (p ∷ prefix) [] below h = cc h
beginning (p ∷ prefix) (x ∷ key) below h =
    let parts = both (nat_eq p x) (starts_with nat_eq key prefix) h in
    let same : p ≡ x = eqb-true p x parts.0 in
    elim (first_or_rest x p key prefix below) [
      | inl less ↦ omega arith
      | inr rest ↦ beginning prefix key rest.1 parts.1
    ]

nat_eq-self : (x : ℕ) → nat_eq x x ≡ true
nat_eq-self x = grind (arith, nat_tests)

itself : (key : List ℕ) → starts_with nat_eq key key ≡ true
itself [] = refl
itself (x ∷ key) = rw (nat_eq-self x, itself key) refl

of_same : (key prefix : List ℕ) → key ≡ prefix → starts_with nat_eq key prefix ≡ false → ⊥
of_same key prefix same h =
    let yes : starts_with nat_eq key prefix ≡ true = rw same (itself prefix) in
    cc

joined : (f t s c b : Bool) → (s ≡ true → c ≡ false) → (s ≡ false → c ≡ false → b ≡ true)
    → (f && not c) && not (not t || (not s && b)) ≡ f && t && s
joined false t s c b h k = refl
joined true true true false b h k = refl
joined true false true false b h k = refl
joined true t true true b h k = cc (h refl)
joined true true false true b h k = refl
joined true false false true b h k = refl
joined true true false false true h k = refl
joined true false false false true h k = refl
joined true t false false false h k = cc (k refl refl)

prefixed : (f t : Bool) (prefix : Option (List ℕ)) (key : List ℕ)
    → (f && is_from prefix key) && not (not t || is_behind prefix key) ≡ f && t && begins prefix key
prefixed false t None key = refl
prefixed true true None key = refl
prefixed true false None key = refl
prefixed f t (Some prefix) key =
    joined f t (starts_with nat_eq key prefix) (is_below key prefix) (is_below prefix key)
    (λ s. must_not _ (λ below. beginning prefix key below s))
    (λ s c. must_be _ (λ b. of_same key prefix (upto-antisymm key prefix b c) s))

pub wanted : (span : Span) (key : List ℕ) → has_begun span key && not (is_over span key) ≡ is_wanted span key
wanted span key = prefixed (is_from span.from key) (is_to span.to key) span.prefix key

pub wanted_then : (span : Span) (key : List ℕ) (o : Bool) → true ≡ has_begun span key → o ≡ is_over span key → not o ≡ is_wanted span key
wanted_then span key o begun e = ap not e ∙ ap (λ b. b && not (is_over span key)) begun ∙ wanted span key

pub wanted_else : (span : Span) (key : List ℕ) → false ≡ has_begun span key → false ≡ is_wanted span key
wanted_else span key begun = ap (λ b. b && not (is_over span key)) begun ∙ wanted span key

-- ---- where the wanted keys begin

not_true : (b : Bool) → not b ≡ true → b ≡ false
not_true true h = cc h
not_true false h = refl

-- the three tests of a key that is wanted
three : (f t b : Bool) → f && t && b ≡ true → (f ≡ true) × (t ≡ true) × (b ≡ true)
three true true b h = (refl, refl, h)
three true false b h = cc h
three false t b h = cc h

pub from_kept : (span : Span) (from key : List ℕ) → span.from ≡ Some from → is_wanted span key ≡ true → is_below key from ≡ false
from_kept span from key is wanted =
    let test = (three (is_from span.from key) (is_to span.to key) (begins span.prefix key) wanted).0 in
    not_true (is_below key from) (rw is at test)

pub prefix_kept : (span : Span) (prefix key : List ℕ) → span.prefix ≡ Some prefix → is_wanted span key ≡ true → is_below key prefix ≡ false
prefix_kept span prefix key is wanted =
    let test = (three (is_from span.from key) (is_to span.to key) (begins span.prefix key) wanted).2 in
    must_not _ (λ below. beginning prefix key below (rw is at test))

none_below : (key : List ℕ) → Below key [] → ⊥
none_below [] below = cc below
none_below (x ∷ key) below = cc below

pub least_kept : (key : List ℕ) → 1 ≤ length key → is_below key (0 ∷ []) ≡ false
least_kept [] h = absurd (omega arith)
least_kept (x ∷ key) h =
    must_not _ (λ below. elim (first_or_rest x 0 key [] below) [
      | inl less ↦ omega arith
      | inr rest ↦ none_below key rest.1
    ])

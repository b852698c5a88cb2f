-- What a reader has shown of a line, and the line.

use Rattle.std.proofs.Common.{◌≡◌, ◌≢◌, ℕ, zero, suc, ◌+◌, ◌-◌, ◌<◌, ◌≤◌, min, Bool, true, false, eqb, cond, length-append, List, [], ◌∷◌, ◌++◌, All, None, Some, Option, Result, Ok, Err, IfSome, length, take, drop, get_or, refl, sym, ap, subst, ◌∙◌, arith, append_assoc, append-nil, take_all, take-take, take-append-drop, eq-eqb, eqb-true, ne_eqb, zero-le, le_refl, drop_of_length-le, drop_at, ◌||◌, ◌⊎◌, length-take, length-take-le, true≢false, zero-lt-suc, suc-le-suc, le_of_suc-le-suc}
use Rattle.std.proofs.lemmas.List.Elements.{All-head, All-tail, All-take, All-append}
use Rattle.std.proofs.lemmas.List.Quantifiers.{position-Some}
use Rattle.std.proofs.lemmas.List.Sums.{fails_before_first}
use Rattle.std.proofs.lemmas.Bool.{cond-true, cond-false}
use Rattle.std.proofs.lemmas.Grind.{common_steps}
use Rattle.std.proofs.Math.Seq.{take-append_seam, drop-append-add}
use Rattle.std.specs.List.{position, position_or_len}
use Rattle.std.specs.Io.{StartsWith}
use Rattle.std.specs.Io.KnownBytes.{Consumes}
use Rattle.std.specs.Io.BufRead.{take_through, drop_through}
use Rattle.std.proofs.BufReadLemmas.{take_through-append, drop_through-append}
use Rattle.bw_pairs.specs.Inputs.{is_lf, front}

-- no byte is an LF
abbrev pub NoEnd : List ℕ → Type 0
NoEnd bytes = All (λ byte. byte ≢ 10) bytes

pub other : (byte : ℕ) → is_lf byte ≡ false → byte ≢ 10
other byte h e = true≢false (sym (eq-eqb byte 10 e) ∙ h)

-- ---- what is shown

through_at : (xs rest : List ℕ) (i : ℕ) → i < length xs → ((k : ℕ) → k < i → get_or xs k 0 ≢ 10) → get_or xs i 0 ≡ 10
    → take_through 10 (xs ++ rest) ≡ take (suc i) xs
through_at [] rest i lt before here = absurd (omega arith)
through_at (x ∷ xs) rest zero lt before here = cond-true _ _ _ (eq-eqb x 10 here)
through_at (x ∷ xs) rest (suc i) lt before here =
    cond-false _ _ _ (ne_eqb x 10 (before 0 (zero-lt-suc i)))
    ∙ ap (λ l. x ∷ l) (through_at xs rest i (le_of_suc-le-suc lt) (λ k h. before (suc k) (suc-le-suc h)) here)

-- an LF among the bytes that count ends the line
pub found : (shown : List ℕ) (most m i : ℕ) → m ≤ length shown → m ≤ most → position is_lf (take m shown) ≡ Some i
    → (i + 1 ≤ m) × ((rest : List ℕ) → front most (shown ++ rest) ≡ take (i + 1) shown)
found shown most m i inside short e =
    let at = position-Some is_lf (take m shown) i 0 e in
    let long : length (take m shown) ≡ m = length-take-le m shown inside in
    let fits : suc i ≤ m = omega (arith, at.0, long) in (
      omega (arith, fits),
      λ rest.
          let joined : take m shown ++ (drop m shown ++ rest) ≡ shown ++ rest = sym (append_assoc (take m shown) (drop m shown) rest) ∙ ap (λ l. l ++ rest) (take-append-drop m shown) in
          let whole : take_through 10 (shown ++ rest) ≡ take (suc i) shown =
          ap (take_through 10) (sym joined) ∙ through_at (take m shown) (drop m shown ++ rest) i at.0 (λ k lt. other _ (at.2 k lt)) (eqb-true _ _ at.1) ∙ take-take (suc i) m shown fits in
          ap (take most) whole ∙ take_all most (take (suc i) shown) (omega (arith, length-take (suc i) shown)) ∙ ap (λ n. take n shown) {x = suc i} {y = i + 1} (omega arith),
    )

-- there is none
pub missing : (xs : List ℕ) → position is_lf xs ≡ None → NoEnd xs
missing xs e k d lt is =
    let all : length xs ≤ position_or_len is_lf xs = grind (arith, common_steps) in
    other (get_or xs k d) (fails_before_first is_lf xs k d (omega arith)) is

-- as many bytes as count
full : (shown rest : List ℕ) (m : ℕ) → m ≤ length shown → NoEnd (take m shown) → front m (shown ++ rest) ≡ take m shown
full shown rest m inside none =
    let joined : take m shown ++ (drop m shown ++ rest) ≡ shown ++ rest = sym (append_assoc (take m shown) (drop m shown) rest) ∙ ap (λ l. l ++ rest) (take-append-drop m shown) in
    let long : length (take m shown) ≡ m = length-take-le m shown inside in
    ap (λ l. take m (take_through 10 l)) (sym joined) ∙ ap (take m) (take_through-append 10 (take m shown) _ none)
    ∙ ap (λ n. take n (take m shown ++ take_through 10 (drop m shown ++ rest))) (sym long) ∙ take-append_seam (take m shown) _

-- no byte is left
over : (shown rest : List ℕ) (most : ℕ) → length shown ≡ 0 → (length shown ≡ 0 → rest ≡ []) → front most (shown ++ rest) ≡ []
over [] rest most none end = rw (end refl) (drop_nil most)
  where
    drop_nil : (n : ℕ) → take {A = ℕ} n [] ≡ []
    drop_nil zero = refl
    drop_nil (suc n) = refl
over (x ∷ xs) rest most none end = absurd (omega arith)

pub enough : (shown : List ℕ) (most m : ℕ) → m ≡ min (length shown) most → NoEnd (take m shown) → 0 < most
    → (eqb m 0 || eqb m most) ≡ true → (rest : List ℕ) → (length shown ≡ 0 → rest ≡ []) → front most (shown ++ rest) ≡ take m shown
enough shown most m is none some h rest end = at (eqb m 0) (eqb m most) refl refl h
  where
    at : (a b : Bool) → eqb m 0 ≡ a → eqb m most ≡ b → (a || b) ≡ true → front most (shown ++ rest) ≡ take m shown
    at true b e f h =
        let zero : m ≡ 0 = eqb-true m 0 e in
        over shown rest most (omega arith) end ∙ ap (λ n. take n shown) (sym zero)
    at false true e f h =
        let same : m ≡ most = eqb-true m most f in
        ap (λ n. front n (shown ++ rest)) (sym same) ∙ full shown rest m (omega arith) none
    at false false e f h = absurd (true≢false (sym h))

pub not_enough : (len most m : ℕ) → m ≡ min len most → (eqb m 0 || eqb m most) ≡ false → m < most
not_enough len most m is h = at (eqb m 0) (eqb m most) refl h
  where
    at : (a b : Bool) → eqb m most ≡ b → (a || b) ≡ false → m < most
    at true b f h = absurd (true≢false h)
    at false true f h = absurd (true≢false h)
    at false false f h =
        let differ : m ≢ most = λ e. true≢false (sym (eq-eqb m most e) ∙ f) in
        omega (arith, differ)

-- ---- what is read

pub weaker : (o : Option (List ℕ)) (P Q : List ℕ → Type 0) → ((xs : List ℕ) → P xs → Q xs) → IfSome o P → IfSome o Q
weaker None P Q f h = h
weaker (Some xs) P Q f h = f xs h

-- the bytes that a reader has left begin with those that it showed
pub whole_front : (a : Option (List ℕ)) (shown bytes : List ℕ) (most : ℕ) → IfSome a (λ xs. StartsWith xs shown) → IfSome a (λ xs. length shown ≡ 0 → xs ≡ [])
    → ((rest : List ℕ) → (length shown ≡ 0 → rest ≡ []) → front most (shown ++ rest) ≡ bytes) → IfSome a (λ left. bytes ≡ front most left)
whole_front None shown bytes most begins end h = tt
whole_front (Some xs) shown bytes most begins end h =
    let rest = drop (length shown) xs in
    let parts : xs ≡ shown ++ rest = sym (take-append-drop (length shown) xs) ∙ ap (λ l. l ++ rest) begins in
    sym (ap (front most) parts ∙ h rest (λ none. ap (drop (length shown)) (end none) ∙ drop_of_length-le [] {i = length shown} zero-le))

pub take_past : (xs ys : List ℕ) (n : ℕ) → length xs ≤ n → take n (xs ++ ys) ≡ xs ++ take (n - length xs) ys
take_past [] ys n h = ap (λ k. take k ys) {x = n} {y = n - 0} (omega arith)
take_past (x ∷ xs) ys zero h = absurd (omega arith)
take_past (x ∷ xs) ys (suc n) h =
    ap (λ l. x ∷ l) (take_past xs ys n (omega arith)) ∙ ap (λ k. x ∷ xs ++ take k ys) {x = n - length xs} {y = suc n - length (x ∷ xs)} (omega arith)

-- a beginning without an LF, and the front after it
pub joined : (a b c : Option (List ℕ)) (done bytes : List ℕ) (most : ℕ) → Consumes a b done → Consumes b c bytes → NoEnd done → length done ≤ most
    → IfSome b (λ left. bytes ≡ front (most - length done) left)
    → IfSome a (λ left. (done ++ bytes ≡ front most left) × (c ≡ Some (drop (length (front most left)) left)))
joined None b c done bytes most p q none short whole = tt
joined (Some x) None c done bytes most p q none short whole = absurd p
joined (Some x) (Some y) None done bytes most p q none short whole = absurd q
joined (Some x) (Some y) (Some z) done bytes most p q none short whole =
    let same : done ++ bytes ≡ front most x =
    sym (ap (front most) p ∙ ap (take most) (take_through-append 10 done y none) ∙ take_past done (take_through 10 y) most short ∙ ap (λ l. done ++ l) (sym whole)) in
    let left : x ≡ (done ++ bytes) ++ z = p ∙ ap (λ l. done ++ l) q ∙ sym (append_assoc done bytes z) in
    (same, ap Some (sym (ap (λ l. drop (length l) x) (sym same) ∙ ap (drop (length (done ++ bytes))) left ∙ drop_at (done ++ bytes) z (length (done ++ bytes)) refl)))

-- ---- answers of a step

abbrev told : {E : Type 0} → Result Bool E → Bool
told (Ok is) = is
told (Err e) = false

pub told_true : {E : Type 0} (is : Bool) → ◌≡◌ {A = Result Bool E} (Ok is) (Ok true) → is ≡ true
told_true is e = ap told e

pub told_false : {E : Type 0} (is : Bool) → ◌≢◌ {A = Result Bool E} (Ok is) (Ok true) → is ≡ false
told_false true h = absurd (h refl)
told_false false h = refl

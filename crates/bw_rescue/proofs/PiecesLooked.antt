-- The pieces of a file, looked at one after the other.

use Rattle.std.proofs.Common.{◌≡◌, ℕ, zero, suc, ◌+◌, ◌-◌, ◌<◌, ◌≤◌, ◌==◌, ◌||◌, Bool, true, false, Option, Some, None, List, [], ◌∷◌, ◌++◌, length, map, take, drop, get_or, slice_get, refl, sym, ap, subst, ◌∙◌, arith, add-one, length-drop}
use Rattle.std.proofs.Math.Seq.{take-length}
use Rattle.std.specs.Prelude.{MatchOption}
use Rattle.std.specs.Option.{option_map}
use Rattle.std.proofs.lemmas.List.{length-map}
use Rattle.std.proofs.lemmas.Option.{slice_get-map, slice_get-get_or}
use Rattle.std.proofs.lemmas.Bool.{ne_eqb}
use Rattle.std.proofs.lemmas.List.Folds.{list_any-append}
use Rattle.bw_digest.specs.Digest.{digest}
use Rattle.bw_digest.specs.Sums.{Reach, after, follows, piece_to, standing, sum_in}
use Rattle.bw_digest.specs.declared.sum.Sum.{Sum}
use Rattle.bw_digest.proofs.Walking.{ended, goes_on}
use Rattle.bw_rescue.specs.declared.pieces.Piece.{Piece}
use Rattle.bw_rescue.specs.Hurt.{Cut, cut_of, spans, is_hurt_in, is_hurt_after, is_hurt_at, Follow, last_end, ArePassed}

-- ---- those that end before an offset

pub passed_suc : (at n : ℕ) (cs : List Cut) (c : Cut) → ArePassed at n cs → slice_get cs n ≡ Some c → c.to ≤ at → ArePassed at (suc n) cs
passed_suc at n [] c passed is here = tt
passed_suc at zero (x ∷ cs) c passed is here = (let same : x ≡ c = cc in (subst (λ (y : Cut). y.to ≤ at) (sym same) here, tt))
passed_suc at (suc n) (x ∷ cs) c passed is here = (passed.0, passed_suc at n cs c passed.1 is here)

pub passed_more : (at n : ℕ) (cs : List Cut) (c : Cut) → ArePassed at n cs → slice_get cs n ≡ Some c → c.to ≤ at → ArePassed at (n + 1) cs
passed_more at n cs c passed is here = subst (λ (k : ℕ). ArePassed at k cs) (sym (add-one n)) (passed_suc at n cs c passed is here)

pub passed_less : (at m n : ℕ) (cs : List Cut) → m ≤ n → ArePassed at n cs → ArePassed at m cs
passed_less at zero n cs less passed = tt
passed_less at (suc m) zero cs less passed = (let never : ⊥ = omega (arith, less) in absurd never)
passed_less at (suc m) (suc n) [] less passed = tt
passed_less at (suc m) (suc n) (c ∷ cs) less passed = (passed.0, passed_less at m n cs (omega (arith, less)) passed.1)

pub passed_later : (at later n : ℕ) (cs : List Cut) → at ≤ later → ArePassed at n cs → ArePassed later n cs
passed_later at later zero cs above passed = tt
passed_later at later (suc n) [] above passed = tt
passed_later at later (suc n) (c ∷ cs) above passed = (let a = passed.0 in omega (arith, a, above), passed_later at later n cs above passed.1)

-- ---- a piece from an offset on

other_from : (from to : ℕ) (c : Cut) → (c.from ≡ from → ⊥) → spans from to c ≡ false
other_from from to c isnt = rw (ne_eqb c.from from isnt) refl

pub above_it : (at to : ℕ) (c : Cut) → at < c.from → spans at to c ≡ false
above_it at to c above = other_from at to c (λ same. omega (arith, above, same))

later_not : (at to low : ℕ) (cs : List Cut) → Follow low cs → at < low → is_hurt_in cs at to ≡ false
later_not at to low [] follow below = refl
later_not at to low (c ∷ cs) follow below =
    let is = follow.0 in
    let long = follow.1 in
    ap (λ (b : Bool). b || is_hurt_in cs at to) (other_from at to c (λ same. omega (arith, is, below, same)))
    ∙ later_not at to c.to cs follow.2 (omega (arith, long, below))

or_false : (b : Bool) → (b || false) ≡ b
or_false true = refl
or_false false = refl

pub here : (at to low n : ℕ) (cs : List Cut) (c : Cut) → Follow low cs → ArePassed at n cs → slice_get cs n ≡ Some c → at < c.to → is_hurt_in cs at to ≡ spans at to c
here at to low n [] c follow passed is below = cc
here at to low zero (x ∷ cs) c follow passed is below =
    let same : x ≡ c = cc in
    ap (λ (b : Bool). spans at to x || b) (later_not at to x.to cs follow.2 (subst (λ (y : Cut). at < y.to) (sym same) below))
    ∙ or_false (spans at to x) ∙ ap (spans at to) same
here at to low (suc n) (x ∷ cs) c follow passed is below =
    let is_from = follow.0 in
    let long = follow.1 in
    let ends = passed.0 in
    ap (λ (b : Bool). b || is_hurt_in cs at to) (other_from at to x (λ same. omega (arith, is_from, long, ends, same)))
    ∙ here at to x.to n cs c follow.2 passed.1 is below

pub past_all : (at to low n : ℕ) (cs : List Cut) → Follow low cs → ArePassed at n cs → length cs ≤ n → is_hurt_in cs at to ≡ false
past_all at to low n [] follow passed all = refl
past_all at to low zero (x ∷ cs) follow passed all = (let never : ⊥ = omega (arith, all) in absurd never)
past_all at to low (suc n) (x ∷ cs) follow passed all =
    let is_from = follow.0 in
    let long = follow.1 in
    let ends = passed.0 in
    ap (λ (b : Bool). b || is_hurt_in cs at to) (other_from at to x (λ same. omega (arith, is_from, long, ends, same)))
    ∙ past_all at to x.to n cs follow.2 passed.1 (omega (arith, all))

-- ---- one piece more

pub follow_more : (low : ℕ) (cs : List Cut) (c : Cut) → Follow low cs → c.from ≡ last_end low cs → c.from < c.to → Follow low (cs ++ c ∷ [])
follow_more low [] c follow is long = (is, (let a = is in omega (arith, a, long)), tt)
follow_more low (x ∷ cs) c follow is long = (follow.0, follow.1, follow_more x.to cs c follow.2 is long)

pub end_more : (low : ℕ) (cs : List Cut) (c : Cut) → last_end low (cs ++ c ∷ []) ≡ c.to
end_more low [] c = refl
end_more low (x ∷ cs) c = end_more x.to cs c

regrouped : (a x r : Bool) → ((a || (x || false)) || r) ≡ (a || (x || r))
regrouped true x r = refl
regrouped false true r = refl
regrouped false false r = refl

rest_of : (k : ℕ) (xs : List ℕ) → take (length xs - k) (drop k xs) ≡ drop k xs
rest_of k xs = ap (λ n. take n (drop k xs)) (sym (length-drop k xs)) ∙ take-length (drop k xs)

read_there : (sums : List ℕ) (k : ℕ) (s : Sum) → s ≡ sum_in (take (length sums - k) (drop k sums)) → s ≡ sum_in (drop k sums)
read_there sums k s is = is ∙ ap sum_in (rest_of k sums)

-- the piece of a sum, after a row
abbrev pub piece_at : List ℕ → Reach → Sum → Cut
piece_at bytes row s = record { from = row.end; to = s.end; fits = (digest (piece_to bytes row s.end) == s.digest) }

pub longer : (len : ℕ) (row : Reach) (s : Sum) → follows len row s ≡ true → row.end < s.end
longer len row s is = grind (arith, is)

-- no sum counts any more
pub no_more : (bytes sums : List ℕ) (n k : ℕ) (row : Reach) (s : Sum) (a all : Bool) (from to : ℕ) → s ≡ sum_in (take (length sums - k) (drop k sums))
    → follows (length bytes) row s ≡ false → (a || is_hurt_after bytes row (standing n (length bytes) row (drop k sums)) from to) ≡ all → a ≡ all
no_more bytes sums n k row s a all from to is isnt ahead =
    let none : follows (length bytes) row (sum_in (drop k sums)) ≡ false = subst (λ (t : Sum). follows (length bytes) row t ≡ false) (read_there sums k s is) isnt in
    sym (or_false a) ∙ sym (ap (λ (ss : List Sum). a || is_hurt_after bytes row ss from to) (ended n (length bytes) row (drop k sums) none)) ∙ ahead

pub one_more : (bytes sums : List ℕ) (n k : ℕ) (row new : Reach) (s : Sum) (cs : List Cut) (c : Cut) (all : Bool) (from to : ℕ)
    → s ≡ sum_in (take (length sums - k) (drop k sums)) → follows (length bytes) row s ≡ true → new ≡ after row s → c ≡ piece_at bytes row s
    → (is_hurt_in cs from to || is_hurt_after bytes row (standing (suc n) (length bytes) row (drop k sums)) from to) ≡ all
    → (is_hurt_in (cs ++ c ∷ []) from to || is_hurt_after bytes new (standing n (length bytes) new (drop 24 (drop k sums))) from to) ≡ all
one_more bytes sums n k row new s cs c all from to is next comes cut ahead =
    let there = read_there sums k s is in
    let its_next : follows (length bytes) row (sum_in (drop k sums)) ≡ true = subst (λ (t : Sum). follows (length bytes) row t ≡ true) there next in
    let is_new : new ≡ after row (sum_in (drop k sums)) = comes ∙ ap (after row) there in
    let is_cut : c ≡ piece_at bytes row (sum_in (drop k sums)) = cut ∙ ap (piece_at bytes row) there in
    let later = λ (r : Reach). is_hurt_after bytes r (standing n (length bytes) r (drop 24 (drop k sums))) from to in
    ap (λ (b : Bool). b || later new) (list_any-append (spans from to) cs (c ∷ []))
    ∙ regrouped (is_hurt_in cs from to) (spans from to c) (later new)
    ∙ ap (λ (x : Cut). is_hurt_in cs from to || (spans from to x || later new)) is_cut
    ∙ ap (λ (r : Reach). is_hurt_in cs from to || (spans from to (piece_at bytes row (sum_in (drop k sums))) || later r)) is_new
    ∙ sym (ap (λ (ss : List Sum). is_hurt_in cs from to || is_hurt_after bytes row ss from to) (goes_on (suc n) n (length bytes) row (drop k sums) refl its_next))
    ∙ ahead

-- ---- what is read of rows

pub there : (rows : List Piece) (i : ℕ) (p : Piece) → slice_get rows i ≡ Some p → slice_get (map cut_of rows) i ≡ Some (cut_of p)
there rows i p is = slice_get-map cut_of rows i ∙ ap (option_map cut_of) is

pub passed_at : (at i : ℕ) (rows : List Piece) (d : Piece) → i < length rows → (get_or rows i d).to ≤ at → ArePassed at i (map cut_of rows) → ArePassed at (i + 1) (map cut_of rows)
passed_at at i rows d within ends passed = passed_more at i (map cut_of rows) (cut_of (get_or rows i d)) passed (there rows i (get_or rows i d) (slice_get-get_or rows i d within)) ends

pub looked : (at to n : ℕ) (rows slice : List Piece) (found : Option Piece) → slice ≡ rows → found ≡ slice_get slice n
    → MatchOption (slice_get slice n) (length slice ≤ n) (λ row. at < row.to) → Follow 0 (map cut_of rows) → (ArePassed at n (map cut_of slice))
    → is_hurt_in (map cut_of rows) at to ≡ is_hurt_at found at to
looked at to n rows slice None same is next follow passed =
    let all : length slice ≤ n = subst (λ (o : Option Piece). MatchOption o (length slice ≤ n) (λ row. at < row.to)) (sym is) next in
    let cut : ArePassed at n (map cut_of rows) = subst (λ (l : List Piece). ArePassed at n (map cut_of l)) same passed in
    past_all at to 0 n (map cut_of rows) follow cut (subst (λ (k : ℕ). k ≤ n) (sym (length-map rows cut_of)) (subst (λ (l : List Piece). length l ≤ n) same all))
looked at to n rows slice (Some p) same is next follow passed =
    let below : at < p.to = subst (λ (o : Option Piece). MatchOption o (length slice ≤ n) (λ row. at < row.to)) (sym is) next in
    let cut : ArePassed at n (map cut_of rows) = subst (λ (l : List Piece). ArePassed at n (map cut_of l)) same passed in
    here at to 0 n (map cut_of rows) (cut_of p) follow cut (there rows n p (subst (λ (l : List Piece). slice_get l n ≡ Some p) same (sym is))) below

pub sliced : (at n : ℕ) (rows slice : List Piece) → slice ≡ rows → ArePassed at n (map cut_of rows) → ArePassed at n (map cut_of slice)
sliced at n rows slice same passed = subst (λ (l : List Piece). ArePassed at n (map cut_of l)) (sym same) passed

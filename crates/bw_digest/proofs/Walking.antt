-- One step over the sums that are ahead.
use Rattle.std.proofs.Common.{◌≡◌, ℕ, zero, suc, ◌-◌, true, false, List, [], ◌∷◌, length, drop, take, nat_eq, refl, sym, subst, ap, ◌∙◌, Result, Ok, Err, eq-eqb, length-drop}
use Rattle.std.proofs.Math.Seq.{take-length}
use Rattle.std.proofs.lemmas.Bool.{ne_eqb}
use Rattle.bw_digest.specs.Digest.{digest}
use Rattle.bw_digest.specs.Sums.{Reach, after, follows, piece_to, standing, sum_in, with_all}
use Rattle.bw_digest.specs.Checked.{checked}
use Rattle.bw_digest.specs.declared.sum.Sum.{Sum}

-- none counts any more
pub ended : (n len : ℕ) (row : Reach) (sums : List ℕ) → follows len row (sum_in sums) ≡ false → standing n len row sums ≡ []
ended zero len row sums not = refl
ended (suc n) len row sums not = rw not refl

-- the next one counts
pub goes_on : (n m len : ℕ) (row : Reach) (sums : List ℕ) → n ≡ suc m → follows len row (sum_in sums) ≡ true →
    standing n len row sums ≡ sum_in sums ∷ standing m len (after row (sum_in sums)) (drop 24 sums)
goes_on n m len row sums is next = rw (is, next) refl

-- its piece does not fit
stops : (bytes : List ℕ) (row : Reach) (s : Sum) (ss : List Sum) → nat_eq (digest (piece_to bytes row s.end)) s.digest ≡ false →
    checked bytes row (s ∷ ss) ≡ Err row.end
stops bytes row s ss other = rw other refl

-- its piece fits
steps : (bytes : List ℕ) (row : Reach) (s : Sum) (ss : List Sum) → nat_eq (digest (piece_to bytes row s.end)) s.digest ≡ true →
    checked bytes row (s ∷ ss) ≡ checked bytes (after row s) ss
steps bytes row s ss same = rw same refl

-- the rest of a list as a slice that is cut from it
rest_of : (k : ℕ) (xs : List ℕ) → take (length xs - k) (drop k xs) ≡ drop k xs
rest_of k xs = ap (λ n. take n (drop k xs)) (sym (length-drop k xs)) ∙ take-length (drop k xs)

-- the sum that was read is the next one ahead
read_there : (sums : List ℕ) (k : ℕ) (s : Sum) → s ≡ sum_in (take (length sums - k) (drop k sums)) → s ≡ sum_in (drop k sums)
read_there sums k s is = is ∙ ap sum_in (rest_of k sums)

-- the walk ends at a sum that does not follow
pub at_the_end : (bytes sums : List ℕ) (n k : ℕ) (row : Reach) (s : Sum) (all : Result Reach ℕ) → s ≡ sum_in (take (length sums - k) (drop k sums)) →
    follows (length bytes) row s ≡ false → checked bytes row (standing n (length bytes) row (drop k sums)) ≡ all → all ≡ Ok row
at_the_end bytes sums n k row s all is not ahead =
    let not_next : follows (length bytes) row (sum_in (drop k sums)) ≡ false = subst (λ t. follows (length bytes) row t ≡ false) (read_there sums k s is) not in
    sym ahead ∙ ap (checked bytes row) (ended n (length bytes) row (drop k sums) not_next)

-- it ends at a piece that does not fit
pub at_a_misfit : (bytes sums : List ℕ) (n k : ℕ) (row : Reach) (s : Sum) (all : Result Reach ℕ) → s ≡ sum_in (take (length sums - k) (drop k sums)) →
    follows (length bytes) row s ≡ true → (digest (piece_to bytes row s.end) ≡ s.digest → ⊥) →
    checked bytes row (standing (suc n) (length bytes) row (drop k sums)) ≡ all → all ≡ Err row.end
at_a_misfit bytes sums n k row s all is next other ahead =
    let here = read_there sums k s is in
    let its_next : follows (length bytes) row (sum_in (drop k sums)) ≡ true = subst (λ t. follows (length bytes) row t ≡ true) here next in
    let its_other : nat_eq (digest (piece_to bytes row (sum_in (drop k sums)).end)) (sum_in (drop k sums)).digest ≡ false =
    subst (λ (t : Sum). nat_eq (digest (piece_to bytes row t.end)) t.digest ≡ false) here (ne_eqb _ _ other) in
    sym ahead ∙ ap (checked bytes row) (goes_on (suc n) n (length bytes) row (drop k sums) refl its_next) ∙ stops bytes row (sum_in (drop k sums)) _ its_other

-- it goes on after a piece that fits
pub over_a_piece : (bytes sums : List ℕ) (n k : ℕ) (row new : Reach) (s : Sum) (all : Result Reach ℕ) → s ≡ sum_in (take (length sums - k) (drop k sums)) →
    follows (length bytes) row s ≡ true → digest (piece_to bytes row s.end) ≡ s.digest → new ≡ after row s →
    checked bytes row (standing (suc n) (length bytes) row (drop k sums)) ≡ all →
    checked bytes new (standing n (length bytes) new (drop 24 (drop k sums))) ≡ all
over_a_piece bytes sums n k row new s all is next same comes ahead =
    let here = read_there sums k s is in
    let its_next : follows (length bytes) row (sum_in (drop k sums)) ≡ true = subst (λ t. follows (length bytes) row t ≡ true) here next in
    let its_same : nat_eq (digest (piece_to bytes row (sum_in (drop k sums)).end)) (sum_in (drop k sums)).digest ≡ true =
    subst (λ (t : Sum). nat_eq (digest (piece_to bytes row t.end)) t.digest ≡ true) here (eq-eqb _ _ same) in
    let is_new : new ≡ after row (sum_in (drop k sums)) = comes ∙ ap (after row) here in
    ap (λ r. checked bytes r (standing n (length bytes) r (drop 24 (drop k sums)))) is_new
    ∙ sym (steps bytes row (sum_in (drop k sums)) _ its_same)
    ∙ sym (ap (checked bytes row) (goes_on (suc n) n (length bytes) row (drop k sums) refl its_next)) ∙ ahead

-- the row that is answered ends at a sum that does not follow
pub told_no_more : (sums : List ℕ) (n k len : ℕ) (row all : Reach) (s : Sum) → s ≡ sum_in (take (length sums - k) (drop k sums)) → follows len row s ≡ false →
    with_all row (standing n len row (drop k sums)) ≡ all → row ≡ all
told_no_more sums n k len row all s is not ahead =
    let not_next : follows len row (sum_in (drop k sums)) ≡ false = subst (λ t. follows len row t ≡ false) (read_there sums k s is) not in
    sym (ap (with_all row) (ended n len row (drop k sums) not_next)) ∙ ahead

-- it goes on after one that does
pub told_one_more : (sums : List ℕ) (n k len : ℕ) (row new all : Reach) (s : Sum) → s ≡ sum_in (take (length sums - k) (drop k sums)) → follows len row s ≡ true →
    new ≡ after row s → with_all row (standing (suc n) len row (drop k sums)) ≡ all → with_all new (standing n len new (drop 24 (drop k sums))) ≡ all
told_one_more sums n k len row new all s is next comes ahead =
    let here = read_there sums k s is in
    let its_next : follows len row (sum_in (drop k sums)) ≡ true = subst (λ t. follows len row t ≡ true) here next in
    let is_new : new ≡ after row (sum_in (drop k sums)) = comes ∙ ap (after row) here in
    ap (λ r. with_all r (standing n len r (drop 24 (drop k sums)))) is_new
    ∙ sym (ap (with_all row) (goes_on (suc n) n len row (drop k sums) refl its_next)) ∙ ahead

-- Sums of pieces, one after the other.
use Rattle.std.proofs.Common.{◌≡◌, refl, sym, ◌∙◌, ap, ◌≤◌, ◌<◌, ◌^◌, ℕ, ◌+◌, ◌-◌, List, [], ◌∷◌, ◌++◌, length, take, drop, take-add, min, arith}
use Rattle.std.proofs.lemmas.List.{append_assoc, append-nil, length-append, length-take, length-drop}
use Rattle.std.proofs.Math.Seq.{take-length}
use Rattle.bw_digest.specs.declared.sum.Sum.{Sum}
use Rattle.bw_digest.specs.Sums.{Reach, no_sums, after, sum_of, sum_bytes, with_all}
use Rattle.bw_digest.specs.Laws.{bytes_of, sums_of, row_bytes, AreWritten}
use Rattle.bw_file.specs.Written.{AreSumsUpTo, AreSumsOf}

-- ---- one piece more

bytes_with : (ps : List (List ℕ)) (p : List ℕ) → bytes_of (ps ++ p ∷ []) ≡ bytes_of ps ++ p
bytes_with [] p = append-nil p
bytes_with (q ∷ qs) p = ap (λ (l : List ℕ). q ++ l) (bytes_with qs p) ∙ sym (append_assoc q (bytes_of qs) p)

sums_with : (row : Reach) (ps : List (List ℕ)) (p : List ℕ)
    → sums_of row (ps ++ p ∷ []) ≡ sums_of row ps ++ sum_of (with_all row (sums_of row ps)) p ∷ []
sums_with row [] p = refl
sums_with row (q ∷ qs) p = ap (λ (l : List Sum). sum_of row q ∷ l) (sums_with (after row (sum_of row q)) qs p)

spelled_with : (ss : List Sum) (s : Sum) → row_bytes (ss ++ s ∷ []) ≡ row_bytes ss ++ sum_bytes s
spelled_with [] s = append-nil (sum_bytes s)
spelled_with (r ∷ rs) s = ap (λ (l : List ℕ). sum_bytes r ++ l) (spelled_with rs s) ∙ sym (append_assoc (sum_bytes r) (row_bytes rs) (sum_bytes s))

row_with : (row : Reach) (ss : List Sum) (s : Sum) → with_all row (ss ++ s ∷ []) ≡ after (with_all row ss) s
row_with row [] s = refl
row_with row (r ∷ rs) s = row_with (after row r) rs s

written_with : (from : ℕ) (ps : List (List ℕ)) (p : List ℕ) → AreWritten from ps → 1 ≤ length p → from + length (bytes_of ps) + length p < 2 ^ 64
    → AreWritten from (ps ++ p ∷ [])
written_with from [] p have some inside = (some, omega (arith, inside), tt)
written_with from (q ∷ qs) p have some inside =
    let long : length (q ++ bytes_of qs) ≡ length q + length (bytes_of qs) = length-append q (bytes_of qs) in
    (have.0, have.1, written_with (from + length q) qs p have.2 some (omega (arith, inside, long)))

-- ---- the sums of a list

pub none_yet : (bytes : List ℕ) → AreSumsUpTo bytes no_sums []
none_yet [] = record { pieces = []; spelled = refl; all_of = refl; have_bytes = tt; its_row = refl }
none_yet (b ∷ bs) = record { pieces = []; spelled = refl; all_of = refl; have_bytes = tt; its_row = refl }

-- the sum of the piece up to n was added
pub one_more : (bytes sums piece told new : List ℕ) (n : ℕ) (row next : Reach) (s : Sum) → AreSumsUpTo bytes row sums → row.end < n → n ≤ length bytes
    → length bytes < 2 ^ 64 → piece ≡ take (n - row.end) (drop row.end bytes) → s ≡ sum_of row piece → told ≡ sum_bytes s → next ≡ after row s
    → new ≡ sums ++ told → AreSumsUpTo bytes next new
one_more bytes sums piece told new n row next s has ahead inside short is its spelled grown added =
    let ps = has.pieces in
    let all = sums_of no_sums ps in
    let left : length (drop row.end bytes) ≡ length bytes - row.end = length-drop row.end bytes in
    let cut : length piece ≡ min (n - row.end) (length (drop row.end bytes)) = ap length is ∙ length-take (n - row.end) (drop row.end bytes) in
    let long : length piece ≡ n - row.end = omega (arith, left, cut, ahead, inside) in
    let ends : row.end + length piece ≡ row.end + (n - row.end) = ap (λ (k : ℕ). row.end + k) long in
    let had : length (bytes_of ps) ≡ min row.end (length bytes) = ap length has.all_of ∙ length-take row.end bytes in
    let sum_is : sum_of (with_all no_sums all) piece ≡ s = ap (λ (r : Reach). sum_of r piece) (sym has.its_row) ∙ sym its in
    let sums_are : sums_of no_sums (ps ++ piece ∷ []) ≡ all ++ s ∷ [] =
    sums_with no_sums ps piece ∙ ap (λ (x : Sum). all ++ x ∷ []) sum_is in
    let row_is : next ≡ with_all no_sums (sums_of no_sums (ps ++ piece ∷ [])) =
    grown ∙ ap (λ (r : Reach). after r s) has.its_row ∙ sym (row_with no_sums all s) ∙ ap (λ (l : List Sum). with_all no_sums l) (sym sums_are) in
    let end_is : next.end ≡ row.end + (n - row.end) = ap (λ (r : Reach). r.end) grown ∙ ap (λ (x : Sum). x.end) its ∙ ends in
    record {
      pieces = ps ++ piece ∷ [];
      spelled = added ∙ ap (λ (l : List ℕ). l ++ told) has.spelled ∙ ap (λ (l : List ℕ). row_bytes all ++ l) spelled
          ∙ sym (spelled_with all s) ∙ ap row_bytes (sym sums_are);
      all_of = bytes_with ps piece ∙ ap (λ (l : List ℕ). l ++ piece) has.all_of ∙ ap (λ (l : List ℕ). take row.end bytes ++ l) is
          ∙ sym (take-add row.end (n - row.end) bytes) ∙ ap (λ (k : ℕ). take k bytes) (sym end_is);
      have_bytes = written_with 0 ps piece has.have_bytes (omega (arith, long, ahead)) (omega (arith, had, long, ahead, inside, short));
      its_row = row_is;
    }

-- all of them were
pub all_summed : (bytes sums : List ℕ) (row : Reach) → AreSumsUpTo bytes row sums → row.end ≡ length bytes → AreSumsOf bytes sums
all_summed bytes sums row has whole =
    (has.pieces, has.all_of ∙ ap (λ (k : ℕ). take k bytes) whole ∙ take-length bytes, has.have_bytes, has.spelled)

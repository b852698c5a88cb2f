-- The sums of pieces that were written count, and the pieces fit them.
use Rattle.std.proofs.Common.{◌≡◌, ℕ, suc, ◌+◌, ◌-◌, ◌*◌, ◌/◌, ◌^◌, ◌<◌, ◌≤◌, ◌⊎◌, inl, inr, true, false, List, [], ◌∷◌, ◌++◌, length, drop, take, refl, sym, subst, ap, ◌∙◌, arith, append_assoc, length-append}
use Rattle.std.proofs.lemmas.Grind.{common_steps}
use Rattle.bw_digest.specs.Digest.{digest}
use Rattle.bw_digest.specs.Sums.{Reach, no_sums, after, sum_of, sum_in, sum_bytes, follows, standing, sums_in, with_all, told_end, piece_to, Fits}
use Rattle.bw_digest.specs.Laws.{bytes_of, sums_of, row_bytes, AreWritten, NothingFollows, NoFalseAlarm}
use Rattle.bw_digest.proofs.Walking.{ended, goes_on}
use Rattle.bw_digest.proofs.ReadBack.{digest_fits, mark_fits, drop_exact, take_exact, read_back, behind_sum, length_three}

-- ---- the pieces fit

-- one more piece goes in front
moved : (before p more tail : List ℕ) → before ++ ((p ++ more) ++ tail) ≡ (before ++ p) ++ (more ++ tail)
moved before p more tail = ap (λ l. before ++ l) (append_assoc p more tail) ∙ sym (append_assoc before p (more ++ tail))

-- it stands after the row
piece_is : (row : Reach) (before p more tail : List ℕ) → length before ≡ row.end →
    piece_to (before ++ ((p ++ more) ++ tail)) row (row.end + length p) ≡ p
piece_is row before p more tail is =
    let count : row.end + length p - row.end ≡ length p = omega arith in
    ap (λ n. take n (drop row.end (before ++ ((p ++ more) ++ tail)))) count
    ∙ ap (take (length p)) (drop_exact row.end before ((p ++ more) ++ tail) is)
    ∙ ap (take (length p)) (append_assoc p more tail) ∙ take_exact (length p) p (more ++ tail) refl

pub all_fit : (ps : List (List ℕ)) (row : Reach) (before tail : List ℕ) → length before ≡ row.end →
    Fits (before ++ (bytes_of ps ++ tail)) row (sums_of row ps)
all_fit [] row before tail is = tt
all_fit (p ∷ ps) row before tail is =
    let longer : length (before ++ p) ≡ row.end + length p = length-append before p ∙ ap (λ n. n + length p) is in (
      ap digest (piece_is row before p (bytes_of ps) tail is),
      subst (λ l. Fits l (after row (sum_of row p)) (sums_of (after row (sum_of row p)) ps)) (sym (moved before p (bytes_of ps) tail))
          (all_fit ps (after row (sum_of row p)) (before ++ p) tail longer),
    )

-- ---- the sums count

-- the next sum, as it was written
next : (row : Reach) (p : List ℕ) (rest : List ℕ) → row.end + length p < 2 ^ 64 → sum_in (sum_bytes (sum_of row p) ++ rest) ≡ sum_of row p
next row p rest fits = read_back (sum_of row p) rest fits (digest_fits p) (mark_fits row.mark (row.end + length p) (digest p))

-- it follows its row
follows_there : (len : ℕ) (row : Reach) (p : List ℕ) → 1 ≤ length p → row.end + length p ≤ len → follows len row (sum_of row p) ≡ true
follows_there len row p some inside = grind (arith, common_steps)

-- after n sums that count nothing does
nothing : (m len : ℕ) (row : Reach) (left : List ℕ) → (m ≡ 0) ⊎ (follows len row (sum_in left) ≡ false) → standing m len row left ≡ []
nothing m len row left (inl none) = rw none refl
nothing m len row left (inr stops) = ended m len row left stops

pub all_count : (ps : List (List ℕ)) (n m len : ℕ) (row : Reach) (left : List ℕ) → n ≡ length ps + m → row.end + length (bytes_of ps) ≤ len → AreWritten row.end ps →
    (m ≡ 0) ⊎ (follows len (with_all row (sums_of row ps)) (sum_in left) ≡ false) →
    standing n len row (row_bytes (sums_of row ps) ++ left) ≡ sums_of row ps
all_count [] n m len row left many inside written stops =
    ap (λ k. standing k len row left) (let e : n ≡ m = omega (arith, many) in e) ∙ nothing m len row left stops
all_count (p ∷ ps) n m len row left many inside written stops =
    let s = sum_of row p in
    let rest = row_bytes (sums_of (after row s) ps) ++ left in
    let cut : sum_bytes s ++ row_bytes (sums_of (after row s) ps) ++ left ≡ sum_bytes s ++ rest = append_assoc (sum_bytes s) (row_bytes (sums_of (after row s) ps)) left in
    let is_next = next row p rest written.1 in
    let long : length (p ++ bytes_of ps) ≡ length p + length (bytes_of ps) = length-append p (bytes_of ps) in
    let there : follows len row (sum_in (sum_bytes s ++ rest)) ≡ true =
    ap (follows len row) is_next ∙ follows_there len row p written.0 (omega (arith, inside, long)) in
    let fewer : n ≡ suc (length ps + m) = omega (arith, many) in
    let later = all_count ps (length ps + m) m len (after row s) left refl (omega (arith, inside, long)) written.2 stops in
    ap (standing n len row) cut
    ∙ goes_on n (length ps + m) len row (sum_bytes s ++ rest) fewer there
    ∙ ap (λ t. t ∷ standing (length ps + m) len (after row t) (drop 24 (sum_bytes s ++ rest))) is_next
    ∙ ap (λ l. s ∷ standing (length ps + m) len (after row s) l) (behind_sum s rest)
    ∙ ap (λ l. s ∷ l) later

-- so many sums stand in their bytes and what is left after them
length_row : (ps : List (List ℕ)) (row : Reach) → length (row_bytes (sums_of row ps)) ≡ 24 * length ps
length_row [] row = refl
length_row (p ∷ ps) row =
    let s = sum_of row p in
    let more = length_row ps (after row s) in
    let one = length_three s.end s.digest s.mark in
    let both = length-append (sum_bytes s) (row_bytes (sums_of (after row s) ps)) in
    omega (arith, more, one, both)

many_sums : (k x all : ℕ) → all ≡ 24 * k + x → all / 24 ≡ k + x / 24
many_sums k x all is = omega (arith, is)

short : (x : ℕ) → x < 24 → x / 24 ≡ 0
short x few = omega (arith, few)

its_end : (len : ℕ) (row : Reach) (left : List ℕ) → NothingFollows row left → (length left / 24 ≡ 0) ⊎ (follows len row (sum_in left) ≡ false)
its_end len row left (inl few) = inl (short (length left) few)
its_end len row left (inr stops) = inr (stops len)

-- ---- nothing is missing

-- all pieces end below the greatest number
below_most : (ps : List (List ℕ)) (from : ℕ) → from < 2 ^ 64 → AreWritten from ps → from + length (bytes_of ps) < 2 ^ 64
below_most [] from few written = omega (arith, few)
below_most (p ∷ ps) from few written =
    let long = length-append p (bytes_of ps) in
    let later = below_most ps (from + length p) written.1 written.2 in
    omega (arith, long, later)

-- where the last piece ends
its_last : (ps : List (List ℕ)) (row : Reach) → (with_all row (sums_of row ps)).end ≡ row.end + length (bytes_of ps)
its_last [] row = omega arith
its_last (p ∷ ps) row =
    let later : (with_all (after row (sum_of row p)) (sums_of (after row (sum_of row p)) ps)).end ≡ row.end + length p + length (bytes_of ps) =
    its_last ps (after row (sum_of row p)) in
    let long = length-append p (bytes_of ps) in
    omega (arith, later, long)

-- the sums that are answered are those that were written
all_told : (ps : List (List ℕ)) (left : List ℕ) → AreWritten 0 ps → NothingFollows (with_all no_sums (sums_of no_sums ps)) left →
    sums_in (2 ^ 64 - 1) (row_bytes (sums_of no_sums ps) ++ left) ≡ sums_of no_sums ps
all_told ps left written stops =
    let ss = sums_of no_sums ps in
    let whole : length (row_bytes ss ++ left) ≡ 24 * length ps + length left =
    length-append (row_bytes ss) left ∙ ap (λ n. n + length left) (length_row ps no_sums) in
    let few : 0 + length (bytes_of ps) ≤ 2 ^ 64 - 1 = (let e = below_most ps 0 (omega arith) written in omega (arith, e)) in
    all_count ps (length (row_bytes ss ++ left) / 24) (length left / 24) (2 ^ 64 - 1) no_sums left (many_sums (length ps) (length left) _ whole) few written
    (its_end (2 ^ 64 - 1) (with_all no_sums ss) left stops)

none_missing : (ps : List (List ℕ)) (tail left : List ℕ) → AreWritten 0 ps → NothingFollows (with_all no_sums (sums_of no_sums ps)) left →
    told_end (row_bytes (sums_of no_sums ps) ++ left) ≤ length (bytes_of ps ++ tail)
none_missing ps tail left written stops =
    let told : told_end (row_bytes (sums_of no_sums ps) ++ left) ≡ length (bytes_of ps) =
    ap (λ ss. (with_all no_sums ss).end) (all_told ps left written stops) ∙ its_last ps no_sums ∙ (let e : 0 + length (bytes_of ps) ≡ length (bytes_of ps) = omega arith in e) in
    let long = length-append (bytes_of ps) tail in
    omega (arith, told, long)

pub no_alarm : NoFalseAlarm
no_alarm ps tail left written stops =
    let ss = sums_of no_sums ps in
    let len = length (bytes_of ps ++ tail) in
    let whole : length (row_bytes ss ++ left) ≡ 24 * length ps + length left =
    length-append (row_bytes ss) left ∙ ap (λ n. n + length left) (length_row ps no_sums) in
    let inside : 0 + length (bytes_of ps) ≤ len = (let e = length-append (bytes_of ps) tail in omega (arith, e)) in (
      all_count ps (length (row_bytes ss ++ left) / 24) (length left / 24) len no_sums left (many_sums (length ps) (length left) _ whole) inside written
          (its_end len (with_all no_sums ss) left stops),
      all_fit ps no_sums [] tail refl,
      none_missing ps tail left written stops,
    )

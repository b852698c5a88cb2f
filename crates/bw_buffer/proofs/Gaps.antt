-- A frame laid out: fronts and gaps, and each piece after those of its block that are written.

use Rattle.std.proofs.Common.{◌≡◌, ℕ, zero, suc, ◌+◌, ◌-◌, ◌<◌, ◌≤◌, ◌≢◌, true, false, List, [], ◌∷◌, ◌++◌, length, set, take, drop, get_or, refl}
use Rattle.std.proofs.Common.{sym, ap, ◌∙◌, subst, arith}
use Rattle.std.proofs.Common.{append_assoc, append-nil, length-append}
use Rattle.std.specs.Prelude.{◌==◌, nat_le}
use Rattle.std.proofs.lemmas.Bool.{eqb-true, eqb-false, leb-true, leb-false}
use Rattle.std.proofs.lemmas.List.{take_at, drop-append-le, length-replicate}
use Rattle.bw_buffer.specs.Rows.{Parts, bytes_at, front_of, laid, AreMeasured}
use Rattle.bw_buffer.specs.Gaps.{zeros, padded, filled, ends, written}
use Rattle.bw_buffer.specs.declared.rows.Row.{Row}
use Rattle.bw_buffer.proofs.Pieces.{bytes_more, bytes_apart}

pub length-zeros : (n : ℕ) → length (zeros n) ≡ n
length-zeros n = length-replicate {A = ℕ} n 0

-- ---- gaps only

pub filled_push : (i : ℕ) (rs : List Row) (r : Row) → filled i (rs ++ r ∷ []) [] ≡ filled i rs [] ++ (front_of r ++ padded r.len [])
filled_push i [] r = append-nil (front_of r ++ padded r.len [])
filled_push i (x ∷ xs) r =
    ap (λ (l : List ℕ). (front_of x ++ padded x.len []) ++ l) (filled_push (suc i) xs r)
    ∙ sym (append_assoc (front_of x ++ padded x.len []) (filled (suc i) xs []) (front_of r ++ padded r.len []))

pub gap_is : (n : ℕ) → padded n [] ≡ zeros n
gap_is n = ap zeros (omega arith)

pub ends_push : (base i : ℕ) (rs : List Row) (r : Row)
    → ends base i (rs ++ r ∷ []) [] ≡ ends base i rs [] ++ (base + length (filled i rs []) + length (front_of r)) ∷ []
ends_push base i [] r = ap (λ (n : ℕ). n ∷ []) (omega arith)
ends_push base i (x ∷ xs) r =
    ap (λ (l : List ℕ). (base + length (front_of x) + 0) ∷ l) (ends_push (base + length (front_of x) + x.len) (suc i) xs r
    ∙ ap (λ (n : ℕ). ends (base + length (front_of x) + x.len) (suc i) xs [] ++ n ∷ [])
    (omega (
      arith,
      length-append (front_of x ++ padded x.len []) (filled (suc i) xs []),
      length-append (front_of x) (padded x.len []),
      ap (λ (l : List ℕ). length l) (gap_is x.len),
      length-zeros x.len,
    )))

-- ---- a piece more

filled_apart : (i k : ℕ) (rs : List Row) (ps : Parts) (xs : List ℕ) → k < i → filled i rs (ps ++ (k, xs) ∷ []) ≡ filled i rs ps
filled_apart i k [] ps xs lt = refl
filled_apart i k (r ∷ rs) ps xs lt =
    ap (λ (l : List ℕ). (front_of r ++ padded r.len l) ++ filled (suc i) rs (ps ++ (k, xs) ∷ [])) (bytes_apart i k ps xs (λ e. absurd (omega arith)))
    ∙ ap (λ (l : List ℕ). (front_of r ++ padded r.len (bytes_at i ps)) ++ l) (filled_apart (suc i) k rs ps xs (omega arith))

ends_apart : (base i k : ℕ) (rs : List Row) (ps : Parts) (xs : List ℕ) → k < i → ends base i rs (ps ++ (k, xs) ∷ []) ≡ ends base i rs ps
ends_apart base i k [] ps xs lt = refl
ends_apart base i k (r ∷ rs) ps xs lt =
    ap (λ (l : List ℕ). (base + length (front_of r) + length l) ∷ ends (base + length (front_of r) + r.len) (suc i) rs (ps ++ (k, xs) ∷ []))
    (bytes_apart i k ps xs (λ e. absurd (omega arith)))
    ∙ ap (λ (l : List ℕ). (base + length (front_of r) + length (bytes_at i ps)) ∷ l)
    (ends_apart (base + length (front_of r) + r.len) (suc i) k rs ps xs (omega arith))

drop_zeros : (n k : ℕ) → drop k (zeros n) ≡ zeros (n - k)
drop_zeros n zero = ap zeros (omega arith)
drop_zeros zero (suc k) = ap zeros (let e : 0 ≡ 0 - suc k = omega arith in e)
drop_zeros (suc n) (suc k) = drop_zeros n k ∙ ap zeros (omega arith)

drop_more : (a b : List ℕ) (k : ℕ) → drop (length a + k) (a ++ b) ≡ drop k b
drop_more [] b k = ap (λ (n : ℕ). drop n b) (omega arith)
drop_more (x ∷ xs) b k = (let e : suc (length xs) + k ≡ suc (length xs + k) = omega arith in ap (λ (n : ℕ). drop n (x ∷ (xs ++ b))) e ∙ drop_more xs b k)

-- after a beginning, over zeros
written_there : (a xs rest : List ℕ) (n at : ℕ) → at ≡ length a → length xs ≤ n
    → written at xs (a ++ (zeros n ++ rest)) ≡ a ++ (xs ++ (zeros (n - length xs) ++ rest))
written_there a xs rest n at is le =
    let long : length (zeros n) ≡ n = length-zeros n in
    let front : take at (a ++ (zeros n ++ rest)) ≡ a = take_at a (zeros n ++ rest) at (sym is) in
    let gone : drop (at + length xs) (a ++ (zeros n ++ rest)) ≡ drop (length xs) (zeros n ++ rest) =
    ap (λ (k : ℕ). drop (k + length xs) (a ++ (zeros n ++ rest))) is ∙ drop_more a (zeros n ++ rest) (length xs) in
    let left : drop (length xs) (zeros n ++ rest) ≡ zeros (n - length xs) ++ rest =
    drop-append-le (length xs) (zeros n) rest (omega arith) ∙ ap (λ (l : List ℕ). l ++ rest) (drop_zeros n (length xs)) in
    ap (λ (l : List ℕ). l ++ (xs ++ drop (at + length xs) (a ++ (zeros n ++ rest)))) front
    ∙ ap (λ (l : List ℕ). a ++ (xs ++ l)) (gone ∙ left)

-- ---- a block in the middle

regroup : (p a y z r : List ℕ) → p ++ ((a ++ (y ++ z)) ++ r) ≡ (p ++ (a ++ y)) ++ (z ++ r)
regroup p a y z r =
    ap (λ (l : List ℕ). p ++ l) (append_assoc a (y ++ z) r ∙ ap (λ (l : List ℕ). a ++ l) (append_assoc y z r) ∙ sym (append_assoc a y (z ++ r)))
    ∙ sym (append_assoc p (a ++ y) (z ++ r))

regroup_more : (p a y x z r : List ℕ) → p ++ ((a ++ ((y ++ x) ++ z)) ++ r) ≡ (p ++ (a ++ y)) ++ (x ++ (z ++ r))
regroup_more p a y x z r =
    regroup p a (y ++ x) z r
    ∙ ap (λ (l : List ℕ). (p ++ l) ++ (z ++ r)) (sym (append_assoc a y x))
    ∙ ap (λ (l : List ℕ). l ++ (z ++ r)) (sym (append_assoc p (a ++ y) x))
    ∙ append_assoc (p ++ (a ++ y)) x (z ++ r)

put_here : (pre : List ℕ) (base i : ℕ) (r : Row) (rs : List Row) (ps : Parts) (xs : List ℕ) (at : ℕ) → base ≡ length pre
    → length (bytes_at i ps) + length xs ≤ r.len → at ≡ base + length (front_of r) + length (bytes_at i ps)
    → (written at xs (pre ++ filled i (r ∷ rs) ps) ≡ pre ++ filled i (r ∷ rs) (ps ++ (i, xs) ∷ []))
    × ((at + length xs) ∷ ends (base + length (front_of r) + r.len) (suc i) rs ps ≡ ends base i (r ∷ rs) (ps ++ (i, xs) ∷ []))
put_here pre base i r rs ps xs at is short here =
    let ys = bytes_at i ps in
    let front = front_of r in
    let rest = filled (suc i) rs ps in
    let blank : List ℕ = zeros (r.len - length ys) in
    let fewer : List ℕ = zeros (r.len - length ys - length xs) in
    let a : List ℕ = pre ++ (front ++ ys) in
    let all : bytes_at i (ps ++ (i, xs) ∷ []) ≡ ys ++ xs = bytes_more i ps xs in
    let long : length a ≡ length pre + (length front + length ys) = length-append pre (front ++ ys) ∙ ap (λ (n : ℕ). length pre + n) (length-append front ys) in
    let both : length (ys ++ xs) ≡ length ys + length xs = length-append ys xs in
    let left : zeros (r.len - length (ys ++ xs)) ≡ fewer = ap (λ (n : ℕ). zeros n) (omega arith) in (
      ap (written at xs) (regroup pre front ys blank rest)
          ∙ written_there a xs rest (r.len - length ys) at (omega arith) (omega arith)
          ∙ sym (regroup_more pre front ys xs fewer rest)
          ∙ ap (λ (l : List ℕ). pre ++ ((front ++ ((ys ++ xs) ++ l)) ++ rest)) (sym left)
          ∙ ap (λ (l : List ℕ). pre ++ ((front ++ padded r.len l) ++ rest)) (sym all)
          ∙ ap (λ (l : List ℕ). pre ++ ((front ++ padded r.len (bytes_at i (ps ++ (i, xs) ∷ []))) ++ l)) (sym (filled_apart (suc i) i rs ps xs (omega arith))),
      ap (λ (n : ℕ). n ∷ ends (base + length front + r.len) (suc i) rs ps) (omega (arith, ap (λ (l : List ℕ). length l) all))
          ∙ ap (λ (l : List ℕ). (base + length front + length (bytes_at i (ps ++ (i, xs) ∷ []))) ∷ l)
          (sym (ends_apart (base + length front + r.len) (suc i) i rs ps xs (omega arith))),
    )

apart_above : (i k : ℕ) → i ≢ k → i ≤ k → suc i ≤ k
apart_above i k ne le = elim (nat_le (suc i) k) as (λ b. nat_le (suc i) k ≡ b → suc i ≤ k) [
  | true ↦ λ e. leb-true (suc i) k e
  | false ↦ λ e. (let h = leb-false (suc i) k e in absurd (ne (omega arith)))
] refl

-- a piece goes where its block's end is said to be
pub put_piece : (pre : List ℕ) (base i k : ℕ) (rs : List Row) (ps whole : Parts) (xs : List ℕ) (at : ℕ) → base ≡ length pre → i ≤ k → AreMeasured i rs whole
    → ((j : ℕ) → length (bytes_at j ps) ≤ length (bytes_at j whole))
    → length (bytes_at k ps) + length xs ≤ length (bytes_at k whole) → k < i + length rs → at ≡ get_or (ends base i rs ps) (k - i) 0
    → (written at xs (pre ++ filled i rs ps) ≡ pre ++ filled i rs (ps ++ (k, xs) ∷ []))
    × (set (ends base i rs ps) (k - i) (at + length xs) ≡ ends base i rs (ps ++ (k, xs) ∷ []))
put_piece pre base i k [] ps whole xs at is low measured part short lt here = absurd (omega arith)
put_piece pre base i k (r ∷ rs) ps whole xs at is low measured part short lt here =
    elim (i == k) as (λ b. (i == k) ≡ b → (written at xs (pre ++ filled i (r ∷ rs) ps) ≡ pre ++ filled i (r ∷ rs) (ps ++ (k, xs) ∷ []))
    × (set (ends base i (r ∷ rs) ps) (k - i) (at + length xs) ≡ ends base i (r ∷ rs) (ps ++ (k, xs) ∷ []))) [
      | true ↦ λ e. (
          let same : i ≡ k = eqb-true i k e in
          let first : k - i ≡ 0 = omega arith in
          let len = measured.0 in
          let within : length (bytes_at i ps) + length xs ≤ r.len =
          subst (λ (n : ℕ). length (bytes_at n ps) + length xs ≤ r.len) (sym same)
          (let bound : length (bytes_at k whole) ≡ r.len = ap (λ (n : ℕ). length (bytes_at n whole)) (sym same) ∙ sym len in omega arith) in
          let done = put_here pre base i r rs ps xs at is within (here ∙ ap (λ (n : ℕ). get_or (ends base i (r ∷ rs) ps) n 0) first) in (
            done.0 ∙ ap (λ (n : ℕ). pre ++ filled i (r ∷ rs) (ps ++ (n, xs) ∷ [])) same,
            ap (λ (n : ℕ). set (ends base i (r ∷ rs) ps) n (at + length xs)) first ∙ done.1 ∙ ap (λ (n : ℕ). ends base i (r ∷ rs) (ps ++ (n, xs) ∷ [])) same,
          ))
      | false ↦ λ e. (
          let ne : i ≢ k = eqb-false i k e in
          let above = apart_above i k ne low in
          let next : k - i ≡ suc (k - suc i) = omega arith in
          let len = measured.0 in
          let ys = bytes_at i ps in
          let region : List ℕ = front_of r ++ padded r.len ys in
          let within = part i in
          let full : length region ≡ length (front_of r) + r.len =
          omega (
            arith,
            length-append (front_of r) (padded r.len ys),
            length-append ys (zeros (r.len - length ys)),
            length-zeros (r.len - length ys),
          ) in
          let rest = put_piece (pre ++ region) (base + length (front_of r) + r.len) (suc i) k rs ps whole xs at
          (let l = length-append pre region in omega arith) above measured.2 part short (omega arith)
          (here ∙ ap (λ (n : ℕ). get_or (ends base i (r ∷ rs) ps) n 0) next) in
          let same_bytes : bytes_at i (ps ++ (k, xs) ∷ []) ≡ ys = bytes_apart i k ps xs (λ s. ne (sym s)) in (
            ap (written at xs) (sym (append_assoc pre region (filled (suc i) rs ps))) ∙ rest.0
                ∙ append_assoc pre region (filled (suc i) rs (ps ++ (k, xs) ∷ []))
                ∙ ap (λ (l : List ℕ). pre ++ ((front_of r ++ padded r.len l) ++ filled (suc i) rs (ps ++ (k, xs) ∷ []))) (sym same_bytes),
            ap (λ (n : ℕ). set (ends base i (r ∷ rs) ps) n (at + length xs)) next
                ∙ ap (λ (l : List ℕ). (base + length (front_of r) + length ys) ∷ l) rest.1
                ∙ ap (λ (l : List ℕ). (base + length (front_of r) + length l) ∷ ends (base + length (front_of r) + r.len) (suc i) rs
                (ps ++ (k, xs) ∷ [])) (sym same_bytes),
          ))
    ] refl

-- all pieces are written
pub filled_all : (i : ℕ) (rs : List Row) (ps : Parts) → AreMeasured i rs ps → filled i rs ps ≡ laid i rs ps
filled_all i [] ps m = refl
filled_all i (r ∷ rs) ps m =
    (let none : r.len - length (bytes_at i ps) ≡ 0 = (let e = m.0 in omega arith) in
    ap (λ (n : ℕ). (front_of r ++ (bytes_at i ps ++ zeros n)) ++ filled (suc i) rs ps) none
    ∙ ap (λ (l : List ℕ). (front_of r ++ l) ++ filled (suc i) rs ps) (append-nil (bytes_at i ps))
    ∙ ap (λ (l : List ℕ). (front_of r ++ bytes_at i ps) ++ l) (filled_all (suc i) rs ps m.2))

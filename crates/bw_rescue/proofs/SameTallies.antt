-- Tallies of the same pairs are the same. Those that are the same are of the same pairs, or digests
-- have failed.

use Rattle.std.proofs.Common.{◌≡◌, ℕ, ◌+◌, ◌<◌, ◌^◌, ◌⊎◌, inl, inr, Bool, true, false, true≢false, nat_eq, Option, Some, None, List, [], ◌∷◌, ◌++◌, length, reverse, take, drop, refl, sym, ap, subst, ◌∙◌, arith, add-one}
use Rattle.std.proofs.lemmas.List.{reverse-append, reverse-reverse}
use Rattle.std.proofs.lemmas.Grind.{fold-append}
use lib.Pointwise.{pointwise, bytes_decides}
use Rattle.bw_digest.specs.Digest.{digest}
use Rattle.bw_digest.specs.Sums.{Reach, no_sums, after, sum_of, three, mark_of, sum_in}
use Rattle.bw_digest.specs.declared.sum.Sum.{Sum}
use Rattle.bw_digest.proofs.ReadBack.{digest_fits, mark_fits, read_back, take_exact, drop_exact}
use Rattle.bw_rescue.specs.Tallied.{Pair, piece, Tallied, with_one, tallied, SomeCollide}

-- ---- one pair more

pub tallied_more : (pairs : List Pair) (p : Pair) → tallied (pairs ++ p ∷ []) ≡ with_one (tallied pairs) p
tallied_more pairs p = fold-append with_one (no_sums, None) pairs (p ∷ [])

-- the row of pairs, of which the last comes first
back : List Pair → Reach
back [] = no_sums
back (p ∷ pairs) = after (back pairs) (sum_of (back pairs) (piece p))

turned : (p : Pair) (pairs : List Pair) → reverse (p ∷ pairs) ≡ reverse pairs ++ p ∷ []
turned p pairs = reverse-append (p ∷ []) pairs

rows : (pairs : List Pair) → (tallied (reverse pairs)).0 ≡ back pairs
unfolding back
rows [] = refl
rows (p ∷ pairs) =
    ap (λ (l : List Pair). (tallied l).0) (turned p pairs) ∙ ap (λ (t : Tallied). t.0) (tallied_more (reverse pairs) p)
    ∙ ap (λ (r : Reach). after r (sum_of r (piece p))) (rows pairs)

-- ---- bytes and digests

same_or_else : (a b : List ℕ) → digest a ≡ digest b → (a ≡ b) ⊎ SomeCollide
same_or_else a b same = by (pointwise nat_eq a b) refl
  where
    by : (t : Bool) → pointwise nat_eq a b ≡ t → (a ≡ b) ⊎ SomeCollide
    by true is = inl ((bytes_decides a b).0 is)
    by false is = inr (a, b, (λ e. true≢false (sym ((bytes_decides a b).1 e) ∙ is), same))

pub record AreSame (m e d k f g : ℕ) : Type 0 where
  pub mark : m ≡ k
  pub end : e ≡ f
  pub digest : d ≡ g

numbers : (m e d k f g : ℕ) → m < 2 ^ 64 → e < 2 ^ 64 → d < 2 ^ 64 → k < 2 ^ 64 → f < 2 ^ 64 → g < 2 ^ 64 → three m e d ≡ three k f g → AreSame m e d k f g
numbers m e d k f g a b c x y z same =
    let left : Sum = record { end = m; digest = e; mark = d } in
    let right : Sum = record { end = k; digest = f; mark = g } in
    let one : left ≡ right = sym (read_back left [] a b c) ∙ ap (λ (l : List ℕ). sum_in (l ++ [])) same ∙ read_back right [] x y z in
    record { mark = ap (λ (s : Sum). s.end) one; end = ap (λ (s : Sum). s.digest) one; digest = ap (λ (s : Sum). s.mark) one }

marks : (m e d k f g : ℕ) → m < 2 ^ 64 → e < 2 ^ 64 → d < 2 ^ 64 → k < 2 ^ 64 → f < 2 ^ 64 → g < 2 ^ 64 → mark_of m e d ≡ mark_of k f g → AreSame m e d k f g ⊎ SomeCollide
unfolding mark_of
marks m e d k f g a b c x y z same = by (same_or_else (three m e d) (three k f g) same)
  where
    by : (three m e d ≡ three k f g) ⊎ SomeCollide → AreSame m e d k f g ⊎ SomeCollide
    by (inl one) = inl (numbers m e d k f g a b c x y z one)
    by (inr collide) = inr collide

one_pair : (p q : Pair) → piece p ≡ piece q → p ≡ q
one_pair p q same =
    let long : length p.0 ≡ length q.0 = cc in
    let both : p.0 ++ p.1 ≡ q.0 ++ q.1 = cc in
    let key : p.0 ≡ q.0 = sym (take_exact (length q.0) p.0 p.1 long) ∙ ap (take (length q.0)) both ∙ take_exact (length q.0) q.0 q.1 refl in
    let value : p.1 ≡ q.1 = sym (drop_exact (length q.0) p.0 p.1 long) ∙ ap (drop (length q.0)) both ∙ drop_exact (length q.0) q.0 q.1 refl in
    λ i. (key i, value i)

-- ---- row by row

marked : (pairs : List Pair) → (back pairs).mark < 2 ^ 64
unfolding back
marked [] = omega arith
marked (p ∷ pairs) = mark_fits _ _ _

joined : (p q : Pair) (ps qs : List Pair) → (p ≡ q) ⊎ SomeCollide → (ps ≡ qs) ⊎ SomeCollide → (p ∷ ps ≡ q ∷ qs) ⊎ SomeCollide
joined p q ps qs (inl one) (inl rest) = inl (λ i. one i ∷ rest i)
joined p q ps qs (inl one) (inr collide) = inr collide
joined p q ps qs (inr collide) rest = inr collide

same_pair : (p q : Pair) → digest (piece p) ≡ digest (piece q) → (p ≡ q) ⊎ SomeCollide
same_pair p q same = by (same_or_else (piece p) (piece q) same)
  where
    by : (piece p ≡ piece q) ⊎ SomeCollide → (p ≡ q) ⊎ SomeCollide
    by (inl one) = inl (one_pair p q one)
    by (inr collide) = inr collide

same_rows : (ps qs : List Pair) → length ps ≡ length qs → (back ps).end < 2 ^ 64 → (back qs).end < 2 ^ 64 → (back ps).mark ≡ (back qs).mark → (ps ≡ qs) ⊎ SomeCollide
unfolding back
same_rows [] [] long a b same = inl refl
same_rows [] (q ∷ qs) long a b same = cc
same_rows (p ∷ ps) [] long a b same = cc
same_rows (p ∷ ps) (q ∷ qs) long a b same =
    by (λ earlier. same_rows ps qs (omega (arith, long)) (omega (arith, a)) (omega (arith, b)) earlier)
    (marks (back ps).mark ((back ps).end + length (piece p)) (digest (piece p)) (back qs).mark ((back qs).end + length (piece q)) (digest (piece q))
    (marked ps) a (digest_fits (piece p)) (marked qs) b (digest_fits (piece q)) same)
  where
    by : ((back ps).mark ≡ (back qs).mark → (ps ≡ qs) ⊎ SomeCollide)
        → AreSame (back ps).mark ((back ps).end + length (piece p)) (digest (piece p)) (back qs).mark ((back qs).end + length (piece q)) (digest (piece q)) ⊎ SomeCollide
        → (p ∷ ps ≡ q ∷ qs) ⊎ SomeCollide
    by earlier (inl one) = joined p q ps qs (same_pair p q one.digest) (earlier one.mark)
    by earlier (inr collide) = inr collide

-- ---- tally by tally

last_back : List Pair → Option Sum
last_back [] = None
last_back (p ∷ pairs) = Some (sum_of (back pairs) (piece p))

lasts : (pairs : List Pair) → (tallied (reverse pairs)).1 ≡ last_back pairs
unfolding last_back
lasts [] = refl
lasts (p ∷ pairs) =
    ap (λ (l : List Pair). (tallied l).1) (turned p pairs) ∙ ap (λ (t : Tallied). t.1) (tallied_more (reverse pairs) p)
    ∙ ap (λ (r : Reach). Some (sum_of r (piece p))) (rows pairs)

counts : (pairs : List Pair) → (back pairs).count ≡ length pairs
unfolding back
counts [] = refl
counts (p ∷ pairs) = ap (λ (n : ℕ). n + 1) (counts pairs) ∙ add-one (length pairs)

same_marks : (ps qs : List Pair) → length ps ≡ length qs → last_back ps ≡ last_back qs → (back ps).mark ≡ (back qs).mark
unfolding back last_back
same_marks [] [] long same = refl
same_marks [] (q ∷ qs) long same = cc
same_marks (p ∷ ps) [] long same = cc
same_marks (p ∷ ps) (q ∷ qs) long same = (let one : sum_of (back ps) (piece p) ≡ sum_of (back qs) (piece q) = cc in ap (λ (s : Sum). s.mark) one)

row_of : (pairs : List Pair) → (tallied pairs).0 ≡ back (reverse pairs)
row_of pairs = ap (λ (l : List Pair). (tallied l).0) (sym (reverse-reverse pairs)) ∙ rows (reverse pairs)

last_of : (pairs : List Pair) → (tallied pairs).1 ≡ last_back (reverse pairs)
last_of pairs = ap (λ (l : List Pair). (tallied l).1) (sym (reverse-reverse pairs)) ∙ lasts (reverse pairs)

forwards : (ps qs : List Pair) → (reverse ps ≡ reverse qs) ⊎ SomeCollide → (ps ≡ qs) ⊎ SomeCollide
forwards ps qs (inl one) = inl (sym (reverse-reverse ps) ∙ ap reverse one ∙ reverse-reverse qs)
forwards ps qs (inr collide) = inr collide

pub same_pairs : (ps qs : List Pair) → (tallied ps).0.end < 2 ^ 64 → (tallied qs).0.end < 2 ^ 64 → (tallied ps).1 ≡ (tallied qs).1 → (tallied ps).0.count ≡ (tallied qs).0.count
    → (ps ≡ qs) ⊎ SomeCollide
same_pairs ps qs a b last count =
    let long : length (reverse ps) ≡ length (reverse qs) =
    sym (counts (reverse ps)) ∙ ap (λ (r : Reach). r.count) (sym (row_of ps)) ∙ count ∙ ap (λ (r : Reach). r.count) (row_of qs) ∙ counts (reverse qs) in
    let end : last_back (reverse ps) ≡ last_back (reverse qs) = sym (last_of ps) ∙ last ∙ last_of qs in
    forwards ps qs (same_rows (reverse ps) (reverse qs) long (subst (λ (r : Reach). r.end < 2 ^ 64) (row_of ps) a) (subst (λ (r : Reach). r.end < 2 ^ 64) (row_of qs) b)
    (same_marks (reverse ps) (reverse qs) long end))

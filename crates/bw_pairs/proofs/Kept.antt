-- What is kept of a line, and what is left after it.

use Rattle.std.proofs.Common.{◌≡◌, ◌≢◌, ◌⊎◌, inl, inr, ⊎_elim, ℕ, zero, suc, ◌+◌, ◌-◌, ◌<◌, ◌≤◌, Bool, true, false, not, ◌&&◌, eqb, ltb, cond, None, Some, Option, IfSome, length-append, List, [], ◌∷◌, ◌++◌, All, length, take, drop, get_or, refl, sym, ap, ap₂, subst, ◌∙◌, arith, append_assoc, append-nil, take_all, take-take, take-append-drop, eq-eqb, eqb-true, ne_eqb, drop_at, length-take, length-take-le, true≢false}
use Rattle.std.proofs.lemmas.List.Elements.{All-nil, All-cons, All-take}
use Rattle.std.proofs.lemmas.Bool.{cond-true, cond-false, cases_lt, lt-ltb, le-leb, lt-leb, le-ltb}
use Rattle.std.proofs.Math.Seq.{take-append_seam}
use lib.Seq.{get_or-append_seam, drop-drop}
use Rattle.std.specs.Io.BufRead.{take_through, drop_through, ends_with_byte, strip_last}
use Rattle.std.proofs.BufReadLemmas.{take_through-append, drop_through-append}
use Rattle.bw_pairs.specs.Inputs.{front, without_end, whole_line, shown, line_of}
use Rattle.bw_pairs.proofs.Fronts.{NoEnd, other, take_past}

-- ---- the last byte

pub ends_at : (b : ℕ) (p : List ℕ) (z : ℕ) → ends_with_byte b (p ++ z ∷ []) ≡ eqb z b
ends_at b p z =
    let all = p ++ z ∷ [] in
    let long : length all ≡ length p + 1 = length-append p (z ∷ []) in
    let last : get_or all (length all - 1) 0 ≡ z = ap (λ n. get_or all n 0) {x = length all - 1} {y = length p} (omega (arith, long)) ∙ get_or-append_seam p z [] 0 in
    ap₂ (λ a c. a && eqb c b) (lt-ltb 0 (length all) (omega (arith, long))) last

pub strip_at : (b : ℕ) (p : List ℕ) → strip_last b (p ++ b ∷ []) ≡ p
strip_at b p =
    let all = p ++ b ∷ [] in
    let long : length all ≡ length p + 1 = length-append p (b ∷ []) in
    cond-true _ _ _ (ends_at b p b ∙ eq-eqb b b refl) ∙ ap (λ n. take n all) {x = length all - 1} {y = length p} (omega (arith, long)) ∙ take-append_seam p (b ∷ [])

strip_len : (b : ℕ) (l : List ℕ) → length l ≤ length (strip_last b l) + 1
strip_len b l = at (ends_with_byte b l)
  where
    at : (t : Bool) → length l ≤ length (cond t (take (length l - 1) l) l) + 1
    at true = omega (arith, length-take (length l - 1) l)
    at false = omega arith

pub strip_short : (b : ℕ) (l : List ℕ) → length (strip_last b l) ≤ length l
strip_short b l = at (ends_with_byte b l)
  where
    at : (t : Bool) → length (cond t (take (length l - 1) l) l) ≤ length l
    at true = omega (arith, length-take (length l - 1) l)
    at false = omega arith

strip_cut : (b : ℕ) (l : List ℕ) → ends_with_byte b l ≡ true → length (strip_last b l) ≡ length l - 1
strip_cut b l h = ap length (cond-true _ _ _ h) ∙ length-take-le (length l - 1) l (omega arith)

no_ends : (l : List ℕ) → NoEnd l → ends_with_byte 10 l ≡ false
no_ends [] h = refl
no_ends (x ∷ xs) h =
    let all = x ∷ xs in
    ap₂ (λ a c. a && c) (lt-ltb 0 (length all) (omega arith)) (ne_eqb (get_or all (length all - 1) 0) 10 (h (length all - 1) 0 (omega arith)))

-- ---- a line with an end, and one without

-- the line has an LF after these bytes
abbrev Ended : List ℕ → Type 0
Ended xs = (p : List ℕ) × NoEnd p × (take_through 10 xs ≡ p ++ 10 ∷ [])

abbrev Open : List ℕ → Type 0
Open xs = NoEnd (take_through 10 xs) × (drop_through 10 xs ≡ [])

ended : (xs : List ℕ) → Ended xs ⊎ Open xs
ended [] = inr (All-nil (λ byte. byte ≢ 10), refl)
ended (x ∷ xs) = at (eqb x 10) refl (ended xs)
  where
    at : (b : Bool) → eqb x 10 ≡ b → Ended xs ⊎ Open xs → Ended (x ∷ xs) ⊎ Open (x ∷ xs)
    at true e r = inl ([], All-nil (λ byte. byte ≢ 10), cond-true _ _ _ e ∙ ap (λ y. y ∷ []) (eqb-true x 10 e))
    at false e (inl h) = inl (x ∷ h.0, All-cons (λ byte. byte ≢ 10) x h.0 (other x e) h.1, cond-false _ _ _ e ∙ ap (λ l. x ∷ l) h.2)
    at false e (inr h) = inr (subst NoEnd (sym (cond-false _ _ _ e)) (All-cons (λ byte. byte ≢ 10) x (take_through 10 xs) (other x e) h.0), cond-false _ _ _ e ∙ h.1)

pub split_line : (xs : List ℕ) → xs ≡ take_through 10 xs ++ drop_through 10 xs
split_line [] = refl
split_line (x ∷ xs) = at (eqb x 10) (split_line xs)
  where
    at : (b : Bool) → xs ≡ take_through 10 xs ++ drop_through 10 xs → x ∷ xs ≡ cond b (x ∷ []) (x ∷ take_through 10 xs) ++ cond b xs (drop_through 10 xs)
    at true e = refl
    at false e = ap (λ l. x ∷ l) e

-- a front, and what stands after it
prefix : (j : ℕ) (xs : List ℕ) → xs ≡ front j xs ++ (drop j (take_through 10 xs) ++ drop_through 10 xs)
prefix j xs = split_line xs ∙ ap (λ l. l ++ drop_through 10 xs) (sym (take-append-drop j (take_through 10 xs))) ∙ append_assoc (front j xs) (drop j (take_through 10 xs)) (drop_through 10 xs)

take_within : (k : ℕ) (p q : List ℕ) → k ≤ length p → take k (p ++ q) ≡ take k p
take_within k p q h = sym (take-take k (length p) (p ++ q) h) ∙ ap (take k) (take-append_seam p q)

-- ---- a CR that may belong to an end

cr_none : (k : ℕ) (xs : List ℕ) → ends_with_byte 13 (front k xs) ≡ true → NoEnd (front k xs)
cr_none k xs cr = ⊎_elim
    (λ h. ⊎_elim
    (λ (more : length h.0 < k).
    let long = length-append h.0 (10 ∷ []) in
    let all : front k xs ≡ h.0 ++ 10 ∷ [] = ap (take k) h.2 ∙ take_all k (h.0 ++ 10 ∷ []) (omega (arith, long)) in
    absurd (true≢false (sym cr ∙ ap (ends_with_byte 13) all ∙ ends_at 13 h.0 10)))
    (λ (few : k ≤ length h.0). subst NoEnd (sym (ap (take k) h.2 ∙ take_within k h.0 (10 ∷ []) few)) (All-take (λ byte. byte ≢ 10) k h.0 h.1))
    (cases_lt (length h.0) k))
    (λ h. All-take (λ byte. byte ≢ 10) k (take_through 10 xs) h.0)
    (ended xs)

drop_none : (xs : List ℕ) → drop (length xs) xs ≡ []
drop_none [] = refl
drop_none (x ∷ xs) = drop_none xs

-- a front without an LF, and one byte more
pub front_more : (k : ℕ) (xs : List ℕ) → NoEnd (front k xs) → front k xs ++ front 1 (drop (length (front k xs)) xs) ≡ front (k + 1) xs
front_more k xs none =
    let a = front k xs in
    let r = drop k (take_through 10 xs) ++ drop_through 10 xs in
    let parts : xs ≡ a ++ r = prefix k xs in
    let behind : drop (length a) xs ≡ r = ap (drop (length a)) parts ∙ drop_at a r (length a) refl in
    let through : take_through 10 xs ≡ a ++ take_through 10 r = ap (take_through 10) parts ∙ take_through-append 10 a r none in
    ⊎_elim
    (λ (less : length (take_through 10 xs) < k).
    let whole : a ≡ take_through 10 xs = take_all k (take_through 10 xs) (omega arith) in
    let nothing : take_through 10 r ≡ [] = nil a (take_through 10 r) (sym through ∙ sym whole) in
    ap (λ l. a ++ take 1 (take_through 10 l)) behind ∙ ap (λ l. a ++ take 1 l) nothing ∙ append-nil a ∙ whole
    ∙ sym (take_all (k + 1) (take_through 10 xs) (omega arith)))
    (λ (enough : k ≤ length (take_through 10 xs)).
    let long : length a ≡ k = length-take-le k (take_through 10 xs) enough in
    ap (λ l. a ++ front 1 l) behind
    ∙ sym (ap (take (k + 1)) through ∙ take_past a (take_through 10 r) (k + 1) (omega (arith, long))
    ∙ ap (λ n. a ++ take n (take_through 10 r)) {x = k + 1 - length a} {y = 1} (omega (arith, long))))
    (cases_lt (length (take_through 10 xs)) k)
  where
    nil : (xs ys : List ℕ) → xs ++ ys ≡ xs → ys ≡ []
    nil xs [] e = refl
    nil xs (y ∷ ys) e = absurd (omega (arith, ap length e, length-append xs (y ∷ ys)))

pub shown_cr : (longest : ℕ) (xs : List ℕ) → ends_with_byte 13 (front (longest + 1) xs) ≡ true
    → front (longest + 1) xs ++ front 1 (drop (length (front (longest + 1) xs)) xs) ≡ shown longest xs
shown_cr longest xs cr =
    front_more (longest + 1) xs (cr_none (longest + 1) xs cr) ∙ ap (λ n. front n xs) {x = longest + 1 + 1} {y = longest + 2} (omega arith) ∙ sym (cond-true _ _ _ cr)

pub shown_all : (longest : ℕ) (xs : List ℕ) → ends_with_byte 13 (front (longest + 1) xs) ≡ false → front (longest + 1) xs ≡ shown longest xs
shown_all longest xs none = sym (cond-false _ _ _ none)

-- ---- what is kept

module _ (longest : ℕ) (xs : List ℕ) where
  through : List ℕ
  through = take_through 10 xs

  behind : List ℕ
  behind = drop_through 10 xs

  -- the line is right, and so is what stands after it, once the rest of it is passed over
  abbrev pub Kept : List ℕ → Type 0
  Kept s = (without_end s ≡ line_of longest xs)
      × (cond (not (ends_with_byte 10 s) && eqb (length (front (longest + 1) xs)) (longest + 1)) (drop_through 10 (drop (length s) xs)) (drop (length s) xs) ≡ drop_through 10 xs)

  line_short : length (whole_line xs) ≤ longest → line_of longest xs ≡ whole_line xs
  line_short h = cond-true _ _ _ (le-leb (length (whole_line xs)) longest h)

  line_long : longest < length (whole_line xs) → line_of longest xs ≡ shown longest xs
  line_long h = cond-false _ _ _ (lt-leb (length (whole_line xs)) longest h)

  whole_at : (p : List ℕ) → take_through 10 xs ≡ p ++ 10 ∷ [] → whole_line xs ≡ strip_last 13 p
  whole_at p is = ap without_end is ∙ cond-true _ _ _ (ends_at 10 p 10) ∙ ap (strip_last 13) (strip_at 10 p)

  -- the line with its end
  all_of_it : (p s : List ℕ) → take_through 10 xs ≡ p ++ 10 ∷ [] → length (strip_last 13 p) ≤ longest → s ≡ take_through 10 xs → Kept s
  all_of_it p s is short e =
      let ends : ends_with_byte 10 s ≡ true = ap (ends_with_byte 10) (e ∙ is) ∙ ends_at 10 p 10 in
      let line : length (whole_line xs) ≤ longest = omega (arith, ap length (whole_at p is)) in (
        ap without_end e ∙ sym (line_short line),
        ap (λ b. cond (not b && eqb (length (front (longest + 1) xs)) (longest + 1)) (drop_through 10 (drop (length s) xs)) (drop (length s) xs)) ends
            ∙ ap (λ l. drop (length l) xs) e ∙ ap (drop (length (take_through 10 xs))) (split_line xs) ∙ drop_at (take_through 10 xs) (drop_through 10 xs) (length (take_through 10 xs)) refl,
      )

  -- a line that is too long
  beginning : (j : ℕ) (s : List ℕ) → s ≡ front j xs → shown longest xs ≡ s → NoEnd s → longest + 1 ≤ length (take_through 10 xs) → longest < length (whole_line xs) → Kept s
  beginning j s e is none enough long =
      let r = drop j (take_through 10 xs) ++ drop_through 10 xs in
      let parts : xs ≡ s ++ r = prefix j xs ∙ ap (λ l. l ++ r) (sym e) in
      let count : eqb (length (front (longest + 1) xs)) (longest + 1) ≡ true = eq-eqb _ _ (length-take-le (longest + 1) (take_through 10 xs) enough) in
      let left : drop (length s) xs ≡ r = ap (drop (length s)) parts ∙ drop_at s r (length s) refl in (
        cond-false _ _ _ (no_ends s none) ∙ sym is ∙ sym (line_long long),
        ap₂ (λ a b. cond (not a && b) (drop_through 10 (drop (length s) xs)) (drop (length s) xs)) (no_ends s none) count
            ∙ ap (drop_through 10) left ∙ sym (ap (drop_through 10) parts ∙ drop_through-append 10 s r none),
      )

  -- the end of the input
  last_of_it : (s : List ℕ) → NoEnd (take_through 10 xs) → drop_through 10 xs ≡ [] → s ≡ take_through 10 xs → length (take_through 10 xs) ≤ longest → Kept s
  last_of_it s none end e short =
      let line : whole_line xs ≡ take_through 10 xs = cond-false _ _ _ (no_ends (take_through 10 xs) none) in
      let left : drop (length s) xs ≡ [] =
      ap (λ l. drop (length l) xs) e ∙ ap (drop (length (take_through 10 xs))) (split_line xs) ∙ drop_at (take_through 10 xs) (drop_through 10 xs) (length (take_through 10 xs)) refl ∙ end in (
        ap without_end e ∙ sym (line_short (omega (arith, ap length line))),
        both _ _ left ∙ sym end,
      )
    where
      both : (b : Bool) (l : List ℕ) → l ≡ [] → cond b (drop_through 10 l) l ≡ []
      both true l h = ap (drop_through 10) h
      both false l h = h

  -- a line with an LF after p
  at_end : (p : List ℕ) → NoEnd p → take_through 10 xs ≡ p ++ 10 ∷ [] → Kept (shown longest xs)
  at_end p none is = ⊎_elim short (λ more. at (ends_with_byte 13 (front (longest + 1) xs)) refl more) (cases_lt (length p) (longest + 1))
    where
      long : length (take_through 10 xs) ≡ length p + 1
      long = ap length is ∙ length-append p (10 ∷ [])

      within : (j : ℕ) → j ≤ length p → front j xs ≡ take j p
      within j h = ap (take j) is ∙ take_within j p (10 ∷ []) h

      short : length p < longest + 1 → Kept (shown longest xs)
      short less =
          let whole : front (longest + 1) xs ≡ take_through 10 xs = take_all (longest + 1) (take_through 10 xs) (omega (arith, long)) in
          let no_cr : ends_with_byte 13 (front (longest + 1) xs) ≡ false = ap (ends_with_byte 13) (whole ∙ is) ∙ ends_at 13 p 10 in
          all_of_it p (shown longest xs) is (omega (arith, strip_short 13 p)) (cond-false _ _ _ no_cr ∙ whole)

      at : (b : Bool) → ends_with_byte 13 (front (longest + 1) xs) ≡ b → longest + 1 ≤ length p → Kept (shown longest xs)
      at false cr more =
          let e : shown longest xs ≡ front (longest + 1) xs = cond-false _ _ _ cr in
          let line : longest < length (strip_last 13 p) = ⊎_elim
          (λ (most : length p < longest + 2).
          let all : take (longest + 1) p ≡ p = take_all (longest + 1) p (omega arith) in
          let same : strip_last 13 p ≡ p = cond-false _ _ _ (ap (ends_with_byte 13) (sym (within (longest + 1) more ∙ all)) ∙ cr) in
          omega (arith, ap length same))
          (λ (over : longest + 2 ≤ length p). omega (arith, strip_len 13 p))
          (cases_lt (length p) (longest + 2)) in
          beginning (longest + 1) (shown longest xs) e refl
          (subst NoEnd (sym (e ∙ within (longest + 1) more)) (All-take (λ byte. byte ≢ 10) (longest + 1) p none))
          (omega (arith, long)) (omega (arith, ap length (whole_at p is)))
      at true cr more =
          let e : shown longest xs ≡ front (longest + 2) xs = cond-true _ _ _ cr in
          ⊎_elim
          (λ (most : length p < longest + 2).
          let all : take (longest + 1) p ≡ p = take_all (longest + 1) p (omega arith) in
          let ends : ends_with_byte 13 p ≡ true = ap (ends_with_byte 13) (sym (within (longest + 1) more ∙ all)) ∙ cr in
          all_of_it p (shown longest xs) is (omega (arith, strip_cut 13 p ends)) (e ∙ take_all (longest + 2) (take_through 10 xs) (omega (arith, long))))
          (λ (over : longest + 2 ≤ length p).
          beginning (longest + 2) (shown longest xs) e refl
          (subst NoEnd (sym (e ∙ within (longest + 2) over)) (All-take (λ byte. byte ≢ 10) (longest + 2) p none))
          (omega (arith, long)) (omega (arith, ap length (whole_at p is), strip_len 13 p)))
          (cases_lt (length p) (longest + 2))

  at_last : NoEnd (take_through 10 xs) → drop_through 10 xs ≡ [] → Kept (shown longest xs)
  at_last none end = at (ends_with_byte 13 (front (longest + 1) xs)) refl
    where
      by : (j : ℕ) → longest + 1 ≤ j → shown longest xs ≡ front j xs → Kept (shown longest xs)
      by j more e = ⊎_elim
          (λ (long : longest < length (take_through 10 xs)).
          let line : whole_line xs ≡ take_through 10 xs = cond-false _ _ _ (no_ends (take_through 10 xs) none) in
          beginning j (shown longest xs) e refl (subst NoEnd (sym e) (All-take (λ byte. byte ≢ 10) j (take_through 10 xs) none)) (omega arith) (omega (arith, ap length line)))
          (λ (short : length (take_through 10 xs) ≤ longest).
          last_of_it (shown longest xs) none end (e ∙ take_all j (take_through 10 xs) (omega arith)) short)
          (cases_lt longest (length (take_through 10 xs)))

      at : (b : Bool) → ends_with_byte 13 (front (longest + 1) xs) ≡ b → Kept (shown longest xs)
      at true cr = by (longest + 2) (omega arith) (cond-true _ _ _ cr)
      at false cr = by (longest + 1) (omega arith) (cond-false _ _ _ cr)

  pub kept : Kept (shown longest xs)
  kept = ⊎_elim (λ h. at_end h.0 h.1 h.2) (λ h. at_last h.0 h.1) (ended xs)

-- whether there is a line
pub there : (longest : ℕ) (xs : List ℕ) → ltb 0 (length (front (longest + 1) xs)) ≡ ltb 0 (length xs)
there longest [] =
    let none : length (take {A = ℕ} (longest + 1) []) ≡ 0 = omega (arith, length-take {A = ℕ} (longest + 1) []) in
    ap (ltb 0) none
there longest (x ∷ xs) = lt-ltb 0 (length (front (longest + 1) (x ∷ xs))) (at (eqb x 10)) ∙ sym (lt-ltb 0 (length (x ∷ xs)) (omega arith))
  where
    at : (b : Bool) → 0 < length (take (longest + 1) (cond b (x ∷ []) (x ∷ take_through 10 xs)))
    at true = omega (arith, length-take (longest + 1) (x ∷ []))
    at false = omega (arith, length-take (longest + 1) (x ∷ take_through 10 xs))

-- ---- two reads, of which the second takes what stands after a CR

pub at_some : (o : Option (List ℕ)) (xs : List ℕ) (P : List ℕ → Type 0) → o ≡ Some xs → IfSome o P → P xs
at_some o xs P e = subst (λ q. IfSome q P) e

pub cr_read : (longest count most : ℕ) (a b c : Option (List ℕ)) (old first last : List ℕ) → old ≡ [] → most ≡ longest + 1
    → IfSome a (λ left. first ≡ old ++ front most left) → IfSome a (λ left. b ≡ Some (drop (length (front most left)) left))
    → IfSome b (λ left. last ≡ first ++ front 1 left) → IfSome b (λ left. c ≡ Some (drop (length (front 1 left)) left))
    → ends_with_byte 13 first ≡ true → length first ≡ length old + count
    → IfSome a (λ bytes. (last ≡ shown longest bytes) × (count ≡ length (front (longest + 1) bytes)) × (c ≡ Some (drop (length (shown longest bytes)) bytes)))
cr_read longest count most None b c old first last none is line left line' left' cr long = tt
cr_read longest count most (Some xs) b c old first last none is line left line' left' cr long =
    let k = longest + 1 in
    let n = length (front k xs) in
    let r = drop n xs in
    let begins : first ≡ front k xs = line ∙ ap₂ (λ l m. l ++ front m xs) none is in
    let mid : b ≡ Some r = left ∙ ap (λ m. Some (drop (length (front m xs)) xs)) is in
    let more : last ≡ first ++ front 1 r = at_some b r (λ l. last ≡ first ++ front 1 l) mid line' in
    let behind : c ≡ Some (drop (length (front 1 r)) r) = at_some b r (λ l. c ≡ Some (drop (length (front 1 l)) l)) mid left' in
    let all : front k xs ++ front 1 r ≡ shown longest xs = shown_cr longest xs (ap (ends_with_byte 13) (sym begins) ∙ cr) in
    let sum : n + length (front 1 r) ≡ length (shown longest xs) = sym (length-append (front k xs) (front 1 r)) ∙ ap length all in
    let nothing : length old ≡ 0 = ap length none in (
      more ∙ ap (λ l. l ++ front 1 r) begins ∙ all,
      omega (arith, ap length begins, long, nothing),
      behind ∙ ap Some (drop-drop (length (front 1 r)) n xs ∙ ap (λ m. drop m xs) sum),
    )

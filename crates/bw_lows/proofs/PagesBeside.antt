-- Lows and their pages beside them, as one row.

use Rattle.std.proofs.Common.{◌≡◌, ℕ, zero, suc, ◌-◌, ◌<◌, List, [], ◌∷◌, ◌++◌, length, get_or, take, drop, insert, remove, refl, sym, ap, ◌∙◌, arith}
use Rattle.std.proofs.lemmas.List.{take_all, length-take, length-drop}
use Rattle.std.proofs.lemmas.Slice.Zip.{firsts-zip}
use Rattle.std.specs.Prelude.{slice_set, zip}
use Rattle.bw_lows.specs.LowHeads.{Bytes}
use Rattle.bw_lows.specs.Rows.{Low, keys, low_at, page_at}

pub keys_beside : (es : List Bytes) (ps : List ℕ) → length ps ≡ length es → keys (zip es ps) ≡ es
keys_beside es ps long = firsts-zip es ps long

pub length_beside : (es : List Bytes) (ps : List ℕ) → length ps ≡ length es → length (zip es ps) ≡ length es
length_beside [] ps long = refl
length_beside (e ∷ es) [] long = absurd (omega arith)
length_beside (e ∷ es) (p ∷ ps) long = ap suc (length_beside es ps (omega arith))

-- ---- what stands at an index

pub low_beside : (es : List Bytes) (ps : List ℕ) (i : ℕ) → length ps ≡ length es → low_at (zip es ps) i ≡ get_or es i []
low_beside [] ps i long = refl
low_beside (e ∷ es) [] i long = absurd (omega arith)
low_beside (e ∷ es) (p ∷ ps) zero long = refl
low_beside (e ∷ es) (p ∷ ps) (suc i) long = low_beside es ps i (omega arith)

pub page_beside : (es : List Bytes) (ps : List ℕ) (i : ℕ) → length ps ≡ length es → page_at (zip es ps) i ≡ get_or ps i 0
page_beside [] [] i long = refl
page_beside [] (p ∷ ps) i long = absurd (omega arith)
page_beside (e ∷ es) [] i long = absurd (omega arith)
page_beside (e ∷ es) (p ∷ ps) zero long = refl
page_beside (e ∷ es) (p ∷ ps) (suc i) long = page_beside es ps i (omega arith)

-- what a block's clauses see of these
module _ (es : List Bytes) (ps : List ℕ) (now : List Low) (long : length ps ≡ length es) (view_is : zip es ps ≡ now) where
  pub length_now : length now ≡ length es
  length_now = ap length (sym view_is) ∙ length_beside es ps long

  pub low_now : (i : ℕ) → get_or es i [] ≡ low_at now i
  low_now i = sym (low_beside es ps i long) ∙ ap (λ (lows : List Low). low_at lows i) view_is

  pub page_now : (i : ℕ) → get_or ps i 0 ≡ page_at now i
  page_now i = sym (page_beside es ps i long) ∙ ap (λ (lows : List Low). page_at lows i) view_is

-- ---- both after a change

pub inserted_beside : (es : List Bytes) (ps : List ℕ) (i : ℕ) (e : Bytes) (p : ℕ) → length ps ≡ length es
    → zip (insert es i e) (insert ps i p) ≡ insert (zip es ps) i (e, p)
inserted_beside [] [] zero e p long = refl
inserted_beside [] [] (suc i) e p long = refl
inserted_beside [] (q ∷ ps) i e p long = absurd (omega arith)
inserted_beside (f ∷ es) [] i e p long = absurd (omega arith)
inserted_beside (f ∷ es) (q ∷ ps) zero e p long = refl
inserted_beside (f ∷ es) (q ∷ ps) (suc i) e p long = ap (λ (r : List Low). (f, q) ∷ r) (inserted_beside es ps i e p (omega arith))

length_inserted : {X : Type 0} (xs : List X) (i : ℕ) (x : X) → length (insert xs i x) ≡ suc (length xs)
length_inserted [] zero x = refl
length_inserted [] (suc i) x = refl
length_inserted (y ∷ ys) zero x = refl
length_inserted (y ∷ ys) (suc i) x = ap suc (length_inserted ys i x)

-- a low and its page were put in
module _ (es more : List Bytes) (ps others : List ℕ) (i : ℕ) (e : Bytes) (p : ℕ) (long : length ps ≡ length es)
    (more_is : more ≡ insert es i e) (others_are : others ≡ insert ps i p) where
  pub long_put : length others ≡ length more
  long_put = omega (arith, ap length more_is, ap length others_are, length_inserted es i e, length_inserted ps i p)

  pub beside_put : zip more others ≡ insert (zip es ps) i (e, p)
  beside_put =
      ap (λ (r : List Bytes). zip r others) more_is ∙ ap (λ (r : List ℕ). zip (insert es i e) r) others_are
      ∙ inserted_beside es ps i e p long

removed_beside : (es : List Bytes) (ps : List ℕ) (i : ℕ) → length ps ≡ length es
    → zip (remove es i) (remove ps i) ≡ remove (zip es ps) i
removed_beside [] [] zero long = refl
removed_beside [] [] (suc i) long = refl
removed_beside [] (q ∷ ps) i long = absurd (omega arith)
removed_beside (f ∷ es) [] i long = absurd (omega arith)
removed_beside (f ∷ es) (q ∷ ps) zero long = refl
removed_beside (f ∷ es) (q ∷ ps) (suc i) long = ap (λ (r : List Low). (f, q) ∷ r) (removed_beside es ps i (omega arith))

length_removed : (es : List Bytes) (ps : List ℕ) (i : ℕ) → length ps ≡ length es → length (remove ps i) ≡ length (remove es i)
length_removed [] [] zero long = refl
length_removed [] [] (suc i) long = refl
length_removed [] (q ∷ ps) i long = absurd (omega arith)
length_removed (f ∷ es) [] i long = absurd (omega arith)
length_removed (f ∷ es) (q ∷ ps) zero long = omega arith
length_removed (f ∷ es) (q ∷ ps) (suc i) long = ap suc (length_removed es ps i (omega arith))

-- a low and its page were taken out
module _ (es less : List Bytes) (ps others : List ℕ) (i : ℕ) (long : length ps ≡ length es)
    (less_is : less ≡ remove es i) (others_are : others ≡ remove ps i) where
  pub long_out : length others ≡ length less
  long_out = ap length others_are ∙ length_removed es ps i long ∙ sym (ap length less_is)

  pub beside_out : zip less others ≡ remove (zip es ps) i
  beside_out =
      ap (λ (r : List Bytes). zip r others) less_is ∙ ap (λ (r : List ℕ). zip (remove es i) r) others_are
      ∙ removed_beside es ps i long

pub set_beside : (es : List Bytes) (ps : List ℕ) (i p : ℕ) → length ps ≡ length es
    → zip es (slice_set ps i p) ≡ slice_set (zip es ps) i (low_at (zip es ps) i, p)
set_beside [] ps i p long = refl
set_beside (f ∷ es) [] i p long = absurd (omega arith)
set_beside (f ∷ es) (q ∷ ps) zero p long = refl
set_beside (f ∷ es) (q ∷ ps) (suc i) p long = ap (λ (r : List Low). (f, q) ∷ r) (set_beside es ps i p (omega arith))

-- two parts, one after the other
parted_beside : (es : List Bytes) (ps : List ℕ) (n : ℕ) → length ps ≡ length es
    → zip (take n es) (take n ps) ++ zip (drop n es) (drop n ps) ≡ zip es ps
parted_beside [] [] zero long = refl
parted_beside [] [] (suc n) long = refl
parted_beside [] (q ∷ ps) n long = absurd (omega arith)
parted_beside (f ∷ es) [] n long = absurd (omega arith)
parted_beside (f ∷ es) (q ∷ ps) zero long = refl
parted_beside (f ∷ es) (q ∷ ps) (suc n) long = ap (λ (r : List Low). (f, q) ∷ r) (parted_beside es ps n (omega arith))

-- what a copy from an index on has
pub rest_from : (ps : List ℕ) (n : ℕ) → take (length ps - n) (drop n ps) ≡ drop n ps
rest_from ps n = take_all (length ps - n) (drop n ps) (omega (arith, length-drop n ps))

module _ (es lower upper : List Bytes) (ps first last : List ℕ) (n : ℕ) (long : length ps ≡ length es)
    (lower_is : lower ≡ take n es) (upper_is : upper ≡ drop n es) (first_is : first ≡ take n ps) (last_is : last ≡ drop n ps) where
  pub long_lower : length first ≡ length lower
  long_lower = omega (arith, ap length first_is, ap length lower_is, length-take n es, length-take n ps)

  pub long_upper : length last ≡ length upper
  long_upper = omega (arith, ap length last_is, ap length upper_is, length-drop n es, length-drop n ps)

  pub beside_parted : zip lower first ++ zip upper last ≡ zip es ps
  beside_parted =
      ap (λ (r : List Bytes). zip r first ++ zip upper last) lower_is
      ∙ ap (λ (r : List ℕ). zip (take n es) r ++ zip upper last) first_is
      ∙ ap (λ (r : List Bytes). zip (take n es) (take n ps) ++ zip r last) upper_is
      ∙ ap (λ (r : List ℕ). zip (take n es) (take n ps) ++ zip (drop n es) r) last_is
      ∙ parted_beside es ps n long

  pub some_lower : 0 < n → 0 < length es → 0 < length (zip lower first)
  some_lower more some = omega (arith, length_beside lower first long_lower, ap length lower_is, length-take n es)

  pub some_upper : n < length es → 0 < length (zip upper last)
  some_upper less = omega (arith, length_beside upper last long_upper, ap length upper_is, length-drop n es)

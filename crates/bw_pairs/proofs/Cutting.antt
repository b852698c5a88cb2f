-- The lines of bytes, one after another.

use Rattle.std.proofs.Common.{◌≡◌, ℕ, zero, suc, ◌+◌, ◌<◌, ◌≤◌, ◌==◌, Bool, true, false, ltb, cond, List, [], ◌∷◌, length, drop, get_or, Option, None, Some, IfSome, refl, sym, ap, ap₂, subst, ◌∙◌, arith}
use Rattle.std.specs.Option.{option_map}
use Rattle.std.specs.Io.Iter.{u64_saturate}
use Rattle.std.specs.Io.BufRead.{drop_through}
use Rattle.std.proofs.lemmas.Bool.{lt-ltb, le-leb}
use Rattle.bw_pairs.specs.Inputs.{line_of, after_line}
use Rattle.bw_pairs.specs.Records.{lines_up_to, lines_in, Place, has_line, next_line, next_place}
use Rattle.bw_pairs.specs.Readings.{place_at, IsRead}

-- ---- no line is counted twice

picked : (c : Bool) (xs ys : List ℕ) (n : ℕ) → length xs ≤ n → length ys ≤ n → length (cond c xs ys) ≤ n
picked true xs ys n h k = h
picked false xs ys n h k = k

less : (bytes : List ℕ) → length (drop_through 10 bytes) ≤ length bytes
less [] = omega arith
less (b ∷ bytes) = picked (b == 10) bytes (drop_through 10 bytes) (suc (length bytes)) (omega arith) (omega (arith, less bytes))

shorter : (b : ℕ) (bytes : List ℕ) → length (after_line (b ∷ bytes)) ≤ length bytes
shorter b bytes = picked (b == 10) bytes (drop_through 10 bytes) (length bytes) (omega arith) (less bytes)

enough : (n m longest : ℕ) (bytes : List ℕ) → length bytes ≤ n → length bytes ≤ m
    → lines_up_to n longest bytes ≡ lines_up_to m longest bytes
enough zero zero longest bytes h k = refl
enough zero (suc m) longest [] h k = refl
enough zero (suc m) longest (b ∷ bytes) h k = absurd (omega arith)
enough (suc n) zero longest [] h k = refl
enough (suc n) zero longest (b ∷ bytes) h k = absurd (omega arith)
enough (suc n) (suc m) longest [] h k = refl
enough (suc n) (suc m) longest (b ∷ bytes) h k =
    ap (λ l. line_of longest (b ∷ bytes) ∷ l)
    (enough n m longest (after_line (b ∷ bytes)) (omega (arith, shorter b bytes)) (omega (arith, shorter b bytes)))

-- ---- the first line and the rest

pub first_there : (longest : ℕ) (bytes : List ℕ) → ltb 0 (length bytes) ≡ ltb 0 (length (lines_in longest bytes))
unfolding lines_in
first_there longest [] = refl
first_there longest (b ∷ bytes) =
    lt-ltb 0 (length (b ∷ bytes)) (omega arith) ∙ sym (lt-ltb 0 (length (lines_in longest (b ∷ bytes))) (omega arith))

nothing : (longest : ℕ) → line_of longest [] ≡ []
nothing longest = rw (le-leb 0 longest (omega arith)) refl

pub first_line : (longest : ℕ) (bytes : List ℕ) → line_of longest bytes ≡ get_or (lines_in longest bytes) 0 []
unfolding lines_in
first_line longest [] = nothing longest
first_line longest (b ∷ bytes) = refl

pub other_lines : (longest : ℕ) (bytes : List ℕ) → lines_in longest (after_line bytes) ≡ drop 1 (lines_in longest bytes)
unfolding lines_in
other_lines longest [] = refl
other_lines longest (b ∷ bytes) =
    enough (length (after_line (b ∷ bytes))) (length bytes) longest (after_line (b ∷ bytes)) (omega arith) (shorter b bytes)

-- ---- a line more is read

moved_from : (bytes line : List ℕ) (new : Option (List ℕ)) (is_there : Bool) (n m longest kept : ℕ)
    → is_there ≡ ltb 0 (length bytes) → line ≡ line_of longest bytes → new ≡ Some (after_line bytes)
    → m ≡ u64_saturate (n + 1) → kept ≡ longest
    → IsRead is_there line (place_at n longest bytes) (option_map (place_at m kept) new)
moved_from bytes line new is_there n m longest kept there first left number same = (
  there ∙ first_there longest bytes,
  first ∙ first_line longest bytes,
  ap₂ (λ a l. option_map (place_at a l) new) number same
      ∙ ap (option_map (place_at (u64_saturate (n + 1)) longest)) left
      ∙ ap (λ l. Some (record { number = u64_saturate (n + 1); lines = l })) (other_lines longest bytes),
)

pub moved : (old new : Option (List ℕ)) (line : List ℕ) (is_there : Bool) (n m longest kept : ℕ)
    → IfSome old (λ bytes. is_there ≡ ltb 0 (length bytes)) → IfSome old (λ bytes. line ≡ line_of longest bytes)
    → IfSome old (λ bytes. new ≡ Some (after_line bytes))
    → m ≡ u64_saturate (n + 1) → kept ≡ longest
    → IfSome (option_map (place_at n longest) old) (λ place. IsRead is_there line place (option_map (place_at m kept) new))
moved None new line is_there n m longest kept there first left number same = tt
moved (Some bytes) new line is_there n m longest kept there first left number same =
    moved_from bytes line new is_there n m longest kept there first left number same

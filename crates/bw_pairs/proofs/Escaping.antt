-- What one letter more of a dump's line adds to what was read.

use Rattle.std.proofs.Common.{◌≡◌, ℕ, suc, ◌+◌, ◌*◌, ◌%◌, ◌<◌, ◌≤◌, false, ◌==◌, List, [], ◌∷◌, ◌++◌, length, Option, Some, None, Result, Ok, Err, OnOk, OnErr, IfSome, refl, sym, ap, ◌∙◌, append_assoc, length-append, subst, nat_le, get_or, drop, drop-cons, IsErr, IfOk, arith}
use Rattle.std.specs.Option.{option_and_then}
use Rattle.std.specs.Io.KnownBytes.{prepend_known}
use Rattle.std.proofs.lemmas.Bool.Decides.{nat_tests}
use Rattle.hex.specs.Hex.{hex_digit_value}
use Rattle.bw_pairs.specs.Words.{as_key, as_value}
use Rattle.std.specs.Result.{result_ok}
use Rattle.std.proofs.KnownBytes.{prepend_known-nil}
use Rattle.bw_pairs.specs.Dumps.{before, unescaped, behind_space, dump_meant}
use Rattle.bw_pairs.specs.declared.dump.Letters.{Letters}
use Rattle.bw_pairs.specs.declared.dump.Letters.TheVariants.{Print}
use Rattle.bw_pairs.specs.declared.dump.Escape.{Escape}
use Rattle.bw_pairs.specs.declared.dump.Escape.TheVariants.{Outside, Begun, Half}

joined : (held new : List ℕ) (byte : ℕ) (o : Option (List ℕ)) → new ≡ held ++ byte ∷ []
    → prepend_known new o ≡ prepend_known held (before byte o)
joined held new byte None same = refl
joined held new byte (Some rest) same = ap Some (ap (λ l. l ++ rest) same ∙ append_assoc held (byte ∷ []) rest)

longer : (room : ℕ) (held : List ℕ) (byte : ℕ) (o : Option (List ℕ)) → room ≤ length held
    → IfSome (prepend_known held (before byte o)) (λ all. room < length all)
longer room held byte None full = search
longer room held byte (Some rest) full = omega (arith, length-append held (byte ∷ rest))

-- from this state a letter stands for a byte, or is the end of one
abbrev pub Ends : Escape → ℕ → ℕ → Type 0
Ends state letter byte = (rest : List ℕ) → unescaped state (letter ∷ rest) ≡ before byte (unescaped Outside rest)

pub came : {E : Type 0} (r : Result Unit E) (held new : List ℕ) (state after : Escape) (letter byte : ℕ)
    → OnOk r (new ≡ held ++ byte ∷ []) → after ≡ Outside → Ends state letter byte
    → OnOk r ((rest : List ℕ) → prepend_known new (unescaped after rest) ≡ prepend_known held (unescaped state (letter ∷ rest)))
came (Ok x) held new state after letter byte same outside ends =
    λ rest. rw (outside, ends rest) (joined held new byte (unescaped Outside rest) same)
came (Err e) held new state after letter byte same outside ends = search

pub refused : {E : Type 0} (r : Result Unit E) (room : ℕ) (held : List ℕ) (state : Escape) (letter byte : ℕ)
    → OnErr r (room ≤ length held) → Ends state letter byte
    → OnErr r ((rest : List ℕ) → IfSome (prepend_known held (unescaped state (letter ∷ rest))) (λ all. room < length all))
refused (Ok x) room held state letter byte full ends = search
refused (Err e) room held state letter byte full ends =
    λ rest. rw (ends rest) (longer room held byte (unescaped Outside rest) full)

pub outside : (state : Escape) (letter : ℕ) → state ≡ Outside → (letter ≡ 92 → ⊥) → Ends state letter letter
outside state letter is other rest =
    let differs : letter == 92 ≡ false = grind (arith, nat_tests) in
    rw (is, differs) refl

pub begun : (state : Escape) (letter : ℕ) → state ≡ Begun → letter ≡ 92 → Ends state letter letter
begun state letter is e rest = rw (is, e) refl

pub half : (state : Escape) (letter first second byte : ℕ) → state ≡ Half first → Some second ≡ hex_digit_value letter
    → byte ≡ first % 16 * 16 + second → Ends state letter byte
half state letter first second byte is digit same rest = rw (is, ← digit, same) refl

-- ---- a line that was refused

pub on_err : {T E : Type 0} (r : Result T E) (P : Type 0) → P → OnErr r P
on_err (Ok x) P p = search
on_err (Err e) P p = p

more : (least room : ℕ) (o : Option (List ℕ)) → least ≤ room → IfSome o (λ all. room < length all)
    → IfSome o (λ all. least < length all)
more least room None le h = search
more least room (Some all) le h = omega arith

-- a letter that was refused leaves no room for the whole line
pub stopped : (least room letter i : ℕ) (held first : List ℕ) (state : Escape) (line : List ℕ) → i < length line → letter ≡ get_or line i 0
    → prepend_known held (unescaped state (drop i line)) ≡ prepend_known first (unescaped Outside line)
    → least ≤ room
    → ((rest : List ℕ) → IfSome (prepend_known held (unescaped state (letter ∷ rest))) (λ all. room < length all))
    → IfSome (prepend_known first (unescaped Outside line)) (λ all. least < length all)
stopped least room letter i held first state line lt is same le h =
    let whole : drop i line ≡ letter ∷ drop (suc i) line = rw is (drop-cons line i 0 lt) in
    let P : Option (List ℕ) → Type 0 = λ o. IfSome o (λ all. least < length all) in
    subst P (ap (λ l. prepend_known held (unescaped state l)) (sym whole) ∙ same) (more least room _ le (h (drop (suc i) line)))

pub no_key : (o : Option (List ℕ)) → IfSome o (λ bytes. 512 < length bytes) → option_and_then as_key o ≡ None
no_key None h = refl
no_key (Some bytes) h =
    let long : nat_le (length bytes) 128 ≡ false = grind (arith, nat_tests) in
    rw long (grind arith)

pub no_value : (o : Option (List ℕ)) → IfSome o (λ bytes. 512 < length bytes) → option_and_then as_value o ≡ None
no_value None h = refl
no_value (Some bytes) h =
    let long : nat_le (length bytes) 512 ≡ false = grind (arith, nat_tests) in
    rw long refl

pub err_none : {T E : Type 0} (r : Result T E) → IsErr r → result_ok r ≡ None
err_none (Ok x) h = cc h
err_none (Err e) h = refl

-- ---- a line with escapes

pub printed : (letters : Letters) (line text new : List ℕ) → letters ≡ Print → behind_space line ≡ Some text → new ≡ []
    → prepend_known new (unescaped Outside text) ≡ dump_meant letters line
printed letters line text new is space none = rw (is, space, none) (prepend_known-nil (unescaped Outside text))

pub if_ok_along : {T E : Type 0} (r : Result T E) (o p : Option (List ℕ)) (f : T → List ℕ) → o ≡ p
    → IfOk r (λ x. o ≡ Some (f x)) → IfOk r (λ x. p ≡ Some (f x))
if_ok_along (Ok x) o p f same h = sym same ∙ h
if_ok_along (Err e) o p f same h = search

pub on_err_along : {T E : Type 0} (r : Result T E) (o p : Option (List ℕ)) (room : ℕ) → o ≡ p
    → OnErr r (IfSome o (λ all. room < length all)) → OnErr r (IfSome p (λ all. room < length all))
on_err_along r o p room same h = rw (← same) h

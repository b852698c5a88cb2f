-- A desk as a list: at each number, whether its lease is out.
use Rattle.std.specs.Prelude.{◌≡◌, ℕ, ◌+◌, Bool, true, List, [], ◌∷◌, if◌then◌else◌}

-- how many leases are out
abbrev pub out_count : List Bool → ℕ
out_count [] = 0
out_count (is_out ∷ slots) = (if is_out then 1 else 0) + out_count slots

-- no number is added, and those that are out now were out before
abbrev pub OnlyFrees : List Bool → List Bool → Type 0
OnlyFrees [] [] = Unit {0}
OnlyFrees (was ∷ old) (is ∷ new) = (is ≡ true → was ≡ true) × OnlyFrees old new
OnlyFrees [] (is ∷ new) = ⊥
OnlyFrees (was ∷ old) [] = ⊥

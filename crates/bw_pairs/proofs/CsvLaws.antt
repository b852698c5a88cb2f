-- A line of CSV stands for the pair of which it was made.

use Rattle.std.proofs.Common.{◌≡◌, ℕ, suc, ◌/◌, ◌%◌, ◌<◌, Bool, true, false, not, cond, ◌&&◌, ◌||◌, ◌==◌, List, [], ◌∷◌, ◌++◌, slice_index, Option, Some, None, refl, sym, ap, ◌∙◌, append_assoc, append-nil, arith}
use Rattle.std.specs.Option.{option_and_then}
use Rattle.std.specs.List.{flat_map, list_any}
use Rattle.std.proofs.lemmas.List.Folds.{list_all_at}
use Rattle.std.proofs.lemmas.Bool.{eqb-true}
use Rattle.hex.specs.Hex.{encode_with, encode_lower, lower_digits}
use Rattle.bw_record.specs.Keys.{IsBytes}
use Rattle.bw_pairs.specs.Words.{is_text, hexed, meant, as_key, as_value}
use Rattle.bw_pairs.specs.Csv.{is_apart, doubled, quoted, field, Read, ended, onto, field_from, field_key, field_value}
use Rattle.bw_pairs.specs.Laws.{CsvLinesAreReadBack}
use Rattle.bw_pairs.specs.declared.spelling.Spelling.TheVariants.{Words}
use Rattle.bw_pairs.specs.declared.csv.At.TheVariants.{Begin, Bare, Quoted, Closed}
use Rattle.bw_pairs.proofs.LineLaws.{as_key-lawful, as_value-lawful}
use Rattle.bw_pairs.proofs.WordLaws as of_words

-- a field may end here: at the end of a line, or at a comma
record IsEnd (line : List ℕ) (rest : Option (List ℕ)) : Type 0 where
  begin : field_from Begin line ≡ ended false rest
  bare : field_from Bare line ≡ ended false rest
  closed : field_from Closed line ≡ ended true rest

line_end : IsEnd [] None
line_end = record { begin = refl; bare = refl; closed = refl }

comma : (line : List ℕ) → IsEnd (44 ∷ line) (Some line)
comma line = record { begin = refl; bare = refl; closed = refl }

abbrev read : List ℕ → Bool → Option (List ℕ) → Read
read bytes is_quoted rest = record { bytes = bytes; is_quoted = is_quoted; rest = rest }

neither : (a b : Bool) → a || b ≡ false → (a ≡ false) × (b ≡ false)
neither true b h = cc h
neither false b h = (refl, h)

-- ---- without quotes

bare_back : (w line : List ℕ) (rest : Option (List ℕ)) → IsEnd line rest → list_any is_apart w ≡ false
    → field_from Bare (w ++ line) ≡ Some (read w false rest)
bare_back [] line rest e h = e.bare
bare_back (b ∷ w) line rest e h =
    let parts = neither (is_apart b) (list_any is_apart w) h in
    let one = neither (b == 44) (b == 34) parts.0 in
    rw (one.0, bare_back w line rest e parts.1) refl

begin_back : (w line : List ℕ) (rest : Option (List ℕ)) → IsEnd line rest → list_any is_apart w ≡ false
    → field_from Begin (w ++ line) ≡ Some (read w false rest)
begin_back [] line rest e h = e.begin
begin_back (b ∷ w) line rest e h =
    let parts = neither (is_apart b) (list_any is_apart w) h in
    let one = neither (b == 44) (b == 34) parts.0 in
    rw (one.0, one.1, bare_back w line rest e parts.1) refl

-- ---- between quotes

doubled_back : (b : ℕ) (c : Bool) (line : List ℕ) → b == 34 ≡ c
    → field_from Quoted (cond c (34 ∷ 34 ∷ []) (b ∷ []) ++ line) ≡ onto (b ∷ []) (field_from Quoted line)
doubled_back b true line same = rw (eqb-true b 34 same) refl
doubled_back b false line same = rw same refl

quoted_back : (bytes line : List ℕ) (rest : Option (List ℕ)) → IsEnd line rest
    → field_from Quoted (flat_map doubled bytes ++ 34 ∷ line) ≡ Some (read bytes true rest)
quoted_back [] line rest e = e.closed
quoted_back (b ∷ bytes) line rest e =
    ap (field_from Quoted) (append_assoc (doubled b) (flat_map doubled bytes) (34 ∷ line))
    ∙ doubled_back b (b == 34) (flat_map doubled bytes ++ 34 ∷ line) refl
    ∙ ap (onto (b ∷ [])) (quoted_back bytes line rest e)

-- ---- fields

is_true : (b : Bool) → (b ≡ false → ⊥) → b ≡ true
is_true true h = refl
is_true false h = absurd (h refl)

not_true : (b : Bool) → not b ≡ true → b ≡ false
not_true true h = cc h
not_true false h = refl

digit : (d : ℕ) → d < 16 → is_apart (slice_index lower_digits d) ≡ false
digit d h = not_true _ (is_true _ (λ low. cc (list_all_at (λ b. not (is_apart b)) lower_digits d 0 h low)))

digits : (bytes : List ℕ) → IsBytes bytes → list_any is_apart (encode_lower bytes) ≡ false
unfolding encode_with
digits [] h = refl
digits (b ∷ bytes) h =
    let small : b < 256 = h 0 in
    let high : b / 16 < 16 = omega arith in
    let low : b % 16 < 16 = omega arith in
    rw (digit (b / 16) high, digit (b % 16) low, digits bytes (λ i. h (suc i))) refl

-- what is read of a field, and what it stands for
abbrev IsBack : List ℕ → List ℕ → List ℕ → Option (List ℕ) → Type 0
IsBack bytes spelled line rest =
    (r : Read) × (field_from Begin (spelled ++ line) ≡ Some r) × (r.rest ≡ rest)
    × (field_key r ≡ as_key bytes) × (field_value r ≡ as_value bytes)

plain_back : (bytes w line : List ℕ) (rest : Option (List ℕ)) → IsEnd line rest → list_any is_apart w ≡ false
    → meant w ≡ Some bytes → IsBack bytes w line rest
plain_back bytes w line rest e h same = (
  read w false rest,
  begin_back w line rest e h,
  refl,
  ap (option_and_then as_key) same,
  ap (option_and_then as_value) same,
)

between_back : (bytes line : List ℕ) (rest : Option (List ℕ)) → IsEnd line rest → IsBack bytes (quoted bytes) line rest
between_back bytes line rest e = (
  read bytes true rest,
  ap (field_from Quoted) (append_assoc (flat_map doubled bytes) (34 ∷ []) line) ∙ quoted_back bytes line rest e,
  refl,
  refl,
  refl,
)

chosen : (bytes : List ℕ) (a t : Bool) (line : List ℕ) (rest : Option (List ℕ)) → IsEnd line rest → IsBytes bytes
    → list_any is_apart bytes ≡ a → meant (cond t bytes (hexed bytes)) ≡ Some bytes
    → IsBack bytes (cond (a && t) (quoted bytes) (cond t bytes (hexed bytes))) line rest
chosen bytes true true line rest e lawful apart same = between_back bytes line rest e
chosen bytes false true line rest e lawful apart same = plain_back bytes bytes line rest e apart same
chosen bytes true false line rest e lawful apart same = plain_back bytes (hexed bytes) line rest e (digits bytes lawful) same
chosen bytes false false line rest e lawful apart same = plain_back bytes (hexed bytes) line rest e (digits bytes lawful) same

field_back : (bytes line : List ℕ) (rest : Option (List ℕ)) → IsEnd line rest → IsBytes bytes → IsBack bytes (field bytes) line rest
field_back bytes line rest e lawful =
    chosen bytes (list_any is_apart bytes) (is_text bytes) line rest e lawful refl (of_words.words Words bytes (λ h. cc h) lawful)

-- ---- lines

pub csv : CsvLinesAreReadBack
csv pair lawful =
    let first = field_back pair.0 (44 ∷ field pair.1) (Some (field pair.1)) (comma (field pair.1)) lawful.1 in
    let second = field_back pair.1 [] None line_end lawful.2 in
    let whole : field_from Begin (field pair.1) ≡ Some second.0 =
    ap (field_from Begin) (sym (append-nil (field pair.1))) ∙ second.1 in
    let key : field_key first.0 ≡ Some pair.0 = first.3 ∙ as_key-lawful pair.0 lawful.0.0 in
    let value : field_value second.0 ≡ Some pair.1 = second.4 ∙ as_value-lawful pair.1 lawful.0.1 in
    rw (first.1, first.2, whole, second.2, key, value) refl

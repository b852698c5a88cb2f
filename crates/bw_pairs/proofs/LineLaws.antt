-- A line with a tab stands for the pair of which it was made.

use Rattle.std.proofs.Common.{◌≡◌, ℕ, ◌+◌, ◌≤◌, Bool, true, false, ◌||◌, nat_lt, List, [], ◌∷◌, ◌++◌, length, drop, Option, Some, refl, ap, ◌∙◌, arith, length-append}
use Rattle.std.specs.List.{list_any, position_or_len}
use Rattle.std.specs.Option.{option_and_then}
use Rattle.std.proofs.Math.Seq.{take-append_seam, drop-append-add}
use Rattle.std.proofs.lemmas.Bool.{le-leb}
use Rattle.bw_record.specs.Keys.{IsKey}
use Rattle.bw_pairs.specs.Words.{word, as_key, as_value, key_meant, value_meant}
use Rattle.bw_pairs.specs.Lines.{is_tab, parted, put_of}
use Rattle.bw_pairs.specs.Laws.{TabLinesAreReadBack, RawLinesAreReadBack}
use Rattle.bw_pairs.proofs.Plain.{word-plain, no_tab}
use Rattle.bw_pairs.proofs.WordLaws as of_words

-- ---- the first tab

neither : (a b : Bool) → a || b ≡ false → (a ≡ false) × (b ≡ false)
neither true b h = cc h
neither false b h = (refl, h)

place : (w v : List ℕ) → list_any is_tab w ≡ false → position_or_len is_tab (w ++ 9 ∷ v) ≡ length w
place [] v h = refl
place (x ∷ w) v h =
    let parts = neither (is_tab x) (list_any is_tab w) h in
    rw (parts.0, place w v parts.1) (omega arith)

parted_at : (key value : List ℕ → Option (List ℕ)) (w v : List ℕ) → list_any is_tab w ≡ false
    → parted key value (w ++ 9 ∷ v) ≡ put_of (key w) (value v)
parted_at key value w v h =
    let behind : drop (length w + 1) (w ++ 9 ∷ v) ≡ v = drop-append-add w (9 ∷ v) 1 in
    let more : nat_lt (length w) (length (w ++ 9 ∷ v)) ≡ true = le-leb _ _ (omega (arith, length-append w (9 ∷ v))) in
    rw (place w v h, more, take-append_seam w (9 ∷ v), behind) refl

-- ---- what is as long as a key or a value

pub as_key-lawful : (bytes : List ℕ) → IsKey bytes → as_key bytes ≡ Some bytes
as_key-lawful bytes h = rw (le-leb 1 (length bytes) h.0, le-leb (length bytes) 128 h.1) refl

pub as_value-lawful : (bytes : List ℕ) → length bytes ≤ 512 → as_value bytes ≡ Some bytes
as_value-lawful bytes h = rw (le-leb (length bytes) 512 h) refl

-- ---- lines

pub words : TabLinesAreReadBack
words way pair h lawful =
    let key : key_meant (word way pair.0) ≡ Some pair.0 = ap (option_and_then as_key) (of_words.words way pair.0 h lawful.1) ∙ as_key-lawful pair.0 lawful.0.0 in
    let value : value_meant (word way pair.1) ≡ Some pair.1 = ap (option_and_then as_value) (of_words.words way pair.1 h lawful.2) ∙ as_value-lawful pair.1 lawful.0.1 in
    parted_at key_meant value_meant (word way pair.0) (word way pair.1) (no_tab (word way pair.0) (word-plain way pair.0 h lawful.1))
    ∙ rw (key, value) refl

pub raw : RawLinesAreReadBack
raw pair lawful none =
    parted_at as_key as_value pair.0 pair.1 none
    ∙ rw (as_key-lawful pair.0 lawful.0.0, as_value-lawful pair.1 lawful.0.1) refl

-- Lines: a pair as a line, in each spelling, and the pair for which a line stands.

use Rattle.std.specs.Prelude.{ℕ, Bool, if◌then◌else◌, ◌==◌, nat_lt, List, ◌∷◌, ◌++◌, length, Option, None, option_map}
use Rattle.std.specs.List.{before_first, after_first, position_or_len}
use Rattle.std.specs.Option.{option_zip}
use Rattle.bw_record.specs.declared.record.Record.{Record}
use Rattle.bw_record.specs.declared.record.Record.TheVariants.{Put, Del}
use Rattle.bw_pairs.specs.declared.spelling.Spelling.{Spelling}
use Rattle.bw_pairs.specs.Words.{word, as_key, as_value, key_meant, value_meant}

abbrev pub Pair : Type 0
Pair = List ℕ × List ℕ

-- ---- tabs

-- the key, a tab, the value
abbrev pub tab_line : Spelling → Pair → List ℕ
tab_line way pair = word way pair.0 ++ 9 ∷ word way pair.1

abbrev pub is_tab : ℕ → Bool
is_tab byte = byte == 9

-- the put of a key and a value, if both are there
abbrev pub put_of : Option (List ℕ) → Option (List ℕ) → Option Record
put_of key value = option_map (λ pair. Put pair.0 pair.1) (option_zip key value)

-- the put of a line whose first tab parts its words, each of which stands for bytes
abbrev pub parted : (List ℕ → Option (List ℕ)) → (List ℕ → Option (List ℕ)) → List ℕ → Option Record
parted key value line =
    if nat_lt (position_or_len is_tab line) (length line)
    then put_of (key (before_first is_tab line)) (value (after_first is_tab line)) else None

-- the put of a line, and that of a line whose words are their own bytes
abbrev pub tab_put : List ℕ → Option Record
tab_put line = parted key_meant value_meant line

abbrev pub raw_put : List ℕ → Option Record
raw_put line = parted as_key as_value line

-- the delete of a line's key: what stands before the first tab, or all of it
abbrev pub tab_del : List ℕ → Option Record
tab_del line = option_map Del (key_meant (before_first is_tab line))

abbrev pub raw_del : List ℕ → Option Record
raw_del line = option_map Del (as_key (before_first is_tab line))

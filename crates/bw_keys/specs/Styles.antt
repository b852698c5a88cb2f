-- What is written of a pair that goes out, in each style.

use Rattle.std.specs.Prelude.{ℕ, List, [], ◌∷◌, ◌++◌, Some, None}
use Rattle.bw_pairs.specs.Words.{word}
use Rattle.bw_pairs.specs.Lines.{tab_line}
use Rattle.bw_pairs.specs.Csv.{csv_line, lone_field}
use Rattle.bw_pairs.specs.Json.{object}
use Rattle.bw_pairs.specs.Dumps.{dump_line}
use Rattle.bw_keys.specs.declared.listing.Style.{Style}
use Rattle.bw_keys.specs.declared.listing.Style.TheVariants.{Tabs, Keys, Values, Json, Csv, Dump}
use Rattle.bw_keys.specs.declared.listing.Parts.{Parts}
use Rattle.bw_keys.specs.declared.listing.Parts.TheVariants as parts

-- a line of CSV
abbrev pub in_csv : Parts → List ℕ → List ℕ → List ℕ
in_csv parts.Both key value = csv_line (key, value)
in_csv parts.Keys key value = lone_field key
in_csv parts.Values key value = lone_field value

-- an object of JSON
abbrev pub in_json : Parts → List ℕ → List ℕ → List ℕ
in_json parts.Both key value = object (Some key) (Some value)
in_json parts.Keys key value = object (Some key) None
in_json parts.Values key value = object None (Some value)

-- the lines of a key and its value
abbrev pub styled : Style → List ℕ → List ℕ → List ℕ
styled (Tabs spelling) key value = tab_line spelling (key, value) ++ 10 ∷ []
styled (Keys spelling) key value = word spelling key ++ 10 ∷ []
styled (Values spelling) key value = word spelling value ++ 10 ∷ []
styled (Json part) key value = in_json part key value ++ 10 ∷ []
styled (Csv part) key value = in_csv part key value ++ 10 ∷ []
styled (Dump letters mapsize) key value = dump_line letters key ++ 10 ∷ dump_line letters value ++ 10 ∷ []

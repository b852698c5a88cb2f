-- What a block's bytes say of one key on a page, read from left to right where they lie.

use Rattle.std.specs.Prelude.{ℕ, zero, suc, ◌==◌, if◌then◌else◌, Option, Some, None, List, [], ◌∷◌}
use Rattle.std.specs.FinMap.Entries.{by_order}
use Rattle.bw_record.specs.declared.block.Place.{Place}
use Rattle.bw_record.specs.declared.block.Block.{Block}
use Rattle.bw_codec.specs.Reading.{◌>>=◌, op_at, pair_at}
use Rattle.bw_codec.specs.Lent.{delta_parts, base_parts, split_parts}
use Rattle.bw_leaf.specs.Changed.{Bytes, order}
use Rattle.bw_leaf.specs.Words.{newer, record_word, split_word, word_of, block_word}
use Rattle.bw_leaf.specs.declared.words.Word.{Word}
use Rattle.bw_leaf.specs.declared.words.Word.TheVariants.{Silent}
use Rattle.bw_log.specs.Walking.{first_back}

-- the value of a key among n pairs, whose keys ascend
unfoldable pub value_found : ℕ → Bytes → ℕ → List ℕ → Option (Option Bytes)
value_found v k zero bytes = Some None
value_found v k (suc n) bytes =
    pair_at v bytes >>= λ pair. by_order (order k pair.0.0) (Some None) (Some (Some pair.0.1)) (value_found v k n pair.1)

-- what n records say of a key, after this word
unfoldable pub word_found : ℕ → Bytes → Word → ℕ → List ℕ → Option Word
word_found v k was zero bytes = Some was
word_found v k was (suc n) bytes = op_at v bytes >>= λ op. word_found v k (newer was (record_word k op.0)) n op.1

-- what is said of a key, and where the page's next older block stands, if that may say more
abbrev pub Heard : Type 0
Heard = Word × Option Place

abbrev pub heard_of : Word → Option Place → Heard
heard_of word back = (word, back)

-- what a block says of a key on a page
abbrev pub says : ℕ → Bytes → Block → Heard
says p k block = heard_of (block_word p k block) (first_back p (block ∷ []))

-- a block of another page
abbrev pub unheard : Heard
unheard = heard_of Silent None

-- n pairs that a page is set to
abbrev pub pairs_heard : ℕ → Bytes → ℕ → List ℕ → Option Heard
pairs_heard v k n bytes = value_found v k n bytes >>= λ value. Some (heard_of (word_of value) None)

-- n records that change a page, with the link back
abbrev pub ops_heard : ℕ → Bytes → Place → ℕ → List ℕ → Option Heard
ops_heard v k back n bytes = word_found v k Silent n bytes >>= λ word. Some (heard_of word (Some back))

-- the split of a page at this key, with the link back
abbrev pub cut_heard : Bytes → Bytes → Place → Heard
cut_heard k separator back = heard_of (split_word k separator) (Some back)

unfoldable pub delta_heard : ℕ → ℕ → Bytes → List ℕ → Option Heard
delta_heard v p k bytes = delta_parts bytes >>= λ d. if d.0.0 == p then ops_heard v k d.0.1 d.0.2 d.1 else Some unheard

unfoldable pub base_heard : ℕ → ℕ → Bytes → List ℕ → Option Heard
base_heard v p k bytes = base_parts v bytes >>= λ b. if b.0.0 == p then pairs_heard v k b.0.2 b.1 else Some unheard

-- the page that a Split makes is set by it
unfoldable pub split_heard : ℕ → ℕ → Bytes → List ℕ → Option Heard
split_heard v p k bytes =
    split_parts v bytes >>= λ s. if s.0.3 == p then pairs_heard v k s.0.4 s.1 else if s.0.0 == p then Some (cut_heard k s.0.2 s.0.1) else Some unheard

unfoldable pub block_heard : ℕ → ℕ → Bytes → List ℕ → Option Heard
block_heard v p k [] = None
block_heard v p k (tag ∷ bytes) =
    if tag == 1 then delta_heard v p k bytes else if tag == 2 then base_heard v p k bytes else if tag == 3 then split_heard v p k bytes else None

-- what a value that is lent, or none, says as a word: nothing was said, the key has no value, or this one
abbrev pub lent_word : Option (Option Bytes) → Word
lent_word None = Silent
lent_word (Some value) = word_of value

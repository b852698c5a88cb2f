-- What records and blocks say of the value of one key: the newest word counts.

use Rattle.std.specs.Prelude.{ℕ, ◌==◌, if◌then◌else◌, Option, Some, None, IsTrue, List}
use Rattle.std.specs.List.{fold}
use Rattle.std.specs.Ordering.{eq_by_cmp}
use Rattle.std.specs.FinMap.Entries.{find}
use Rattle.bw_record.specs.Keys.{is_below, ascends}
use Rattle.bw_record.specs.Record.{key_of}
use Rattle.bw_record.specs.declared.leaf.Leaf.{Leaf}
use Rattle.bw_record.specs.declared.record.Record.{Record}
use Rattle.bw_record.specs.declared.record.Record.TheVariants.{Put, Del}
use Rattle.bw_record.specs.declared.block.Block.{Block}
use Rattle.bw_record.specs.declared.block.Block.TheVariants.{Delta, Base, Split}
use Rattle.bw_leaf.specs.Changed.{Bytes, order}
use Rattle.bw_leaf.specs.declared.words.Word.{Word}
use Rattle.bw_leaf.specs.declared.words.Word.TheVariants.{Silent, Gone, Holds}

-- the newer of two words
abbrev pub newer : Word → Word → Word
newer was Silent = was
newer was Gone = Gone
newer was (Holds value) = Holds value

-- the value, if there was this one before the word
abbrev pub told_by : Word → Option Bytes → Option Bytes
told_by Silent was = was
told_by Gone was = None
told_by (Holds value) was = Some value

-- the word of a page that is known
abbrev pub word_of : Option Bytes → Word
word_of None = Gone
word_of (Some value) = Holds value

-- ---- records

abbrev pub said : Record → Word
said (Put key value) = Holds value
said (Del key) = Gone

abbrev pub record_word : Bytes → Record → Word
record_word k r = if eq_by_cmp order k (key_of r) then said r else Silent

abbrev pub records_word : Bytes → List Record → Word
records_word k rs = fold (λ was r. newer was (record_word k r)) Silent rs

-- ---- blocks

-- a page that is split has no key from the separator on
abbrev pub split_word : Bytes → Bytes → Word
split_word k separator = if is_below k separator then Silent else Gone

-- what a block says of a key on a page
abbrev pub block_word : ℕ → Bytes → Block → Word
block_word p k (Delta page back ops) = if page == p then records_word k ops else Silent
block_word p k (Base leaf) = if leaf.page == p then word_of (find order k leaf.pairs) else Silent
block_word p k (Split page back upper) =
    if upper.page == p then word_of (find order k upper.pairs) else if page == p then split_word k upper.low else Silent

abbrev pub blocks_word : ℕ → Bytes → List Block → Word
blocks_word p k bs = fold (λ was b. newer was (block_word p k b)) Silent bs

-- the pairs that a block has ascend
abbrev pub HasOrder : Block → Type 0
HasOrder (Delta page back ops) = Unit {0}
HasOrder (Base leaf) = IsTrue (ascends leaf.pairs)
HasOrder (Split page back upper) = IsTrue (ascends upper.pairs)

-- the value of a key on a page, if the page is known
abbrev pub value_on : Bytes → Option Leaf → Option Bytes
value_on k None = None
value_on k (Some leaf) = find order k leaf.pairs

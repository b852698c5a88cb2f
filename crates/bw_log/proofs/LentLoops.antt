-- Loops that look for a key among pairs and records where they lie.

use Rattle.std.proofs.Common.{◌≡◌, ℕ, suc, ◌+◌, ◌-◌, ◌<◌, Option, Some, None, List, ap, ◌∙◌, arith}
use Rattle.std.specs.FinMap.Entries.{by_order}
use Rattle.bw_record.specs.declared.record.Record.{Record}
use Rattle.bw_codec.specs.Reading.{◌>>=◌, pair_at, op_at}
use Rattle.bw_leaf.specs.Changed.{Bytes, order}
use Rattle.bw_leaf.specs.Words.{newer, record_word}
use Rattle.bw_leaf.specs.declared.words.Word.{Word}
use Rattle.bw_log.specs.Lent.{value_found, word_found}

-- one pair more was read
pub value_on : (v : ℕ) (k : Bytes) (count i : ℕ) (bytes : List ℕ) (p : Bytes × Bytes) (rest : List ℕ) → i < count → pair_at v bytes ≡ Some (p, rest)
    → value_found v k (count - i) bytes ≡ by_order (order k p.0) (Some None) (Some (Some p.1)) (value_found v k (count - (i + 1)) rest)
unfolding value_found
value_on v k count i bytes p rest h e =
    let n : count - i ≡ suc (count - (i + 1)) = omega arith in
    ap (λ m. value_found v k m bytes) n
    ∙ ap (λ (o : Option ((Bytes × Bytes) × List ℕ)). o >>= λ pair. by_order (order k pair.0.0) (Some None) (Some (Some pair.0.1))
    (value_found v k (count - (i + 1)) pair.1)) e

-- one record more was read
pub word_on : (v : ℕ) (k : Bytes) (was : Word) (count i : ℕ) (bytes : List ℕ) (r : Record) (rest : List ℕ) → i < count → op_at v bytes ≡ Some (r, rest)
    → word_found v k was (count - i) bytes ≡ word_found v k (newer was (record_word k r)) (count - (i + 1)) rest
unfolding word_found
word_on v k was count i bytes r rest h e =
    let n : count - i ≡ suc (count - (i + 1)) = omega arith in
    ap (λ m. word_found v k was m bytes) n
    ∙ ap (λ (o : Option (Record × List ℕ)). o >>= λ op. word_found v k (newer was (record_word k op.0)) (count - (i + 1)) op.1) e

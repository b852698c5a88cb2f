-- Pages by records and pairs that stay where they lie.

use Rattle.std.proofs.Common.{◌≡◌, ℕ, suc, ◌+◌, ◌-◌, ◌<◌, Option, Some, Result, Ok, Err, OnOk, List, [], ◌∷◌, ◌++◌, length, refl, sym, ap, ◌∙◌, append_assoc, append-nil, arith}
use Rattle.std.specs.List.{flat_map, AllByRecursion}
use Rattle.bw_record.specs.Lawful.{IsPairIn, IsOpIn}
use Rattle.bw_record.specs.declared.record.Record.{Record}
use Rattle.bw_record.specs.declared.leaf.Leaf.{Leaf}
use Rattle.bw_codec.specs.Grammar.{op_bytes_in, pair_bytes_in}
use Rattle.bw_codec.specs.Reading.{◌>>=◌, op_at, pair_at}
use Rattle.bw_codec.proofs.Format.{again_on, found}
use Rattle.bw_codec.proofs.BlockFormat.{op_format, pair_format}
use Rattle.bw_leaf.specs.Changed.{Bytes, Pairs, changed, all_changed}
use Rattle.bw_found.specs.Lent.{ops_into, pairs_into, AreOps, ArePairs}

-- ---- records

pub op_on : (v : ℕ) (leaf : Leaf) (count i : ℕ) (bytes : List ℕ) (r : Record) (rest : List ℕ) → i < count → op_at v bytes ≡ Some (r, rest)
    → ops_into v leaf (count - i) bytes ≡ ops_into v (changed r leaf) (count - (i + 1)) rest
unfolding ops_into
op_on v leaf count i bytes r rest h e =
    let n : count - i ≡ suc (count - (i + 1)) = omega arith in
    ap (λ k. ops_into v leaf k bytes) n
    ∙ ap (λ (o : Option (Record × List ℕ)). o >>= λ op. ops_into v (changed op.0 leaf) (count - (i + 1)) op.1) e

pub ops_end : (v : ℕ) (leaf : Leaf) (count i : ℕ) (bytes : List ℕ) → i ≡ count → ops_into v leaf (count - i) bytes ≡ Some leaf
unfolding ops_into
ops_end v leaf count i bytes all = let n : count - i ≡ 0 = omega arith in ap (λ k. ops_into v leaf k bytes) n

ops_spelled : (v : ℕ) (leaf : Leaf) (ops : List Record) (rest : List ℕ) → AllByRecursion (IsOpIn v) ops
    → ops_into v leaf (length ops) (flat_map (op_bytes_in v) ops ++ rest) ≡ Some (all_changed ops leaf)
unfolding ops_into
ops_spelled v leaf [] rest laws = refl
ops_spelled v leaf (r ∷ rs) rest laws =
    rw (again_on (op_bytes_in v) (IsOpIn v) (op_at v) (op_format v) r (flat_map (op_bytes_in v) rs) rest laws.0) (ops_spelled v (changed r leaf) rs rest laws.1)

pub ops_told : {E : Type 0} (r : Result (Unit {0}) E) (v count : ℕ) (bytes : List ℕ) (ops : List Record) (old new : Leaf) → AreOps v count bytes ops
    → OnOk r (ops_into v old count bytes ≡ Some new) → OnOk r (new ≡ all_changed ops old)
ops_told (Ok u) v count bytes ops old new are into =
    let spelled : ops_into v old count bytes ≡ Some (all_changed ops old) =
    (λ t. ops_into v old (are.count_is t) (are.there t)) ∙ ops_spelled v old ops are.rest are.each in
    found (sym into ∙ spelled)
ops_told (Err e) v count bytes ops old new are into = tt

-- ---- pairs

pub pair_on : (v : ℕ) (leaf : Leaf) (count i : ℕ) (bytes : List ℕ) (p : Bytes × Bytes) (rest : List ℕ) → i < count → pair_at v bytes ≡ Some (p, rest)
    → pairs_into v leaf (count - i) bytes ≡ pairs_into v (record leaf { pairs = leaf.pairs ++ p ∷ [] }) (count - (i + 1)) rest
unfolding pairs_into
pair_on v leaf count i bytes p rest h e =
    let n : count - i ≡ suc (count - (i + 1)) = omega arith in
    ap (λ k. pairs_into v leaf k bytes) n
    ∙ ap (λ (o : Option ((Bytes × Bytes) × List ℕ)). o >>= λ p. pairs_into v (record leaf { pairs = leaf.pairs ++ p.0 ∷ [] }) (count - (i + 1)) p.1) e

pub pairs_end : (v : ℕ) (leaf : Leaf) (count i : ℕ) (bytes : List ℕ) → i ≡ count → pairs_into v leaf (count - i) bytes ≡ Some leaf
unfolding pairs_into
pairs_end v leaf count i bytes all = let n : count - i ≡ 0 = omega arith in ap (λ k. pairs_into v leaf k bytes) n

pairs_spelled : (v : ℕ) (leaf : Leaf) (ps : Pairs) (rest : List ℕ) → AllByRecursion (IsPairIn v) ps
    → pairs_into v leaf (length ps) (flat_map (pair_bytes_in v) ps ++ rest) ≡ Some (record leaf { pairs = leaf.pairs ++ ps })
unfolding pairs_into
pairs_spelled v leaf [] rest laws = ap (λ (ps : Pairs). Some (record leaf { pairs = ps })) (sym (append-nil leaf.pairs))
pairs_spelled v leaf (p ∷ ps) rest laws =
    rw (again_on (pair_bytes_in v) (IsPairIn v) (pair_at v) (pair_format v) p (flat_map (pair_bytes_in v) ps) rest laws.0)
    (pairs_spelled v (record leaf { pairs = leaf.pairs ++ p ∷ [] }) ps rest laws.1
    ∙ ap (λ (all : Pairs). Some (record leaf { pairs = all })) (append_assoc leaf.pairs (p ∷ []) ps))

pub pairs_told : (v count : ℕ) (bytes : List ℕ) (pairs : Pairs) (old new : Leaf) → old.pairs ≡ [] → ArePairs v count bytes pairs
    → pairs_into v old count bytes ≡ Some new → new ≡ record old { pairs = pairs }
pairs_told v count bytes pairs old new none are into =
    let spelled : pairs_into v old count bytes ≡ Some (record old { pairs = old.pairs ++ pairs }) =
    (λ t. pairs_into v old (are.count_is t) (are.there t)) ∙ pairs_spelled v old pairs are.rest are.each in
    found (sym into ∙ spelled) ∙ ap (λ (ps : Pairs). record old { pairs = ps ++ pairs }) none

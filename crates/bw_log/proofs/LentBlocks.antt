-- What is heard of spelled bytes is what the block says.

use Rattle.std.proofs.Common.{◌≡◌, ℕ, ◌^◌, ◌<◌, ◌≤◌, ◌==◌, Bool, true, false, if◌then◌else◌, cond, Option, Some, None, List, [], ◌∷◌, ◌++◌, length, refl, sym, ap, subst, ◌∙◌, arith}
use Rattle.std.specs.List.{flat_map, fold, AllByRecursion}
use Rattle.std.specs.Ordering.{is_lt, is_eq, eq_by_cmp}
use Rattle.std.specs.FinMap.Entries.{find, by_order}
use Rattle.std.specs.declared.cmp.Ordering.TheVariants.{Less, Equal, Greater}
use Rattle.std.proofs.lemmas.Bool.{eqb-true}
use Rattle.bw_record.specs.Lawful.{IsPairIn, IsOpIn}
use Rattle.bw_record.specs.Version.{value_limit}
use Rattle.bw_record.specs.Keys.{is_below}
use Rattle.bw_record.specs.Record.{key_of}
use Rattle.bw_record.specs.declared.record.Record.{Record}
use Rattle.bw_record.specs.declared.record.Record.TheVariants.{Put, Del}
use Rattle.bw_record.specs.declared.leaf.Leaf.{Leaf}
use Rattle.bw_record.specs.declared.block.Place.{Place}
use Rattle.bw_record.specs.declared.block.Block.{Block}
use Rattle.bw_record.specs.declared.block.Block.TheVariants.{Delta, Base, Split}
use Rattle.bw_record.proofs.Order.{Below, below_apart, below-trans}
use Rattle.bw_codec.specs.Bytes.{number_bytes, text}
use Rattle.bw_codec.specs.Grammar.{op_bytes_in, pair_bytes_in, place_bytes, pairs_bytes_in, ops_bytes_in, upper_bytes_in, block_bytes_in, IsDeltaIn, IsBaseIn, IsSplitIn, IsBlockIn}
use Rattle.bw_codec.specs.Reading.{Says, op_at, pair_at}
use Rattle.bw_codec.specs.declared.fault.CodecFault.{CodecFault}
use Rattle.bw_codec.specs.declared.fault.CodecFault.TheVariants.{BadBytes}
use Rattle.bw_codec.proofs.Format.{again_on, found}
use Rattle.bw_codec.proofs.BlockFormat.{pair_format, op_format}
use Rattle.bw_codec.proofs.Lending.{delta_spelled, base_spelled, split_spelled}
use Rattle.bw_leaf.specs.Changed.{Bytes, Pairs, order}
use Rattle.bw_leaf.specs.Words.{newer, word_of, said, record_word, records_word, split_word, block_word}
use Rattle.bw_leaf.specs.declared.words.Word.{Word}
use Rattle.bw_leaf.specs.declared.words.Word.TheVariants.{Silent, Gone, Holds}
use Rattle.bw_leaf.proofs.Sorted.{all-map, Rises, find-none, ascends_rises}
use Rattle.bw_log.specs.BlockBytes.{IsSpelled, SpellsOne}
use Rattle.bw_log.specs.Lent.{Heard, heard_of, says, value_found, word_found, pairs_heard, ops_heard, delta_heard, base_heard, split_heard, block_heard}
use Rattle.bw_log.specs.Walking.{first_back}
use Rattle.bw_log.proofs.Looked.{not_bad}

abbrev some_heard : Word → Option Place → Option Heard
some_heard word back = Some (word, back)

-- ---- pairs and records

pairs_told : (v : ℕ) (k : Bytes) (ps : Pairs) (rest : List ℕ) → AllByRecursion (IsPairIn v) ps → Rises ps
    → value_found v k (length ps) (flat_map (pair_bytes_in v) ps ++ rest) ≡ Some (find order k ps)
unfolding value_found
pairs_told v k [] rest laws rises = refl
pairs_told v k (p ∷ ps) rest laws rises =
    let behind = flat_map (pair_bytes_in v) ps ++ rest in
    rw (again_on (pair_bytes_in v) (IsPairIn v) (pair_at v) (pair_format v) p (flat_map (pair_bytes_in v) ps) rest laws.0)
    (elim (order k p.0) as (λ o. order k p.0 ≡ o
    → by_order o (Some None) (Some (Some p.1)) (value_found v k (length ps) behind) ≡ Some (cond (is_eq o) (Some p.1) (find order k ps))) [
      | Less ↦ λ e. ap Some (sym (find-none k ps (all-map (λ q. Below p.0 q.0) (λ q. eq_by_cmp order k q.0 ≡ false)
          (λ q b. below_apart k q.0 (below-trans k p.0 q.0 (ap is_lt e) b)) ps rises.0)))
      | Equal ↦ λ e. refl
      | Greater ↦ λ e. pairs_told v k ps rest laws.1 rises.1
    ] refl)

ops_told : (v : ℕ) (k : Bytes) (was : Word) (ops : List Record) (rest : List ℕ) → AllByRecursion (IsOpIn v) ops
    → word_found v k was (length ops) (flat_map (op_bytes_in v) ops ++ rest) ≡ Some (fold (λ w r. newer w (record_word k r)) was ops)
unfolding word_found
ops_told v k was [] rest laws = refl
ops_told v k was (r ∷ rs) rest laws =
    rw (again_on (op_bytes_in v) (IsOpIn v) (op_at v) (op_format v) r (flat_map (op_bytes_in v) rs) rest laws.0)
    (ops_told v k (newer was (record_word k r)) rs rest laws.1)

set_told : (v m : ℕ) (k : Bytes) (leaf : Leaf) (rest : List ℕ) → IsBaseIn v m leaf
    → pairs_heard v k (length leaf.pairs) (flat_map (pair_bytes_in v) leaf.pairs ++ rest) ≡ some_heard (word_of (find order k leaf.pairs)) None
set_told v m k leaf rest law = rw (pairs_told v k leaf.pairs rest law.pairs (ascends_rises leaf.pairs law.ascends)) refl

changed_told : (v : ℕ) (k : Bytes) (back : Place) (ops : List Record) (rest : List ℕ) → AllByRecursion (IsOpIn v) ops
    → ops_heard v k back (length ops) (flat_map (op_bytes_in v) ops ++ rest) ≡ some_heard (records_word k ops) (Some back)
changed_told v k back ops rest laws = rw (ops_told v k Silent ops rest laws) refl

-- ---- blocks

delta_told : (v p : ℕ) (k : Bytes) (page : ℕ) (back : Place) (ops : List Record) (rest : List ℕ) → IsDeltaIn v page back ops
    → delta_heard v p k ((number_bytes 4 page ++ (place_bytes back ++ ops_bytes_in v ops)) ++ rest)
    ≡ some_heard (block_word p k (Delta page back ops)) (first_back p (Delta page back ops ∷ []))
unfolding delta_heard
delta_told v p k page back ops rest law =
    rw (delta_spelled v page back ops rest law)
    (elim (page == p) as (λ t. (if t then ops_heard v k back (length ops) (flat_map (op_bytes_in v) ops ++ rest) else some_heard Silent None)
    ≡ some_heard (if t then records_word k ops else Silent) (if t then Some back else None)) [
      | true ↦ changed_told v k back ops rest law.each
      | false ↦ refl
    ])

base_told : (v m p : ℕ) (k : Bytes) (leaf : Leaf) (rest : List ℕ) → m < 2 ^ 16 → IsBaseIn v m leaf
    → base_heard v p k ((number_bytes 4 leaf.page ++ (text leaf.low ++ pairs_bytes_in v leaf.pairs)) ++ rest)
    ≡ some_heard (block_word p k (Base leaf)) (first_back p (Base leaf ∷ []))
unfolding base_heard
base_told v m p k leaf rest small law =
    rw (base_spelled v m leaf rest small law)
    (elim (leaf.page == p) as (λ t. (if t then pairs_heard v k (length leaf.pairs) (flat_map (pair_bytes_in v) leaf.pairs ++ rest) else some_heard Silent None)
    ≡ some_heard (if t then word_of (find order k leaf.pairs) else Silent) (if t then None else None)) [
      | true ↦ set_told v m k leaf rest law
      | false ↦ refl
    ])

-- no Split makes the page that it splits
parted : (a b p : ℕ) (t : Bool) → (a ≡ b → ⊥) → a ≡ p → (b == p) ≡ t → t ≡ false
parted a b p true apart same is = absurd (apart (same ∙ sym (eqb-true b p is)))
parted a b p false apart same is = refl

split_told : (v m p : ℕ) (k : Bytes) (page : ℕ) (back : Place) (upper : Leaf) (rest : List ℕ) → m < 2 ^ 16 → IsSplitIn v m page back upper
    → split_heard v p k ((number_bytes 4 page ++ (place_bytes back ++ upper_bytes_in v upper)) ++ rest)
    ≡ some_heard (block_word p k (Split page back upper)) (first_back p (Split page back upper ∷ []))
unfolding split_heard
split_told v m p k page back upper rest small law =
    rw (split_spelled v m page back upper rest small law)
    (elim (upper.page == p) as (λ t. (upper.page == p) ≡ t
    → (if t then pairs_heard v k (length upper.pairs) (flat_map (pair_bytes_in v) upper.pairs ++ rest)
    else if page == p then some_heard (split_word k upper.low) (Some back) else some_heard Silent None)
    ≡ some_heard (if t then word_of (find order k upper.pairs) else if page == p then split_word k upper.low else Silent)
    (if page == p then Some back else if t then None else None)) [
      | true ↦ λ made. (
          let other : (page == p) ≡ false = parted upper.page page p (page == p) law.new.1 (eqb-true upper.page p made) refl in
          set_told v m k upper rest law.makes
          ∙ ap (λ (u : Bool). some_heard (word_of (find order k upper.pairs)) (if u then Some back else None)) (sym other))
      | false ↦ λ made. elim (page == p) as (λ u. (if u then some_heard (split_word k upper.low) (Some back) else some_heard Silent None)
          ≡ some_heard (if u then split_word k upper.low else Silent) (if u then Some back else None)) [ true ↦ refl | false ↦ refl ]
    ] refl)

block_told : (v m p : ℕ) (k : Bytes) (block : Block) (rest : List ℕ) → m < 2 ^ 16 → IsBlockIn v m block
    → block_heard v p k (block_bytes_in v block ++ rest) ≡ some_heard (block_word p k block) (first_back p (block ∷ []))
unfolding block_heard
block_told v m p k (Delta page back ops) rest small law = delta_told v p k page back ops rest law
block_told v m p k (Base leaf) rest small law = base_told v m p k leaf rest small law
block_told v m p k (Split page back upper) rest small law = split_told v m p k page back upper rest small law

-- ---- no lawful block has a value that is longer than a value may be

abbrev IsShort : Word → Type 0
IsShort Silent = Unit {0}
IsShort Gone = Unit {0}
IsShort (Holds value) = length value ≤ 512

within_limit : (v : ℕ) (value : Bytes) → length value ≤ value_limit v → length value ≤ 512
within_limit v value = elim (v == 1) as (λ t. length value ≤ (if t then 128 else 512) → length value ≤ 512) [ true ↦ λ h. omega arith | false ↦ λ h. h ]

found_short : (v : ℕ) (k : Bytes) (ps : Pairs) → AllByRecursion (IsPairIn v) ps → IsShort (word_of (find order k ps))
found_short v k [] laws = tt
found_short v k (p ∷ ps) laws = elim (eq_by_cmp order k p.0) as (λ t. IsShort (word_of (cond t (Some p.1) (find order k ps)))) [
  | true ↦ within_limit v p.1 laws.0.1
  | false ↦ found_short v k ps laws.1
]

said_short : (v : ℕ) (r : Record) → IsOpIn v r → IsShort (said r)
said_short v (Put key value) law = within_limit v value law.1
said_short v (Del key) law = tt

record_short : (v : ℕ) (k : Bytes) (r : Record) → IsOpIn v r → IsShort (record_word k r)
record_short v k r law = elim (eq_by_cmp order k (key_of r)) as (λ t. IsShort (if t then said r else Silent)) [ true ↦ said_short v r law | false ↦ tt ]

newer_short : (was next : Word) → IsShort was → IsShort next → IsShort (newer was next)
newer_short was Silent a b = a
newer_short was Gone a b = tt
newer_short was (Holds value) a b = b

records_short : (v : ℕ) (k : Bytes) (was : Word) (ops : List Record) → IsShort was → AllByRecursion (IsOpIn v) ops
    → IsShort (fold (λ w r. newer w (record_word k r)) was ops)
records_short v k was [] short laws = short
records_short v k was (r ∷ rs) short laws =
    records_short v k (newer was (record_word k r)) rs (newer_short was (record_word k r) short (record_short v k r laws.0)) laws.1

split_short : (k separator : Bytes) → IsShort (split_word k separator)
split_short k separator = elim (is_below k separator) as (λ t. IsShort (if t then Silent else Gone)) [ true ↦ tt | false ↦ tt ]

block_short : (v m p : ℕ) (k : Bytes) (block : Block) → IsBlockIn v m block → IsShort (block_word p k block)
block_short v m p k (Delta page back ops) law = elim (page == p) as (λ t. IsShort (if t then records_word k ops else Silent)) [
  | true ↦ records_short v k Silent ops tt law.each
  | false ↦ tt
]
block_short v m p k (Base leaf) law = elim (leaf.page == p) as (λ t. IsShort (if t then word_of (find order k leaf.pairs) else Silent)) [
  | true ↦ found_short v k leaf.pairs law.pairs
  | false ↦ tt
]
block_short v m p k (Split page back upper) law =
    elim (upper.page == p) as (λ t. IsShort (if t then word_of (find order k upper.pairs) else if page == p then split_word k upper.low else Silent)) [
      | true ↦ found_short v k upper.pairs law.makes.pairs
      | false ↦ elim (page == p) as (λ t. IsShort (if t then split_word k upper.low else Silent)) [ true ↦ split_short k upper.low | false ↦ tt ]
    ]

-- ---- the block at the front of bytes

told_there : (v m p : ℕ) (k own bytes : List ℕ) (block : Block) → m < 2 ^ 16 → own ≡ k → IsSpelled v m bytes block
    → block_heard v p own bytes ≡ some_heard (block_word p k block) (first_back p (block ∷ []))
told_there v m p k own bytes block small same s =
    ap (λ (q : List ℕ). block_heard v p q bytes) same ∙ ap (block_heard v p k) s.is ∙ block_told v m p k block s.rest small s.lawful

-- what was heard is what it says
pub heard_there : (v m p : ℕ) (k own bytes : List ℕ) (block : Block) (word : Word) (link : Option Place) → m < 2 ^ 16 → own ≡ k → IsSpelled v m bytes block
    → block_heard v p own bytes ≡ some_heard word link → heard_of word link ≡ says p k block
heard_there v m p k own bytes block word link small same s gives = found (sym gives ∙ told_there v m p k own bytes block small same s)

pub short_there : (v m p : ℕ) (k own bytes : List ℕ) (value : Bytes) (link : Option Place) → m < 2 ^ 16 → own ≡ k → SpellsOne v m bytes
    → block_heard v p own bytes ≡ some_heard (Holds value) link → length value ≤ 512
short_there v m p k own bytes value link small same one gives =
    let word : Holds value ≡ block_word p k one.0 =
    ap (λ (h : Heard). h.0) (heard_there v m p k own bytes one.0 (Holds value) link small same one.1 gives) in
    subst IsShort (sym word) (block_short v m p k one.0 one.1.lawful)

-- and something was heard
pub none_there : (v m p : ℕ) (k own bytes : List ℕ) (fault : CodecFault) → m < 2 ^ 16 → own ≡ k → SpellsOne v m bytes → fault ≡ BadBytes
    → Says fault (block_heard v p own bytes) → ⊥
none_there v m p k own bytes fault small same one bad told =
    not_bad fault (says p k one.0) bad
    (subst (λ (o : Option Heard). Says fault o) (told_there v m p k own bytes one.0 small same one.1) told)

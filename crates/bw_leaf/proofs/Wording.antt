-- The newest word of a key decides its value, whatever stood before.

use Rattle.std.proofs.Common.{◌≡◌, ℕ, Bool, true, false, cond, if◌then◌else◌, Option, Some, None, List, [], ◌∷◌, ◌++◌, refl, sym, ap, ◌∙◌, subst}
use Rattle.std.specs.Prelude.{◌==◌}
use Rattle.std.specs.List.{AllByRecursion as All, fold, filter, list_any}
use Rattle.std.specs.Ordering.{eq_by_cmp}
use Rattle.std.specs.FinMap.Entries.{find}
use Rattle.bw_record.specs.Keys.{is_below}
use Rattle.bw_record.specs.Record.{key_of}
use Rattle.bw_record.specs.Touch.{sets}
use Rattle.bw_record.specs.declared.leaf.Leaf.{Leaf}
use Rattle.bw_record.specs.declared.record.Record.{Record}
use Rattle.bw_record.specs.declared.record.Record.TheVariants.{Put, Del}
use Rattle.bw_record.specs.declared.block.Block.{Block}
use Rattle.bw_record.specs.declared.block.Block.TheVariants.{Delta, Base, Split}
use Rattle.bw_record.proofs.Order.{tied}
use Rattle.bw_leaf.specs.Changed.{Bytes, Pairs, order, changed, changed_pairs, all_changed}
use Rattle.bw_leaf.specs.Forwards.{after, kept_below}
use Rattle.bw_leaf.specs.Words.{newer, told_by, word_of, said, record_word, records_word, split_word, block_word, blocks_word, value_on, HasOrder}
use Rattle.bw_leaf.specs.declared.words.Word.{Word}
use Rattle.bw_leaf.specs.declared.words.Word.TheVariants.{Silent, Gone, Holds}
use Rattle.std.proofs.lemmas.Grind.{fold-append}
use Rattle.bw_leaf.proofs.Sorted.{Rises, ascends_rises, rises-changed, find-changed, value_of}

-- ---- words over one another

newer_tells : (a b : Word) (v : Option Bytes) → told_by (newer a b) v ≡ told_by b (told_by a v)
newer_tells a Silent v = refl
newer_tells a Gone v = refl
newer_tells a (Holds x) v = refl

of_tells : (known v : Option Bytes) → told_by (word_of known) v ≡ known
of_tells None v = refl
of_tells (Some x) v = refl

said_tells : (r : Record) (v : Option Bytes) → told_by (said r) v ≡ value_of r
said_tells (Put key value) v = refl
said_tells (Del key) v = refl

-- words one after the other, each over the value before it
all_tell : {X : Type 0} (word : X → Word) (was : Word) (xs : List X) (v : Option Bytes)
    → told_by (fold (λ w x. newer w (word x)) was xs) v ≡ fold (λ u x. told_by (word x) u) (told_by was v) xs
all_tell word was [] v = refl
all_tell word was (x ∷ xs) v =
    all_tell word (newer was (word x)) xs v ∙ ap (λ (u : Option Bytes). fold (λ u x. told_by (word x) u) u xs) (newer_tells was (word x) v)

-- ---- a record, and several

record_tells : (k : Bytes) (r : Record) (ps : Pairs) → Rises ps → find order k (changed_pairs r ps) ≡ told_by (record_word k r) (find order k ps)
record_tells k r ps rises =
    find-changed k r ps rises
    ∙ elim (eq_by_cmp order k (key_of r)) as (λ t. cond t (value_of r) (find order k ps) ≡ told_by (if t then said r else Silent) (find order k ps)) [
      | true ↦ sym (said_tells r (find order k ps))
      | false ↦ refl
    ]

pub record Tells (k : Bytes) (w : Word) (old new : Leaf) : Type 0 where
  pub rises : Rises new.pairs
  pub value : find order k new.pairs ≡ told_by w (find order k old.pairs)

records_step : (k : Bytes) (rs : List Record) (leaf : Leaf) → Rises leaf.pairs
    → Rises (all_changed rs leaf).pairs
    × (find order k (all_changed rs leaf).pairs ≡ fold (λ u r. told_by (record_word k r) u) (find order k leaf.pairs) rs)
records_step k [] leaf rises = (rises, refl)
records_step k (r ∷ rs) leaf rises =
    let rest = records_step k rs (changed r leaf) (rises-changed r leaf.pairs rises) in
    (rest.0, rest.1 ∙ ap (λ (u : Option Bytes). fold (λ u r. told_by (record_word k r) u) u rs) (record_tells k r leaf.pairs rises))

pub records_tell : (k : Bytes) (rs : List Record) (leaf : Leaf) → Rises leaf.pairs → Tells k (records_word k rs) leaf (all_changed rs leaf)
records_tell k rs leaf rises =
    (let step = records_step k rs leaf rises in
    record { rises = step.0; value = step.1 ∙ sym (all_tell (record_word k) Silent rs (find order k leaf.pairs)) })

-- ---- a split

split_tells : (k separator : Bytes) (ps : Pairs)
    → find order k (filter (λ p. is_below p.0 separator) ps) ≡ told_by (split_word k separator) (find order k ps)
split_tells k separator [] = elim (is_below k separator) as (λ t. None ≡ told_by (if t then Silent else Gone) None) [ true ↦ refl | false ↦ refl ]
split_tells k separator (p ∷ ps) =
    elim (eq_by_cmp order k p.0) as (λ t. eq_by_cmp order k p.0 ≡ t
    → find order k (if is_below p.0 separator then p ∷ filter (λ p. is_below p.0 separator) ps else filter (λ p. is_below p.0 separator) ps)
    ≡ told_by (split_word k separator) (cond t (Some p.1) (find order k ps))) [
      | true ↦ λ e. (
          let same : k ≡ p.0 = tied k p.0 e in
          elim (is_below p.0 separator) as (λ b. is_below p.0 separator ≡ b
          → find order k (if b then p ∷ filter (λ p. is_below p.0 separator) ps else filter (λ p. is_below p.0 separator) ps)
          ≡ told_by (split_word k separator) (Some p.1)) [
            | true ↦ λ below. ap (λ (b : Bool). cond b (Some p.1) (find order k (filter (λ p. is_below p.0 separator) ps))) e
                ∙ sym (ap (λ (b : Bool). told_by (if b then Silent else Gone) (Some p.1)) (ap (λ (q : Bytes). is_below q separator) same ∙ below))
            | false ↦ λ not. (
                let word = ap (λ (b : Bool). if b then Silent else Gone) (ap (λ (q : Bytes). is_below q separator) same ∙ not) in
                split_tells k separator ps ∙ ap (λ (w : Word). told_by w (find order k ps)) word ∙ sym (ap (λ (w : Word). told_by w (Some p.1)) word))
          ] refl)
      | false ↦ λ e. (
          elim (is_below p.0 separator) as (λ b.
          find order k (if b then p ∷ filter (λ p. is_below p.0 separator) ps else filter (λ p. is_below p.0 separator) ps)
          ≡ told_by (split_word k separator) (find order k ps)) [
            | true ↦ ap (λ (b : Bool). cond b (Some p.1) (find order k (filter (λ p. is_below p.0 separator) ps))) e ∙ split_tells k separator ps
            | false ↦ split_tells k separator ps
          ])
    ] refl

all_kept : {X : Type 0} (P : X → Type 0) (test : X → Bool) (xs : List X) → All P xs → All P (filter test xs)
all_kept P test [] h = tt
all_kept P test (x ∷ xs) h = elim (test x) as (λ b. All P (if b then x ∷ filter test xs else filter test xs)) [
  | true ↦ (h.0, all_kept P test xs h.1)
  | false ↦ all_kept P test xs h.1
]

rises-kept : (test : Bytes × Bytes → Bool) (ps : Pairs) → Rises ps → Rises (filter test ps)
rises-kept test [] h = tt
rises-kept test (p ∷ ps) h = elim (test p) as (λ b. Rises (if b then p ∷ filter test ps else filter test ps)) [
  | true ↦ (all_kept (λ q. is_below p.0 q.0 ≡ true) test ps h.0, rises-kept test ps h.1)
  | false ↦ rises-kept test ps h.1
]

-- ---- a block, and several

-- what the page is after the block, and what it says of the key
abbrev Steps : ℕ → Bytes → Leaf → Block → Type 0
Steps p k leaf b = (now : Leaf) × (after p (Some leaf) b ≡ Some now) × Tells k (block_word p k b) leaf now

untold : (k : Bytes) (leaf : Leaf) → Rises leaf.pairs → Tells k Silent leaf leaf
untold k leaf rises = record { rises = rises; value = refl }

known : (k : Bytes) (old new : Leaf) → Rises new.pairs → Tells k (word_of (find order k new.pairs)) old new
known k old new rises = record { rises = rises; value = sym (of_tells (find order k new.pairs) (find order k old.pairs)) }

block_steps : (p : ℕ) (k : Bytes) (leaf : Leaf) (b : Block) → Rises leaf.pairs → HasOrder b → Steps p k leaf b
block_steps p k leaf (Delta page back ops) rises h =
    elim (page == p) as (λ t. (now : Leaf) × ((if t then Some (all_changed ops leaf) else Some leaf) ≡ Some now)
    × Tells k (if t then records_word k ops else Silent) leaf now) [
      | true ↦ (all_changed ops leaf, refl, records_tell k ops leaf rises)
      | false ↦ (leaf, refl, untold k leaf rises)
    ]
block_steps p k leaf (Base new) rises h =
    elim (new.page == p) as (λ t. (now : Leaf) × ((if t then Some new else Some leaf) ≡ Some now)
    × Tells k (if t then word_of (find order k new.pairs) else Silent) leaf now) [
      | true ↦ (new, refl, known k leaf new (ascends_rises new.pairs h))
      | false ↦ (leaf, refl, untold k leaf rises)
    ]
block_steps p k leaf (Split page back upper) rises h =
    elim (upper.page == p) as (λ u. (now : Leaf)
    × ((if u then Some upper else if page == p then Some (kept_below upper.low leaf) else Some leaf) ≡ Some now)
    × Tells k (if u then word_of (find order k upper.pairs) else if page == p then split_word k upper.low else Silent) leaf now) [
      | true ↦ (upper, refl, known k leaf upper (ascends_rises upper.pairs h))
      | false ↦ elim (page == p) as (λ t. (now : Leaf) × ((if t then Some (kept_below upper.low leaf) else Some leaf) ≡ Some now)
          × Tells k (if t then split_word k upper.low else Silent) leaf now) [
            | true ↦ (
              kept_below upper.low leaf,
              refl,
              record {
                rises = rises-kept (λ p. is_below p.0 upper.low) leaf.pairs rises;
                value = split_tells k upper.low leaf.pairs;
              },
            )
            | false ↦ (leaf, refl, untold k leaf rises)
          ]
    ]

blocks_step : (p : ℕ) (k : Bytes) (bs : List Block) (leaf : Leaf) → Rises leaf.pairs → All HasOrder bs
    → (now : Leaf) × (fold (after p) (Some leaf) bs ≡ Some now) × Rises now.pairs
    × (find order k now.pairs ≡ fold (λ u b. told_by (block_word p k b) u) (find order k leaf.pairs) bs)
blocks_step p k [] leaf rises h = (leaf, refl, rises, refl)
blocks_step p k (b ∷ bs) leaf rises h =
    let one = block_steps p k leaf b rises h.0 in
    let rest = blocks_step p k bs one.0 one.2.rises h.1 in (
      rest.0,
      ap (λ (w : Option Leaf). fold (after p) w bs) one.1 ∙ rest.1,
      rest.2,
      rest.3 ∙ ap (λ (u : Option Bytes). fold (λ u b. told_by (block_word p k b) u) u bs) one.2.value,
    )

-- if the page was known before some blocks, their newest word decides
pub blocks_tell : (p : ℕ) (k : Bytes) (bs : List Block) (leaf : Leaf) → Rises leaf.pairs → All HasOrder bs
    → value_on k (fold (after p) (Some leaf) bs) ≡ told_by (blocks_word p k bs) (find order k leaf.pairs)
blocks_tell p k bs leaf rises h =
    (let x = blocks_step p k bs leaf rises h in
    ap (value_on k) x.1 ∙ x.3 ∙ sym (all_tell (block_word p k) Silent bs (find order k leaf.pairs)))

-- ---- pages ascend

abbrev pub RisesIf : Option Leaf → Type 0
RisesIf None = Unit {0}
RisesIf (Some leaf) = Rises leaf.pairs

rises_none : (p : ℕ) (b : Block) → HasOrder b → RisesIf (after p None b)
rises_none p (Delta page back ops) h = elim (page == p) as (λ t. RisesIf (if t then None else None)) [ true ↦ tt | false ↦ tt ]
rises_none p (Base leaf) h = elim (leaf.page == p) as (λ t. RisesIf (if t then Some leaf else None)) [ true ↦ ascends_rises leaf.pairs h | false ↦ tt ]
rises_none p (Split page back upper) h =
    elim (upper.page == p) as (λ u. RisesIf (if u then Some upper else if page == p then None else None)) [
      | true ↦ ascends_rises upper.pairs h
      | false ↦ elim (page == p) as (λ t. RisesIf (if t then None else None)) [ true ↦ tt | false ↦ tt ]
    ]

rises_after : (p : ℕ) (w : Option Leaf) (b : Block) → RisesIf w → HasOrder b → RisesIf (after p w b)
rises_after p None b rises h = rises_none p b h
rises_after p (Some leaf) b rises h = (let one = block_steps p [] leaf b rises h in subst RisesIf (sym one.1) one.2.rises)

pub rises_all : (p : ℕ) (w : Option Leaf) (bs : List Block) → RisesIf w → All HasOrder bs → RisesIf (fold (after p) w bs)
rises_all p w [] rises h = rises
rises_all p w (b ∷ bs) rises h = rises_all p (after p w b) bs (rises_after p w b rises h.0) h.1

-- ---- words of blocks, part by part

newer_silent : (w : Word) → newer Silent w ≡ w
newer_silent Silent = refl
newer_silent Gone = refl
newer_silent (Holds x) = refl

newer_newer : (a b c : Word) → newer (newer a b) c ≡ newer a (newer b c)
newer_newer a b Silent = refl
newer_newer a b Gone = refl
newer_newer a b (Holds x) = refl

words_from : (p : ℕ) (k : Bytes) (was : Word) (bs : List Block)
    → fold (λ w b. newer w (block_word p k b)) was bs ≡ newer was (blocks_word p k bs)
words_from p k was [] = refl
words_from p k was (b ∷ bs) =
    words_from p k (newer was (block_word p k b)) bs
    ∙ newer_newer was (block_word p k b) (blocks_word p k bs)
    ∙ ap (newer was) (ap (λ (w : Word). newer w (blocks_word p k bs)) (sym (newer_silent (block_word p k b)))
    ∙ sym (words_from p k (newer Silent (block_word p k b)) bs))

pub words_append : (p : ℕ) (k : Bytes) (xs ys : List Block) → blocks_word p k (xs ++ ys) ≡ newer (blocks_word p k xs) (blocks_word p k ys)
words_append p k xs ys =
    fold-append (λ w b. newer w (block_word p k b)) Silent xs ys ∙ words_from p k (blocks_word p k xs) ys

both_silent : (a b : Word) → newer a b ≡ Silent → (a ≡ Silent) × (b ≡ Silent)
both_silent a Silent e = (e, refl)
both_silent a Gone e = absurd cc
both_silent a (Holds x) e = absurd cc

known_speaks : (o : Option Bytes) → word_of o ≡ Silent → ⊥
known_speaks None e = cc
known_speaks (Some x) e = cc

silent_block : (p : ℕ) (k : Bytes) (b : Block) → block_word p k b ≡ Silent → sets p b ≡ false
silent_block p k (Delta page back ops) e = refl
silent_block p k (Base leaf) e =
    (elim (leaf.page == p) as (λ t. (if t then word_of (find order k leaf.pairs) else Silent) ≡ Silent → t ≡ false) [
      | true ↦ λ e. absurd (known_speaks (find order k leaf.pairs) e)
      | false ↦ λ e. refl
    ] e)
silent_block p k (Split page back upper) e =
    (elim (upper.page == p) as (λ t.
    (if t then word_of (find order k upper.pairs) else if page == p then split_word k upper.low else Silent) ≡ Silent → t ≡ false) [
      | true ↦ λ e. absurd (known_speaks (find order k upper.pairs) e)
      | false ↦ λ e. refl
    ] e)

-- blocks that say nothing of a key do not set the page
pub silent_unset : (p : ℕ) (k : Bytes) (bs : List Block) → blocks_word p k bs ≡ Silent → list_any (sets p) bs ≡ false
silent_unset p k [] e = refl
silent_unset p k (b ∷ bs) e =
    let parts = both_silent (newer Silent (block_word p k b)) (blocks_word p k bs) (sym (words_from p k (newer Silent (block_word p k b)) bs) ∙ e) in
    let first = silent_block p k b (sym (newer_silent (block_word p k b)) ∙ parts.0) in
    rw first (silent_unset p k bs parts.1)

-- a word that was said does not depend on what was before
pub said_over : (w : Word) (u v : Option Bytes) → (w ≡ Silent → ⊥) → told_by w u ≡ told_by w v
said_over Silent u v not = absurd (not refl)
said_over Gone u v not = refl
said_over (Holds x) u v not = refl

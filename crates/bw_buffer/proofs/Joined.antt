-- One more block, joined or after the others: what it does to every question that is asked of
-- blocks.

use Rattle.std.proofs.Common.{◌≡◌, ℕ, zero, suc, ◌+◌, ◌≤◌, Bool, true, false, Option, Some, None, List, [], ◌∷◌, ◌++◌, length, refl, sym, ap, ◌∙◌}
use Rattle.std.proofs.Common.{subst, arith, ◌⊎◌, inl, inr}
use Rattle.std.proofs.Common.{append_assoc, append-nil, if◌then◌else◌}
use Rattle.std.specs.Prelude.{◌==◌, ◌||◌}
use Rattle.std.specs.List.{flat_map, fold, list_any}
use Rattle.std.proofs.lemmas.Grind.{fold-append, flat_map-append}
use Rattle.std.proofs.lemmas.Bool.{eqb-true, eq-eqb, leb-true, or_parts}
use Rattle.bw_record.specs.Touch.{touches}
use Rattle.bw_record.specs.declared.record.Record.{Record}
use Rattle.bw_record.specs.declared.block.Place.{Place}
use Rattle.bw_record.specs.declared.block.Block.{Block}
use Rattle.bw_record.specs.declared.block.Block.TheVariants.{Delta, Base, Split}
use Rattle.bw_buffer.specs.Joining.{open_after, open_from, last_delta, records_in, records_after, open_records, takes, joins_of, with_ops, ops_added}
use Rattle.bw_buffer.specs.Joining.{joined_by, joined, added}

or_none : (a : Bool) → a ≡ (a || false)
or_none true = refl
or_none false = refl

or_assoc : (a b c : Bool) → ((a || b) || c) ≡ (a || (b || c))
or_assoc true b c = refl
or_assoc false b c = refl

or_twice : (a : Bool) → (a || a) ≡ a
or_twice true = refl
or_twice false = refl

or_swap : (a b : Bool) → (a || b) ≡ (b || a)
or_swap true true = refl
or_swap true false = refl
or_swap false true = refl
or_swap false false = refl

-- a Delta of a page that stands at an index, and no later block touches the page
pub record StandsOpen (p i : ℕ) (blocks : List Block) : Type 0 where
  pub before : List Block
  pub behind : List Block
  pub back : Place
  pub was : List Record
  pub split : blocks ≡ before ++ Delta p back was ∷ behind
  pub index : length before ≡ i
  pub quiet : list_any (touches p) behind ≡ false

-- what is known of the last block of a page, from the index of the first block on
abbrev FoundFrom : ℕ → ℕ → Option ℕ → List Block → Option ℕ → Type 0
FoundFrom p i was bs None = Unit {0}
FoundFrom p i was bs (Some j) = ((was ≡ Some j) × (list_any (touches p) bs ≡ false)) ⊎ ((k : ℕ) × (j ≡ i + k) × StandsOpen p k bs)

open_delta : (p i : ℕ) (b : Block) (was : Option ℕ) (j : ℕ) → open_after p i b was ≡ Some j
    → ((was ≡ Some j) × (touches p b ≡ false)) ⊎ ((j ≡ i) × (back : Place) × (ops : List Record) × (b ≡ Delta p back ops))
open_delta p i (Delta page back ops) was j e =
    (elim (page == p) as (λ t. (page == p) ≡ t → (if t then Some i else was) ≡ Some j
    → ((was ≡ Some j) × (t ≡ false)) ⊎ ((j ≡ i) × (back2 : Place) × (ops2 : List Record) × (Delta page back ops ≡ Delta p back2 ops2))) [
      | true ↦ λ t e. inr (cc, back, ops, ap (λ (q : ℕ). Delta q back ops) (eqb-true page p t))
      | false ↦ λ t e. inl (e, refl)
    ] refl e)
open_delta p i (Base leaf) was j e =
    (elim (leaf.page == p) as (λ t. (if t then None else was) ≡ Some j
    → ((was ≡ Some j) × (t ≡ false)) ⊎ ((j ≡ i) × (back2 : Place) × (ops2 : List Record) × (Base leaf ≡ Delta p back2 ops2))) [
      | true ↦ λ e. absurd cc
      | false ↦ λ e. inl (e, refl)
    ] e)
open_delta p i (Split page back upper) was j e =
    (elim ((page == p) || (upper.page == p)) as (λ t. (if t then None else was) ≡ Some j
    → ((was ≡ Some j) × (t ≡ false)) ⊎ ((j ≡ i) × (back2 : Place) × (ops2 : List Record) × (Split page back upper ≡ Delta p back2 ops2))) [
      | true ↦ λ e. absurd cc
      | false ↦ λ e. inl (e, refl)
    ] e)

found_from : (p i : ℕ) (was : Option ℕ) (bs : List Block) (j : ℕ) → open_from p i was bs ≡ Some j
    → ((was ≡ Some j) × (list_any (touches p) bs ≡ false)) ⊎ ((k : ℕ) × (j ≡ i + k) × StandsOpen p k bs)
found_from p i was [] j e = inl (e, refl)
found_from p i was (b ∷ bs) j e =
    elim (found_from p (suc i) (open_after p i b was) bs j e) [
      | inl same ↦ elim (open_delta p i b was j same.0) [
        | inl old ↦ inl (old.0, rw old.1 same.1)
        | inr new ↦ inr (
          0,
          (let x = new.0 in omega arith),
          record {
            before = [];
            behind = bs;
            back = new.1;
            was = new.2;
            split = ap (λ (c : Block). c ∷ bs) new.3;
            index = refl;
            quiet = same.1;
          },
        )
      ]
      | inr x ↦ inr (
        suc x.0,
        (let e = x.1 in omega arith),
        record {
          before = b ∷ x.2.before;
          behind = x.2.behind;
          back = x.2.back;
          was = x.2.was;
          split = ap (λ (l : List Block). b ∷ l) x.2.split;
          index = ap suc x.2.index;
          quiet = x.2.quiet;
        },
      )
    ]

pub found : (p : ℕ) (blocks : List Block) (i : ℕ) → last_delta p blocks ≡ Some i → StandsOpen p i blocks
found p blocks i e = elim (found_from p 0 None blocks i e) [
  | inl x ↦ absurd (let y = x.0 in cc)
  | inr x ↦ (let e = x.1 in let same : x.0 ≡ i = omega arith in subst (λ (k : ℕ). StandsOpen p k blocks) same x.2)
]

pub added_there : (before : List Block) (b : Block) (behind : List Block) (i : ℕ) (ops : List Record) → length before ≡ i
    → ops_added i ops (before ++ b ∷ behind) ≡ before ++ with_ops ops b ∷ behind
added_there [] b behind zero ops e = refl
added_there [] b behind (suc i) ops e = absurd (omega arith)
added_there (x ∷ xs) b behind zero ops e = absurd (omega arith)
added_there (x ∷ xs) b behind (suc i) ops e = ap (λ (l : List Block). x ∷ l) (added_there xs b behind i ops (omega arith))

-- ---- how many records stand there

-- blocks that do not touch a page leave the number
records_quiet : (p : ℕ) (was : Option ℕ) (bs : List Block) → list_any (touches p) bs ≡ false → fold (records_after p) was bs ≡ was
records_quiet p was [] quiet = refl
records_quiet p was (b ∷ bs) quiet =
    let parts = or_parts (touches p b) (list_any (touches p) bs) quiet in
    ap (λ (t : Bool). fold (records_after p) (if t then records_in b else was) bs) parts.0 ∙ records_quiet p was bs parts.1

pub records_here : (p : ℕ) (before behind : List Block) (back : Place) (ops : List Record) → list_any (touches p) behind ≡ false
    → open_records p (before ++ Delta p back ops ∷ behind) ≡ Some (length ops)
records_here p before behind back ops quiet =
    fold-append (records_after p) None before (Delta p back ops ∷ behind)
    ∙ ap (λ (t : Bool). fold (records_after p) (if t then Some (length ops) else open_records p before) behind) (eq-eqb p p refl)
    ∙ records_quiet p (Some (length ops)) behind quiet

pub records_stand : (p i : ℕ) (blocks : List Block) (s : StandsOpen p i blocks) → open_records p blocks ≡ Some (length s.was)
records_stand p i blocks s = ap (open_records p) s.split ∙ records_here p s.before s.behind s.back s.was s.quiet

-- a Delta that joins one joins the last block of its page, which has room
pub joins_parts : (n p i : ℕ) (blocks : List Block) → joins_of n p blocks ≡ Some i
    → (last_delta p blocks ≡ Some i) × (takes n (open_records p blocks) ≡ true)
joins_parts n p i blocks e =
    (elim (takes n (open_records p blocks)) as (λ t. takes n (open_records p blocks) ≡ t → (if t then last_delta p blocks else None) ≡ Some i
    → (last_delta p blocks ≡ Some i) × (takes n (open_records p blocks) ≡ true)) [
      | true ↦ λ t e. (e, t)
      | false ↦ λ t e. absurd cc
    ] refl e)

-- a Delta of a page and the blocks with it: it stands after them all, or its records stand in the
-- last block of its page
pub record JoinsOne (p : ℕ) (back : Place) (ops : List Record) (i : ℕ) (blocks : List Block) : Type 0 where
  pub stands : StandsOpen p i blocks
  pub is : joined blocks (Delta p back ops) ≡ stands.before ++ Delta p stands.back (stands.was ++ ops) ∷ stands.behind
  pub few : length stands.was + length ops ≤ 65535

pub joins_one : (p : ℕ) (back : Place) (ops : List Record) (i : ℕ) (blocks : List Block) → joins_of (length ops) p blocks ≡ Some i
    → JoinsOne p back ops i blocks
joins_one p back ops i blocks e =
    let parts = joins_parts (length ops) p i blocks e in
    let o = found p blocks i parts.0 in
    record {
      stands = o;
      is = ap (λ (j : Option ℕ). joined_by j ops (Delta p back ops) blocks) e
          ∙ ap (ops_added i ops) o.split
          ∙ added_there o.before (Delta p o.back o.was) o.behind i ops o.index;
      few = leb-true (length o.was + length ops) 65535 (ap (takes (length ops)) (sym (records_stand p i blocks o)) ∙ parts.1);
    }

pub joins_none : (p : ℕ) (back : Place) (ops : List Record) (blocks : List Block) → joins_of (length ops) p blocks ≡ None
    → joined blocks (Delta p back ops) ≡ blocks ++ Delta p back ops ∷ []
joins_none p back ops blocks e = ap (λ (j : Option ℕ). joined_by j ops (Delta p back ops) blocks) e

-- ---- questions that a fold answers

-- a block passes those that do not touch its page
past_all : {A : Type 0} (step : A → Block → A) (p : ℕ) (block : Block) (bs : List Block) (a : A)
    → ((a : A) (c : Block) → touches p c ≡ false → step (step a c) block ≡ step (step a block) c)
    → list_any (touches p) bs ≡ false → step (fold step a bs) block ≡ fold step (step a block) bs
past_all step p block [] a past quiet = refl
past_all {A} step p block (c ∷ cs) a past quiet =
    let parts = or_parts (touches p c) (list_any (touches p) cs) quiet in
    past_all step p block cs (step a c) past parts.1 ∙ ap (λ (x : A). fold step x cs) (past a c parts.0)

-- what a fold has to do with a Delta of this page that it may be read so: more records are a further Delta, and blocks of other pages let it pass
pub record Joinable {A : Type 0} (step : A → Block → A) : Type 0 where
  pub more : (a : A) (p : ℕ) (one back : Place) (old new : List Record) → step a (Delta p one (old ++ new)) ≡ step (step a (Delta p one old)) (Delta p back new)
  pub past : (a : A) (p : ℕ) (back : Place) (new : List Record) (c : Block) → touches p c ≡ false
      → step (step a c) (Delta p back new) ≡ step (step a (Delta p back new)) c

delta_fold : {A : Type 0} (step : A → Block → A) → Joinable step → (was : A) (blocks : List Block) (p : ℕ) (back : Place) (ops : List Record) (j : Option ℕ)
    → joins_of (length ops) p blocks ≡ j → fold step was (joined blocks (Delta p back ops)) ≡ fold step was (blocks ++ Delta p back ops ∷ [])
delta_fold {A} step law was blocks p back ops None e = ap (fold step was) (joins_none p back ops blocks e)
delta_fold {A} step law was blocks p back ops (Some i) e =
    let x = joins_one p back ops i blocks e in
    let o = x.stands in
    let front : A = fold step was o.before in
    let delta = Delta p o.back o.was in
    let block = Delta p back ops in
    ap (fold step was) x.is
    ∙ fold-append step was o.before (Delta p o.back (o.was ++ ops) ∷ o.behind)
    ∙ ap (λ (y : A). fold step y o.behind) (law.more front p o.back back o.was ops)
    ∙ sym (past_all step p block o.behind (step front delta) (λ a c quiet. law.past a p back ops c quiet) o.quiet)
    ∙ ap (λ (y : A). step y block) (sym (fold-append step was o.before (delta ∷ o.behind)) ∙ ap (fold step was) (sym o.split))
    ∙ sym (fold-append step was blocks (block ∷ []))

-- joined or not, such a fold answers as if the block stood after the others
pub joined_fold : {A : Type 0} (step : A → Block → A) → Joinable step → (was : A) (blocks : List Block) (block : Block)
    → fold step was (joined blocks block) ≡ fold step was (blocks ++ block ∷ [])
joined_fold step law was blocks (Base leaf) = refl
joined_fold step law was blocks (Split page back upper) = refl
joined_fold step law was blocks (Delta p back ops) = delta_fold step law was blocks p back ops (joins_of (length ops) p blocks) refl

-- and so it does for several
pub added_fold : {A : Type 0} (step : A → Block → A) → Joinable step → (was : A) (blocks more : List Block)
    → fold step was (added blocks more) ≡ fold step was (blocks ++ more)
added_fold {A} step law was blocks [] = ap (fold step was) (sym (append-nil blocks))
added_fold {A} step law was blocks (b ∷ bs) =
    added_fold step law was (joined blocks b) bs
    ∙ fold-append step was (joined blocks b) bs
    ∙ ap (λ (a : A). fold step a bs) (joined_fold step law was blocks b)
    ∙ sym (fold-append step was (blocks ++ b ∷ []) bs)
    ∙ ap (fold step was) (append_assoc blocks (b ∷ []) bs)

-- ---- lists gone through block by block

flat_as_fold : {X : Type 0} (f : Block → List X) (was : List X) (bs : List Block) → fold (λ a b. a ++ f b) was bs ≡ was ++ flat_map f bs
flat_as_fold f was [] = sym (append-nil was)
flat_as_fold f was (b ∷ bs) = flat_as_fold f (was ++ f b) bs ∙ append_assoc was (f b) (flat_map f bs)

-- what such a list has to do with a Delta
pub record JoinsIn {X : Type 0} (f : Block → List X) : Type 0 where
  pub more : (p : ℕ) (one back : Place) (old new : List Record) → f (Delta p one (old ++ new)) ≡ f (Delta p one old) ++ f (Delta p back new)
  pub past : (p : ℕ) (back : Place) (new : List Record) (c : Block) → touches p c ≡ false → f c ++ f (Delta p back new) ≡ f (Delta p back new) ++ f c

flat_joinable : {X : Type 0} (f : Block → List X) → JoinsIn f → Joinable (λ (a : List X) b. a ++ f b)
flat_joinable {X} f law = record {
  more = λ a p one back old new. ap (λ (l : List X). a ++ l) (law.more p one back old new) ∙ sym (append_assoc a (f (Delta p one old)) (f (Delta p back new)));
  past = λ a p back new c quiet.
      append_assoc a (f c) (f (Delta p back new)) ∙ ap (λ (l : List X). a ++ l) (law.past p back new c quiet)
      ∙ sym (append_assoc a (f (Delta p back new)) (f c));
}

pub added_flat : {X : Type 0} (f : Block → List X) → JoinsIn f → (blocks more : List Block)
    → flat_map f (added blocks more) ≡ flat_map f blocks ++ flat_map f more
added_flat {X} f law blocks more =
    sym (flat_as_fold f [] (added blocks more)) ∙ added_fold (λ (a : List X) b. a ++ f b) (flat_joinable f law) [] blocks more
    ∙ flat_as_fold f [] (blocks ++ more) ∙ flat_map-append f blocks more

-- ---- whether one of the blocks passes a test

any_as_fold : (f : Block → Bool) (was : Bool) (bs : List Block) → fold (λ a b. a || f b) was bs ≡ (was || list_any f bs)
any_as_fold f was [] = or_none was
any_as_fold f was (b ∷ bs) = any_as_fold f (was || f b) bs ∙ or_assoc was (f b) (list_any f bs)

pub added_any : (f : Block → Bool) → ((p : ℕ) (one back : Place) (old new : List Record) → f (Delta p one old) ≡ f (Delta p back new))
    → (blocks more : List Block) → list_any f (added blocks more) ≡ list_any f (blocks ++ more)
added_any f same blocks more =
    sym (any_as_fold f false (added blocks more))
    ∙ added_fold (λ a b. a || f b) (record {
      more = λ a p one back old new. rw (same p one one (old ++ new) old, same p back one new old)
          (sym (or_assoc a _ _ ∙ ap (λ (t : Bool). a || t) (or_twice _)));
      past = λ a p back new c quiet. or_assoc a (f c) (f (Delta p back new)) ∙ ap (λ (t : Bool). a || t) (or_swap (f c) (f (Delta p back new)))
          ∙ sym (or_assoc a (f (Delta p back new)) (f c));
    }) false blocks more
    ∙ any_as_fold f false (blocks ++ more)

-- blocks joined touch what they touch apart
pub added_touches : (q : ℕ) (blocks more : List Block) → list_any (touches q) (added blocks more) ≡ list_any (touches q) (blocks ++ more)
added_touches q blocks more = added_any (touches q) (λ p one back old new. refl) blocks more

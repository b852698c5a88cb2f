-- The newest word of a key on a page decides, so a walk back may end there.

use Rattle.std.proofs.Common.{◌≡◌, ℕ, ◌||◌, true, false, Option, Some, None, Result, Ok, Err, List, [], ◌∷◌, ◌++◌, reverse}
use Rattle.std.proofs.Common.{refl, sym, ap, subst, ◌∙◌}
use Rattle.std.specs.List.{AllByRecursion as All, fold, list_any}
use Rattle.std.proofs.lemmas.Bool.{or_parts}
use Rattle.bw_codec.specs.Grammar.{IsBlockIn}
use Rattle.bw_record.specs.Touch.{sets}
use Rattle.bw_record.specs.declared.leaf.Leaf.{Leaf}
use Rattle.bw_record.specs.declared.block.Place.{Place}
use Rattle.bw_record.specs.declared.block.Block.{Block}
use Rattle.bw_record.specs.declared.block.Block.TheVariants.{Delta, Base, Split}
use Rattle.bw_record.specs.declared.block.Frame.{Frame}
use Rattle.bw_leaf.specs.Changed.{Bytes, empty_leaf}
use Rattle.bw_leaf.specs.Forwards.{after, content, blocks_of}
use Rattle.bw_leaf.specs.Words.{told_by, block_word, blocks_word, value_on, HasOrder}
use Rattle.bw_leaf.specs.declared.words.Word.{Word}
use Rattle.bw_leaf.specs.declared.words.Word.TheVariants.{Silent, Gone, Holds}
use Rattle.bw_leaf.proofs.Sorted.{Rises}
use Rattle.bw_leaf.proofs.Wording.{RisesIf, rises_all, blocks_tell, words_append, silent_unset, said_over}
use Rattle.bw_log.specs.Places.{all_placed}
use Rattle.bw_log.specs.Contents.{Contents, counted, IsSound}
use Rattle.bw_log.specs.Walking.{first_back, bodies, PlacedAt, IsWalk}
use Rattle.bw_log.specs.Lent.{Heard, heard_of, says}
use Rattle.bw_log.specs.Reads.{IsKept, ReadStops}
use Rattle.bw_log.specs.declared.fault.LogFault.{LogFault}
use Rattle.bw_log.proofs.Entries.{all_append, each_counted}
use Rattle.bw_log.proofs.Fetched.{kept_after, kept_same, sound_after}
use Rattle.bw_log.proofs.Placing.{bodies_all, bodies_more}
use Rattle.bw_log.proofs.Walk.{none_after, forgets_fold}
use Rattle.bw_log.proofs.Walks.{content_one, reads_one, newest_last}
use Rattle.bw_log.proofs.Walked.{Step, step_from, some_from}

-- ---- the pairs of counted frames ascend

all_split : {X : Type 0} (P : X → Type 0) (xs : List X) (y : X) (ys : List X) → All P (xs ++ y ∷ ys) → All P xs × P y
all_split P [] y ys h = (tt, h.0)
all_split P (x ∷ xs) y ys h = (let rest = all_split P xs y ys h.1 in ((h.0, rest.0), rest.1))

abbrev IsOrdered : Frame → Type 0
IsOrdered f = All HasOrder f.blocks

block_ordered : (v m : ℕ) (b : Block) → IsBlockIn v m b → HasOrder b
block_ordered v m (Delta page back ops) h = tt
block_ordered v m (Base leaf) h = h.ascends
block_ordered v m (Split page back upper) h = h.makes.ascends

blocks_ordered : (v m : ℕ) (bs : List Block) → All (IsBlockIn v m) bs → All HasOrder bs
blocks_ordered v m [] h = tt
blocks_ordered v m (b ∷ bs) h = (block_ordered v m b h.0, blocks_ordered v m bs h.1)

counted_ordered : (c : Contents) → IsSound c → All IsOrdered (counted c)
counted_ordered c sound = each_counted IsOrdered (λ v m f x law. blocks_ordered v m x.blocks law.blocks) c sound

of_frames : (fs : List Frame) → All IsOrdered fs → All HasOrder (blocks_of fs)
of_frames [] h = tt
of_frames (f ∷ fs) h = all_append HasOrder f.blocks (blocks_of fs) h.0 (of_frames fs h.1)

-- ---- a walk that looks for a key

-- what was read so far says nothing of it
pub record Looks (p : ℕ) (k : Bytes) (all : List (Place × Block)) (at : Place) : Type 0 where
  pub newer : List Block
  pub walk : IsWalk p all at newer
  pub silent : blocks_word p k (reverse newer) ≡ Silent
  pub ordered : All HasOrder (reverse newer)

pub looks_first : (p : ℕ) (k : Bytes) (all : List (Place × Block)) (at : Place) → IsWalk p all at [] → Looks p k all at
looks_first p k all at walk = record { newer = []; walk = walk; silent = refl; ordered = tt }

-- the block at a place is in order, and so are those before it
pub in_order : {place : Place} {b : Block} (c : Contents) → IsSound c → (s : PlacedAt (all_placed (counted c)) place b)
    → All HasOrder (bodies s.before) × HasOrder b
in_order {place} {b} c sound s =
    all_split HasOrder (bodies s.before) b (bodies s.beyond)
    (subst (All HasOrder) (sym (bodies_all (counted c)) ∙ ap bodies s.split ∙ bodies_more s.before ((place, b) ∷ s.beyond))
    (of_frames (counted c) (counted_ordered c sound)))

word_more : (p : ℕ) (k : Bytes) (newer : List Block) (b : Block) → blocks_word p k (reverse newer) ≡ Silent
    → blocks_word p k (b ∷ reverse newer) ≡ blocks_word p k (b ∷ [])
word_more p k newer b silent =
    words_append p k (b ∷ []) (reverse newer)
    ∙ ap (λ (w : Word). Rattle.bw_leaf.specs.Words.newer (blocks_word p k (b ∷ [])) w) silent

-- it says something: that is the value
decides : (p : ℕ) (k : Bytes) (bs : List Block) (before : Option Leaf) → RisesIf before → All HasOrder bs
    → (before ≡ None → list_any (sets p) bs ≡ true) → (blocks_word p k bs ≡ Silent → ⊥)
    → value_on k (fold (after p) before bs) ≡ told_by (blocks_word p k bs) None
decides p k bs (Some leaf) rises ordered set said = blocks_tell p k bs leaf rises ordered ∙ said_over (blocks_word p k bs) _ None said
decides p k bs None rises ordered set said =
    ap (value_on k) (forgets_fold p None (Some empty_leaf) bs (set refl))
    ∙ blocks_tell p k bs empty_leaf tt ordered ∙ said_over (blocks_word p k bs) _ None said

set_here : (p : ℕ) (b : Block) (rest : List Block) (before : Option Leaf) (leaf : Leaf) → after p before b ≡ Some leaf → before ≡ None
    → list_any (sets p) (b ∷ rest) ≡ true
set_here p b rest before leaf set none = elim (sets p b) as (λ t. sets p b ≡ t → (t || list_any (sets p) rest) ≡ true) [
  | true ↦ λ e. refl
  | false ↦ λ e. absurd (
      let whole : None ≡ Some leaf = sym (none_after p b e) ∙ ap (λ (o : Option Leaf). after p o b) (sym none) ∙ set in
      cc)
] refl

own_value : {p : ℕ} {at : Place} (k : Bytes) (c : Contents) → IsSound c → (x : Looks p k (all_placed (counted c)) at)
    → (blocks_word p k (x.walk.block ∷ []) ≡ Silent → ⊥)
    → value_on k (content p (blocks_of (counted c))) ≡ told_by (blocks_word p k (x.walk.block ∷ [])) None
own_value {p} {at} k c sound x said =
    let w = x.walk in
    let bs : List Block = w.block ∷ reverse x.newer in
    let parts = in_order c sound w.stands in
    let before : Option Leaf = content p (bodies w.stands.before) in
    let rises : RisesIf before = rises_all p None (bodies w.stands.before) tt parts.0 in
    let is : content p (blocks_of (counted c)) ≡ fold (after p) before bs = ap (content p) (sym (bodies_all (counted c))) ∙ reads_one w in
    let word : blocks_word p k bs ≡ blocks_word p k (w.block ∷ []) = word_more p k x.newer w.block x.silent in
    let set = set_here p w.block (reverse x.newer) before w.leaf (sym (content_one p (bodies w.stands.before) w.block) ∙ w.set) in
    ap (value_on k) is
    ∙ decides p k bs before rises (parts.1, x.ordered) set (λ e. said (sym word ∙ e))
    ∙ ap (λ (v : Word). told_by v None) word

-- it says nothing: the walk goes on
looks_on : {p : ℕ} {at : Place} (b : Block) (k : Bytes) (all : List (Place × Block)) (next : Place) → (x : Looks p k all at) → HasOrder b
    → IsWalk p all next (x.newer ++ b ∷ []) → blocks_word p k (b ∷ []) ≡ Silent → Looks p k all next
looks_on {p} {at} b k all next x ordered walk silent = record {
  newer = x.newer ++ b ∷ [];
  walk = walk;
  silent = ap (blocks_word p k) (newest_last x.newer b) ∙ word_more p k x.newer b x.silent ∙ silent;
  ordered = subst (All HasOrder) (sym (newest_last x.newer b)) (ordered, x.ordered);
}

-- ---- one step, on a log that is as it was when the walk began

-- what was heard of the block at the place where the walk is
abbrev pub HeardAt : Contents → Contents → ℕ → Bytes → Place → Word → Option Place → Type 0
HeardAt old now p k at word link =
    (now ≡ old) × IsSound old × Looks p k (all_placed (counted old)) at
    × ((b : Block) → PlacedAt (all_placed (counted now)) at b → heard_of word link ≡ says p k b)

one_word : (p : ℕ) (k : Bytes) (b : Block) → blocks_word p k (b ∷ []) ≡ block_word p k b
one_word p k b = silent_first (block_word p k b)
  where
    silent_first : (w : Word) → Rattle.bw_leaf.specs.Words.newer Silent w ≡ w
    silent_first Silent = refl
    silent_first Gone = refl
    silent_first (Holds value) = refl

both_are : (word : Word) (link : Option Place) (p : ℕ) (k : Bytes) (b : Block) → heard_of word link ≡ says p k b
    → (word ≡ blocks_word p k (b ∷ [])) × (link ≡ first_back p (b ∷ []))
both_are word link p k b e = (ap (λ (h : Heard). h.0) e ∙ sym (one_word p k b), ap (λ (h : Heard). h.1) e)

-- what a block that was read says
pub read_heard : (word : Word) (link : Option Place) (p : ℕ) (k : Bytes) (own block : Block) → own ≡ block → word ≡ blocks_word p k (own ∷ [])
    → link ≡ first_back p (own ∷ []) → heard_of word link ≡ says p k block
read_heard word link p k own block same said back =
    ap (λ (w : Word). heard_of w link) (said ∙ one_word p k own ∙ ap (block_word p k) same)
    ∙ ap (heard_of (block_word p k block)) (back ∙ ap (λ (b : Block). first_back p (b ∷ [])) same)

-- both, of the walk's block
heard_is : {old now : Contents} {p : ℕ} {k : Bytes} {at : Place} {word : Word} {link : Option Place} (r : HeardAt old now p k at word link)
    → (word ≡ blocks_word p k (r.2.walk.block ∷ [])) × (link ≡ first_back p (r.2.walk.block ∷ []))
heard_is {old} {now} {p} {k} {at} {word} {link} r =
    both_are word link p k r.2.walk.block
    (subst (λ (c : Contents). (b : Block) → PlacedAt (all_placed (counted c)) at b → heard_of word link ≡ says p k b) r.0 r.3
    r.2.walk.block r.2.walk.stands)

-- the block decides
pub heard_value : {old now : Contents} {p : ℕ} {k : Bytes} {at : Place} {word : Word} {link : Option Place} (said : Word) → HeardAt old now p k at word link
    → word ≡ said → (said ≡ Silent → ⊥) → told_by said None ≡ value_on k (content p (blocks_of (counted old)))
heard_value {old} {now} {p} {k} {at} {word} {link} said r is some =
    let same = sym is ∙ (heard_is r).0 in
    ap (λ (w : Word). told_by w None) same ∙ sym (own_value k old r.1 r.2 (λ e. some (same ∙ e)))

unset_by : (p : ℕ) (k : Bytes) (block : Block) → Silent ≡ blocks_word p k (block ∷ []) → sets p block ≡ false
unset_by p k block silent = (or_parts (sets p block) false (silent_unset p k (block ∷ []) (sym silent))).0

-- the block is silent: its link leads on
pub heard_on : {old now : Contents} {p : ℕ} {k : Bytes} {at : Place} {word : Word} {link : Option Place} (place : Place) (r : HeardAt old now p k at word link)
    → word ≡ Silent → link ≡ Some place → Step old p at r.2.newer r.2.walk.block place
heard_on {old} {now} {p} {k} {at} {word} {link} place r silent on =
    let is = heard_is r in
    step_from place r.1 r.2.walk (unset_by p k r.2.walk.block (sym silent ∙ is.0)) (sym on ∙ is.1)

pub heard_further : {old now : Contents} {p : ℕ} {k : Bytes} {at : Place} {word : Word} {link : Option Place} (place : Place)
    → (r : HeardAt old now p k at word link) → word ≡ Silent → link ≡ Some place → Looks p k (all_placed (counted old)) place
heard_further {old} {now} {p} {k} {at} {word} {link} place r silent on =
    looks_on r.2.walk.block k (all_placed (counted old)) place r.2 (in_order old r.1 r.2.walk.stands).1 (heard_on place r silent on).walk
    (sym (heard_is r).0 ∙ silent)

pub never_ends : {old now : Contents} {p : ℕ} {k : Bytes} {at : Place} {word : Word} {link : Option Place} → HeardAt old now p k at word link
    → word ≡ Silent → link ≡ None → ⊥
never_ends {old} {now} {p} {k} {at} {word} {link} r silent none =
    let is = heard_is r in
    some_from r.1 r.2.walk (unset_by p k r.2.walk.block (sym silent ∙ is.0)) (sym none ∙ is.1)

-- ---- what the log is after the walk

pub sound_by : {A : Type 0} (reads : ℕ → Type 0) (old new : Contents) (r : Result A LogFault) → IsSound old → ReadStops reads old r new → IsSound new
sound_by reads old new (Ok x) sound same = subst IsSound (sym same) sound
sound_by reads old new (Err fault) sound stops = sound_after reads old new fault sound stops

pub kept_by : {A : Type 0} (reads : ℕ → Type 0) (old new : Contents) (r : Result A LogFault) → ReadStops reads old r new → IsKept old new
kept_by reads old new (Ok x) same = kept_same old new same
kept_by reads old new (Err fault) stops = kept_after reads old new fault stops

-- a page as the log has it ascends
pub page_rises : (c : Contents) (p : ℕ) (leaf : Leaf) → IsSound c → content p (blocks_of (counted c)) ≡ Some leaf → Rises leaf.pairs
page_rises c p leaf sound is =
    subst RisesIf is (rises_all p None (blocks_of (counted c)) tt (of_frames (counted c) (counted_ordered c sound)))

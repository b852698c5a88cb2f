-- The frames of the tests may be appended one after the other.

use Rattle.std.proofs.Common.{◌≡◌, ℕ, ◌^◌, ◌<◌, ◌≤◌, ◌==◌, lit≤, lit<, Some, false, true, IsTrue, List, [], ◌∷◌, ◌++◌, length, refl, sym, ap, subst, ◌∙◌, arith}
use Rattle.std.proofs.lemmas.Bool.{ne_eqb}
use Rattle.std.specs.List.{AllByRecursion}
use Rattle.bw_codec.specs.Bytes.{number_bytes}
use Rattle.bw_record.specs.Keys.{ascends}
use Rattle.bw_record.specs.Lawful.{IsPair}
use Rattle.bw_codec.specs.Grammar.{IsPlace, IsBlock, IsFrame}
use Rattle.bw_record.specs.Touch.{touches}
use Rattle.bw_record.specs.declared.leaf.Leaf.{Leaf}
use Rattle.bw_record.specs.declared.block.Block.TheVariants.{Base}
use Rattle.bw_record.specs.declared.block.Frame.{Frame}
use Rattle.bw_record.specs.declared.block.Place.{Place}
use Rattle.bw_leaf.specs.Changed.{Pairs}
use Rattle.bw_page.specs.Leaves.{home, leaf_at}
use Rattle.bw_leaf.specs.Forwards.{content, blocks_of}
use Rattle.bw_page.specs.Standing.{Stand}
use Rattle.bw_log.specs.Places.{AreLinked}
use Rattle.bw_log.specs.Segments.{next_of}
use Rattle.bw_log.specs.Contents.{Contents, IsSound, counted}
use Rattle.bw_device.specs.Holding.{Holding}
use Rattle.bw_buffer.specs.Filling.{Filling, frame_of}
use Rattle.bw_log.specs.Limits.{fresh}
use Rattle.bw_log.specs.Appends.{MayFollow, Appended, IsSameLog}
use Rattle.log_tests.specs.OnePage.{leaf_with, put_of, put_after, first_with, frame_of_one, Counts}
use Rattle.log_tests.specs.Examples.{first_blocks, first_example, first_leaf}

-- ---- lawful blocks and frames of page 1

-- a key of one byte and a value of one byte
pub short : (key value : ℕ) → IsPair (key ∷ [], value ∷ [])
short key value = ((lit≤ tt, lit≤ tt), lit≤ tt)

pub page_lawful : (m : ℕ) (pairs : Pairs) → length pairs ≤ m → AllByRecursion IsPair pairs → IsTrue (ascends pairs) → IsBlock m (Base (leaf_with pairs))
page_lawful m pairs few each in_order = record { page = (lit≤ tt, lit< tt); low = lit≤ tt; count = few; pairs = each; ascends = in_order }

pub empty_lawful : (m : ℕ) → IsBlock m (Base (leaf_with []))
empty_lawful m = page_lawful m [] (omega arith) tt refl

pub put_lawful : (m : ℕ) (back : Place) (key value : ℕ) → IsPlace back → IsBlock m (put_after back key value)
put_lawful m back key value place = record { changes = (lit≤ tt, lit< tt); links = place; count = (lit≤ tt, lit< tt); each = (short key value, tt) }

-- a frame of one put
pub put_frame_lawful : (n : ℕ) (back : Place) (key value : ℕ) → 1 ≤ n → n < 2 ^ 64 → IsPlace back
    → IsFrame 4 65536 (frame_of_one n (put_after back key value))
unfolding number_bytes
put_frame_lawful n back key value from to place = record {
  head = record { numbered = (from, to); fits = (lit≤ tt, lit≤ tt); some = (lit≤ tt, lit< tt) };
  blocks = (put_lawful 4 back key value place, tt);
}

-- the first frame, with one put
pub first_of_lawful : (key value : ℕ) → IsFrame 4 65536 (record { number = 1; blocks = first_with (put_of key value ∷ []) })
unfolding number_bytes
first_of_lawful key value = record {
  head = record { numbered = (lit≤ tt, lit< tt); fits = (lit≤ tt, lit≤ tt); some = (lit≤ tt, lit< tt) };
  blocks = (
    empty_lawful 4,
    (put_lawful 4 (record { frame = 1; index = 0 }) key value (record { frame = (lit≤ tt, lit< tt); index = lit< tt }), tt),
  );
}

pub first_frame_lawful : IsFrame 4 65536 first_example
first_frame_lawful = first_of_lawful 107 118

-- ---- frames that stand for only page 1

pub only_one : (p : ℕ) → 1 ≤ p → p ≤ 1 → p ≡ 1
only_one p from to = omega arith

pub not_one : (p : ℕ) → 2 ≤ p → (1 == p) ≡ false
not_one p from = ne_eqb 1 p (λ e. absurd (omega arith))

all_at_home : (leaf : Leaf) (pairs : Pairs) → AllByRecursion (λ p. (home p.0 (leaf ∷ [])).page ≡ leaf.page) pairs
all_at_home leaf [] = tt
all_at_home leaf (p ∷ pairs) = (refl, all_at_home leaf pairs)

-- the blocks say this of page 1, and nothing of another page
pub page_stands : (frames : List Frame) (pairs : Pairs) → 1 ≤ length frames → IsBlock 4 (Base (leaf_with pairs))
    → content 1 (blocks_of frames) ≡ Some (leaf_with pairs)
    → ((p : ℕ) → 2 ≤ p → AllByRecursion (λ b. touches p b ≡ false) (blocks_of frames)) → Stand 4 frames (leaf_with pairs ∷ [])
page_stands frames pairs some lawful is other =
    let page = leaf_with pairs in
    record {
      some = some;
      lawful = record { pages = (refl, tt); first = refl; lows = ((λ _. refl, tt), tt); each = (lawful, tt); homes = (all_at_home page pairs, tt) };
      each = λ p from to. subst (λ n. content n (blocks_of frames) ≡ leaf_at n (page ∷ [])) (sym (only_one p from to)) is;
      all = other;
    }

-- the first frame, with one put
pub first_of_stands : (key value : ℕ) → Stand 4 (record { number = 1; blocks = first_with (put_of key value ∷ []) } ∷ [])
    (leaf_with ((key ∷ [], value ∷ []) ∷ []) ∷ [])
first_of_stands key value =
    page_stands (record { number = 1; blocks = first_with (put_of key value ∷ []) } ∷ []) ((key ∷ [], value ∷ []) ∷ []) (lit≤ tt)
    (page_lawful 4 ((key ∷ [], value ∷ []) ∷ []) (lit≤ tt) (short key value, tt) refl) refl (λ p h. (not_one p h, (not_one p h, tt)))

pub first_stands : Stand 4 (first_example ∷ []) (first_leaf ∷ [])
first_stands = first_of_stands 107 118

-- ---- frames that may follow

-- a frame may follow where it may follow these frames
pub follows_of : (c : Contents) (all : List Frame) (x : Frame) (leaves : List Leaf) → IsSound c → counted c ≡ all → c.m ≡ 4 → c.f ≡ 65536
    → next_of all ≡ Some x.number → IsFrame 4 65536 x → AreLinked (all ++ x ∷ []) → Stand 4 (all ++ x ∷ []) leaves → MayFollow c x
follows_of c all x leaves sound counts m f next lawful links stands =
    let back = sym counts in
    record {
      number = sound.holds.follows ∙ ap next_of counts ∙ next;
      lawful = subst (λ (n : ℕ). IsFrame n c.f x) (sym m) (subst (λ (n : ℕ). IsFrame 4 n x) (sym f) lawful);
      links = subst (λ (l : List Frame). AreLinked (l ++ x ∷ [])) back links;
      leaves = leaves;
      stands = subst (λ (n : ℕ). Stand n (counted c ++ x ∷ []) leaves) (sym m) (subst (λ (l : List Frame). Stand 4 (l ++ x ∷ []) leaves) back stands);
    }

pub first_follows : (c : Contents) → IsSound c → counted c ≡ [] → c.m ≡ 4 → c.f ≡ 65536 → MayFollow c first_example
first_follows c sound counts m f = follows_of c [] first_example (first_leaf ∷ []) sound counts m f refl first_frame_lawful refl first_stands

-- ---- as the tests find a log

pub new_counts : (c : Contents) (spares : List Holding) → IsSound c → c ≡ fresh 4 65536 spares → Counts c []
new_counts c spares sound is = record { sound = sound; frames = ap counted is; m = ap (λ (x : Contents). x.m) is; f = ap (λ (x : Contents). x.f) is }

pub more_counts : (old new : Contents) (all : List Frame) (x : Frame) → Counts old all → IsSound new → Appended old x new → IsSameLog old new
    → Counts new (all ++ x ∷ [])
more_counts old new all x counts sound added same = record {
  sound = sound;
  frames = added.frames ∙ ap (λ (l : List Frame). l ++ x ∷ []) counts.frames;
  m = same.m ∙ counts.m;
  f = same.f ∙ counts.f;
}

pub first_on : (c : Contents) (frame : Filling) → Counts c [] → frame ≡ record { frame = 1; limit = 65536; blocks = first_blocks; is_sealed = true }
    → MayFollow c (frame_of frame)
first_on c frame counts is = subst (λ (f : Filling). MayFollow c (frame_of f)) (sym is) (first_follows c counts.sound counts.frames counts.m counts.f)

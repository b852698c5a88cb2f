-- The frames of the vector of a page that is split in two may be appended one after the other.

use Rattle.std.proofs.Common.{◌≡◌, ℕ, suc, zero, ◌+◌, ◌^◌, ◌<◌, ◌≤◌, ◌==◌, ◌||◌, lit≤, lit<, Ok, false, List, [], ◌∷◌, ◌++◌, refl, sym, ap, subst, ◌∙◌, arith}
use Rattle.std.proofs.lemmas.Bool.{ne_eqb}
use Rattle.bw_codec.specs.Bytes.{number_bytes}
use Rattle.bw_codec.specs.Grammar.{IsPlace, IsBlock, IsFrame}
use Rattle.bw_record.specs.declared.leaf.Leaf.{Leaf}
use Rattle.bw_record.specs.declared.block.Block.TheVariants.{Base}
use Rattle.bw_record.specs.declared.block.Frame.{Frame}
use Rattle.bw_leaf.specs.Changed.{Pairs}
use Rattle.bw_page.specs.Leaves.{leaf_at}
use Rattle.bw_leaf.specs.Forwards.{content, blocks_of}
use Rattle.bw_page.specs.Standing.{Stand}
use Rattle.bw_log.specs.Contents.{Contents}
use Rattle.bw_log.specs.Appends.{MayFollow, AfterAppend}
use Rattle.log_tests.specs.Examples.{split_frame_2, split_frame_1, split_frame_3, split_frame_4, split_frame_5, split_blocks, split_frames, split_upper}
use Rattle.log_tests.specs.OnePage.{Counts, leaf_with}
use Rattle.log_tests.proofs.Exampled.{not_one, short, page_lawful, put_lawful, put_frame_lawful, first_of_lawful, first_of_stands, page_stands}
use Rattle.log_tests.proofs.Exampled.{follows_of, more_counts}

-- a place in a frame that was appended
place : (frame index : ℕ) → 1 ≤ frame → frame < 2 ^ 64 → index < 2 ^ 32 → IsPlace (record { frame = frame; index = index })
place frame index from to below = record { frame = (from, to); index = below }

opening_lawful : IsFrame 4 65536 split_frame_1
opening_lawful = first_of_lawful 97 49

second_lawful : IsFrame 4 65536 split_frame_2
second_lawful = put_frame_lawful 2 (record { frame = 1; index = 1 }) 98 50 (lit≤ tt) (lit< tt) (place 1 1 (lit≤ tt) (lit< tt) (lit< tt))

third_lawful : IsFrame 4 65536 split_frame_3
third_lawful = put_frame_lawful 3 (record { frame = 2; index = 0 }) 99 51 (lit≤ tt) (lit< tt) (place 2 0 (lit≤ tt) (lit< tt) (lit< tt))

fourth_lawful : IsFrame 4 65536 split_frame_4
fourth_lawful = put_frame_lawful 4 (record { frame = 3; index = 0 }) 100 52 (lit≤ tt) (lit< tt) (place 3 0 (lit≤ tt) (lit< tt) (lit< tt))

upper_lawful : IsBlock 4 (Base split_upper)
upper_lawful = record {
  page = (lit≤ tt, lit< tt);
  low = lit≤ tt;
  count = lit≤ tt;
  pairs = (short 99 51, (short 100 52, (short 101 53, tt)));
  ascends = refl;
}

fifth_lawful : IsFrame 4 65536 split_frame_5
unfolding number_bytes
fifth_lawful = record {
  head = record { numbered = (lit≤ tt, lit< tt); fits = (lit≤ tt, lit≤ tt); some = (lit≤ tt, lit< tt) };
  blocks = (
    put_lawful 4 (record { frame = 4; index = 0 }) 101 53 (place 4 0 (lit≤ tt) (lit< tt) (lit< tt)),
    (
      record {
        splits = (lit≤ tt, lit< tt);
        links = place 5 0 (lit≤ tt) (lit< tt) (lit< tt);
        makes = upper_lawful;
        low = refl;
        count = lit≤ tt;
        new = (lit≤ tt, λ e. absurd (omega arith));
      },
      tt,
    ),
  );
}

abbrev one_frame : List Frame
one_frame = split_frame_1 ∷ []

abbrev two_frames : List Frame
two_frames = split_frame_1 ∷ split_frame_2 ∷ []

abbrev three_frames : List Frame
three_frames = split_frame_1 ∷ split_frame_2 ∷ split_frame_3 ∷ []

abbrev four_frames : List Frame
four_frames = split_frame_1 ∷ split_frame_2 ∷ split_frame_3 ∷ split_frame_4 ∷ []

abbrev five_frames : List Frame
five_frames = split_frame_1 ∷ split_frame_2 ∷ split_frame_3 ∷ split_frame_4 ∷ split_frame_5 ∷ []

abbrev one_pair : Pairs
one_pair = (97 ∷ [], 49 ∷ []) ∷ []

abbrev two_pairs : Pairs
two_pairs = (97 ∷ [], 49 ∷ []) ∷ (98 ∷ [], 50 ∷ []) ∷ []

abbrev three_pairs : Pairs
three_pairs = (97 ∷ [], 49 ∷ []) ∷ (98 ∷ [], 50 ∷ []) ∷ (99 ∷ [], 51 ∷ []) ∷ []

abbrev four_pairs : Pairs
four_pairs = (97 ∷ [], 49 ∷ []) ∷ (98 ∷ [], 50 ∷ []) ∷ (99 ∷ [], 51 ∷ []) ∷ (100 ∷ [], 52 ∷ []) ∷ []

two_lawful : IsBlock 4 (Base (leaf_with two_pairs))
two_lawful = page_lawful 4 two_pairs (lit≤ tt) (short 97 49, (short 98 50, tt)) refl

three_lawful : IsBlock 4 (Base (leaf_with three_pairs))
three_lawful = page_lawful 4 three_pairs (lit≤ tt) (short 97 49, (short 98 50, (short 99 51, tt))) refl

four_lawful : IsBlock 4 (Base (leaf_with four_pairs))
four_lawful = page_lawful 4 four_pairs (lit≤ tt) (short 97 49, (short 98 50, (short 99 51, (short 100 52, tt)))) refl

one_stands : Stand 4 one_frame (leaf_with one_pair ∷ [])
one_stands = first_of_stands 97 49

two_stand : Stand 4 two_frames (leaf_with two_pairs ∷ [])
two_stand = page_stands two_frames two_pairs (lit≤ tt) two_lawful refl (λ p h. (not_one p h, (not_one p h, (not_one p h, tt))))

three_stand : Stand 4 three_frames (leaf_with three_pairs ∷ [])
three_stand =
    page_stands three_frames three_pairs (lit≤ tt) three_lawful refl (λ p h. (not_one p h, (not_one p h, (not_one p h, (not_one p h, tt)))))

four_stand : Stand 4 four_frames (leaf_with four_pairs ∷ [])
four_stand =
    page_stands four_frames four_pairs (lit≤ tt) four_lawful refl
    (λ p h. (not_one p h, (not_one p h, (not_one p h, (not_one p h, (not_one p h, tt))))))

abbrev two_leaves : List Leaf
two_leaves = leaf_with two_pairs ∷ split_upper ∷ []

two_pages : (p : ℕ) → 1 ≤ p → p ≤ 2 → content p (blocks_of five_frames) ≡ leaf_at p two_leaves
two_pages zero l h = absurd (omega arith)
two_pages (suc zero) l h = refl
two_pages (suc (suc zero)) l h = refl
two_pages (suc (suc (suc n))) l h = absurd (omega arith)

untouched : (p : ℕ) → 3 ≤ p → (1 == p) ≡ false
untouched p h = not_one p (omega arith)

unsplit : (p : ℕ) → 3 ≤ p → ((1 == p) || (2 == p)) ≡ false
unsplit p h = ap (λ b. b || (2 == p)) (untouched p h) ∙ ne_eqb 2 p (λ e. absurd (omega arith))

five_stand : Stand 4 five_frames two_leaves
five_stand = record {
  some = omega arith;
  lawful = record {
    pages = (refl, (refl, tt));
    first = refl;
    lows = ((λ _. refl, (λ e. cc, tt)), ((λ e. cc, (λ _. refl, tt)), tt));
    each = (two_lawful, (upper_lawful, tt));
    homes = ((refl, (refl, tt)), ((refl, (refl, (refl, tt))), tt));
  };
  each = two_pages;
  all = λ p h. (untouched p h, (untouched p h, (untouched p h, (untouched p h, (untouched p h, (untouched p h, (unsplit p h, tt)))))));
}

pub follows_as : (c : Contents) (x y : Frame) → x ≡ y → MayFollow c y → MayFollow c x
follows_as c x y is follows = subst (λ (f : Frame). MayFollow c f) (sym is) follows

opening_on : (c : Contents) (x : Frame) → x ≡ split_frame_1 → Counts c [] → MayFollow c x
opening_on c x is k = follows_as c x split_frame_1 is
    (follows_of c [] split_frame_1 (leaf_with one_pair ∷ []) k.sound k.frames k.m k.f refl opening_lawful refl one_stands)

then_second : (c : Contents) (x : Frame) → x ≡ split_frame_2 → Counts c one_frame → MayFollow c x
then_second c x is k = follows_as c x split_frame_2 is
    (follows_of c one_frame split_frame_2 (leaf_with two_pairs ∷ []) k.sound k.frames k.m k.f refl second_lawful refl two_stand)

then_third : (c : Contents) (x : Frame) → x ≡ split_frame_3 → Counts c two_frames → MayFollow c x
then_third c x is k = follows_as c x split_frame_3 is
    (follows_of c two_frames split_frame_3 (leaf_with three_pairs ∷ []) k.sound k.frames k.m k.f refl third_lawful refl three_stand)

then_fourth : (c : Contents) (x : Frame) → x ≡ split_frame_4 → Counts c three_frames → MayFollow c x
then_fourth c x is k = follows_as c x split_frame_4 is
    (follows_of c three_frames split_frame_4 (leaf_with four_pairs ∷ []) k.sound k.frames k.m k.f refl fourth_lawful refl four_stand)

then_fifth : (c : Contents) (x : Frame) → x ≡ split_frame_5 → Counts c four_frames → MayFollow c x
then_fifth c x is k = follows_as c x split_frame_5 is
    (follows_of c four_frames split_frame_5 two_leaves k.sound k.frames k.m k.f refl fifth_lawful refl five_stand)

-- ---- by their numbers

abbrev pub split_frame : ℕ → Frame
split_frame n = record { number = n; blocks = split_blocks n }

pub split_follows : (c : Contents) (x : Frame) (n : ℕ) → 1 ≤ n → n ≤ 5 → x ≡ split_frame n → Counts c (split_frames n) → MayFollow c x
split_follows c x zero from to is k = absurd (omega arith)
split_follows c x (suc zero) from to is k = opening_on c x is k
split_follows c x (suc (suc zero)) from to is k = then_second c x is k
split_follows c x (suc (suc (suc zero))) from to is k = then_third c x is k
split_follows c x (suc (suc (suc (suc zero)))) from to is k = then_fourth c x is k
split_follows c x (suc (suc (suc (suc (suc zero))))) from to is k = then_fifth c x is k
split_follows c x (suc (suc (suc (suc (suc (suc n)))))) from to is k = absurd (omega arith)

one_more : (n : ℕ) → 1 ≤ n → n ≤ 5 → split_frames n ++ split_frame n ∷ [] ≡ split_frames (n + 1)
one_more zero from to = absurd (omega arith)
one_more (suc zero) from to = refl
one_more (suc (suc zero)) from to = refl
one_more (suc (suc (suc zero))) from to = refl
one_more (suc (suc (suc (suc zero)))) from to = refl
one_more (suc (suc (suc (suc (suc zero))))) from to = refl
one_more (suc (suc (suc (suc (suc (suc n)))))) from to = absurd (omega arith)

-- one more frame was appended
pub split_counts : (old new : Contents) (x : Frame) (n : ℕ) → 1 ≤ n → n ≤ 5 → x ≡ split_frame n → Counts old (split_frames n)
    → AfterAppend old x false (Ok tt) new → Counts new (split_frames (n + 1))
split_counts old new x n from to is k left =
    subst (Counts new) (ap (λ (f : Frame). split_frames n ++ f ∷ []) is ∙ one_more n from to)
    (more_counts old new (split_frames n) x k left.sound left.added left.log)

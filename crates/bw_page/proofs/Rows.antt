-- Worked rows: the definitions on small histories, letter by letter.

use Rattle.std.proofs.Common.{◌≡◌, ℕ, ◌≤◌, false, List, [], ◌∷◌, ◌++◌, Some, None, refl, sym, subst, arith, lit≤, lit<}
use Rattle.std.proofs.lemmas.Bool.{ne_eqb}
use Rattle.std.specs.Prelude.{codes, ◌==◌}
use Rattle.bw_record.specs.declared.leaf.Leaf.{Leaf}
use Rattle.bw_record.specs.declared.record.Record.{Record}
use Rattle.bw_record.specs.declared.record.Record.TheVariants.{Put, Del}
use Rattle.bw_record.specs.declared.block.Block.TheVariants.{Delta, Base}
use Rattle.bw_record.specs.declared.block.Frame.{Frame}
use Rattle.bw_leaf.specs.Changed.{Bytes, empty_leaf}
use Rattle.bw_page.specs.Leaves.{directed_at, pages, leaf_at}
use Rattle.bw_leaf.specs.Forwards.{content, blocks_of}
use Rattle.bw_page.specs.Standing.{Stand}

put : Bytes → Record
put key = Put key (49 ∷ [])

pair : Bytes → Bytes × Bytes
pair key = (key, 49 ∷ [])

start : List Leaf
start = empty_leaf ∷ []

a_to_g : List Record
a_to_g = put (codes "a") ∷ put (codes "b") ∷ put (codes "c") ∷ put (codes "d") ∷ put (codes "e") ∷ put (codes "f") ∷ put (codes "g") ∷ []

and_aa_ab_ac : List Record
and_aa_ab_ac = put (codes "aa") ∷ put (codes "ab") ∷ put (codes "ac") ∷ []

-- at most 4 pairs a page: a to g, then aa, ab and ac make four pages
four_pages : List Leaf
four_pages =
    record { page = 1; low = []; pairs = pair (codes "a") ∷ pair (codes "aa") ∷ [] }
    ∷ record { page = 2; low = codes "c"; pairs = pair (codes "c") ∷ pair (codes "d") ∷ [] }
    ∷ record { page = 3; low = codes "e"; pairs = pair (codes "e") ∷ pair (codes "f") ∷ pair (codes "g") ∷ [] }
    ∷ record { page = 4; low = codes "ab"; pairs = pair (codes "ab") ∷ pair (codes "ac") ∷ pair (codes "b") ∷ [] }
    ∷ []

ten_puts_at_four : pages 4 start (a_to_g ++ and_aa_ab_ac) ≡ four_pages
unfolding put pair start a_to_g and_aa_ab_ac four_pages
ten_puts_at_four = refl

abz_is_directed_at_four : directed_at four_pages (put (codes "abz")) ≡ 4
unfolding four_pages pair put
abz_is_directed_at_four = refl

dz_is_directed_at_two : directed_at four_pages (put (codes "dz")) ≡ 2
unfolding four_pages pair put
dz_is_directed_at_two = refl

e_is_directed_at_three : directed_at four_pages (put (codes "e")) ≡ 3
unfolding four_pages pair put
e_is_directed_at_three = refl

a_to_f : List Record
a_to_f = put (codes "a") ∷ put (codes "b") ∷ put (codes "c") ∷ put (codes "d") ∷ put (codes "e") ∷ put (codes "f") ∷ []

-- at most 5 pairs a page: three stay, three go
two_pages : List Leaf
two_pages =
    record { page = 1; low = []; pairs = pair (codes "a") ∷ pair (codes "b") ∷ pair (codes "c") ∷ [] }
    ∷ record { page = 2; low = codes "d"; pairs = pair (codes "d") ∷ pair (codes "e") ∷ pair (codes "f") ∷ [] }
    ∷ []

six_puts_at_five : pages 5 start a_to_f ≡ two_pages
unfolding put pair start a_to_f two_pages
six_puts_at_five = refl

-- a delete of a key that is not there changes nothing, and a page may be empty
deletes_leave_an_empty_page : pages 4 start (put (codes "k") ∷ Del (codes "j") ∷ Del (codes "k") ∷ Del (codes "k") ∷ []) ≡ start
unfolding put start
deletes_leave_an_empty_page = refl

-- ---- the first vector: a frame with an empty Base of page 1 and a Delta that puts k=v

first_frame : Frame
first_frame = record {
  number = 1;
  blocks = Base (record { page = 1; low = []; pairs = [] }) ∷ Delta 1 (record { frame = 1; index = 0 }) (Put (codes "k") (codes "v") ∷ []) ∷ [];
}

k_is_v : Leaf
k_is_v = record { page = 1; low = []; pairs = (codes "k", codes "v") ∷ [] }

first_frame_reads : content 1 (blocks_of (first_frame ∷ [])) ≡ Some k_is_v
unfolding first_frame k_is_v
first_frame_reads = refl

first_frame_sets_no_other_page : content 2 (blocks_of (first_frame ∷ [])) ≡ None
unfolding first_frame
first_frame_sets_no_other_page = refl

first_frame_is_its_history : pages 4 start (Put (codes "k") (codes "v") ∷ []) ≡ k_is_v ∷ []
unfolding start k_is_v
first_frame_is_its_history = refl

-- page numbers from 2 on are not 1
not_one : (p : ℕ) → 2 ≤ p → (1 == p) ≡ false
not_one p h = ne_eqb 1 p (λ e. absurd (omega arith))

only_one : (p : ℕ) → 1 ≤ p → p ≤ 1 → p ≡ 1
only_one p l h = omega arith

first_frame_stands : Stand 4 (first_frame ∷ []) (k_is_v ∷ [])
unfolding first_frame k_is_v
first_frame_stands = record {
  some = omega arith;
  lawful = record {
    pages = (refl, tt);
    first = refl;
    lows = ((λ _. refl, tt), tt);
    each = (record { page = (lit≤ tt, lit< tt); low = lit≤ tt; count = lit≤ tt; pairs = (((lit≤ tt, lit≤ tt), lit≤ tt), tt); ascends = refl }, tt);
    homes = ((refl, tt), tt);
  };
  each = λ p l h. subst (λ n. content n (blocks_of (first_frame ∷ [])) ≡ leaf_at n (k_is_v ∷ [])) (sym (only_one p l h)) refl;
  all = λ p h. (not_one p h, (not_one p h, tt));
}

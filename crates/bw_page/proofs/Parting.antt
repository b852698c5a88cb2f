-- A leaf to which a record adds a pair, and its two parts.

use Rattle.std.proofs.Common.{◌≡◌, ℕ, zero, suc, ◌+◌, ◌<◌, ◌≤◌, List, [], ◌∷◌, ◌++◌, length, take, drop, get_or, Option, None, Result, Ok, Err, refl, ap, sym, subst, ◌∙◌, arith}
use Rattle.std.proofs.Common.{Less, Equal, Greater, length-append, length-take, length-drop}
use Rattle.std.specs.FinMap.Entries.{find, by_order}
use Rattle.std.proofs.lemmas.List.{take-append-drop}
use Rattle.std.specs.Prelude.{insert, remove}
use Rattle.bw_record.specs.Record.{key_of}
use Rattle.bw_record.specs.declared.leaf.Leaf.{Leaf}
use Rattle.bw_record.specs.declared.record.Record.{Record}
use Rattle.bw_record.specs.declared.record.Record.TheVariants.{Put, Del}
use Rattle.bw_leaf.specs.Changed.{Bytes, Pairs, order, without, changed, changed_pairs}
use Rattle.bw_page.specs.Displaced.{joined, with_pair_at}
use Rattle.bw_page.specs.Keeping.{IsLost}
use Rattle.bw_page.specs.declared.journal.Kept.TheVariants.{Lost}
use Rattle.bw_leaf.specs.Seek.{seek_of, passed, IsWithin, AddsOne}
use Rattle.bw_leaf.proofs.Seeking.{put_there, sought_at, counted}
use Rattle.bw_leaf.proofs.Sorted.{Rises, length-changed}
use Rattle.bw_page.proofs.TakenBack.{pairs_back}
use Rattle.bw_leaf.proofs.Valued.{Reads, reads, sought_key}

-- what was put between two pairs is taken out again
pub remove_inserted : {X : Type 0} (xs : List X) (at : ℕ) (x : X) → at ≤ length xs → remove (insert xs at x) at ≡ xs
remove_inserted [] zero x h = refl
remove_inserted (y ∷ ys) zero x h = refl
remove_inserted [] (suc n) x h = absurd (omega arith)
remove_inserted (y ∷ ys) (suc n) x h = ap (λ zs. y ∷ zs) (remove_inserted ys n x (omega arith))

-- a leaf with the record's pair where the search for its key ended is the leaf after the record
pub with_pair : (leaf : Leaf) (r : Record) (found : Result ℕ ℕ) (at : ℕ) (own : Bytes × Bytes) (ps : Pairs) → found ≡ seek_of (key_of r) leaf.pairs
    → found ≡ Err at → r ≡ Put own.0 own.1 → ps ≡ insert leaf.pairs at own → record leaf { pairs = ps } ≡ changed r leaf
with_pair leaf r found at own ps sought is puts e =
    let there = put_there leaf r own.0 own.1 (Err at) puts (sym is ∙ sought ∙ ap (λ (x : Record). seek_of (key_of x) leaf.pairs) puts) in
    there.0 ps (e ∙ there.1.0 own.1)

-- what was taken out is put between the others again
insert_removed : {X : Type 0} (xs : List X) (at : ℕ) (d : X) → at < length xs → insert (remove xs at) at (get_or xs at d) ≡ xs
insert_removed [] at d h = absurd (omega arith)
insert_removed (y ∷ ys) zero d h = refl
insert_removed (y ∷ ys) (suc n) d h = ap (λ zs. y ∷ zs) (insert_removed ys n d (omega arith))

-- a pair that a delete removed, at the place where it was found
pub put_again : (key : Bytes) (ps : Pairs) (at : ℕ) (d : Bytes × Bytes) → Ok at ≡ seek_of key ps → at < length ps
    → (at ≤ length (without key ps)) × (insert (without key ps) at (get_or ps at d) ≡ ps)
put_again key ps at d sought within =
    let less = (counted key ps (Ok at) sought within).1 in
    (omega arith, ap (λ xs. insert xs at (get_or ps at d)) (sym (sought_at key ps (Ok at) sought).1) ∙ insert_removed ps at d within)

-- the key of the pair that is found is found there
pub seeks_itself : (key : Bytes) (ps : Pairs) (at : ℕ) (d : Bytes × Bytes) → Ok at ≡ seek_of key ps → Ok at ≡ seek_of (get_or ps at d).0 ps
seeks_itself key ps at d e = e ∙ ap (λ k. seek_of k ps) (sym (sought_key key ps at e d))

-- there is one pair fewer without it
one_fewer : (rest ps : Pairs) (at : ℕ) (p : Bytes × Bytes) → at ≤ length rest → insert rest at p ≡ ps → length rest + 1 ≡ length ps
one_fewer rest ps at p h e =
    let all = length-append (take at rest) (p ∷ drop at rest) in
    let front = length-take at rest in
    let back = length-drop at rest in
    let same = ap length e in
    omega arith

-- a leaf without a pair is the leaf with it, once the pair is in its place again
pub again : (rest was : Leaf) (at : ℕ) (pair : Bytes × Bytes) → rest ≡ changed (Del pair.0) was → IsLost (Lost at pair) was
    → (at ≤ length rest.pairs) × (length rest.pairs + 1 ≡ length was.pairs) × (with_pair_at rest at pair ≡ was)
again rest was at pair e h =
    let same = ap (λ (l : Leaf). length l.pairs) e in
    let fewer = one_fewer (without pair.0 was.pairs) was.pairs at pair h.0 h.1 in (
      omega arith,
      omega arith,
      ap (λ l. with_pair_at l at pair) e ∙ ap (λ (ps : Pairs). let l : Leaf = record was { pairs = ps } in l) h.1,
    )

-- what makes too many pairs adds one
pub adds_one : (m : ℕ) (r : Record) (pairs : Pairs) (found : Result ℕ ℕ) → found ≡ seek_of (key_of r) pairs → IsWithin (length pairs) found
    → length pairs ≤ m → m < length (changed_pairs r pairs) → AddsOne r found
adds_one m (Put key value) pairs (Ok at) sought within few over = let n = (counted key pairs (Ok at) sought within).0 value in absurd (omega arith)
adds_one m (Put key value) pairs (Err at) sought within few over = tt
adds_one m (Del key) pairs (Ok at) sought within few over = let n = (counted key pairs (Ok at) sought within).1 in absurd (omega arith)
adds_one m (Del key) pairs (Err at) sought within few over = let n = (counted key pairs (Err at) sought within).1 in absurd (omega arith)

-- ---- what a search that ended so says of the key

passed_within : (n : ℕ) (s : Result ℕ ℕ) → IsWithin n s → IsWithin (n + 1) (passed 1 s)
passed_within n (Ok at) h = omega arith
passed_within n (Err at) h = omega arith

seek_within : (key : Bytes) (pairs : Pairs) → IsWithin (length pairs) (seek_of key pairs)
seek_within key [] = omega arith
seek_within key (p ∷ ps) =
    let rest : IsWithin (length (p ∷ ps)) (passed 1 (seek_of key ps)) =
    subst (λ n. IsWithin n (passed 1 (seek_of key ps))) (omega arith) (passed_within (length ps) (seek_of key ps) (seek_within key ps)) in
    elim (order key p.0) as (λ o. IsWithin (length (p ∷ ps)) (by_order o (Err 0) (Ok 0) (passed 1 (seek_of key ps))))
    [ Less ↦ (omega arith) | Equal ↦ (omega arith) | Greater ↦ rest ]

none_by : (r : Record) (s : Result ℕ ℕ) (found : Option Bytes) (pairs : Pairs) → AddsOne r s → Reads found pairs s → found ≡ None
none_by (Put key value) (Ok at) found pairs adds reads = absurd adds
none_by (Put key value) (Err at) found pairs adds reads = reads
none_by (Del key) s found pairs adds reads = absurd adds

-- a record that makes too many pairs has a key that was not there
pub none_there : (m : ℕ) (r : Record) (pairs : Pairs) → Rises pairs → length pairs ≤ m → m < length (changed_pairs r pairs)
    → find order (key_of r) pairs ≡ None
none_there m r pairs rises few over =
    none_by r (seek_of (key_of r) pairs) (find order (key_of r) pairs) pairs
    (adds_one m r pairs (seek_of (key_of r) pairs) refl (seek_within (key_of r) pairs) few over)
    (reads (key_of r) pairs (seek_of (key_of r) pairs) rises refl)

-- ---- the two parts as one leaf again

-- without the key of the record they are the leaf that was split
pub parts_whole : (m h : ℕ) (r : Record) (leaf upper : Leaf) → Rises leaf.pairs → length leaf.pairs ≤ m → m < length (changed r leaf).pairs
    → upper.pairs ≡ drop h (changed r leaf).pairs
    → changed (Del (key_of r)) (joined (record (changed r leaf) { pairs = take h (changed r leaf).pairs }) upper) ≡ leaf
parts_whole m h r leaf upper rises few over is =
    let x : Leaf = changed r leaf in
    let all : take h x.pairs ++ upper.pairs ≡ x.pairs = ap (λ ps. take h x.pairs ++ ps) is ∙ take-append-drop h x.pairs in
    ap (λ (ps : Pairs). changed (Del (key_of r)) (record x { pairs = ps })) all
    ∙ ap (λ (ps : Pairs). let l : Leaf = record leaf { pairs = ps } in l)
    (pairs_back r (Del (key_of r)) leaf.pairs rises refl (sym (none_there m r leaf.pairs rises few over)))

-- and they have one pair more at most
pub parts_few : (h : ℕ) (r : Record) (leaf upper : Leaf) → upper.pairs ≡ drop h (changed r leaf).pairs
    → length (take h (changed r leaf).pairs) + length upper.pairs ≤ length leaf.pairs + 1
parts_few h r leaf upper is =
    let x : Leaf = changed r leaf in
    let parts = length-append (take h x.pairs) upper.pairs in
    let all : length (take h x.pairs ++ upper.pairs) ≡ length x.pairs = ap length (ap (λ ps. take h x.pairs ++ ps) is ∙ take-append-drop h x.pairs) in
    let more = length-changed r leaf.pairs in omega arith

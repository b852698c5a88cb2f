-- The share of a frame on worked examples: five puts, one a frame, of which the last cuts page 1; and a frame of the cleaner's.

use Rattle.std.proofs.Common.{◌≡◌, ℕ, Bool, true, false, List, [], ◌∷◌, refl, arith}
use Rattle.bw_record.specs.declared.record.Record.{Record}
use Rattle.bw_record.specs.declared.record.Record.TheVariants.{Put}
use Rattle.bw_record.specs.declared.leaf.Leaf.{Leaf}
use Rattle.bw_record.specs.declared.block.Place.{Place}
use Rattle.bw_record.specs.declared.block.Block.TheVariants.{Delta, Base, Split}
use Rattle.bw_leaf.specs.Changed.{empty_leaf}
use Rattle.bw_page.specs.Leaves.{pages}
use Rattle.bw_history.specs.declared.entry.Entry.{Entry}
use Rattle.bw_history.specs.Entries.{records}
use Rattle.bw_history.specs.History.{upto, share, streams, are_whole}
use Rattle.bw_ring.specs.Marks.{Marked}
use Rattle.bw_making.specs.Share.{Tells, TellsFirst}
use Rattle.bw_making.specs.Adding.{blocks_for}
use Rattle.bw_core.specs.Kept.{Kept, IsMoved}

abbrev put : ℕ → ℕ → Record
put k v = Put (k ∷ []) (v ∷ [])

abbrev by_zero : Record → Entry
by_zero r = record { writer = 0; more = false; item = r }

abbrev five : List Entry
five = by_zero (put 97 49) ∷ by_zero (put 98 50) ∷ by_zero (put 99 51) ∷ by_zero (put 100 52) ∷ by_zero (put 101 53) ∷ []

abbrev cuts : List ℕ
cuts = 1 ∷ 2 ∷ 3 ∷ 4 ∷ 5 ∷ []

fifth_share : records (share cuts five 5) ≡ put 101 53 ∷ []
fifth_share = refl

before_fifth : upto cuts five 4 ≡ by_zero (put 97 49) ∷ by_zero (put 98 50) ∷ by_zero (put 99 51) ∷ by_zero (put 100 52) ∷ []
before_fifth = refl

place : ℕ → ℕ → Place
place f i = record { frame = f; index = i }

abbrev upper : Leaf
upper = record { page = 2; low = 99 ∷ []; pairs = (99 ∷ [], 51 ∷ []) ∷ (100 ∷ [], 52 ∷ []) ∷ (101 ∷ [], 53 ∷ []) ∷ [] }

-- frame 1 begins with the first page, and frame 5 has the Delta and its Split
first_tells : TellsFirst 4 (empty_leaf ∷ []) (records (share cuts five 1)) (Base empty_leaf ∷ Delta 1 (place 1 0) (put 97 49 ∷ []) ∷ [])
first_tells = (refl, record { deltas = λ p. refl; splits = refl; bases = refl })

fifth_tells : Tells 4 (pages 4 (empty_leaf ∷ []) (records (upto cuts five 4))) (records (share cuts five 5))
    (Delta 1 (place 4 0) (put 101 53 ∷ []) ∷ Split 1 (place 5 0) upper ∷ [])
fifth_tells = record { deltas = λ p. refl; splits = refl; bases = refl }

second_tells : Tells 4 (pages 4 (empty_leaf ∷ []) (records (upto cuts five 1))) (records (share cuts five 2)) (Delta 1 (place 1 1) (put 98 50 ∷ []) ∷ [])
second_tells = record { deltas = λ p. refl; splits = refl; bases = refl }

fifth_blocks : blocks_for 4 (pages 4 (empty_leaf ∷ []) (records (upto cuts five 4))) (place 4 0) (place 5 0) (put 101 53)
    ≡ Delta 1 (place 4 0) (put 101 53 ∷ []) ∷ Split 1 (place 5 0) upper ∷ []
fifth_blocks = refl

-- frame 4 after three shares is the cleaner's: nothing was put for it, and its one block is a whole
-- page
fourth_is_moved : (s : Kept) → IsMoved s 4 [] (Base (record { page = 1; low = []; pairs = (106 ∷ [], 50 ∷ []) ∷ (107 ∷ [], 51 ∷ []) ∷ [] }) ∷ [])
fourth_is_moved s = (λ opened first. absurd (omega arith), refl, (tt, tt))

-- two writers, the second with a group
abbrev entry : ℕ → Bool → Record → Entry
entry w more r = record { writer = w; more = more; item = r }

abbrev marked : Bool → Record → Marked
marked more r = record { item = r; more = more }

two_streams : streams 0 2 (entry 0 false (put 97 49) ∷ entry 1 true (put 98 49) ∷ entry 1 false (put 99 50) ∷ [])
    ≡ (marked false (put 97 49) ∷ []) ∷ (marked true (put 98 49) ∷ marked false (put 99 50) ∷ []) ∷ []
two_streams = refl

-- no cut stands after the group's first record
two_whole : are_whole (1 ∷ 3 ∷ []) (entry 0 false (put 97 49) ∷ entry 1 true (put 98 49) ∷ entry 1 false (put 99 50) ∷ []) ≡ true
two_whole = refl

not_whole : are_whole (2 ∷ []) (entry 0 false (put 97 49) ∷ entry 1 true (put 98 49) ∷ entry 1 false (put 99 50) ∷ []) ≡ false
not_whole = refl

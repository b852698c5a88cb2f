-- The flush history: entries in the order in which they were taken, in groups, and cuts into it.

use Rattle.std.specs.Prelude.{ℕ, zero, suc, ◌+◌, ◌-◌, ◌≤◌, ◌==◌, ◌&&◌, Bool, not, true, if◌then◌else◌, List, [], ◌∷◌, map, length, take, drop, slice_index_or}
use Rattle.std.specs.List.{list_all}
use Rattle.bw_ring.specs.Marks.{Marked}
use Rattle.bw_history.specs.declared.entry.Entry.{Entry}

-- the records of one writer, in order, with their marks
abbrev pub of_writer : ℕ → List Entry → List Marked
of_writer w [] = []
of_writer w (e ∷ es) = if e.writer == w then record { item = e.item; more = e.more } ∷ of_writer w es else of_writer w es

-- the records of the n writers from w on, in turn
abbrev pub streams : ℕ → ℕ → List Entry → List (List Marked)
streams w zero es = []
streams w (suc n) es = of_writer w es ∷ streams (suc w) n es

-- how many records each of the first n writers has
abbrev pub counts_of : ℕ → List Entry → List ℕ
counts_of n es = map (λ (ms : List Marked). length ms) (streams 0 n es)

-- ---- cuts

-- where the k-th share ends; before the first share nothing stands
abbrev pub cut : List ℕ → ℕ → ℕ
cut cuts zero = 0
cut cuts (suc k) = slice_index_or cuts k 0

-- the history up to the k-th cut, and what stands between it and the cut before
abbrev pub upto : {A : Type 0} → List ℕ → List A → ℕ → List A
upto cuts xs k = take (cut cuts k) xs

abbrev pub share : {A : Type 0} → List ℕ → List A → ℕ → List A
share cuts xs k = drop (cut cuts (k - 1)) (upto cuts xs k)

-- each cut is at most the history's length, and none is below the one before
abbrev pub AreCuts : ℕ → List ℕ → ℕ → Type 0
AreCuts from [] end = from ≤ end
AreCuts from (c ∷ cs) end = (from ≤ c) × AreCuts c cs end

-- ---- groups

-- marked records as entries of a writer
abbrev pub entered : ℕ → List Marked → List Entry
entered w ms = map (λ (m : Marked). record { writer = w; more = m.more; item = m.item }) ms

-- no group is there in part, and none has an entry of another writer in it
abbrev pub is_grouped : List Entry → Bool
is_grouped [] = true
is_grouped (e ∷ []) = not e.more
is_grouped (e ∷ f ∷ es) = (if e.more then f.writer == e.writer else true) && is_grouped (f ∷ es)

-- no cut stands inside a group
abbrev pub are_whole : List ℕ → List Entry → Bool
are_whole cuts es = list_all (λ c. is_grouped (take c es)) cuts

-- how many groups end in these entries
abbrev pub ends_in : List Entry → ℕ
ends_in [] = 0
ends_in (e ∷ es) = (if e.more then 0 else 1) + ends_in es

-- how many groups of this writer end in these entries
abbrev pub groups_of : ℕ → List Entry → ℕ
groups_of w [] = 0
groups_of w (e ∷ es) = (if e.writer == w then (if e.more then 0 else 1) else 0) + groups_of w es

-- What holds of lives, by induction over them.

use Rattle.std.proofs.Common.{◌≡◌, ℕ, List, [], ◌∷◌, ◌++◌, map, sym, ap, ◌∙◌, subst}
use Rattle.bw_record.specs.declared.leaf.Leaf.{Leaf}
use Rattle.bw_page.specs.Leaves.{pages}
use Rattle.bw_history.specs.declared.entry.Entry.{Entry}
use Rattle.bw_history.specs.Entries.{records}
use Rattle.bw_history.specs.Lives as machine
use Rattle.bw_history.specs.Machine.{Machine, MayLeave, after, begun}
use Rattle.bw_history.proofs.Lives as history
use Rattle.bw_core.specs.Kept.{Kept}
use Rattle.bw_core.specs.Machine.{machine_of}
use Rattle.bw_core.proofs.RecordMore.{pages_more, records_more}
use Rattle.bw_lives.specs.Many.{Life, Lives, LivesLoseNothing, Outlives, life_of}

-- lives of a store are lives of its machine
of_machine : (first : Kept) (lives : List Life) (here : Kept) → Lives first lives here
    → machine.Lives (machine_of first) (map life_of lives) (machine_of here)
of_machine first [] here h = (h.count, h.steps)
of_machine first (life ∷ lives) here h =
    let lived = h.0 in
    let goes = lived.goes in
    let next : machine_of life.next ≡ machine.next_of (life_of life) =
    lived.relives.machine ∙ ap (λ (left : List Entry). begun (after (machine_of life.last).start left)) lived.left in (
      record {
        count = goes.count;
        steps = goes.steps;
        left = subst (MayLeave (machine_of life.last)) lived.left lived.relives.may_leave;
      },
      subst (λ (m : Machine). machine.Lives m (map life_of lives) (machine_of here)) next (of_machine life.next lives here h.1),
    )

-- pages of entries, one part after the other
parts : (m : ℕ) (start : List Leaf) (xs ys : List Entry) → pages m start (records (xs ++ ys)) ≡ pages m (pages m start (records xs)) (records ys)
parts m start xs ys = ap (pages m start) (records_more xs ys) ∙ pages_more m start (records xs) (records ys)

-- the pages of the same start
same_start : (m n : ℕ) (s t : List Leaf) (es : List Entry) → m ≡ n → s ≡ t → pages m s (records es) ≡ pages n t (records es)
same_start m n s t es a b = ap (λ k. pages k s (records es)) a ∙ ap (λ (l : List Leaf). pages n l (records es)) b

record OneLife (first : Kept) (lives : List Life) (here : Kept) : Type 0 where
  start : here.start ≡ pages first.filed.m first.start (records (machine.left_of (map life_of lives)))
  pairs : here.filed.m ≡ first.filed.m

of_pages : (first : Kept) (lives : List Life) (here : Kept) → Lives first lives here → OneLife first lives here
of_pages first [] here h = record { start = h.continues.start; pairs = h.continues.m }
of_pages first (life ∷ lives) here h =
    let lived = h.0 in
    let goes = lived.goes in
    let rest = of_pages life.next lives here h.1 in
    let pairs = lived.relives.pairs ∙ goes.continues.m in
    let left = machine.left_of (map life_of lives) in
    let start : life.next.start ≡ pages first.filed.m first.start (records life.left) =
    lived.relives.start ∙ ap (λ (es : List Entry). pages life.last.filed.m life.last.start (records es)) lived.left
    ∙ same_start life.last.filed.m first.filed.m life.last.start first.start life.left goes.continues.m goes.continues.start in
    record {
      start =
          rest.start
          ∙ same_start life.next.filed.m first.filed.m life.next.start (pages first.filed.m first.start (records life.left)) left pairs start
          ∙ sym (parts first.filed.m first.start life.left left);
      pairs = rest.pairs ∙ pairs;
    }

pub lose_nothing : LivesLoseNothing
lose_nothing first lives here is h =
    let as_machine = of_machine first lives here h in
    let as_pages = of_pages first lives here h in
    record {
      steps = as_machine;
      machine = history.lose_nothing (machine_of first) (map life_of lives) (machine_of here) is as_machine;
      start = as_pages.start;
      pairs = as_pages.pairs;
    }

-- What was read of a source and put, one step after the other.

use Rattle.std.proofs.Common.{◌≡◌, ℕ, List, [], ◌∷◌, ◌++◌, length, map, refl, sym, ap, ◌∙◌, subst, arith}
use Rattle.std.specs.Prelude.{slice_set, IfOk, Option, Some, None, Result, Ok, Err}
use Rattle.std.proofs.lemmas.List.{append-nil, append_assoc, length-map}
use Rattle.bw_record.specs.declared.record.Record.{Record}
use Rattle.bw_ring.specs.Ends.{accepted}
use Rattle.bw_ring.specs.Marks.{Marked}
use Rattle.bw_ring.specs.declared.feed.Feed.{Feed}
use Rattle.bw_home.specs.Putting.{AddedGroup}
use Rattle.bw_home.proofs.Maps.{one_more}
use Rattle.bw_keys.specs.declared.load.Step.{Step}
use Rattle.bw_keys.specs.declared.load.Step.TheVariants.{End}
use Rattle.bw_keys.specs.Loading.{first_of, records_of, Comes, Puts, PutsAll}

count_set : (queues : List (List Marked)) (ms : List Marked) → length (slice_set queues 0 ms) ≡ length queues
count_set [] ms = refl
count_set (q ∷ queues) ms = refl

-- the queue accepted a group
pub offered : (old new : List Feed) (group : List Record) → AddedGroup 0 group old new → Puts (map accepted old) (map accepted new) [] [] group
offered old new group added = record {
  writers = ap length added ∙ count_set (map accepted old) _;
  all = λ one. append-nil (first_of (map accepted new)) ∙ one_more old new group (sym (length-map old accepted) ∙ one) added
      ∙ ap (λ (l : List Record). l ++ group) (sym (append-nil (first_of (map accepted old))));
}

-- a group waits, and nothing was put
pub put_off : (old new : List (List Marked)) (group : List Record) → new ≡ old → Puts old new [] group group
put_off old new group same = record {
  writers = ap length same;
  all = λ one. ap (λ (q : List (List Marked)). first_of q ++ group) same ∙ ap (λ (l : List Record). l ++ group) (sym (append-nil (first_of old)));
}

-- nothing came and nothing was put
pub idle : (given was : List Record) (old new : List (List Marked)) (waited waiting : List Record) → given ≡ was → new ≡ old → waiting ≡ waited
    → PutsAll was given old new waited waiting
idle given was old new waited waiting handed same waits = record {
  came = [];
  handed = handed ∙ sym (append-nil was);
  puts = record {
    writers = ap length same;
    all = λ one. ap (λ (q : List (List Marked)). first_of q ++ waiting) same ∙ ap (λ (l : List Record). first_of old ++ l) waits
        ∙ sym (append-nil (first_of old ++ waited));
  };
}

-- what waited or was read went in, or waits
pub read_and_put : (was mid given : List Record) (old new : List (List Marked)) (waited waiting items : List Record) → Comes was mid waited items
    → given ≡ mid → Puts old new [] waiting items → PutsAll was given old new waited waiting
read_and_put was mid given old new waited waiting items comes same puts = record {
  came = comes.came;
  handed = same ∙ comes.handed;
  puts = record {
    writers = puts.writers;
    all = λ one. puts.all one ∙ ap (λ (l : List Record). l ++ items) (append-nil (first_of old)) ∙ ap (λ (l : List Record). first_of old ++ l) comes.items
        ∙ sym (append_assoc (first_of old) waited comes.came);
  };
}

-- .. after the home was only read
pub read_then_put : (was mid given : List Record) (old between new : List (List Marked)) (waited waiting items : List Record)
    → Comes was mid waited items → given ≡ mid → between ≡ old → Puts between new [] waiting items → PutsAll was given old new waited waiting
read_then_put was mid given old between new waited waiting items comes same kept puts =
    read_and_put was mid given old new waited waiting items comes same (subst (λ (q : List (List Marked)). Puts q new [] waiting items) kept puts)

-- nothing waited and nothing was read
pub none_read : (was given : List Record) (old new : List (List Marked)) (waited waiting : List Record) → Comes was given waited [] → new ≡ old
    → waiting ≡ [] → PutsAll was given old new waited waiting
none_read was given old new waited waiting comes same none = read_and_put was given given old new waited waiting [] comes refl (record {
  writers = ap length same;
  all = λ one. ap (λ (q : List (List Marked)). first_of q ++ waiting) same ∙ ap (λ (l : List Record). first_of old ++ l) none
      ∙ sym (append-nil (first_of old ++ []));
})

-- one step after the other
pub and_then : (was mid given : List Record) (old between new : List (List Marked)) (waited held waiting : List Record)
    → PutsAll was mid old between waited held → PutsAll mid given between new held waiting → PutsAll was given old new waited waiting
and_then was mid given old between new waited held waiting p q = record {
  came = p.came ++ q.came;
  handed = q.handed ∙ ap (λ (l : List Record). l ++ q.came) p.handed ∙ append_assoc was p.came q.came;
  puts = record {
    writers = q.puts.writers ∙ p.puts.writers;
    all = λ one. q.puts.all (p.puts.writers ∙ one) ∙ ap (λ (l : List Record). l ++ q.came) (p.puts.all one)
        ∙ append_assoc (first_of old ++ waited) p.came q.came;
  };
}

-- the home was only read before
pub from_same : (was given : List Record) (old between new : List (List Marked)) (waited waiting : List Record) → between ≡ old
    → PutsAll was given between new waited waiting → PutsAll was given old new waited waiting
from_same was given old between new waited waiting same puts = subst (λ (q : List (List Marked)). PutsAll was given q new waited waiting) same puts

-- ---- answers

-- it is so whatever was answered
pub whatever : {A E : Type 0} (r : Result A E) (P : Type 0) → P → IfOk r (λ _. P)
whatever (Ok x) P p = p
whatever (Err e) P p = tt

-- what follows from an answer
pub if_so : {A E : Type 0} (r : Result A E) (P Q : Type 0) → (P → Q) → IfOk r (λ _. P) → IfOk r (λ _. Q)
if_so (Ok x) P Q f p = f p
if_so (Err e) P Q f p = tt

-- an answer that is no end says nothing of one
pub no_end : {E : Type 0} (r : Result Step E) (P : Type 0) → IfOk r (λ s. s ≡ End → ⊥) → IfOk r (λ s. s ≡ End → P)
no_end (Ok s) P never = λ is. absurd (never is)
no_end (Err e) P never = tt

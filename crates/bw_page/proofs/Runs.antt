-- A journal of records that were applied takes them back, the newest first.

use Rattle.std.proofs.Common.{◌≡◌, ℕ, zero, suc, ◌<◌, ◌≤◌, arith, true, false, Some, None, nat_le, length, if◌then◌else◌, List, []}
use Rattle.std.proofs.Common.{◌+◌, ◌∷◌, ◌++◌, take, refl, sym, ap, ◌∙◌, subst}
use Rattle.std.specs.List.{AllByRecursion as All, slice_get}
use Rattle.std.specs.FinMap.Entries.{find}
use Rattle.std.proofs.lemmas.Bool.{leb-true, le-leb, lt-leb}
use Rattle.std.proofs.lemmas.List.Sums.{fold_push}
use Rattle.bw_record.specs.Lawful.{IsOp}
use Rattle.bw_record.specs.Record.{key_of}
use Rattle.bw_record.specs.declared.leaf.Leaf.{Leaf}
use Rattle.bw_record.specs.declared.record.Record.{Record}
use Rattle.bw_page.specs.declared.journal.Undo.{Undo}
use Rattle.bw_page.specs.declared.journal.Undo.TheVariants.{Back, Page}
use Rattle.bw_page.specs.Displaced.{Displaced}
use Rattle.bw_leaf.specs.Changed.{order}
use Rattle.bw_page.specs.Leaves.{home, result_of, applied, pages, HasPage, HasPages, AreLeaves, union, plain}
use Rattle.bw_leaf.specs.Seek.{back_of}
use Rattle.bw_page.specs.Seats.{is_among}
use Rattle.bw_page.specs.Shown.{Shown, IsHere}
use Rattle.bw_page.specs.Batch.{SomeIsSpent, AreHere, NoneBeyond, step_of, steps_of}
use Rattle.bw_page.specs.Journal.{after_record, run, displaced_by, undo_by, undo_of, journal_of, undone, all_undone, Ran, IsJournal, IsNewest}
use Rattle.bw_leaf.proofs.Sorted.{all-push}
use Rattle.bw_page.proofs.Law.{applied-lawful, pages-plain}
use Rattle.bw_page.proofs.Journals.{stepped, goes_back, one_more}
use Rattle.bw_page.proofs.TakenBack.{leaves_back}

-- ---- one record more

pages-push : (m : ℕ) (leaves : List Leaf) (rs : List Record) (r : Record) → pages m leaves (rs ++ r ∷ []) ≡ applied m (pages m leaves rs) r
pages-push m leaves rs r = fold_push (applied m) leaves rs r

run-push : (f : Shown) (rs : List Record) (r : Record) → run f (rs ++ r ∷ []) ≡ after_record (run f rs) r
run-push f rs r = ap (λ (ls : List Leaf). let g : Shown = record f { leaves = ls } in g) (pages-push f.m f.leaves rs r)

journal-push : (f : Shown) (rs : List Record) (r : Record) → journal_of f (rs ++ r ∷ []) ≡ journal_of f rs ++ undo_of (run f rs) r ∷ []
journal-push f [] r = refl
journal-push f (x ∷ rs) r = ap (λ us. undo_of f x ∷ us) (journal-push (after_record f x) rs r)

pub has-push : (m : ℕ) (leaves : List Leaf) (rs : List Record) (r : Record) → HasPages m leaves rs → HasPage m (pages m leaves rs) r
    → HasPages m leaves (rs ++ r ∷ [])
has-push m leaves [] r h k = (k, tt)
has-push m leaves (x ∷ rs) r h k = (h.0, has-push m (applied m leaves x) rs r h.1 k)

has-front : (m : ℕ) (leaves : List Leaf) (rs : List Record) (r : Record) → HasPages m leaves (rs ++ r ∷ [])
    → HasPages m leaves rs × HasPage m (pages m leaves rs) r
has-front m leaves [] r h = (tt, h.0)
has-front m leaves (x ∷ rs) r h = let rest = has-front m (applied m leaves x) rs r h.1 in ((h.0, rest.0), rest.1)

all-front : {X : Type 0} (P : X → Type 0) (xs : List X) (x : X) → All P (xs ++ x ∷ []) → All P xs × P x
all-front P [] x h = (tt, h.0)
all-front P (y ∷ ys) x h = let rest = all-front P ys x h.1 in ((h.0, rest.0), rest.1)

pub here-push : (f : Shown) (rs : List Record) (r : Record) → HasPages f.m f.leaves rs → AreHere f rs → IsHere (key_of r) (run f rs) → AreHere f (rs ++ r ∷ [])
here-push f [] r room h k = (k, λ p. tt)
here-push f (x ∷ rs) r room h k = (h.0, λ p. here-push (after_record f x) rs r room.1 (h.1 p) k)

here-front : (f : Shown) (rs : List Record) (r : Record) → HasPages f.m f.leaves rs → AreHere f (rs ++ r ∷ []) → AreHere f rs × IsHere (key_of r) (run f rs)
here-front f [] r room h = (tt, h.0)
here-front f (x ∷ rs) r room h =
    let rest = here-front (after_record f x) rs r room.1 (h.1 room.0) in ((h.0, λ p. rest.0), rest.1)

-- the page of the next record is in memory
pub here_at : (f : Shown) (rs : List Record) (k : ℕ) (r : Record) → HasPages f.m f.leaves (take k rs) → AreHere f rs → slice_get rs k ≡ Some r
    → IsHere (key_of r) (run f (take k rs))
here_at f [] k r room h e = absurd (cc)
here_at f (x ∷ rs) zero r room h e = let same : x ≡ r = cc in subst (λ (y : Record). IsHere (key_of y) f) same h.0
here_at f (x ∷ rs) (suc k) r room h e = here_at (after_record f x) rs k r room.1 (h.1 room.0) e

-- if no page is evicted, the pages of all records are in memory
pub all_here : (f : Shown) (rs : List Record) → f.evicted ≡ [] → AreHere f rs
all_here f [] none = tt
all_here f (r ∷ rs) none = (ap (is_among (home (key_of r) f.leaves).page) none, λ p. all_here (after_record f r) rs none)

-- no record makes pages fewer
grow : (m : ℕ) (leaves : List Leaf) (rs : List Record) → 1 ≤ m → HasPages m leaves rs → AreLeaves m leaves → All IsOp rs
    → length leaves ≤ length (pages m leaves rs)
grow m leaves [] some room a ops = omega arith
grow m leaves (r ∷ rs) some room a ops =
    let one = one_more m leaves (key_of r) a (applied m leaves r) (stepped m leaves r some room.0 a ops.0) in
    let rest = grow m (applied m leaves r) rs some room.1 (applied-lawful m leaves r some room.0 a ops.0) ops.1 in omega arith

pub ran_more : (start now next : Shown) (rs : List Record) (r : Record) (us : List Undo) (u : Undo) → Ran start rs now us → IsOp r
    → IsHere (key_of r) now → HasPage now.m now.leaves r
    → next ≡ after_record now r → u ≡ undo_of now r
    → Ran start (rs ++ r ∷ []) next (us ++ u ∷ [])
ran_more start now next rs r us u h op here room e d = record {
  some = h.some;
  here = here-push start rs r h.room h.here (subst (IsHere (key_of r)) h.is here);
  beyond = h.beyond;
  lawful = h.lawful;
  ops = all-push IsOp rs r h.ops op;
  room = has-push start.m start.leaves rs r h.room (subst (λ (f : Shown). HasPage f.m f.leaves r) h.is room);
  is = e ∙ ap (λ f. after_record f r) h.is ∙ sym (run-push start rs r);
  displaced = ap (λ xs. xs ++ u ∷ []) h.displaced ∙ ap (λ x. journal_of start rs ++ x ∷ []) (d ∙ ap (λ f. undo_of f r) h.is) ∙ sym (journal-push start rs r);
}

-- no record yet
pub none_run : (start : Shown) → 1 ≤ start.m → AreLeaves start.m start.leaves → NoneBeyond start → Ran start [] start []
none_run start some lawful beyond =
    record { some = some; here = tt; beyond = beyond; lawful = lawful; ops = tt; room = tt; is = refl; displaced = refl }

-- what records do, with one more
pub steps-push : (f : Shown) (rs : List Record) (r : Record) → steps_of f (rs ++ r ∷ []) ≡ steps_of f rs ++ step_of (run f rs) r ∷ []
steps-push f [] r = refl
steps-push f (x ∷ rs) r = ap (λ ss. step_of f x ∷ ss) (steps-push (after_record f x) rs r)

-- ---- one record back

pub undone_of : (f : Shown) (r : Record) → 1 ≤ f.m → HasPage f.m f.leaves r → AreLeaves f.m f.leaves → IsOp r
    → undone (after_record f r) (undo_of f r) ≡ f
undone_of f r some room a op =
    let old = find order (key_of r) (home (key_of r) f.leaves).pairs in
    let page : undone (after_record f r) (Page (displaced_by f r)) ≡ f =
    ap (λ (ls : List Leaf). let g : Shown = record f { leaves = ls } in g)
    (goes_back f.m f.leaves (key_of r) a (applied f.m f.leaves r) (stepped f.m f.leaves r some room a op)) in
    elim (nat_le (length (result_of f.leaves r).pairs) f.m) as (λ b. nat_le (length (result_of f.leaves r).pairs) f.m ≡ b
    → undone (after_record f r) (if b then undo_by (back_of r old) (displaced_by f r) else Page (displaced_by f r)) ≡ f) [
      | true ↦ λ e. elim (back_of r old) as (λ o. back_of r old ≡ o → undone (after_record f r) (undo_by o (displaced_by f r)) ≡ f) [
        | Some back ↦ λ is. ap (λ (ls : List Leaf). let g : Shown = record f { leaves = ls } in g)
            (leaves_back f.m f.leaves r back some a op (leb-true _ _ e) is)
        | None ↦ λ is. page
      ] refl
      | false ↦ λ e. page
    ] refl

pub back_one : (now : Shown) (u : Undo) → (n : IsNewest now u) → undone now u ≡ n.before
back_one now u n =
    ap (λ f. undone f u) n.is
    ∙ ap (undone (after_record n.before n.change)) n.displaced
    ∙ undone_of n.before n.change n.some n.room n.lawful n.op

-- what is kept of a record: one that takes it back, or the displaced leaf
pub undo_back : (f : Shown) (r back : Record) → length (result_of f.leaves r).pairs ≤ f.m
    → Some back ≡ back_of r (find order (key_of r) (home (key_of r) f.leaves).pairs) → Back back ≡ undo_of f r
undo_back f r back fits is =
    let few = le-leb (length (result_of f.leaves r).pairs) f.m fits in
    λ i. if sym few i then undo_by (is i) (displaced_by f r) else Page (displaced_by f r)

pub undo_split : (f : Shown) (r : Record) (d : Displaced) → d ≡ displaced_by f r → f.m < length (result_of f.leaves r).pairs → Page d ≡ undo_of f r
undo_split f r d e over =
    let many = lt-leb (length (result_of f.leaves r).pairs) f.m over in
    λ i. if sym many i then undo_by (back_of r (find order (key_of r) (home (key_of r) f.leaves).pairs)) (displaced_by f r) else Page (e i)

pub undo_lost : (f : Shown) (r : Record) (d : Displaced) → d ≡ displaced_by f r
    → None ≡ back_of r (find order (key_of r) (home (key_of r) f.leaves).pairs) → Page d ≡ undo_of f r
undo_lost f r d e is =
    elim (nat_le (length (result_of f.leaves r).pairs) f.m) as (λ b. Page d ≡ (if b
    then undo_by (back_of r (find order (key_of r) (home (key_of r) f.leaves).pairs)) (displaced_by f r) else Page (displaced_by f r))) [
      | true ↦ λ i. undo_by (is i) (e i)
      | false ↦ ap Page e
    ]

-- what takes a record back, if it is the displaced leaf
pub page_of : (f : Shown) (r : Record) (d : Displaced) → Page d ≡ undo_of f r → d ≡ displaced_by f r
page_of f r d e =
    let old = find order (key_of r) (home (key_of r) f.leaves).pairs in
    elim (nat_le (length (result_of f.leaves r).pairs) f.m) as
    (λ b. Page d ≡ (if b then undo_by (back_of r old) (displaced_by f r) else Page (displaced_by f r)) → d ≡ displaced_by f r) [
      | true ↦ elim (back_of r old) as (λ o. Page d ≡ undo_by o (displaced_by f r) → d ≡ displaced_by f r)
          [ Some back ↦ λ h. absurd (cc) | None ↦ λ h. (cc) ]
      | false ↦ λ h. (cc)
    ] e

-- if it is a record
pub back_is : (f : Shown) (r back : Record) → Back back ≡ undo_of f r
    → (length (result_of f.leaves r).pairs ≤ f.m) × (back_of r (find order (key_of r) (home (key_of r) f.leaves).pairs) ≡ Some back)
back_is f r back e =
    let old = find order (key_of r) (home (key_of r) f.leaves).pairs in
    elim (nat_le (length (result_of f.leaves r).pairs) f.m) as (λ b. nat_le (length (result_of f.leaves r).pairs) f.m ≡ b
    → Back back ≡ (if b then undo_by (back_of r old) (displaced_by f r) else Page (displaced_by f r))
    → (length (result_of f.leaves r).pairs ≤ f.m) × (back_of r old ≡ Some back)) [
      | true ↦ λ t h. (
        leb-true _ _ t,
        elim (back_of r old) as (λ o. Back back ≡ undo_by o (displaced_by f r) → o ≡ Some back)
            [ Some b ↦ λ k. (let same : back ≡ b = cc in ap Some (sym same)) | None ↦ λ k. absurd (cc) ] h,
      )
      | false ↦ λ t h. absurd (cc)
    ] refl e

-- if it is the displaced leaf, which was not split, no record takes it back
pub none_back : (f : Shown) (r : Record) (d : Displaced) → Page d ≡ undo_of f r → length (result_of f.leaves r).pairs ≤ f.m
    → back_of r (find order (key_of r) (home (key_of r) f.leaves).pairs) ≡ None
none_back f r d e fits =
    let old = find order (key_of r) (home (key_of r) f.leaves).pairs in
    let few = le-leb (length (result_of f.leaves r).pairs) f.m fits in
    elim (nat_le (length (result_of f.leaves r).pairs) f.m) as (λ b. nat_le (length (result_of f.leaves r).pairs) f.m ≡ b
    → Page d ≡ (if b then undo_by (back_of r old) (displaced_by f r) else Page (displaced_by f r)) → back_of r old ≡ None) [
      | true ↦ λ t. elim (back_of r old) as (λ o. Page d ≡ undo_by o (displaced_by f r) → o ≡ None)
          [ Some b ↦ λ h. absurd (cc) | None ↦ λ h. refl ]
      | false ↦ λ t h. absurd (cc)
    ] refl e

-- the newest record of a journal
pub record Last (f : Shown) (rs : List Record) (us : List Undo) (u : Undo) : Type 0 where
  front : List Record
  change : Record
  all : rs ≡ front ++ change ∷ []
  older : us ≡ journal_of f front
  newest : u ≡ undo_of (run f front) change

last-more : (f : Shown) (r : Record) (rs : List Record) (us : List Undo) (v u : Undo) → v ≡ undo_of f r → Last (after_record f r) rs us u
    → Last f (r ∷ rs) (v ∷ us) u
last-more f r rs us v u e l = record {
  front = r ∷ l.front;
  change = l.change;
  all = ap (λ xs. r ∷ xs) l.all;
  older = λ i. e i ∷ l.older i;
  newest = l.newest;
}

pub last : (f : Shown) (rs : List Record) (us : List Undo) (u : Undo) → us ++ u ∷ [] ≡ journal_of f rs → Last f rs us u
last f [] [] u e = absurd (cc)
last f [] (v ∷ us) u e = absurd (cc)
last f (r ∷ []) [] u e = record { front = []; change = r; all = refl; older = refl; newest = (let h : u ≡ undo_of f r = cc in h) }
last f (r ∷ x ∷ rs) [] u e = absurd (cc)
last f (r ∷ rs) (v ∷ us) u e =
    let head : v ≡ undo_of f r = cc in
    let tail : us ++ u ∷ [] ≡ journal_of (after_record f r) rs = cc in
    last-more f r rs us v u head (last (after_record f r) rs us u tail)

ran_front : (start : Shown) (rs : List Record) (now : Shown) (us : List Undo) (u : Undo) → Ran start rs now (us ++ u ∷ []) → (l : Last start rs us u)
    → Ran start l.front (run start l.front) us
ran_front start rs now us u h l =
    let ops = all-front IsOp l.front l.change (subst (All IsOp) l.all h.ops) in
    let room = has-front start.m start.leaves l.front l.change (subst (HasPages start.m start.leaves) l.all h.room) in
    let here = here-front start l.front l.change room.0 (subst (AreHere start) l.all h.here) in
    record { some = h.some; here = here.0; beyond = h.beyond; lawful = h.lawful; ops = ops.0; room = room.0; is = refl; displaced = l.older }

pub newest_is : (start : Shown) (rs : List Record) (now : Shown) (us : List Undo) (u : Undo) → Ran start rs now (us ++ u ∷ [])
    → (l : Last start rs us u) → IsNewest now u
newest_is start rs now us u h l =
    let ops = all-front IsOp l.front l.change (subst (All IsOp) l.all h.ops) in
    let room = has-front start.m start.leaves l.front l.change (subst (HasPages start.m start.leaves) l.all h.room) in
    let here = here-front start l.front l.change room.0 (subst (AreHere start) l.all h.here) in
    let more = grow start.m start.leaves l.front h.some room.0 h.lawful ops.0 in
    record {
      before = run start l.front;
      change = l.change;
      some = h.some;
      here = here.1;
      beyond = h.beyond (length (run start l.front).leaves + 1) (omega arith);
      lawful = (pages-plain start.m start.leaves l.front h.some room.0 h.lawful ops.0).0;
      op = ops.1;
      room = room.1;
      is = h.is ∙ ap (run start) l.all ∙ run-push start l.front l.change;
      displaced = l.newest;
    }

-- a journal without its newest record, over the leaves without it
pub step_back : (now : Shown) (us : List Undo) (u : Undo) → IsJournal now (us ++ u ∷ []) → IsNewest now u × IsJournal (undone now u) us
unfolding newest_is
step_back now us u j =
    let l = last j.0 j.1 us u j.2.displaced in
    let n = newest_is j.0 j.1 now us u j.2 l in
    (n, (j.0, l.front, subst (λ (f : Shown). Ran j.0 l.front f us) (sym (back_one now u n)) (ran_front j.0 j.1 now us u j.2 l)))

pub all_undone-push : (f : Shown) (us : List Undo) (u : Undo) → all_undone f (us ++ u ∷ []) ≡ all_undone (undone f u) us
all_undone-push f [] u = refl
all_undone-push f (v ∷ us) u = ap (λ x. undone x v) (all_undone-push f us u)

all_back_by : (start : Shown) (rs : List Record) → 1 ≤ start.m → AreLeaves start.m start.leaves → All IsOp rs
    → HasPages start.m start.leaves rs → all_undone (run start rs) (journal_of start rs) ≡ start
all_back_by start [] some a ops room = refl
all_back_by start (r ∷ rs) some a ops room =
    let lawful = applied-lawful start.m start.leaves r some room.0 a ops.0 in
    ap (λ f. undone f (undo_of start r)) (all_back_by (after_record start r) rs some lawful ops.1 room.1)
    ∙ undone_of start r some room.0 a ops.0

-- all records taken back
pub all_back : (start : Shown) (rs : List Record) (now : Shown) (us : List Undo) → Ran start rs now us → all_undone now us ≡ start
all_back start rs now us h =
    (λ i. all_undone (h.is i) (h.displaced i)) ∙ all_back_by start rs h.some h.lawful h.ops h.room

pub run-plain : (start : Shown) (rs : List Record) (now : Shown) (us : List Undo) → Ran start rs now us → union now.leaves ≡ plain start.leaves rs
run-plain start rs now us h = ap (λ (f : Shown). union f.leaves) h.is ∙ (pages-plain start.m start.leaves rs h.some h.room h.lawful h.ops).1

pub has_at : (m : ℕ) (leaves : List Leaf) (rs : List Record) (k : ℕ) (r : Record) → HasPages m leaves rs → slice_get rs k ≡ Some r
    → HasPage m (pages m leaves (take k rs)) r
has_at m leaves [] k r h e = absurd (cc)
has_at m leaves (x ∷ rs) zero r h e = let same : x ≡ r = cc in subst (HasPage m leaves) same h.0
has_at m leaves (x ∷ rs) (suc k) r h e = has_at m (applied m leaves x) rs k r h.1 e

-- no page number was wanting for records that were applied
pub none_spent : (start : Shown) (rs : List Record) (now : Shown) (us : List Undo) → Ran start rs now us → SomeIsSpent start rs → ⊥
none_spent start rs now us h s =
    let fits = has_at start.m start.leaves rs s.0 s.1 h.room s.2 s.3.0 in
    let full = s.3.1 in
    absurd (omega arith)

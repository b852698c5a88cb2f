-- A group is entered whole.

use Rattle.std.proofs.Common.{◌≡◌, ℕ, zero, suc, ◌+◌, ◌≤◌, Bool, true, false, List, [], ◌∷◌, ◌++◌, length, take, replicate, refl, sym, ap, ◌∙◌, arith}
use Rattle.std.proofs.Common.{append-nil, if◌then◌else◌, append_assoc}
use Rattle.std.specs.Prelude.{◌==◌, ◌&&◌, not, Vec, Result, Ok, Err, IfOk}
use Rattle.std.specs.declared.alloc.Global.{Global}
use Rattle.std.specs.List.{AllByRecursion as All}
use Rattle.std.proofs.Math.Seq.{take-length}
use Rattle.std.proofs.lemmas.List.{take-append-le}
use Rattle.std.proofs.lemmas.Bool.{eq-eqb}
use Rattle.bw_record.specs.declared.record.Record.{Record}
use Rattle.bw_ring.specs.Marks.{marked}
use Rattle.bw_history.specs.declared.entry.Entry.{Entry}
use Rattle.bw_history.specs.Entries.{records}
use Rattle.bw_history.specs.History.{entered, is_grouped, are_whole, ends_in}
use Rattle.bw_history.specs.History.{AreCuts}

both : (x y : Bool) → x ≡ true → y ≡ true → (x && y) ≡ true
both x y a b = ap (λ z. z && y) a ∙ b

glue : (m x y : Bool) → not m ≡ true → y ≡ true → ((if m then x else true) && y) ≡ true
glue true x y a b = absurd cc
glue false x y a b = b

keep : (x y z : Bool) → (x && y) ≡ true → (y ≡ true → z ≡ true) → (x && z) ≡ true
keep true y z a h = h a
keep false y z a h = a

pub grouped_more : (es fs : List Entry) → is_grouped es ≡ true → is_grouped fs ≡ true → is_grouped (es ++ fs) ≡ true
grouped_more [] fs a b = b
grouped_more (e ∷ []) [] a b = a
grouped_more (e ∷ []) (f ∷ fs) a b = glue e.more (f.writer == e.writer) (is_grouped (f ∷ fs)) a b
grouped_more (e ∷ f ∷ es) fs a b =
    keep (if e.more then f.writer == e.writer else true) (is_grouped (f ∷ es)) (is_grouped ((f ∷ es) ++ fs)) a (λ h. grouped_more (f ∷ es) fs h b)

pub grouped_entered : (w : ℕ) (g : List Record) → is_grouped (entered w (marked g)) ≡ true
grouped_entered w [] = refl
grouped_entered w (r ∷ []) = refl
grouped_entered w (r ∷ s ∷ []) = both (w == w) true (eq-eqb w w refl) refl
grouped_entered w (r ∷ s ∷ t ∷ rs) = both (w == w) (is_grouped (entered w (marked (s ∷ t ∷ rs)))) (eq-eqb w w refl) (grouped_entered w (s ∷ t ∷ rs))

-- the records that are entered are those of the group
pub records_entered : (w : ℕ) (g : List Record) → records (entered w (marked g)) ≡ g
records_entered w [] = refl
records_entered w (r ∷ []) = refl
records_entered w (r ∷ s ∷ rs) = ap (λ (l : List Record). r ∷ l) (records_entered w (s ∷ rs))

-- and so are those of entries that were packed
pub records_packed : {E : Type 0} (r : Result (Vec Entry Global) E) (w : ℕ) (items group : List Record) → IfOk r (λ v. v.items ≡ entered w (marked items))
    → items ≡ group → IfOk r (λ v. records v.items ≡ group)
records_packed (Ok v) w items group is same = ap records is ∙ records_entered w items ∙ same
records_packed (Err e) w items group is same = tt

pub entered_grouped : (before after : List Entry) (w : ℕ) (g : List Record) → is_grouped before ≡ true → after ≡ before ++ entered w (marked g)
    → is_grouped after ≡ true
entered_grouped before after w g was more = ap is_grouped more ∙ grouped_more before (entered w (marked g)) was (grouped_entered w g)

-- ---- cuts

-- a cut where the history ends stands after a whole group
pub whole_cut : (cuts : List ℕ) (es : List Entry) (end : ℕ) → are_whole cuts es ≡ true → is_grouped es ≡ true → end ≡ length es
    → are_whole (cuts ++ end ∷ []) es ≡ true
whole_cut [] es end h g is = both (is_grouped (take end es)) true (ap (λ n. is_grouped (take n es)) is ∙ ap is_grouped (take-length es) ∙ g) refl
whole_cut (c ∷ cs) es end h g is = keep (is_grouped (take c es)) (are_whole cs es) (are_whole (cs ++ end ∷ []) es) h (λ k. whole_cut cs es end k g is)

-- what is entered after cuts leaves them whole
pub whole_more : (cuts : List ℕ) (es more : List Entry) → All (λ c. c ≤ length es) cuts → are_whole cuts es ≡ true → are_whole cuts (es ++ more) ≡ true
whole_more [] es more inside h = refl
whole_more (c ∷ cs) es more inside h =
    ap (λ b. b && are_whole cs (es ++ more)) (ap is_grouped (take-append-le c es more inside.0))
    ∙ keep (is_grouped (take c es)) (are_whole cs es) (are_whole cs (es ++ more)) h (λ k. whole_more cs es more inside.1 k)

-- ---- counts

pub ends_more : (es fs : List Entry) → ends_in (es ++ fs) ≡ ends_in es + ends_in fs
ends_more [] fs = omega arith
ends_more (e ∷ es) fs = (let rest = ends_more es fs in omega arith)

pub ends_one : (w : ℕ) (g : List Record) → 1 ≤ length g → ends_in (entered w (marked g)) ≡ 1
ends_one w [] some = absurd (omega arith)
ends_one w (r ∷ []) some = refl
ends_one w (r ∷ s ∷ rs) some = (let rest = ends_one w (s ∷ rs) (omega arith) in omega arith)

pub length_entered : (w : ℕ) (g : List Record) → length (entered w (marked g)) ≡ length g
length_entered w [] = refl
length_entered w (r ∷ []) = refl
length_entered w (r ∷ s ∷ rs) = (let rest = length_entered w (s ∷ rs) in omega arith)

pub length_marked : (g : List Record) → length (marked g) ≡ length g
length_marked [] = refl
length_marked (r ∷ []) = refl
length_marked (r ∷ s ∷ rs) = (let rest = length_marked (s ∷ rs) in omega arith)

-- ---- a store's cuts

from_low : (from : ℕ) (cs : List ℕ) (n : ℕ) → AreCuts from cs n → from ≤ n
from_low from [] n h = h
from_low from (c ∷ cs) n h = (let low = h.0 in let rest = from_low c cs n h.1 in omega arith)

pub cuts_inside : (from : ℕ) (cs : List ℕ) (n : ℕ) → AreCuts from cs n → All (λ c. c ≤ n) cs
cuts_inside from [] n h = tt
cuts_inside from (c ∷ cs) n h = (from_low c cs n h.1, cuts_inside c cs n h.1)

-- a group is entered after cuts
pub whole_entered : (cuts : List ℕ) (before after : List Entry) (w : ℕ) (g : List Record) → AreCuts 0 cuts (length before) → are_whole cuts before ≡ true
    → after ≡ before ++ entered w (marked g) → are_whole cuts after ≡ true
whole_entered cuts before after w g ordered was is =
    ap (are_whole cuts) is ∙ whole_more cuts before (entered w (marked g)) (cuts_inside 0 cuts (length before) ordered) was

-- so many cuts where the history ends
pub whole_many : (cuts more : List ℕ) (es : List Entry) (count end : ℕ) → are_whole cuts es ≡ true → is_grouped es ≡ true → end ≡ length es
    → more ≡ cuts ++ replicate count end → are_whole more es ≡ true
whole_many cuts more es zero end h g is e = ap (λ (cs : List ℕ). are_whole cs es) (e ∙ append-nil cuts) ∙ h
whole_many cuts more es (suc count) end h g is e =
    whole_many (cuts ++ end ∷ []) more es count end (whole_cut cuts es end h g is) g is (e ∙ sym (append_assoc cuts (end ∷ []) (replicate count end)))

-- Pages in order, one more at a time.

use Rattle.std.proofs.Common.{◌≡◌, ℕ, zero, suc, ◌+◌, ◌-◌, ◌<◌, ◌≤◌, ◌==◌, ◌||◌, not, Bool, true, false, if◌then◌else◌, cond}
use Rattle.std.proofs.Common.{Option, Some, List, [], ◌∷◌, length, drop, get_or, drop-cons, refl, sym, ap, ◌∙◌, subst, arith}
use Rattle.std.specs.List.{AllByRecursion}
use Rattle.std.specs.Ordering.{is_eq}
use Rattle.std.specs.Cmp.{tied_itself}
use Rattle.std.proofs.lemmas.Bool.{eq-eqb, true≢false}
use lib.Pointwise.{bytes_decides}
use Rattle.bw_record.specs.Keys.{IsKey}
use Rattle.bw_record.specs.declared.leaf.Leaf.{Leaf}
use Rattle.bw_record.proofs.Order.{tied, order-total}
use Rattle.bw_leaf.specs.Changed.{Bytes, order}
use Rattle.bw_lines.specs.Lawful.{is_same, is_bad_page}
use Rattle.bw_lines.specs.Paging.{Paged, Rise, has_low, first_with, IsIndex, IsShortIf, first_wrong}

-- ---- the index

same_test : (a b : Bool) → (a ≡ true → b ≡ true) → (b ≡ true → a ≡ true) → a ≡ b
same_test true b f g = sym (f refl)
same_test false true f g = g refl
same_test false false f g = refl

-- a low is the key that was put in
eq_low : (low k : Bytes) → is_eq (order low k) ≡ is_same low k
eq_low low k =
    same_test (is_eq (order low k)) (is_same low k) (λ e. (bytes_decides low k).1 (tied low k e))
    (λ e. (let same = (bytes_decides low k).0 e in subst (λ (x : Bytes). is_eq (order low x) ≡ true) same (ap is_eq (tied_itself order-total low))))

cond_if : (t : Bool) (a b : Option ℕ) → cond t a b ≡ (if t then a else b)
cond_if true a b = refl
cond_if false a b = refl

pub low_more : (k low : Bytes) (page : ℕ) (leaf : Leaf) (got : Bytes → Option ℕ) {new : Option ℕ} → new ≡ cond (is_eq (order low k)) (Some page) (got k)
    → low ≡ leaf.low → new ≡ (if has_low k (Some leaf) then Some page else got k)
low_more k low page leaf got is same =
    is ∙ ap (λ (x : Bytes). cond (is_eq (order x k)) (Some page) (got k)) same ∙ ap (λ (t : Bool). cond t (Some page) (got k)) (eq_low leaf.low k)
    ∙ cond_if (is_same leaf.low k) (Some page) (got k)

-- the list from a place on, by its first item
split_at : {A : Type 0} (xs : List A) (n : ℕ) (x : A) → n < length xs → x ≡ get_or xs n x → drop n xs ≡ x ∷ drop (n + 1) xs
split_at {A} xs n x within is =
    let next : suc n ≡ n + 1 = omega arith in
    drop-cons xs n x within ∙ ap (λ (y : A). y ∷ drop (suc n) xs) (sym is) ∙ ap (λ (i : ℕ). x ∷ drop i xs) next

pub index_more : (pages : List Paged) (n : ℕ) (e : Paged) (got new : Bytes → Option ℕ) → 0 < n → n ≤ length pages → e ≡ get_or pages (n - 1) e
    → IsIndex (drop n pages) got
    → ((k : Bytes) → IsKey k → new k ≡ (if has_low k e.1.leaf then Some e.0 else got k)) → IsIndex (drop (n - 1) pages) new
index_more pages n e got new some within is index more k key =
    let at : n - 1 + 1 ≡ n = omega arith in
    let split : drop (n - 1) pages ≡ e ∷ drop n pages = split_at pages (n - 1) e (omega arith) is ∙ ap (λ (i : ℕ). e ∷ drop i pages) at in
    more k key ∙ ap (λ (o : Option ℕ). if has_low k e.1.leaf then Some e.0 else o) (index k key) ∙ sym (ap (λ (l : List Paged). first_with k l) split)

-- ---- pages one after the other

all_drop : {A : Type 0} (P : A → Type 0) (xs : List A) (n : ℕ) (x : A) → n < length xs → x ≡ get_or xs n x → AllByRecursion P xs → P x
all_drop P [] n x within is all = absurd (omega arith)
all_drop P (y ∷ ys) zero x within is all = subst P (sym is) all.0
all_drop P (y ∷ ys) (suc n) x within is all = all_drop P ys n x (omega arith) is all.1

pub short_here : (pages : List Paged) (n : ℕ) (e : Paged) → n < length pages → e ≡ get_or pages n e → AllByRecursion (λ e. IsShortIf e.1.leaf) pages
    → IsShortIf e.1.leaf
short_here pages n e within is all = all_drop (λ e. IsShortIf e.1.leaf) pages n e within is all

pub rise_here : (before : ℕ) (pages : List Paged) (n : ℕ) (e : Paged) → n < length pages → e ≡ get_or pages n e → Rise before (drop n pages)
    → (before < e.0) × Rise e.0 (drop (n + 1) pages)
rise_here before pages n e within is rise = subst (Rise before) (split_at pages n e within is) rise

step_by : (m : ℕ) (set : List Leaf) (before : ℕ) (e : Paged) (es : List Paged) (t b : Bool) → (before + 1 == e.0) ≡ t → is_bad_page m set e.1.leaf ≡ b
    → (t ≡ true → b ≡ true → ⊥) → t ≡ true → first_wrong m set before (e ∷ es) ≡ first_wrong m set e.0 es
step_by m set before e es true true is_t is_b never one = absurd (never refl refl)
step_by m set before e es true false is_t is_b never one = rw (is_t, is_b) refl
step_by m set before e es false b is_t is_b never one = absurd cc

-- a page that is not at fault
pub next_right : (m : ℕ) (set : List Leaf) (before : ℕ) (pages : List Paged) (n : ℕ) (e : Paged) → n < length pages → e ≡ get_or pages n e → before + 1 ≡ e.0
    → is_bad_page m set e.1.leaf ≡ false
    → first_wrong m set e.0 (drop (n + 1) pages) ≡ first_wrong m set before (drop n pages)
next_right m set before pages n e within is number good =
    sym (ap (λ (l : List Paged). first_wrong m set before l) (split_at pages n e within is)
    ∙ step_by m set before e (drop (n + 1) pages) true false (eq-eqb (before + 1) e.0 number) good (λ x y. true≢false (sym y)) refl)

wrong_by : (m : ℕ) (set : List Leaf) (before : ℕ) (e : Paged) (es : List Paged) (t b : Bool) → (before + 1 == e.0) ≡ t → is_bad_page m set e.1.leaf ≡ b
    → (not t || b) ≡ true → first_wrong m set before (e ∷ es) ≡ Some (before + 1)
wrong_by m set before e es true true is_t is_b w = rw (is_t, is_b) refl
wrong_by m set before e es true false is_t is_b w = absurd cc
wrong_by m set before e es false b is_t is_b w = rw is_t refl

-- one that is
pub next_wrong : (m : ℕ) (set : List Leaf) (before : ℕ) (pages : List Paged) (n : ℕ) (e : Paged) → n < length pages → e ≡ get_or pages n e
    → (not (before + 1 == e.0) || is_bad_page m set e.1.leaf) ≡ true
    → first_wrong m set before (drop n pages) ≡ Some (before + 1)
next_wrong m set before pages n e within is wrong =
    ap (λ (l : List Paged). first_wrong m set before l) (split_at pages n e within is)
    ∙ wrong_by m set before e (drop (n + 1) pages) (before + 1 == e.0) (is_bad_page m set e.1.leaf) refl refl wrong

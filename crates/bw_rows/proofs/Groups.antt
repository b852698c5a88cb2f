-- The group of a step does what a step does.

use Rattle.std.proofs.Common.{ℕ, ◌≡◌, Bool, true, false, cond, Option, Some, None, is_some, [], refl, sym, ap, subst, ◌∙◌}
use Rattle.std.proofs.lemmas.Bool.{true≢false}
use Rattle.bw_rows.specs.Spelling.{Bytes, same, name_key, gone_key, stands_key, aside_key, row_key, chunk_key, doomed_key}
use Rattle.bw_rows.specs.Meaning.{Plain}
use Rattle.bw_rows.specs.Law.{head_at, is_doomed, HasValues, Steps, IsWhole}
use Rattle.bw_rows.specs.Steps.{with, after, head_in, row_group, aside_group, step_of, carry_of}
use Rattle.bw_rows.proofs.OneKey.{same_self, same_false}
use Rattle.bw_rows.proofs.Values.{same_number}

abbrev Head : Type 0
Head = Option (Bytes × ℕ)

-- whether a number is that of a head
abbrev is_of : Head → Bytes → Bool
is_of None m = false
is_of (Some head) m = same m head.0

is_of_its : (h : Head) (n : Bytes) (len : ℕ) → h ≡ Some (n, len) → is_of h n ≡ true
is_of_its None n len e = absurd (cc e)
is_of_its (Some head) n len e = ap (same n) (same_number head.0 n head.1 len e) ∙ same_self n

is_of_not : (h : Head) (m : Bytes) → ((len : ℕ) → h ≡ Some (m, len) → ⊥) → is_of h m ≡ false
is_of_not None m other = refl
is_of_not (Some head) m other = same_false m head.0 (λ e. other head.1 (ap (λ (x : Bytes). Some (x, head.1)) (sym e)))

-- whether a number is doomed after a step
abbrev doomed_after : Head → Head → Bytes → Bool → Bool
doomed_after next old m was = cond (is_of old m) true (cond (is_of next m) false was)

marked : (b : Bool) (v x : Option Bytes) → is_some (cond b v x) ≡ cond b (is_some v) (is_some x)
marked true v x = refl
marked false v x = refl

-- the two records on dooms, after a map
dooms_by : (q : Plain) (next old : Head) → Plain
dooms_by q None None = q
dooms_by q (Some h) None = with q (doomed_key h.0) None
dooms_by q None (Some g) = with q (doomed_key g.0) (Some [])
dooms_by q (Some h) (Some g) = with (with q (doomed_key h.0) None) (doomed_key g.0) (Some [])

doomed_by : (q : Plain) (next old : Head) (m : Bytes) → is_doomed (dooms_by q next old) m ≡ doomed_after next old m (is_doomed q m)
unfolding dooms_by
doomed_by q None None m = refl
doomed_by q (Some h) None m = marked (same m h.0) None (q (doomed_key m))
doomed_by q None (Some g) m = marked (same m g.0) (Some []) (q (doomed_key m))
doomed_by q (Some h) (Some g) m =
    marked (same m g.0) (Some []) (cond (same m h.0) None (q (doomed_key m))) ∙ ap (cond (same m g.0) true) (marked (same m h.0) None (q (doomed_key m)))

rows_by : (q : Plain) (next old : Head) (k : Bytes) → dooms_by q next old (row_key k) ≡ q (row_key k)
unfolding dooms_by
rows_by q None None k = refl
rows_by q (Some h) None k = refl
rows_by q None (Some g) k = refl
rows_by q (Some h) (Some g) k = refl

chunks_by : (q : Plain) (next old : Head) (c : Bytes) → dooms_by q next old (chunk_key c) ≡ q (chunk_key c)
unfolding dooms_by
chunks_by q None None c = refl
chunks_by q (Some h) None c = refl
chunks_by q None (Some g) c = refl
chunks_by q (Some h) (Some g) c = refl

-- a map that went on from another by a row and two dooms makes the step
module _ (p q : Plain) (k : Bytes) (row : Option Bytes) (lawful : HasValues p) (whole : IsWhole p row)
    (rows : (x : Bytes) → q (row_key x) ≡ cond (same x k) row (p (row_key x)))
    (chunks : (c : Bytes) → q (chunk_key c) ≡ p (chunk_key c))
    (doomed : (m : Bytes) → is_doomed q m ≡ is_doomed p m) where
  -- what the row names is not what the row before it named
  two_numbers : (n : Bytes) (c d : ℕ) → head_at p k ≡ Some (n, c) → head_in row ≡ Some (n, d) → ⊥
  two_numbers n c d old next = true≢false (sym (whole.doomed n d next) ∙ lawful.kept k n c old)

  abbrev new : Plain
  new = dooms_by q (head_in row) (head_at p k)

  now_doomed : (m : Bytes) → is_doomed new m ≡ doomed_after (head_in row) (head_at p k) m (is_doomed p m)
  now_doomed m = doomed_by q (head_in row) (head_at p k) m ∙ ap (doomed_after (head_in row) (head_at p k) m) (doomed m)

  steps_by : Steps p new k row
  steps_by = record {
    rows = λ x. rows_by q (head_in row) (head_at p k) x ∙ rows x;
    chunks = λ c. chunks_by q (head_in row) (head_at p k) c ∙ chunks c;
    old = λ n len e. now_doomed n ∙ ap (λ b. cond b true (cond (is_of (head_in row) n) false (is_doomed p n))) (is_of_its (head_at p k) n len e);
    next = λ n len e. now_doomed n
        ∙ ap (λ b. cond b true (cond (is_of (head_in row) n) false (is_doomed p n))) (is_of_not (head_at p k) n (λ c old. two_numbers n c len old e))
        ∙ ap (λ b. cond b false (is_doomed p n)) (is_of_its (head_in row) n len e);
    others = λ m not_old not_next. now_doomed m
        ∙ ap (λ b. cond b true (cond (is_of (head_in row) m) false (is_doomed p m))) (is_of_not (head_at p k) m not_old)
        ∙ ap (λ b. cond b false (is_doomed p m)) (is_of_not (head_in row) m not_next);
  }

-- ---- the groups

grouped : (p : Plain) (k : Bytes) (row : Option Bytes) (next old : Head) → after p (row_group k row next old) ≡ dooms_by (with p (row_key k) row) next old
unfolding dooms_by
grouped p k None None None = refl
grouped p k None None (Some g) = refl
grouped p k None (Some h) None = refl
grouped p k None (Some h) (Some g) = refl
grouped p k (Some row) None None = refl
grouped p k (Some row) None (Some g) = refl
grouped p k (Some row) (Some h) None = refl
grouped p k (Some row) (Some h) (Some g) = refl

pub group_steps : (p : Plain) (k : Bytes) (row : Option Bytes) → HasValues p → IsWhole p row → Steps p (after p (step_of k row (head_at p k))) k row
group_steps p k row lawful whole =
    let its : Steps p (dooms_by (with p (row_key k) row) (head_in row) (head_at p k)) k row
    = steps_by p (with p (row_key k) row) k row lawful whole (λ x. refl) (λ c. refl) (λ m. refl) in
    subst (λ (x : Plain). Steps p x k row) (sym (grouped p k row (head_in row) (head_at p k))) its

grouped_aside : (p : Plain) (k : Bytes) (row : Option Bytes) (next old : Head) → after p (aside_group k row next old) ≡ dooms_by (with (with p (row_key k) row) (aside_key k) None) next old
unfolding dooms_by
grouped_aside p k None None None = refl
grouped_aside p k None None (Some g) = refl
grouped_aside p k None (Some h) None = refl
grouped_aside p k None (Some h) (Some g) = refl
grouped_aside p k (Some row) None None = refl
grouped_aside p k (Some row) None (Some g) = refl
grouped_aside p k (Some row) (Some h) None = refl
grouped_aside p k (Some row) (Some h) (Some g) = refl

pub aside_steps : (p : Plain) (k : Bytes) (row : Option Bytes) → HasValues p → IsWhole p row → Steps p (after p (carry_of k row (head_at p k))) k row
aside_steps p k row lawful whole =
    let its : Steps p (dooms_by (with (with p (row_key k) row) (aside_key k) None) (head_in row) (head_at p k)) k row
    = steps_by p (with (with p (row_key k) row) (aside_key k) None) k row lawful whole (λ x. refl) (λ c. refl) (λ m. refl) in
    subst (λ (x : Plain). Steps p x k row) (sym (grouped_aside p k row (head_in row) (head_at p k))) its

-- ---- what the groups leave as it is

abbrev pub Kinds : Plain → Plain → Type 0
Kinds p new = ((name : Bytes) → new (name_key name) ≡ p (name_key name)) × (new stands_key ≡ p stands_key) × ((t : Bytes) → new (gone_key t) ≡ p (gone_key t))

others_by : (q : Plain) (next old : Head) → Kinds q (dooms_by q next old)
unfolding dooms_by
others_by q None None = (λ name. refl, refl, λ t. refl)
others_by q (Some h) None = (λ name. refl, refl, λ t. refl)
others_by q None (Some g) = (λ name. refl, refl, λ t. refl)
others_by q (Some h) (Some g) = (λ name. refl, refl, λ t. refl)

asides_by : (q : Plain) (next old : Head) (k : Bytes) → dooms_by q next old (aside_key k) ≡ q (aside_key k)
unfolding dooms_by
asides_by q None None k = refl
asides_by q (Some h) None k = refl
asides_by q None (Some g) k = refl
asides_by q (Some h) (Some g) k = refl

pub group_others : (p : Plain) (k : Bytes) (row : Option Bytes) (next old : Head) → Kinds p (after p (row_group k row next old))
group_others p k row next old =
    let its : Kinds (with p (row_key k) row) (dooms_by (with p (row_key k) row) next old) = others_by (with p (row_key k) row) next old in
    subst (Kinds p) (sym (grouped p k row next old)) its

pub aside_others : (p : Plain) (k : Bytes) (row : Option Bytes) (next old : Head) → Kinds p (after p (aside_group k row next old))
aside_others p k row next old =
    let q : Plain = with (with p (row_key k) row) (aside_key k) None in
    let its : Kinds q (dooms_by q next old) = others_by q next old in
    subst (Kinds p) (sym (grouped_aside p k row next old)) its

-- the row aside went away, and all others stay
pub aside_asides : (p : Plain) (k : Bytes) (row : Option Bytes) (next old : Head) (x : Bytes)
    → after p (aside_group k row next old) (aside_key x) ≡ cond (same x k) None (p (aside_key x))
aside_asides p k row next old x =
    ap (λ (f : Plain). f (aside_key x)) (grouped_aside p k row next old)
    ∙ asides_by (with (with p (row_key k) row) (aside_key k) None) next old x

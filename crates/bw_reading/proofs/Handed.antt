-- The segments that C hands in: what one more copy adds.
use Rattle.std.proofs.Common.{◌≡◌, ℕ, zero, suc, ◌+◌, ◌-◌, ◌*◌, ◌<◌, ◌≤◌, ◌⊎◌, inr, Bool, true, false, not, cond, nat_lt, Some, None, List, [], ◌∷◌, ◌++◌, map, length, take, drop, max, replicate, get_or, slice_set, refl, sym, ap, subst, ◌∙◌, append_assoc, arith, add-one}
use Rattle.std.proofs.lemmas.List.{append-nil, drop-drop, length-drop, length-take-le, map_push}
use Rattle.std.proofs.Math.Seq.{drop-cons}
use Rattle.std.specs.List.{position, prefix_len}
use Rattle.bw_device.specs.Holding.{Holding}
use Rattle.bw_device.specs.Memory.{fresh_holding}
use Rattle.bw_reading.specs.Handed.{boxes_from, FitSums, AreWhole}
use Rattle.bw_reading.specs.declared.segments.TheConstants.{LEAST}

-- ---- boxes

-- one more box
pub pushed : {X Y Z : Type 0} (v : X → Z) (w : Y → Z) (bs more : List X) (b : X) (xs : List Y) (x : Y) → more ≡ bs ++ b ∷ [] → v b ≡ w x
    → map v bs ≡ map w xs → map v more ≡ map w (xs ++ x ∷ [])
pushed v w bs more b xs x e is so_far =
    ap (map v) e ∙ map_push v bs b ∙ ap (λ (zs : List _). zs ++ v b ∷ []) so_far ∙ ap (λ (z : _). map w xs ++ z ∷ []) is ∙ sym (map_push w xs x)

-- ---- leases

-- a desk of which the first so many leases are out, and the next so many are free
abbrev pub flags : ℕ → ℕ → List Bool
flags zero m = replicate m false
flags (suc i) m = true ∷ flags i m

-- the first that is free
free_at : (i m : ℕ) → prefix_len (λ p. not (not p)) (flags i (suc m)) ≡ i
free_at zero m = refl
free_at (suc i) m = omega (arith, free_at i m)

-- it is out from then on
taken_at : (i m : ℕ) → slice_set (flags i (suc m)) i true ≡ flags (suc i) m
taken_at zero m = refl
taken_at (suc i) m = ap (λ (fs : List Bool). true ∷ fs) (taken_at i m)

-- the place of the first that passes a test is how many stand before it
first_place : {X : Type 0} (p : X → Bool) (xs : List X) (n : ℕ) → position p xs ≡ Some n → prefix_len (λ x. not (p x)) xs ≡ n
first_place p xs n e =
    elim (nat_lt (prefix_len (λ x. not (p x)) xs) (length xs)) as (λ b. cond b (Some (prefix_len (λ x. not (p x)) xs)) None ≡ Some n
    → prefix_len (λ x. not (p x)) xs ≡ n) [
      | true ↦ λ found. cc
      | false ↦ λ found. absurd (cc)
    ] e

-- a desk of which so many leases were taken gives out the next
pub taken : (desk new : List Bool) (n i count : ℕ) → i < count → desk ≡ flags i (count - i) → position not desk ≡ Some n → new ≡ slice_set desk n true
    → (n ≡ i) × (new ≡ flags (i + 1) (count - (i + 1)))
taken desk new n i count below is first more =
    let left : count - i ≡ suc (count - (i + 1)) = omega arith in
    let are : desk ≡ flags i (suc (count - (i + 1))) = is ∙ ap (flags i) left in
    let same : n ≡ i = sym (first_place not desk n first) ∙ ap (prefix_len (λ p. not (not p))) are ∙ free_at i (count - (i + 1)) in (
      same,
      more ∙ ap (λ (k : ℕ). slice_set desk k true) same ∙ ap (λ (fs : List Bool). slice_set fs i true) are ∙ taken_at i (count - (i + 1))
          ∙ ap (λ (k : ℕ). flags k (count - (i + 1))) (sym (add-one i)),
    )

-- a desk that was made has no more leases than one may have
pub few : (n most : ℕ) → ((n ≡ 0) ⊎ (most < n) → ⊥) → n ≤ most
few n most not = let h : most < n → ⊥ = λ l. not (inr l) in omega arith

-- ---- lengths

-- the next two lengths
two_there : (parts : List ℕ) (i : ℕ) → 2 * i + 1 < length parts
    → drop (2 * i) parts ≡ get_or parts (2 * i) 0 ∷ get_or parts (2 * i + 1) 0 ∷ drop (2 * (i + 1)) parts
two_there parts i there =
    let one : suc (2 * i) ≡ 2 * i + 1 = omega arith in
    let two : suc (2 * i + 1) ≡ 2 * (i + 1) = omega arith in
    drop-cons parts (2 * i) 0 (omega arith)
    ∙ ap (λ (k : ℕ). get_or parts (2 * i) 0 ∷ drop k parts) one
    ∙ ap (λ (ks : List ℕ). get_or parts (2 * i) 0 ∷ ks) (drop-cons parts (2 * i + 1) 0 there)
    ∙ ap (λ (k : ℕ). get_or parts (2 * i) 0 ∷ get_or parts (2 * i + 1) 0 ∷ drop k parts) two

-- a copy of a piece
pub held : (h : Holding) (its bytes : List ℕ) (i at len : ℕ) → at + len ≤ length bytes → its ≡ take len (drop at bytes) → h.lease ≡ i
    → h ≡ fresh_holding h.lease (max LEAST (length its)) its → h ≡ fresh_holding i (max LEAST len) (take len (drop at bytes))
held h its bytes i at len within is number made =
    let long : length its ≡ len = ap length is ∙ length-take-le len (drop at bytes) (omega (arith, length-drop at bytes)) in
    made
    ∙ ap (λ (n : ℕ). fresh_holding n (max LEAST (length its)) its) number
    ∙ ap (λ (n : ℕ). fresh_holding i (max LEAST n) its) long
    ∙ ap (λ (bs : List ℕ). fresh_holding i (max LEAST len) bs) is

-- one more copy
pub copied : (hs all : List Holding) (h : Holding) (bytes parts : List ℕ) (i at end len : ℕ) → 2 * i + 1 < length parts → len ≡ get_or parts (2 * i) 0
    → end ≡ at + len → h ≡ fresh_holding i (max LEAST len) (take len (drop at bytes))
    → hs ++ boxes_from i (drop at bytes) (drop (2 * i) parts) ≡ all
    → (hs ++ h ∷ []) ++ boxes_from (i + 1) (drop end bytes) (drop (2 * (i + 1)) parts) ≡ all
copied hs all h bytes parts i at end len there is goes holds so_far =
    let rest = drop (2 * (i + 1)) parts in
    let behind : drop end bytes ≡ drop len (drop at bytes) = ap (λ (k : ℕ). drop k bytes) goes ∙ sym (drop-drop len at bytes) in
    let next : boxes_from i (drop at bytes) (drop (2 * i) parts) ≡ h ∷ boxes_from (i + 1) (drop end bytes) rest =
    ap (λ (ks : List ℕ). boxes_from i (drop at bytes) ks) (two_there parts i there)
    ∙ ap (λ (k : ℕ). fresh_holding i (max LEAST k) (take k (drop at bytes)) ∷ boxes_from (i + 1) (drop k (drop at bytes)) rest) (sym is)
    ∙ ap (λ (bs : List ℕ). fresh_holding i (max LEAST len) (take len (drop at bytes)) ∷ boxes_from (i + 1) bs rest) (sym behind)
    ∙ ap (λ (k : Holding). k ∷ boxes_from (i + 1) (drop end bytes) rest) (sym holds) in
    append_assoc hs (h ∷ []) (boxes_from (i + 1) (drop end bytes) rest) ∙ ap (λ (ks : List Holding). hs ++ ks) (sym next) ∙ so_far

-- fewer than two lengths are of no segment
no_more : (n : ℕ) (bytes parts : List ℕ) → length parts ≤ 1 → boxes_from n bytes parts ≡ []
no_more n bytes [] few = refl
no_more n bytes (len ∷ []) few = refl
no_more n bytes (len ∷ sums ∷ parts) few = absurd (omega (arith, few))

-- after all of them
pub all_copied : (hs all : List Holding) (bytes parts : List ℕ) (i at : ℕ) → length parts ≤ 2 * i + 1
    → hs ++ boxes_from i (drop at bytes) (drop (2 * i) parts) ≡ all → hs ≡ all
all_copied hs all bytes parts i at done so_far =
    let few : length (drop (2 * i) parts) ≤ 1 = omega (arith, length-drop (2 * i) parts) in
    sym (append-nil hs) ∙ ap (λ (ks : List Holding). hs ++ ks) (sym (no_more i (drop at bytes) (drop (2 * i) parts) few)) ∙ so_far

-- ---- what is whole

-- where the rest is whole, one more is
pub one_whole : (bytes sums parts : List ℕ) (i at end len sums_at sums_end sums_len : ℕ) → 2 * i + 1 < length parts
    → len ≡ get_or parts (2 * i) 0 → sums_len ≡ get_or parts (2 * i + 1) 0 → end ≡ at + len → sums_end ≡ sums_at + sums_len
    → at + len ≤ length bytes → sums_at + sums_len ≤ length sums → FitSums (take len (drop at bytes)) (take sums_len (drop sums_at sums))
    → (AreWhole (drop at bytes) (drop sums_at sums) (drop (2 * i) parts) → AreWhole bytes sums parts)
    → AreWhole (drop end bytes) (drop sums_end sums) (drop (2 * (i + 1)) parts) → AreWhole bytes sums parts
one_whole bytes sums parts i at end len sums_at sums_end sums_len there is its goes sums_goes within sums_within fits so_far rest =
    let ps : List ℕ = drop (2 * (i + 1)) parts in
    let two : drop (2 * i) parts ≡ len ∷ sums_len ∷ ps =
    two_there parts i there ∙ ap (λ (k : ℕ). k ∷ get_or parts (2 * i + 1) 0 ∷ ps) (sym is) ∙ ap (λ (k : ℕ). len ∷ k ∷ ps) (sym its) in
    let behind : drop end bytes ≡ drop len (drop at bytes) = ap (λ (k : ℕ). drop k bytes) goes ∙ sym (drop-drop len at bytes) in
    let sums_behind : drop sums_end sums ≡ drop sums_len (drop sums_at sums) =
    ap (λ (k : ℕ). drop k sums) sums_goes ∙ sym (drop-drop sums_len sums_at sums) in
    let later : AreWhole (drop len (drop at bytes)) (drop sums_len (drop sums_at sums)) ps =
    subst (λ (bs : List ℕ). AreWhole bs (drop sums_len (drop sums_at sums)) ps) behind
    (subst (λ (ss : List ℕ). AreWhole (drop end bytes) ss ps) sums_behind rest) in
    so_far (subst (λ (ks : List ℕ). AreWhole (drop at bytes) (drop sums_at sums) ks) (sym two)
    (omega (arith, length-drop at bytes), omega (arith, length-drop sums_at sums), fits, later))

few_whole : (bytes sums parts : List ℕ) → length parts ≤ 1 → AreWhole bytes sums parts
few_whole bytes sums [] few = tt
few_whole bytes sums (len ∷ []) few = tt
few_whole bytes sums (len ∷ sums_len ∷ parts) few = absurd (omega (arith, few))

pub all_whole : (bytes sums parts : List ℕ) (i at sums_at : ℕ) → length parts ≤ 2 * i + 1
    → (AreWhole (drop at bytes) (drop sums_at sums) (drop (2 * i) parts) → AreWhole bytes sums parts) → AreWhole bytes sums parts
all_whole bytes sums parts i at sums_at done so_far =
    so_far (few_whole (drop at bytes) (drop sums_at sums) (drop (2 * i) parts) (omega (arith, length-drop (2 * i) parts)))

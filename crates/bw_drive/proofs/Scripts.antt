-- Scripts of groups, counted in records.

use Rattle.std.proofs.Common.{ℕ, suc, ◌+◌, ◌<◌, ◌≤◌, ◌≡◌, List, [], ◌∷◌, ◌++◌, length, take, drop, get_or, add-one, ap, sym, ◌∙◌, refl, arith}
use Rattle.std.proofs.Common.{length-append, append_assoc}
use Rattle.std.proofs.Math.Seq.{take-append_seam, take-suc}
use Rattle.std.proofs.lemmas.List.{take-append-drop, flat_map_more}
use Rattle.std.proofs.lemmas.Grind.{flat_map-append}
use Rattle.bw_record.specs.declared.record.Record.{Record}
use Rattle.bw_ring.specs.Marks.{Marked, marked, joined}

-- a mark for each record
pub length-marked : (g : List Record) → length (marked g) ≡ length g
length-marked [] = refl
length-marked (r ∷ []) = refl
length-marked (r ∷ s ∷ rs) = ap (λ n. suc n) (length-marked (s ∷ rs))

parted : (gs : List (List Record)) (i : ℕ) → joined gs ≡ joined (take i gs) ++ joined (drop i gs)
parted gs i = sym (ap joined (take-append-drop i gs)) ∙ flat_map-append marked (take i gs) (drop i gs)

-- the records of the first groups are the first records of all
pub first_records : (gs : List (List Record)) (i : ℕ) → take (length (joined (take i gs))) (joined gs) ≡ joined (take i gs)
first_records gs i =
    ap (λ (ms : List Marked). take (length (joined (take i gs))) ms) (parted gs i)
    ∙ take-append_seam (joined (take i gs)) (joined (drop i gs))

pub few_records : (gs : List (List Record)) (i : ℕ) → length (joined (take i gs)) ≤ length (joined gs)
few_records gs i =
    let whole = ap length (parted gs i) in
    let both = length-append (joined (take i gs)) (joined (drop i gs)) in
    omega arith

-- ---- one group more

next_groups : (gs : List (List Record)) (i : ℕ) (g : List Record) → i < length gs → g ≡ get_or gs i g
    → joined (take (i + 1) gs) ≡ joined (take i gs) ++ marked g
next_groups gs i g inside is =
    ap joined (ap (λ n. take n gs) (add-one i) ∙ take-suc gs i g inside ∙ ap (λ x. take i gs ++ x ∷ []) (sym is))
    ∙ sym (flat_map_more marked [] (take i gs) g)

-- what was accepted is followed by the marks of one group more
pub group_put : (old now new : List Marked) (gs : List (List Record)) (i done : ℕ) (g : List Record) → i < length gs → g ≡ get_or gs i g
    → now ≡ old ++ take done (joined gs) → done ≡ length (joined (take i gs)) → new ≡ now ++ marked g
    → (new ≡ old ++ take (done + length g) (joined gs)) × (done + length g ≡ length (joined (take (i + 1) gs)))
    × (done + length g ≤ length (joined gs))
group_put old now new gs i done g inside is had count put =
    let more : joined (take (i + 1) gs) ≡ joined (take i gs) ++ marked g = next_groups gs i g inside is in
    let both = ap length more in
    let parts = length-append (joined (take i gs)) (marked g) in
    let marks = length-marked g in
    let sum : done + length g ≡ length (joined (take (i + 1) gs)) = omega arith in
    let few = few_records gs (i + 1) in
    let before : take done (joined gs) ≡ joined (take i gs) = ap (λ n. take n (joined gs)) count ∙ first_records gs i in
    let after : take (done + length g) (joined gs) ≡ joined (take i gs) ++ marked g =
    ap (λ n. take n (joined gs)) sum ∙ first_records gs (i + 1) ∙ more in (
      put ∙ ap (λ x. x ++ marked g) (had ∙ ap (λ x. old ++ x) before) ∙ append_assoc old (joined (take i gs)) (marked g)
          ∙ ap (λ x. old ++ x) (sym after),
      sum,
      omega arith,
    )

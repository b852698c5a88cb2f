-- Boxes parted.

use Rattle.std.proofs.Common.{◌≡◌, ℕ, zero, suc, ◌+◌, ◌<◌, nat_lt, Bool, true, false, if◌then◌else◌, List, [], ◌∷◌, length, drop, map, insert}
use Rattle.std.proofs.Common.{get_or, refl, sym, ap, ◌∙◌, arith}
use Rattle.std.proofs.lemmas.List.{at_drop_more}
use Rattle.bw_care.specs.Recovery.{placed_by}
use Rattle.bw_device.specs.Holding.{Holding}
use Rattle.bw_care.specs.Parting.{Numbered, number_of, Parted, parted_by, parted, place_among}
use Rattle.bw_care.specs.declared.boxes.Kind.{Kind}
use Rattle.bw_care.specs.declared.boxes.Kind.TheVariants.{Live}

-- one more number is not greater
pub among_more : {X : Type 0} (v : X → ℕ) (n : ℕ) (xs : List X) (i : ℕ) (x : X) → i < length xs → x ≡ get_or xs i x → nat_lt n (v x) ≡ false
    → place_among n (map v (drop i xs)) ≡ 1 + place_among n (map v (drop (i + 1) xs))
among_more {X} v n xs i x inside is not_less =
    ap (λ (l : List X). place_among n (map v l)) (at_drop_more (λ (l : List X). l) xs i x inside ∙ ap (λ (y : X). y ∷ drop (i + 1) xs) (sym is))
    ∙ ap (λ (t : Bool). if t then 0 else place_among n (map v (drop (i + 1) xs)) + 1) not_less ∙ (omega arith)

pub among_here : {X : Type 0} (v : X → ℕ) (n : ℕ) (xs : List X) (i : ℕ) (x : X) → i < length xs → x ≡ get_or xs i x → nat_lt n (v x) ≡ true
    → place_among n (map v (drop i xs)) ≡ 0
among_here {X} v n xs i x inside is less =
    ap (λ (l : List X). place_among n (map v l)) (at_drop_more (λ (l : List X). l) xs i x inside ∙ ap (λ (y : X). y ∷ drop (i + 1) xs) (sym is))
    ∙ ap (λ (t : Bool). if t then 0 else place_among n (map v (drop (i + 1) xs)) + 1) less

-- to be placed is to be inserted there
placed_by_test : {A : Type 0} (number : A → ℕ) (x y : A) (ys : List A) (t : Bool) → placed_by number x ys ≡ insert ys (place_among (number x) (map number ys)) x
    → (if t then x ∷ y ∷ ys else y ∷ placed_by number x ys) ≡ insert (y ∷ ys) (if t then 0 else place_among (number x) (map number ys) + 1) x
placed_by_test number x y ys true more = refl
placed_by_test {A} number x y ys false more =
    let one : suc (place_among (number x) (map number ys)) ≡ place_among (number x) (map number ys) + 1 = omega arith in
    ap (λ (l : List A). y ∷ l) more ∙ ap (λ (n : ℕ). insert (y ∷ ys) n x) one

pub placed_is : {A : Type 0} (number : A → ℕ) (x : A) (ys : List A) → placed_by number x ys ≡ insert ys (place_among (number x) (map number ys)) x
placed_is number x [] = refl
placed_is number x (y ∷ ys) = placed_by_test number x y ys (nat_lt (number x) (number y)) (placed_is number x ys)

pub map_insert : {A B : Type 0} (g : A → B) (xs : List A) (i : ℕ) (x : A) → map g (insert xs i x) ≡ insert (map g xs) i (g x)
map_insert g xs zero x = refl
map_insert g [] (suc i) x = refl
map_insert {A} {B} g (y ∷ ys) (suc i) x = ap (λ (l : List B). g y ∷ l) (map_insert g ys i x)

map_both : {X : Type 0} (v : X → Numbered) (w : X → ℕ) → ((x : X) → number_of (v x) ≡ w x) → (xs : List X) → map number_of (map v xs) ≡ map w xs
map_both v w same [] = refl
map_both v w same (x ∷ xs) = λ i. same x i ∷ map_both v w same xs i

-- a segment is put into its place
pub put_there : {X : Type 0} (v : X → Numbered) (w : X → ℕ) (xs ys : List X) (x : X) (number at : ℕ) (h : Holding) (kind : Kind) (live : List X)
    (spares : List Holding) → ((y : X) → number_of (v y) ≡ w y) → ys ≡ insert xs at x → live ≡ xs → at ≡ place_among number (map w live)
    → v x ≡ (number, h) → kind ≡ Live number → ◌≡◌ {A = Parted} (map v ys, spares) (parted_by h kind (map v xs, spares))
put_there {X} v w xs ys x number at h kind live spares same put slice is seen kind_is =
    let place : at ≡ place_among number (map number_of (map v xs)) =
    is ∙ ap (λ (l : List X). place_among number (map w l)) slice ∙ ap (place_among number) (sym (map_both v w same xs)) in
    let all : map v ys ≡ placed_by number_of (number, h) (map v xs) =
    ap (map v) put ∙ map_insert v xs at x ∙ ap (λ (p : Numbered). insert (map v xs) at p) seen ∙ ap (λ (n : ℕ). insert (map v xs) n (number, h)) place
    ∙ sym (placed_is number_of (number, h) (map v xs)) in
    ap (λ (l : List Numbered). (l, spares)) all ∙ ap (λ (k : Kind). parted_by h k (map v xs, spares)) (sym kind_is)

-- ---- the pass

pub parted_step : (h : Holding) (hs : List Holding) (ks : List Kind) (k : Kind) (i : ℕ) (p : Parted) → i < length ks → k ≡ get_or ks i k
    → parted (h ∷ hs) (drop i ks) p ≡ parted hs (drop (i + 1) ks) (parted_by h k p)
parted_step h hs ks k i p inside is = ap (λ (l : List Kind). parted (h ∷ hs) l p)
    (at_drop_more (λ (l : List Kind). l) ks i k inside ∙ ap (λ (x : Kind). x ∷ drop (i + 1) ks) (sym is))

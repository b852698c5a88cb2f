-- Rooms and numbers of boxes that were parted.

use Rattle.std.proofs.Common.{◌≡◌, ℕ, suc, ◌+◌, ◌≤◌, nat_lt, Bool, true, false, if◌then◌else◌, List, [], ◌∷◌, length, refl, sym, ap, ◌∙◌}
use Rattle.std.proofs.Common.{subst, arith}
use Rattle.std.specs.List.{fold, list_any, AllByRecursion}
use Rattle.std.proofs.lemmas.Bool.{or_parts, ltb-false}
use Rattle.bw_device.specs.Holding.{Holding}
use Rattle.bw_record.specs.declared.leaf.Leaf.{Leaf}
use Rattle.bw_log.specs.Adopting.{adopted}
use Rattle.bw_log.specs.declared.places.Tables.{Tables}
use Rattle.bw_care.proofs.ScannedLog.{IsScanned, scanned_image}
use Rattle.bw_log.specs.Contents.{image, IsSound, IsBounded, IsRoomy, IsSpare}
use Rattle.bw_care.specs.Scanning.{has_header, is_bare}
use Rattle.bw_care.specs.Recovery.{placed_by, segments_in, live_in, spares_in, too_large, is_small, limit_in}
use Rattle.bw_log.proofs.Entries.{all_mapped, all_filtered}
use Rattle.bw_care.proofs.SortedOut.{not_bare, number_at}

any_none : {X : Type 0} (test : X → Bool) (xs : List X) → list_any test xs ≡ false → AllByRecursion (λ x. test x ≡ false) xs
any_none test [] e = tt
any_none test (x ∷ xs) e = let two = or_parts (test x) (list_any test xs) e in (two.0, any_none test xs two.1)

placed_test : {X : Type 0} (number : X → ℕ) (P : X → Type 0) (x y : X) (ys : List X) (t : Bool) → P x → P y → AllByRecursion P ys
    → AllByRecursion P (placed_by number x ys) → AllByRecursion P (if t then x ∷ y ∷ ys else y ∷ placed_by number x ys)
placed_test number P x y ys true a b all more = (a, (b, all))
placed_test number P x y ys false a b all more = (b, more)

placed_all : {X : Type 0} (number : X → ℕ) (P : X → Type 0) (x : X) (ys : List X) → P x → AllByRecursion P ys → AllByRecursion P (placed_by number x ys)
placed_all number P x [] a all = (a, tt)
placed_all number P x (y ∷ ys) a all = placed_test number P x y ys (nat_lt (number x) (number y)) a all.0 all.1 (placed_all number P x ys a all.1)

pub fold_all : {X : Type 0} (number : X → ℕ) (P : X → Type 0) (acc xs : List X) → AllByRecursion P acc → AllByRecursion P xs
    → AllByRecursion P (fold (λ l x. placed_by number x l) acc xs)
fold_all number P acc [] sofar all = sofar
fold_all number P acc (x ∷ xs) sofar all = fold_all number P (placed_by number x acc) xs (placed_all number P x acc all.0 sofar) all.1

pub live_all : (P : Holding → Type 0) (hs : List Holding) → AllByRecursion P hs → AllByRecursion P (live_in hs)
live_all P hs all = fold_all number_at P [] (segments_in hs) tt (all_filtered P (λ h. has_header h.bytes) hs all)

-- ---- how many

placed_count_by : {X : Type 0} (number : X → ℕ) (x y : X) (ys : List X) (t : Bool) → length (placed_by number x ys) ≡ suc (length ys)
    → length (if t then x ∷ y ∷ ys else y ∷ placed_by number x ys) ≡ suc (suc (length ys))
placed_count_by number x y ys true more = refl
placed_count_by number x y ys false more = ap suc more

placed_count : {X : Type 0} (number : X → ℕ) (x : X) (ys : List X) → length (placed_by number x ys) ≡ suc (length ys)
placed_count number x [] = refl
placed_count number x (y ∷ ys) = placed_count_by number x y ys (nat_lt (number x) (number y)) (placed_count number x ys)

pub fold_count : {X : Type 0} (number : X → ℕ) (acc xs : List X) → length (fold (λ l x. placed_by number x l) acc xs) ≡ length acc + length xs
fold_count number acc [] = omega arith
fold_count number acc (x ∷ xs) =
    (let more = fold_count number (placed_by number x acc) xs in let one = placed_count number x acc in omega arith)

pub live_count : (hs : List Holding) → length (live_in hs) ≡ length (segments_in hs)
live_count hs = (let none : 0 + length (segments_in hs) ≡ length (segments_in hs) = omega arith in fold_count number_at [] (segments_in hs) ∙ none)

apart_by : (h : Holding) (xs ys : List Holding) (t u : Bool) (n : ℕ) → (t ≡ true → u ≡ false) → length xs + length ys ≤ n
    → length (if t then h ∷ xs else xs) + length (if u then h ∷ ys else ys) ≤ suc n
apart_by h xs ys true true n apart few = (let e = apart refl in absurd cc)
apart_by h xs ys true false n apart few = omega arith
apart_by h xs ys false true n apart few = omega arith
apart_by h xs ys false false n apart few = omega arith

both_count : (hs : List Holding) → length (segments_in hs) + length (spares_in hs) ≤ length hs
both_count [] = omega arith
both_count (h ∷ hs) = apart_by h (segments_in hs) (spares_in hs) (has_header h.bytes) (is_bare h.bytes) (length hs)
    (λ e. not_bare h.bytes (has_header h.bytes) refl e) (both_count hs)

-- boxes that were parted are no more than there were
pub few_boxes : (hs : List Holding) → length (live_in hs) + length (spares_in hs) ≤ length hs
few_boxes hs = (let live = live_count hs in let both = both_count hs in omega arith)

pub few_live : (hs : List Holding) → length (live_in hs) ≤ length hs
few_live hs = (let both = few_boxes hs in omega arith)

-- ---- rooms

pub all_bounded : (hs : List Holding) → too_large hs ≡ false → AllByRecursion IsBounded hs
all_bounded hs e =
    all_mapped (λ (h : Holding). nat_lt 1073741824 h.room ≡ false) IsBounded hs (λ h off. ltb-false 1073741824 h.room off)
    (any_none (λ (h : Holding). nat_lt 1073741824 h.room) hs (or_parts (nat_lt 4096 (length hs)) (list_any (λ h. nat_lt 1073741824 h.room) hs) e).1)

pub count_sized : (hs : List Holding) → too_large hs ≡ false → length hs ≤ 4096
count_sized hs e = ltb-false 4096 (length hs) (or_parts (nat_lt 4096 (length hs)) (list_any (λ h. nat_lt 1073741824 h.room) hs) e).0

pub live_bounded : (hs : List Holding) → too_large hs ≡ false → AllByRecursion IsBounded (live_in hs)
live_bounded hs e = live_all IsBounded hs (all_bounded hs e)

all_two : {X : Type 0} (P Q R : X → Type 0) (xs : List X) → ((x : X) → P x → Q x → R x) → AllByRecursion P xs → AllByRecursion Q xs → AllByRecursion R xs
all_two P Q R [] f ps qs = tt
all_two P Q R (x ∷ xs) f ps qs = (f x ps.0 qs.0, all_two P Q R xs f ps.1 qs.1)

pub spares_roomy : (hs : List Holding) → too_large hs ≡ false → is_small hs ≡ false → AllByRecursion (IsRoomy (limit_in hs)) (spares_in hs)
spares_roomy hs large small =
    all_two (λ (h : Holding). nat_lt h.room (24 + limit_in hs) ≡ false) IsBounded (IsRoomy (limit_in hs)) (spares_in hs)
    (λ h off sized. (ltb-false h.room (24 + limit_in hs) off, sized))
    (any_none (λ (h : Holding). nat_lt h.room (24 + limit_in hs)) (spares_in hs) small)
    (all_filtered IsBounded (λ h. is_bare h.bytes) hs (all_bounded hs large))

bare_empty : (bytes : List ℕ) → is_bare bytes ≡ true → bytes ≡ []
bare_empty [] e = refl
bare_empty (b ∷ bs) e = absurd cc

bare_by : (h : Holding) (xs : List Holding) (t : Bool) → is_bare h.bytes ≡ t → AllByRecursion (λ x. x.bytes ≡ []) xs
    → AllByRecursion (λ x. x.bytes ≡ []) (if t then h ∷ xs else xs)
bare_by h xs true e all = (bare_empty h.bytes e, all)
bare_by h xs false e all = all

pub spares_empty : (hs : List Holding) → AllByRecursion (λ x. x.bytes ≡ []) (spares_in hs)
spares_empty [] = tt
spares_empty (h ∷ hs) = bare_by h (spares_in hs) (is_bare h.bytes) refl (spares_empty hs)

pub are_spares : (f : ℕ) (hs : List Holding) → AllByRecursion (IsRoomy f) (spares_in hs) → AllByRecursion (IsSpare f) (spares_in hs)
are_spares f hs wide = all_two (λ (x : Holding). x.bytes ≡ []) (IsRoomy f) (IsSpare f) (spares_in hs) (λ x e r. (e, r)) (spares_empty hs) wide

-- ---- the log is sound

pub sound_is : (hs : List Holding) (t : Tables) (leaves : List Leaf) → too_large hs ≡ false → is_small hs ≡ false → t.f ≡ limit_in hs
    → IsScanned (image (adopted (live_in hs) (spares_in hs) t)) leaves
    → IsSound (adopted (live_in hs) (spares_in hs) t)
sound_is hs t leaves large small same s =
    let wide : AllByRecursion (IsRoomy t.f) (spares_in hs) =
    subst (λ (f : ℕ). AllByRecursion (IsRoomy f) (spares_in hs)) (sym same) (spares_roomy hs large small) in
    let number = few_boxes hs in
    let count = count_sized hs large in
    record {
      few = omega arith;
      bounds = live_bounded hs large;
      rooms = wide;
      empty = λ works. are_spares t.f hs wide;
      torn = λ failed. absurd cc;
      holds = scanned_image (image (adopted (live_in hs) (spares_in hs) t)) leaves s;
    }

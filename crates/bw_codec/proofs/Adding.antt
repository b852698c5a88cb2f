-- Bytes added one after the other, and a list spelled one more of its elements.

use Rattle.std.proofs.Common.{◌≡◌, ℕ, ◌+◌, ◌<◌, ◌≤◌, List, [], ◌∷◌, ◌++◌, length, take, drop, get_or, sym, ap, subst, ◌∙◌, append_assoc, append-nil, arith}
use Rattle.std.proofs.Common.{length-append}
use Rattle.std.proofs.lemmas.List.{take_more, take_all, take-append-drop, flat_map_more}
use Rattle.std.proofs.lemmas.Grind.{flat_map-append}
use Rattle.std.specs.List.{flat_map}
use Rattle.std.specs.Prelude.{if◌then◌else◌, Result, Ok, Err, OnOk, is_ok}
use Rattle.std.specs.declared.alloc.AllocError.{AllocError}
use Rattle.std.specs.declared.vec.Vec.{Vec}
use Rattle.std.specs.declared.alloc.Global.{Global}
use Rattle.bw_codec.specs.Writing.{HasRoom, Adds}

pub adds_nothing : (v : Vec ℕ Global) → Adds v v []
adds_nothing v = record { items = sym (append-nil v.items); len = omega arith; capacity = omega arith }

pub adds_then : (a b c : Vec ℕ Global) (x y : List ℕ) → Adds a b x → Adds b c y → Adds a c (x ++ y)
adds_then a b c x y first next = record {
  items = next.items ∙ ap (λ (l : List ℕ). l ++ y) first.items ∙ append_assoc a.items x y;
  len = (let p = first.len in let q = next.len in omega (arith, length-append x y));
  capacity = (let p = first.capacity in let q = next.capacity in omega arith);
}

pub adds_as : (a b : Vec ℕ Global) (x y : List ℕ) → x ≡ y → Adds a b x → Adds a b y
adds_as a b x y same adds = subst (Adds a b) same adds

pub room_first : (v : Vec ℕ Global) (x y : List ℕ) → HasRoom v (length (x ++ y)) → HasRoom v (length x)
room_first v x y room = omega (arith, length-append x y)

pub room_after : (a b : Vec ℕ Global) (x y : List ℕ) → HasRoom a (length (x ++ y)) → Adds a b x → HasRoom b (length y)
room_after a b x y room adds = let p = adds.len in let q = adds.capacity in omega (arith, length-append x y)

-- one more element
pub taken_more : {X : Type 0} (f : X → List ℕ) (xs : List X) (i : ℕ) (x : X) → i < length xs → x ≡ get_or xs i x
    → flat_map f (take (i + 1) xs) ≡ flat_map f (take i xs) ++ f x
taken_more {X} f xs i x inside is =
    ap (flat_map f) (take_more xs i x inside ∙ ap (λ (y : X). take i xs ++ y ∷ []) (sym is)) ∙ sym (flat_map_more f [] (take i xs) x)

-- what is taken is not longer than all
pub taken_within : {X : Type 0} (f : X → List ℕ) (xs : List X) (i : ℕ) (x : X) → i < length xs → x ≡ get_or xs i x
    → length (flat_map f (take i xs)) + length (f x) ≤ length (flat_map f xs)
taken_within {X} f xs i x inside is =
    let all : flat_map f (take (i + 1) xs) ++ flat_map f (drop (i + 1) xs) ≡ flat_map f xs =
    sym (flat_map-append f (take (i + 1) xs) (drop (i + 1) xs)) ∙ ap (flat_map f) (take-append-drop (i + 1) xs) in
    let more = taken_more f xs i x inside is in
    omega (
      arith,
      ap (λ (l : List ℕ). length l) all,
      ap (λ (l : List ℕ). length l) more,
      length-append (flat_map f (take (i + 1) xs)) (flat_map f (drop (i + 1) xs)),
      length-append (flat_map f (take i xs)) (f x),
    )

-- room for all is room for the next one, once those before it are written
pub room_for_next : {X : Type 0} (f : X → List ℕ) (a b : Vec ℕ Global) (xs : List X) (i : ℕ) (x : X) → i < length xs → x ≡ get_or xs i x
    → HasRoom a (length (flat_map f xs)) → Adds a b (flat_map f (take i xs)) → HasRoom b (length (f x))
room_for_next f a b xs i x inside is room adds =
    let p = adds.len in let q = adds.capacity in omega (arith, taken_within f xs i x inside is)

-- the next one is written
pub adds_next : {X : Type 0} (f : X → List ℕ) (a b c : Vec ℕ Global) (xs : List X) (i : ℕ) (x : X) → i < length xs → x ≡ get_or xs i x
    → Adds a b (flat_map f (take i xs)) → Adds b c (f x) → Adds a c (flat_map f (take (i + 1) xs))
adds_next f a b c xs i x inside is first next =
    adds_as a c (flat_map f (take i xs) ++ f x) (flat_map f (take (i + 1) xs)) (sym (taken_more f xs i x inside is))
    (adds_then a b c (flat_map f (take i xs)) (f x) first next)

-- all are written
pub adds_all : {X : Type 0} (f : X → List ℕ) (a b : Vec ℕ Global) (xs : List X) (i : ℕ) → length xs ≤ i → Adds a b (flat_map f (take i xs))
    → Adds a b (flat_map f xs)
adds_all f a b xs i end adds = adds_as a b (flat_map f (take i xs)) (flat_map f xs) (ap (flat_map f) (take_all i xs end)) adds

-- what a growth that may be refused leaves where it was not
pub grown : (r : Result (Unit {0}) AllocError) (items more old : List ℕ) → items ≡ (if is_ok r then more else old) → OnOk r (items ≡ more)
grown (Ok done) items more old is = is
grown (Err refused) items more old is = tt

-- The records of each writer, where a group is entered.

use Rattle.std.proofs.Common.{◌≡◌, ◌≢◌, ℕ, zero, suc, ◌+◌, ◌<◌, ◌≤◌, Bool, true, false}
use Rattle.std.proofs.Common.{List, [], ◌∷◌, ◌++◌, map, length, length-append, set, get_or, take, drop, refl}
use Rattle.std.proofs.Common.{sym, ap, ◌∙◌, subst, arith, append-nil, replicate, if◌then◌else◌}
use Rattle.std.specs.Prelude.{◌==◌, ◌&&◌, nat_le}
use Rattle.std.specs.List.{slice_get, AllByRecursion as All}
use Rattle.std.specs.Option.{IsSomeAnd}
use Rattle.std.proofs.lemmas.Bool.{eq-eqb, eqb-true, ne_eqb, leb-true, leb-false}
use Rattle.std.proofs.lemmas.List.{length-map, length-replicate, length-take, take_more, take-append-drop}
use Rattle.bw_record.specs.declared.record.Record.{Record}
use Rattle.bw_history.specs.declared.entry.Entry.{Entry}
use Rattle.bw_ring.specs.declared.lane.Lane.{Lane}
use Rattle.bw_ring.specs.declared.feed.Feed.{Feed}
use Rattle.bw_ring.specs.Marks.{Marked, marked, joined}
use Rattle.bw_ring.specs.Ends.{accepted, taken, known, given, ring_of_feed, ring_of_lane}
use Rattle.bw_history.specs.Lanes.{known_at, only_at, IsWaiting, IsDry, Dries, AreDry, KnowAfter, KnowMore, TookAt, TookKnown, StayDry}
use Rattle.bw_history.specs.History.{of_writer, streams, counts_of, entered, groups_of, is_grouped}
use Rattle.bw_history.proofs.Grouped.{length_entered, length_marked}

if_more : (b : Bool) (r : Marked) (xs ys : List Marked) (x : List Marked) → ys ≡ xs ++ x → (if b then r ∷ ys else ys) ≡ (if b then r ∷ xs else xs) ++ x
if_more true r xs ys x e = ap (λ (l : List Marked). r ∷ l) e
if_more false r xs ys x e = e

if_one : (b : Bool) (m : Marked) (ms : List Marked) → (if b then m ∷ (if b then ms else []) else (if b then ms else [])) ≡ (if b then m ∷ ms else [])
if_one true m ms = refl
if_one false m ms = refl

if_none : (b : Bool) → [] ≡ (if◌then◌else◌ {A = List Marked} b [] [])
if_none true = refl
if_none false = refl

of_entered : (w i : ℕ) (ms : List Marked) → of_writer w (entered i ms) ≡ (if i == w then ms else [])
of_entered w i [] = if_none (i == w)
of_entered w i (m ∷ ms) = ap (λ (l : List Marked). if i == w then m ∷ l else l) (of_entered w i ms) ∙ if_one (i == w) m ms

of_push : (w i : ℕ) (es : List Entry) (ms : List Marked) → of_writer w (es ++ entered i ms) ≡ of_writer w es ++ (if i == w then ms else [])
of_push w i [] ms = of_entered w i ms
of_push w i (x ∷ es) ms = if_more (x.writer == w) (record { item = x.item; more = x.more }) (of_writer w es) (of_writer w (es ++ entered i ms))
    (if i == w then ms else []) (of_push w i es ms)

of_more : (w i : ℕ) (es : List Entry) (ms : List Marked) → i ≡ w → of_writer w (es ++ entered i ms) ≡ of_writer w es ++ ms
of_more w i es ms is = of_push w i es ms ∙ ap (λ (b : Bool). of_writer w es ++ (if b then ms else [])) (eq-eqb i w is)

of_same : (w i : ℕ) (es : List Entry) (ms : List Marked) → i ≢ w → of_writer w (es ++ entered i ms) ≡ of_writer w es
of_same w i es ms ne = of_push w i es ms ∙ ap (λ (b : Bool). of_writer w es ++ (if b then ms else [])) (ne_eqb i w ne) ∙ append-nil (of_writer w es)

streams_same : (w n i : ℕ) (es : List Entry) (ms : List Marked) → i < w → streams w n (es ++ entered i ms) ≡ streams w n es
streams_same w zero i es ms low = refl
streams_same w (suc n) i es ms low =
    ap (λ (l : List Marked). l ∷ streams (suc w) n (es ++ entered i ms)) (of_same w i es ms (λ same. absurd (omega arith)))
    ∙ ap (λ (l : List (List Marked)). of_writer w es ∷ l) (streams_same (suc w) n i es ms (omega arith))

pub streams_more : (w n i v : ℕ) (es : List Entry) (ms : List Marked) → v ≡ w + i → i < n
    → streams w n (es ++ entered v ms) ≡ set (streams w n es) i (get_or (streams w n es) i [] ++ ms)
streams_more w zero i v es ms is lt = absurd (omega arith)
streams_more w (suc n) zero v es ms is lt =
    ap (λ (l : List Marked). l ∷ streams (suc w) n (es ++ entered v ms)) (of_more w v es ms (omega arith))
    ∙ ap (λ (l : List (List Marked)). (of_writer w es ++ ms) ∷ l) (streams_same (suc w) n v es ms (omega arith))
streams_more w (suc n) (suc i) v es ms is lt =
    ap (λ (l : List Marked). l ∷ streams (suc w) n (es ++ entered v ms)) (of_same w v es ms (λ same. absurd (omega arith)))
    ∙ ap (λ (l : List (List Marked)). of_writer w es ∷ l) (streams_more (suc w) n i v es ms (omega arith) (omega arith))

-- one field of elements, if one element changed
pub map_set : {X Y : Type 0} (f : X → Y) (xs : List X) (i : ℕ) (x : X) → map f (set xs i x) ≡ set (map f xs) i (f x)
map_set f [] i x = refl
map_set f (y ∷ ys) zero x = refl
map_set {X} {Y} f (y ∷ ys) (suc i) x = ap (λ (l : List Y). f y ∷ l) (map_set f ys i x)

pub set_kept : {X Y : Type 0} (f : X → Y) (xs : List X) (i : ℕ) (x d : X) → i < length xs → d ≡ get_or xs i d → f x ≡ f d → map f (set xs i x) ≡ map f xs
set_kept f [] i x d lt is e = absurd (omega arith)
set_kept {X} {Y} f (y ∷ ys) zero x d lt is e = ap (λ (z : Y). z ∷ map f ys) (e ∙ ap f is)
set_kept {X} {Y} f (y ∷ ys) (suc i) x d lt is e = ap (λ (l : List Y). f y ∷ l) (set_kept f ys i x d (omega arith) is e)

pub some_set : {X : Type 0} (P : X → Type 0) (xs : List X) (i : ℕ) (x : X) → i < length xs → P x → IsSomeAnd (slice_get (set xs i x) i) P
some_set P [] i x lt h = absurd (omega arith)
some_set P (y ∷ ys) zero x lt h = h
some_set P (y ∷ ys) (suc i) x lt h = some_set P ys i x (omega arith) h

pub some_get : {X : Type 0} (P : X → Type 0) (xs : List X) (i : ℕ) (d : X) → i < length xs → d ≡ get_or xs i d → IsSomeAnd (slice_get xs i) P → P d
some_get P [] i d lt is h = absurd (omega arith)
some_get {X} P (y ∷ ys) zero d lt is h = subst P (sym is) h
some_get P (y ∷ ys) (suc i) d lt is h = some_get P ys i d (omega arith) is h

pub took : {X : Type 0} (f : X → List Marked) (xs : List X) (i : ℕ) (x d : X) (r : List Marked) → i < length xs → d ≡ get_or xs i d → f x ≡ f d ++ r
    → map f (set xs i x) ≡ set (map f xs) i (get_or (map f xs) i [] ++ r)
took f [] i x d r lt is e = absurd (omega arith)
took {X} f (y ∷ ys) zero x d r lt is e = ap (λ (l : List Marked). l ∷ map f ys) (e ∙ ap (λ (z : X). f z ++ r) is)
took f (y ∷ ys) (suc i) x d r lt is e = ap (λ (l : List (List Marked)). f y ∷ l) (took f ys i x d r (omega arith) is e)

pub waits_set : (xs : List Lane) (i : ℕ) (x : Lane) → i < length xs → 0 < length (known x) → IsWaiting (set xs i x) i
waits_set [] i x lt h = absurd (omega arith)
waits_set (y ∷ ys) zero x lt h = h
waits_set (y ∷ ys) (suc i) x lt h = waits_set ys i x (omega arith) h

dry_set : (xs : List Lane) (i : ℕ) (x : Lane) → known x ≡ [] → (j : ℕ) → IsDry xs j → IsDry (set xs i x) j
dry_set [] i x h j d = d
dry_set (y ∷ ys) zero x h zero d = h
dry_set (y ∷ ys) zero x h (suc j) d = d
dry_set (y ∷ ys) (suc i) x h zero d = d
dry_set (y ∷ ys) (suc i) x h (suc j) d = dry_set ys i x h j d

pub dries_set : (xs : List Lane) (i : ℕ) (x : Lane) → i < length xs → known x ≡ [] → Dries i xs (set xs i x)
dries_set xs i x lt h = record { here = some_set (λ l. known l ≡ []) xs i x lt h; others = dry_set xs i x h }

-- ---- what the lanes know, and what they will have given

pub field_at : {X Y : Type 0} (f : X → List Y) (xs : List X) (i : ℕ) (d : X) → i < length xs → d ≡ get_or xs i d → get_or (map f xs) i [] ≡ f d
field_at f [] i d lt is = absurd (omega arith)
field_at f (y ∷ ys) zero d lt is = ap f (sym is)
field_at f (y ∷ ys) (suc i) d lt is = field_at f ys i d (omega arith) is

pub known_after : (xs : List Lane) (i : ℕ) (x d : Lane) (r : List Record) → i < length xs → d ≡ get_or xs i d → known d ≡ r ∷ known x
    → TookKnown i xs (set xs i x)
known_after xs i x d r lt is first =
    map_set known xs i x
    ∙ ap (λ (ks : List (List Record)). set (map known xs) i ks) (sym (ap (drop 1) (field_at known xs i d lt is ∙ first)))

-- the history's streams are what the lanes gave, after one group more
pub entered_streams : (old new : List Lane) (before after : List Entry) (i : ℕ) (g : List Record) → i < length old
    → streams 0 (length old) before ≡ map taken old
    → length new ≡ length old → TookAt i g (map taken old) (map taken new) → after ≡ before ++ entered i (marked g)
    → streams 0 (length new) after ≡ map taken new
entered_streams old new before after i g lt was count took more =
    ap (λ n. streams 0 n after) count
    ∙ ap (streams 0 (length old)) more
    ∙ streams_more 0 (length old) i i before (marked g) (omega arith) lt
    ∙ ap (λ (l : List (List Marked)). set l i (get_or l i [] ++ marked g)) was
    ∙ sym took

-- if each lane is dry, all are
pub all_dry : (xs : List Lane) → ((i : ℕ) → i < length xs → IsDry xs i) → AreDry xs
all_dry [] h = tt
all_dry (x ∷ xs) h = (h zero (omega arith), all_dry xs (λ i lt. h (suc i) (omega arith)))

-- one lane further, if no group was taken since the round began
pub dry_further : (old new : List Lane) (at begun was now : ℕ) → begun ≤ was → was ≤ now → (was ≡ begun → (i : ℕ) → i < at → IsDry old i)
    → (now ≡ was → Dries at old new) → now ≡ begun → (i : ℕ) → i < at + 1 → IsDry new i
dry_further old new at begun was now low le before dries none i lt =
    let d = dries (omega arith) in
    elim (nat_le at i) as (λ b. nat_le at i ≡ b → IsDry new i) [
      | true ↦ λ e. (let h = leb-true _ _ e in let is : at ≡ i = omega arith in subst (IsDry new) is d.here)
      | false ↦ λ e. (let h = leb-false _ _ e in d.others i (before (omega arith) i h))
    ] refl

no_streams : (w n : ℕ) → streams w n [] ≡ replicate n []
no_streams w zero = refl
no_streams w (suc n) = ap (λ (l : List (List Marked)). [] ∷ l) (no_streams (suc w) n)

pub lanes_count : (xs : List Lane) (n : ℕ) → map taken xs ≡ replicate n [] → length xs ≡ n
lanes_count xs n e = sym (length-map xs taken) ∙ ap length e ∙ length-replicate n []

pub fresh_streams : (xs : List Lane) (es : List Entry) (n : ℕ) → map taken xs ≡ replicate n [] → es ≡ [] → streams 0 (length xs) es ≡ map taken xs
fresh_streams xs es n e none = ap (streams 0 (length xs)) none ∙ no_streams 0 (length xs) ∙ ap (λ k. replicate k []) (lanes_count xs n e) ∙ sym e

pub few_of : (xs shown : List Lane) (len n : ℕ) → shown ≡ xs → length shown ≡ len → length xs ≡ n → n ≤ 64 → len ≤ 64
few_of xs shown len n is same count top = (let e = ap length is in omega arith)

drop_none : (ks : List (List Record)) → ks ≡ [] → drop 1 ks ≡ []
drop_none [] e = refl
drop_none (k ∷ ks) e = absurd cc

set_dry : (ks : List (List (List Record))) (at i : ℕ) → get_or ks i [] ≡ [] → get_or (set ks at (drop 1 (get_or ks at []))) i [] ≡ []
set_dry [] at i e = e
set_dry (k ∷ ks) zero zero e = drop_none k e
set_dry (k ∷ ks) zero (suc i) e = e
set_dry (k ∷ ks) (suc at) zero e = e
set_dry (k ∷ ks) (suc at) (suc i) e = set_dry ks at i e

pub took_dry : (at : ℕ) (old new : List Lane) → TookKnown at old new → StayDry old new
took_dry at old new took i e = ap (λ (ks : List (List (List Record))). get_or ks i []) took ∙ set_dry (map known old) at i e

fewer_of : (ks : List (List Record)) → 0 < length ks → length (drop 1 ks) < length ks
fewer_of [] some = absurd (omega arith)
fewer_of (k ∷ ks) some = omega arith

set_fewer : (ks : List (List (List Record))) (at : ℕ) → 0 < length (get_or ks at [])
    → length (get_or (set ks at (drop 1 (get_or ks at []))) at []) < length (get_or ks at [])
set_fewer [] at some = absurd (omega arith)
set_fewer (k ∷ ks) zero some = fewer_of k some
set_fewer (k ∷ ks) (suc at) some = set_fewer ks at some

pub took_fewer : (at : ℕ) (old new : List Lane) → TookKnown at old new → 0 < length (known_at old at) → length (known_at new at) < length (known_at old at)
took_fewer at old new took some =
    subst (λ (ks : List (List (List Record))). length (get_or ks at []) < length (known_at old at)) (sym took) (set_fewer (map known old) at some)

-- if no lane knows of a group, what was given is what was taken
pub given_all : (xs : List Lane) → ((i : ℕ) → i < length xs → known_at xs i ≡ []) → map taken xs ≡ map given xs
given_all [] dry = refl
given_all (x ∷ xs) dry =
    ap (λ (ks : List Marked). ks ∷ map taken xs) (sym (append-nil (taken x))
    ∙ ap (λ (ks : List (List Record)). taken x ++ joined ks) (sym (dry zero (omega arith))))
    ∙ ap (λ (l : List (List Marked)). given x ∷ l) (given_all xs (λ i lt. dry (suc i) (omega arith)))

-- one lane more that knows of none
pub dry_next : (old new : List Lane) (at : ℕ) → ((i : ℕ) → i < at → known_at old i ≡ []) → StayDry old new → known_at new at ≡ [] → (i : ℕ) → i < at + 1
    → known_at new i ≡ []
dry_next old new at before stay here i lt =
    elim (nat_le at i) as (λ b. nat_le at i ≡ b → known_at new i ≡ []) [
      | true ↦ λ e. (let h = leb-true _ _ e in let is : at ≡ i = omega arith in subst (λ j. known_at new j ≡ []) is here)
      | false ↦ λ e. (let h = leb-false _ _ e in stay i (before i h))
    ] refl

-- ---- a look at both ends of all rings

pub ends_at : {X Y R : Type 0} (f : X → R) (g : Y → R) (xs : List X) (ys : List Y) (i : ℕ) (x : X) (y : Y) → map f xs ≡ map g ys → i < length xs
    → x ≡ get_or xs i x → y ≡ get_or ys i y → f x ≡ g y
ends_at f g [] ys i x y e lt is_x is_y = absurd (omega arith)
ends_at f g (a ∷ xs) [] i x y e lt is_x is_y = absurd cc
ends_at {X} {Y} {R} f g (a ∷ xs) (b ∷ ys) zero x y e lt is_x is_y = (let here : f a ≡ g b = cc in ap f is_x ∙ here ∙ sym (ap g is_y))
ends_at {X} {Y} {R} f g (a ∷ xs) (b ∷ ys) (suc i) x y e lt is_x is_y =
    (let rest : map f xs ≡ map g ys = cc in ends_at f g xs ys i x y rest (omega arith) is_x is_y)

-- the same number of ends
pub as_many : {X Y R : Type 0} (f : X → R) (g : Y → R) (xs : List X) (ys : List Y) → map f xs ≡ map g ys → length xs ≡ length ys
as_many f g xs ys e = sym (length-map xs f) ∙ ap length e ∙ length-map ys g

-- ends that belong together are as many, also after a look
pub as_long : (lanes now : List Lane) (feeds : List Feed) → map ring_of_feed feeds ≡ map ring_of_lane lanes → length now ≡ length lanes
    → (length now ≡ length lanes) × (length (map given now) ≡ length now) × (length feeds ≡ length lanes)
as_long lanes now feeds ends same = (same, length-map now given, as_many ring_of_feed ring_of_lane feeds lanes ends)

pub inside_too : {X Y R : Type 0} (f : X → R) (g : Y → R) (xs : List X) (ys : List Y) (i : ℕ) → map f xs ≡ map g ys → i < length ys → i < length xs
inside_too f g xs ys i e lt = (let many = as_many f g xs ys e in omega arith)

pub look_given : (ls : List Lane) (fs : List Feed) (i : ℕ) (l : Lane) (f : Feed) → i < length fs → f ≡ get_or fs i f → given l ≡ accepted f
    → map given (set ls i l) ≡ set (map given ls) i (get_or (map accepted fs) i [])
look_given ls fs i l f lt is e =
    map_set given ls i l ∙ ap (λ (ks : List Marked). set (map given ls) i ks) (e ∙ sym (field_at accepted fs i f lt is))

-- the first lanes have what their feeds had accepted, and one lane more
pub whole_more : (xs ys : List (List Marked)) (i n : ℕ) → i < length xs → length xs ≡ length ys → take i xs ≡ take i ys → n ≡ i + 1
    → take n (set xs i (get_or ys i [])) ≡ take n ys
whole_more [] ys i n lt same e next = absurd (omega arith)
whole_more (x ∷ xs) [] i n lt same e next = absurd (omega arith)
whole_more (x ∷ xs) (y ∷ ys) i zero lt same e next = absurd (omega arith)
whole_more (x ∷ xs) (y ∷ ys) zero (suc n) lt same e next =
    (let none : n ≡ 0 = omega arith in
    subst (λ k. y ∷ take k xs ≡ y ∷ take k ys) (sym none) refl)
whole_more (x ∷ xs) (y ∷ ys) (suc i) (suc n) lt same e next =
    (let here : x ≡ y = cc in
    let rest : take i xs ≡ take i ys = cc in
    ap (λ (l : List Marked). l ∷ take n (set xs i (get_or ys i []))) here
    ∙ ap (λ (l : List (List Marked)). y ∷ l) (whole_more xs ys i n (omega arith) (omega arith) rest (omega arith)))

pub whole_end : (xs ys : List (List Marked)) (n : ℕ) → length xs ≡ length ys → length xs ≤ n → take n xs ≡ take n ys → xs ≡ ys
whole_end [] [] n same all e = refl
whole_end [] (y ∷ ys) n same all e = absurd (omega arith)
whole_end (x ∷ xs) [] n same all e = absurd (omega arith)
whole_end (x ∷ xs) (y ∷ ys) zero same all e = absurd (omega arith)
whole_end (x ∷ xs) (y ∷ ys) (suc n) same all e =
    (let here : x ≡ y = cc in
    let rest : take n xs ≡ take n ys = cc in
    ap (λ (l : List Marked). l ∷ xs) here ∙ ap (λ (l : List (List Marked)). y ∷ l) (whole_end xs ys n (omega arith) (omega arith) rest))

pub shorter : {X Y : Type 0} (f : X → List Marked) (g : Y → List Marked) (xs : List X) (ys : List Y) → length xs ≡ length ys
    → length (map f xs) ≡ length (map g ys)
shorter f g xs ys e = length-map xs f ∙ e ∙ sym (length-map ys g)

-- ---- all that was accepted was taken

pub exact : (lanes : List Lane) (feeds : List Feed) (es : List Entry) → streams 0 (length lanes) es ≡ map taken lanes → map taken lanes ≡ map accepted feeds
    → streams 0 (length feeds) es ≡ map accepted feeds
exact lanes feeds es is all = ap (λ n. streams 0 n es) (sym (as_many taken accepted lanes feeds all)) ∙ is ∙ all

pub writers_of : (lanes : List Lane) (feeds : List Feed) (es : List Entry) → map ring_of_feed feeds ≡ map ring_of_lane lanes
    → All (λ e. e.writer < length (map ring_of_lane lanes)) es → All (λ e. e.writer < length feeds) es
writers_of lanes feeds es ends all =
    subst (λ n. All (λ (e : Entry). e.writer < n) es) (length-map lanes ring_of_lane ∙ sym (as_many ring_of_feed ring_of_lane feeds lanes ends)) all

-- ---- how many records each writer has

count_at : (xs : List (List Marked)) (i : ℕ) → get_or (map (λ (ms : List Marked). length ms) xs) i 0 ≡ length (get_or xs i [])
count_at [] i = refl
count_at (x ∷ xs) zero = refl
count_at (x ∷ xs) (suc i) = count_at xs i

streams_length : (w n : ℕ) (es : List Entry) → length (streams w n es) ≡ n
streams_length w zero es = refl
streams_length w (suc n) es = ap suc (streams_length (suc w) n es)

stream_at : (w n i : ℕ) (es : List Entry) → i < n → get_or (streams w n es) i [] ≡ of_writer (w + i) es
stream_at w zero i es lt = absurd (omega arith)
stream_at w (suc n) zero es lt = (let is : w ≡ w + 0 = omega arith in ap (λ k. of_writer k es) is)
stream_at w (suc n) (suc i) es lt =
    (let is : suc w + i ≡ w + suc i = omega arith in stream_at (suc w) n i es (omega arith) ∙ ap (λ k. of_writer k es) is)

-- the count of a writer is the number of its records
pub count_of_writer : (n i : ℕ) (es : List Entry) → i < n → get_or (counts_of n es) i 0 ≡ length (of_writer i es)
count_of_writer n i es lt =
    (let is : 0 + i ≡ i = omega arith in
    count_at (streams 0 n es) i ∙ ap length (stream_at 0 n i es lt) ∙ ap (λ k. length (of_writer k es)) is)

pub counts_length : (n : ℕ) (es : List Entry) → length (counts_of n es) ≡ n
counts_length n es = length-map (streams 0 n es) (λ (ms : List Marked). length ms) ∙ streams_length 0 n es

few_if : (b : Bool) (m : Marked) (ms : List Marked) (n : ℕ) → length ms ≤ n → length (if b then m ∷ ms else ms) ≤ suc n
few_if true m ms n le = omega arith
few_if false m ms n le = omega arith

-- a writer has no more records than there are entries
pub writer_few : (w : ℕ) (es : List Entry) → length (of_writer w es) ≤ length es
writer_few w [] = omega arith
writer_few w (e ∷ es) = few_if (e.writer == w) (record { item = e.item; more = e.more }) (of_writer w es) (length es) (writer_few w es)

set_same : (xs : List ℕ) (i : ℕ) (n m : ℕ) → n ≡ m → set xs i n ≡ set xs i m
set_same xs i n m e = ap (λ k. set xs i k) e

-- a group more
pub counts_more : (n i : ℕ) (es after : List Entry) (g : List Record) → i < n → after ≡ es ++ entered i (marked g)
    → counts_of n after ≡ set (counts_of n es) i (get_or (counts_of n es) i 0 + length g)
counts_more n i es after g lt more =
    let size : List Marked → ℕ = λ ms. length ms in
    let here = get_or (streams 0 n es) i [] in
    let count : length (here ++ marked g) ≡ get_or (counts_of n es) i 0 + length g =
    length-append here (marked g) ∙ ap (λ k. length here + k) (length_marked g) ∙ ap (λ k. k + length g) (sym (count_at (streams 0 n es) i)) in
    ap (counts_of n) more
    ∙ ap (map size) (streams_more 0 n i i es (marked g) (omega arith) lt)
    ∙ map_set size (streams 0 n es) i (here ++ marked g)
    ∙ set_same (counts_of n es) i _ _ count

-- and there is room for its count among all entries
pub counts_within : (n i : ℕ) (es after : List Entry) (g : List Record) → i < n → after ≡ es ++ entered i (marked g)
    → get_or (counts_of n es) i 0 + length g ≤ length after
counts_within n i es after g lt more =
    let was = count_of_writer n i es lt in
    let few = writer_few i es in
    let all = ap length more ∙ length-append es (entered i (marked g)) in
    let added = length_entered i g in
    omega arith

zeros : (n : ℕ) → map (λ (ms : List Marked). length ms) (replicate n []) ≡ replicate n 0
zeros zero = refl
zeros (suc n) = ap (λ (l : List ℕ). 0 ∷ l) (zeros n)

-- no record yet
pub no_counts : (n : ℕ) (es : List Entry) → es ≡ [] → counts_of n es ≡ replicate n 0
no_counts n es none = ap (counts_of n) none ∙ ap (map (λ (ms : List Marked). length ms)) (no_streams 0 n) ∙ zeros n

of_writer_append : (w : ℕ) (xs ys : List Entry) → of_writer w (xs ++ ys) ≡ of_writer w xs ++ of_writer w ys
of_writer_append w [] ys = refl
of_writer_append w (x ∷ xs) ys =
    if_more (x.writer == w) (record { item = x.item; more = x.more }) (of_writer w xs) (of_writer w (xs ++ ys)) (of_writer w ys) (of_writer_append w xs ys)

one_of : (b : Bool) (m : Marked) → length (if b then m ∷ [] else (let none : List Marked = [] in none)) ≡ (if b then 1 else 0)
one_of true m = refl
one_of false m = refl

-- one entry more, which is this writer's or is not
pub count_next : (w : ℕ) (es : List Entry) (i n : ℕ) (e : Entry) (b : Bool) → i < length es → e ≡ get_or es i e → (e.writer == w) ≡ b
    → n ≡ length (of_writer w (take i es)) → n + (if b then 1 else 0) ≡ length (of_writer w (take (i + 1) es))
count_next w es i n e b lt at is so_far =
    let last : of_writer w (e ∷ []) ≡ (if b then record { item = e.item; more = e.more } ∷ [] else []) =
    ap (λ (t : Bool). if t then (let m : Marked = record { item = e.item; more = e.more } in m ∷ []) else []) is in
    let grown = ap (of_writer w) (take_more es i e lt ∙ ap (λ (x : Entry). take i es ++ x ∷ []) (sym at)) ∙ of_writer_append w (take i es) (e ∷ []) in
    let count = ap length grown ∙ length-append (of_writer w (take i es)) (of_writer w (e ∷ [])) in
    let one = ap length last ∙ one_of b (record { item = e.item; more = e.more }) in
    omega arith

-- so there are no more of them than entries so far
pub count_few : (w : ℕ) (es : List Entry) (i n : ℕ) → n ≡ length (of_writer w (take i es)) → n ≤ i
count_few w es i n is = (let few = writer_few w (take i es) in let short = length-take i es in omega arith)

both_right : (x y : Bool) → (x && y) ≡ true → y ≡ true
both_right true y h = h
both_right false y h = absurd cc

drop_grouped : (e : Entry) (es : List Entry) → is_grouped (e ∷ es) ≡ true → is_grouped es ≡ true
drop_grouped e [] h = refl
drop_grouped e (f ∷ es) h = both_right (if e.more then f.writer == e.writer else true) (is_grouped (f ∷ es)) h

-- what is left of groups without some first entries
pub rest_grouped : (n : ℕ) (es : List Entry) → is_grouped es ≡ true → is_grouped (drop n es) ≡ true
rest_grouped zero es h = h
rest_grouped (suc n) [] h = refl
rest_grouped (suc n) (e ∷ es) h = rest_grouped n es (drop_grouped e es h)

-- after the first of two lists the second goes on
pub drop_over : {A : Type 0} (xs ys : List A) (n k : ℕ) → n ≡ length xs + k → drop n (xs ++ ys) ≡ drop k ys
drop_over [] ys n k e = (let is : n ≡ k = omega arith in ap (λ m. drop m ys) is)
drop_over (x ∷ xs) ys zero k e = absurd (omega arith)
drop_over (x ∷ xs) ys (suc n) k e = drop_over xs ys n k (omega arith)

-- what a writer has up to a cut, and what of it waits after the cut
pub durable_and_waiting : (w n : ℕ) (es : List Entry) (end waiting : ℕ) → w < n → waiting ≡ length (of_writer w (drop end es))
    → get_or (counts_of n es) w 0 ≡ length (of_writer w (take end es)) + waiting
durable_and_waiting w n es end waiting lt is =
    let all = count_of_writer n w es lt in
    let parts = ap (of_writer w) (sym (take-append-drop end es)) ∙ of_writer_append w (take end es) (drop end es) in
    let count = ap length parts ∙ length-append (of_writer w (take end es)) (of_writer w (drop end es)) in
    omega arith

no_writer : (w n : ℕ) (es : List Entry) → n ≤ w → All (λ e. e.writer < n) es → of_writer w es ≡ []
no_writer w n [] le h = refl
no_writer w n (e ∷ es) le h =
    ap (λ (b : Bool). if b then record { item = e.item; more = e.more } ∷ of_writer w es else of_writer w es)
    (ne_eqb e.writer w (λ same. let low = h.0 in absurd (omega arith)))
    ∙ no_writer w n es le h.1

-- a number that no writer has stands in no entry
pub none_durable : (w n : ℕ) (es : List Entry) (end : ℕ) → n ≤ w → All (λ e. e.writer < n) es → 0 ≡ length (of_writer w (take end es))
none_durable w n es end le h =
    let none = ap length (no_writer w n es le h) in
    let parts = ap (of_writer w) (sym (take-append-drop end es)) ∙ of_writer_append w (take end es) (drop end es) in
    let count = ap length parts ∙ length-append (of_writer w (take end es)) (of_writer w (drop end es)) in
    omega arith

-- a list that would be answered, and is not, is empty
pub none_waits : {A : Type 0} (ks : List A) (b : Bool) → (0 < length ks → b ≡ true) → b ≡ false → ks ≡ []
none_waits [] b told e = refl
none_waits (k ∷ ks) b told e = (let some : 0 < length (k ∷ ks) = omega arith in absurd (let both = sym (told some) ∙ e in cc))

-- ---- how many groups lanes know of

more_known : (ks ls : List (List Record)) → (0 < length ks → ls ≡ ks) → length ks ≤ length ls
more_known [] ls kept = omega arith
more_known (k ∷ ks) ls kept = (let same = ap length (kept (omega arith)) in omega arith)

-- after a look at one ring
pub know_more : (xs : List Lane) (i : ℕ) (x d : Lane) → i < length xs → d ≡ get_or xs i d → (0 < length (known d) → known x ≡ known d) → KnowMore xs (set xs i x)
know_more [] i x d lt is kept j = omega arith
know_more (y ∷ ys) zero x d lt is kept zero =
    subst (λ (l : Lane). length (known l) ≤ length (known x)) is (more_known (known d) (known x) kept)
know_more (y ∷ ys) zero x d lt is kept (suc j) = omega arith
know_more (y ∷ ys) (suc i) x d lt is kept zero = omega arith
know_more (y ∷ ys) (suc i) x d lt is kept (suc j) = know_more ys i x d (omega arith) is kept j

fewer_by_one : (ks : List (List Record)) → length ks ≤ 1 + length (drop 1 ks)
fewer_by_one [] = omega arith
fewer_by_one (k ∷ ks) = omega arith

suc_at : (at i : ℕ) → only_at (suc at) (suc i) ≡ only_at at i
suc_at at i = elim (at == i) as (λ b. (at == i) ≡ b → only_at (suc at) (suc i) ≡ (if◌then◌else◌ {A = ℕ} b 1 0)) [
  | true ↦ λ e. ap (λ (b : Bool). if◌then◌else◌ {A = ℕ} b 1 0) (eq-eqb (suc at) (suc i) (ap suc (eqb-true at i e)))
  | false ↦ λ e. ap (λ (b : Bool). if◌then◌else◌ {A = ℕ} b 1 0)
      (ne_eqb (suc at) (suc i) (λ same. (let is : at ≡ i = omega arith in let both = sym (eq-eqb at i is) ∙ e in cc)))
] refl

after_set : (ks : List (List (List Record))) (at i : ℕ)
    → length (get_or ks i []) ≤ only_at at i + length (get_or (set ks at (drop 1 (get_or ks at []))) i [])
after_set [] at i = omega arith
after_set (k ∷ ks) zero zero = fewer_by_one k
after_set (k ∷ ks) zero (suc i) = omega arith
after_set (k ∷ ks) (suc at) zero = omega arith
after_set (k ∷ ks) (suc at) (suc i) = (let rest = after_set ks at i in let same = suc_at at i in omega (arith, rest, same))

-- after a group was taken
pub know_after : (at : ℕ) (old new : List Lane) → TookKnown at old new → KnowAfter at old new
know_after at old new took i =
    subst (λ (ks : List (List (List Record))). length (known_at old i) ≤ only_at at i + length (get_or ks i [])) (sym took) (after_set (map known old) at i)

-- ---- how many groups a writer gave

pub groups_append : (w : ℕ) (xs ys : List Entry) → groups_of w (xs ++ ys) ≡ groups_of w xs + groups_of w ys
groups_append w [] ys = omega arith
groups_append w (e ∷ xs) ys = (let rest = groups_append w xs ys in omega arith)

if_same : {A : Type 0} (b : Bool) (x : A) → (if b then x else x) ≡ x
if_same true x = refl
if_same false x = refl

-- a group ends once, and only its writer's count grows
pub groups_entered : (w lane : ℕ) (group : List Record) → 1 ≤ length group → groups_of w (entered lane (marked group)) ≡ only_at lane w
groups_entered w lane [] some = absurd (omega arith)
groups_entered w lane (r ∷ []) some = omega arith
groups_entered w lane (r ∷ s ∷ rs) some =
    (let rest = groups_entered w lane (s ∷ rs) (omega arith) in let none : (if◌then◌else◌ {A = ℕ} (lane == w) 0 0) ≡ 0 = if_same {A = ℕ} (lane == w) 0 in omega (arith, rest, none))

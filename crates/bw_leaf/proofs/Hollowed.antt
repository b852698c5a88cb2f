-- Items whose keys stand among the bytes of all keys.

use Rattle.std.proofs.Common.{◌≡◌, ℕ, zero, suc, ◌+◌, ◌<◌, true, false, cond, List, [], ◌∷◌, ◌++◌, length, map, take, drop, refl, ap, sym, ◌∙◌, subst, arith, length-append, length-drop, le-leb, get_or}
use Rattle.std.specs.Prelude.{insert, remove, slice_set, slice_index_or, ◌&&◌, Result, Ok, Err, OnErr}
use Rattle.std.specs.List.{filter, flat_map, AllByRecursion as All}
use Rattle.std.proofs.lemmas.List.{take-append-le, drop-append-le, map-append, take-map, drop-map, map-set, get_or-map, length-take-le, length-replicate}
use Rattle.std.proofs.lemmas.Grind.{flat_map-append}
use Rattle.std.proofs.Math.Seq.{drop-append_seam, take-length, take-suc}
use Rattle.bw_record.specs.Keys.{is_below}
use Rattle.bw_record.specs.Version.{latest}
use Rattle.bw_codec.specs.Bytes.{text, value_bytes}
use Rattle.bw_codec.specs.Grammar.{pair_bytes}
use Rattle.bw_codec.proofs.Lengths.{length-value}
use Rattle.bw_leaf.specs.Changed.{Bytes}
use Rattle.bw_leaf.specs.declared.hollow.Item.{Item}
use Rattle.bw_leaf.specs.Hollow.{blank, key_in, pair_in, IsIn, is_kept}
use Rattle.bw_leaf.proofs.Sorted.{all-map, all-push, all-take, all-drop}

-- ---- more bytes after the keys

still_in : (keys more : List ℕ) (item : Item) → IsIn keys item → IsIn (keys ++ more) item
still_in keys more item h = let e = length-append keys more in omega (arith, e, h)

pub all_still : (keys more : List ℕ) (items : List Item) → All (IsIn keys) items → All (IsIn (keys ++ more)) items
all_still keys more items h = all-map (IsIn keys) (IsIn (keys ++ more)) (λ i. still_in keys more i) items h

same_key : (keys more : List ℕ) (item : Item) → IsIn keys item → key_in (keys ++ more) item ≡ key_in keys item
same_key keys more item h =
    ap (take item.len) (drop-append-le item.at keys more (omega (arith, h)))
    ∙ take-append-le item.len (drop item.at keys) more (let e = length-drop item.at keys in omega (arith, e, h))

pub same_pairs : (keys more : List ℕ) (items : List Item) → All (IsIn keys) items → map (pair_in (keys ++ more)) items ≡ map (pair_in keys) items
same_pairs keys more [] h = refl
same_pairs keys more (i ∷ is) h =
    λ t. (same_key keys more i h.0 t, blank i.size) ∷ same_pairs keys more is h.1 t

-- the key that was put there
pub new_key : (keys key : List ℕ) (item : Item) → item.at ≡ length keys → item.len ≡ length key → key_in (keys ++ key) item ≡ key
new_key keys key item at len =
    ap (λ n. take item.len (drop n (keys ++ key))) at ∙ ap (take item.len) (drop-append_seam keys key)
    ∙ ap (λ n. take n key) len ∙ take-length key

pub new_in : (keys key : List ℕ) (item : Item) → item.at ≡ length keys → item.len ≡ length key → IsIn (keys ++ key) item
new_in keys key item at len = let e = length-append keys key in omega (arith, e, at, len)

-- ---- one more item, pushed or put among the others

new_pair : (keys key : List ℕ) (item : Item) (size : ℕ) → item.at ≡ length keys → item.len ≡ length key → item.size ≡ size
    → pair_in (keys ++ key) item ≡ (key, blank size)
new_pair keys key item size at len long = λ t. (new_key keys key item at len t, blank (long t))

pub pushed : (keys key keys' : List ℕ) (items items' : List Item) (item : Item) (size : ℕ) → keys' ≡ keys ++ key → items' ≡ items ++ item ∷ []
    → item.at ≡ length keys → item.len ≡ length key → item.size ≡ size → All (IsIn keys) items
    → All (IsIn keys') items' × (map (pair_in keys') items' ≡ map (pair_in keys) items ++ (key, blank size) ∷ [])
pushed keys key keys' items items' item size k i at len long h =
    let all : All (IsIn (keys ++ key)) (items ++ item ∷ []) = all-push (IsIn (keys ++ key)) items item (all_still keys key items h) (new_in keys key item at len) in
    let one : map (pair_in (keys ++ key)) (items ++ item ∷ []) ≡ map (pair_in keys) items ++ (key, blank size) ∷ [] =
    map-append (pair_in (keys ++ key)) items (item ∷ [])
    ∙ (λ t. same_pairs keys key items h t ++ new_pair keys key item size at len long t ∷ []) in (
      subst (λ (x : List ℕ × List Item). All (IsIn x.0) x.1) (λ t. (sym k t, sym i t)) all,
      (λ t. map (pair_in (k t)) (i t)) ∙ one,
    )

all_join : (P : Item → Type 0) (xs ys : List Item) → All P xs → All P ys → All P (xs ++ ys)
all_join P [] ys h k = k
all_join P (x ∷ xs) ys h k = (h.0, all_join P xs ys h.1 k)

all_insert : (P : Item → Type 0) (items : List Item) (at : ℕ) (item : Item) → All P items → P item → All P (insert items at item)
all_insert P items at item h p = all_join P (take at items) (item ∷ drop at items) (all-take P at items h) (p, all-drop P at items h)

map_insert : (f : Item → Bytes × Bytes) (items : List Item) (at : ℕ) (item : Item) → map f (insert items at item) ≡ insert (map f items) at (f item)
map_insert f items at item =
    map-append f (take at items) (item ∷ drop at items)
    ∙ (λ t. sym (take-map f at items) t ++ f item ∷ sym (drop-map f at items) t)

pub inserted : (keys key keys' : List ℕ) (items items' : List Item) (n : ℕ) (item : Item) (size : ℕ) → keys' ≡ keys ++ key
    → items' ≡ insert items n item
    → item.at ≡ length keys → item.len ≡ length key → item.size ≡ size → All (IsIn keys) items
    → All (IsIn keys') items' × (map (pair_in keys') items' ≡ insert (map (pair_in keys) items) n (key, blank size))
inserted keys key keys' items items' n item size k i at len long h =
    let all : All (IsIn (keys ++ key)) (insert items n item) =
    all_insert (IsIn (keys ++ key)) items n item (all_still keys key items h) (new_in keys key item at len) in
    let one : map (pair_in (keys ++ key)) (insert items n item) ≡ insert (map (pair_in keys) items) n (key, blank size) =
    map_insert (pair_in (keys ++ key)) items n item
    ∙ (λ t. insert (same_pairs keys key items h t) n (new_pair keys key item size at len long t)) in (
      subst (λ (x : List ℕ × List Item). All (IsIn x.0) x.1) (λ t. (sym k t, sym i t)) all,
      (λ t. map (pair_in (k t)) (i t)) ∙ one,
    )

-- a key that no item names
pub more_keys : (keys key keys' : List ℕ) (items items' : List Item) → keys' ≡ keys ++ key → items' ≡ items → All (IsIn keys) items
    → All (IsIn keys') items' × (map (pair_in keys') items' ≡ map (pair_in keys) items)
more_keys keys key keys' items items' k i h = (
  subst (λ (x : List ℕ × List Item). All (IsIn x.0) x.1) (λ t. (sym k t, sym i t)) (all_still keys key items h),
  (λ t. map (pair_in (k t)) (i t)) ∙ same_pairs keys key items h,
)

-- ---- one item less, or another in its place

pub removed : (keys : List ℕ) (items items' : List Item) (n : ℕ) → items' ≡ remove items n → All (IsIn keys) items
    → All (IsIn keys) items' × (map (pair_in keys) items' ≡ remove (map (pair_in keys) items) n)
removed keys items items' n i h = (
  subst (All (IsIn keys)) (sym i) (all_join (IsIn keys) (take n items) (drop (suc n) items) (all-take (IsIn keys) n items h) (all-drop (IsIn keys) (suc n) items h)),
  ap (map (pair_in keys)) i ∙ map-append (pair_in keys) (take n items) (drop (suc n) items)
      ∙ (λ t. sym (take-map (pair_in keys) n items) t ++ sym (drop-map (pair_in keys) (suc n) items) t),
)

-- an item with another length of its value
pub reset : (keys : List ℕ) (items : List Item) (n : ℕ) (was : Item) (key : Bytes) (size : ℕ) → n < length items → was ≡ slice_index_or items n was
    → ((d : Bytes × Bytes) → (slice_index_or (map (pair_in keys) items) n d).0 ≡ key)
    → map (pair_in keys) (slice_set items n (record { at = was.at; len = was.len; size = size })) ≡ slice_set (map (pair_in keys) items) n (key, blank size)
reset keys items n was key size within is named =
    let own : key_in keys was ≡ key =
    ap (key_in keys) is ∙ sym (ap (λ (p : Bytes × Bytes). p.0) (get_or-map (pair_in keys) items n was (pair_in keys was) within)) ∙ named (pair_in keys was) in
    map-set (pair_in keys) items n (record { at = was.at; len = was.len; size = size })
    ∙ ap (λ (k : Bytes). slice_set (map (pair_in keys) items) n (k, blank size)) own

-- ---- the items that stay

kept_all : (keys separator : List ℕ) (items : List Item) → All (IsIn keys) items → All (IsIn keys) (filter (is_kept keys separator) items)
kept_all keys separator [] h = tt
kept_all keys separator (i ∷ is) h =
    elim (is_kept keys separator i) as (λ t. All (IsIn keys) (cond t (i ∷ filter (is_kept keys separator) is) (filter (is_kept keys separator) is))) [
      | true ↦ (h.0, kept_all keys separator is h.1)
      | false ↦ kept_all keys separator is h.1
    ]

is_there : (keys separator : List ℕ) (item : Item) → IsIn keys item → is_kept keys separator item ≡ is_below (key_in keys item) separator
is_there keys separator item h = ap (λ b. b && is_below (key_in keys item) separator) (le-leb (item.at + item.len) (length keys) h)

kept_pairs : (keys separator : List ℕ) (items : List Item) → All (IsIn keys) items
    → map (pair_in keys) (filter (is_kept keys separator) items) ≡ filter (λ p. is_below p.0 separator) (map (pair_in keys) items)
kept_pairs keys separator [] h = refl
kept_pairs keys separator (i ∷ is) h =
    rw (is_there keys separator i h.0)
    (elim (is_below (key_in keys i) separator) as (λ t. map (pair_in keys) (cond t (i ∷ filter (is_kept keys separator) is) (filter (is_kept keys separator) is))
    ≡ cond t (pair_in keys i ∷ filter (λ p. is_below p.0 separator) (map (pair_in keys) is)) (filter (λ p. is_below p.0 separator) (map (pair_in keys) is))) [
      | true ↦ ap (λ ps. pair_in keys i ∷ ps) (kept_pairs keys separator is h.1)
      | false ↦ kept_pairs keys separator is h.1
    ])

pub kept : (keys separator : List ℕ) (items items' : List Item) → items' ≡ filter (is_kept keys separator) items → All (IsIn keys) items
    → All (IsIn keys) items' × (map (pair_in keys) items' ≡ filter (λ p. is_below p.0 separator) (map (pair_in keys) items))
kept keys separator items items' i h = (
  subst (All (IsIn keys)) (sym i) (kept_all keys separator items h),
  ap (map (pair_in keys)) i ∙ kept_pairs keys separator items h,
)

-- ---- how long pairs are

key_length : (keys : List ℕ) (item : Item) → IsIn keys item → length (key_in keys item) ≡ item.len
key_length keys item h = length-take-le item.len (drop item.at keys) (let e = length-drop item.at keys in omega (arith, e, h))

length-blank : (n : ℕ) → length (blank n) ≡ n
length-blank n = length-replicate n 0

pub pair_length : (keys : List ℕ) (item : Item) → IsIn keys item → length (pair_bytes (pair_in keys item)) ≡ 3 + item.len + item.size
pair_length keys item h =
    let k = key_length keys item h in
    omega (
      arith,
      k,
      length-append (text (key_in keys item)) (value_bytes latest (blank item.size)),
      length-value (blank item.size),
      length-blank item.size,
    )

all_at : (P : Item → Type 0) (items : List Item) (i : ℕ) (d : Item) → i < length items → All P items → P (get_or items i d)
all_at P [] i d within h = absurd (omega arith)
all_at P (x ∷ xs) zero d within h = h.0
all_at P (x ∷ xs) (suc i) d within h = all_at P xs i d (omega arith) h.1

pub one_longer : (keys : List ℕ) (items : List Item) (i : ℕ) (d : Item) → All (IsIn keys) items → i < length items
    → length (flat_map pair_bytes (map (pair_in keys) (take (i + 1) items)))
    ≡ length (flat_map pair_bytes (map (pair_in keys) (take i items))) + (3 + (get_or items i d).len + (get_or items i d).size)
one_longer keys items i d h within =
    let n : i + 1 ≡ suc i = omega arith in
    let item : Item = get_or items i d in
    let more : take (i + 1) items ≡ take i items ++ item ∷ [] = ap (λ k. take k items) n ∙ take-suc items i d within in
    let there : IsIn keys item = all_at (IsIn keys) items i d within h in
    let all : flat_map pair_bytes (map (pair_in keys) (take (i + 1) items))
    ≡ flat_map pair_bytes (map (pair_in keys) (take i items)) ++ (pair_bytes (pair_in keys item) ++ []) =
    ap (λ (l : List Item). flat_map pair_bytes (map (pair_in keys) l)) more
    ∙ ap (flat_map pair_bytes) (map-append (pair_in keys) (take i items) (item ∷ []))
    ∙ flat_map-append pair_bytes (map (pair_in keys) (take i items)) (pair_in keys item ∷ []) in
    let whole : length (flat_map pair_bytes (map (pair_in keys) (take (i + 1) items)))
    ≡ length (flat_map pair_bytes (map (pair_in keys) (take i items)) ++ (pair_bytes (pair_in keys item) ++ [])) = ap length all in
    omega (
      arith,
      whole,
      length-append (flat_map pair_bytes (map (pair_in keys) (take i items))) (pair_bytes (pair_in keys item) ++ []),
      length-append (pair_bytes (pair_in keys item)) [],
      pair_length keys item there,
    )

-- what holds whatever was answered, holds of an error
pub on_any : {A E P : Type 0} (r : Result A E) → P → OnErr r P
on_any (Ok x) p = tt
on_any (Err e) p = p

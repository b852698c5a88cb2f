-- Where pairs begin: the lengths in an image lead from each pair to the next. And what a search in an index finds.
use Rattle.std.proofs.Common.{◌≡◌, ℕ, zero, suc, ◌+◌, ◌-◌, ◌*◌, ◌/◌, ◌%◌, ◌<◌, ◌≤◌, Bool, true, false, cond, IsTrue, Option, Some, None, List, [], ◌∷◌, ◌++◌, length, map, take, drop, get_or, slice_get, refl, sym, ap, subst, ◌∙◌, append_assoc, arith, length-append}
use Rattle.std.proofs.lemmas.List.{append-nil, drop-drop, take_all, take_at, drop_at, get_or-map, length-map}
use Rattle.std.proofs.lemmas.List.Concat.{flat_map-cons}
use Rattle.std.proofs.Math.Seq.{take-append_seam, drop-append_seam, take-length}
use Rattle.std.specs.FinMap.Entries.{find}
use Rattle.std.specs.List.{AllByRecursion as All}
use Rattle.std.specs.List.Sorted.{IsPartitionedBy, IsPartitionPoint}
use Rattle.std.specs.Ordering.{eq_by_cmp}
use Rattle.std.proofs.lemmas.Option.{slice_get-map, slice_get-get_or}
use Rattle.bw_record.specs.Keys.{is_below}
use Rattle.bw_record.proofs.Order.{Below, UpTo, below-trans, below-upto, upto-trans, below_apart, itself}
use Rattle.bw_leaf.specs.Above.{pair_above}
use Rattle.bw_leaf.specs.Changed.{Bytes, Pairs, Map, order}
use Rattle.bw_leaf.proofs.Sorted.{Rises, all-map, find-none, ascends_rises, rises-take}
use Rattle.bw_leaf.proofs.Sought.{skipped, above_from, above_found, above_between, above_none}
use Rattle.bw_page.specs.Ahead.{IsFirst}
use Rattle.bw_walks.specs.Back.{IsGreatestPair}
use Rattle.bw_reading.specs.Calls.{pair_bytes, pair_at, key_in, value_in, is_below_at}
use Rattle.bw_reading.specs.Images.{image_bytes, starts_from, end_in, end_at, pair_of, pair_before, AreAll, IsLastBefore, IsIndexOf, IsWholeIndexOf}

-- ---- one pair

key_there : (k v rest : Bytes) → take (length k) ((k ++ v) ++ rest) ≡ k
key_there k v rest = ap (λ (bs : Bytes). take (length k) bs) (append_assoc k v rest) ∙ take-append_seam k (v ++ rest)

value_there : (k v rest : Bytes) (n : ℕ) → n ≡ length v → take n (drop (length k) ((k ++ v) ++ rest)) ≡ v
value_there k v rest n e =
    ap (λ (bs : Bytes). take n (drop (length k) bs)) (append_assoc k v rest)
    ∙ ap (λ (bs : Bytes). take n bs) (drop-append_seam k (v ++ rest))
    ∙ take_at v rest n (sym e)

-- what stands behind a pair
behind : (k v rest : Bytes) (m : ℕ) → m ≡ length k + length v → drop m ((k ++ v) ++ rest) ≡ rest
behind k v rest m e = drop_at (k ++ v) rest m (length-append k v ∙ sym e)

-- a pair is read where its bytes stand
there : (image rest : Bytes) (at : ℕ) (p : Bytes × Bytes) → drop at image ≡ pair_bytes p ++ rest → pair_at image at ≡ p
there image rest at p e =
    let two : length p.1 % 256 + 256 * (length p.1 / 256) ≡ length p.1 = omega arith in
    ap (λ (bs : Bytes). (key_in bs, value_in bs)) e
    ∙ ap (λ (k : Bytes). (k, value_in (pair_bytes p ++ rest))) (key_there p.0 p.1 rest)
    ∙ ap (λ (v : Bytes). (p.0, v)) (value_there p.0 p.1 rest _ two)

-- its lengths lead to what stands behind it
next : (image rest : Bytes) (at : ℕ) (p : Bytes × Bytes) → drop at image ≡ pair_bytes p ++ rest → drop (end_at image at) image ≡ rest
next image rest at p e =
    let long : length p.0 + length p.1 % 256 + 256 * (length p.1 / 256) ≡ length p.0 + length p.1 = omega arith in
    let m : ℕ = length p.0 + length p.1 % 256 + 256 * (length p.1 / 256) in
    let same : at + (3 + length p.0 + length p.1 % 256 + 256 * (length p.1 / 256)) ≡ at + suc (suc (suc m)) = omega arith in
    let ends : end_at image at ≡ at + suc (suc (suc m)) = ap (λ (bs : Bytes). end_in bs at) e ∙ same in
    ap (λ (n : ℕ). drop n image) ends
    ∙ sym (drop-drop (suc (suc (suc m))) at image)
    ∙ ap (λ (bs : Bytes). drop (suc (suc (suc m))) bs) e
    ∙ behind p.0 p.1 rest m long

-- ---- all of them

-- from where pairs stand the lengths lead to each of them
pub leads : (image : Bytes) (n at : ℕ) (ps : Pairs) (rest : Bytes) → drop at image ≡ image_bytes ps ++ rest → n ≤ length ps
    → map (pair_at image) (starts_from image n at) ≡ take n ps
leads image zero at ps rest e few = refl
leads image (suc n) at [] rest e few = absurd (omega arith)
leads image (suc n) at (p ∷ ps) rest e few =
    let here : drop at image ≡ pair_bytes p ++ (image_bytes ps ++ rest) =
    e ∙ ap (λ (bs : Bytes). bs ++ rest) (flat_map-cons pair_bytes p ps) ∙ append_assoc (pair_bytes p) (image_bytes ps) rest in
    ap (λ (q : Bytes × Bytes). q ∷ map (pair_at image) (starts_from image n (end_at image at))) (there image (image_bytes ps ++ rest) at p here)
    ∙ ap (λ (qs : Pairs). p ∷ qs) (leads image n (end_at image at) ps rest (next image (image_bytes ps ++ rest) at p here) (omega arith))

-- an index has the first pairs
pub indexed : (m : Map) (image : Bytes) (starts : List ℕ) (is : IsIndexOf m image starts)
    → map (pair_at image) starts ≡ take (length starts) is.its.pairs
indexed m image starts is =
    ap (map (pair_at image)) is.notes
    ∙ leads image (length starts) 0 is.its.pairs is.rest (is.begins ∙ ap (λ (bs : Bytes). bs ++ is.rest) is.its.spelled)
    (omega (arith, is.within, is.its.counted))

-- ---- in order

all-at : {X : Type 0} (P : X → Type 0) (xs : List X) (i : ℕ) (d : X) → i < length xs → All P xs → P (get_or xs i d)
all-at P [] i d l h = absurd (omega arith)
all-at P (x ∷ xs) zero d l h = h.0
all-at P (x ∷ xs) (suc i) d l h = all-at P xs i d (omega arith) h.1

-- no key below another comes after one that is not
rises_parted : (key : Bytes) (ps : Pairs) → Rises ps → IsPartitionedBy (λ p. is_below p.0 key) ps
rises_parted key [] r i j d le l h = absurd (omega arith)
rises_parted key (p ∷ ps) r zero zero d le l h = h
rises_parted key (p ∷ ps) r zero (suc j) d le l h =
    let l : j < length ps = omega arith in
    below-trans p.0 (get_or ps j d).0 key (all-at (λ q. Below p.0 q.0) ps j d l r.0) h
rises_parted key (p ∷ ps) r (suc i) zero d le l h = absurd (omega arith)
rises_parted key (p ∷ ps) r (suc i) (suc j) d le l h = rises_parted key ps r.1 i j d (omega arith) (omega arith) h

-- the same of what stands for such things
parted_of : {X Y : Type 0} (f : X → Y) (p : Y → Bool) (xs : List X) → IsPartitionedBy p (map f xs) → IsPartitionedBy (λ x. p (f x)) xs
parted_of f p xs parted i j d le l h =
    let i_below : i < length xs = omega (arith, le, l) in
    let fits : j < length (map f xs) = subst (λ n. j < n) (sym (length-map xs f)) l in
    ap p (sym (get_or-map f xs i d (f d) i_below)) ∙ parted i j (f d) le fits (ap p (get_or-map f xs j d (f d) l) ∙ h)

-- no note of a pair below a key comes after one of a pair that is not
pub parted : (key : Bytes) (m : Map) (image : Bytes) (starts : List ℕ) → IsIndexOf m image starts → IsPartitionedBy (is_below_at image key) starts
parted key m image starts is =
    let rises : Rises (take (length starts) is.its.pairs) = rises-take (length starts) is.its.pairs (ascends_rises is.its.pairs is.its.whole.ascends) in
    parted_of (pair_at image) (λ p. is_below p.0 key) starts
    (subst (λ (ps : Pairs). IsPartitionedBy (λ p. is_below p.0 key) ps) (sym (indexed m image starts is))
    (rises_parted key (take (length starts) is.its.pairs) rises))

-- ---- the first pair at or above a key

-- where those before a place are below a key, and those from it on are not
point : (key : Bytes) (ps : Pairs) (n : ℕ) → n ≤ length ps
    → ((k : ℕ) (d : Bytes × Bytes) → k < n → is_below (get_or ps k d).0 key ≡ true)
    → ((k : ℕ) (d : Bytes × Bytes) → n ≤ k → k < length ps → is_below (get_or ps k d).0 key ≡ false)
    → slice_get ps n ≡ pair_above key ps
point key [] n le low high = refl
point key (p ∷ ps) zero le low high = let not : is_below p.0 key ≡ false = high 0 p (omega arith) (omega arith) in rw not refl
point key (p ∷ ps) (suc n) le low high =
    let is : is_below p.0 key ≡ true = low 0 p (omega arith) in
    rw is (point key ps n (omega arith) (λ k d l. low (suc k) d (omega arith)) (λ k d m l. high (suc k) d (omega arith) (omega arith)))

-- what the first pair above a key in all pairs of a map is to the map
first_of : (m : Map) (key : Bytes) (ps : Pairs) (o : Option (Bytes × Bytes)) → AreAll m ps → is_below key (0 ∷ []) ≡ false
    → pair_above key ps ≡ o → IsFirst m key o
first_of m key ps None all some e = λ q from. all.all q (upto-trans (0 ∷ []) key q some from) ∙ above_none key ps e q from
first_of m key ps (Some p) all some e =
    let rises : Rises ps = ascends_rises ps all.ascends in
    let from : is_below p.0 key ≡ false = above_from key ps p e in
    record {
      its = all.all p.0 (upto-trans (0 ∷ []) key p.0 some from) ∙ above_found key ps p rises e;
      from = from;
      none = λ q up below. all.all q (upto-trans (0 ∷ []) key q some up) ∙ above_between key ps p rises e q up below;
    }

-- ---- the last pair below a key

all_some : {X : Type 0} (P : X → Type 0) (xs : List X) (n : ℕ) (x : X) → All P xs → slice_get xs n ≡ Some x → P x
all_some P [] n x h e = absurd (cc)
all_some P (y ∷ ys) zero x h e = let same : y ≡ x = cc in subst P same h.0
all_some P (y ∷ ys) (suc n) x h e = all_some P ys n x h.1 e

all_from : {X : Type 0} (P : X → Type 0) (xs : List X) → ((k : ℕ) (d : X) → k < length xs → P (get_or xs k d)) → All P xs
all_from P [] h = tt
all_from P (x ∷ xs) h = (h 0 x (omega arith), all_from P xs (λ k d l. h (suc k) d (omega arith)))

-- where those up to a pair are below a key, and those behind it are not, it is the last one below
before : (key : Bytes) (ps : Pairs) (n : ℕ) (p : Bytes × Bytes) → Rises ps → slice_get ps n ≡ Some p
    → ((k : ℕ) (d : Bytes × Bytes) → k < suc n → is_below (get_or ps k d).0 key ≡ true)
    → ((k : ℕ) (d : Bytes × Bytes) → suc n ≤ k → k < length ps → is_below (get_or ps k d).0 key ≡ false)
    → IsGreatestPair (λ q. find order q ps) (λ q. IsTrue (is_below q key)) p
before key [] n p r e low high = absurd (cc)
before key (x ∷ xs) zero p r e low high =
    let same : x ≡ p = cc in
    let above : All (λ y. UpTo key y.0) xs = all_from (λ y. UpTo key y.0) xs (λ k d l. high (suc k) d (omega arith) (omega arith)) in
    subst (λ (y : Bytes × Bytes). IsGreatestPair (λ q. find order q (x ∷ xs)) (λ q. IsTrue (is_below q key)) y) same (record {
      its = ap (λ t. cond t (Some x.1) (find order x.0 xs)) (itself x.0);
      meant = low 0 x (omega arith);
      none = λ q under over. skipped q x xs over
          ∙ find-none q xs (all-map (λ y. UpTo key y.0) (λ y. eq_by_cmp order q y.0 ≡ false) (λ y up. below_apart q y.0 (below-upto q key y.0 under up)) xs above);
    })
before key (x ∷ xs) (suc n) p r e low high =
    let rest = before key xs n p r.1 e (λ k d l. low (suc k) d (omega arith)) (λ k d m l. high (suc k) d (omega arith) (omega arith)) in
    let first : Below x.0 p.0 = all_some (λ y. Below x.0 y.0) xs n p r.0 e in
    record {
      its = skipped p.0 x xs first ∙ rest.its;
      meant = rest.meant;
      none = λ q under over. skipped q x xs (below-trans x.0 p.0 q first over) ∙ rest.none q under over;
    }

-- what the last pair below a key in all pairs of a map is to the map
last_of : (m : Map) (key : Bytes) (ps : Pairs) (n : ℕ) (p : Bytes × Bytes) → AreAll m ps → slice_get ps n ≡ Some p
    → IsGreatestPair (λ q. find order q ps) (λ q. IsTrue (is_below q key)) p → IsLastBefore m key (Some p)
last_of m key ps n p all e is =
    let named : UpTo (0 ∷ []) p.0 = all_some (λ y. UpTo (0 ∷ []) y.0) ps n p all.named e in
    record {
      its = all.all p.0 named ∙ is.its;
      meant = (named, is.meant);
      none = λ q under over. all.all q under.0 ∙ is.none q under.1 over;
    }

-- where no pair is below a key
none_below : (m : Map) (key : Bytes) (ps : Pairs) → AreAll m ps → All (λ y. UpTo key y.0) ps → IsLastBefore m key None
none_below m key ps all above q under =
    all.all q under.0
    ∙ find-none q ps (all-map (λ y. UpTo key y.0) (λ y. eq_by_cmp order q y.0 ≡ false) (λ y up. below_apart q y.0 (below-upto q key y.0 under.1 up)) ps above)

-- ---- a search in the whole index

-- its answer parts the pairs
pub record PartsAt (key : Bytes) (ps : Pairs) (n : ℕ) : Type 0 where
  pub within : n ≤ length ps
  pub low : (k : ℕ) (d : Bytes × Bytes) → k < n → is_below (get_or ps k d).0 key ≡ true
  pub high : (k : ℕ) (d : Bytes × Bytes) → n ≤ k → k < length ps → is_below (get_or ps k d).0 key ≡ false

-- all pairs are there
all_there : (m : Map) (image : Bytes) (starts : List ℕ) (is : IsWholeIndexOf m image starts) → map (pair_at image) starts ≡ is.index.its.pairs
all_there m image starts is =
    let ps : Pairs = is.index.its.pairs in
    let each : length starts ≡ length ps = is.each ∙ is.index.its.counted in
    indexed m image starts is.index ∙ ap (λ (k : ℕ). take k ps) each ∙ take-length ps

parts_at : (key : Bytes) (m : Map) (image : Bytes) (starts : List ℕ) (n : ℕ) (is : IsWholeIndexOf m image starts) → n ≤ length starts
    → IsPartitionPoint (λ at. is_below_at image key at ≡ true) (λ at. is_below_at image key at ≡ false) starts n → PartsAt key is.index.its.pairs n
parts_at key m image starts n is le at =
    let ps : Pairs = is.index.its.pairs in
    let each : length starts ≡ length ps = is.each ∙ is.index.its.counted in
    let same : map (pair_at image) starts ≡ ps = all_there m image starts is in
    let read : (k : ℕ) (d : Bytes × Bytes) → k < length starts → is_below (get_or ps k d).0 key ≡ is_below_at image key (get_or starts k 0) =
    λ k d l. ap (λ (qs : Pairs). is_below (get_or qs k d).0 key) (sym same)
    ∙ ap (λ (p : Bytes × Bytes). is_below p.0 key) (get_or-map (pair_at image) starts k 0 d l) in
    record {
      within = omega (arith, each, le);
      low = λ k d l. read k d (omega (arith, l, le)) ∙ at.0 k 0 (omega arith) l;
      high = λ k d m' l. let l' : k < length starts = omega (arith, l, each) in read k d l' ∙ at.1 k 0 m' l';
    }

-- the pair of a number
pair_there : (m : Map) (image : Bytes) (starts : List ℕ) (is : IsWholeIndexOf m image starts) (n : ℕ)
    → slice_get is.index.its.pairs n ≡ pair_of image starts n
pair_there m image starts is n = ap (λ (qs : Pairs). slice_get qs n) (sym (all_there m image starts is)) ∙ slice_get-map (pair_at image) starts n

-- the first pair at or above the key
pub first_there : (key : Bytes) (m : Map) (image : Bytes) (starts : List ℕ) (n : ℕ) → IsWholeIndexOf m image starts → is_below key (0 ∷ []) ≡ false
    → n ≤ length starts
    → IsPartitionPoint (λ at. is_below_at image key at ≡ true) (λ at. is_below_at image key at ≡ false) starts n
    → IsFirst m key (pair_of image starts n)
first_there key m image starts n is some le at =
    let ps : Pairs = is.index.its.pairs in
    let parts : PartsAt key ps n = parts_at key m image starts n is le at in
    subst (λ (o : Option (Bytes × Bytes)). IsFirst m key o) (pair_there m image starts is n)
    (first_of m key ps (slice_get ps n) is.index.its.whole some (sym (point key ps n parts.within parts.low parts.high)))

-- the last pair below it
pub last_there : (key : Bytes) (m : Map) (image : Bytes) (starts : List ℕ) (n : ℕ) → IsWholeIndexOf m image starts → n ≤ length starts
    → IsPartitionPoint (λ at. is_below_at image key at ≡ true) (λ at. is_below_at image key at ≡ false) starts n
    → IsLastBefore m key (pair_before image starts n)
last_there key m image starts zero is le at =
    let ps : Pairs = is.index.its.pairs in
    let parts : PartsAt key ps 0 = parts_at key m image starts 0 is le at in
    none_below m key ps is.index.its.whole (all_from (λ y. UpTo key y.0) ps (λ k d l. parts.high k d (omega arith) l))
last_there key m image starts (suc n) is le at =
    let ps : Pairs = is.index.its.pairs in
    let parts : PartsAt key ps (suc n) = parts_at key m image starts (suc n) is le at in
    let there : n < length ps = parts.within in
    let p : Bytes × Bytes = get_or ps n ([], []) in
    let e : slice_get ps n ≡ Some p = slice_get-get_or ps n ([], []) there in
    subst (λ (o : Option (Bytes × Bytes)). IsLastBefore m key o) (sym e ∙ pair_there m image starts is n)
    (last_of m key ps n p is.index.its.whole e
    (before key ps n p (ascends_rises ps is.index.its.whole.ascends) e parts.low parts.high))

-- ---- what is noted

-- notes that are full lead to the first pairs
pub noted_lead : (image : Bytes) (starts : List ℕ) (n i at : ℕ) (ps : Pairs) (rest : Bytes) → length starts ≡ n → n ≤ i
    → starts_from image (length starts) 0 ≡ take i starts ++ starts_from image (length starts - i) at
    → image ≡ image_bytes ps ++ rest → n ≤ length ps → map (pair_at image) starts ≡ take n ps
noted_lead image starts n i at ps rest long full noted begins few =
    let none : length starts - i ≡ 0 = omega arith in
    let whole : take i starts ≡ starts = take_all i starts (omega arith) in
    let is : starts_from image n 0 ≡ starts =
    ap (λ (k : ℕ). starts_from image k 0) (sym long) ∙ noted
    ∙ ap (λ (k : ℕ). take i starts ++ starts_from image k at) none ∙ append-nil (take i starts) ∙ whole in
    ap (map (pair_at image)) (sym is) ∙ leads image n 0 ps rest begins few

-- What was read ahead says of pages, then and after other pages were written again.

use Rattle.std.proofs.Common.{◌≡◌, ℕ, zero, suc, ◌+◌, ◌-◌, ◌<◌, nat_le, Bool, true, false, if◌then◌else◌, Option, Some, None, List, [], ◌∷◌, ◌++◌, length}
use Rattle.std.proofs.Common.{Result, Ok, Err, is_ok, OnOk, OnErr, IsErrOf, IsTrue, ◌↔◌, take, drop, set, replicate, get_or, slice_get, IfSome, MatchOption}
use Rattle.std.proofs.Common.{inl, inr, refl, sym, ap, subst, ◌∙◌, arith}
use Rattle.std.specs.List.{AllByRecursion}
use Rattle.std.proofs.lemmas.Bool.{le-leb}
use Rattle.bw_codec.specs.Grammar.{block_bytes}
use Rattle.bw_record.specs.declared.leaf.Leaf.{Leaf}
use Rattle.bw_record.specs.declared.block.Place.{Place}
use Rattle.bw_record.specs.declared.block.Block.TheVariants.{Base}
use Rattle.bw_record.specs.declared.block.Frame.{Frame}
use Rattle.bw_buffer.specs.Filling.{Filling, size_of, with_all}
use Rattle.bw_buffer.proofs.Sizes.{pushed_size}
use Rattle.bw_buffer.specs.declared.fault.PutError.{PutError}
use Rattle.bw_buffer.specs.declared.fault.PutError.TheVariants.{Sealed, NoRoom}
use Rattle.bw_device.specs.Holding.{Holding}
use Rattle.bw_leaf.specs.Forwards.{content, blocks_of}
use Rattle.bw_log.specs.Contents.{Contents, counted}
use Rattle.bw_log.specs.Reads.{IsPage, segment_at}
use Rattle.bw_care.specs.Ahead.{PageRead, IsBaseOf, IsWithin, Tells, AreSpots, IsPiece, IsNoted, IsOldest, Puts}
use Rattle.bw_care.specs.Moving.{MovedBehind}
use Rattle.bw_care.specs.declared.copies.Spot.{Spot}
use Rattle.bw_care.proofs.BasesLeave.{frames_leave}
use Rattle.bw_care.proofs.CleaningSteps.{each_of, rest_is}
use Rattle.bw_care.proofs.PagesMoved.{same_some}

-- ---- the bytes

first_at : (c : Contents) (segment : ℕ) → segment ≡ c.number + 0 → segment_at c segment ≡ slice_get c.live 0
first_at c segment is =
    let least : nat_le c.number segment ≡ true = le-leb c.number segment (omega arith) in
    let none : segment - c.number ≡ 0 = omega arith in
    ap (λ (t : Bool). if t then slice_get c.live (segment - c.number) else None) least ∙ ap (slice_get c.live) none

found_by : (c : Contents) (o : Option Holding) (h : Holding) (was out : List ℕ) (found : Bool) → o ≡ Some h → was ≡ []
    → MatchOption o ((found ≡ false) × (out ≡ was)) (λ k. (found ≡ true) × (out ≡ was ++ k.bytes)) → out ≡ h.bytes
found_by c None h was out found is none told = absurd cc
found_by c (Some k) h was out found is none told =
    let same : k ≡ h = cc in
    told.1 ∙ ap (λ (l : List ℕ). l ++ k.bytes) none ∙ ap (λ (x : Holding). x.bytes) same

-- what is said of the first live segment: its number, its lease and its length
abbrev pub IsFirst : Contents → Option Holding → Option (ℕ × ℕ × ℕ) → Type 0
IsFirst c o told = MatchOption o (told ≡ None) (λ h. told ≡ Some (c.number + 0, h.lease, length h.bytes))

pub first_is : (c : Contents) (o : Option Holding) (segment lease len : ℕ) → IsFirst c o (Some (segment, lease, len)) → segment ≡ c.number + 0
first_is c None segment lease len told = absurd cc
first_is c (Some h) segment lease len told =
    ap (λ (t : ℕ × ℕ × ℕ). t.0) (same_some (segment, lease, len) (c.number + 0, h.lease, length h.bytes) told)

read_by : (c : Contents) (o : Option Holding) (segment lease len : ℕ) (was out : List ℕ) (found : Bool) → slice_get c.live 0 ≡ o
    → IsFirst c o (Some (segment, lease, len))
    → was ≡ [] → MatchOption (segment_at c segment) ((found ≡ false) × (out ≡ was)) (λ h. (found ≡ true) × (out ≡ was ++ h.bytes))
    → IsOldest c out
read_by c None segment lease len was out found is told none dumped = absurd cc
read_by c (Some h) segment lease len was out found is told none dumped =
    let number = first_is c (Some h) segment lease len told in
    subst (λ (o : Option Holding). IfSome o (λ k. out ≡ k.bytes)) (sym is)
    (found_by c (segment_at c segment) h was out found (first_at c segment number ∙ is) none dumped)

-- the bytes of the oldest segment, as they were read
pub oldest_read : (c : Contents) (segment lease len : ℕ) (was out : List ℕ) (found : Bool) → IsFirst c (slice_get c.live 0) (Some (segment, lease, len))
    → was ≡ [] → MatchOption (segment_at c segment) ((found ≡ false) × (out ≡ was)) (λ h. (found ≡ true) × (out ≡ was ++ h.bytes))
    → IsOldest c out
oldest_read c segment lease len was out found told none dumped =
    read_by c (slice_get c.live 0) segment lease len was out found refl told none dumped

-- ---- spots

abbrev no_spot : Spot
no_spot = record { at = 0; len = 0 }

pub none_tell : (c : Contents) (bytes : List ℕ) (n : ℕ) (pages : List ℕ) → AreSpots c bytes (replicate n no_spot) pages
none_tell c bytes zero pages = tt
none_tell c bytes (suc n) [] = tt
none_tell c bytes (suc n) (p ∷ ps) = (record { within = omega arith; holds = λ some. absurd (omega arith) }, none_tell c bytes n ps)

pub set_tell : (c : Contents) (bytes : List ℕ) (spots : List Spot) (pages : List ℕ) (i : ℕ) (s : Spot) → AreSpots c bytes spots pages
    → Tells c bytes (get_or pages i 0) s → AreSpots c bytes (set spots i s) pages
set_tell c bytes [] pages i s are one = tt
set_tell c bytes (t ∷ ts) [] zero s are one = tt
set_tell c bytes (t ∷ ts) [] (suc i) s are one = tt
set_tell c bytes (t ∷ ts) (p ∷ ps) zero s are one = (one, are.1)
set_tell c bytes (t ∷ ts) (p ∷ ps) (suc i) s are one = (are.0, set_tell c bytes ts ps i s are.1 one)

pub note_tells : (c : Contents) (bytes : List ℕ) (old new : List Spot) (pages : List ℕ) (page : ℕ) (s : Spot) → IsNoted pages page s old new
    → AreSpots c bytes old pages → Tells c bytes page s → AreSpots c bytes new pages
note_tells c bytes old new pages page s (inl noted) are one =
    subst (λ (l : List Spot). AreSpots c bytes l pages) (sym noted.3)
    (set_tell c bytes old pages noted.0 s are (subst (λ (p : ℕ). Tells c bytes p s) (sym noted.2) one))
note_tells c bytes old new pages page s (inr same) are one = subst (λ (l : List Spot). AreSpots c bytes l pages) (sym same) are

spot_by : (c : Contents) (bytes : List ℕ) (spots : List Spot) (pages : List ℕ) (i : ℕ) (s : Spot) → AreSpots c bytes spots pages → i < length pages
    → slice_get spots i ≡ Some s → Tells c bytes (get_or pages i 0) s
spot_by c bytes [] pages i s are inside is = absurd cc
spot_by c bytes (t ∷ ts) [] i s are inside is = absurd (omega arith)
spot_by c bytes (t ∷ ts) (p ∷ ps) zero s are inside is = let same : t ≡ s = cc in subst (Tells c bytes p) same are.0
spot_by c bytes (t ∷ ts) (p ∷ ps) (suc i) s are inside is = spot_by c bytes ts ps i s are.1 (omega arith) is

get_behind : (spots : List Spot) (from i : ℕ) → slice_get (drop from spots) i ≡ slice_get spots (from + i)
get_behind spots zero i = let e : i ≡ 0 + i = omega arith in ap (slice_get spots) e
get_behind [] (suc from) i = refl
get_behind (s ∷ ss) (suc from) i = let e : suc from + i ≡ suc (from + i) = omega arith in
    get_behind ss from i ∙ ap (slice_get (s ∷ ss)) (sym e)

pub spot_here : (c : Contents) (bytes : List ℕ) (spots : List Spot) (pages : List ℕ) (from i : ℕ) (s : Spot) → AreSpots c bytes (drop from spots) pages
    → i < length pages → slice_get spots (from + i) ≡ Some s → Tells c bytes (get_or pages i 0) s
spot_here c bytes spots pages from i s are inside is = spot_by c bytes (drop from spots) pages i s are inside (get_behind spots from i ∙ is)

within_by : (bytes : List ℕ) (o : Option Spot) → ((s : Spot) → o ≡ Some s → IsWithin bytes s) → IfSome o (IsWithin bytes)
within_by bytes None each = tt
within_by bytes (Some s) each = each s refl

-- a spot may be read
pub spot_within : (c : Contents) (bytes : List ℕ) (spots : List Spot) (pages : List ℕ) (from i : ℕ) → AreSpots c bytes (drop from spots) pages
    → i < length pages → IfSome (slice_get spots (from + i)) (IsWithin bytes)
spot_within c bytes spots pages from i are inside =
    within_by bytes (slice_get spots (from + i)) (λ s is. (spot_here c bytes spots pages from i s are inside is).within)

pub piece_here : (old now : Contents) (bytes : List ℕ) (spots : List Spot) (pages : List ℕ) (from i : ℕ) (piece : List ℕ) → now ≡ old
    → AreSpots old bytes (drop from spots) pages → i < length pages → IsPiece bytes spots (from + i) piece → IsBaseOf now (get_or pages i 0) piece
piece_here old now bytes spots pages from i piece same are inside is =
    subst (λ (c : Contents). IsBaseOf c (get_or pages i 0) piece) (sym same)
    (subst (IsBaseOf old (get_or pages i 0)) (sym is.is) ((spot_here old bytes spots pages from i is.spot are inside is.there).holds is.some))

-- ---- one page

-- what an open buffer answered of a page's Base, which joins nothing
pub put_told : (c : Contents) (p : ℕ) (leaf : Leaf) (old new : Filling) (r : Result Place PutError) (t : Bool) → PageRead c p leaf
    → old.is_sealed ≡ false → t ≡ is_ok r
    → OnOk r (new ≡ record old { blocks = old.blocks ++ Base leaf ∷ [] }) → OnErr r (new ≡ old)
    → (IsErrOf r Sealed ↔ IsTrue old.is_sealed)
    → (IsErrOf r NoRoom ↔ ((old.is_sealed ≡ false) × (old.limit < size_of (with_all old (Base leaf ∷ [])))))
    → Puts c p old t new
put_told c p leaf old new (Ok place) true read unsealed is added same sealed no_room = (leaf, read, added)
put_told c p leaf old new (Ok place) false read unsealed is added same sealed no_room = absurd cc
put_told c p leaf old new (Err Sealed) t read unsealed is added same sealed no_room = absurd (let shut = sealed.0 refl in cc)
put_told c p leaf old new (Err NoRoom) true read unsealed is added same sealed no_room = absurd cc
put_told c p leaf old new (Err NoRoom) false read unsealed is added same sealed no_room =
    (leaf, read, same, let over = no_room.0 refl in let size = pushed_size old.blocks (Base leaf) in omega arith)

-- the page that had no room
pub record NoRoomFor (c : Contents) (p : ℕ) (old new : Filling) : Type 0 where
  pub leaf : Leaf
  pub read : PageRead c p leaf
  pub same : new ≡ old
  pub over : old.limit < size_of old + length (block_bytes (Base leaf))

pub no_room_for : (old now : Contents) (p : ℕ) (was new : Filling) (t : Bool) → now ≡ old → t ≡ false → Puts now p was t new → NoRoomFor old p was new
no_room_for old now p was new true same none put = absurd cc
no_room_for old now p was new false same none put =
    subst (λ (c : Contents). NoRoomFor c p was new) same (record { leaf = put.0; read = put.1; same = put.2; over = put.3 })

-- ---- pages moved since

page_kept : (old now : Contents) (p : ℕ) (piece : List ℕ) → ((q : ℕ) → content q (blocks_of (counted now)) ≡ content q (blocks_of (counted old)))
    → now.m ≡ old.m → IsBaseOf old p piece → IsBaseOf now p piece
page_kept old now p piece same m base = record {
  leaf = base.leaf;
  read = record {
    page = base.read.page;
    stands = same base.leaf.page ∙ base.read.stands;
    lawful = rw m base.read.lawful;
  };
  spelled = base.spelled;
}

spots_kept : (old now : Contents) (bytes : List ℕ) (spots : List Spot) (pages : List ℕ)
    → ((q : ℕ) → content q (blocks_of (counted now)) ≡ content q (blocks_of (counted old)))
    → now.m ≡ old.m → AreSpots old bytes spots pages → AreSpots now bytes spots pages
spots_kept old now bytes [] pages same m are = tt
spots_kept old now bytes (s ∷ ss) [] same m are = tt
spots_kept old now bytes (s ∷ ss) (p ∷ ps) same m are = (
  record { within = are.0.within; holds = λ some. page_kept old now p (take s.len (drop s.at bytes)) same m (are.0.holds some) },
  spots_kept old now bytes ss ps same m are.1,
)

spots_behind : (c : Contents) (bytes : List ℕ) (spots : List Spot) (pages : List ℕ) (i : ℕ) → AreSpots c bytes spots pages
    → AreSpots c bytes (drop i spots) (drop i pages)
spots_behind c bytes spots pages zero are = are
spots_behind c bytes [] pages (suc i) are = tt
spots_behind c bytes (s ∷ ss) [] (suc i) are = none_behind c bytes (drop i ss) where
  none_behind : (c : Contents) (bytes : List ℕ) (spots : List Spot) → AreSpots c bytes spots []
  none_behind c bytes [] = tt
  none_behind c bytes (s ∷ ss) = tt
spots_behind c bytes (s ∷ ss) (p ∷ ps) (suc i) are = spots_behind c bytes ss ps i are.1

pub spots_rest : (last : ℕ) (old now : Contents) (bytes : List ℕ) (spots : List Spot) (pages : List ℕ) (i : ℕ) (ps rest : List ℕ) (n : ℕ)
    → MovedBehind last old now ps rest n
    → AreSpots old bytes spots pages → AreSpots now bytes (drop i spots) (take (length pages - i) (drop i pages))
spots_rest last old now bytes spots pages i ps rest n moved are =
    let same : (p : ℕ) → content p (blocks_of (counted now)) ≡ content p (blocks_of (counted old)) =
    λ p. ap (λ (fs : List Frame). content p (blocks_of fs)) moved.counts ∙ frames_leave p (counted old) moved.written moved.holds.bases in
    subst (AreSpots now bytes (drop i spots)) (sym (rest_is pages i))
    (spots_behind now bytes spots pages i (spots_kept old now bytes spots pages same moved.m are))

-- ---- the pages

pub page_here : (old now : Contents) (pages : List ℕ) (i d : ℕ) → now ≡ old → AllByRecursion (IsPage old) pages → i < length pages
    → IsPage now (get_or pages i d)
page_here old now pages i d same all inside =
    subst (λ (c : Contents). IsPage c (get_or pages i d)) (sym same) (each_of (IsPage old) pages i d all inside)

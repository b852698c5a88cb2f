-- How long the body gets, and which block is joined after others.

use Rattle.std.proofs.Common.{◌≡◌, ℕ, suc, ◌+◌, ◌<◌, ◌≤◌, Bool, true, false, Option, Some, None, List, [], ◌∷◌, ◌++◌, length, take, get_or, refl, sym}
use Rattle.std.proofs.Common.{ap, ◌∙◌, subst, arith}
use Rattle.std.proofs.Common.{append-nil, if◌then◌else◌, length-append}
use Rattle.std.specs.Prelude.{◌==◌, nat_le, is_some, unwrap_or}
use Rattle.std.proofs.lemmas.Grind.{fold-append, flat_map-append}
use Rattle.std.proofs.lemmas.List.{take_more}
use Rattle.std.proofs.lemmas.Bool.{eqb-true}
use Rattle.bw_record.specs.Touch.{touches}
use Rattle.bw_codec.specs.Grammar.{op_bytes, block_bytes, body_bytes}
use Rattle.bw_record.specs.declared.record.Record.{Record}
use Rattle.bw_record.specs.declared.block.Place.{Place}
use Rattle.bw_record.specs.declared.block.Block.{Block}
use Rattle.bw_record.specs.declared.block.Block.TheVariants.{Delta, Base, Split}
use Rattle.bw_codec.proofs.Lengths.{length-delta}
use Rattle.bw_buffer.specs.Filling.{Filling, size_of, with_all}
use Rattle.bw_buffer.specs.Joining.{is_delta, open_after, open_from, last_delta, records_in, records_after, open_records, takes, joins_of, joined, added}
use Rattle.bw_buffer.specs.Counting.{front_length, grown, records_with}
use Rattle.bw_buffer.proofs.Joined.{StandsOpen, JoinsOne, joins_parts, joins_one, joins_none, records_here, records_stand}
use Rattle.std.specs.List.{flat_map, fold}

-- ---- one block more

pub pushed_size : (bs : List Block) (b : Block) → length (body_bytes (bs ++ b ∷ [])) ≡ length (body_bytes bs) + length (block_bytes b)
pushed_size bs b =
    omega (
      arith,
      ap (λ (l : List ℕ). length l) (flat_map-append block_bytes bs (b ∷ [])),
      length-append (body_bytes bs) (block_bytes b ++ []),
      ap (λ (l : List ℕ). length l) (append-nil (block_bytes b)),
    )

pub joined_size_at : (bs : List Block) (p : ℕ) (back : Place) (ops : List Record) (i : ℕ) → joins_of (length ops) p bs ≡ Some i
    → length (body_bytes (joined bs (Delta p back ops))) ≡ length (body_bytes bs) + length (flat_map op_bytes ops)
joined_size_at bs p back ops i e =
    let j : JoinsOne p back ops i bs = joins_one p back ops i bs e in
    let s : StandsOpen p i bs = j.stands in
    omega (
      arith,
      ap (λ (l : List Block). length (body_bytes l)) s.split,
      ap (λ (l : List Block). length (body_bytes l)) j.is,
      ap (λ (l : List ℕ). length l) (flat_map-append block_bytes s.before (Delta p s.back s.was ∷ s.behind)),
      ap (λ (l : List ℕ). length l) (flat_map-append block_bytes s.before (Delta p s.back (s.was ++ ops) ∷ s.behind)),
      length-append (body_bytes s.before) (block_bytes (Delta p s.back s.was) ++ body_bytes s.behind),
      length-append (body_bytes s.before) (block_bytes (Delta p s.back (s.was ++ ops)) ++ body_bytes s.behind),
      length-append (block_bytes (Delta p s.back s.was)) (body_bytes s.behind),
      length-append (block_bytes (Delta p s.back (s.was ++ ops))) (body_bytes s.behind),
      length-delta p s.back s.was,
      length-delta p s.back (s.was ++ ops),
      ap (λ (l : List ℕ). length l) (flat_map-append op_bytes s.was ops),
      length-append (flat_map op_bytes s.was) (flat_map op_bytes ops),
    )

pub joined_size_none : (bs : List Block) (p : ℕ) (back : Place) (ops : List Record) → joins_of (length ops) p bs ≡ None
    → length (body_bytes (joined bs (Delta p back ops))) ≡ length (body_bytes bs) + length (block_bytes (Delta p back ops))
joined_size_none bs p back ops e = ap (λ (l : List Block). length (body_bytes l)) (joins_none p back ops bs e) ∙ pushed_size bs (Delta p back ops)

delta_size : (bs : List Block) (p : ℕ) (back : Place) (ops : List Record) (o : Option ℕ) → joins_of (length ops) p bs ≡ o
    → length (body_bytes (joined bs (Delta p back ops))) + (if is_some o then 19 else 0) ≡ length (body_bytes bs) + length (block_bytes (Delta p back ops))
delta_size bs p back ops None e = (let n = joined_size_none bs p back ops e in omega arith)
delta_size bs p back ops (Some i) e = (let n = joined_size_at bs p back ops i e in let d = length-delta p back ops in omega arith)

delta_longer : (bs : List Block) (p : ℕ) (back : Place) (ops : List Record) (o : Option ℕ) → joins_of (length ops) p bs ≡ o
    → length (body_bytes bs) ≤ length (body_bytes (joined bs (Delta p back ops)))
delta_longer bs p back ops None e = (let n = joined_size_none bs p back ops e in omega arith)
delta_longer bs p back ops (Some i) e = (let n = joined_size_at bs p back ops i e in omega arith)

pub joined_longer : (bs : List Block) (b : Block) → length (body_bytes bs) ≤ length (body_bytes (joined bs b))
joined_longer bs (Delta p back ops) = delta_longer bs p back ops (joins_of (length ops) p bs) refl
joined_longer bs (Base leaf) = (let n = pushed_size bs (Base leaf) in omega arith)
joined_longer bs (Split page back upper) = (let n = pushed_size bs (Split page back upper) in omega arith)

-- several are never shorter
pub added_longer : (bs more : List Block) → length (body_bytes bs) ≤ length (body_bytes (added bs more))
added_longer bs [] = omega arith
added_longer bs (b ∷ rest) = (let one = joined_longer bs b in let all = added_longer (joined bs b) rest in omega arith)

pub added_more : (bs xs ys : List Block) → added bs (xs ++ ys) ≡ added (added bs xs) ys
added_more bs xs ys = fold-append joined bs xs ys

-- ---- whether a block is joined

delta_some : (i : ℕ) (b : Block) → is_some (if is_delta b then Some i else None) ≡ is_some (records_in b)
delta_some i (Delta page back ops) = refl
delta_some i (Base leaf) = refl
delta_some i (Split page back upper) = refl

pub last_some : (p i : ℕ) (was records : Option ℕ) (bs : List Block) → is_some was ≡ is_some records
    → is_some (open_from p i was bs) ≡ is_some (fold (records_after p) records bs)
last_some p i was records [] h = h
last_some p i was records (b ∷ bs) h =
    last_some p (suc i) (open_after p i b was) (records_after p records b) bs
    (elim (touches p b) as (λ t. is_some (if t then (if is_delta b then Some i else None) else was) ≡ is_some (if t then records_in b else records)) [
      | true ↦ delta_some i b
      | false ↦ h
    ])

-- a block is joined exactly if it has room
pub joins_some : (n p : ℕ) (bs : List Block) → is_some (joins_of n p bs) ≡ takes n (open_records p bs)
joins_some n p bs =
    elim (open_records p bs) as (λ o. is_some (last_delta p bs) ≡ is_some o → is_some (if takes n o then last_delta p bs else None) ≡ takes n o) [
      | None ↦ λ h. refl
      | Some was ↦ λ h. elim (nat_le (was + n) 65535) as (λ t. is_some (if t then last_delta p bs else None) ≡ t) [ true ↦ h | false ↦ refl ]
    ] (last_some p 0 None None bs refl)

pub joined_size : (bs : List Block) (p : ℕ) (back : Place) (ops : List Record)
    → length (body_bytes (joined bs (Delta p back ops))) + (if takes (length ops) (open_records p bs) then 19 else 0)
    ≡ length (body_bytes bs) + length (block_bytes (Delta p back ops))
joined_size bs p back ops =
    ap (λ (t : Bool). length (body_bytes (joined bs (Delta p back ops))) + (if t then 19 else 0)) (sym (joins_some (length ops) p bs))
    ∙ delta_size bs p back ops (joins_of (length ops) p bs) refl

-- ---- how many records there are then

records_push : (p : ℕ) (bs : List Block) (b : Block) → open_records p (bs ++ b ∷ []) ≡ records_after p (open_records p bs) b
records_push p bs b = fold-append (records_after p) None bs (b ∷ [])

records_apart : (p q : ℕ) (before behind : List Block) (back : Place) (ops : List Record) → (q == p) ≡ false
    → open_records p (before ++ Delta q back ops ∷ behind) ≡ fold (records_after p) (open_records p before) behind
records_apart p q before behind back ops other =
    fold-append (records_after p) None before (Delta q back ops ∷ behind)
    ∙ ap (λ (t : Bool). fold (records_after p) (if t then Some (length ops) else open_records p before) behind) other

grown_new : (was : Option ℕ) (n : ℕ) → takes n was ≡ false → grown was n ≡ n
grown_new was n full = ap (λ (t : Bool). if t then unwrap_or was 0 + n else n) full

grown_more : (was : Option ℕ) (n c : ℕ) → was ≡ Some c → takes n was ≡ true → grown was n ≡ c + n
grown_more was n c is room = ap (λ (t : Bool). if t then unwrap_or was 0 + n else n) room ∙ ap (λ (o : Option ℕ). unwrap_or o 0 + n) is

records_delta : (p q : ℕ) (back : Place) (ops : List Record) (bs : List Block) (o : Option ℕ) → joins_of (length ops) q bs ≡ o
    → open_records p (joined bs (Delta q back ops)) ≡ (if q == p then Some (grown (open_records p bs) (length ops)) else open_records p bs)
records_delta p q back ops bs None e =
    ap (open_records p) (joins_none q back ops bs e)
    ∙ records_push p bs (Delta q back ops)
    ∙ elim (q == p) as (λ t. (q == p) ≡ t → (if t then Some (length ops) else open_records p bs)
    ≡ (if t then Some (grown (open_records p bs) (length ops)) else open_records p bs)) [
      | true ↦ λ t. (
          let full : takes (length ops) (open_records q bs) ≡ false = sym (joins_some (length ops) q bs) ∙ ap is_some e in
          let same = subst (λ (n : ℕ). takes (length ops) (open_records n bs) ≡ false) (eqb-true q p t) full in
          ap Some (sym (grown_new (open_records p bs) (length ops) same)))
      | false ↦ λ t. refl
    ] refl
records_delta p q back ops bs (Some i) e =
    let j : JoinsOne q back ops i bs = joins_one q back ops i bs e in
    let s : StandsOpen q i bs = j.stands in
    let room = (joins_parts (length ops) q i bs e).1 in
    ap (open_records p) j.is
    ∙ elim (q == p) as (λ t. (q == p) ≡ t → open_records p (s.before ++ Delta q s.back (s.was ++ ops) ∷ s.behind)
    ≡ (if t then Some (grown (open_records p bs) (length ops)) else open_records p bs)) [
      | true ↦ λ t. (
          let here : open_records q (s.before ++ Delta q s.back (s.was ++ ops) ∷ s.behind) ≡ Some (grown (open_records q bs) (length ops)) =
          records_here q s.before s.behind s.back (s.was ++ ops) s.quiet
          ∙ ap Some (length-append s.was ops ∙ sym (grown_more (open_records q bs) (length ops) (length s.was) (records_stand q i bs s) room)) in
          subst (λ (n : ℕ). open_records n (s.before ++ Delta q s.back (s.was ++ ops) ∷ s.behind) ≡ Some (grown (open_records n bs) (length ops)))
          (eqb-true q p t) here)
      | false ↦ λ t.
          records_apart p q s.before s.behind s.back (s.was ++ ops) t
          ∙ sym (records_apart p q s.before s.behind s.back s.was t)
          ∙ ap (open_records p) (sym s.split)
    ] refl

pub records_joined : (p : ℕ) (bs : List Block) (b : Block) → open_records p (joined bs b) ≡ records_with p (open_records p bs) b
records_joined p bs (Delta q back ops) = records_delta p q back ops bs (joins_of (length ops) q bs) refl
records_joined p bs (Base leaf) = records_push p bs (Base leaf)
records_joined p bs (Split page back upper) = records_push p bs (Split page back upper)

-- the next of a list of blocks
pub added_next : (bs more : List Block) (i : ℕ) (b : Block) → i < length more → b ≡ get_or more i b
    → added bs (take (i + 1) more) ≡ joined (added bs (take i more)) b
added_next bs more i b inside is =
    ap (added bs) (take_more more i b inside ∙ ap (λ (x : Block). take i more ++ x ∷ []) (sym is)) ∙ added_more bs (take i more) (b ∷ [])

pub records_step : (p : ℕ) (bs others : List Block) (i : ℕ) (b : Block) (was : Option ℕ) → i < length others → b ≡ get_or others i b
    → was ≡ open_records p (added bs (take i others))
    → records_with p was b ≡ open_records p (added bs (take (i + 1) others))
records_step p bs others i b was inside is h =
    ap (λ (o : Option ℕ). records_with p o b) h
    ∙ sym (records_joined p (added bs (take i others)) b)
    ∙ ap (λ (l : List Block). open_records p l) (sym (added_next bs others i b inside is))

-- what one block adds
pub more_for : (f : Filling) (others : List Block) (b : Block)
    → size_of (with_all f (others ++ b ∷ [])) ≡ 20 + length (body_bytes (joined (added f.blocks others) b))
more_for f others b = ap (λ (l : List Block). 20 + length (body_bytes l)) (added_more f.blocks others (b ∷ []))

pub one_length : (item : Record) → length (flat_map op_bytes (item ∷ [])) ≡ length (op_bytes item)
one_length item = ap length (append-nil (op_bytes item))

-- how long the frame is with a Delta that joins this block, or none
pub with_delta : (f : Filling) (p : ℕ) (back : Place) (ops : List Record) (o : Option ℕ) → joins_of (length ops) p f.blocks ≡ o
    → size_of (with_all f (Delta p back ops ∷ [])) ≡ size_of f + (front_length o + length (flat_map op_bytes ops))
with_delta f p back ops None e = (let n = joined_size_none f.blocks p back ops e in let d = length-delta p back ops in omega arith)
with_delta f p back ops (Some i) e = (let n = joined_size_at f.blocks p back ops i e in omega arith)

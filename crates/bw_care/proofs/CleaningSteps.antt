-- What the functions hand on.

use Rattle.std.proofs.Common.{inl, inr, ◌≡◌, ◌⊎◌, ℕ, zero, suc, ◌+◌, ◌-◌, ◌<◌, ◌≤◌, ◌&&◌, nat_lt, Bool, true, false, if◌then◌else◌, Option, Some, None}
use Rattle.std.proofs.Common.{Result, Ok, Err, IfOk, IfErr, take_all, List, [], ◌∷◌, ◌++◌, length, map, take, drop, get_or, refl, sym, ap, subst, ◌∙◌}
use Rattle.std.proofs.Common.{append_assoc}
use Rattle.std.proofs.Common.{arith}
use Rattle.std.specs.List.{AllByRecursion}
use Rattle.std.proofs.lemmas.Bool.{cases_lt}
use Rattle.bw_codec.specs.Grammar.{block_bytes, body_bytes, frame_bytes, IsBase}
use Rattle.bw_record.specs.declared.leaf.Leaf.{Leaf}
use Rattle.bw_record.specs.declared.block.Block.{Block}
use Rattle.bw_record.specs.declared.block.Block.TheVariants.{Base}
use Rattle.bw_record.specs.declared.block.Frame.{Frame}
use Rattle.bw_codec.proofs.Wider.{block_wider}
use Rattle.bw_leaf.specs.Forwards.{content, blocks_of}
use Rattle.bw_page.specs.Standing.{Stand}
use Rattle.bw_buffer.specs.Filling.{Filling, frame_of}
use Rattle.bw_log.specs.Places.{base_of}
use Rattle.bw_log.specs.Contents.{Contents, boxes, counted, IsSound}
use Rattle.bw_log.specs.Reads.{HoldsPage, IsPage, StopsAt}
use Rattle.bw_log.specs.Appends.{MayFollow, AfterAppend, IsSameLog, Answers, OnDevice, Rose, refusal, wants_segment, spares_wanted, is_spent}
use Rattle.bw_log.specs.Appends as appends
use Rattle.bw_log.specs.declared.fault.LogFault.{LogFault}
use Rattle.bw_log.specs.declared.fault.LogFault.TheVariants.{NoMemory, BadConfig, NoSegment, Device, Failed, Spent, NoPage}
use Rattle.bw_log.proofs.Entries.{all_mapped}
use Rattle.bw_log.proofs.Fetched.{stops_since}
use Rattle.bw_log.proofs.GivenUp.{all_behind}
use Rattle.bw_log.proofs.Reread.{length-frame}
use Rattle.bw_care.specs.Ahead.{PageRead}
use Rattle.bw_care.specs.Cleaning.{is_old, old_from, oldest_last, page_of}
use Rattle.bw_care.specs.Moving.{AreBases, HoldsSome, IsFull, IsNextBehind, IsReason, MovedBehind, NextFrame, Refused, StoppedBehind}
use Rattle.bw_care.proofs.BasesLeave.{largest_base, may_follow, next_range, stand_more}
use Rattle.bw_care.proofs.BoxesGrown.{read_failed}
use Rattle.bw_care.proofs.OldestHolds.{holds_at}
use Rattle.bw_care.proofs.OldPages.{oldest_below, old_step}
use Rattle.bw_care.proofs.Receivers.{asked_box}
use Rattle.bw_care.proofs.PagesMoved.{frame_lawful, moved_one, moved_none, moved_then, take_more, take_drop_all, drop_twice}

-- each frame has a number from 1 on
pub none_behind : (c : Contents) → IsSound c → IsNextBehind 0 c
none_behind c sound = λ n is. (next_range c n sound is).0

pub oldest_behind : (c : Contents) → IsSound c → IsNextBehind (oldest_last c c.live) c
oldest_behind c sound = λ n is. oldest_below c n is (next_range c n sound is).0

-- ---- the pages that are old

pub old_starts : (items : List ℕ) (last : ℕ) (fs : List Frame) (n : ℕ) → items ≡ [] → items ++ old_from last fs 1 (n - 0) ≡ old_from last fs 1 n
old_starts items last fs n none = ap (λ (l : List ℕ). l ++ old_from last fs 1 (n - 0)) none ∙ ap (old_from last fs 1) (omega arith)

pub old_pushed : (items now all : List ℕ) (last : ℕ) (fs : List Frame) (i n : ℕ) → items ++ old_from last fs (i + 1) (n - i) ≡ all → i < n
    → is_old last (base_of (i + 1) fs) ≡ true → now ≡ items ++ (i + 1) ∷ []
    → now ++ old_from last fs (i + 1 + 1) (n - (i + 1)) ≡ all
old_pushed items now all last fs i n kept inside is push =
    ap (λ (l : List ℕ). l ++ old_from last fs (i + 1 + 1) (n - (i + 1))) push
    ∙ append_assoc items ((i + 1) ∷ []) (old_from last fs (i + 1 + 1) (n - (i + 1)))
    ∙ ap (λ (l : List ℕ). items ++ l) (sym (old_step last fs i n true inside is)) ∙ kept

pub old_skipped : (items now all : List ℕ) (last : ℕ) (fs : List Frame) (i n : ℕ) → items ++ old_from last fs (i + 1) (n - i) ≡ all → i < n
    → is_old last (base_of (i + 1) fs) ≡ false → now ≡ items
    → now ++ old_from last fs (i + 1 + 1) (n - (i + 1)) ≡ all
old_skipped items now all last fs i n kept inside is push =
    ap (λ (l : List ℕ). l ++ old_from last fs (i + 1 + 1) (n - (i + 1))) push
    ∙ ap (λ (l : List ℕ). items ++ l) (sym (old_step last fs i n false inside is)) ∙ kept

-- ---- one more page in the buffer

pub each_of : {A : Type 0} (P : A → Type 0) (xs : List A) (i : ℕ) (d : A) → AllByRecursion P xs → i < length xs → P (get_or xs i d)
each_of P [] i d are inside = absurd (omega arith)
each_of P (x ∷ xs) zero d are inside = are.0
each_of P (x ∷ xs) (suc i) d are inside = each_of P xs i d are.1 (omega arith)

pub take_next : (xs : List ℕ) (i d : ℕ) → i < length xs → take (i + 1) xs ≡ take i xs ++ get_or xs i d ∷ []
take_next [] i d inside = absurd (omega arith)
take_next (x ∷ xs) zero d inside = refl
take_next (x ∷ xs) (suc i) d inside =
    let e : suc i + 1 ≡ suc (i + 1) = omega arith in
    ap (λ (k : ℕ). take k (x ∷ xs)) e ∙ ap (λ (l : List ℕ). x ∷ l) (take_next xs i d (omega arith))

pub read_lawful : (c : Contents) (p : ℕ) (leaf : Leaf) → IsSound c → PageRead c p leaf → IsBase 32 leaf
read_lawful c p leaf sound r = block_wider c.m 32 (Base leaf) (let few = sound.holds.limits.1 in omega arith) r.lawful

-- a page that does not fit is not the first
not_first_by : (blocks : List Block) (pages : List ℕ) (i limit : ℕ) (leaf : Leaf) → map page_of blocks ≡ take i pages → i ≡ 0 → 65536 ≤ limit → IsBase 32 leaf
    → limit < 20 + length (body_bytes blocks) + length (block_bytes (Base leaf)) → ⊥
not_first_by [] pages i limit leaf told none most is over =
    let small = largest_base 32 leaf (omega arith) is in
    let empty : length (body_bytes []) ≡ 0 = refl in
    absurd (omega arith)
not_first_by (b ∷ bs) pages i limit leaf told none most is over =
    let e = ap (λ (l : List ℕ). length l) (told ∙ ap (λ (k : ℕ). take k pages) none) in absurd (omega arith)

pub not_first : (c : Contents) (blocks : List Block) (pages : List ℕ) (i limit : ℕ) (leaf : Leaf) → IsSound c → limit ≡ c.f → AreBases c blocks (take i pages)
    → IsBase 32 leaf
    → limit < 20 + length (body_bytes blocks) + length (block_bytes (Base leaf)) → 0 < i
not_first c blocks pages i limit leaf sound same bs is over =
    elim (cases_lt 0 i) [
      | inl some ↦ some
      | inr none ↦ absurd (not_first_by blocks pages i limit leaf bs.told (omega arith) (let most = sound.holds.limits.2 in omega arith) is over)
    ]

-- ---- refusals

-- what a refused read of one of the pages leaves
pub stops_for : (c now new : Contents) (pages : List ℕ) (i d : ℕ) (fault : LogFault) → now ≡ c → i < length pages
    → StopsAt (HoldsPage now (get_or pages i d)) now fault new → StopsAt (HoldsSome c pages) c fault new
stops_for c now new pages i d fault same inside stops =
    stops_since (HoldsPage now (get_or pages i d)) (HoldsSome c pages) c now new fault same
    (λ at holds. holds_at c pages i d at inside (subst (λ (k : Contents). HoldsPage k (get_or pages i d) at) same holds)) stops

pub fill_refused : (reads : ℕ → Type 0) (old new : Contents) (fault : LogFault) → StopsAt reads old fault new → (fault ≡ NoPage → ⊥) → Refused fault old new
fill_refused reads old new NoMemory stops other = stops
fill_refused reads old new BadConfig stops other = stops
fill_refused reads old new NoSegment stops other = absurd stops
fill_refused reads old new (Device lease) stops other = read_failed reads lease old new stops
fill_refused reads old new Failed stops other = stops
fill_refused reads old new Spent stops other = stops.0
fill_refused reads old new NoPage stops other = absurd (other refl)

-- a read is refused only if a page is left
pub fill_reason : (old new : Contents) (fault : LogFault) (pages : List ℕ) → StopsAt (HoldsSome old pages) old fault new → (fault ≡ NoPage → ⊥)
    → 0 < length pages → IsReason fault old pages
fill_reason old new NoMemory pages stops other some = tt
fill_reason old new BadConfig pages stops other some = stops
fill_reason old new NoSegment pages stops other some = absurd stops
fill_reason old new (Device lease) pages stops other some =
    (some, inl (record { at = stops.at; holds = stops.read; segment = stops.segment; is = stops.was; named = stops.named }))
fill_reason old new Failed pages stops other some = stops
fill_reason old new Spent pages stops other some = (some, inr (inl stops.1))
fill_reason old new NoPage pages stops other some = absurd (other refl)

IsKind : LogFault → Type 0
IsKind fault = (fault ≡ Failed) ⊎ ((fault ≡ NoSegment) ⊎ (fault ≡ Spent))

kind_by : (a b c : Bool) (fault : LogFault) → (if a then Some Failed else if b then Some NoSegment else if c then Some Spent else None) ≡ Some fault
    → IsKind fault
unfolding IsKind
kind_by true b c fault is = inl cc
kind_by false true c fault is = inr (inl cc)
kind_by false false true fault is = inr (inr cc)
kind_by false false false fault is = absurd cc

kind_of : (c : Contents) (len : ℕ) (fault : LogFault) → refusal c len true ≡ Some fault → IsKind fault
kind_of c len fault is = kind_by c.is_failed (wants_segment c len && nat_lt (length c.spares) (spares_wanted true)) (is_spent c len) fault is

not_failed_by : (t b c : Bool) → t ≡ false → (if t then Some Failed else if b then Some NoSegment else if c then Some Spent else None) ≡ Some Failed → ⊥
not_failed_by true b c works is = cc
not_failed_by false true c works is = cc
not_failed_by false false true works is = cc
not_failed_by false false false works is = cc

not_bad : (c : Contents) (len : ℕ) → refusal c len true ≡ Some BadConfig → ⊥
unfolding IsKind
not_bad c len is = elim (kind_of c len BadConfig is) [ inl a ↦ cc | inr b ↦ elim b [ inl x ↦ cc | inr y ↦ cc ] ]

not_page : (c : Contents) (len : ℕ) → refusal c len true ≡ Some NoPage → ⊥
unfolding IsKind
not_page c len is = elim (kind_of c len NoPage is) [ inl a ↦ cc | inr b ↦ elim b [ inl x ↦ cc | inr y ↦ cc ] ]

err_same : (a b : LogFault) → ◌≡◌ {A = Result (Unit {0}) LogFault} (Err a) (Err b) → Some b ≡ Some a
err_same a b e = cc

asked : (o : Option LogFault) (fault : LogFault) → Answers o (Err fault) → (o ≡ Some fault) ⊎ ((o ≡ None) × Answers None (Err fault))
asked None fault answers = inr (refl, answers)
asked (Some f) fault answers = inl (err_same fault f answers)

same_since : (old now new : Contents) → now ≡ old → new ≡ now → new ≡ old
same_since old now new a b = b ∙ a

append_refused_by : (old : Contents) (x : Frame) (ps : List ℕ) (new : Contents) (fault : LogFault) → AreBases old x.blocks ps → old.is_failed ≡ false
    → length (frame_bytes x) ≤ old.f
    → (refusal old (length (frame_bytes x)) true ≡ Some fault) ⊎ ((refusal old (length (frame_bytes x)) true ≡ None) × Answers None (Err fault))
    → OnDevice {A = Unit {0}} (Err fault) (λ lease. Rose lease (boxes old) (boxes new) × appends.Stopped old x new) (new ≡ old) → IsSameLog old new
    → Refused fault old new
append_refused_by old x ps new NoMemory bs works short answers device same = device
append_refused_by old x ps new BadConfig bs works short (inl a) device same = not_bad old (length (frame_bytes x)) a
append_refused_by old x ps new BadConfig bs works short (inr a) device same = a.1
append_refused_by old x ps new NoSegment bs works short (inl a) device same = device
append_refused_by old x ps new NoSegment bs works short (inr a) device same = absurd a.1
append_refused_by old x ps new (Device lease) bs works short answers device same =
    record { left = inr (record { frame = x; pages = ps; holds = bs; stopped = device.1 }); rose = device.0; counts = device.1.frames; same = same }
append_refused_by old x ps new Failed bs works short (inl a) device same =
    not_failed_by old.is_failed (wants_segment old (length (frame_bytes x)) && nat_lt (length old.spares) (spares_wanted true))
    (is_spent old (length (frame_bytes x))) works a
append_refused_by old x ps new Failed bs works short (inr a) device same = a.1
append_refused_by old x ps new Spent bs works short (inl a) device same = device
append_refused_by old x ps new Spent bs works short (inr a) device same = absurd a.1
append_refused_by old x ps new NoPage bs works short (inl a) device same = not_page old (length (frame_bytes x)) a
append_refused_by old x ps new NoPage bs works short (inr a) device same = a.1

pub append_refused : (old now : Contents) (x : Frame) (ps : List ℕ) (new : Contents) (fault : LogFault) → AreBases old x.blocks ps → now ≡ old
    → old.is_failed ≡ false → length (frame_bytes x) ≤ old.f
    → Answers (refusal now (length (frame_bytes x)) true) (Err fault)
    → OnDevice {A = Unit {0}} (Err fault) (λ lease. Rose lease (boxes now) (boxes new) × appends.Stopped now x new) (new ≡ now) → IsSameLog now new
    → Refused fault old new
append_refused old now x ps new fault bs same works short answers device log =
    subst (λ (c : Contents). Refused fault c new) same
    (append_refused_by now x ps new fault (subst (λ (c : Contents). AreBases c x.blocks ps) (sym same) bs) (ap (λ (c : Contents). c.is_failed) same ∙ works)
    (subst (λ (c : Contents). length (frame_bytes x) ≤ c.f) (sym same) short) (asked (refusal now (length (frame_bytes x)) true) fault answers) device log)

next_some : (c : Contents) (pages : List ℕ) (x : Frame) → NextFrame c pages x → 0 < length pages
next_some c pages x n = let more = n.some in let inside = n.inside in omega arith

-- a device failed at the append
device_reason : (c new : Contents) (pages : List ℕ) (x : Frame) (lease : ℕ) → NextFrame c pages x → refusal c (length (frame_bytes x)) true ≡ None
    → Rose lease (boxes c) (boxes new) × appends.Stopped c x new → IsReason (Device lease) c pages
device_reason c new pages x lease next may device =
    let asked = asked_box c new x lease may device in
    (next_some c pages x next, inr (record { frame = x; next = next; box = asked.box; is = asked.is; named = asked.named }))

not_device : (c : Contents) (len lease : ℕ) → refusal c len true ≡ Some (Device lease) → ⊥
unfolding IsKind
not_device c len lease is = elim (kind_of c len (Device lease) is) [ inl a ↦ cc | inr b ↦ elim b [ inl x ↦ cc | inr y ↦ cc ] ]

append_reason_by : (c new : Contents) (pages : List ℕ) (x : Frame) (fault : LogFault) → NextFrame c pages x → c.is_failed ≡ false
    → length (frame_bytes x) ≤ c.f
    → (refusal c (length (frame_bytes x)) true ≡ Some fault) ⊎ ((refusal c (length (frame_bytes x)) true ≡ None) × Answers None (Err fault))
    → OnDevice {A = Unit {0}} (Err fault) (λ lease. Rose lease (boxes c) (boxes new) × appends.Stopped c x new) (new ≡ c)
    → IsReason fault c pages
append_reason_by c new pages x NoMemory next works short answers device = tt
append_reason_by c new pages x BadConfig next works short (inl a) device = not_bad c (length (frame_bytes x)) a
append_reason_by c new pages x BadConfig next works short (inr a) device = a.1
append_reason_by c new pages x NoSegment next works short (inl a) device = record { frame = x; next = next; short = short; told = a }
append_reason_by c new pages x NoSegment next works short (inr a) device = absurd a.1
append_reason_by c new pages x (Device lease) next works short (inl a) device = absurd (not_device c (length (frame_bytes x)) lease a)
append_reason_by c new pages x (Device lease) next works short (inr a) device = device_reason c new pages x lease next a.0 device
append_reason_by c new pages x Failed next works short (inl a) device =
    not_failed_by c.is_failed (wants_segment c (length (frame_bytes x)) && nat_lt (length c.spares) (spares_wanted true))
    (is_spent c (length (frame_bytes x))) works a
append_reason_by c new pages x Failed next works short (inr a) device = a.1
append_reason_by c new pages x Spent next works short (inl a) device =
    (next_some c pages x next, inr (inr (record { frame = x; next = next; short = short; told = a })))
append_reason_by c new pages x Spent next works short (inr a) device = absurd a.1
append_reason_by c new pages x NoPage next works short (inl a) device = not_page c (length (frame_bytes x)) a
append_reason_by c new pages x NoPage next works short (inr a) device = a.1

pub append_reason : (old now new : Contents) (pages : List ℕ) (x : Frame) (fault : LogFault) → NextFrame old pages x → now ≡ old → old.is_failed ≡ false
    → length (frame_bytes x) ≤ old.f → Answers (refusal now (length (frame_bytes x)) true) (Err fault)
    → OnDevice {A = Unit {0}} (Err fault) (λ lease. Rose lease (boxes now) (boxes new) × appends.Stopped now x new) (new ≡ now) → IsReason fault old pages
append_reason old now new pages x fault next same works short answers device =
    append_reason_by old new pages x fault next works short
    (asked (refusal old (length (frame_bytes x)) true) fault
    (subst (λ (c : Contents). Answers (refusal c (length (frame_bytes x)) true) (Err fault)) same answers))
    (subst (λ (c : Contents). OnDevice {A = Unit {0}} (Err fault) (λ lease. Rose lease (boxes c) (boxes new) × appends.Stopped c x new) (new ≡ c)) same device)

-- ---- a frame of them

some_blocks : (c : Contents) (blocks : List Block) (pages : List ℕ) (n : ℕ) → AreBases c blocks (take n pages) → 0 < n → n ≤ length pages → 1 ≤ length blocks
some_blocks c [] pages n bs some inside = absurd (none pages n bs.told some inside)
  where
    none : (pages : List ℕ) (n : ℕ) → [] ≡ take n pages → 0 < n → n ≤ length pages → ⊥
    none [] n is some inside = omega arith
    none (p ∷ ps) zero is some inside = omega arith
    none (p ∷ ps) (suc n) is some inside = cc
some_blocks c (b ∷ bs) pages n are some inside = omega arith

some_page : (c : Contents) (pages : List ℕ) → AllByRecursion (IsPage c) pages → 0 < length pages → 1 ≤ length c.pages
some_page c [] are some = absurd (omega arith)
some_page c (p ∷ ps) are some = let low = are.0.0 in let high = are.0.1 in omega arith

pub follows_filled : (old now : Contents) (x : Frame) (pages : List ℕ) (n : ℕ) → IsSound old → now ≡ old → AllByRecursion (IsPage old) pages → 0 < length pages
    → AreBases old x.blocks (take n pages) → 0 < n → n ≤ length pages
    → old.next ≡ Some x.number → length (frame_bytes x) ≤ old.f → MayFollow now x
follows_filled old now x pages n sound same are some bs more inside number short =
    subst (λ (c : Contents). MayFollow c x) (sym same)
    (may_follow old x sound (some_page old pages are some) number
    (frame_lawful old x sound number bs.lawful (some_blocks old x.blocks pages n bs more inside) short) bs.bases)

long_taken : (n : ℕ) (xs : List ℕ) → 0 < n → n ≤ length xs → 1 ≤ length (take n xs)
long_taken zero xs some inside = absurd (omega arith)
long_taken (suc n) [] some inside = absurd (omega arith)
long_taken (suc n) (x ∷ xs) some inside = omega arith

pub moved_filled : (last : ℕ) (old now new : Contents) (x : Frame) (pages : List ℕ) (n : ℕ) → IsNextBehind last old
    → 0 < n → n ≤ length pages → IsSound old → now ≡ old
    → AllByRecursion (IsPage old) pages → 0 < length pages → AreBases old x.blocks (take n pages)
    → old.next ≡ Some x.number → AfterAppend now x true (Ok tt) new → IsFull old x (drop n pages) → MovedBehind last old new (take n pages) (drop n pages) 1
moved_filled last old now new x pages n behind more inside sound same are some bs number after full =
    moved_one last old new x (take n pages) (drop n pages) behind full (long_taken n pages more inside) sound (some_page old pages are some) bs number
    (subst (λ (c : Contents). AfterAppend c x true (Ok tt) new) same after)

-- ---- all frames

take_whole : (xs : List ℕ) (n : ℕ) → n ≡ length xs → take n xs ≡ xs
take_whole [] zero is = refl
take_whole [] (suc n) is = absurd (omega arith)
take_whole (x ∷ xs) zero is = absurd (omega arith)
take_whole (x ∷ xs) (suc n) is = ap (λ (l : List ℕ). x ∷ l) (take_whole xs n (omega arith))

drop_long : (xs : List ℕ) (i : ℕ) → length (drop i xs) ≡ length xs - i
drop_long xs zero = omega arith
drop_long [] (suc i) = omega arith
drop_long (x ∷ xs) (suc i) = let e = drop_long xs i in omega arith

-- the rest of a list, as it is handed on
pub rest_is : (xs : List ℕ) (i : ℕ) → take (length xs - i) (drop i xs) ≡ drop i xs
rest_is xs i = take_whole (drop i xs) (length xs - i) (sym (drop_long xs i))

pub rest_pages : (last : ℕ) (old now : Contents) (pages : List ℕ) (i : ℕ) (ps : List ℕ) (n : ℕ) → AllByRecursion (IsPage old) pages
    → MovedBehind last old now ps (drop i pages) n
    → AllByRecursion (IsPage now) (take (length pages - i) (drop i pages))
rest_pages last old now pages i ps n are moved =
    subst (AllByRecursion (IsPage now)) (sym (rest_is pages i))
    (all_behind (IsPage now) (take i pages) (drop i pages) (subst (AllByRecursion (IsPage now)) (take_drop_all pages i)
    (all_mapped (IsPage old) (IsPage now) pages (λ p there. (there.0, let high = there.1 in let table = moved.table in omega arith)) are)))

pub moved_more : (last : ℕ) (old now new : Contents) (pages : List ℕ) (i k n : ℕ) → MovedBehind last old now (take i pages) (drop i pages) n
    → MovedBehind last now new (take k (take (length pages - i) (drop i pages))) (drop k (take (length pages - i) (drop i pages))) 1
    → MovedBehind last old new (take (i + k) pages) (drop (i + k) pages) (n + 1)
moved_more last old now new pages i k n x y =
    subst (λ (l : List ℕ). MovedBehind last old new l (drop (i + k) pages) (n + 1)) (take_more pages i k)
    (subst (λ (l : List ℕ). MovedBehind last old new (take i pages ++ take k (drop i pages)) l (n + 1)) (drop_twice k i pages)
    (moved_then last old now new (take i pages) (take k (drop i pages)) (drop k (drop i pages)) n 1
    (subst (λ (l : List ℕ). MovedBehind last old now (take i pages) l n) (take_drop_all (drop i pages) k) x)
    (subst (λ (l : List ℕ). MovedBehind last now new (take k l) (drop k l) 1) (rest_is pages i) y)))

drop_all : (xs : List ℕ) (i : ℕ) → length xs ≤ i → drop i xs ≡ []
drop_all [] zero long = refl
drop_all [] (suc i) long = refl
drop_all (x ∷ xs) zero long = absurd (omega arith)
drop_all (x ∷ xs) (suc i) long = drop_all xs i (omega arith)

pub moved_end : (last : ℕ) (old now : Contents) (pages : List ℕ) (i n : ℕ) → length pages ≤ i → MovedBehind last old now (take i pages) (drop i pages) n
    → MovedBehind last old now pages [] n
moved_end last old now pages i n end x =
    subst (λ (l : List ℕ). MovedBehind last old now l [] n) (take_all i pages end)
    (subst (λ (l : List ℕ). MovedBehind last old now (take i pages) l n) (drop_all pages i end) x)

-- as the pages of the log as it was
pub moved_told : (last : ℕ) (old now new : Contents) (pages ps : List ℕ) (result : Result ℕ LogFault) → now ≡ old → pages ≡ ps → IsNextBehind last old
    → ((k : ℕ) → IsNextBehind k now → IfOk result (λ frames. MovedBehind k now new pages [] frames))
    → IfOk result (λ frames. MovedBehind last old new ps [] frames)
moved_told last old now new pages ps result same is behind told =
    subst (λ (l : List ℕ). IfOk result (λ frames. MovedBehind last old new l [] frames)) is
    (subst (λ (c : Contents). (k : ℕ) → IsNextBehind k c → IfOk result (λ frames. MovedBehind k c new pages [] frames)) same told last behind)

pub stopped_told : (last : ℕ) (old now new : Contents) (pages ps : List ℕ) (result : Result ℕ LogFault) → now ≡ old → pages ≡ ps → IsNextBehind last old
    → ((k : ℕ) → IsNextBehind k now → IfErr result (λ fault. StoppedBehind k now pages fault new))
    → IfErr result (λ fault. StoppedBehind last old ps fault new)
stopped_told last old now new pages ps result same is behind told =
    subst (λ (l : List ℕ). IfErr result (λ fault. StoppedBehind last old l fault new)) is
    (subst (λ (c : Contents). (k : ℕ) → IsNextBehind k c → IfErr result (λ fault. StoppedBehind k c pages fault new)) same told last behind)

pub stopped_at : (last : ℕ) (old now new : Contents) (pages : List ℕ) (i n : ℕ) (fault : LogFault) → MovedBehind last old now (take i pages) (drop i pages) n
    → Refused fault now new → IsReason fault now (take (length pages - i) (drop i pages)) → StoppedBehind last old pages fault new
stopped_at last old now new pages i n fault moved refused reason = record {
  then_log = now;
  frames = n;
  done = take i pages;
  rest = drop i pages;
  pages = take_drop_all pages i;
  moved = moved;
  refused = refused;
  reason = subst (IsReason fault now) (rest_is pages i) reason;
}

pub stopped_first : (last : ℕ) (old new : Contents) (pages : List ℕ) (fault : LogFault) → IsNextBehind last old → old.is_failed ≡ false → Refused fault old new
    → IsReason fault old pages → StoppedBehind last old pages fault new
stopped_first last old new pages fault behind works refused reason = record {
  then_log = old;
  frames = 0;
  done = [];
  rest = pages;
  pages = refl;
  moved = moved_none last old pages behind works;
  refused = refused;
  reason = reason;
}

-- ---- what stands

moved_stands : (last : ℕ) (old now : Contents) (ps rs : List ℕ) (n : ℕ) (leaves : List Leaf) → MovedBehind last old now ps rs n
    → Stand old.m (counted old) leaves
    → Stand old.m (counted now) leaves
moved_stands last old now ps rs n leaves moved stand =
    subst (λ (fs : List Frame). Stand old.m fs leaves) (sym moved.counts) (stand_more old.m (counted old) moved.written leaves stand moved.holds.bases)

pub moved_stand : (last : ℕ) (old now : Contents) (ps rs : List ℕ) (n : ℕ) (leaves : List Leaf) → MovedBehind last old now ps rs n
    → Stand old.m (counted old) leaves
    → Stand now.m (counted now) leaves
moved_stand last old now ps rs n leaves moved stand = subst (λ (m : ℕ). Stand m (counted now) leaves) (sym moved.m)
    (moved_stands last old now ps rs n leaves moved stand)

same_counts : (old new : Contents) (fault : LogFault) → Refused fault old new → counted new ≡ counted old
same_counts old new NoMemory refused = ap counted refused
same_counts old new BadConfig refused = absurd refused
same_counts old new NoSegment refused = ap counted refused
same_counts old new (Device lease) refused = refused.counts
same_counts old new Failed refused = absurd refused
same_counts old new Spent refused = ap counted refused
same_counts old new NoPage refused = absurd refused

pub stopped_stands : (last : ℕ) (old new : Contents) (pages : List ℕ) (fault : LogFault) → StoppedBehind last old pages fault new
    → (leaves : List Leaf) → Stand old.m (counted old) leaves
    → Stand old.m (counted new) leaves
stopped_stands last old new pages fault s leaves stand =
    subst (λ (fs : List Frame). Stand old.m fs leaves) (sym (same_counts s.then_log new fault s.refused))
    (moved_stands last old s.then_log s.done s.rest s.frames leaves s.moved stand)

pub same_m : (last : ℕ) (old now : Contents) (fs : List Frame) (ps rs : List ℕ) (n : ℕ) (leaves : List Leaf) → MovedBehind last old now ps rs n
    → Stand now.m fs leaves
    → Stand old.m fs leaves
same_m last old now fs ps rs n leaves moved stand = subst (λ (m : ℕ). Stand m fs leaves) moved.m stand

-- ---- the buffer of one frame

pub record Sends (old : Contents) (pages : List ℕ) (n first : ℕ) (x : Filling) : Type 0 where
  pub holds : AreBases old x.blocks (take n pages)
  pub number : x.frame ≡ first
  pub limit : x.limit ≡ old.f

pub sends_of : (old : Contents) (made filled sent : Filling) (pages : List ℕ) (n first most : ℕ)
    → made ≡ record { frame = first; limit = most; blocks = []; is_sealed = false } → most ≡ old.f
    → filled ≡ record made { blocks = filled.blocks } → AreBases old filled.blocks (take n pages) → sent ≡ record filled { is_sealed = true }
    → Sends old pages n first sent
sends_of old made filled sent pages n first most a same b holds d = record {
  holds = subst (λ (bs : List Block). AreBases old bs (take n pages)) (sym (ap (λ (x : Filling). x.blocks) d)) holds;
  number = ap (λ (x : Filling). x.frame) d ∙ ap (λ (x : Filling). x.frame) b ∙ ap (λ (x : Filling). x.frame) a;
  limit = ap (λ (x : Filling). x.limit) d ∙ ap (λ (x : Filling). x.limit) b ∙ ap (λ (x : Filling). x.limit) a ∙ same;
}

pub short_enough : {old : Contents} {pages : List ℕ} {n first : ℕ} {x : Filling} → Sends old pages n first x → length (frame_bytes (frame_of x)) ≤ x.limit
    → length (frame_bytes (frame_of x)) ≤ old.f
short_enough {old} {pages} {n} {first} {x} s fits = subst (λ (k : ℕ). length (frame_bytes (frame_of x)) ≤ k) s.limit fits

pub follows_sent : (old now : Contents) (x : Filling) (pages : List ℕ) (n first : ℕ) → IsSound old → now ≡ old → AllByRecursion (IsPage old) pages
    → 0 < length pages → Sends old pages n first x → 0 < n → n ≤ length pages
    → old.next ≡ Some first → length (frame_bytes (frame_of x)) ≤ x.limit → MayFollow now (frame_of x)
follows_sent old now x pages n first sound same are some s more inside next fits =
    follows_filled old now (frame_of x) pages n sound same are some s.holds more inside (next ∙ ap (λ (k : ℕ). Some k) (sym s.number)) (short_enough s fits)

pub moved_sent : (last : ℕ) (old now new : Contents) (x : Filling) (pages : List ℕ) (n first : ℕ) → IsNextBehind last old
    → 0 < n → n ≤ length pages → IsSound old → now ≡ old
    → AllByRecursion (IsPage old) pages → 0 < length pages → Sends old pages n first x
    → old.next ≡ Some first → AfterAppend now (frame_of x) true (Ok tt) new → IsFull old (frame_of x) (drop n pages)
    → MovedBehind last old new (take n pages) (drop n pages) 1
moved_sent last old now new x pages n first behind more inside sound same are some s next after full =
    moved_filled last old now new (frame_of x) pages n behind more inside sound same are some s.holds (next ∙ ap (λ (k : ℕ). Some k) (sym s.number)) after full

-- the frame sent is the next one of these pages
pub next_sent : (old : Contents) (filled sent : Filling) (pages : List ℕ) (n first : ℕ) → Sends old pages n first sent → 0 < n → n ≤ length pages
    → sent ≡ record filled { is_sealed = true } → IsFull old (frame_of filled) (drop n pages) → NextFrame old pages (frame_of sent)
next_sent old filled sent pages n first s more inside is full = record {
  many = n;
  some = more;
  inside = inside;
  holds = s.holds;
  full = subst (λ (x : Frame). IsFull old x (drop n pages)) (sym (ap frame_of is)) full;
}

pub other_fault : (fault : LogFault) → (◌≡◌ {A = Result ℕ LogFault} (Err fault) (Err NoPage) → ⊥) → fault ≡ NoPage → ⊥
other_fault fault other is = other (ap (λ (f : LogFault). Err f) is)

pub rest_inside : (xs : List ℕ) (i k : ℕ) → k ≤ length (take (length xs - i) (drop i xs)) → i ≤ length xs → i + k ≤ length xs
rest_inside xs i k le inside = let e = ap (λ (l : List ℕ). length l) (rest_is xs i) in omega (arith, drop_long xs i)

-- ---- frames that are full

drop_here : (xs : List ℕ) (i d : ℕ) → i < length xs → drop i xs ≡ get_or xs i d ∷ drop (i + 1) xs
drop_here [] i d inside = absurd (omega arith)
drop_here (x ∷ xs) zero d inside = refl
drop_here (x ∷ xs) (suc i) d inside = let e : suc i + 1 ≡ suc (i + 1) =
    omega arith in drop_here xs i d (omega arith) ∙ ap (λ (k : ℕ). get_or xs i d ∷ drop k (x ∷ xs)) (sym e)

same_leaf : (o : Option Leaf) (a b : Leaf) → o ≡ Some a → o ≡ Some b → a ≡ b
same_leaf o a b x y = cc

pub full_here : (c : Contents) (x : Filling) (pages : List ℕ) (i d limit : ℕ) (leaf : Leaf) → i < length pages → PageRead c (get_or pages i d) leaf
    → limit ≡ c.f
    → limit < 20 + length (body_bytes x.blocks) + length (block_bytes (Base leaf)) → IsFull c (frame_of x) (drop i pages)
full_here c x pages i d limit leaf inside r same over = subst (IsFull c (frame_of x)) (sym (drop_here pages i d inside))
    (λ other there.
    (let e : leaf ≡ other = same_leaf (content (get_or pages i d) (blocks_of (counted c))) leaf other
    (ap (λ (p : ℕ). content p (blocks_of (counted c))) (sym r.page) ∙ r.stands) there in
    subst (λ (l : Leaf). c.f < length (frame_bytes (frame_of x)) + length (block_bytes (Base l))) e (omega (arith, length-frame (frame_of x)))))

pub full_end : (c : Contents) (x : Filling) (pages : List ℕ) (i : ℕ) → i ≡ length pages → IsFull c (frame_of x) (drop i pages)
full_end c x pages i is = subst (IsFull c (frame_of x)) (sym (ap (λ (k : ℕ). drop k pages) is ∙ drop_end pages)) tt
  where
    drop_end : (xs : List ℕ) → drop (length xs) xs ≡ []
    drop_end [] = refl
    drop_end (x ∷ xs) = drop_end xs

pub full_sent : (c : Contents) (filled sent : Filling) (ps : List ℕ) → sent ≡ record filled { is_sealed = true } → IsFull c (frame_of filled) ps
    → IsFull c (frame_of sent) ps
full_sent c filled sent ps is full = subst (λ (x : Frame). IsFull c x ps) (sym (ap frame_of is)) full

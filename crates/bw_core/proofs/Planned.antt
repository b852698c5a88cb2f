-- What was planned is lawful and short, and what an answer of a turn says of it.

use Rattle.std.proofs.Common.{◌≡◌, ℕ, ◌+◌, ◌-◌, ◌/◌, ◌^◌, ◌<◌, ◌≤◌, true, false, Option, Some, None, Result, Ok, Err, inl, inr, List, [], ◌∷◌}
use Rattle.std.proofs.Common.{Bool, length, refl, sym, ap, ◌∙◌, subst, arith, if◌then◌else◌, length-append, length-drop, append-nil}
use Rattle.std.specs.Prelude.{nat_le, IsTrue, ◌↔◌, IfErr, OnOk, OnErr}
use Rattle.bw_making.specs.declared.plan.Plan.{Plan}
use Rattle.bw_making.specs.Planning.{listed, IsWantingAt}
use Rattle.bw_terms.specs.declared.fault.StoreFault.{StoreFault}
use Rattle.bw_terms.specs.declared.fault.StoreFault.TheVariants.{NoMemory, BadConfig, NoSegment, Device, Failed, Spent, NoPage, NothingOld}
use Rattle.bw_ring.specs.declared.lane.Lane.{Lane}
use Rattle.bw_ring.specs.Marks.{marked}
use Rattle.bw_history.specs.Lanes.{IsNext}
use Rattle.bw_core.specs.Faults.{FlushAnswers, FlushLeaves, flush_refusal}
use Rattle.bw_terms.specs.Told.{fault_of_apply}
use Rattle.std.specs.Option.{unwrap_or}
use Rattle.bw_core.specs.Fitting.{Fits, back_for, group_blocks, here_at}
use Rattle.bw_core.specs.Taking.{MakesRoom, IsPlan, GroupLeaves, Took, WaitingLeaves, IsWanting, IsUnplanned, Works}
use Rattle.bw_core.proofs.Refusing.{entered_not, none_of}
use Rattle.bw_core.specs.Taken.{alone, taken, taken_all}
use Rattle.std.specs.List.{AllByRecursion as All}
use Rattle.bw_record.specs.Lawful.{IsOp}
use Rattle.bw_codec.specs.Grammar.{body_bytes, block_bytes, IsBlock}
use Rattle.bw_record.specs.declared.record.Record.{Record}
use Rattle.bw_record.specs.declared.leaf.Leaf.{Leaf}
use Rattle.bw_record.specs.declared.block.Place.{Place}
use Rattle.bw_record.specs.declared.block.Block.{Block}
use Rattle.bw_record.specs.declared.block.Block.TheVariants.{Delta, Split}
use Rattle.bw_codec.proofs.Sizing.{largest_blocks}
use Rattle.bw_page.specs.Leaves.{directed_at, HasPage, AreLeaves}
use Rattle.bw_leaf.specs.SplitRule.{upper_of}
use Rattle.std.specs.List.{slice_get}
use Rattle.bw_page.specs.declared.fault.ApplyError.{ApplyError}
use Rattle.bw_page.specs.declared.fault.ApplyError.TheVariants as apply
use Rattle.bw_page.specs.Shown.{Shown, IsSpent}
use Rattle.bw_codec.proofs.Wider.{blocks_wider}
use Rattle.bw_buffer.specs.Filling.{Filling, frame_of, size_of, with_all}
use Rattle.bw_buffer.proofs.Holding.{few_blocks}
use Rattle.bw_log.specs.Contents as logs
use Rattle.bw_log.proofs.Adding.{following_is}
use Rattle.bw_core.specs.Kept.{Kept, IsSound}
use Rattle.bw_making.proofs.Joins.{added_shorter}
use Rattle.bw_core.proofs.Growing.{Takes, blocks_lawful}
use Rattle.bw_core.proofs.FramesBehind.{following_fits}
use Rattle.bw_making.specs.Adding.{here_for, blocks_for, nowhere, result_of}
use Rattle.bw_page.proofs.Law as law

-- ---- lengths

half_top : (m : ℕ) → m ≤ 32 → m + 1 ≤ (m + 1) / 2 + 17
half_top m le = omega arith

pub blocks_short : (m : ℕ) (leaves : List Leaf) (back here : Place) (r : Record) → m ≤ 32 → AreLeaves m leaves → IsOp r
    → All (IsBlock m) (blocks_for m leaves back here r) → length (body_bytes (blocks_for m leaves back here r)) ≤ 12000
blocks_short m leaves back here r le a op lawful =
    elim (nat_le (length (result_of leaves r).pairs) m) as (λ b.
    All (IsBlock m) (if b then Delta (directed_at leaves r) back (r ∷ []) ∷ [] else Delta (directed_at leaves r) back (r ∷ []) ∷ Split
    (directed_at leaves r) here (upper_of m (length leaves + 1) (result_of leaves r)) ∷ [])
    → length (body_bytes (if b then Delta (directed_at leaves r) back (r ∷ []) ∷ [] else Delta (directed_at leaves r) back (r ∷ []) ∷ Split
    (directed_at leaves r) here (upper_of m (length leaves + 1) (result_of leaves r)) ∷ [])) ≤ 12000) [
      | true ↦ λ h. (let d = largest_blocks.delta (directed_at leaves r) back r h.0 in omega arith)
      | false ↦ λ h. (
          let u = upper_of m (length leaves + 1) (result_of leaves r) in
          let wide : All (IsBlock 32) (Delta (directed_at leaves r) back (r ∷ []) ∷ Split (directed_at leaves r) here u ∷ []) =
          blocks_wider m 32 (Delta (directed_at leaves r) back (r ∷ []) ∷ Split (directed_at leaves r) here u ∷ []) le h in
          let few = (law.directed m leaves r a op).few in
          let half = half_top m le in
          let long = length-drop ((m + 1) / 2) (result_of leaves r).pairs in
          let count : length u.pairs ≤ 17 = omega arith in
          let delta = Delta (directed_at leaves r) back (r ∷ []) in
          let split = Split (directed_at leaves r) here u in
          let d = largest_blocks.delta (directed_at leaves r) back r h.0 in
          let g = largest_blocks.split (directed_at leaves r) here u wide.1.0 count in
          let e = length-append (block_bytes delta) (body_bytes (split ∷ [])) in
          let f = ap length (append-nil (block_bytes delta)) in omega arith)
    ] lawful

pub takes_by : (s : Kept) → IsSound s → (item : Record) (back : Place) → IsOp item → HasPage s.filed.m s.filed.leaves item → s.log.next ≡ Some s.making.frame
    → size_of s.making ≤ s.making.limit
    → slice_get s.newest (directed_at s.filed.leaves item - 1) ≡ Some back
    → Takes s.filed.m (logs.counted s.log) (frame_of s.making) s.filed.leaves s.newest back item
takes_by s h item back op room next fits last =
    let number = following_is (s.before + s.durable) s.making.frame (sym h.next ∙ next) in
    let bound = following_fits (s.before + s.durable) s.making.frame (sym h.next ∙ next) in
    let l = h.log.holds.limits in
    let p = h.pairs in
    let k = few_blocks s.making.blocks in
    let limit = h.limit in
    record { some = omega arith; grown = h.grown; op = op; room = room; last = last; number = (omega arith, bound); few = omega arith }

some_blocks : (s : Kept) (item : Record) (back : Place)
    → (1 ≤ length (blocks_for s.filed.m s.filed.leaves back (here_at s item) item))
    × (length (blocks_for s.filed.m s.filed.leaves back (here_at s item) item) ≤ 2)
some_blocks s item back =
    elim (nat_le (length (result_of s.filed.leaves item).pairs) s.filed.m) as
    (λ b. (1 ≤ length (if b then Delta (directed_at s.filed.leaves item) back (item ∷ []) ∷ [] else Delta (directed_at s.filed.leaves item) back (item ∷ [])
    ∷ Split (directed_at s.filed.leaves item) (here_at s item) (upper_of s.filed.m (length s.filed.leaves + 1) (result_of s.filed.leaves item))
    ∷ [])) × (length (if b then Delta (directed_at s.filed.leaves item) back (item ∷ []) ∷ [] else Delta (directed_at s.filed.leaves item) back (item ∷ [])
    ∷ Split (directed_at s.filed.leaves item) (here_at s item)
    (upper_of s.filed.m (length s.filed.leaves + 1) (result_of s.filed.leaves item)) ∷ []) ≤ 2)) [
      | true ↦ (omega arith, omega arith)
      | false ↦ (omega arith, omega arith)
    ]

-- what a plan says, on a sound store: the blocks are lawful, few and short
pub plan_lawful : (s : Kept) → IsSound s → (item : Record) (back : Place) (blocks : List Block) → IsOp item → HasPage s.filed.m s.filed.leaves item
    → s.log.next ≡ Some s.making.frame → size_of s.making ≤ s.making.limit
    → slice_get s.newest (directed_at s.filed.leaves item - 1) ≡ Some back → blocks ≡ blocks_for s.filed.m s.filed.leaves back (here_at s item) item
    → All (IsBlock 32) blocks × (length blocks ≤ 2) × (1 ≤ length blocks) × (length (body_bytes blocks) ≤ 12000)
plan_lawful s h item back blocks op room next fits last made =
    let t = takes_by s h item back op room next fits last in
    let all = blocks_lawful s.filed.m (logs.counted s.log) (frame_of s.making) s.filed.leaves s.newest back item t in
    let some = some_blocks s item back in
    let l = h.log.holds.limits in
    let p = h.pairs in
    let le : s.filed.m ≤ 32 = omega arith in (
      subst (All (IsBlock 32)) (sym made) (blocks_wider s.filed.m 32 _ le all),
      subst (λ (bs : List Block). length bs ≤ 2) (sym made) some.1,
      subst (λ (bs : List Block). 1 ≤ length bs) (sym made) some.0,
      subst (λ (bs : List Block). length (body_bytes bs) ≤ 12000) (sym made)
          (blocks_short s.filed.m s.filed.leaves back (here_at s item) item le h.grown.stands.lawful op all),
    )

-- the same of what planning answers
module _ (s : Kept) (h : IsSound s) (item : Record) (op : IsOp item) (next : s.log.next ≡ Some s.making.frame) (free : ℕ)
    (fits : free + size_of s.making ≡ s.making.limit) (page : ℕ) (in_page : page ≡ directed_at s.filed.leaves item) (here : Place)
    (at : here ≡ here_for (frame_of s.making) page) where
  pub plan_all : (p : Plan) → p.page ≡ directed_at s.filed.leaves item → slice_get s.newest (p.page - 1) ≡ Some p.back → HasPage s.filed.m s.filed.leaves item
      → listed p.blocks ≡ blocks_for s.filed.m s.filed.leaves p.back here item
      → All (IsBlock 32) (listed p.blocks) × (length (listed p.blocks) ≤ 2) × (1 ≤ length (listed p.blocks)) × (length (body_bytes (listed p.blocks)) ≤ 12000)
  plan_all p page back room blocks =
      plan_lawful s h item p.back (listed p.blocks) op room next (omega arith)
      (subst (λ (n : ℕ). slice_get s.newest (n - 1) ≡ Some p.back) page back)
      (blocks ∙ ap (λ (x : Place). blocks_for s.filed.m s.filed.leaves p.back x item) (at ∙ ap (here_for (frame_of s.making)) in_page))

-- ---- whether the blocks of a plan fit

-- what a test for room says of the list that the slice is
module _ (making : Filling) (blocks slice : List Block) {b : Bool} (tests : IsTrue b ↔ (size_of (with_all making slice) ≤ making.limit)) where
  pub some_room : b ≡ true → slice ≡ blocks → size_of (with_all making blocks) ≤ making.limit
  some_room is same = subst (λ (bs : List Block). size_of (with_all making bs) ≤ making.limit) same (tests.0 is)

  pub no_room : b ≡ false → slice ≡ blocks → size_of (with_all making blocks) ≤ making.limit → ⊥
  no_room is same fits =
      let there : b ≡ true = tests.1 (subst (λ (bs : List Block). size_of (with_all making bs) ≤ making.limit) (sym same) fits) in
      cc

pub back_at : (newest : List Place) (at : ℕ) (back : Place) → slice_get newest at ≡ Some back → unwrap_or (slice_get newest at) nowhere ≡ back
back_at newest at back is = ap (λ (o : Option Place). unwrap_or o nowhere) is

planned_blocks : (s : Kept) (item : Record) (plan : Plan) → IsPlan s item plan → listed plan.blocks ≡ group_blocks s (item ∷ [])
planned_blocks s item plan p =
    let back = back_at s.newest (directed_at s.filed.leaves item - 1) plan.back
    (subst (λ (n : ℕ). slice_get s.newest (n - 1) ≡ Some plan.back) p.page p.back) in
    p.blocks ∙ ap (λ (b : Place). blocks_for s.filed.m s.filed.leaves b (here_at s item) item) (sym back)
    ∙ sym (append-nil (blocks_for s.filed.m s.filed.leaves (back_for s item) (here_at s item) item))

pub plan_fits : (s : Kept) (item : Record) (plan : Plan) → IsPlan s item plan → size_of (with_all s.making (listed plan.blocks)) ≤ s.making.limit
    → Fits s (item ∷ [])
plan_fits s item plan p fits =
    subst (λ (bs : List Block). size_of (with_all s.making bs) ≤ s.making.limit) (planned_blocks s item plan p) fits

pub plan_full : (s : Kept) (item : Record) (plan : Plan) → IsPlan s item plan
    → (size_of (with_all s.making (listed plan.blocks)) ≤ s.making.limit → ⊥) → Fits s (item ∷ []) → ⊥
plan_full s item plan p over fits =
    over (subst (λ (bs : List Block). size_of (with_all s.making bs) ≤ s.making.limit) (sym (planned_blocks s item plan p)) fits)

-- an empty frame has room for the blocks of any record
pub flushed_empty : (old new : Kept) (o : Option ℕ) → FlushLeaves old (Ok o) new → new.making.blocks ≡ []
flushed_empty old new None f = ap (λ (s : Kept). s.making.blocks) f.0 ∙ f.1
flushed_empty old new (Some n) f = ap (λ (s : Kept). s.making.blocks) f.is ∙ f.empty

pub fits_empty : (s : Kept) (blocks : List Block) → IsSound s → s.making.blocks ≡ [] → length (body_bytes blocks) ≤ 12000
    → size_of (with_all s.making blocks) ≤ s.making.limit
fits_empty s blocks h empty few =
    let shorter = added_shorter s.making.blocks blocks in
    let none = ap (λ (bs : List Block). length (body_bytes bs)) empty in
    let zero : length (body_bytes []) ≡ 0 = refl in
    let limit = h.limit in
    let most = h.log.holds.limits.2 in
    omega arith

-- what is known of a flush that answered Ok, for a group that did not fit
pub flushed_or_not : (group : List Record) (old new : Kept) (o : Option ℕ) → (Fits old group → ⊥) → FlushAnswers (flush_refusal old) (Ok o)
    → FlushLeaves old (Ok o) new → MakesRoom group old new
flushed_or_not group old new None full a f = inl f.0
flushed_or_not group old new (Some n) full a f = inr (full, none_of (flush_refusal old) (Some n) a, (n, f))

-- a group that was to be entered, after a flush or not
pub entered_or_not : (lane : ℕ) (away : ℕ → Bool) (old middle new : Kept) (group : List Record) (r : Result (Unit {0}) StoreFault)
    → (1 ≤ length group) × (length group ≤ 4) → Works old → MakesRoom group old middle → Fits middle group → middle.log.is_failed ≡ false
    → OnOk r (new ≡ taken_all middle lane (marked group)) → OnErr r (new ≡ middle) → IfErr r (IsWanting middle group) → GroupLeaves lane away group old r new
entered_or_not lane away old middle new group (Ok x) few was may fits works is same w =
    (record { group = group; few = few; worked = was; middle = middle; flushes = may; fits = fits; works = works; is = is }, refl)
entered_or_not lane away old middle new group (Err cause) few was may fits works is same w = entered_not away group old middle new cause was may same w

-- a group of one was entered, whose last block was known
pub one_entered : (s new : Kept) (lane : ℕ) (item : Record) (plan : Plan) (r : Result (Unit {0}) StoreFault) → IsPlan s item plan
    → OnOk r (new ≡ taken s lane (alone item) plan.back) → OnOk r (new ≡ taken_all s lane (marked (item ∷ [])))
one_entered s new lane item plan (Err cause) p is = tt
one_entered s new lane item plan (Ok x) p is =
    let back = back_at s.newest (directed_at s.filed.leaves item - 1) plan.back
    (subst (λ (n : ℕ). slice_get s.newest (n - 1) ≡ Some plan.back) p.page p.back) in
    is ∙ ap (taken s lane (alone item)) (sym back)

-- a page for which there is no number
pub one_wanting : (s : Kept) (item : Record) (error : ApplyError)
    → IsWantingAt s.filed.m (length (result_of s.filed.leaves item).pairs) (length s.filed.leaves) error → IsWanting s (item ∷ []) (fault_of_apply error)
one_wanting s item apply.NoMemory w = tt
one_wanting s item apply.Spent w = record { before = 0; item = item; one = refl; splits = w.0; all = w.1 }

pub wanting_unplanned : (s : Kept) (group : List Record) (cause : StoreFault) → Works s → IsWanting s group cause → IsUnplanned s group cause
wanting_unplanned s group NoMemory works w = works
wanting_unplanned s group BadConfig works w = absurd w
wanting_unplanned s group NoSegment works w = absurd w
wanting_unplanned s group (Device lease) works w = absurd w
wanting_unplanned s group Failed works w = absurd w
wanting_unplanned s group Spent works w = (works, inr w)
wanting_unplanned s group NoPage works w = absurd w
wanting_unplanned s group NothingOld works w = absurd w

-- the same of what planning answers
pub one_refused : (s : Kept) (item : Record) (error : ApplyError) → Works s
    → IsWantingAt s.filed.m (length (result_of s.filed.leaves item).pairs) (length s.filed.leaves) error
    → IsUnplanned s (item ∷ []) (fault_of_apply error)
one_refused s item error works w = wanting_unplanned s (item ∷ []) (fault_of_apply error) works (one_wanting s item error w)

-- want of a page or of memory for one record, from what the pages say
pub one_wanting_of : (s : Kept) (f : Shown) (item : Record) (error : ApplyError) → f.m ≡ s.filed.m → f.leaves ≡ s.filed.leaves
    → (error ≡ apply.Spent → IsSpent f item) → IsWanting s (item ∷ []) (fault_of_apply error)
one_wanting_of s f item apply.NoMemory pairs leaves spent = tt
one_wanting_of s f item apply.Spent pairs leaves spent =
    let x = spent refl in
    let over : length s.filed.leaves + 1 ≡ 2 ^ 32 = subst (λ (ls : List Leaf). length ls + 1 ≡ 2 ^ 32) leaves x.1 in
    let more : s.filed.m < length (result_of s.filed.leaves item).pairs =
    subst (λ (ls : List Leaf). s.filed.m < length (result_of ls item).pairs) leaves
    (subst (λ (n : ℕ). n < length (result_of f.leaves item).pairs) pairs x.0) in
    one_wanting s item apply.Spent (more, omega arith)

-- what a take of the next group of a lane says of it
pub take_some : (lane n : ℕ) (group : List Record) (a b c : Kept) → b ≡ a → (t : Took lane b c) × (t.group ≡ group) → n ≡ length group
    → (t : Took lane a c) × (length t.group ≡ n)
take_some lane n group a b c same t count =
    subst (λ (s : Kept). (t : Took lane s c) × (length t.group ≡ n)) same (t.0, ap length t.1 ∙ sym count)

pub waiting_left : (lane : ℕ) (lanes : List Lane) (away : ℕ → Bool) (group : List Record) (old new : Kept) (r : Result (Unit {0}) StoreFault)
    → GroupLeaves lane away group old r new → OnErr r (IsNext lanes lane group) → WaitingLeaves lane lanes away old r new
waiting_left lane lanes away group old new (Ok x) left next = left.0
waiting_left lane lanes away group old new (Err fault) left next = record { group = group; waits = next; refuses = left }

pub on_err : {A : Type 0} {P Q : Type 0} (r : Result A StoreFault) → (P → Q) → OnErr r P → OnErr r Q
on_err (Ok x) f h = tt
on_err (Err e) f h = f h

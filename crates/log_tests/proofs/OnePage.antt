-- A log of one page takes one more frame, and stays one through each other call.

use Rattle.std.proofs.Common.{◌≡◌, ℕ, ◌+◌, ◌^◌, ◌<◌, ◌≤◌, ◌==◌, ◌&&◌, drop, lit≤, lit<, Bool, true, false, Option, Some, None, Result, Ok, Err}
use Rattle.std.proofs.Common.{MatchOption, eq-eqb}
use Rattle.std.proofs.Common.{List, [], ◌∷◌, ◌++◌, length, slice_get, refl, sym, ap, subst, ◌∙◌, append-nil, arith, length-append}
use Rattle.std.proofs.lemmas.Bool.{and_from}
use Rattle.std.specs.List.{AllByRecursion}
use Rattle.bw_record.specs.Lawful.{IsOp}
use Rattle.bw_codec.specs.Grammar.{frame_bytes, IsBlock, IsFrame, IsPlace}
use Rattle.bw_record.specs.Touch.{touches}
use Rattle.bw_record.specs.declared.block.Block.{Block}
use Rattle.bw_record.specs.declared.block.Block.TheVariants.{Delta, Base}
use Rattle.bw_record.specs.declared.block.Frame.{Frame}
use Rattle.bw_record.specs.declared.block.Place.{Place}
use Rattle.bw_record.specs.declared.leaf.Leaf.{Leaf}
use Rattle.bw_record.specs.declared.record.Record.{Record}
use Rattle.bw_device.specs.Holding.{Holding}
use Rattle.bw_leaf.specs.Changed.{changed, Pairs}
use Rattle.bw_page.specs.Leaves.{leaf_at, AreLeaves}
use Rattle.bw_leaf.specs.Forwards.{after, content, blocks_of}
use Rattle.bw_page.specs.Standing.{Stand}
use Rattle.bw_page.proofs.Law.{applied-lawful, applied-whole}
use Rattle.bw_buffer.specs.Filling.{Filling, frame_of}
use Rattle.bw_buffer.proofs.Holding.{few_blocks}
use Rattle.bw_log.specs.Places.{all_placed, place_of, base_of, fault_of, bad_link, first_number, AreLinked}
use Rattle.bw_log.specs.Contents.{Contents, Image, counted, IsSound}
use Rattle.bw_log.specs.Appends.{MayFollow, AfterAppend}
use Rattle.bw_log.specs.Reads.{IsKept, IsPage}
use Rattle.bw_log.specs.Oldest.{IsAfter, NoBaseBefore, IsBaseAfter, last_number}
use Rattle.bw_log.specs.declared.fault.LogFault.{LogFault}
use Rattle.bw_log.specs.declared.fault.LogFault.TheVariants.{NoMemory, BadConfig, NoSegment, Device, Failed, Spent, NoPage}
use Rattle.bw_log.proofs.Entries.{all_append}
use Rattle.bw_log.proofs.GivenUp.{placed_more}
use Rattle.bw_log.proofs.Growing.{frame_with, linked_push}
use Rattle.bw_log.proofs.Reread.{length-frame}
use Rattle.bw_log.proofs.Torn.{some_is}
use Rattle.bw_log.proofs.Walks.{blocks_more, content_push}
use Rattle.log_tests.specs.OnePage.{leaf_with, put_of, first_with, put_after, frame_of_one, Counts, HoldsOne, Opens}
use Rattle.log_tests.proofs.Exampled.{only_one, not_one, first_of_lawful, first_of_stands, follows_of}

-- ---- one block more, after frames that stand for one page

pub block_stands : (fs : List Frame) (n : ℕ) (b : Block) (was is : Leaf) → Stand 4 fs (was ∷ []) → AreLeaves 4 (is ∷ [])
    → after 1 (Some was) b ≡ Some is → ((p : ℕ) → 2 ≤ p → touches p b ≡ false) → Stand 4 (fs ++ frame_of_one n b ∷ []) (is ∷ [])
block_stands fs n b was is st lawful reads other =
    let x = frame_of_one n b in
    let one : content 1 (blocks_of (fs ++ x ∷ [])) ≡ Some is =
    content_push 1 fs x ∙ ap (λ (o : Option Leaf). after 1 o b) (st.each 1 (lit≤ tt) (lit≤ tt)) ∙ reads in
    record {
      some = omega (arith, length-append fs (x ∷ []));
      lawful = lawful;
      each = λ p from to. subst (λ (k : ℕ). content k (blocks_of (fs ++ x ∷ [])) ≡ leaf_at k (is ∷ [])) (sym (only_one p from to)) one;
      all = λ p from. subst (AllByRecursion (λ (k : Block). touches p k ≡ false)) (sym (blocks_more fs (x ∷ [])))
          (all_append (λ (k : Block). touches p k ≡ false) (blocks_of fs) (b ∷ []) (st.all p from) (other p from, tt));
    }

same_first : (fs : List Frame) (x : Frame) → 1 ≤ length fs → first_number (fs ++ x ∷ []) ≡ first_number fs
same_first [] x some = absurd (omega arith)
same_first (f ∷ fs) x some = refl

pub block_links : (fs : List Frame) (n : ℕ) (b : Block) → 1 ≤ length fs → AreLinked fs → fault_of (first_number fs) (all_placed fs) b ≡ None
    → AreLinked (fs ++ frame_of_one n b ∷ [])
block_links fs n b some linked lawful =
    let x = frame_with n [] in
    let first = same_first fs x some in
    let same : all_placed (fs ++ x ∷ []) ≡ all_placed fs = placed_more fs (x ∷ []) ∙ append-nil (all_placed fs) in
    let empty : AreLinked (fs ++ x ∷ []) = ap (λ (k : ℕ). bad_link k [] (all_placed (fs ++ x ∷ []))) first ∙ ap (bad_link (first_number fs) []) same ∙ linked in
    linked_push fs n [] b empty (ap (λ (k : ℕ). fault_of k (all_placed (fs ++ x ∷ [])) b) first ∙ ap (λ l. fault_of (first_number fs) l b) same ∙ lawful)

-- a Delta links back to the last block of its page
pub back_lawful : (fs : List Frame) (back : Place) (ops : List Record) → place_of 1 fs ≡ Some back
    → fault_of (first_number fs) (all_placed fs) (Delta 1 back ops) ≡ None
back_lawful fs back ops last =
    let same : ((back.frame == back.frame) && (back.index == back.index)) ≡ true =
    and_from (back.frame == back.frame) (back.index == back.index) (eq-eqb back.frame back.frame refl) (eq-eqb back.index back.index refl) in
    rw (last, same) refl

-- page 1 after a record that leaves it with four pairs at most
pub change_lawful : (r : Record) (ps : Pairs) → AreLeaves 4 (leaf_with ps ∷ []) → IsOp r → length (changed r (leaf_with ps)).pairs ≤ 4
    → AreLeaves 4 (changed r (leaf_with ps) ∷ [])
change_lawful r ps a op few =
    let whole = applied-whole 4 (leaf_with ps ∷ []) r (lit≤ tt) a op few in
    subst (AreLeaves 4) whole (applied-lawful 4 (leaf_with ps ∷ []) r (lit≤ tt) (λ over. absurd (omega arith)) a op)

pub one_frame_lawful : (n : ℕ) (b : Block) → 1 ≤ n → n < 2 ^ 64 → IsBlock 4 b → length (frame_bytes (frame_of_one n b)) ≤ 65536
    → IsFrame 4 65536 (frame_of_one n b)
one_frame_lawful n b from to law fits =
    let size = length-frame (frame_of_one n b) in
    let few = few_blocks (b ∷ []) in
    record { head = record { numbered = (from, to); fits = (omega arith, omega arith); some = (lit≤ tt, lit< tt) }; blocks = (law, tt) }

pub block_follows : (c : Contents) (n : ℕ) (b : Block) (was is : Leaf) → HoldsOne c was → Some n ≡ c.next → 1 ≤ n → n < 2 ^ 64 → IsBlock 4 b
    → length (frame_bytes (frame_of_one n b)) ≤ 65536 → fault_of (first_number (counted c)) (all_placed (counted c)) b ≡ None
    → Stand 4 (counted c ++ frame_of_one n b ∷ []) (is ∷ []) → MayFollow c (frame_of_one n b)
block_follows c n b was is one next from to law fits links stands =
    let x = frame_of_one n b in
    let linked = block_links (counted c) n b one.stands.some one.sound.holds.linked links in
    record {
      number = sym next;
      lawful = subst (λ (k : ℕ). IsFrame k c.f x) (sym one.m) (subst (λ (k : ℕ). IsFrame 4 k x) (sym one.f) (one_frame_lawful n b from to law fits));
      links = linked;
      leaves = is ∷ [];
      stands = subst (λ (k : ℕ). Stand k (counted c ++ x ∷ []) (is ∷ [])) (sym one.m) stands;
    }

-- ---- a put, and the page written again

pub put_stands : (c : Contents) (n : ℕ) (back : Place) (r : Record) (leaf : Leaf) → HoldsOne c leaf → IsOp r → length (changed r leaf).pairs ≤ 4
    → Stand 4 (counted c ++ frame_of_one n (Delta 1 back (r ∷ [])) ∷ []) (changed r leaf ∷ [])
put_stands c n back r leaf one op few =
    let lawful : AreLeaves 4 (changed r leaf ∷ []) =
    subst (λ (l : Leaf). AreLeaves 4 (changed r l ∷ [])) (sym one.is)
    (change_lawful r leaf.pairs (subst (λ (l : Leaf). AreLeaves 4 (l ∷ [])) one.is one.stands.lawful)
    (op) (subst (λ (l : Leaf). length (changed r l).pairs ≤ 4) one.is few)) in
    block_stands (counted c) n (Delta 1 back (r ∷ [])) leaf (changed r leaf) one.stands lawful refl not_one

pub put_follows : (c : Contents) (n : ℕ) (back : Place) (r : Record) (leaf : Leaf) → HoldsOne c leaf → Some n ≡ c.next → 1 ≤ n → n < 2 ^ 64
    → place_of 1 (counted c) ≡ Some back → IsPlace back → IsOp r → length (changed r leaf).pairs ≤ 4
    → length (frame_bytes (frame_of_one n (Delta 1 back (r ∷ [])))) ≤ 65536 → MayFollow c (frame_of_one n (Delta 1 back (r ∷ [])))
put_follows c n back r leaf one next from to last place op few fits =
    block_follows c n (Delta 1 back (r ∷ [])) leaf (changed r leaf) one next from to
    (record { changes = (lit≤ tt, lit< tt); links = place; count = (lit≤ tt, lit< tt); each = (op, tt) }) fits
    (back_lawful (counted c) back (r ∷ []) last) (put_stands c n back r leaf one op few)

pub base_stands : (c : Contents) (n : ℕ) (leaf : Leaf) → HoldsOne c leaf → Stand 4 (counted c ++ frame_of_one n (Base leaf) ∷ []) (leaf ∷ [])
base_stands c n leaf one =
    let page : leaf.page ≡ 1 = ap (λ (l : Leaf). l.page) one.is in
    block_stands (counted c) n (Base leaf) leaf leaf one.stands one.stands.lawful (rw page refl) (λ p from. rw page (not_one p from))

pub base_follows : (c : Contents) (n : ℕ) (leaf : Leaf) → HoldsOne c leaf → Some n ≡ c.next → 1 ≤ n → n < 2 ^ 64
    → length (frame_bytes (frame_of_one n (Base leaf))) ≤ 65536 → MayFollow c (frame_of_one n (Base leaf))
base_follows c n leaf one next from to fits =
    block_follows c n (Base leaf) leaf leaf one next from to one.stands.lawful.each.0 fits refl (base_stands c n leaf one)

-- ---- after each call

pub holds_more : (old new : Contents) (x : Frame) (care : Bool) (was is : Leaf) → HoldsOne old was → AfterAppend old x care (Ok tt) new
    → is ≡ leaf_with is.pairs → Stand 4 (counted old ++ x ∷ []) (is ∷ []) → HoldsOne new is
holds_more old new x care was is one left lawful stands = record {
  sound = left.sound;
  m = left.log.m ∙ one.m;
  f = left.log.f ∙ one.f;
  is = lawful;
  stands = subst (λ (l : List Frame). Stand 4 l (is ∷ [])) (sym left.added.frames) stands;
}

-- if nothing more counts, and the limits are the same
pub holds_same : (old new : Contents) (leaf : Leaf) → HoldsOne old leaf → IsSound new → new.m ≡ old.m → new.f ≡ old.f
    → counted new ≡ counted old → HoldsOne new leaf
holds_same old new leaf one sound m f counts =
    record { sound = sound; m = m ∙ one.m; f = f ∙ one.f; is = one.is; stands = subst (λ (l : List Frame). Stand 4 l (leaf ∷ [])) (sym counts) one.stands }

pub holds_refused : (old new : Contents) (x : Frame) (care : Bool) (fault : LogFault) (leaf : Leaf) → HoldsOne old leaf → AfterAppend old x care (Err fault) new
    → HoldsOne new leaf
holds_refused old new x care NoMemory leaf one left = subst (λ (c : Contents). HoldsOne c leaf) (sym left.device) one
holds_refused old new x care BadConfig leaf one left = subst (λ (c : Contents). HoldsOne c leaf) (sym left.device) one
holds_refused old new x care NoSegment leaf one left = subst (λ (c : Contents). HoldsOne c leaf) (sym left.device) one
holds_refused old new x care (Device lease) leaf one left = holds_same old new leaf one left.sound left.log.m left.log.f left.device.1.frames
holds_refused old new x care Failed leaf one left = subst (λ (c : Contents). HoldsOne c leaf) (sym left.device) one
holds_refused old new x care Spent leaf one left = subst (λ (c : Contents). HoldsOne c leaf) (sym left.device) one
holds_refused old new x care NoPage leaf one left = subst (λ (c : Contents). HoldsOne c leaf) (sym left.device) one

pub holds_read : (old new : Contents) (leaf : Leaf) → HoldsOne old leaf → IsSound new → IsKept old new → HoldsOne new leaf
holds_read old new leaf one sound kept =
    holds_same old new leaf one sound (ap (λ (i : Image). i.m) kept.same) (ap (λ (i : Image). i.f) kept.same) kept.counts

pub holds_rolled : (old new : Contents) (leaf : Leaf) → HoldsOne old leaf → IsSound new → new ≡ record old { is_open = false } → HoldsOne new leaf
holds_rolled old new leaf one sound is =
    holds_same old new leaf one sound (ap (λ (c : Contents). c.m) is) (ap (λ (c : Contents). c.f) is) (ap counted is)

pub holds_grown : (old new : Contents) (leaf : Leaf) (h : Holding) → HoldsOne old leaf → IsSound new → new ≡ record old { spares = old.spares ++ h ∷ [] }
    → HoldsOne new leaf
holds_grown old new leaf h one sound is =
    holds_same old new leaf one sound (ap (λ (c : Contents). c.m) is) (ap (λ (c : Contents). c.f) is) (ap counted is)

pub holds_all : (old new : Contents) (leaf : Leaf) → HoldsOne old leaf → new ≡ old → HoldsOne new leaf
holds_all old new leaf one is = subst (λ (c : Contents). HoldsOne c leaf) (sym is) one

pub holds_fewer : (old new : Contents) (leaf : Leaf) → HoldsOne old leaf → IsSound new
    → new ≡ record old { live = drop 1 old.live; number = old.number + 1; frames = new.frames }
    → ((leaves : List Leaf) → Stand old.m (counted old) leaves → Stand old.m (counted new) leaves) → HoldsOne new leaf
holds_fewer old new leaf one sound is stands = record {
  sound = sound;
  m = ap (λ (c : Contents). c.m) is ∙ one.m;
  f = ap (λ (c : Contents). c.f) is ∙ one.f;
  is = one.is;
  stands = subst (λ (m : ℕ). Stand m (counted new) (leaf ∷ [])) one.m
      (stands (leaf ∷ []) (subst (λ (m : ℕ). Stand m (counted old) (leaf ∷ [])) (sym one.m) one.stands));
}

-- ---- as the buffers are made

abbrev pub filled : ℕ → List Block → Filling
filled n blocks = record { frame = n; limit = 65536; blocks = blocks; is_sealed = true }

pub put_on : (c : Contents) (n : ℕ) (back : Place) (key value : ℕ) (leaf : Leaf) (buffer : Filling) (r : Record) → HoldsOne c leaf
    → Some n ≡ c.next → 1 ≤ n → n < 2 ^ 64
    → Some back ≡ place_of 1 (counted c) → IsPlace back → r ≡ put_of key value → length (changed r leaf).pairs ≤ 4
    → length (frame_bytes (frame_of buffer)) ≤ buffer.limit → buffer ≡ filled n (put_after back key value ∷ []) → MayFollow c (frame_of buffer)
put_on c n back key value leaf buffer r one next from to last place same few fits is =
    subst (λ (b : Filling). MayFollow c (frame_of b)) (sym is)
    (put_follows c n back (put_of key value) leaf one next from to (sym last) place ((lit≤ tt, lit≤ tt), lit≤ tt)
    (subst (λ (k : Record). length (changed k leaf).pairs ≤ 4) same few)
    (subst (λ (b : Filling). length (frame_bytes (frame_of b)) ≤ b.limit) is fits))

pub put_left : (old new : Contents) (n : ℕ) (back : Place) (key value : ℕ) (was is : Leaf) (buffer : Filling) (r : Record) → HoldsOne old was
    → r ≡ put_of key value → length (changed r was).pairs ≤ 4 → buffer ≡ filled n (put_after back key value ∷ [])
    → AfterAppend old (frame_of buffer) false (Ok tt) new → is ≡ changed r was → HoldsOne new is
put_left old new n back key value was is buffer r one same few built left now =
    let op : IsOp (put_of key value) = ((lit≤ tt, lit≤ tt), lit≤ tt) in
    let stands : Stand 4 (counted old ++ frame_of buffer ∷ []) (changed r was ∷ []) =
    subst (λ (b : Filling). Stand 4 (counted old ++ frame_of b ∷ []) (changed r was ∷ [])) (sym built)
    (subst (λ (k : Record). Stand 4 (counted old ++ frame_of_one n (Delta 1 back (put_of key value ∷ [])) ∷ []) (changed k was ∷ [])) (sym same)
    (put_stands old n back (put_of key value) was one op (subst (λ (k : Record). length (changed k was).pairs ≤ 4) same few))) in
    let shape : changed r was ≡ leaf_with (changed r was).pairs =
    ap (changed r) one.is ∙ ap (λ (l : Leaf). leaf_with (changed r l).pairs) (sym one.is) in
    subst (HoldsOne new) (sym now) (holds_more old new (frame_of buffer) false was (changed r was) one left shape stands)

pub base_on : (c : Contents) (n : ℕ) (leaf copy : Leaf) (buffer : Filling) (blocks : List Block) → HoldsOne c leaf → Some n ≡ c.next → 1 ≤ n → n < 2 ^ 64
    → length (frame_bytes (frame_of buffer)) ≤ buffer.limit → buffer ≡ filled n blocks → blocks ≡ Base copy ∷ [] → copy ≡ leaf → MayFollow c (frame_of buffer)
base_on c n leaf copy buffer blocks one next from to fits is spelled same =
    let made : buffer ≡ filled n (Base leaf ∷ []) = is ∙ ap (filled n) (spelled ∙ ap (λ (l : Leaf). Base l ∷ []) same) in
    subst (λ (b : Filling). MayFollow c (frame_of b)) (sym made)
    (base_follows c n leaf one next from to (subst (λ (b : Filling). length (frame_bytes (frame_of b)) ≤ b.limit) made fits))

pub base_left : (old new : Contents) (n : ℕ) (leaf copy : Leaf) (buffer : Filling) (blocks : List Block) → HoldsOne old leaf
    → buffer ≡ filled n blocks → blocks ≡ Base copy ∷ [] → copy ≡ leaf → AfterAppend old (frame_of buffer) true (Ok tt) new → HoldsOne new leaf
base_left old new n leaf copy buffer blocks one is spelled same left =
    let made : buffer ≡ filled n (Base leaf ∷ []) = is ∙ ap (filled n) (spelled ∙ ap (λ (l : Leaf). Base l ∷ []) same) in
    holds_more old new (frame_of buffer) true leaf leaf one left one.is
    (subst (λ (b : Filling). Stand 4 (counted old ++ frame_of b ∷ []) (leaf ∷ [])) (sym made) (base_stands old n leaf one))

-- the same whatever the append answers
pub base_after : (old new : Contents) (n : ℕ) (leaf copy : Leaf) (buffer : Filling) (blocks : List Block) (answer : Result (Unit {0}) LogFault)
    → HoldsOne old leaf
    → buffer ≡ filled n blocks → blocks ≡ Base copy ∷ [] → copy ≡ leaf → AfterAppend old (frame_of buffer) true answer new → HoldsOne new leaf
base_after old new n leaf copy buffer blocks (Ok tt) one is spelled same left = base_left old new n leaf copy buffer blocks one is spelled same left
base_after old new n leaf copy buffer blocks (Err fault) one is spelled same left = holds_refused old new (frame_of buffer) true fault leaf one left

-- ---- the first frame

abbrev pub first_page : ℕ → ℕ → Leaf
first_page key value = leaf_with ((key ∷ [], value ∷ []) ∷ [])

abbrev first_blocks_of : ℕ → ℕ → List Block
first_blocks_of key value = first_with (put_of key value ∷ [])

-- a first frame opens a log of its page
pub opens_with : (blocks : List Block) (pairs : Pairs) → IsFrame 4 65536 (record { number = 1; blocks = blocks })
    → AreLinked (record { number = 1; blocks = blocks } ∷ []) → Stand 4 (record { number = 1; blocks = blocks } ∷ []) (leaf_with pairs ∷ [])
    → Opens (filled 1 blocks) (leaf_with pairs)
opens_with blocks pairs lawful linked stands =
    record { sealed = refl; limit = refl; number = refl; lawful = lawful; linked = linked; is = refl; stands = stands }

-- as it is made: of these records, and of the empty page with the last of them
pub opens_made : (b : Filling) (ops all : List Record) (leaf empty page : Leaf) (r last : Record) → ops ≡ all → b ≡ filled 1 (first_with ops)
    → r ≡ last → empty ≡ leaf_with [] → leaf ≡ changed r empty → changed last (leaf_with []) ≡ page → Opens (filled 1 (first_with all)) page → Opens b leaf
opens_made b ops all leaf empty page r last ops_is is r_is none made last_is opens =
    let frame_is = is ∙ ap (λ (o : List Record). filled 1 (first_with o)) ops_is in
    let page_is : leaf ≡ page = made ∙ ap (λ (l : Leaf). changed r l) none ∙ ap (λ (k : Record). changed k (leaf_with [])) r_is ∙ last_is in
    subst (λ (f : Filling). Opens f leaf) (sym frame_is) (subst (Opens (filled 1 (first_with all))) (sym page_is) opens)

pub opens_as : (b : Filling) (ops : List Record) (key value : ℕ) (leaf empty : Leaf) (r : Record) → ops ≡ put_of key value ∷ []
    → b ≡ filled 1 (first_with ops) → r ≡ put_of key value → empty ≡ leaf_with [] → leaf ≡ changed r empty → Opens b leaf
opens_as b ops key value leaf empty r ops_is is r_is none made =
    opens_made b ops (put_of key value ∷ []) leaf empty (first_page key value) r (put_of key value) ops_is is r_is none made refl
    (opens_with (first_blocks_of key value) ((key ∷ [], value ∷ []) ∷ []) (first_of_lawful key value) refl (first_of_stands key value))

-- such a frame may follow where none is counted
pub opens_follows : (c : Contents) (b : Filling) (leaf : Leaf) → Counts c [] → Opens b leaf → MayFollow c (frame_of b)
opens_follows c b leaf k o =
    follows_of c [] (frame_of b) (leaf ∷ []) k.sound k.frames k.m k.f (ap Some (sym o.number)) o.lawful o.linked o.stands

pub opens_left : (old new : Contents) (b : Filling) (leaf : Leaf) → Counts old [] → Opens b leaf → AfterAppend old (frame_of b) false (Ok tt) new
    → HoldsOne new leaf
opens_left old new b leaf k o left = record {
  sound = left.sound;
  m = left.log.m ∙ k.m;
  f = left.log.f ∙ k.f;
  is = o.is;
  stands = subst (λ (l : List Frame). Stand 4 l (leaf ∷ [])) (sym (left.added.frames ∙ ap (λ (l : List Frame). l ++ frame_of b ∷ []) k.frames)) o.stands;
}

-- ---- what stands in the oldest segment

abbrev pub told_pair : ℕ → ℕ → Option (ℕ × ℕ)
told_pair number last = Some (number, last)

pub none_before : (c : Contents) (leaf : Leaf) (number last : ℕ) (base : Place) → HoldsOne c leaf
    → length c.pages ≡ 1 → base_of 1 (counted c) ≡ Some base → last < base.frame
    → MatchOption (slice_get c.live 0) (told_pair number last ≡ None) (λ h. told_pair number last ≡ told_pair c.number (last_number c h)) → NoBaseBefore c
none_before c leaf number last base one count is later told = by_list c.live told where
  page_is : (p : ℕ) → IsPage c p → p ≡ 1
  page_is p law = let from = law.0 in let to = law.1 in omega (arith, count)

  by_list : (live : List Holding)
      → MatchOption (slice_get live 0) (told_pair number last ≡ None) (λ h. told_pair number last ≡ told_pair c.number (last_number c h))
      → IsBaseAfter c live
  by_list [] told = tt
  by_list (h ∷ hs) told = λ p law.
      let same : last ≡ last_number c h = ap (λ (t : ℕ × ℕ). t.1) (some_is told) in
      subst (λ (k : ℕ). IsAfter (last_number c h) (base_of k (counted c))) (sym (page_is p law))
      (subst (λ (o : Option Place). IsAfter (last_number c h) o) (sym is) (subst (λ (k : ℕ). k < base.frame) same later))

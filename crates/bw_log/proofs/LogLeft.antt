-- The oldest segment of a log: its last number, and the log without it.

use Rattle.std.proofs.Common.{inl, inr, Some, None, ◌≡◌, ℕ, ◌+◌, ◌≤◌, ◌==◌, not, Bool, true, false, List, [], ◌∷◌, ◌++◌, length, map, drop, refl, sym, ap}
use Rattle.std.proofs.Common.{subst, ◌∙◌, arith}
use Rattle.std.specs.List.{filter, remove, list_any, AllByRecursion}
use Rattle.std.proofs.lemmas.Bool.{or_from, cases_lt}
use Rattle.std.proofs.lemmas.List.{length-map, drop_at}
use Rattle.bw_record.specs.declared.leaf.Leaf.{Leaf}
use Rattle.bw_record.specs.Touch.{touches}
use Rattle.bw_record.specs.declared.block.Block.{Block}
use Rattle.bw_record.specs.declared.block.Frame.{Frame}
use Rattle.bw_leaf.specs.Forwards.{content, blocks_of}
use Rattle.bw_page.specs.Standing.{Stand}
use Rattle.bw_device.specs.Holding.{Holding}
use Rattle.bw_log.specs.Segments.{segment_frames, frames_of}
use Rattle.bw_log.specs.Contents.{Contents, image, counted, IsStanding, IsBounded, IsSound}
use Rattle.bw_log.specs.Oldest.{IsBaseAfter, NoBaseBefore, oldest_count}
use Rattle.bw_log.specs.declared.places.FrameAt.{FrameAt}
use Rattle.bw_log.proofs.GivenUp.{MayGo, given_up, counts, kept_counts, set_kept, stand_kept}
use Rattle.bw_log.proofs.Walk.{same_fold}
use Rattle.bw_log.proofs.Walks.{none_some}
use Rattle.bw_log.proofs.Walked.{leaf_there}

-- ---- frames are one list of leaves

none_any : (test : Block → Bool) (bs : List Block) → AllByRecursion (λ b. test b ≡ false) bs → list_any test bs ≡ false
none_any test [] all = refl
none_any test (b ∷ bs) all = or_from (test b) (list_any test bs) all.0 (none_any test bs all.1)

no_more : (m : ℕ) (frames : List Frame) (some others : List Leaf) → Stand m frames some → Stand m frames others → length some ≤ length others
no_more m frames some others a b =
    elim (cases_lt (length others) (length some)) [
      | inl more ↦ (
          let p = length others + 1 in
          let leaf = leaf_there p some (omega arith) (omega arith) in
          let set : content p (blocks_of frames) ≡ Some leaf.0 = a.each p (omega arith) (omega arith) ∙ leaf.1 in
          let none : content p (blocks_of frames) ≡ None =
          same_fold p None (blocks_of frames) (none_any (touches p) (blocks_of frames) (b.all p (omega arith))) in
          absurd (none_some (content p (blocks_of frames)) leaf.0 none set))
      | inr le ↦ le
    ]

count_by : (m pages : ℕ) (frames : List Frame) (leaves : List Leaf) → IsStanding m frames pages → Stand m frames leaves → length leaves ≡ pages
count_by m pages frames leaves (inl none) stand = let some = stand.some in absurd (omega (arith, ap (λ (fs : List Frame). length fs) none.0))
count_by m pages frames leaves (inr stands) stand =
    let len = stands.2 in
    omega (arith, no_more m frames leaves stands.0 stand stands.1, no_more m frames stands.0 leaves stands.1 stand)

-- there are as many leaves as lines of the table
pub same_count : (c : Contents) (leaves : List Leaf) → IsSound c → Stand c.m (counted c) leaves → length leaves ≡ length c.pages
same_count c leaves sound stand = count_by c.m (length c.pages) (counted c) leaves sound.holds.stands stand

-- ---- giving up

-- the log without its oldest segment
abbrev pub left : Contents → List Holding → List FrameAt → Contents
left c live frames = record c { live = live; number = c.number + 1; frames = frames }

-- the lines of other segments
abbrev pub other_lines : ℕ → List FrameAt → List FrameAt
other_lines number lines = filter (λ line. not (line.segment == number)) lines

pub record Left (c : Contents) (live : List Holding) (frames : List FrameAt) : Type 0 where
  pub sound : IsSound (left c live frames)
  pub rest : live ≡ drop 1 c.live
  pub counts : counted (left c live frames) ≡ drop (oldest_count c.live) (counted c)
  pub stands : (leaves : List Leaf) → Stand c.m (counted c) leaves → Stand c.m (counted (left c live frames)) leaves

may_go : (c : Contents) (h : Holding) (hs : List Holding) → IsSound c → c.live ≡ h ∷ hs → 1 ≤ length hs → c.is_failed ≡ false → NoBaseBefore c
    → MayGo (image c) h.bytes (map (λ k. k.bytes) hs)
may_go c h hs sound live more works bases = record {
  holds = sound.holds;
  bytes = ap (map (λ (k : Holding). k.bytes)) live;
  more = omega (arith, length-map hs (λ (k : Holding). k.bytes));
  works = works;
  bases = λ p some inside. (subst (λ (l : List Holding). IsBaseAfter c l) live bases) p (some, inside);
}

left_of : (c : Contents) (h : Holding) (hs : List Holding) (frames : List FrameAt) → IsSound c → c.live ≡ h ∷ hs → 1 ≤ length hs → c.is_failed ≡ false
    → NoBaseBefore c → frames ≡ other_lines c.number c.frames → Left c hs frames
left_of c h hs frames sound live more works bases lines =
    let bs = map (λ (k : Holding). k.bytes) hs in
    let go = may_go c h hs sound live more works bases in
    let all : counted c ≡ segment_frames h.bytes ++ frames_of bs = counts (image c) h.bytes bs go in
    let kept : counted (left c hs frames) ≡ frames_of bs = kept_counts (image c) h.bytes bs go in
    let few = sound.few in
    record {
      sound = record {
        few = omega (arith, ap (λ (l : List Holding). length l) live);
        bounds = (subst (λ (l : List Holding). AllByRecursion IsBounded l) live sound.bounds).1;
        rooms = sound.rooms;
        empty = sound.empty;
        torn = λ failed. (let no : true ≡ false = sym failed ∙ works in absurd cc);
        holds = given_up (image c) h.bytes bs frames go lines;
      };
      rest = ap (drop 1) (sym live);
      counts = kept
          ∙ sym (drop_at (segment_frames h.bytes) (frames_of bs) (length (segment_frames h.bytes)) refl)
          ∙ ap (drop (length (segment_frames h.bytes))) (sym all)
          ∙ ap (λ (l : List Holding). drop (oldest_count l) (counted c)) (sym live);
      stands = λ leaves stand. subst (λ (fs : List Frame). Stand c.m fs leaves) (sym kept)
          (stand_kept c.m (length c.pages) (segment_frames h.bytes) (frames_of bs) leaves (set_kept (image c) h.bytes bs go)
          (subst (λ (fs : List Frame). Stand c.m fs leaves) all stand)
          (same_count c leaves sound stand));
    }

-- the same of boxes
left_first : {X : Type 0} (v : X → Holding) (c : Contents) (xs : List X) (frames : List FrameAt) → c.live ≡ map v xs → IsSound c → 2 ≤ length xs
    → c.is_failed ≡ false → NoBaseBefore c → frames ≡ other_lines c.number c.frames
    → Left c (map v (remove xs 0)) frames
left_first v c [] frames live sound two works bases lines = absurd (omega arith)
left_first v c (x ∷ xs) frames live sound two works bases lines =
    left_of c (v x) (map v xs) frames sound live (omega (arith, length-map xs v)) works bases lines

pub left_boxes : {X : Type 0} (v : X → Holding) (c : Contents) (xs ys : List X) (frames : List FrameAt) → c.live ≡ map v xs → ys ≡ remove xs 0 → IsSound c
    → 2 ≤ length xs → c.is_failed ≡ false → NoBaseBefore c
    → frames ≡ other_lines c.number c.frames → Left c (map v ys) frames
left_boxes {X} v c xs ys frames live same sound two works bases lines =
    subst (λ (l : List X). Left c (map v l) frames) (sym same) (left_first v c xs frames live sound two works bases lines)

-- as many boxes as holdings
pub two_boxes : {X : Type 0} (v : X → Holding) (xs : List X) → 2 ≤ length (map v xs) → 2 ≤ length xs
two_boxes v xs two = omega (arith, length-map xs v)

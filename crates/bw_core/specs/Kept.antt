-- What a store keeps, as plain data, and what holds of it between calls.

use Rattle.std.specs.Prelude.{ℕ, ◌+◌, ◌-◌, ◌^◌, ◌≡◌, ◌≢◌, ◌≤◌, ◌<◌, ◌⊎◌, true, None, List, [], ◌∷◌, ◌++◌, length, drop}
use Rattle.std.specs.List.{AllByRecursion}
use Rattle.bw_record.specs.Lawful.{IsOp}
use Rattle.bw_record.specs.declared.record.Record.{Record}
use Rattle.bw_record.specs.declared.leaf.Leaf.{Leaf}
use Rattle.bw_record.specs.declared.block.Place.{Place}
use Rattle.bw_record.specs.declared.block.Block.{Block}
use Rattle.bw_record.specs.declared.block.Frame.{Frame}
use Rattle.bw_leaf.specs.Changed.{empty_leaf}
use Rattle.bw_page.specs.Leaves.{pages, union, plain}
use Rattle.bw_page.specs.Standing.{Stand}
use Rattle.bw_page.specs.Shown.{Shown}
use Rattle.bw_buffer.specs.Filling.{Filling, frame_of, with_all}
use Rattle.bw_ring.specs.Ends.{Ring}
use Rattle.bw_ring.specs.Marks.{Marked}
use Rattle.bw_log.specs.Contents as logs
use Rattle.bw_log.specs.Segments.{following, frames_of}
use Rattle.bw_core.specs.declared.origin.Edge.{Edge}
use Rattle.bw_core.specs.Edges.{IsEdge, IsBegun}
use Rattle.bw_history.specs.declared.entry.Entry.{Entry}
use Rattle.bw_history.specs.Entries.{records}
use Rattle.bw_history.specs.History.{AreCuts, cut, upto, share}
use Rattle.bw_making.specs.Share.{Tells, TellsFirst, IsBaseBlock}
use Rattle.bw_core.specs.Growing.{Grown, frames_upto}

-- the pages, whether they are in memory or evicted
pub record Filed : Type 0 where
  pub m : ℕ
  pub leaves : List Leaf

abbrev pub filed_of : Shown → Filed
filed_of f = record { m = f.m; leaves = f.leaves }

pub record Kept : Type 0 where
  -- the rings of the writers, in turn
  pub rings : List Ring
  -- the leaves at open or reopen, and the number of the frame before the first of this store
  pub start : List Leaf
  pub before : ℕ
  -- how many cuts were durable when a segment was last given up
  pub floor : ℕ
  -- the newest segment at reopen, and its length then
  pub edge : Edge
  pub entries : List Entry
  -- for each frame sealed, the history's length at its seal; and how many of them were appended
  pub cuts : List ℕ
  pub durable : ℕ
  -- the pages, and the last block of each: in the log, or in the frame in the making
  pub filed : Filed
  pub newest : List Place
  pub making : Filling
  pub log : logs.Contents

-- the leaves up to the k-th cut, and the records of the k-th share
abbrev pub leaves_at : Kept → ℕ → List Leaf
leaves_at s k = pages s.filed.m s.start (records (upto s.cuts s.entries k))

abbrev pub share_at : Kept → ℕ → List Record
share_at s k = records (share s.cuts s.entries k)

-- a frame says what was put before its seal: records from these leaves on
abbrev pub TellsBy : Kept → ℕ → List Leaf → List Record → List Block → Type 0
TellsBy s number leaves rs blocks =
    ((s.before ≡ 0) × (number ≡ 1) × TellsFirst s.filed.m leaves rs blocks)
    ⊎ ((s.before ≡ 0 → number ≢ 1) × Tells s.filed.m leaves rs blocks)

-- a frame of the cleaner's, which is not frame 1 of an opened store: nothing was put for it, and each of its blocks is a whole page
abbrev pub IsMoved : Kept → ℕ → List Record → List Block → Type 0
IsMoved s number rs blocks = (s.before ≡ 0 → number ≢ 1) × (rs ≡ []) × AllByRecursion IsBaseBlock blocks

abbrev pub TellsAs : Kept → ℕ → List Leaf → List Record → List Block → Type 0
TellsAs s number leaves rs blocks = TellsBy s number leaves rs blocks ⊎ IsMoved s number rs blocks

abbrev pub TellsShare : Kept → Frame → Type 0
TellsShare s frame = TellsAs s frame.number (leaves_at s (frame.number - s.before - 1)) (share_at s (frame.number - s.before)) frame.blocks

-- the records that no appended frame has
abbrev pub waiting : Kept → List Record
waiting s = records (drop (cut s.cuts s.durable) s.entries)

-- each durable cut from the floor on: the counted frames up to it stand for the pages of the
-- history up to it
abbrev pub EachCutStands : Kept → Type 0
EachCutStands s =
    (k : ℕ) → s.floor ≤ k → k ≤ s.durable → 1 ≤ s.before + k
    → Stand s.filed.m (frames_upto (s.before + k) (logs.counted s.log)) (leaves_at s k)

-- all whole frames of the live segments: a failed append may have left one that does not count
abbrev pub frames_there : Kept → List Frame
frames_there s = frames_of (logs.image s.log).bytes

-- they stand for the pages up to the durable cut, or up to the one that stands beyond it; or there is none, and none was durable
abbrev pub AreLeft : Kept → Type 0
AreLeft s =
    ((frames_there s ≡ []) × (s.before ≡ 0) × (s.durable ≡ 0))
    ⊎ (Stand s.filed.m (frames_there s) (leaves_at s s.durable)
    ⊎ ((length s.cuts ≡ s.durable + 1) × Stand s.filed.m (frames_there s) (leaves_at s (s.durable + 1))))

pub record IsSound (s : Kept) : Type 0 where
  pub log : logs.IsSound s.log
  pub pairs : s.filed.m ≡ s.log.m
  pub limit : s.making.limit ≡ s.log.f
  -- pages
  pub leaves : s.filed.leaves ≡ pages s.filed.m s.start (records s.entries)
  -- all their pairs are one map, which knows no pages
  pub mapped : union s.filed.leaves ≡ plain s.start (records s.entries)
  -- and so were those up to each cut
  pub mapped_at : (k : ℕ) → k ≤ length s.cuts → union (leaves_at s k) ≡ plain s.start (records (upto s.cuts s.entries k))
  -- a store that was opened began with one empty page
  pub first : s.before ≡ 0 → s.start ≡ empty_leaf ∷ []
  pub ops : AllByRecursion (λ e. IsOp e.item) s.entries
  pub writers : AllByRecursion (λ e. e.writer < length s.rings) s.entries
  pub grown : Grown s.filed.m (logs.counted s.log) (frame_of s.making) s.filed.leaves s.newest
  -- the frame in the making is the next one, or there is none and it stays empty; it is sealed if
  -- an append failed
  pub next : s.log.next ≡ following (s.before + s.durable)
  pub last : s.before + s.durable < 2 ^ 64
  pub number : (s.making.frame ≡ s.before + s.durable + 1) ⊎ ((s.log.next ≡ None) × (s.making.blocks ≡ []))
  pub sealed : s.making.is_sealed ≡ s.log.is_failed
  -- cuts
  pub ordered : AreCuts 0 s.cuts (length s.entries)
  pub beyond : (length s.cuts ≡ s.durable) ⊎ ((length s.cuts ≡ s.durable + 1) × (s.log.is_failed ≡ true))
  -- if an append failed, nothing was taken since
  pub last_cut : s.log.is_failed ≡ true → cut s.cuts (length s.cuts) ≡ length s.entries
  pub floor : s.floor ≤ s.durable
  -- the counted frames up to a cut stand for the pages of the history up to it, for each cut from the floor on
  pub stands : EachCutStands s
  -- frames say their shares, and so does the one in the making
  pub shares : AllByRecursion (λ f. s.before < f.number → TellsShare s f) (logs.counted s.log)
  pub tells : TellsBy s (s.before + s.durable + 1) (leaves_at s s.durable) (waiting s) s.making.blocks
  -- boxes: what a cut or a stop leaves can be recovered
  pub edged : IsEdge s.edge
  pub begun : IsBegun s.edge s.log
  pub left : s.log.is_failed ≡ true → AreLeft s

-- ---- one record taken

abbrev pub with_record : Kept → ℕ → Marked → Filed → List Place → List Block → Kept
with_record s writer one filed newest blocks =
    record s {
      entries = s.entries ++ record { writer = writer; more = one.more; item = one.item } ∷ [];
      filed = filed;
      newest = newest;
      making = with_all s.making blocks;
    }

-- ---- a frame appended, or the append failed

abbrev pub with_frame : Kept → Filling → logs.Contents → Kept
with_frame s fresh log =
    record s { cuts = s.cuts ++ length s.entries ∷ []; durable = s.durable + 1; making = fresh; log = log }

abbrev pub with_stop : Kept → logs.Contents → Kept
with_stop s log =
    record s { cuts = s.cuts ++ length s.entries ∷ []; making = record s.making { is_sealed = true }; log = log }

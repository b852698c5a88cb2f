-- What a log keeps, after each of its two appends.

use Rattle.std.proofs.Common.{◌≡◌, ◌⊎◌, ℕ, suc, ◌+◌, ◌-◌, ◌^◌, ◌<◌, true, false, Some, List, [], ◌∷◌, ◌++◌, length, take, map, replicate, refl, sym, ap, subst}
use Rattle.std.proofs.Common.{◌∙◌, arith, length-append}
use Rattle.std.proofs.lemmas.List.{map-append, length-map, length-replicate}
use Rattle.std.specs.List.{AllByRecursion}
use Rattle.bw_record.specs.Version.{latest}
use Rattle.bw_codec.specs.Grammar.{frame_bytes, header_bytes, IsBlock}
use Rattle.bw_record.specs.declared.block.Block.{Block}
use Rattle.bw_record.specs.declared.block.Block.TheVariants.{Delta, Base, Split}
use Rattle.bw_record.specs.declared.block.Frame.{Frame}
use Rattle.bw_device.specs.Holding.{Holding, appended}
use Rattle.bw_log.specs.Segments.{header_with, entry_of, frames_of}
use Rattle.bw_log.proofs.Fields.{field_last, field_first, bounded_same, roomy_same, spares_roomy, empty_torn, first_torn}
use Rattle.bw_log.specs.Contents.{Contents, Image, image, IsImage, IsSound, IsBounded, IsRoomy, IsSpare, IsTable, counted, counted_in}
use Rattle.bw_log.specs.Appends.{header_of, begun, begun_with, last_of, with_last, with_first, torn, MayFollow, LeftBehind}
use Rattle.bw_log.specs.Appending.{with_frame, length_of}
use Rattle.bw_log.specs.PageTable.{noted_all, grown_to, top_page, empty_line, HaveLines}
use Rattle.bw_log.specs.declared.places.FrameAt.{FrameAt}
use Rattle.bw_log.specs.declared.places.PageAt.{PageAt}
use Rattle.bw_log.proofs.Adding.{Takes, added, counts_more, sound_more}
use Rattle.bw_log.proofs.Beginning.{with_segment, sound_begun, counted_begun, torn_image, torn_left, sound_torn, counted_torn, sound_failed}
use Rattle.bw_log.proofs.Noted.{table_more, table_grown_by, length-noted_all}
use Rattle.bw_log.proofs.Lines.{NewLines, new_lines}

-- ---- the last box

-- boxes before the last one, and that
pub record Ends (hs : List Holding) : Type 0 where
  pub older : List Holding
  pub newest : Holding
  pub split : hs ≡ older ++ newest ∷ []

pub ends : (hs : List Holding) → 0 < length hs → Ends hs
ends [] some = absurd (omega arith)
ends (h ∷ []) some = record { older = []; newest = h; split = refl }
ends (h ∷ k ∷ hs) some = let e = ends (k ∷ hs) (omega arith) in
    record { older = h ∷ e.older; newest = e.newest; split = ap (λ (l : List Holding). h ∷ l) e.split }

pub with_last_at : (f : Holding → Holding) (older : List Holding) (h : Holding) → with_last f (older ++ h ∷ []) ≡ older ++ f h ∷ []
with_last_at f [] h = refl
with_last_at f (o ∷ []) h = refl
with_last_at f (o ∷ p ∷ os) h = ap (λ (l : List Holding). o ∷ l) (with_last_at f (p ∷ os) h)

pub last_of_at : (older : List Holding) (h : Holding) → last_of (older ++ h ∷ []) ≡ Some h
last_of_at [] h = refl
last_of_at (o ∷ []) h = refl
last_of_at (o ∷ p ∷ os) h = last_of_at (p ∷ os) h

pub length-with_last : (f : Holding → Holding) (hs : List Holding) → length (with_last f hs) ≡ length hs
length-with_last f [] = refl
length-with_last f (h ∷ []) = refl
length-with_last f (h ∷ k ∷ hs) = ap suc (length-with_last f (k ∷ hs))

bytes_with_last : (f : Holding → Holding) (older : List Holding) (h : Holding)
    → map (λ (x : Holding). x.bytes) (with_last f (older ++ h ∷ [])) ≡ map (λ (x : Holding). x.bytes) older ++ (f h).bytes ∷ []
bytes_with_last f older h = ap (map (λ (x : Holding). x.bytes)) (with_last_at f older h) ∙ map-append (λ (x : Holding). x.bytes) older (f h ∷ [])

-- ---- rooms

bounded_last : (f : Holding → Holding) → ((h : Holding) → (f h).room ≡ h.room) → (live : List Holding) → AllByRecursion IsBounded live
    → AllByRecursion IsBounded (with_last f live)
bounded_last f keeps live all = bounded_same live (with_last f live) (field_last (λ (h : Holding). h.room) f keeps live) all

bounded_push : (hs : List Holding) (h : Holding) → AllByRecursion IsBounded hs → IsBounded h → AllByRecursion IsBounded (hs ++ h ∷ [])
bounded_push [] h all one = (one, tt)
bounded_push (k ∷ hs) h all one = (all.0, bounded_push hs h all.1 one)

roomy_first : (n : ℕ) (f : Holding → Holding) → ((h : Holding) → (f h).room ≡ h.room) → (spares : List Holding) → AllByRecursion (IsRoomy n) spares
    → AllByRecursion (IsRoomy n) (with_first f spares)
roomy_first n f keeps spares all = roomy_same n spares (with_first f spares) (field_first (λ (h : Holding). h.room) f keeps spares) all

-- ---- a segment begun

pub record Begins (c : Contents) (s : Holding) (ss : List Holding) : Type 0 where
  pub sound : IsSound c
  pub works : c.is_failed ≡ false
  pub first : c.spares ≡ s ∷ ss
  pub number : c.number + length c.live < 2 ^ 64

pub spares_empty : (c : Contents) (s : Holding) (ss : List Holding) → Begins c s ss → IsSpare c.f s × AllByRecursion (IsSpare c.f) ss
spares_empty c s ss b = subst (AllByRecursion (IsSpare c.f)) b.first (b.sound.empty b.works)

pub begun_is : (c : Contents) (s : Holding) (ss : List Holding) → Begins c s ss
    → begun c ≡ record c { live = c.live ++ appended s (header_bytes (header_of c)) ∷ []; spares = ss; is_open = true }
begun_is c s ss b = ap (begun_with c) b.first

image_begun : (c : Contents) (s : Holding) (ss : List Holding) → Begins c s ss → image (begun c) ≡ with_segment (image c)
image_begun c s ss b =
    let empty = (spares_empty c s ss b).0 in
    let number : length (map (λ (h : Holding). h.bytes) c.live) ≡ length c.live = length-map c.live (λ (h : Holding). h.bytes) in
    let bytes : map (λ (h : Holding). h.bytes) (c.live ++ appended s (header_bytes (header_of c)) ∷ []) ≡ map (λ (h : Holding). h.bytes) c.live
    ++ header_bytes (header_with (c.number + length (map (λ (h : Holding). h.bytes) c.live)) c.m c.f) ∷ [] =
    map-append (λ (h : Holding). h.bytes) c.live (appended s (header_bytes (header_of c)) ∷ [])
    ∙ ap (λ (l : List ℕ). map (λ (h : Holding). h.bytes) c.live ++ (l ++ header_bytes (header_of c)) ∷ []) empty.0
    ∙ ap (λ (n : ℕ). map (λ (h : Holding). h.bytes) c.live ++ header_bytes (header_with (c.number + n) c.m c.f) ∷ []) (sym number) in
    ap image (begun_is c s ss b) ∙ ap (λ (l : List (List ℕ)). let i : Image = record {
      m = c.m;
      f = c.f;
      number = c.number;
      old_to = c.old_to;
      is_open = true;
      is_failed = c.is_failed;
      next = c.next;
      bytes = l;
      frames = c.frames;
      pages = c.pages;
    } in i) bytes

pub begun_sound : (c : Contents) (s : Holding) (ss : List Holding) → Begins c s ss → IsSound (begun c)
begun_sound c s ss b =
    let number : c.number + length (map (λ (h : Holding). h.bytes) c.live) < 2 ^ 64 =
    (let n = b.number in omega (arith, length-map c.live (λ (h : Holding). h.bytes))) in
    let few = b.sound.few in
    let size = ap (λ (l : List Holding). length l) b.first in
    let sound : IsSound (record c { live = c.live ++ appended s (header_bytes (header_of c)) ∷ []; spares = ss; is_open = true }) = record {
      few = omega (arith, length-append c.live (appended s (header_bytes (header_of c)) ∷ []));
      bounds = bounded_push c.live (appended s (header_bytes (header_of c))) b.sound.bounds (spares_empty c s ss b).0.1.1;
      rooms = spares_roomy c.f ss (spares_empty c s ss b).1;
      empty = λ _. (spares_empty c s ss b).1;
      torn = λ failed. (let no : true ≡ false = sym failed ∙ b.works in absurd cc);
      holds = subst IsImage (sym (image_begun c s ss b) ∙ ap image (begun_is c s ss b)) (sound_begun (image c) b.sound.holds number);
    } in
    subst IsSound (sym (begun_is c s ss b)) sound

pub begun_counts : (c : Contents) (s : Holding) (ss : List Holding) → Begins c s ss → counted (begun c) ≡ counted c
begun_counts c s ss b =
    let number : c.number + length (map (λ (h : Holding). h.bytes) c.live) < 2 ^ 64 =
    (let n = b.number in omega (arith, length-map c.live (λ (h : Holding). h.bytes))) in
    ap counted_in (image_begun c s ss b) ∙ counted_begun (image c) b.sound.holds number

-- ---- a frame put

pub record Puts (c : Contents) (x : Frame) (older : List Holding) (h : Holding) : Type 0 where
  pub sound : IsSound c
  pub works : c.is_failed ≡ false
  pub takes : c.is_open ≡ true
  pub last : c.live ≡ older ++ h ∷ []
  pub follows : MayFollow c x

bytes_split : (c : Contents) (x : Frame) (older : List Holding) (h : Holding) → Puts c x older h
    → (image c).bytes ≡ map (λ (k : Holding). k.bytes) older ++ h.bytes ∷ []
bytes_split c x older h p = ap (map (λ (k : Holding). k.bytes)) p.last ∙ map-append (λ (k : Holding). k.bytes) older (h ∷ [])

image_takes : (c : Contents) (x : Frame) (older : List Holding) (h : Holding) → Puts c x older h
    → Takes (image c) (map (λ (k : Holding). k.bytes) older) h.bytes x
image_takes c x older h p = record {
  holds = p.sound.holds;
  takes = p.takes;
  works = p.works;
  ends = bytes_split c x older h p;
  lawful = p.follows.lawful;
  number = p.follows.number;
}

pub put_lines : (c : Contents) (x : Frame) (older : List Holding) (h : Holding) (p : Puts c x older h)
    → NewLines x.blocks (length c.pages) (length p.follows.leaves)
put_lines c x older h p = new_lines c.m (counted c) (length c.pages) x p.follows.leaves p.follows.lawful.blocks p.sound.holds.stands p.follows.stands

-- the blocks' pages fit a page number
top_small : (m : ℕ) (bs : List Block) → AllByRecursion (IsBlock m) bs → top_page bs < 2 ^ 32
top_small m [] laws = omega arith
top_small m (Delta page back ops ∷ bs) laws = let a = laws.0.changes.1 in let t = top_small m bs laws.1 in omega arith
top_small m (Base leaf ∷ bs) laws = let a = laws.0.page.1 in let t = top_small m bs laws.1 in omega arith
top_small m (Split page back upper ∷ bs) laws = let a = laws.0.splits.1 in let b = laws.0.makes.page.1 in let t = top_small m bs laws.1 in omega arith

abbrev new_pages : Contents → Frame → List PageAt
new_pages c x = noted_all x.number 0 x.blocks (grown_to (top_page x.blocks) c.pages)

pub length-grown : (top : ℕ) (pages : List PageAt) → length (grown_to top pages) ≡ length pages + (top - length pages)
length-grown top pages = length-append pages (replicate (top - length pages) empty_line)
    ∙ ap (λ (n : ℕ). length pages + n) (length-replicate (top - length pages) empty_line)

length-new_pages : (c : Contents) (x : Frame) (older : List Holding) (h : Holding) (p : Puts c x older h) → length (new_pages c x) ≡ length p.follows.leaves
length-new_pages c x older h p = length-noted_all x.number 0 x.blocks (grown_to (top_page x.blocks) c.pages) ∙ length-grown (top_page x.blocks) c.pages
    ∙ (put_lines c x older h p).reach

new_table : (c : Contents) (x : Frame) (older : List Holding) (h : Holding) → Puts c x older h → IsTable (new_pages c x) (counted c ++ x ∷ [])
new_table c x older h p =
    let lines = put_lines c x older h p in
    let room : length p.follows.leaves ≡ length (grown_to (top_page x.blocks) c.pages) = sym (length-grown (top_page x.blocks) c.pages ∙ lines.reach) in
    table_more (grown_to (top_page x.blocks) c.pages) (counted c) x
    (table_grown_by (top_page x.blocks - length c.pages) c.pages (counted c) p.sound.holds.table) p.follows.lawful.head.numbered.0
    (subst (HaveLines x.blocks) room lines.lines)

image_put : (c : Contents) (x : Frame) (older : List Holding) (h : Holding) → Puts c x older h
    → image (with_frame c x) ≡ added (image c) (map (λ (k : Holding). k.bytes) older) h.bytes x (new_pages c x)
image_put c x older h p =
    let f = λ (k : Holding). appended k (frame_bytes x) in
    let bytes : map (λ (k : Holding). k.bytes) (with_last f c.live) ≡ map (λ (k : Holding). k.bytes) older ++ (h.bytes ++ frame_bytes x) ∷ [] =
    ap (λ (l : List Holding). map (λ (k : Holding). k.bytes) (with_last f l)) p.last ∙ bytes_with_last f older h in
    let place : length c.live - 1 ≡ length (map (λ (k : Holding). k.bytes) older) =
    (let size = ap (λ (l : List Holding). length l) p.last in omega (arith, size, length-append older (h ∷ []), length-map older (λ (k : Holding). k.bytes))) in
    let at : length_of (last_of c.live) ≡ length h.bytes = ap (λ (l : List Holding). length_of (last_of l)) p.last ∙ ap length_of (last_of_at older h) in
    let line : entry_of latest (c.number + (length c.live - 1)) (length_of (last_of c.live)) x
    ≡ entry_of latest (c.number + length (map (λ (k : Holding). k.bytes) older)) (length h.bytes) x =
    ap (λ (n : ℕ). entry_of latest (c.number + n) (length_of (last_of c.live)) x) place
    ∙ ap (λ (n : ℕ). entry_of latest (c.number + length (map (λ (k : Holding). k.bytes) older)) n x) at in
    ap (λ (l : List (List ℕ)). let i : Image = record (image (with_frame c x)) { bytes = l } in i) bytes
    ∙ ap (λ (e : FrameAt). let i : Image = record (image (with_frame c x))
    { bytes = map (λ (k : Holding). k.bytes) older ++ (h.bytes ++ frame_bytes x) ∷ []; frames = c.frames ++ e ∷ [] } in i) line

pub put_counts : (c : Contents) (x : Frame) (older : List Holding) (h : Holding) → Puts c x older h → counted (with_frame c x) ≡ counted c ++ x ∷ []
put_counts c x older h p = ap counted_in (image_put c x older h p)
    ∙ counts_more (image c) (map (λ (k : Holding). k.bytes) older) h.bytes x (new_pages c x) (image_takes c x older h p)

pub put_sound : (c : Contents) (x : Frame) (older : List Holding) (h : Holding) → Puts c x older h → IsSound (with_frame c x)
put_sound c x older h p =
    let lines = put_lines c x older h p in
    let size = length-new_pages c x older h p in
    let reach = lines.reach in
    let top = top_small c.m x.blocks p.follows.lawful.blocks in
    let count = p.sound.holds.count in
    let few_pages : length (new_pages c x) < 2 ^ 32 = omega arith in
    let few = p.sound.few in
    record {
      few = omega (arith, length-with_last (λ (k : Holding). appended k (frame_bytes x)) c.live);
      bounds = bounded_last (λ (k : Holding). appended k (frame_bytes x)) (λ k. refl) c.live p.sound.bounds;
      rooms = p.sound.rooms;
      empty = p.sound.empty;
      torn = λ failed. (let no : true ≡ false = sym failed ∙ p.works in absurd cc);
      holds = subst IsImage (sym (image_put c x older h p))
          (sound_more (image c) (map (λ (k : Holding). k.bytes) older) h.bytes x (new_pages c x) p.follows.leaves (image_takes c x older h p) p.follows.links
          p.follows.stands (new_table c x older h p) (sym size) few_pages);
    }

-- ---- a frame torn, and a header

abbrev pub torn_contents : Contents → Frame → ℕ → Contents
torn_contents c x n = record c { live = with_last (torn n (frame_bytes x)) c.live; is_failed = true }

image_torn : (c : Contents) (x : Frame) (n : ℕ) (older : List Holding) (h : Holding) → Puts c x older h
    → image (torn_contents c x n) ≡ torn_image (image c) (map (λ (k : Holding). k.bytes) older) h.bytes x n
image_torn c x n older h p =
    let f = torn n (frame_bytes x) in
    let bytes : map (λ (k : Holding). k.bytes) (with_last f c.live) ≡ map (λ (k : Holding). k.bytes) older ++ (h.bytes ++ take n (frame_bytes x)) ∷ [] =
    ap (λ (l : List Holding). map (λ (k : Holding). k.bytes) (with_last f l)) p.last ∙ bytes_with_last f older h in
    ap (λ (l : List (List ℕ)). let i : Image = record (image (torn_contents c x n)) { bytes = l } in i) bytes

pub torn_sound : (c : Contents) (x : Frame) (n : ℕ) (older : List Holding) (h : Holding) → Puts c x older h
    → IsSound (torn_contents c x n) × (counted (torn_contents c x n) ≡ counted c) × LeftBehind c x (torn_contents c x n)
torn_sound c x n older h p =
    let same = image_torn c x n older h p in
    let takes = image_takes c x older h p in
    let few = p.sound.few in (
      record {
        few = omega (arith, length-with_last (torn n (frame_bytes x)) c.live);
        bounds = bounded_last (torn n (frame_bytes x)) (λ k. refl) c.live p.sound.bounds;
        rooms = p.sound.rooms;
        empty = λ works. absurd cc;
        torn = λ _. empty_torn (c.number + length (with_last (torn n (frame_bytes x)) c.live)) c.m c.f c.spares (p.sound.empty p.works);
        holds = subst IsImage (sym same) (sound_torn (image c) (map (λ (k : Holding). k.bytes) older) h.bytes x n takes
            (record { number = p.follows.number; links = p.follows.links; leaves = p.follows.leaves; stands = p.follows.stands }));
      },
      ap counted_in same ∙ counted_torn (image c) (map (λ (k : Holding). k.bytes) older) h.bytes x n takes,
      subst (λ (i : Image). (frames_of i.bytes ≡ counted c) ⊎ (frames_of i.bytes ≡ counted c ++ x ∷ [])) (sym same)
          (torn_left (image c) (map (λ (k : Holding). k.bytes) older) h.bytes x n takes),
    )

pub length-with_first : (f : Holding → Holding) (hs : List Holding) → length (with_first f hs) ≡ length hs
length-with_first f [] = refl
length-with_first f (h ∷ hs) = refl

abbrev pub spare_contents : Contents → ℕ → Contents
spare_contents c n = record c { spares = with_first (torn n (header_bytes (header_of c))) c.spares; is_failed = true }

pub spare_sound : (c : Contents) (n : ℕ) → IsSound c → c.is_failed ≡ false → c.number + length c.live < 2 ^ 64
    → IsSound (spare_contents c n) × (counted (spare_contents c n) ≡ counted c)
spare_sound c n s works small =
    let few = s.few in (
      record {
        few = omega (arith, length-with_first (torn n (header_bytes (header_of c))) c.spares);
        bounds = s.bounds;
        rooms = roomy_first c.f (torn n (header_bytes (header_of c))) (λ k. refl) c.spares s.rooms;
        empty = λ works. absurd cc;
        torn =
            λ _. first_torn (c.number + length c.live) c.m c.f n c.spares small (s.empty works);
        holds = sound_failed (image c) s.holds works;
      },
      refl,
    )

-- The walk over one frame's blocks: each Base that is its page's last block may be noted.

use Rattle.std.proofs.Common.{◌≡◌, ℕ, None, MatchOption, map, ◌+◌, ◌-◌, ◌^◌, ◌<◌, ◌≤◌, Option, Some, IfSome, List, [], ◌∷◌, ◌++◌, length, take, drop}
use Rattle.std.proofs.Common.{get_or, slice_get, refl, sym, ap, subst, ◌∙◌}
use Rattle.std.proofs.Common.{append_assoc, length-append, length-drop, arith}
use Rattle.std.specs.List.{AllByRecursion}
use Rattle.std.proofs.lemmas.List.{drop-drop, take-append-drop, length-take-le, take_at, drop_at}
use Rattle.std.proofs.lemmas.Option.{slice_get_within, get_or_from_slice_get}
use Rattle.bw_codec.specs.Grammar.{block_bytes, body_bytes, head_bytes, frame_bytes, frame_bytes_in, IsBlock, IsFrameIn}
use Rattle.bw_codec.specs.Reading.{version_in}
use Rattle.bw_record.specs.Version.{latest}
use Rattle.bw_codec.specs.Outline.{outline_of}
use Rattle.bw_record.specs.declared.leaf.Leaf.{Leaf}
use Rattle.bw_record.specs.declared.block.Block.{Block}
use Rattle.bw_record.specs.declared.block.Block.TheVariants.{Delta, Base, Split}
use Rattle.bw_record.specs.declared.block.Frame.{Frame}
use Rattle.bw_record.specs.declared.block.Place.{Place}
use Rattle.bw_codec.specs.declared.outline.Outline.{Outline}
use Rattle.bw_codec.proofs.FrontFormat.{length-head}
use Rattle.bw_codec.proofs.Stepping.{length-outlined}
use Rattle.bw_device.specs.Holding.{Holding}
use Rattle.bw_leaf.specs.Forwards.{content, blocks_of}
use Rattle.bw_log.specs.Contents.{Contents, counted, image, limits_of, IsSound}
use Rattle.bw_log.specs.Places.{place_of, first_number}
use Rattle.bw_log.specs.Segments.{version_at, AreLive, AreFrom}
use Rattle.bw_log.specs.declared.places.FrameAt.{FrameAt}
use Rattle.bw_log.proofs.Fetched.{boxed_line}
use Rattle.bw_log.proofs.Reread.{live_version}
use Rattle.bw_care.specs.Ahead.{IsBaseOf, IsLineOf, IsOldest, Tells}
use Rattle.bw_care.proofs.BasesFound.{base_found}
use Rattle.bw_care.proofs.CleaningSteps.{rest_is}

-- ---- the frame

-- the version that is said of the oldest segment is that of its number
version_by : (c : Contents) (live : List Holding) (o : Option ℕ) → IsSound c → c.live ≡ live → 0 < length live
    → MatchOption (slice_get live 0) (o ≡ None) (λ h. o ≡ Some (version_in h.bytes)) → o ≡ Some latest → version_at c.old_to c.number ≡ latest
version_by c [] o sound is some told new = absurd (omega arith)
version_by c (h ∷ hs) o sound is some told new =
    let z = limits_of (image c) sound.holds.live.0 in
    let live = (subst (λ (l : List Holding). AreLive z c.number (map (λ (x : Holding). x.bytes) l)) is sound.holds.live.1).0 in
    let both : Some (version_in h.bytes) ≡ Some latest = sym told ∙ new in
    let version : version_in h.bytes ≡ latest = cc in
    sym (live_version z c.number h.bytes live) ∙ version

pub oldest_version : (c : Contents) (o : Option ℕ) → IsSound c → 0 < length c.live
    → MatchOption (slice_get c.live 0) (o ≡ None) (λ h. o ≡ Some (version_in h.bytes)) → o ≡ Some latest → version_at c.old_to c.number ≡ latest
oldest_version c o sound some told new = version_by c c.live o sound refl some told new

-- a line of the oldest segment, in its bytes
pub line_of : (c : Contents) (k : ℕ) (line : FrameAt) (bytes : List ℕ) → IsSound c → Some line ≡ slice_get c.frames k → line.segment ≡ c.number + 0
    → version_at c.old_to c.number ≡ latest → IsOldest c bytes → IsLineOf c bytes line
line_of c k line bytes sound told first new oldest =
    let is : slice_get c.frames k ≡ Some line = sym told in
    let l = boxed_line c k line sound (slice_get_within c.frames k line is) (sym (get_or_from_slice_get c.frames k line line is)) in
    let none : line.segment - c.number ≡ 0 = omega arith in
    let number : line.segment ≡ c.number = omega arith in
    let version : version_at c.old_to line.segment ≡ latest = ap (version_at c.old_to) number ∙ new in
    let same : bytes ≡ l.box.bytes =
    subst (λ (o : Option Holding). IfSome o (λ h. bytes ≡ h.bytes)) (ap (slice_get c.live) (sym none) ∙ l.there) oldest in
    record {
      index = k;
      frame = l.frame;
      stands = l.stands;
      limit = l.limit;
      lawful = subst (λ (v : ℕ). IsFrameIn v c.m l.limit l.frame) version l.lawful;
      within = (let long = ap (λ (b : List ℕ). length b) same in let inside = l.within in omega arith);
      spelled = ap (λ (b : List ℕ). take line.len (drop line.at b)) same ∙ l.spelled ∙ ap (λ (v : ℕ). frame_bytes_in v l.frame) version;
      numbered = l.numbered;
    }

-- ---- its blocks

-- in the frame of this line so many blocks were passed over, and the others are spelled from here to the end
pub record Noting (c : Contents) (bytes : List ℕ) (line : FrameAt) (end at count : ℕ) : Type 0 where
  pub whole : IsLineOf c bytes line
  pub passed : List Block
  pub left : List Block
  pub blocks : whole.frame.blocks ≡ passed ++ left
  pub many : length passed ≡ count
  pub laws : AllByRecursion (IsBlock c.m) left
  pub back : List ℕ
  pub parts : drop at bytes ≡ body_bytes left ++ back
  pub ends : at + length (body_bytes left) ≡ end
  pub inside : end ≤ length bytes

frame_parts : (at len : ℕ) (bytes : List ℕ) (frame : Frame) → take len (drop at bytes) ≡ frame_bytes frame
    → drop (at + 20) bytes ≡ body_bytes frame.blocks ++ drop len (drop at bytes)
frame_parts at len bytes frame spelled =
    let body = body_bytes frame.blocks in
    let head = head_bytes frame.number (length body) (length frame.blocks) in
    let back = drop len (drop at bytes) in
    sym (drop-drop 20 at bytes)
    ∙ ap (drop 20) (sym (take-append-drop len (drop at bytes)) ∙ ap (λ (l : List ℕ). l ++ back) spelled ∙ append_assoc head body back)
    ∙ drop_at head (body ++ back) 20 (length-head latest frame.number (length body) (length frame.blocks))

frame_long : (at len : ℕ) (bytes : List ℕ) (frame : Frame) → at + len ≤ length bytes → take len (drop at bytes) ≡ frame_bytes frame
    → len ≡ 20 + length (body_bytes frame.blocks)
frame_long at len bytes frame within spelled =
    let body = body_bytes frame.blocks in
    let long : len ≤ length (drop at bytes) = omega (arith, length-drop at bytes) in
    omega (
      arith,
      length-take-le len (drop at bytes) long,
      ap (λ (l : List ℕ). length l) spelled,
      length-head latest frame.number (length body) (length frame.blocks),
      length-append (head_bytes frame.number (length body) (length frame.blocks)) body,
    )

pub noting_starts : (c : Contents) (bytes : List ℕ) (line : FrameAt) (end at : ℕ) → IsLineOf c bytes line → end ≡ line.at + line.len → at ≡ line.at + 20
    → Noting c bytes line end at 0
noting_starts c bytes line end at l ends starts =
    let long = frame_long line.at line.len bytes l.frame l.within l.spelled in
    let inside = l.within in
    record {
      whole = l;
      passed = [];
      left = l.frame.blocks;
      blocks = refl;
      many = refl;
      laws = l.lawful.blocks;
      back = drop line.len (drop line.at bytes);
      parts = ap (λ (n : ℕ). drop n bytes) starts ∙ frame_parts line.at line.len bytes l.frame l.spelled;
      ends = omega arith;
      inside = omega arith;
    }

-- the block that is next
abbrev NextOf : List Block → Type 0
NextOf left = (block : Block) × (others : List Block) × (left ≡ block ∷ others)

next_by : (end at : ℕ) (left : List Block) → at + length (body_bytes left) ≡ end → at < end → NextOf left
next_by end at [] ends some = absurd (omega arith)
next_by end at (b ∷ bs) ends some = (b, bs, refl)

drop_parts : {c : Contents} {bytes : List ℕ} {line : FrameAt} {end at count : ℕ} (n : Noting c bytes line end at count) (b : NextOf n.left)
    → drop at bytes ≡ block_bytes b.0 ++ (body_bytes b.1 ++ n.back)
drop_parts n b = n.parts ∙ ap (λ (l : List Block). body_bytes l ++ n.back) b.2 ∙ append_assoc (block_bytes b.0) (body_bytes b.1) n.back

-- .. and what is said of it
pub record Step {c : Contents} {bytes : List ℕ} {line : FrameAt} {end at count : ℕ} (n : Noting c bytes line end at count) (o : Outline) : Type 0 where
  pub next : NextOf n.left
  pub told : o ≡ outline_of latest next.0

-- what is said of the blocks at the front of the bytes from here on
abbrev Outlines : List ℕ → Outline → Type 0
Outlines front o = (m : ℕ) (block : Block) (rest : List ℕ) → m < 2 ^ 16 → IsBlock m block → front ≡ block_bytes block ++ rest
    → Some o ≡ Some (outline_of latest block)

outlined_so : (b : Block) (o : Outline) → Some o ≡ Some (outline_of latest b) → o ≡ outline_of latest b
outlined_so b o is = cc

pub step_of : {c : Contents} {bytes : List ℕ} {line : FrameAt} {end at count : ℕ} (n : Noting c bytes line end at count) (o : Outline) → IsSound c → at < end
    → Outlines (take (length bytes - at) (drop at bytes)) o → Step n o
step_of {c} {bytes} {line} {end} {at} {count} n o sound some told =
    let b = next_by end at n.left n.ends some in
    let most = sound.holds.limits.1 in
    record {
      next = b;
      told = outlined_so b.0 o (told c.m b.0 (body_bytes b.1 ++ n.back) (omega arith) (subst (AllByRecursion (IsBlock c.m)) b.2 n.laws).0
          (rest_is bytes at ∙ drop_parts n b));
    }

outline_long : (b : Block) (o : Outline) → o ≡ outline_of latest b → o.len ≡ length (block_bytes b)
outline_long b o is = ap (λ (x : Outline). x.len) is ∙ length-outlined latest b

some_spelled : (b : Block) → 0 < length (block_bytes b)
some_spelled (Delta page back ops) = omega arith
some_spelled (Base leaf) = omega arith
some_spelled (Split page back upper) = omega arith

page_by : (m : ℕ) (b : Block) → IsBlock m b → 1 ≤ (outline_of latest b).page
page_by m (Delta page back ops) law = law.changes.0
page_by m (Base leaf) law = law.page.0
page_by m (Split page back upper) law = law.splits.0

pub page_told : {c : Contents} {bytes : List ℕ} {line : FrameAt} {end at count : ℕ} {n : Noting c bytes line end at count} {o : Outline} → Step n o → 1 ≤ o.page
page_told {c} {bytes} {line} {end} {at} {count} {n} {o} s =
    let some = page_by c.m s.next.0 (subst (AllByRecursion (IsBlock c.m)) s.next.2 n.laws).0 in
    subst (λ (x : Outline). 1 ≤ x.page) (sym s.told) some

-- where it ends
pub record StepsOn (bytes : List ℕ) (end at count len : ℕ) : Type 0 where
  pub some : 0 < len
  pub within : at + len ≤ end
  pub long : end ≤ length bytes
  pub few : count + 1 < 2 ^ 32

pub steps_on : {c : Contents} {bytes : List ℕ} {line : FrameAt} {end at count : ℕ} {n : Noting c bytes line end at count} {o : Outline} → Step n o
    → StepsOn bytes end at count o.len
steps_on {c} {bytes} {line} {end} {at} {count} {n} {o} s =
    let b = s.next in
    let len = outline_long b.0 o s.told in
    let ends = n.ends in
    let few = n.whole.lawful.head.some.1 in
    let many = n.many in
    let size = ap (λ (l : List Block). length (body_bytes l)) b.2 in
    record {
      some = omega (arith, some_spelled b.0);
      within = omega (arith, length-append (block_bytes b.0) (body_bytes b.1));
      long = n.inside;
      few = omega (arith, ap (λ (l : List Block). length l) n.blocks, ap (λ (l : List Block). length l) b.2, length-append n.passed n.left);
    }

pub noted_on : {c : Contents} {bytes : List ℕ} {line : FrameAt} {end at count : ℕ} {n : Noting c bytes line end at count} {o : Outline} → Step n o
    → Noting c bytes line end (at + o.len) (count + 1)
noted_on {c} {bytes} {line} {end} {at} {count} {n} {o} s =
    let b = s.next in
    let len = outline_long b.0 o s.told in
    let ends = n.ends in
    let many = n.many in
    let size = ap (λ (l : List Block). length (body_bytes l)) b.2 in
    record {
      whole = n.whole;
      passed = n.passed ++ b.0 ∷ [];
      left = b.1;
      blocks = n.blocks ∙ ap (λ (l : List Block). n.passed ++ l) b.2 ∙ sym (append_assoc n.passed (b.0 ∷ []) b.1);
      many = omega (arith, length-append n.passed (b.0 ∷ []));
      laws = (subst (AllByRecursion (IsBlock c.m)) b.2 n.laws).1;
      back = n.back;
      parts = sym (drop-drop o.len at bytes) ∙ ap (drop o.len) (drop_parts n b) ∙ drop_at (block_bytes b.0) (body_bytes b.1 ++ n.back) o.len (sym len);
      ends = omega (arith, length-append (block_bytes b.0) (body_bytes b.1));
      inside = n.inside;
    }

-- ---- a Base that is its page's last block

-- bytes that begin with a 2 are a Base's
base_here : (b : Block) (bytes rest : List ℕ) → bytes ≡ block_bytes b ++ rest → get_or bytes 0 0 ≡ 2 → (leaf : Leaf) × (b ≡ Base leaf)
base_here (Delta page back ops) bytes rest parts is = absurd (let e = sym (ap (λ (l : List ℕ). get_or l 0 0) parts) ∙ is in omega arith)
base_here (Base leaf) bytes rest parts is = (leaf, refl)
base_here (Split page back upper) bytes rest parts is = absurd (let e = sym (ap (λ (l : List ℕ). get_or l 0 0) parts) ∙ is in omega arith)

-- it is the page
base_read : (c : Contents) (fs : List Frame) (x : Frame) (xs : List Frame) (bs cs : List Block) (leaf : Leaf) (place : Place) → IsSound c
    → counted c ≡ fs ++ x ∷ xs → x.blocks ≡ bs ++ Base leaf ∷ cs → place ≡ record { frame = x.number; index = length bs }
    → place_of leaf.page (counted c) ≡ Some place → content leaf.page (blocks_of (counted c)) ≡ Some leaf
base_read c fs x xs bs cs leaf place sound stands split there last =
    ap (λ (l : List Frame). content leaf.page (blocks_of l)) stands
    ∙ base_found (first_number (counted c)) fs x xs bs cs leaf (subst (AreFrom (first_number (counted c))) stands sound.holds.numbered) split
    (ap (place_of leaf.page) (sym stands) ∙ last ∙ ap (λ (p : Place). Some p) there)

tells_by : {c : Contents} {bytes : List ℕ} {line : FrameAt} {end at count : ℕ} (n : Noting c bytes line end at count) (leaf : Leaf) (others : List Block)
    (o : Outline) (place : Place) → IsSound c → n.left ≡ Base leaf ∷ others → o ≡ outline_of latest (Base leaf)
    → place ≡ record { frame = line.number; index = count } → place_of o.page (counted c) ≡ Some place
    → IsBaseOf c o.page (take o.len (drop at bytes))
tells_by {c} {bytes} {line} {end} {at} {count} n leaf others o place sound left told there last =
    let frame = n.whole.frame in
    let stands = n.whole.stands in
    let base = block_bytes (Base leaf) in
    let rest = body_bytes others in
    let page : leaf.page ≡ o.page = sym (ap (λ (x : Outline). x.page) told) in
    let law : IsBlock c.m (Base leaf) = (subst (AllByRecursion (IsBlock c.m)) left n.laws).0 in
    let here : place ≡ record { frame = frame.number; index = length n.passed } =
    there ∙ ap (λ (k : ℕ). let p : Place = record { frame = k; index = count } in p) n.whole.numbered
    ∙ ap (λ (k : ℕ). let p : Place = record { frame = frame.number; index = k } in p) (sym n.many) in
    record {
      leaf = leaf;
      read = record {
        page = page;
        stands = base_read c stands.before frame stands.beyond n.passed others leaf place sound stands.split
            (n.blocks ∙ ap (λ (l : List Block). n.passed ++ l) left) here
            (ap (λ (p : ℕ). place_of p (counted c)) page ∙ last);
        lawful = law;
      };
      spelled = ap (take o.len) (n.parts ∙ ap (λ (l : List Block). body_bytes l ++ n.back) left ∙ append_assoc base rest n.back)
          ∙ take_at base (rest ++ n.back) o.len (sym (outline_long (Base leaf) o told));
    }

pub spot_tells : {c : Contents} {bytes : List ℕ} {line : FrameAt} {end at count : ℕ} {n : Noting c bytes line end at count} {o : Outline} → Step n o
    → (place : Place) → IsSound c → place ≡ record { frame = line.number; index = count }
    → get_or (take (length bytes - at) (drop at bytes)) 0 0 ≡ 2 → place_of o.page (counted c) ≡ Some place
    → Tells c bytes o.page (record { at = at; len = o.len })
spot_tells {c} {bytes} {line} {end} {at} {count} {n} {o} s place sound there first last =
    let b = s.next in
    let base = base_here b.0 (take (length bytes - at) (drop at bytes)) (body_bytes b.1 ++ n.back) (rest_is bytes at ∙ drop_parts n b) first in
    let left : n.left ≡ Base base.0 ∷ b.1 = b.2 ∙ ap (λ (x : Block). x ∷ b.1) base.1 in
    let told : o ≡ outline_of latest (Base base.0) = s.told ∙ ap (outline_of latest) base.1 in
    let on = steps_on s in
    let within = on.within in
    let long = on.long in
    record { within = omega arith; holds = λ some. tells_by n base.0 b.1 o place sound left told there last }

-- Frames that stand in a row are taken, one after the other.

use Rattle.std.proofs.Common.{◌≡◌, ℕ, ◌+◌, ◌-◌, ◌<◌, ◌≤◌, ◌⊎◌, inl, inr, Bool, true, false, if◌then◌else◌, List, [], ◌∷◌, ◌++◌, length, drop, IsTrue, Option, Some, None, refl, sym, ap, subst, ◌∙◌, arith, append_assoc, length-append, length-drop}
use Rattle.std.specs.List.{flat_map}
use Rattle.std.specs.Option.{unwrap_or}
use Rattle.std.proofs.lemmas.List.{drop-drop}
use Rattle.bw_record.specs.declared.block.Frame.{Frame}
use Rattle.bw_codec.specs.declared.head.Header.{Header}
use Rattle.bw_codec.specs.Grammar.{frame_bytes_in}
use Rattle.bw_rescue.specs.declared.held.Spot.{Spot}
use Rattle.bw_rescue.specs.declared.held.Walk.{Walk}
use Rattle.bw_rescue.specs.declared.pieces.Pieces.{Pieces}
use Rattle.bw_rescue.specs.Hurt.{Cut, cuts, is_hurt, is_hurt_in, Follow, ArePassed, AreOpen, ArePieces}
use Rattle.bw_rescue.specs.Taken.{StandsAt, Rise, StandFrom, spots_from, BeginsWith}
use Rattle.bw_rescue.specs.Walked.{GoesTo}
use Rattle.bw_rescue.proofs.PiecesLooked.{passed_later}

-- ---- where a walk is

-- frames are ahead, and what was taken and these are all
pub record IsAmid (header : Header) (bytes : List ℕ) (hurt : ℕ → ℕ → Bool) (all : List Spot) (steps : ℕ) (walk : Walk) : Type 0 where
  pub todo : List Frame
  pub stand : StandFrom header bytes walk.at walk.last todo
  pub row : walk.spots.items ++ spots_from hurt header.version walk.at todo ≡ all
  pub far : steps + length todo ≤ length bytes
  pub looked : AreOpen walk.at walk.pieces
  pub hurts : (from to : ℕ) → is_hurt_in (cuts walk.pieces) from to ≡ hurt from to

abbrev pub OnTheWay : Header → List ℕ → (ℕ → ℕ → Bool) → List Spot → ℕ → Walk → Type 0
OnTheWay header bytes hurt all steps walk = IsAmid header bytes hurt all steps walk ⊎ BeginsWith all walk.spots.items

-- ---- a row of spots

none_more : (xs : List Spot) → xs ≡ xs ++ []
none_more [] = refl
none_more (x ∷ xs) = ap (λ (l : List Spot). x ∷ l) (none_more xs)

pub begins_itself : (xs : List Spot) → BeginsWith xs xs
begins_itself xs = ([], none_more xs)

pub begins_one : (xs ys : List Spot) (s : Spot) → ys ≡ xs ++ s ∷ [] → BeginsWith xs ys
begins_one xs ys s is = (s ∷ [], is)

pub begins_same : (xs ys : List Spot) → ys ≡ xs → BeginsWith xs ys
begins_same xs ys is = subst (λ (l : List Spot). BeginsWith xs l) (sym is) (begins_itself xs)

begins_later : (xs ys zs : List Spot) → BeginsWith xs ys → BeginsWith ys zs → BeginsWith xs zs
begins_later xs ys zs a b = (a.0 ++ b.0, b.1 ∙ ap (λ (l : List Spot). l ++ b.0) a.1 ∙ append_assoc xs a.0 b.0)

-- what a walk took stays taken
pub kept_or_not : (damaged : Bool) (xs ys : List Spot) (s : Spot) → ys ≡ (if damaged then xs else xs ++ s ∷ []) → BeginsWith xs ys
kept_or_not true xs ys s is = begins_same xs ys is
kept_or_not false xs ys s is = begins_one xs ys s is

-- ---- one frame

drop_past : (xs ys : List ℕ) → drop (length xs) (xs ++ ys) ≡ ys
drop_past [] ys = refl
drop_past (x ∷ xs) ys = drop_past xs ys

its_bytes : (header : Header) → Frame → List ℕ
its_bytes header f = frame_bytes_in header.version f

parted : (header : Header) (bytes : List ℕ) (at low : ℕ) (f : Frame) (fs : List Frame) (stand : StandFrom header bytes at low (f ∷ fs))
    → drop at bytes ≡ frame_bytes_in header.version f ++ (flat_map (frame_bytes_in header.version) fs ++ stand.rest)
parted header bytes at low f fs stand = stand.parts ∙ append_assoc (frame_bytes_in header.version f) (flat_map (frame_bytes_in header.version) fs) stand.rest

pub first_stands : (header : Header) (bytes : List ℕ) (at low : ℕ) (f : Frame) (fs : List Frame) → StandFrom header bytes at low (f ∷ fs)
    → StandsAt header bytes at f (length (frame_bytes_in header.version f))
first_stands header bytes at low f fs stand = (stand.each.0, flat_map (frame_bytes_in header.version) fs ++ stand.rest, parted header bytes at low f fs stand, refl)

risen : (low high : ℕ) (fs : List Frame) → low ≤ high → Rise high fs → Rise low fs
risen low high [] less rise = tt
risen low high (f ∷ fs) less rise = (let a = rise.0 in omega (arith, a, less), rise.1)

last_rises : (damaged : Bool) (low number last : ℕ) (fs : List Frame) → low < number → last ≡ (if damaged then low else number) → Rise number fs → Rise last fs
last_rises true low number last fs more is rise = risen last number fs (omega (arith, more, is)) rise
last_rises false low number last fs more is rise = subst (λ (n : ℕ). Rise n fs) (sym is) rise

others_stand : (header : Header) (bytes : List ℕ) (at low end last : ℕ) (damaged : Bool) (f : Frame) (fs : List Frame) → StandFrom header bytes at low (f ∷ fs)
    → end ≡ at + length (frame_bytes_in header.version f) → last ≡ (if damaged then low else f.number) → StandFrom header bytes end last fs
others_stand header bytes at low end last damaged f fs stand is was = record {
  each = stand.each.1;
  rise = last_rises damaged low f.number last fs stand.rise.0 was stand.rise.1;
  rest = stand.rest;
  parts = ap (λ (k : ℕ). drop k bytes) is ∙ sym (drop-drop (length (frame_bytes_in header.version f)) at bytes)
      ∙ ap (drop (length (frame_bytes_in header.version f))) (parted header bytes at low f fs stand)
      ∙ drop_past (frame_bytes_in header.version f) (flat_map (frame_bytes_in header.version) fs ++ stand.rest);
}

row_goes_on : (hurt : ℕ → ℕ → Bool) (v at end : ℕ) (damaged : Bool) (f : Frame) (fs : List Frame) (old new all : List Spot)
    → end ≡ at + length (frame_bytes_in v f) → damaged ≡ hurt at (at + length (frame_bytes_in v f))
    → new ≡ (if damaged then old else old ++ (record { number = f.number; at = at }) ∷ [])
    → old ++ spots_from hurt v at (f ∷ fs) ≡ all → new ++ spots_from hurt v end fs ≡ all
row_goes_on hurt v at end true f fs old new all is told spots row =
    ap (λ (l : List Spot). l ++ spots_from hurt v end fs) spots
    ∙ ap (λ (k : ℕ). old ++ spots_from hurt v k fs) is
    ∙ ap (λ (b : Bool). old ++ (if b then spots_from hurt v (at + length (frame_bytes_in v f)) fs
    else (record { number = f.number; at = at }) ∷ spots_from hurt v (at + length (frame_bytes_in v f)) fs)) told
    ∙ row
row_goes_on hurt v at end false f fs old new all is told spots row =
    ap (λ (l : List Spot). l ++ spots_from hurt v end fs) spots
    ∙ append_assoc old ((record { number = f.number; at = at }) ∷ []) (spots_from hurt v end fs)
    ∙ ap (λ (k : ℕ). old ++ (record { number = f.number; at = at }) ∷ spots_from hurt v k fs) is
    ∙ ap (λ (b : Bool). old ++ (if b then spots_from hurt v (at + length (frame_bytes_in v f)) fs
    else (record { number = f.number; at = at }) ∷ spots_from hurt v (at + length (frame_bytes_in v f)) fs)) told
    ∙ row

still_looked : (at end : ℕ) (old new : Pieces) → at ≤ end → AreOpen at new → AreOpen end new
still_looked at end old new less begun = record { follow = begun.follow; passed = passed_later at end new.passed (cuts new) less begun.passed }

-- ---- a step

pub still_open : (at : ℕ) (old new : Pieces) → cuts new ≡ cuts old → new.passed ≡ old.passed → AreOpen at old → AreOpen at new
still_open at old new same passed begun = record {
  follow = subst (λ (l : List Cut). Follow 0 l) (sym same) begun.follow;
  passed = subst (λ (l : List Cut). ArePassed at new.passed l) (sym same) (subst (λ (n : ℕ). ArePassed at n (cuts old)) (sym passed) begun.passed);
}

-- what was looked at before does not matter
pub goes_there : (old new : Walk) (pieces : Pieces) (number end to : ℕ) (damaged hurt : Bool) → cuts pieces ≡ cuts old.pieces → end ≡ to → damaged ≡ hurt
    → GoesTo number end damaged (record { pieces = pieces; spots = old.spots; at = old.at; last = old.last }) new → GoesTo number to hurt old new
goes_there old new pieces number end to damaged hurt same is told goes = record {
  at = goes.at ∙ is;
  cuts = goes.cuts ∙ same;
  spots = goes.spots ∙ ap (λ (b : Bool). if b then old.spots.items else old.spots.items ++ (record { number = number; at = old.at }) ∷ []) told;
  last = goes.last ∙ ap (λ (b : Bool). if b then old.last else number) told;
}

-- a frame ends within the bytes
pub ends_within : (header : Header) (bytes : List ℕ) (at : ℕ) (frame : Frame) (len : ℕ) → StandsAt header bytes at frame len → at + len ≤ length bytes
ends_within header bytes at frame len stands =
    let rest = stands.1 in
    let long : length (drop at bytes) ≡ length (frame_bytes_in header.version frame) + length rest = ap length stands.2 ∙ length-append (frame_bytes_in header.version frame) rest in
    let short : length (drop at bytes) ≡ length bytes - at = length-drop at bytes in
    let its : len ≡ length (frame_bytes_in header.version frame) = stands.3 in
    let some : 1 ≤ length (frame_bytes_in header.version frame) = omega arith in
    omega arith

-- the frame that was found is the one that stands there
pub the_same : (found : Option (Frame × ℕ)) (first frame : Frame) (used len : ℕ) → found ≡ Some (first, used) → found ≡ Some (frame, len) → (first ≡ frame) × (used ≡ len)
the_same found first frame used len a b = (let both = sym a ∙ b in (ap (λ (o : Option (Frame × ℕ)). (unwrap_or o (frame, len)).0) both, ap (λ (o : Option (Frame × ℕ)). (unwrap_or o (frame, len)).1) both))

pub not_above : (last : ℕ) (first frame : Frame) → first.number ≤ last → last < frame.number → first ≡ frame → ⊥
not_above last first frame low more same = (let numbers = ap (λ (f : Frame). f.number) same in omega (arith, low, more, numbers))

pub none_found : (found : Option (Frame × ℕ)) (frame : Frame) (len : ℕ) → found ≡ None → found ≡ Some (frame, len) → ⊥
none_found found frame len a b = (let both : None ≡ Some (frame, len) = sym a ∙ b in cc)

-- what a step says of a frame that stands where it is
abbrev pub StepsOver : Header → List ℕ → Bool → Walk → Walk → Type 0
StepsOver header bytes more old new =
    (frame : Frame) (len : ℕ) → StandsAt header bytes old.at frame len → old.last < frame.number → AreOpen old.at old.pieces
    → IsTrue more × AreOpen old.at new.pieces × GoesTo frame.number (old.at + len) (is_hurt_in (cuts old.pieces) old.at (old.at + len)) old new

amid_step : (header : Header) (bytes : List ℕ) (hurt : ℕ → ℕ → Bool) (all : List Spot) (steps : ℕ) (more : Bool) (old new : Walk) → (amid : IsAmid header bytes hurt all steps old)
    → (todo : List Frame) → amid.todo ≡ todo → BeginsWith old.spots.items new.spots.items → StepsOver header bytes more old new → OnTheWay header bytes hurt all (steps + 1) new
amid_step header bytes hurt all steps more old new amid [] is kept over =
    let whole : old.spots.items ≡ all =
    none_more old.spots.items ∙ ap (λ (l : List Frame). old.spots.items ++ spots_from hurt header.version old.at l) (sym is) ∙ amid.row in
    inr (subst (λ (l : List Spot). BeginsWith l new.spots.items) whole kept)
amid_step header bytes hurt all steps more old new amid (f ∷ fs) is kept over =
    let stand : StandFrom header bytes old.at old.last (f ∷ fs) = subst (λ (l : List Frame). StandFrom header bytes old.at old.last l) is amid.stand in
    let len = length (frame_bytes_in header.version f) in
    let goes = over f len (first_stands header bytes old.at old.last f fs stand) stand.rise.0 amid.looked in
    let to = goes.2 in
    let end : new.at ≡ old.at + len = to.at in
    inl (record {
      todo = fs;
      stand = others_stand header bytes old.at old.last new.at new.last (is_hurt_in (cuts old.pieces) old.at (old.at + len)) f fs stand to.at to.last;
      row = row_goes_on hurt header.version old.at new.at (is_hurt_in (cuts old.pieces) old.at (old.at + len)) f fs old.spots.items new.spots.items all to.at
          (amid.hurts old.at (old.at + len)) to.spots
          (subst (λ (l : List Frame). old.spots.items ++ spots_from hurt header.version old.at l ≡ all) is amid.row);
      far = (let a = subst (λ (l : List Frame). steps + length l ≤ length bytes) is amid.far in omega (arith, a));
      looked = still_looked old.at new.at old.pieces new.pieces (omega (arith, end)) goes.1;
      hurts = λ from till. ap (λ (l : List Cut). is_hurt_in l from till) to.cuts ∙ amid.hurts from till;
    })

pub way_goes_on : (header : Header) (bytes : List ℕ) (hurt : ℕ → ℕ → Bool) (all : List Spot) (steps : ℕ) (more : Bool) (old new : Walk) → OnTheWay header bytes hurt all steps old
    → BeginsWith old.spots.items new.spots.items → StepsOver header bytes more old new → OnTheWay header bytes hurt all (steps + 1) new
way_goes_on header bytes hurt all steps more old new (inl amid) kept over = amid_step header bytes hurt all steps more old new amid amid.todo refl kept over
way_goes_on header bytes hurt all steps more old new (inr taken) kept over = inr (begins_later all old.spots.items new.spots.items taken kept)

-- ---- the end

-- nothing was found any more
way_is_over : (header : Header) (bytes : List ℕ) (hurt : ℕ → ℕ → Bool) (all : List Spot) (steps : ℕ) (old new : Walk) (amid : IsAmid header bytes hurt all steps old)
    → (todo : List Frame) → amid.todo ≡ todo → BeginsWith old.spots.items new.spots.items → StepsOver header bytes false old new → BeginsWith all new.spots.items
way_is_over header bytes hurt all steps old new amid [] is kept over =
    let whole : old.spots.items ≡ all =
    none_more old.spots.items ∙ ap (λ (l : List Frame). old.spots.items ++ spots_from hurt header.version old.at l) (sym is) ∙ amid.row in
    subst (λ (l : List Spot). BeginsWith l new.spots.items) whole kept
way_is_over header bytes hurt all steps old new amid (f ∷ fs) is kept over =
    let stand : StandFrom header bytes old.at old.last (f ∷ fs) = subst (λ (l : List Frame). StandFrom header bytes old.at old.last l) is amid.stand in
    let goes = over f (length (frame_bytes_in header.version f)) (first_stands header bytes old.at old.last f fs stand) stand.rise.0 amid.looked in
    let never = goes.0 in
    cc

pub way_ends : (header : Header) (bytes : List ℕ) (hurt : ℕ → ℕ → Bool) (all : List Spot) (steps : ℕ) (old new : Walk) → OnTheWay header bytes hurt all steps old
    → BeginsWith old.spots.items new.spots.items → StepsOver header bytes false old new → BeginsWith all new.spots.items
way_ends header bytes hurt all steps old new (inl amid) kept over = way_is_over header bytes hurt all steps old new amid amid.todo refl kept over
way_ends header bytes hurt all steps old new (inr taken) kept over = begins_later all old.spots.items new.spots.items taken kept

none_left : (todo : List Frame) (steps long : ℕ) → steps + length todo ≤ long → long ≤ steps → todo ≡ []
none_left [] steps long a b = refl
none_left (f ∷ fs) steps long a b = (let never : ⊥ = omega (arith, a, b) in absurd never)

-- a frame has a byte, so that there are as many steps as frames
pub way_is_done : (header : Header) (bytes : List ℕ) (hurt : ℕ → ℕ → Bool) (all : List Spot) (steps : ℕ) (walk : Walk) → OnTheWay header bytes hurt all steps walk
    → length bytes ≤ steps → BeginsWith all walk.spots.items
way_is_done header bytes hurt all steps walk (inl amid) done =
    let none = none_left amid.todo steps (length bytes) amid.far done in
    begins_same all walk.spots.items
    (none_more walk.spots.items ∙ ap (λ (l : List Frame). walk.spots.items ++ spots_from hurt header.version walk.at l) (sym none) ∙ amid.row)
way_is_done header bytes hurt all steps walk (inr taken) done = taken

-- ---- the beginning

fewer : (v : ℕ) (frames : List Frame) → length frames ≤ length (flat_map (frame_bytes_in v) frames)
fewer v [] = omega arith
fewer v (f ∷ fs) =
    let later = fewer v fs in
    let long : length (flat_map (frame_bytes_in v) (f ∷ fs)) ≡ length (frame_bytes_in v f) + length (flat_map (frame_bytes_in v) fs) =
    length-append (frame_bytes_in v f) (flat_map (frame_bytes_in v) fs) in
    let some : 1 ≤ length (frame_bytes_in v f) = omega arith in
    omega arith

pub way_begins : (header : Header) (bytes sums : List ℕ) (frames : List Frame) (walk : Walk) → StandFrom header bytes 24 0 frames → ArePieces bytes sums walk.pieces
    → walk.at ≡ 24 → walk.last ≡ 0 → walk.spots.items ≡ [] → OnTheWay header bytes (is_hurt bytes sums) (spots_from (is_hurt bytes sums) header.version 24 frames) 0 walk
way_begins header bytes sums frames walk stand pieces at last none = inl (record {
  todo = frames;
  stand = subst (λ (n : ℕ). StandFrom header bytes n walk.last frames) (sym at) (subst (λ (n : ℕ). StandFrom header bytes 24 n frames) (sym last) stand);
  row = ap (λ (l : List Spot). l ++ spots_from (is_hurt bytes sums) header.version walk.at frames) none ∙ ap (λ (n : ℕ). spots_from (is_hurt bytes sums) header.version n frames) at;
  far = (let few = fewer header.version frames in
      let long : length (drop 24 bytes) ≡ length (flat_map (frame_bytes_in header.version) frames) + length stand.rest =
      ap length stand.parts ∙ length-append (flat_map (frame_bytes_in header.version) frames) stand.rest in
      let short : length (drop 24 bytes) ≡ length bytes - 24 = length-drop 24 bytes in omega arith);
  looked = still_looked 0 walk.at walk.pieces walk.pieces (omega arith) pieces.begun;
  hurts = pieces.hurt;
})

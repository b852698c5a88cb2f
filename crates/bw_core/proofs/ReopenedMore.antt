-- A store that was opened again is sound.

use Rattle.std.proofs.Common.{inl, inr, ◌≡◌, ◌⊎◌, ℕ, ◌+◌, ◌^◌, ◌<◌, ◌≤◌, true, false, Option, Some, None, List, [], ◌∷◌}
use Rattle.std.proofs.Common.{length, refl, sym, ap, ◌∙◌, subst, arith}
use Rattle.std.specs.Prelude.{nat_le, IfSome}
use Rattle.std.specs.List.{AllByRecursion as All, fold}
use Rattle.std.proofs.lemmas.Bool.{le-leb}
use Rattle.bw_record.specs.declared.block.Place.{Place}
use Rattle.bw_record.specs.declared.block.Block.{Block}
use Rattle.bw_record.specs.declared.block.Frame.{Frame}
use Rattle.bw_device.specs.Holding.{Holding}
use Rattle.bw_page.specs.Shown.{Shown}
use Rattle.bw_page.specs.Standing.{Stand}
use Rattle.bw_leaf.proofs.Sorted.{all-map}
use Rattle.bw_buffer.specs.Filling.{Filling, frame_of}
use Rattle.bw_ring.specs.Ends.{Ring}
use Rattle.bw_log.specs.Contents as logs
use Rattle.bw_log.specs.Places.{place_of, first_number}
use Rattle.bw_log.specs.Segments.{following, AreFrom}
use Rattle.bw_log.proofs.Adding.{following_is, filter_all}
use Rattle.std.specs.declared.dyn_box.DynBox.{DynBox}
use Rattle.std.specs.declared.alloc.Global.{Global}
use Rattle.bw_log.specs.Views.{seen_by}
use Rattle.bw_care.specs.Found.{IsRecovered}
use Rattle.bw_care.specs.Recovery.{last_number}
use Rattle.bw_care.specs.declared.recovered.Recovered.{Recovered}
use Rattle.bw_core.specs.Growing.{Grown, frames_upto}
use Rattle.bw_core.specs.Kept.{leaves_at, TellsBy, TellsShare, IsSound}
use Rattle.bw_core.specs.Reopened.{reopened}
use Rattle.bw_core.proofs.CutMore.{none_mapped}
use Rattle.bw_core.proofs.FramesBehind.{IsNumbered, from_within, none_above, counted_lawful, placed_page, pages_counted}
use Rattle.bw_core.proofs.EmptyBehind.{AreNoted, grown_empty}
use Rattle.bw_core.proofs.Telling.{tells_none}
use Rattle.bw_core.proofs.Edging.{edged_by, begun_by}

-- what was recovered
pub record Found (c : logs.Contents) (filed : Shown) (last : ℕ) : Type 0 where
  pub sound : logs.IsSound c
  pub stands : Stand filed.m (logs.counted c) filed.leaves
  pub ends : last_number (logs.counted c) ≡ last
  pub follows : c.next ≡ following last
  pub works : c.is_failed ≡ false
  pub limit : filed.m ≡ c.m

module _ {I : Type 0} {H : I → Type 0} where
  pub found_by : (v : DynBox I Global H → Holding) (r : Recovered I H) → IsRecovered v r → Found (seen_by v r.log) r.leaves r.last
  found_by v r is = record {
    sound = is.sound;
    stands = is.stands;
    ends = is.last;
    follows = r.follows;
    works = r.works;
    limit = r.limit;
  }

last_from : (n w : ℕ) (x : Frame) (xs : List Frame) → AreFrom n (x ∷ xs) → fold (λ was f. f.number) w (x ∷ xs) + 1 ≡ n + length (x ∷ xs)
last_from n w x [] are = (let e = are.0 in omega arith)
last_from n w x (y ∷ ys) are = (let e = last_from (n + 1) x.number y ys are.1 in omega arith)

pub last_is : (n : ℕ) (fs : List Frame) → AreFrom n fs → 1 ≤ length fs → last_number fs + 1 ≡ n + length fs
last_is n [] are some = absurd (omega arith)
last_is n (x ∷ xs) are some = last_from n 0 x xs are

first_some : (fs : List Frame) → All IsNumbered fs → 1 ≤ length fs → 1 ≤ first_number fs
first_some [] lawful some = absurd (omega arith)
first_some (x ∷ xs) lawful some = lawful.0.number.0

some_next : (last : ℕ) (o : Option ℕ) → o ≡ following last → IfSome o (λ n. 1 ≤ n)
some_next last None e = tt
some_next last (Some n) e = (let after = following_is last n (sym e) in omega arith)

number_by : (last : ℕ) (making : Filling) (next : Option ℕ) → next ≡ following last → making.blocks ≡ [] → IfSome next (λ n. making.frame ≡ n)
    → (making.frame ≡ last + 0 + 1) ⊎ ((next ≡ None) × (making.blocks ≡ []))
number_by last making None follows empty h = inr (refl, empty)
number_by last making (Some n) follows empty h = inl (let e = following_is last n (sym follows) in omega arith)

module _ (c : logs.Contents) (filed : Shown) (last : ℕ) (x : Found c filed last) where
  some : 1 ≤ length (logs.counted c)
  some = x.stands.some

  last_at : last + 1 ≡ first_number (logs.counted c) + length (logs.counted c)
  last_at = (let e = last_is (first_number (logs.counted c)) (logs.counted c) x.sound.holds.numbered some in let is = x.ends in omega arith)

  pub below : last < 2 ^ 64
  below =
      let top = none_above c (logs.counted c) (first_number (logs.counted c)) x.sound refl x.sound.holds.numbered some in
      let is = last_at in
      omega arith

  pub from_one : 1 ≤ last
  from_one =
      let low = first_some (logs.counted c) (counted_lawful c x.sound) some in
      let is = last_at in
      let many = some in
      omega arith

  numbers : All (λ f. (0 ≤ f.number) × (f.number < last + 1)) (logs.counted c)
  numbers = from_within 0 (last + 1) (first_number (logs.counted c)) (logs.counted c) x.sound.holds.numbered (omega arith) (let is = last_at in omega arith)

  stand_c : Stand c.m (logs.counted c) filed.leaves
  stand_c = subst (λ (k : ℕ). Stand k (logs.counted c) filed.leaves) x.limit x.stands

  pub pages_are : length c.pages ≡ length filed.leaves
  pages_are = pages_counted c filed.leaves x.sound stand_c

  pub few : length filed.leaves < 2 ^ 32
  few = (let is = pages_are in let count = x.sound.holds.count in omega arith)

  pub all_there : (p : ℕ) → 1 ≤ p → p ≤ length filed.leaves → place_of p (logs.counted c) ≡ None → ⊥
  all_there p from to = placed_page c filed.m filed.leaves p x.sound x.stands from to

  pub next_some : IfSome c.next (λ n. 1 ≤ n)
  next_some = some_next last c.next x.follows

  pub reopened_sound : (rings : List Ring) (newest : List Place) (making : Filling) → length newest ≡ length filed.leaves
      → AreNoted c filed.leaves newest → making.limit ≡ c.f → making.blocks ≡ [] → making.is_sealed ≡ false → IfSome c.next (λ n. making.frame ≡ n)
      → IsSound (reopened rings last filed newest making c)
  reopened_sound rings newest making count each limit empty unsealed number =
      let t = reopened rings last filed newest making c in
      record {
        log = x.sound;
        pairs = x.limit;
        limit = limit;
        leaves = refl;
        mapped = refl;
        mapped_at = none_mapped filed.m filed.leaves;
        first = λ none. (let low = from_one in absurd (omega arith));
        ops = tt;
        writers = tt;
        grown =
            subst (λ (m : ℕ). Grown m (logs.counted c) (frame_of making) filed.leaves newest) (sym x.limit)
            (grown_empty c filed.leaves x.sound stand_c newest making count each empty);
        next = x.follows ∙ ap following (omega arith);
        last = (let top = below in omega arith);
        number = number_by last making c.next x.follows empty number;
        sealed = unsealed ∙ sym x.works;
        ordered = omega arith;
        beyond = inl refl;
        last_cut = λ failed. (let works = x.works in absurd cc);
        floor = omega arith;
        stands = λ k low high from. (
            let none : 0 ≡ k = omega arith in
            subst (λ j. Stand filed.m (frames_upto (last + j) (logs.counted c)) (leaves_at t j)) none
            (subst (λ (fs : List Frame). Stand filed.m fs filed.leaves)
            (sym (filter_all (λ (f : Frame). nat_le f.number (last + 0)) (logs.counted c)
            (all-map (λ f. (0 ≤ f.number) × (f.number < last + 1)) (λ f. nat_le f.number (last + 0) ≡ true)
            (λ f in_range. le-leb f.number (last + 0) (let high_number = in_range.1 in omega arith)) (logs.counted c) numbers)))
            x.stands));
        shares = all-map (λ f. (0 ≤ f.number) × (f.number < last + 1)) (λ f. last < f.number → TellsShare t f)
            (λ f in_range above. (let high_number = in_range.1 in absurd (omega arith))) (logs.counted c) numbers;
        tells =
            subst (λ (bs : List Block). TellsBy t (last + 0 + 1) filed.leaves [] bs) (sym empty)
            (inr (λ zeroth one. (let low = from_one in absurd (omega arith)), tells_none filed.m filed.leaves));
        edged = edged_by c (logs.limits_of (logs.image c) x.sound.holds.live.0) x.sound.holds.live.1;
        begun = begun_by c;
        left = λ failed. (let works = x.works in absurd cc);
      }

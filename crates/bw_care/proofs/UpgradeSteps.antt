-- Segments given up one after the other, and what an upgrade hands on.

use Rattle.std.proofs.Common.{◌≡◌, ℕ, zero, suc, ◌+◌, ◌-◌, ◌<◌, ◌≤◌, ◌==◌, max, Bool, true, false, if◌then◌else◌, Option, Some, None, MatchOption, IfSome}
use Rattle.std.proofs.Common.{List, [], ◌∷◌, length, map, take, drop, slice_get, refl, sym, ap, subst, ◌∙◌, length-append, arith}
use Rattle.std.specs.List.{fold, filter}
use Rattle.std.proofs.lemmas.List.{drop-drop}
use Rattle.std.specs.Prelude.{nat_le}
use Rattle.std.proofs.lemmas.Bool.{eq-eqb, eqb-true, leb-true, leb-false}
use Rattle.bw_codec.specs.Reading.{version_in}
use Rattle.bw_record.specs.declared.leaf.Leaf.{Leaf}
use Rattle.bw_device.specs.Holding.{Holding}
use Rattle.bw_page.specs.Standing.{Stand}
use Rattle.bw_log.specs.Adopting.{old_in}
use Rattle.bw_log.specs.Contents.{Contents, KeepsLeaves, counted, place_in, IsSound}
use Rattle.bw_log.specs.Oldest.{IsAfter, NoBaseBefore, IsBaseAfter, last_number, oldest_count}
use Rattle.bw_log.specs.Places.{base_of}
use Rattle.bw_log.specs.Reads.{IsPage}
use Rattle.bw_log.specs.Segments.{segment_frames, frames_of, is_before_next}
use Rattle.bw_log.specs.declared.places.PageAt.{PageAt}
use Rattle.bw_care.specs.Upgrading.{last_among, count_in, GivenInTurn, GivenUp}

-- ---- how many have version 1

abbrev version : Holding → ℕ
version h = version_in h.bytes

old_at : (live : List Holding) (i v : ℕ) (o : Option ℕ) → i < length live
    → MatchOption (slice_get live i) (o ≡ None) (λ h. o ≡ Some (version_in h.bytes)) → o ≡ Some v
    → old_in (map version (drop i live)) ≡ (if v == 1 then suc (old_in (map version (drop (suc i) live))) else 0)
old_at [] i v o inside told is = absurd (omega arith)
old_at (h ∷ hs) zero v o inside told is =
    (let both : Some (version_in h.bytes) ≡ Some v = sym told ∙ is in
    let same : version_in h.bytes ≡ v = cc in
    ap (λ (k : ℕ). if k == 1 then suc (old_in (map version hs)) else 0) same)
old_at (h ∷ hs) (suc i) v o inside told is = old_at hs i v o (omega arith) told is

pub old_more : (live : List Holding) (i v all : ℕ) (o : Option ℕ) → i < length live
    → MatchOption (slice_get live i) (o ≡ None) (λ h. o ≡ Some (version_in h.bytes)) → o ≡ Some v → v ≡ 1
    → i + old_in (map version (drop i live)) ≡ all → i + 1 + old_in (map version (drop (i + 1) live)) ≡ all
old_more live i v all o inside told is one kept =
    (let step = old_at live i v o inside told is
    ∙ ap (λ (t : Bool). if t then suc (old_in (map version (drop (suc i) live))) else 0) (eq-eqb v 1 one) in
    let next : suc i ≡ i + 1 = omega arith in
    subst (λ (j : ℕ). j + old_in (map version (drop j live)) ≡ all) next (omega (arith, step, kept)))

off_one : (v n : ℕ) (t : Bool) → (v == 1) ≡ t → (v ≡ 1 → ⊥) → (if t then n else 0) ≡ 0
off_one v n true e other = absurd (other (eqb-true v 1 e))
off_one v n false e other = refl

pub old_ends : (live : List Holding) (i v all : ℕ) (o : Option ℕ) → i < length live
    → MatchOption (slice_get live i) (o ≡ None) (λ h. o ≡ Some (version_in h.bytes)) → o ≡ Some v → (v ≡ 1 → ⊥)
    → i + old_in (map version (drop i live)) ≡ all → i ≡ all
old_ends live i v all o inside told is other kept =
    (let step = old_at live i v o inside told is ∙ off_one v (suc (old_in (map version (drop (suc i) live)))) (v == 1) refl other in
    omega (arith, step, kept))

drop_end : (live : List Holding) (i : ℕ) → length live ≤ i → old_in (map version (drop i live)) ≡ 0
drop_end [] zero long = refl
drop_end [] (suc i) long = refl
drop_end (h ∷ hs) zero long = absurd (omega arith)
drop_end (h ∷ hs) (suc i) long = drop_end hs i (omega arith)

pub old_all : (live : List Holding) (i n all : ℕ) → i ≡ n → n ≡ length live → i + old_in (map version (drop i live)) ≡ all → n ≡ all
old_all live i n all same end kept = (let none = drop_end live i (omega arith) in omega (arith, none, kept))

old_step : (v : ℕ) (vs : List ℕ) (t : Bool) → old_in vs ≤ length vs → (if t then suc (old_in vs) else 0) ≤ suc (length vs)
old_step v vs true few = omega arith
old_step v vs false few = omega arith

pub old_within : (vs : List ℕ) → old_in vs ≤ length vs
old_within [] = omega arith
old_within (v ∷ vs) = old_step v vs (v == 1) (old_within vs)

-- ---- the greatest number among segments

take_step : (c : Contents) (live : List Holding) (i n w : ℕ) (o : Option ℕ) → i < length live
    → MatchOption (slice_get live i) (o ≡ None) (λ h. o ≡ Some (last_number c h)) → o ≡ Some n
    → fold (λ last h. max last (last_number c h)) w (take (suc i) live) ≡ max (fold (λ last h. max last (last_number c h)) w (take i live)) n
take_step c [] i n w o inside told is = absurd (omega arith)
take_step c (h ∷ hs) zero n w o inside told is =
    (let both : Some (last_number c h) ≡ Some n = sym told ∙ is in
    let same : last_number c h ≡ n = cc in
    ap (λ (k : ℕ). max w k) same)
take_step c (h ∷ hs) (suc i) n w o inside told is = take_step c hs i n (max w (last_number c h)) o (omega arith) told is

pub among_more : (c : Contents) (live : List Holding) (i n last now : ℕ) (o : Option ℕ) → i < length live
    → MatchOption (slice_get live i) (o ≡ None) (λ h. o ≡ Some (last_number c h)) → o ≡ Some n → last ≡ last_among c (take i live) → now ≡ max last n
    → now ≡ last_among c (take (i + 1) live)
among_more c live i n last now o inside told is kept most =
    let next : suc i ≡ i + 1 = omega arith in
    most ∙ ap (λ (k : ℕ). max k n) kept ∙ sym (take_step c live i n 0 o inside told is) ∙ ap (λ (j : ℕ). last_among c (take j live)) next

-- ---- one after the other

-- so many were given up
pub record IsGoing (k : ℕ) (old now : Contents) : Type 0 where
  pub up : GivenUp k old now
  pub stands : (leaves : List Leaf) → Stand old.m (counted old) leaves → Stand old.m (counted now) leaves

drop_long : (k : ℕ) (hs : List Holding) → length (drop k hs) ≡ length hs - k
drop_long zero hs = omega arith
drop_long (suc k) [] = omega arith
drop_long (suc k) (h ∷ hs) = drop_long k hs ∙ omega arith

count_step : (k : ℕ) (hs : List Holding) → k < length hs → count_in (suc k) hs ≡ count_in k hs + oldest_count (drop k hs)
count_step k [] inside = absurd (omega arith)
count_step zero (h ∷ hs) inside = (let e = length-append (segment_frames h.bytes) [] in omega (arith, e))
count_step (suc k) (h ∷ hs) inside =
    (let rest = count_step k hs (omega arith) in
    let a = length-append (segment_frames h.bytes) (frames_of (map (λ (x : Holding). x.bytes) (take (suc k) hs))) in
    let b = length-append (segment_frames h.bytes) (frames_of (map (λ (x : Holding). x.bytes) (take k hs))) in
    omega (arith, rest, a, b))

pub going_none : (c : Contents) → IsGoing 0 c c
going_none c = record {
  up = record { given_up = (λ i. record c { number = plus_none c.number i }); counts = refl };
  stands = λ leaves stand. stand;
} where
  plus_none : (n : ℕ) → n ≡ n + 0
  plus_none n = omega arith

pub going_on : (k : ℕ) (old now new : Contents) → k < length old.live → IsGoing k old now
    → new ≡ record now { live = drop 1 now.live; number = now.number + 1; frames = new.frames }
    → counted new ≡ drop (oldest_count now.live) (counted now)
    → ((leaves : List Leaf) → Stand now.m (counted now) leaves → Stand now.m (counted new) leaves) → IsGoing (k + 1) old new
going_on k old now new inside going given counts stands =
    let up = going.up.given_up in
    let live : now.live ≡ drop k old.live = ap (λ (c : Contents). c.live) up in
    let m : now.m ≡ old.m = ap (λ (c : Contents). c.m) up in
    let next : suc k ≡ k + 1 = omega arith in
    let plus : (n : ℕ) → n + k + 1 ≡ n + (k + 1) = (λ n. omega arith) in
    let many : count_in k old.live + oldest_count now.live ≡ count_in (k + 1) old.live =
    ap (λ (l : List Holding). count_in k old.live + oldest_count l) live ∙ sym (count_step k old.live inside)
    ∙ ap (λ (j : ℕ). count_in j old.live) next in
    record {
      up = record {
        given_up = given
            ∙ ap (λ (c : Contents). let d : Contents = record c { live = drop 1 c.live; number = c.number + 1; frames = new.frames } in d) up
            ∙ (λ i. record old { live = drop-drop 1 k old.live i; number = plus old.number i; frames = new.frames });
        counts = counts ∙ ap (drop (oldest_count now.live)) going.up.counts ∙ drop-drop (oldest_count now.live) (count_in k old.live) (counted old)
            ∙ ap (λ (n : ℕ). drop n (counted old)) many;
      };
      stands = λ leaves stand. subst (λ (n : ℕ). Stand n (counted new) leaves) m
          (stands leaves (subst (λ (n : ℕ). Stand n (counted now) leaves) (sym m) (going.stands leaves stand)));
    }

pub up_at : (k count : ℕ) (old now : Contents) → k ≡ count → IsGoing k old now → GivenUp count old now
up_at k count old now same going = subst (λ (n : ℕ). GivenUp n old now) same going.up

pub in_turn_none : (c : Contents) → IsSound c → GivenInTurn 0 c
in_turn_none c sound j low =
    let none : 0 ≡ j = omega arith in
    subst (λ (i : ℕ). (new : Contents) × GivenUp i c new × IsSound new × KeepsLeaves c new) none
    (c, (going_none c).up, sound, (going_none c).stands)

pub in_turn_on : (k : ℕ) (old new : Contents) → GivenInTurn k old → IsGoing (k + 1) old new → IsSound new → GivenInTurn (k + 1) old
in_turn_on k old new turn going sound j low =
    elim (nat_le j k) as (λ b. nat_le j k ≡ b → (mid : Contents) × GivenUp j old mid × IsSound mid × KeepsLeaves old mid) [
      | true ↦ λ e. turn j (leb-true _ _ e)
      | false ↦ λ e. (
          let above = leb-false _ _ e in
          let last : k + 1 ≡ j = omega arith in
          subst (λ (i : ℕ). (mid : Contents) × GivenUp i old mid × IsSound mid × KeepsLeaves old mid) last (new, going.up, sound, going.stands))
    ] refl

-- what a round asks for

pub two_live : (k count : ℕ) (old now : Contents) → k < count → count < length old.live → IsGoing k old now → 2 ≤ length now.live
two_live k count old now less more going =
    (let live = ap (λ (c : Contents). length c.live) going.up.given_up in let long = drop_long k old.live in omega (arith, live, long))

pub still_works : (k : ℕ) (old now : Contents) → IsGoing k old now → old.is_failed ≡ false → now.is_failed ≡ false
still_works k old now going works = ap (λ (c : Contents). c.is_failed) going.up.given_up ∙ works

get_drop : (k : ℕ) (hs : List Holding) (x : Holding) (xs : List Holding) → drop k hs ≡ x ∷ xs → slice_get hs k ≡ Some x
get_drop zero [] x xs is = absurd cc
get_drop zero (h ∷ hs) x xs is = cc
get_drop (suc k) [] x xs is = absurd cc
get_drop (suc k) (h ∷ hs) x xs is = get_drop k hs x xs is

abbrev pub AreBehind : ℕ → Contents → Type 0
AreBehind count c = (i page : ℕ) → i < count → IsPage c page → IfSome (slice_get c.live i) (λ h. IsAfter (last_number c h) (base_of page (counted c)))

base_by : (k : ℕ) (old now : Contents) (live : List Holding) → IsSound old → IsSound now → IsGoing k old now → now.live ≡ live
    → ((page : ℕ) → IsPage old page → IfSome (slice_get old.live k) (λ h. IsAfter (last_number old h) (base_of page (counted old))))
    → IsBaseAfter now live
base_by k old now [] a b going is bases = tt
base_by k old now (h ∷ hs) a b going is bases = λ page there.
    let up = going.up.given_up in
    let pages : now.pages ≡ old.pages = ap (λ (c : Contents). c.pages) up in
    let next : now.next ≡ old.next = ap (λ (c : Contents). c.next) up in
    let was : IsPage old page = subst (λ (ps : List PageAt). (1 ≤ page) × (page ≤ length ps)) pages there in
    let at : slice_get old.live k ≡ Some h = get_drop k old.live h hs (sym (ap (λ (c : Contents). c.live) up) ∙ is) in
    let base : base_of page (counted old) ≡ base_of page (counted now) =
    sym (a.holds.table.bases page was.0) ∙ ap (λ (ps : List PageAt). place_in (λ e. e.base) ps page) (sym pages) ∙ b.holds.table.bases page was.0 in
    let last : last_number old h ≡ last_number now h =
    ap (λ (o : Option ℕ). fold (λ was f. f.number) 0 (filter (λ f. is_before_next o f.number) (segment_frames h.bytes))) (sym next) in
    subst (λ (n : ℕ). IsAfter n (base_of page (counted now))) last
    (subst (IsAfter (last_number old h)) base
    (subst (λ (o : Option Holding). IfSome o (λ x. IsAfter (last_number old x) (base_of page (counted old)))) at (bases page was)))

pub no_base : (k count : ℕ) (old now : Contents) → IsSound old → IsSound now → k < count → IsGoing k old now → AreBehind count old → NoBaseBefore now
no_base k count old now a b less going bases = base_by k old now now.live a b going refl (λ page there. bases k page less there)

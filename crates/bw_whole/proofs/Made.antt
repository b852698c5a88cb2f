-- What stands after some pairs were put, and at the end.

use Rattle.std.proofs.Common.{◌≡◌, ℕ, ◌+◌, ◌^◌, ◌<◌, ◌≤◌, ◌==◌, ◌&&◌, Bool, true, false, if◌then◌else◌, List, [], ◌∷◌, ◌++◌, length, refl, sym, ap, ◌∙◌, subst, arith, map}
use Rattle.std.proofs.lemmas.List.{append-nil, append_assoc, length-append}
use Rattle.std.proofs.lemmas.Bool.Decides.{nat_tests}
use Rattle.std.specs.List.{fold, AllByRecursion}
use Rattle.bw_record.specs.Version.{latest}
use Rattle.bw_record.specs.Keys.{is_below, ascends}
use Rattle.bw_record.specs.Lawful.{IsPair}
use Rattle.bw_record.specs.declared.leaf.Leaf.{Leaf}
use Rattle.bw_record.specs.declared.block.Block.TheVariants.{Base}
use Rattle.bw_codec.specs.Grammar.{IsBase}
use Rattle.bw_codec.proofs.Heading.{length-header}
use Rattle.bw_whole.specs.Framing.{header_of, framed_for, with_frame, with_page}
use Rattle.bw_whole.specs.Paging.{Pair, Making, AreLimits, has_room, page_with, page_after, turned, with_pair, without_pairs, finished}
use Rattle.bw_leaf.specs.Forwards.{blocks_of}
use Rattle.bw_whole.specs.Written.{low_of, pairs_of, IsNumbered, AreFull, IsLogOf, WritesThem, AreFrames, all_frames}
use Rattle.bw_whole.proofs.Rising.{both}
use Rattle.bw_whole.proofs.Putting.{Puts, Bounds, framed, all-push, flat_map-push, begun_closed}
use Rattle.bw_whole.proofs.Paged.{paged}
use Rattle.bw_whole.proofs.Ranged.{lawful_pages}
use Rattle.bw_whole.proofs.Standing.{stand}

-- ---- pairs that ascend

ascends_front : (a b : List Pair) → ascends (a ++ b) ≡ true → ascends a ≡ true
ascends_front [] b h = refl
ascends_front (x ∷ []) b h = refl
ascends_front (x ∷ y ∷ xs) b h =
    let two = both (is_below x.0 y.0) (ascends (y ∷ (xs ++ b))) h in
    ap (λ t. t && ascends (y ∷ xs)) two.0 ∙ ascends_front (y ∷ xs) b two.1

ascends_tail : (x : Pair) (b : List Pair) → ascends (x ∷ b) ≡ true → ascends b ≡ true
ascends_tail x [] h = refl
ascends_tail x (y ∷ ys) h = (both (is_below x.0 y.0) (ascends (y ∷ ys)) h).1

ascends_back : (a b : List Pair) → ascends (a ++ b) ≡ true → ascends b ≡ true
ascends_back [] b h = h
ascends_back (x ∷ xs) b h = ascends_back xs b (ascends_tail x (xs ++ b) h)

-- ---- lows

only_one : (n k : ℕ) → 1 ≤ n → (2 ≤ n → 1 ≤ k) → k ≡ 0 → n ≡ 1
only_one n k from some none = grind arith

low_with : (n : ℕ) (ps : List Pair) (p : Pair) → 1 ≤ n → (2 ≤ n → 1 ≤ length ps) → low_of n ps ≡ low_of n (ps ++ p ∷ [])
low_with n [] p from some =
    let e : n ≡ 1 = only_one n 0 from some refl in
    subst (λ k. low_of k [] ≡ low_of k (p ∷ [])) (sym e) refl
low_with n (q ∷ qs) p from some = refl

low_later : (n : ℕ) (p : Pair) → 2 ≤ n → p.0 ≡ low_of n (p ∷ [])
low_later n p h =
    let e : (n == 1) ≡ false = grind (arith, nat_tests) in
    ap (λ (b : Bool). if b then [] else p.0) (sym e)

full_push : (m n : ℕ) (ls : List Leaf) (l : Leaf) → AreFull m n ls → IsNumbered m (n + length ls) l → length l.pairs ≡ m → AreFull m n (ls ++ l ∷ [])
full_push m n [] l h k e =
    let same : n + 0 ≡ n = omega arith in
    (subst (λ i. IsNumbered m i l) same k, e, tt)
full_push m n (x ∷ xs) l h k e =
    let same : n + length (x ∷ xs) ≡ n + 1 + length xs = omega arith in
    (h.0, h.1, full_push m (n + 1) xs l h.2 (subst (λ i. IsNumbered m i l) same k) e)

-- ---- pairs

record Made (m f room : ℕ) (pairs : List Pair) (w : Making) : Type 0 where
  pub full : List Leaf
  pub puts : Puts m f room full w.framed
  pub pages : AreFull m 1 full
  pub last : IsNumbered m (length full + 1) w.page
  pub pairs_are : pairs_of full ++ w.page.pairs ≡ pairs
  pub begun : 1 ≤ length full → 1 ≤ length w.page.pairs
  pub few : length full ≤ length pairs

-- the page with a pair more
abbrev pair_on : Making → Pair → Making
pair_on w p = record w { page = page_with w.page p }

pair_put : (m f room : ℕ) (pairs : List Pair) (w : Making) (p : Pair) → Made m f room pairs w → IsPair p → ascends (pairs ++ p ∷ []) ≡ true
    → has_room w ≡ true → Made m f room (pairs ++ p ∷ []) (pair_on w p)
pair_put m f room pairs w p h lawful rise room_is =
    let few = h.few in
    let begun = h.begun in
    let count = h.last.lawful.count in
    let m_is = h.puts.m_is in
    let space : length w.page.pairs < w.framed.m = grind (arith, nat_tests) in
    let same : pairs_of h.full ++ (w.page.pairs ++ p ∷ []) ≡ pairs ++ p ∷ [] =
    sym (append_assoc (pairs_of h.full) w.page.pairs (p ∷ [])) ∙ ap (λ t. t ++ p ∷ []) h.pairs_are in
    let page : IsBase m (page_with w.page p) = record {
      page = h.last.lawful.page;
      low = h.last.lawful.low;
      count = omega (arith, length-append w.page.pairs (p ∷ []));
      pairs = all-push IsPair w.page.pairs p h.last.lawful.pairs lawful;
      ascends = ascends_back (pairs_of h.full) (w.page.pairs ++ p ∷ []) (ap ascends same ∙ rise);
    } in
    record {
      full = h.full;
      puts = h.puts;
      pages = h.pages;
      last = record {
        number = h.last.number;
        low = h.last.low ∙ low_with (length h.full + 1) w.page.pairs p (omega arith) (λ two. begun (omega arith));
        lawful = page;
      };
      pairs_are = same;
      begun = λ _. omega (arith, length-append w.page.pairs (p ∷ []));
      few = omega (arith, length-append pairs (p ∷ []));
    }

pair_turned : (m f room : ℕ) (pairs : List Pair) (w : Making) (p : Pair) → AreLimits m f room → Made m f room pairs w → IsPair p
    → length pairs + 2 < 2 ^ 32 → has_room w ≡ false → Made m f room (pairs ++ p ∷ []) (pair_on (turned p.0 w) p)
pair_turned m f room pairs w p limits h lawful bound full_is =
    let few = h.few in
    let count = h.last.lawful.count in
    let m_is = h.puts.m_is in
    let some = limits.pairs.0 in
    let number = h.last.number in
    let space : w.framed.m ≤ length w.page.pairs = grind (arith, nat_tests) in
    let full = h.full ++ w.page ∷ [] in
    let long : length full ≡ length h.full + 1 = omega (arith, length-append h.full (w.page ∷ [])) in
    let first : 1 + length h.full ≡ length h.full + 1 = omega arith in
    let page : IsBase m (page_with (page_after w.page p.0) p) = record {
      page = (omega arith, omega arith);
      low = lawful.0.1;
      count = omega arith;
      pairs = (lawful, tt);
      ascends = refl;
    } in
    record {
      full = full;
      puts = paged m f room h.full w.framed w.page limits (omega arith) h.puts h.last.lawful;
      pages = full_push m 1 h.full w.page h.pages (subst (λ i. IsNumbered m i w.page) (sym first) h.last) (omega arith);
      last = record {
        number = omega arith;
        low = low_later (length full + 1) p (omega arith);
        lawful = page;
      };
      pairs_are = ap (λ t. t ++ p ∷ []) (flat_map-push (λ (l : Leaf). l.pairs) h.full w.page ∙ h.pairs_are);
      begun = λ _. omega arith;
      few = omega (arith, length-append pairs (p ∷ []));
    }

pair_more : (m f room : ℕ) (pairs : List Pair) (w : Making) (p : Pair) → AreLimits m f room → Made m f room pairs w → IsPair p
    → ascends (pairs ++ p ∷ []) ≡ true → length pairs + 2 < 2 ^ 32 → Made m f room (pairs ++ p ∷ []) (with_pair w p)
pair_more m f room pairs w p limits h lawful rise bound =
    elim (has_room w)
    as (λ b. has_room w ≡ b → Made m f room (pairs ++ p ∷ []) (pair_on (if b then w else turned p.0 w) p)) [
      | true ↦ λ e. pair_put m f room pairs w p h lawful rise e
      | false ↦ λ e. pair_turned m f room pairs w p limits h lawful bound e
    ]
    refl

made_all : (m f room : ℕ) (ps qs : List Pair) (w : Making) → AreLimits m f room → Made m f room ps w → AllByRecursion IsPair qs
    → ascends (ps ++ qs) ≡ true → length (ps ++ qs) + 1 < 2 ^ 32 → Made m f room (ps ++ qs) (fold with_pair w qs)
made_all m f room ps [] w limits h lawful rise bound = subst (λ t. Made m f room t w) (sym (append-nil ps)) h
made_all m f room ps (q ∷ qs) w limits h lawful rise bound =
    let same : (ps ++ q ∷ []) ++ qs ≡ ps ++ q ∷ qs = append_assoc ps (q ∷ []) qs in
    let all_rise : ascends ((ps ++ q ∷ []) ++ qs) ≡ true = ap ascends same ∙ rise in
    let few : length ((ps ++ q ∷ []) ++ qs) + 1 < 2 ^ 32 = rw same bound in
    let step = pair_more m f room ps w q limits h lawful.0 (ascends_front (ps ++ q ∷ []) qs all_rise)
    (omega (arith, length-append ps (q ∷ qs))) in
    subst (λ t. Made m f room t (fold with_pair w (q ∷ qs))) same (made_all m f room (ps ++ q ∷ []) qs (with_pair w q) limits step lawful.1 all_rise few)

-- ---- the beginning and the end

started : (m f room : ℕ) → AreLimits m f room → Made m f room [] (without_pairs m f room)
started m f room limits =
    let segment = limits.segment.0 in
    let frame = limits.frame.0 in
    let long = length-header (record { version = latest; number = 1; m = m; f = f }) in
    record {
      full = [];
      puts = record {
        done = [];
        last = [];
        all = [];
        all_is = refl;
        m_is = refl;
        room_is = refl;
        limit = refl;
        closed = refl;
        newest = sym (append-nil (header_of m f 1));
        short = tt;
        short_newest = omega arith;
        frames = tt;
        number = refl;
        few = omega arith;
        blocks = refl;
        lawful = tt;
        fit = omega arith;
      };
      pages = tt;
      last = record {
        number = refl;
        low = refl;
        lawful = record { page = (omega arith, omega arith); low = omega arith; count = omega arith; pairs = tt; ascends = refl };
      };
      pairs_are = refl;
      begun = λ k. absurd (omega arith);
      few = omega arith;
    }

ended : (m f room : ℕ) (pairs : List Pair) (w : Making) → AreLimits m f room → Made m f room pairs w → ascends pairs ≡ true
    → length pairs + 1 < 2 ^ 32 → IsLogOf m f room pairs (finished w)
ended m f room pairs w limits h rise bound =
    let few = h.few in
    let four = limits.pairs.0 in
    let same : pairs_of (h.full ++ w.page ∷ []) ≡ pairs = flat_map-push (λ (l : Leaf). l.pairs) h.full w.page ∙ h.pairs_are in
    let full = h.full ++ w.page ∷ [] in
    let long : length full ≡ length h.full + 1 = omega (arith, length-append h.full (w.page ∷ [])) in
    let v = with_page w.framed (Base w.page) in
    let put = paged m f room h.full w.framed w.page limits (omega arith) h.puts h.last.lawful in
    let bounds : Bounds f room full = record { frame = limits.frame.1; segment = limits.segment.0; few = omega arith } in
    let some : 1 ≤ length v.filling.blocks =
    omega (arith, length-append (framed_for (Base w.page) w.framed).filling.blocks (Base w.page ∷ [])) in
    let all = framed m f room full v put bounds some in
    let blocks : blocks_of (all_frames (all.done ++ all.last ∷ [])) ≡ map (λ (l : Leaf). Base l) full =
    ap blocks_of (sym all.all_is) ∙ sym (append-nil (blocks_of all.all)) ∙ all.blocks in
    let lawful = lawful_pages m h.full w.page (omega arith) h.pages h.last h.begun (ap ascends same ∙ rise) in
    record {
      full = h.full;
      last = w.page;
      parts = all.done ++ all.last ∷ [];
      pages = h.pages;
      end = h.last;
      begun = h.begun;
      pairs_are = same;
      frames = subst (AreFrames m f 1) all.all_is all.frames;
      blocks = blocks;
      stands = stand m (all_frames (all.done ++ all.last ∷ [])) full blocks (omega arith) lawful;
      bytes = begun_closed m f (with_frame v).closed (with_frame v).newest all.done all.last all.closed all.newest;
      short = all-push _ (with_frame v).closed (with_frame v).newest all.short all.short_newest;
    }

pub writes_them : WritesThem
writes_them m f room pairs limits lawful rise bound =
    ended m f room pairs (fold with_pair (without_pairs m f room) pairs) limits
    (made_all m f room [] pairs (without_pairs m f room) limits (started m f room limits) lawful rise bound)
    rise bound

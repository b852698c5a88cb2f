-- What no append changes of the boxes: their leases and their rooms.

use Rattle.std.proofs.Common.{◌≡◌, ℕ, ◌^◌, ◌<◌, List, [], ◌∷◌, ◌++◌, take, map, inl, inr, refl, sym, ap, subst, ◌∙◌, append_assoc, arith}
use Rattle.std.proofs.lemmas.List.{map-append}
use Rattle.std.specs.List.{AllByRecursion}
use Rattle.bw_device.specs.Holding.{Holding}
use Rattle.bw_codec.specs.Grammar.{header_bytes}
use Rattle.bw_log.specs.Segments.{header_with}
use Rattle.bw_log.specs.Contents.{Contents, IsBounded, IsRoomy, IsSpare, AreTorn, IsSound}
use Rattle.bw_log.specs.Limits.{fresh, IsFit}
use Rattle.bw_log.specs.Appends.{with_last, with_first, torn}

-- ---- a number of each box

pub field_last : (g : Holding → ℕ) (f : Holding → Holding) → ((h : Holding) → g (f h) ≡ g h) → (hs : List Holding) → map g (with_last f hs) ≡ map g hs
field_last g f keeps [] = refl
field_last g f keeps (h ∷ []) = ap (λ (n : ℕ). n ∷ []) (keeps h)
field_last g f keeps (h ∷ k ∷ hs) = ap (λ (l : List ℕ). g h ∷ l) (field_last g f keeps (k ∷ hs))

pub field_first : (g : Holding → ℕ) (f : Holding → Holding) → ((h : Holding) → g (f h) ≡ g h) → (hs : List Holding) → map g (with_first f hs) ≡ map g hs
field_first g f keeps [] = refl
field_first g f keeps (h ∷ hs) = ap (λ (n : ℕ). n ∷ map g hs) (keeps h)

pub both_fields : (g : Holding → ℕ) (live spares live' spares' : List Holding) → map g live' ≡ map g live → map g spares' ≡ map g spares
    → map g (live' ++ spares') ≡ map g (live ++ spares)
both_fields g live spares live' spares' one two =
    map-append g live' spares' ∙ ap (λ (l : List ℕ). l ++ map g spares') one ∙ ap (λ (l : List ℕ). map g live ++ l) two ∙ sym (map-append g live spares)

-- the first spare goes to the end of the live segments
pub field_moved : (g : Holding → ℕ) (live ss spares : List Holding) (s t : Holding) → g t ≡ g s → spares ≡ s ∷ ss
    → map g ((live ++ t ∷ []) ++ ss) ≡ map g (live ++ spares)
field_moved g live ss spares s t same split =
    ap (map g) (append_assoc live (t ∷ []) ss)
    ∙ map-append g live (t ∷ ss)
    ∙ ap (λ (n : ℕ). map g live ++ (n ∷ map g ss)) same
    ∙ sym (map-append g live (s ∷ ss))
    ∙ ap (λ (l : List Holding). map g (live ++ l)) (sym split)

-- ---- rooms

pub roomy_same : (f : ℕ) (hs ks : List Holding) → map (λ (h : Holding). h.room) ks ≡ map (λ (h : Holding). h.room) hs → AllByRecursion (IsRoomy f) hs
    → AllByRecursion (IsRoomy f) ks
roomy_same f [] [] same all = tt
roomy_same f [] (k ∷ ks) same all = absurd cc
roomy_same f (h ∷ hs) [] same all = absurd cc
roomy_same f (h ∷ hs) (k ∷ ks) same all =
    let head : k.room ≡ h.room = cc in
    let rest : map (λ (x : Holding). x.room) ks ≡ map (λ (x : Holding). x.room) hs = cc in
    (rw head all.0, roomy_same f hs ks rest all.1)

pub bounded_same : (hs ks : List Holding) → map (λ (h : Holding). h.room) ks ≡ map (λ (h : Holding). h.room) hs → AllByRecursion IsBounded hs
    → AllByRecursion IsBounded ks
bounded_same [] [] same all = tt
bounded_same [] (k ∷ ks) same all = absurd cc
bounded_same (h ∷ hs) [] same all = absurd cc
bounded_same (h ∷ hs) (k ∷ ks) same all =
    let head : k.room ≡ h.room = cc in
    let rest : map (λ (x : Holding). x.room) ks ≡ map (λ (x : Holding). x.room) hs = cc in
    (rw head all.0, bounded_same hs ks rest all.1)

pub spares_roomy : (f : ℕ) (hs : List Holding) → AllByRecursion (IsSpare f) hs → AllByRecursion (IsRoomy f) hs
spares_roomy f [] all = tt
spares_roomy f (h ∷ hs) all = (all.0.1, spares_roomy f hs all.1)

-- one more box after them
pub roomy_more : (f : ℕ) (spares : List Holding) (h : Holding) → AllByRecursion (IsRoomy f) spares → IsRoomy f h → AllByRecursion (IsRoomy f) (spares ++ h ∷ [])
roomy_more f [] h all one = (one, tt)
roomy_more f (s ∷ ss) h all one = (all.0, roomy_more f ss h all.1 one)

-- ---- spares of a failed log

pub empty_torn : (number m f : ℕ) (spares : List Holding) → AllByRecursion (IsSpare f) spares → AreTorn number m f spares
empty_torn number m f [] all = tt
empty_torn number m f (s ∷ ss) all = (inl all.0.0, all.1)

pub first_torn : (number m f n : ℕ) (spares : List Holding) → number < 2 ^ 64 → AllByRecursion (IsSpare f) spares
    → AreTorn number m f (with_first (torn n (header_bytes (header_with number m f))) spares)
first_torn number m f n [] small all = tt
first_torn number m f n (s ∷ ss) small all =
    (inr (small, n, ap (λ (l : List ℕ). l ++ take n (header_bytes (header_with number m f))) all.0.0), all.1)

pub spares_push : (f : ℕ) (spares : List Holding) (h : Holding) → AllByRecursion (IsSpare f) spares → IsSpare f h
    → AllByRecursion (IsSpare f) (spares ++ h ∷ [])
spares_push f [] h all one = (one, tt)
spares_push f (s ∷ ss) h all one = (all.0, spares_push f ss h all.1 one)

-- one more box after them
pub torn_more : (number m f : ℕ) (spares : List Holding) (h : Holding) → AreTorn number m f spares → IsSpare f h → AreTorn number m f (spares ++ h ∷ [])
torn_more number m f [] h all one = (inl one.0, tt)
torn_more number m f (s ∷ ss) h all one = (all.0, spares_push f ss h all.1 one)

-- a log of spares only
fresh_sound : (m f : ℕ) (spares : List Holding) → IsFit m f spares → IsSound (fresh m f spares)
fresh_sound m f spares fit =
    let few = fit.few in
    record {
      few = omega arith;
      bounds = tt;
      rooms = spares_roomy f spares fit.empty;
      empty = λ _. fit.empty;
      torn = λ e. absurd cc;
      holds = record {
        limits = fit.limits;
        numbers = omega arith;
        live = (0, tt);
        news = omega arith;
        ends = λ e. absurd cc;
        every = λ _. refl;
        left = λ e. absurd cc;
        numbered = tt;
        follows = refl;
        listed = refl;
        count = omega arith;
        linked = refl;
        stands = inl (refl, refl);
        table = record { places = λ p from. refl; bases = λ p from. refl; walks = λ p from. refl };
      };
    }

pub new_sound : (c : Contents) (m f : ℕ) (spares : List Holding) → c ≡ fresh m f spares → IsFit m f spares → IsSound c
new_sound c m f spares is fit = subst IsSound (sym is) (fresh_sound m f spares fit)

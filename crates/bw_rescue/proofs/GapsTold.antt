-- The numbers in the gaps are those of which no whole frame was found, between two of which one was.

use Rattle.std.proofs.Common.{◌≡◌, ℕ, zero, suc, ◌+◌, ◌-◌, ◌<◌, ◌≤◌, ◌⊎◌, inl, inr, ◌↔◌, ◌&&◌, nat_lt, Less, ltb-true, ltb-false, lt-ltb, Bool, true, false, if◌then◌else◌, Option, Some, None, IsSome, List, [], ◌∷◌, ◌++◌, length, slice_index_or, refl, sym, ap, ap₂, subst, ◌∙◌, arith}
use Rattle.std.specs.List.{AllByRecursion}
use Rattle.std.specs.List.Sorted.{IsStrictlySortedBy}
use Rattle.std.specs.Ordering.{nat_cmp}
use Rattle.std.proofs.lemmas.Cmp.{ranked}
use Rattle.bw_record.specs.declared.block.Frame.{Frame}
use Rattle.bw_rescue.specs.declared.gathered.At.{At}
use Rattle.bw_rescue.specs.declared.held.Held.{Held}
use Rattle.bw_rescue.specs.declared.pages.Gap.{Gap}
use Rattle.bw_rescue.specs.Pages.{gap_before, gaps_of, IsAmong}
use Rattle.bw_rescue.specs.Gathered.{place_of, numbers_in, IsFirst, AreGathered, IsMissing}

-- ---- numbers that ascend

abbrev pub Has : ℕ → List ℕ → Type 0
Has k [] = ⊥
Has k (n ∷ ns) = (k ≡ n) ⊎ Has k ns

-- each is above the one before it, the first is above this one
abbrev pub Climb : ℕ → List ℕ → Type 0
Climb low [] = Unit {0}
Climb low (n ∷ ns) = (low < n) × Climb n ns

climbs : (low : ℕ) (ns : List ℕ) → IsStrictlySortedBy nat_cmp (low ∷ ns) → Climb low ns
unfolding IsStrictlySortedBy
climbs low [] sorted = tt
climbs low (n ∷ ns) sorted = (ranked low n Less (sym sorted.0.0), climbs n ns sorted.1)

all_above : (low : ℕ) (ns : List ℕ) → Climb low ns → (k : ℕ) → Has k ns → low < k
all_above low [] climb k has = absurd has
all_above low (n ∷ ns) climb k (inl is) = (let a = climb.0 in omega (arith, a, is))
all_above low (n ∷ ns) climb k (inr later) = (let a = climb.0 in let b = all_above n ns climb.1 k later in omega (arith, a, b))

-- the first is the least
least : (n k : ℕ) (ns : List ℕ) → Climb n ns → Has k (n ∷ ns) → n ≤ k
least n k ns climb (inl is) = omega (arith, is)
least n k ns climb (inr later) = (let a = all_above n ns climb k later in omega (arith, a))

-- what is above the first is one of the others
not_first : (n k : ℕ) (ns : List ℕ) → n < k → Has k (n ∷ ns) → Has k ns
not_first n k ns above (inl is) = (let never : ⊥ = omega (arith, above, is) in absurd never)
not_first n k ns above (inr later) = later

not_below : (n k : ℕ) (ns : List ℕ) → Climb n ns → k < n → Has k (n ∷ ns) → ⊥
not_below n k ns climb below has = (let a = least n k ns climb has in omega (arith, a, below))

three : (k n : ℕ) → (k < n) ⊎ ((k ≡ n) ⊎ (n < k))
three k n = by (nat_lt k n) refl (nat_lt n k) refl
  where
    by : (a : Bool) → nat_lt k n ≡ a → (b : Bool) → nat_lt n k ≡ b → (k < n) ⊎ ((k ≡ n) ⊎ (n < k))
    by true less b other = inl (ltb-true k n less)
    by false less true more = inr (inr (ltb-true n k more))
    by false less false more = inr (inl (let a = ltb-false k n less in let b = ltb-false n k more in omega (arith, a, b)))

-- ---- one gap

abbrev gap_if : Bool → ℕ → ℕ → List Gap
gap_if b last n = if b then record { first = last + 1; last = n - 1 } ∷ [] else []

in_gap : (last n k : ℕ) → IsAmong k (gap_before last n) → (last < k) × (k < n)
in_gap last n k is = by (nat_lt 0 last) (nat_lt (last + 1) n) refl is
  where
    by : (a b : Bool) → nat_lt (last + 1) n ≡ b → IsAmong k (gap_if (a && b) last n) → (last < k) × (k < n)
    by true true less (inl here) =
        let first = here.0 in
        let end = here.1 in
        let some = ltb-true (last + 1) n less in
        (omega (arith, first), omega (arith, end, some))
    by true true less (inr none) = absurd none
    by true false less none = absurd none
    by false true less none = absurd none
    by false false less none = absurd none

of_gap : (last n k : ℕ) → 0 < last → last < k → k < n → IsAmong k (gap_before last n)
of_gap last n k some above below =
    let both : (nat_lt 0 last && nat_lt (last + 1) n) ≡ true = ap₂ (λ (a b : Bool). a && b) (lt-ltb 0 last some) (lt-ltb (last + 1) n (omega (arith, above, below))) in
    subst (λ (b : Bool). IsAmong k (gap_if b last n)) (sym both) (inl (omega (arith, above), omega (arith, below)))

among_parts : (k : ℕ) (a b : List Gap) → IsAmong k (a ++ b) → IsAmong k a ⊎ IsAmong k b
among_parts k [] b is = inr is
among_parts k (g ∷ a) b (inl here) = inl (inl here)
among_parts k (g ∷ a) b (inr later) = by (among_parts k a b later)
  where
    by : IsAmong k a ⊎ IsAmong k b → IsAmong k (g ∷ a) ⊎ IsAmong k b
    by (inl one) = inl (inr one)
    by (inr other) = inr other

among_first : (k : ℕ) (a b : List Gap) → IsAmong k a → IsAmong k (a ++ b)
among_first k [] b is = absurd is
among_first k (g ∷ a) b (inl here) = inl here
among_first k (g ∷ a) b (inr later) = inr (among_first k a b later)

among_later : (k : ℕ) (a b : List Gap) → IsAmong k b → IsAmong k (a ++ b)
among_later k [] b is = is
among_later k (g ∷ a) b is = inr (among_later k a b is)

-- ---- all gaps after a number

-- a number is above the last one and below one of these, and is none of them
record Between (last k : ℕ) (ns : List ℕ) : Type 0 where
  above : last < k
  none : Has k ns → ⊥
  high : ℕ
  below : k < high
  its : Has high ns

between : (last k : ℕ) (ns : List ℕ) → Climb last ns → IsAmong k (gaps_of last ns) → Between last k ns
between last k [] climb is = absurd is
between last k (n ∷ ns) climb is = by (among_parts k (gap_before last n) (gaps_of n ns) is) (λ later. between n k ns climb.1 later)
  where
    by : IsAmong k (gap_before last n) ⊎ IsAmong k (gaps_of n ns) → (IsAmong k (gaps_of n ns) → Between n k ns) → Between last k (n ∷ ns)
    by (inl here) next =
        let its = in_gap last n k here in
        record { above = its.0; none = not_below n k ns climb.1 its.1; high = n; below = its.1; its = inl refl }
    by (inr later) next =
        let its = next later in
        record {
          above = (let a = its.above in let b = climb.0 in omega (arith, a, b));
          none = λ has. its.none (not_first n k ns its.above has);
          high = its.high;
          below = its.below;
          its = inr its.its;
        }

noted : (last k : ℕ) (ns : List ℕ) → 0 < last → Climb last ns → Between last k ns → IsAmong k (gaps_of last ns)
noted last k [] some climb its = absurd its.its
noted last k (n ∷ ns) some climb its =
    by (three k n) (λ more. noted n k ns (let a = climb.0 in omega (arith, a)) climb.1
    (record { above = more; none = λ has. its.none (inr has); high = its.high; below = its.below; its = not_first n its.high ns (let a = its.below in omega (arith, a, more)) its.its }))
  where
    by : (k < n) ⊎ ((k ≡ n) ⊎ (n < k)) → (n < k → IsAmong k (gaps_of n ns)) → IsAmong k (gaps_of last (n ∷ ns))
    by (inl less) later = among_first k (gap_before last n) (gaps_of n ns) (of_gap last n k some its.above less)
    by (inr (inl same)) later = absurd (its.none (inl same))
    by (inr (inr more)) later = among_later k (gap_before last n) (gaps_of n ns) (later more)

-- ---- all gaps of some segments

-- a number is between two of these, and is none of them
record Among (k : ℕ) (ns : List ℕ) : Type 0 where
  none : Has k ns → ⊥
  low : ℕ
  above : low < k
  first : Has low ns
  high : ℕ
  below : k < high
  last : Has high ns

among : (k : ℕ) (ns : List ℕ) → IsStrictlySortedBy nat_cmp ns → IsAmong k (gaps_of 0 ns) → Among k ns
among k [] sorted is = absurd is
among k (n ∷ ns) sorted is =
    let its = between n k ns (climbs n ns sorted) is in
    record {
      none = λ has. its.none (not_first n k ns its.above has);
      low = n;
      above = its.above;
      first = inl refl;
      high = its.high;
      below = its.below;
      last = inr its.its;
    }

all_noted : (k : ℕ) (ns : List ℕ) → IsStrictlySortedBy nat_cmp ns → AllByRecursion (λ (n : ℕ). 1 ≤ n) ns → Among k ns → IsAmong k (gaps_of 0 ns)
all_noted k [] sorted some its = absurd its.first
all_noted k (n ∷ ns) sorted some its =
    let climb = climbs n ns sorted in
    let one = some.0 in
    let low = least n its.low ns climb its.first in
    let above = its.above in
    let more : n < k = omega (arith, low, above) in
    noted n k ns (omega (arith, one)) climb
    (record { above = more; none = λ has. its.none (inr has); high = its.high; below = its.below; its = not_first n its.high ns (let below = its.below in omega (arith, more, below)) its.last })

-- frames are numbered from 1 on
numbered : (held : List Held) (frames : List Frame) → AllByRecursion (IsFirst held) frames → AllByRecursion (λ (n : ℕ). 1 ≤ n) (numbers_in frames)
numbered held [] each = tt
numbered held (f ∷ frames) each = (each.0.stands.0.head.numbered.0, numbered held frames each.1)

-- each number that was read was found
was_found : (held : List Held) (frames : List Frame) → AllByRecursion (IsFirst held) frames → (k : ℕ) → Has k (numbers_in frames) → IsSome (place_of k 0 held)
was_found held [] each k has = absurd has
was_found held (f ∷ frames) each k (inl is) = subst (λ (o : Option At). IsSome o) (sym (ap (λ (n : ℕ). place_of n 0 held) is ∙ each.0.is)) refl
was_found held (f ∷ frames) each k (inr later) = was_found held frames each.1 k later

-- each number that was found was read
has_at : (k : ℕ) (ns : List ℕ) (i : ℕ) → i < length ns → slice_index_or ns i k ≡ k → Has k ns
has_at k [] i below is = (let never : ⊥ = omega (arith, below) in absurd never)
has_at k (n ∷ ns) zero below is = inl (sym is)
has_at k (n ∷ ns) (suc i) below is = inr (has_at k ns i (omega (arith, below)) is)

was_read : (held : List Held) (frames : List Frame) → AreGathered held frames → (k : ℕ) → IsSome (place_of k 0 held) → Has k (numbers_in frames)
was_read held frames gathered k some = (let its = gathered.all k some in has_at k (numbers_in frames) its.0 its.1 its.2)

not_found : (o : Option At) → (IsSome o → ⊥) → o ≡ None
not_found None unless = refl
not_found (Some at) unless = absurd (unless refl)

pub gaps_told : (held : List Held) (frames : List Frame) (gaps : List Gap) → AreGathered held frames → gaps ≡ gaps_of 0 (numbers_in frames) → (k : ℕ) → IsAmong k gaps ↔ IsMissing held k
gaps_told held frames gaps gathered are k = (to, from)
  where
    to : IsAmong k gaps → IsMissing held k
    to is =
        let its = among k (numbers_in frames) gathered.ascend (subst (IsAmong k) are is) in
        record {
          none = not_found (place_of k 0 held) (λ some. its.none (was_read held frames gathered k some));
          low = its.low;
          above = (its.above, was_found held frames gathered.each its.low its.first);
          high = its.high;
          below = (its.below, was_found held frames gathered.each its.high its.last);
        }

    from : IsMissing held k → IsAmong k gaps
    from is = subst (IsAmong k) (sym are)
        (all_noted k (numbers_in frames) gathered.ascend (numbered held frames gathered.each)
        (record {
          none = λ has. (let some : IsSome (place_of k 0 held) = was_found held frames gathered.each k has in let none = is.none in cc);
          low = is.low;
          above = is.above.0;
          first = was_read held frames gathered is.low is.above.1;
          high = is.high;
          below = is.below.0;
          last = was_read held frames gathered is.high is.below.1;
        }))

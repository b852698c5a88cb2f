-- Pairs in a tree change as those of a leaf do.

use Rattle.std.proofs.Common.{◌≡◌, zero, suc, ◌<◌, true, false, cond, Option, Some, None, [], ◌∷◌, ◌++◌, length, append_assoc, append-nil}
use Rattle.std.proofs.Common.{IsTrue, IsSome, refl, sym, ap, ◌∙◌, subst, arith}
use Rattle.std.proofs.lemmas.List.Elements.{filter-append}
use Rattle.std.specs.List.{AllByRecursion, All, filter}
use Rattle.std.specs.List.Sorted.{IsStrictlySortedBy}
use Rattle.std.specs.Option.{IfSome}
use Rattle.std.specs.Prelude.{◌↔◌}
use Rattle.std.specs.Map.{keys_of, remove_entry}
use Rattle.std.specs.BTreeMap.{insert_entry, is_at}
use Rattle.std.specs.Ordering.{is_lt, is_eq, match_ordering}
use Rattle.std.specs.FinMap.Entries.{put, by_order}
use Rattle.std.specs.declared.cmp.Ordering.TheVariants.{Less, Equal, Greater}
use Rattle.bw_record.specs.Keys.{is_below, ascends}
use Rattle.bw_record.proofs.Order.{Below, UpTo, below-trans, upto-below, below_apart}
use Rattle.bw_leaf.specs.Changed.{Bytes, Pairs, order, without}
use Rattle.bw_leaf.proofs.Sorted.{Rises, ascends_rises, all-map}

-- ---- a put

pub inserted_is_put : (key value : Bytes) (es : Pairs) → insert_entry order es key value ≡ put order key value es
inserted_is_put key value [] = refl
inserted_is_put key value (e ∷ es) =
    elim (order key e.0) as (λ o. match_ordering o ((key, value) ∷ e ∷ es) ((e.0, value) ∷ es) (e ∷ insert_entry order es key value)
    ≡ by_order o ((key, value) ∷ e ∷ es) ((e.0, value) ∷ es) (e ∷ put order key value es)) [
      | Less ↦ refl
      | Equal ↦ refl
      | Greater ↦ ap (λ (rest : Pairs). e ∷ rest) (inserted_is_put key value es)
    ]

-- ---- a delete

below_each : (key : Bytes) (es : Pairs) → AllByRecursion (λ y. order key y ≡ Less) (keys_of es) → AllByRecursion (λ q. Below key q.0) es
below_each key [] h = tt
below_each key (e ∷ es) h = (ap is_lt h.0, below_each key es h.1)

pub ordered_rises : (es : Pairs) → IsStrictlySortedBy order (keys_of es) → Rises es
unfolding IsStrictlySortedBy
ordered_rises [] h = tt
ordered_rises (e ∷ es) h = (below_each e.0 es h.0, ordered_rises es h.1)

none_removed : (key : Bytes) (es : Pairs) → AllByRecursion (λ q. Below key q.0) es → remove_entry (is_at (order key)) es ≡ es
none_removed key [] h = refl
none_removed key (e ∷ es) h = rw (below_apart key e.0 h.0) (ap (λ (rest : Pairs). e ∷ rest) (none_removed key es h.1))

pub removed_is_without : (key : Bytes) (es : Pairs) → Rises es → remove_entry (is_at (order key)) es ≡ without key es
removed_is_without key [] r = refl
removed_is_without key (e ∷ es) r =
    elim (order key e.0) as (λ o. order key e.0 ≡ o
    → cond (is_eq o) es (e ∷ remove_entry (is_at (order key)) es) ≡ by_order o (e ∷ es) es (e ∷ without key es)) [
      | Less ↦ λ less. ap (λ (rest : Pairs). e ∷ rest)
          (none_removed key es (all-map (λ q. Below e.0 q.0) (λ q. Below key q.0) (λ q b. below-trans key e.0 q.0 (ap is_lt less) b) es r.0))
      | Equal ↦ λ same. refl
      | Greater ↦ λ more. ap (λ (rest : Pairs). e ∷ rest) (removed_is_without key es r.1)
    ] refl

-- ---- from the last pair down

rises_behind : (front es : Pairs) → Rises (front ++ es) → Rises es
rises_behind [] es r = r
rises_behind (p ∷ ps) es r = rises_behind ps es r.1

first_inserted : (key value : Bytes) (es : Pairs) → AllByRecursion (λ q. Below key q.0) es → insert_entry order es key value ≡ (key, value) ∷ es
first_inserted key value [] h = refl
first_inserted key value (e ∷ es) h =
    elim (order key e.0) as (λ o. is_lt o ≡ true
    → match_ordering o ((key, value) ∷ e ∷ es) ((e.0, value) ∷ es) (e ∷ insert_entry order es key value) ≡ (key, value) ∷ e ∷ es) [
      | Less ↦ λ less. refl
      | Equal ↦ λ no. absurd (cc)
      | Greater ↦ λ no. absurd (cc)
    ] h.0

pub least_inserted : (all rest front es new : Pairs) (key value : Bytes) → IsTrue (ascends all) → rest ++ es ≡ all → rest ≡ front ++ (key, value) ∷ []
    → new ≡ insert_entry order es key value → front ++ new ≡ all
least_inserted all rest front es new key value up whole last is =
    let parts : front ++ (key, value) ∷ es ≡ all =
    sym (append_assoc front ((key, value) ∷ []) es) ∙ ap (λ (ps : Pairs). ps ++ es) (sym last) ∙ whole in
    let rises = rises_behind front ((key, value) ∷ es) (subst Rises (sym parts) (ascends_rises all up)) in
    ap (λ (ps : Pairs). front ++ ps) (is ∙ first_inserted key value es rises.0) ∙ parts

-- ---- what a separator leaves

kept_each : (separator : Bytes) (es : Pairs) → AllByRecursion (λ q. Below q.0 separator) es → filter (λ p. is_below p.0 separator) es ≡ es
kept_each separator [] h = refl
kept_each separator (e ∷ es) h = rw h.0 (ap (λ (rest : Pairs). e ∷ rest) (kept_each separator es h.1))

up_to_each : (last : Bytes) (es : Pairs) → All (λ q. is_lt (order last q) ≡ false) (keys_of es) → AllByRecursion (λ q. UpTo q.0 last) es
up_to_each last [] h = tt
up_to_each last (e ∷ es) h = (h zero e.0 (omega arith), up_to_each last es (λ k d less. h (suc k) d (omega arith)))

pub all_kept : (separator last : Bytes) (es : Pairs) → is_below last separator ≡ true → All (λ q. is_lt (order last q) ≡ false) (keys_of es)
    → filter (λ p. is_below p.0 separator) es ≡ es
all_kept separator last es b h =
    kept_each separator es
    (all-map (λ q. UpTo q.0 last) (λ q. Below q.0 separator) (λ q u. upto-below q.0 last separator u b) es (up_to_each last es h))

last_gone : (separator key value : Bytes) (old new : Pairs) → old ≡ new ++ (key, value) ∷ [] → is_below key separator ≡ false
    → filter (λ p. is_below p.0 separator) new ≡ filter (λ p. is_below p.0 separator) old
last_gone separator key value old new is behind =
    let none : filter (λ p. is_below p.0 separator) ((key, value) ∷ []) ≡ [] = rw behind refl in
    sym (append-nil _) ∙ ap (λ (ps : Pairs). filter (λ p. is_below p.0 separator) new ++ ps) (sym none)
    ∙ sym (filter-append (λ (p : Bytes × Bytes). is_below p.0 separator) new ((key, value) ∷ []))
    ∙ ap (filter (λ p. is_below p.0 separator)) (sym is)

pub popped : (separator : Bytes) (old new : Pairs) (r : Option (Bytes × Bytes)) → 0 < length old → (IsSome r ↔ (0 < length old))
    → IfSome r (λ p. old ≡ new ++ p ∷ []) → ((front : Pairs) (key value : Bytes) → old ≡ front ++ (key, value) ∷ [] → is_below key separator ≡ false)
    → filter (λ p. is_below p.0 separator) new ≡ filter (λ p. is_below p.0 separator) old
popped separator old new None some variant removal behind = let no : IsSome {T = Bytes × Bytes} None = variant.1 some in absurd (cc)
popped separator old new (Some p) some variant removal behind = last_gone separator p.0 p.1 old new removal (behind new p.0 p.1 removal)

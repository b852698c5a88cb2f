-- What is written at the end of a search is what the definitions say.

use Rattle.std.proofs.Common.{◌≡◌, ℕ, suc, ◌+◌, ◌-◌, ◌<◌, ◌≤◌, [], ◌∷◌, length, take, drop, Result, Ok, Err, refl, ap, subst, sym, ◌∙◌, one-add, arith}
use Rattle.std.proofs.Common.{length-append, length-take, length-drop, length-set}
use Rattle.std.specs.Prelude.{slice_set, insert, remove}
use Rattle.std.specs.FinMap.Entries.{put, by_order}
use Rattle.std.specs.declared.cmp.Ordering.TheVariants.{Less, Equal, Greater}
use Rattle.bw_record.specs.declared.leaf.Leaf.{Leaf}
use Rattle.bw_record.specs.declared.record.Record.{Record}
use Rattle.bw_record.specs.declared.record.Record.TheVariants.{Put, Del}
use Rattle.bw_record.proofs.Order.{order-same}
use Rattle.bw_leaf.specs.Changed.{Bytes, Pairs, order, without, changed}
use Rattle.bw_leaf.specs.Seek.{seek_of, passed, IsWithin}

-- where a search ended: what a put and a delete make there
abbrev pub Sought : Bytes → Pairs → (Bytes → Pairs) → Pairs → Result ℕ ℕ → Type 0
Sought key ps puts less (Ok at) = ((value : Bytes) → slice_set ps at (key, value) ≡ puts value) × (remove ps at ≡ less)
Sought key ps puts less (Err at) = ((value : Bytes) → insert ps at (key, value) ≡ puts value) × (ps ≡ less)

further : (key : Bytes) (p : Bytes × Bytes) (ps : Pairs) (puts : Bytes → Pairs) (less : Pairs) (s : Result ℕ ℕ) → Sought key ps puts less s
    → Sought key (p ∷ ps) (λ v. p ∷ puts v) (p ∷ less) (passed 1 s)
further key p ps puts less (Ok at) h = (
  λ v. ap (λ n. slice_set (p ∷ ps) n (key, v)) (one-add at)
      ∙ ap (λ xs. p ∷ xs) (h.0 v),
  ap (λ n. remove (p ∷ ps) n) (one-add at) ∙ ap (λ xs. p ∷ xs) h.1,
)
further key p ps puts less (Err at) h = (λ v. ap (λ n. insert (p ∷ ps) n (key, v)) (one-add at) ∙ ap (λ xs. p ∷ xs) (h.0 v), ap (λ xs. p ∷ xs) h.1)

pub sought : (key : Bytes) (ps : Pairs) → Sought key ps (λ v. put order key v ps) (without key ps) (seek_of key ps)
sought key [] = (λ v. refl, refl)
sought key (p ∷ ps) =
    elim (order key p.0) as (λ o. order key p.0 ≡ o
    → Sought key (p ∷ ps) (λ v. by_order o ((key, v) ∷ p ∷ ps) ((p.0, v) ∷ ps) (p ∷ put order key v ps)) (by_order o (p ∷ ps) ps (p ∷ without key ps))
    (by_order o (Err 0) (Ok 0) (passed 1 (seek_of key ps)))) [
      | Less ↦ λ e. (λ v. refl, refl)
      | Equal ↦ λ e. (λ v. ap (λ (k : Bytes). (k, v) ∷ ps) (order-same key p.0 e), refl)
      | Greater ↦ λ e. further key p ps (λ v. put order key v ps) (without key ps) (seek_of key ps) (sought key ps)
    ] refl

-- what a put and a delete make at what a search answered
pub sought_at : (key : Bytes) (ps : Pairs) (s : Result ℕ ℕ) → s ≡ seek_of key ps → Sought key ps (λ v. put order key v ps) (without key ps) s
sought_at key ps s e = subst (λ (t : Result ℕ ℕ). Sought key ps (λ v. put order key v ps) (without key ps) t) (sym e) (sought key ps)

-- a leaf with these pairs is the leaf after a put, or after a delete
pub put_there : (leaf : Leaf) (r : Record) (key value : Bytes) (s : Result ℕ ℕ) → r ≡ Put key value → s ≡ seek_of key leaf.pairs
    → ((ps : Pairs) → ps ≡ put order key value leaf.pairs → record leaf { pairs = ps } ≡ changed r leaf)
    × Sought key leaf.pairs (λ v. put order key v leaf.pairs) (without key leaf.pairs) s
put_there leaf r key value s is e = (
  λ ps same. let to : changed (Put key value) leaf ≡ changed r leaf = ap (λ (x : Record). changed x leaf) (sym is)
      in ap (λ (x : Pairs). record leaf { pairs = x }) same ∙ to,
  sought_at key leaf.pairs s e,
)

pub gone_there : (leaf : Leaf) (r : Record) (key : Bytes) (s : Result ℕ ℕ) → r ≡ Del key → s ≡ seek_of key leaf.pairs
    → ((ps : Pairs) → ps ≡ without key leaf.pairs → record leaf { pairs = ps } ≡ changed r leaf)
    × Sought key leaf.pairs (λ v. put order key v leaf.pairs) (without key leaf.pairs) s
gone_there leaf r key s is e = (
  λ ps same. let to : changed (Del key) leaf ≡ changed r leaf = ap (λ (x : Record). changed x leaf) (sym is)
      in ap (λ (x : Pairs). record leaf { pairs = x }) same ∙ to,
  sought_at key leaf.pairs s e,
)

-- how many pairs a put and a delete make there
abbrev pub Counted : Bytes → Pairs → Result ℕ ℕ → Type 0
Counted key ps (Ok at) = ((value : Bytes) → length ps ≡ length (put order key value ps)) × (length ps - 1 ≡ length (without key ps))
Counted key ps (Err at) = ((value : Bytes) → length ps + 1 ≡ length (put order key value ps)) × (length ps ≡ length (without key ps))

length-removed : (ps : Pairs) (at : ℕ) → at < length ps → length ps - 1 ≡ length (remove ps at)
length-removed ps at h = let e = length-append (take at ps) (drop (suc at) ps) in let t = length-take at ps in let d = length-drop (suc at) ps in omega arith

length-inserted : (ps : Pairs) (at : ℕ) (p : Bytes × Bytes) → at ≤ length ps → length ps + 1 ≡ length (insert ps at p)
length-inserted ps at p h = let e = length-append (take at ps) (p ∷ drop at ps) in let t = length-take at ps in let d = length-drop at ps in omega arith

counted_by : (key : Bytes) (ps : Pairs) (s : Result ℕ ℕ) → Sought key ps (λ v. put order key v ps) (without key ps) s → IsWithin (length ps) s
    → Counted key ps s
counted_by key ps (Ok at) h within =
    (λ v. sym (length-set ps at (key, v)) ∙ ap (λ (x : Pairs). length x) (h.0 v), length-removed ps at within ∙ ap (λ (x : Pairs). length x) h.1)
counted_by key ps (Err at) h within =
    (λ v. length-inserted ps at (key, v) within ∙ ap (λ (x : Pairs). length x) (h.0 v), ap (λ (x : Pairs). length x) h.1)

pub counted : (key : Bytes) (ps : Pairs) (s : Result ℕ ℕ) → s ≡ seek_of key ps → IsWithin (length ps) s → Counted key ps s
counted key ps s e within = counted_by key ps s (sought_at key ps s e) within

-- A search in sorted pairs finds the value of a key.

use Rattle.std.specs.Prelude.{is_ok, is_none, is_some, not}
use Rattle.std.proofs.Common.{◌≡◌, ℕ, cond, false, Option, Some, None, Result, Ok, Err, [], ◌∷◌, get_or, refl, sym, ap, ◌∙◌, subst, one-add}
use Rattle.std.specs.Ordering.{is_lt, is_eq, eq_by_cmp}
use Rattle.std.specs.FinMap.Entries.{find, by_order}
use Rattle.std.specs.declared.cmp.Ordering.TheVariants.{Less, Equal, Greater}
use Rattle.bw_leaf.specs.Changed.{Bytes, Pairs, order}
use Rattle.bw_record.specs.declared.record.Record.TheVariants.{Del}
use Rattle.bw_record.proofs.Order.{order-same, Below, below_apart, below-trans}
use Rattle.bw_leaf.specs.Seek.{seek_of, passed, back_of}
use Rattle.bw_leaf.proofs.Sorted.{all-map, Rises, find-none}

-- what the end of a search says of the look-up
abbrev pub Reads : Option Bytes → Pairs → Result ℕ ℕ → Type 0
Reads found ps (Ok at) = (d : Bytes × Bytes) → found ≡ Some (get_or ps at d).1
Reads found ps (Err at) = found ≡ None

further : (found : Option Bytes) (p : Bytes × Bytes) (ps : Pairs) (s : Result ℕ ℕ) → Reads found ps s → Reads found (p ∷ ps) (passed 1 s)
further found p ps (Ok at) h = λ d. h d ∙ ap (λ n. Some (get_or (p ∷ ps) n d).1) (sym (one-add at))
further found p ps (Err at) h = h

reads_all : (key : Bytes) (ps : Pairs) → Rises ps → Reads (find order key ps) ps (seek_of key ps)
reads_all key [] r = refl
reads_all key (p ∷ ps) r =
    elim (order key p.0) as (λ o. order key p.0 ≡ o
    → Reads (cond (is_eq o) (Some p.1) (find order key ps)) (p ∷ ps) (by_order o (Err 0) (Ok 0) (passed 1 (seek_of key ps)))) [
      | Less ↦ λ e. find-none key ps (all-map (λ q. Below p.0 q.0) (λ q. eq_by_cmp order key q.0 ≡ false)
          (λ q b. below_apart key q.0 (below-trans key p.0 q.0 (ap is_lt e) b)) ps r.0)
      | Equal ↦ λ e d. refl
      | Greater ↦ λ e. further (find order key ps) p ps (seek_of key ps) (reads_all key ps r.1)
    ] refl

-- what is found there, at what a search answered
pub reads : (key : Bytes) (ps : Pairs) (s : Result ℕ ℕ) → Rises ps → s ≡ seek_of key ps → Reads (find order key ps) ps s
reads key ps s r e = subst (Reads (find order key ps) ps) (sym e) (reads_all key ps r)

-- ---- the key that is found is the one that was sought

abbrev pub HasKey : Bytes → Pairs → Result ℕ ℕ → Type 0
HasKey key ps (Ok at) = (d : Bytes × Bytes) → (get_or ps at d).0 ≡ key
HasKey key ps (Err at) = Unit {0}

further-key : (key : Bytes) (p : Bytes × Bytes) (ps : Pairs) (s : Result ℕ ℕ) → HasKey key ps s → HasKey key (p ∷ ps) (passed 1 s)
further-key key p ps (Ok at) h = λ d. ap (λ n. (get_or (p ∷ ps) n d).0) (one-add at) ∙ h d
further-key key p ps (Err at) h = tt

has_key : (key : Bytes) (ps : Pairs) → HasKey key ps (seek_of key ps)
has_key key [] = tt
has_key key (p ∷ ps) =
    elim (order key p.0) as (λ o. order key p.0 ≡ o → HasKey key (p ∷ ps) (by_order o (Err 0) (Ok 0) (passed 1 (seek_of key ps)))) [
      | Less ↦ λ e. tt
      | Equal ↦ λ e d. sym (order-same key p.0 e)
      | Greater ↦ λ e. further-key key p ps (seek_of key ps) (has_key key ps)
    ] refl

pub sought_key : (key : Bytes) (ps : Pairs) (at : ℕ) → Ok at ≡ seek_of key ps → (d : Bytes × Bytes) → (get_or ps at d).0 ≡ key
sought_key key ps at e = subst (HasKey key ps) (sym e) (has_key key ps)

-- ---- a delete removes a pair exactly if the key is found

pub removed : (key : Bytes) (ps : Pairs) (s : Result ℕ ℕ) → Rises ps → s ≡ seek_of key ps → is_ok s ≡ is_none (back_of (Del key) (find order key ps))
removed key ps (Ok at) r e = sym (ap (λ (o : Option Bytes). is_none (back_of (Del key) o)) (reads key ps (Ok at) r e ([], [])))
removed key ps (Err at) r e = sym (ap (λ (o : Option Bytes). is_none (back_of (Del key) o)) (reads key ps (Err at) r e))

pub some_unless_none : {X : Type 0} (o : Option X) → is_some o ≡ not (is_none o)
some_unless_none None = refl
some_unless_none (Some x) = refl

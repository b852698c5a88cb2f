-- What a record leaves of a gap, and what taking it back does.

use Rattle.std.proofs.Common.{◌≡◌, ◌∙◌, true, false, cond, Option, Some, None, refl, sym, ap, subst}
use Rattle.std.specs.Prelude.{not}
use Rattle.std.specs.Ordering.{eq_by_cmp}
use Rattle.std.specs.FinMap as finite
use Rattle.bw_record.specs.Keys.{is_below}
use Rattle.bw_record.specs.Record.{key_of}
use Rattle.bw_record.specs.declared.record.Record.{Record}
use Rattle.bw_record.proofs.Order.{Below, UpTo, not_both, must_not, tied, upto-refl, upto-trans, below_upto, below-upto}
use Rattle.bw_leaf.specs.Changed.{Bytes, Map, order, changed_map}
use Rattle.bw_leaf.proofs.Sorted.{value_of, get-changed}
use Rattle.bw_page.specs.Ahead.{HasCome}
use Rattle.bw_page.specs.declared.gap.Gap.{Gap}
use Rattle.bw_page.specs.Gap.{IsGap, IsPassed, is_inside, is_at}

in_it : (q : Bytes) (gap : Gap) → UpTo gap.from q → Below q gap.to → is_inside q gap ≡ true
in_it q gap u b = ap (λ t. cond t false (is_below q gap.to)) u ∙ b

-- a key of the gap is another than one outside
other : (q k : Bytes) (gap : Gap) → is_inside k gap ≡ false → UpTo gap.from q → Below q gap.to → eq_by_cmp order q k ≡ false
other q k gap out u b =
    must_not (eq_by_cmp order q k) (λ t. not_both (is_inside k gap) (subst (λ (x : Bytes). is_inside x gap ≡ true) (tied q k t) (in_it q gap u b)) out)

-- a record of a key outside changes no value in the gap
same : (map : Map) (r : Record) (gap : Gap) → is_inside (key_of r) gap ≡ false
    → (q : Bytes) → UpTo gap.from q → Below q gap.to → finite.get (changed_map map r) q ≡ finite.get map q
same map r gap out q u b = get-changed map r q ∙ ap (λ t. cond t (value_of r) (finite.get map q)) (other q (key_of r) gap out u b)

pub passed : (map : Map) (r : Record) (old new : Option Gap) → IsPassed old (key_of r) new → IsGap map old → IsGap (changed_map map r) new
passed map r old None p h = tt
passed map r old (Some gap) p h =
    let come = subst (IsGap map) p.0 h in
    record { upto = come.upto; none = λ q u b. same map r gap p.1 q u b ∙ come.none q u b }

-- and if it is taken back, neither
pub passed_back : (map : Map) (r : Record) (old new : Option Gap) → IsPassed old (key_of r) new → IsGap (changed_map map r) old → IsGap map new
passed_back map r old None p h = tt
passed_back map r old (Some gap) p h =
    let come = subst (IsGap (changed_map map r)) p.0 h in
    record { upto = come.upto; none = λ q u b. sym (same map r gap p.1 q u b) ∙ come.none q u b }

-- ---- walks

inside_parts : (q : Bytes) (gap : Gap) → is_inside q gap ≡ true → UpTo gap.from q × Below q gap.to
inside_parts q gap is =
    elim (is_below q gap.from) as (λ t. is_below q gap.from ≡ t → cond t false (is_below q gap.to) ≡ true → UpTo gap.from q × Below q gap.to)
    [ true ↦ λ e no. absurd (cc) | false ↦ λ e b. (e, b) ] refl is

at_parts : (q : Bytes) (gap : Gap) → is_at q gap ≡ true → UpTo gap.from q × UpTo q gap.to
at_parts q gap is =
    elim (is_below q gap.from) as (λ t. is_below q gap.from ≡ t → cond t false (not (is_below gap.to q)) ≡ true → UpTo gap.from q × UpTo q gap.to) [
      | true ↦ λ e no. absurd (cc)
      | false ↦ λ e b. (e, must_not (is_below gap.to q) (λ t. not_both (not (is_below gap.to q)) b (ap not t)))
    ] refl is

-- a walk has come to the key at which it begins
pub come_here : (map : Map) (key : Bytes) → HasCome map key key
come_here map key = record { upto = upto-refl key; none = λ q u b. not_both (is_below q key) b u }

-- a walk from a key of the gap has come to its end
pub come_past : (map : Map) (key : Bytes) (gap : Gap) → is_inside key gap ≡ true → HasCome map gap.from gap.to → HasCome map key gap.to
come_past map key gap is come =
    let parts = inside_parts key gap is in
    record { upto = below_upto key gap.to parts.1; none = λ q u b. come.none q (upto-trans gap.from key q parts.0 u) b }

-- a gap goes on with a walk that begins in it, or at its end
pub come_grown : (map : Map) (key to : Bytes) (gap : Gap) → is_at key gap ≡ true → HasCome map gap.from gap.to → HasCome map key to
    → HasCome map gap.from to
come_grown map key to gap is old come =
    let parts = at_parts key gap is in
    record {
      upto = upto-trans gap.from key to parts.0 come.upto;
      none = λ q u b. elim (is_below q key) as (λ t. is_below q key ≡ t → finite.get map q ≡ None)
          [ true ↦ λ t. old.none q u (below-upto q key gap.to t parts.1) | false ↦ λ t. come.none q t b ] refl;
    }

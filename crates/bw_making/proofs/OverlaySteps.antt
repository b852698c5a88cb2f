-- What blocks do to a page that they neither make nor split.

use Rattle.std.proofs.Common.{◌≡◌, ℕ, Bool, true, false, Option, Some, None, List, [], ◌∷◌, ◌++◌}
use Rattle.std.proofs.Common.{refl, sym, ap, ◌∙◌, if◌then◌else◌}
use Rattle.std.specs.Prelude.{◌==◌, ◌||◌}
use Rattle.std.specs.List.{fold}
use Rattle.std.proofs.lemmas.Bool.{or_parts}
use Rattle.std.proofs.lemmas.Grind.{fold-append}
use Rattle.bw_record.specs.declared.leaf.Leaf.{Leaf}
use Rattle.bw_record.specs.declared.block.Block.{Block}
use Rattle.bw_record.specs.declared.block.Block.TheVariants.{Delta, Base, Split}
use Rattle.bw_leaf.specs.Changed.{changed, all_changed}
use Rattle.bw_leaf.specs.Forwards.{after}
use Rattle.bw_making.specs.Share.{ops_at}
use Rattle.bw_making.specs.Overlay.{is_made}

pub over_overlay : (p : ℕ) (below : Leaf) (blocks : List Block) → is_made p blocks ≡ false
    → fold (after p) (Some below) blocks ≡ Some (all_changed (ops_at p blocks) below)
over_overlay p below [] e = refl
over_overlay p below (Delta page back ops ∷ bs) e =
    elim (page == p) as (λ b. fold (after p) (if b then Some (all_changed ops below) else Some below) bs
    ≡ Some (all_changed ((if b then ops else []) ++ ops_at p bs) below)) [
      | true ↦ over_overlay p (all_changed ops below) bs e ∙ ap Some (sym (fold-append (λ l r. changed r l) below ops (ops_at p bs)))
      | false ↦ over_overlay p below bs e
    ]
over_overlay p below (Base leaf ∷ bs) e = (let parts = or_parts (leaf.page == p) (is_made p bs) e in rw parts.0 (over_overlay p below bs parts.1))
over_overlay p below (Split page back upper ∷ bs) e =
    (let parts = or_parts ((page == p) || (upper.page == p)) (is_made p bs) e in
    let apart = or_parts (page == p) (upper.page == p) parts.0 in
    rw (apart.0, apart.1) (over_overlay p below bs parts.1))

none_by : (t : Bool) → ◌≡◌ {A = Option Leaf} (if t then None else None) None
none_by true = refl
none_by false = refl

pub never_made : (p : ℕ) (blocks : List Block) → is_made p blocks ≡ false → fold (after p) None blocks ≡ None
never_made p [] e = refl
never_made p (Delta page back ops ∷ bs) e = ap (λ (w : Option Leaf). fold (after p) w bs) (none_by (page == p)) ∙ never_made p bs e
never_made p (Base leaf ∷ bs) e = (let parts = or_parts (leaf.page == p) (is_made p bs) e in rw parts.0 (never_made p bs parts.1))
never_made p (Split page back upper ∷ bs) e =
    (let parts = or_parts ((page == p) || (upper.page == p)) (is_made p bs) e in
    let apart = or_parts (page == p) (upper.page == p) parts.0 in
    rw (apart.0, apart.1) (never_made p bs parts.1))

use Rattle.std.proofs.Common.{◌≡◌, ◌∙◌, ◌++◌, ◌∷◌, [], ap, sym, subst, OnOk, Some, ℕ, List, length}
use Rattle.std.specs.List.{flat_map}
use Rattle.bw_record.specs.declared.leaf.Leaf.{Leaf}
use Rattle.bw_record.specs.declared.block.Block.TheVariants.{Base}
use Rattle.bw_codec.specs.Grammar.{pair_bytes_in}
use Rattle.bw_codec.specs.Lent.{base_parts}
use Rattle.bw_codec.proofs.Format.{found}
use Rattle.bw_codec.proofs.Lending.{base_spelled}
use Rattle.bw_lines.specs.Reading.{AreLines}
use Rattle.bw_found.specs.Lent.{ArePairs, IsBaseAfter}
use Rattle.bw_found.proofs.links.read_base_at.Goals as goal

abbrev Parts : Type 0
Parts = (ℕ × List ℕ × ℕ) × List ℕ

parts : (v m : ℕ) (leaf : Leaf) (bytes : List ℕ) (got : Parts) (after : IsBaseAfter v m leaf bytes) → base_parts v bytes ≡ Some got
    → got ≡ ((leaf.page, leaf.low, length leaf.pairs), flat_map (pair_bytes_in v) leaf.pairs ++ after.rest)
parts v m leaf bytes got after gives =
    found (sym gives ∙ ap (base_parts v) after.there ∙ base_spelled v m leaf after.rest after.small after.lawful)

are_pairs : (v m : ℕ) (leaf : Leaf) (bytes : List ℕ) (got : Parts) (after : IsBaseAfter v m leaf bytes) → base_parts v bytes ≡ Some got
    → ArePairs v got.0.2 got.1 leaf.pairs
are_pairs v m leaf bytes got after gives =
    let p = parts v m leaf bytes got after gives in
    record {
      count_is = ap (λ (g : Parts). g.0.2) p;
      each = after.lawful.pairs;
      rest = after.rest;
      there = ap (λ (g : Parts). g.1) p;
    }

pub returns-in_ok-leaf-in-Ok : goal.returns-in_ok-leaf-in-Ok
returns-in_ok-leaf-in-Ok c m leaf after =
    let got : Parts = ((c.in-Ok.page, c.in-Ok.low.now, c.in-Ok.count), c.in-Ok.bytes.now) in
    let p = parts c.args.version m leaf c.args.bytes.now got after c.in-Ok.ensures.gives in
    let low = c.of-low.ensures ∙ c.in_ok-from_slice-in-Ok.ensures.items ∙ ap (λ (g : Parts). g.0.1) p in
    let made : c.in_ok-leaf-in-Ok.leaf ≡ leaf =
    c.in_ok-leaf-in-Ok.ensures leaf.pairs (are_pairs c.args.version m leaf c.args.bytes.now got after c.in-Ok.ensures.gives)
    ∙ (λ t. record { page = (p t).0.0; low = low t; pairs = leaf.pairs }) in
    subst (λ (l : Leaf). OnOk c.read_base.result (AreLines c.args.lines.now ((c.args.place, Base l) ∷ []) c.read_base.new.lines)) made c.read_base.ensures

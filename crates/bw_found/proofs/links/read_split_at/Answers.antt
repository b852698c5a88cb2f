use Rattle.std.proofs.Common.{◌≡◌, ◌∙◌, ◌++◌, ap, sym, Some, ℕ, List, length}
use Rattle.std.specs.List.{flat_map}
use Rattle.bw_record.specs.declared.block.Place.{Place}
use Rattle.bw_record.specs.declared.leaf.Leaf.{Leaf}
use Rattle.bw_record.specs.declared.block.Block.TheVariants.{Split}
use Rattle.bw_codec.specs.Grammar.{pair_bytes_in}
use Rattle.bw_codec.specs.Lent.{split_parts}
use Rattle.bw_codec.proofs.Format.{found}
use Rattle.bw_codec.proofs.Lending.{split_spelled}
use Rattle.bw_log.specs.Places.{fault_at}
use Rattle.bw_lines.proofs.LinksRead.{set_linked}
use Rattle.bw_found.specs.Lent.{ArePairs, IsSplitAfter}
use Rattle.bw_found.proofs.links.read_split_at.Goals as goal

abbrev Parts : Type 0
Parts = (ℕ × Place × List ℕ × ℕ × ℕ) × List ℕ

parts : (v m page : ℕ) (back : Place) (upper : Leaf) (bytes : List ℕ) (got : Parts) (after : IsSplitAfter v m page back upper bytes)
    → split_parts v bytes ≡ Some got
    → got ≡ ((page, back, upper.low, upper.page, length upper.pairs), flat_map (pair_bytes_in v) upper.pairs ++ after.rest)
parts v m page back upper bytes got after gives =
    found (sym gives ∙ ap (split_parts v) after.there ∙ split_spelled v m page back upper after.rest after.small after.lawful)

are_pairs : (v m page : ℕ) (back : Place) (upper : Leaf) (bytes : List ℕ) (got : Parts) (after : IsSplitAfter v m page back upper bytes)
    → split_parts v bytes ≡ Some got → ArePairs v got.0.4 got.1 upper.pairs
are_pairs v m page back upper bytes got after gives =
    let p = parts v m page back upper bytes got after gives in
    record {
      count_is = ap (λ (g : Parts). g.0.4) p;
      each = after.lawful.makes.pairs;
      rest = after.rest;
      there = ap (λ (g : Parts). g.1) p;
    }

pub returns-in-Some-clause-fault : goal.returns-in-Some-clause-fault
returns-in-Some-clause-fault c m page back upper done after read =
    let got : Parts = ((c.in-Ok.page, c.in-Ok.back, c.in-Ok.low.now, c.in-Ok.made, c.in-Ok.count), c.in-Ok.bytes.now) in
    let p = parts c.args.version m page back upper c.args.bytes.now got after c.in-Ok.ensures.gives in
    (λ t. fault_at c.args.first done (sym p t).0.0 (sym p t).0.1) ∙ sym (c.in-Some.ensures done read)

pub returns-in_ok-read_split-in-None-clause-ok : goal.returns-in_ok-read_split-in-None-clause-ok
returns-in_ok-read_split-in-None-clause-ok c m page back upper done after read =
    let got : Parts = ((c.in-Ok.page, c.in-Ok.back, c.in-Ok.low.now, c.in-Ok.made, c.in-Ok.count), c.in-Ok.bytes.now) in
    let p = parts c.args.version m page back upper c.args.bytes.now got after c.in-Ok.ensures.gives in
    let low = c.of-low.ensures ∙ c.in_ok-from_slice-in-None.ensures.items ∙ ap (λ (g : Parts). g.0.2) p in
    let made : c.in_ok-upper-in-None.upper ≡ upper =
    c.in_ok-upper-in-None.ensures upper.pairs (are_pairs c.args.version m page back upper c.args.bytes.now got after c.in-Ok.ensures.gives)
    ∙ (λ t. record { page = (p t).0.3; low = low t; pairs = upper.pairs }) in
    set_linked c.args.first done c.args.lines.now c.read_split.new.lines c.args.place (Split page back upper)
    (Split c.in-Ok.page c.in-Ok.back c.in_ok-upper-in-None.upper) (λ t. Split (sym p t).0.0 (sym p t).0.1 (sym made t))
    (sym (c.in-None.ensures done read)) (c.in_ok-read_split-in-None.ensures c.in-Ok.back) read

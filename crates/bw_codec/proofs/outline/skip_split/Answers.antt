use Rattle.std.proofs.Common.{◌≡◌, ℕ, Some, List, refl}
use Rattle.bw_record.specs.declared.block.Place.{Place}
use Rattle.bw_codec.specs.Reading.{page_at, place_at}
use Rattle.bw_codec.specs.Skipping.{upper_after, split_after}
use Rattle.bw_codec.proofs.outline.skip_split.Goals as goal

-- a split, its page, its link back and its new page one after the other
stepped_over : (v page made : ℕ) (back : Place) (bytes first second third : List ℕ) → page_at bytes ≡ Some (page, first)
    → place_at first ≡ Some (back, second) → (upper_after v) second ≡ Some (made, third) → (split_after v) bytes ≡ Some ((page, Some made), third)
unfolding split_after
stepped_over v page made back bytes first second third at_page at_back at_upper = rw (at_page, at_back, at_upper) refl

pub returns-clause-gives : goal.returns-clause-gives
returns-clause-gives c =
    stepped_over c.args.version _ _ _ c.args.bytes.now _ _ _ c.in_ok-page.ensures.gives c.in_ok-rest.ensures.gives c.in_ok-made.ensures.gives

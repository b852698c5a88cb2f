use Rattle.std.proofs.Common.{◌≡◌, ℕ, ◌/◌, List, length, take, drop, sym, ap, ◌∙◌, arith}
use Rattle.std.specs.Prelude.{zip}
use Rattle.bw_lows.proofs.PagesBeside.{length_now, keys_beside, rest_from, long_lower, long_upper, beside_parted, some_lower, some_upper}
use Rattle.bw_lows.proofs.block.Block.split.Goals as goal

pub invariant_of-result : goal.invariant_of-result
invariant_of-result c =
    let half : ℕ = length c.as_slice.result.now / 2 in
    let lower : c.shrink_to_fit.new.self.items ≡ take half c.self.inside.entries.items = c.shrink_to_fit.ensures.items ∙ c.in_ok-entries.ensures.items in
    let first : c.shrink_to_fit-2.new.self.items ≡ take half c.self.inside.pages.items = c.shrink_to_fit-2.ensures.items ∙ c.truncate.ensures.items in
    let upper : c.in_ok-entries.entries.items ≡ drop half c.self.inside.entries.items = c.in_ok-entries.ensures.tail in
    let last : c.in_ok-pages.pages.items ≡ drop half c.self.inside.pages.items =
    c.in_ok-pages.ensures.items ∙ rest_from c.deref.result.now half ∙ ap (λ (r : List ℕ). drop half r) c.deref.ensures.value in
    let long = long_upper c.self.inside.entries.items _ _ c.self.inside.pages.items _ _ half c.self.invariant.long lower upper first last in
    record {
      long = long;
      row = c.of-row.ensures (zip c.in_ok-entries.entries.items c.in_ok-pages.pages.items) (keys_beside _ _ long ∙ sym c.as_slice-3.ensures.value);
    }

pub invariant_of-self-2 : goal.invariant_of-self-2
invariant_of-self-2 c =
    let half : ℕ = length c.as_slice.result.now / 2 in
    let lower : c.shrink_to_fit.new.self.items ≡ take half c.self.inside.entries.items = c.shrink_to_fit.ensures.items ∙ c.in_ok-entries.ensures.items in
    let first : c.shrink_to_fit-2.new.self.items ≡ take half c.self.inside.pages.items = c.shrink_to_fit-2.ensures.items ∙ c.truncate.ensures.items in
    let upper : c.in_ok-entries.entries.items ≡ drop half c.self.inside.entries.items = c.in_ok-entries.ensures.tail in
    let last : c.in_ok-pages.pages.items ≡ drop half c.self.inside.pages.items =
    c.in_ok-pages.ensures.items ∙ rest_from c.deref.result.now half ∙ ap (λ (r : List ℕ). drop half r) c.deref.ensures.value in
    let long = long_lower c.self.inside.entries.items _ _ c.self.inside.pages.items _ _ half c.self.invariant.long lower upper first last in
    record {
      long = long;
      row = c.of.ensures (zip c.shrink_to_fit.new.self.items c.shrink_to_fit-2.new.self.items) (keys_beside _ _ long ∙ sym c.as_slice-2.ensures.value);
    }

pub returns-clause-all : goal.returns-clause-all
returns-clause-all c =
    let half : ℕ = length c.as_slice.result.now / 2 in
    let lower : c.shrink_to_fit.new.self.items ≡ take half c.self.inside.entries.items = c.shrink_to_fit.ensures.items ∙ c.in_ok-entries.ensures.items in
    let first : c.shrink_to_fit-2.new.self.items ≡ take half c.self.inside.pages.items = c.shrink_to_fit-2.ensures.items ∙ c.truncate.ensures.items in
    let upper : c.in_ok-entries.entries.items ≡ drop half c.self.inside.entries.items = c.in_ok-entries.ensures.tail in
    let last : c.in_ok-pages.pages.items ≡ drop half c.self.inside.pages.items =
    c.in_ok-pages.ensures.items ∙ rest_from c.deref.result.now half ∙ ap (λ (r : List ℕ). drop half r) c.deref.ensures.value in
    beside_parted c.self.inside.entries.items _ _ c.self.inside.pages.items _ _ half c.self.invariant.long lower upper first last ∙ c.self.view_is

pub returns-clause-lower : goal.returns-clause-lower
returns-clause-lower c =
    let half : ℕ = length c.as_slice.result.now / 2 in
    let lower : c.shrink_to_fit.new.self.items ≡ take half c.self.inside.entries.items = c.shrink_to_fit.ensures.items ∙ c.in_ok-entries.ensures.items in
    let first : c.shrink_to_fit-2.new.self.items ≡ take half c.self.inside.pages.items = c.shrink_to_fit-2.ensures.items ∙ c.truncate.ensures.items in
    let upper : c.in_ok-entries.entries.items ≡ drop half c.self.inside.entries.items = c.in_ok-entries.ensures.tail in
    let last : c.in_ok-pages.pages.items ≡ drop half c.self.inside.pages.items =
    c.in_ok-pages.ensures.items ∙ rest_from c.deref.result.now half ∙ ap (λ (r : List ℕ). drop half r) c.deref.ensures.value in
    let whole = length_now _ _ _ c.self.invariant.long c.self.view_is in
    let read = ap length c.as_slice.ensures.value in
    some_lower c.self.inside.entries.items _ _ c.self.inside.pages.items _ _ half c.self.invariant.long lower upper first last (omega (arith, c.requires, whole, read)) (omega (arith, c.requires, whole))

pub returns-clause-upper : goal.returns-clause-upper
returns-clause-upper c =
    let half : ℕ = length c.as_slice.result.now / 2 in
    let lower : c.shrink_to_fit.new.self.items ≡ take half c.self.inside.entries.items = c.shrink_to_fit.ensures.items ∙ c.in_ok-entries.ensures.items in
    let first : c.shrink_to_fit-2.new.self.items ≡ take half c.self.inside.pages.items = c.shrink_to_fit-2.ensures.items ∙ c.truncate.ensures.items in
    let upper : c.in_ok-entries.entries.items ≡ drop half c.self.inside.entries.items = c.in_ok-entries.ensures.tail in
    let last : c.in_ok-pages.pages.items ≡ drop half c.self.inside.pages.items =
    c.in_ok-pages.ensures.items ∙ rest_from c.deref.result.now half ∙ ap (λ (r : List ℕ). drop half r) c.deref.ensures.value in
    let whole = length_now _ _ _ c.self.invariant.long c.self.view_is in
    let read = ap length c.as_slice.ensures.value in
    some_upper c.self.inside.entries.items _ _ c.self.inside.pages.items _ _ half c.self.invariant.long lower upper first last (omega (arith, c.requires, whole, read))

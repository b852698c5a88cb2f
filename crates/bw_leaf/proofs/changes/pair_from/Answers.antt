use Rattle.std.proofs.Common.{◌≡◌, ◌∙◌, sym, ap, Some, get_or, slice_get, ℕ}
use Rattle.std.proofs.lemmas.Option.{slice_get-get_or, slice_get_past}
use Rattle.bw_leaf.specs.Changed.{Bytes, Pairs}
use Rattle.bw_leaf.specs.Seek.{seek_of, end_of}
use Rattle.bw_leaf.specs.Above.{pair_above}
use Rattle.bw_leaf.proofs.Sought.{pair_sought}
use Rattle.bw_leaf.proofs.changes.pair_from.Goals as goal

pub returns-then-at-pairs : goal.returns-then-at-pairs
returns-then-at-pairs c =
    let at : c.end_of-at.result ≡ end_of (seek_of c.args.key.now c.args.leaf.now.pairs) =
    c.end_of-at.ensures ∙ ap end_of (c.find_key.ensures.found ∙ ap (λ (k : Bytes). seek_of k c.args.leaf.now.pairs) c.as_slice.ensures.value) in
    let got : (d : Bytes × Bytes) → Some (get_or c.as_slice-pairs.result.now c.end_of-at.result d) ≡ pair_above c.args.key.now c.args.leaf.now.pairs =
    λ d. sym (slice_get-get_or c.as_slice-pairs.result.now c.end_of-at.result d c.if-at-pairs.true)
    ∙ ap (λ (ps : Pairs). slice_get ps c.end_of-at.result) c.as_slice-pairs.ensures
    ∙ ap (λ (n : ℕ). slice_get c.args.leaf.now.pairs n) at
    ∙ pair_sought c.args.key.now c.args.leaf.now.pairs in
    let one : c.index-pairs-at.result ≡ get_or c.as_slice-pairs.result.now c.end_of-at.result c.index-pairs-at.result = c.index-pairs-at.is in
    let two : c.index-pairs-at-then-at-pairs.result ≡ get_or c.as_slice-pairs.result.now c.end_of-at.result c.index-pairs-at.result =
    let other = got c.index-pairs-at-then-at-pairs.result in
    let first = got c.index-pairs-at.result in
    let is = c.index-pairs-at-then-at-pairs.is in cc in
    (λ i. Some ((c.to_key.ensures ∙ ap (λ (p : Bytes × Bytes). p.0) one) i, (c.to_value.ensures ∙ ap (λ (p : Bytes × Bytes). p.1) two) i))
    ∙ got c.index-pairs-at.result

pub returns : goal.returns
returns c =
    let at : c.end_of-at.result ≡ end_of (seek_of c.args.key.now c.args.leaf.now.pairs) =
    c.end_of-at.ensures ∙ ap end_of (c.find_key.ensures.found ∙ ap (λ (k : Bytes). seek_of k c.args.leaf.now.pairs) c.as_slice.ensures.value) in
    sym (slice_get_past c.as_slice-pairs.result.now c.end_of-at.result c.if-at-pairs.false)
    ∙ ap (λ (ps : Pairs). slice_get ps c.end_of-at.result) c.as_slice-pairs.ensures
    ∙ ap (λ (n : ℕ). slice_get c.args.leaf.now.pairs n) at
    ∙ pair_sought c.args.key.now c.args.leaf.now.pairs

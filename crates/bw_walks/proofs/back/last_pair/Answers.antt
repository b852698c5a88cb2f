use Rattle.std.proofs.Common.{◌≡◌, ◌≤◌, ◌∙◌, ◌-◌, sym, ap, subst, Some, ℕ, length, get_or, arith, Result}
use Rattle.bw_leaf.specs.Changed.{Bytes, Pairs}
use Rattle.bw_leaf.specs.Seek.{seek_of}
use Rattle.bw_walks.specs.Back.{IsLastOn, count_of}
use Rattle.bw_walks.proofs.Backwards.{pair_before, last_counted, pair_there}
use Rattle.bw_walks.proofs.back.last_pair.Goals as goal

pub returns-then-count-eq0 : goal.returns-then-count-eq0
returns-then-count-eq0 c =
    let ps = c.args.leaf.now.pairs in
    let reach = c.args.reach in
    let count : c.count_within-count.result ≡ count_of (seek_of c.args.key.now ps) reach =
    c.count_within-count.ensures.count ∙ ap (λ (s : Result ℕ ℕ). count_of s reach) (c.find_key.ensures.found ∙ ap (λ (k : Bytes). seek_of k ps) c.as_slice.ensures.value) in
    let few : c.count_within-count.result ≤ length ps = omega (arith, c.count_within-count.ensures.within, ap (λ (x : Pairs). length x) c.as_slice-pairs.ensures) in
    subst (λ (n : ℕ). IsLastOn reach c.args.key.now ps (pair_before n ps)) c.if-count-eq0.true (last_counted reach c.args.key.now ps _ c.requires count few)

pub returns : goal.returns
returns c =
    let ps = c.args.leaf.now.pairs in
    let reach = c.args.reach in
    let same : c.as_slice-pairs.result.now ≡ ps = c.as_slice-pairs.ensures in
    let count : c.count_within-count.result ≡ count_of (seek_of c.args.key.now ps) reach =
    c.count_within-count.ensures.count ∙ ap (λ (s : Result ℕ ℕ). count_of s reach) (c.find_key.ensures.found ∙ ap (λ (k : Bytes). seek_of k ps) c.as_slice.ensures.value) in
    let few : c.count_within-count.result ≤ length ps = omega (arith, c.count_within-count.ensures.within, ap (λ (x : Pairs). length x) same) in
    let p = c.index-pairs-count.result in
    let there : pair_before c.count_within-count.result ps ≡ Some p =
    pair_there c.count_within-count.result ps p c.if-count-eq0.false few
    (c.index-pairs-count.is ∙ ap (λ (x : Pairs). get_or x (c.count_within-count.result - 1) p) same) in
    let pair : p ≡ (c.to_key.result, c.to_value.result) = λ i. (sym c.to_key.ensures i, sym c.to_value.ensures i) in
    subst (λ (o : _). IsLastOn reach c.args.key.now ps o) (there ∙ ap Some pair) (last_counted reach c.args.key.now ps _ c.requires count few)

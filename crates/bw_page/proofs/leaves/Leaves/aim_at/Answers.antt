use Rattle.std.proofs.Common.{◌≡◌, ◌+◌, ◌-◌, ◌≤◌, ◌∙◌, ap, sym, subst, length, arith, refl}
use Rattle.bw_record.specs.Record.{key_of}
use Rattle.bw_record.specs.declared.leaf.Leaf.{Leaf}
use Rattle.bw_leaf.specs.Changed.{Pairs, changed_pairs}
use Rattle.bw_leaf.specs.Seek.{seek_of, IsWithin, IsBetween}
use Rattle.bw_page.proofs.Hinted.{hinted_home, stands_here}
use Rattle.bw_page.proofs.Indexed.{home_within}
use Rattle.bw_page.proofs.leaves.Leaves.aim_at.Goals as goal

pub returns : goal.returns
returns c =
    let key = key_of c.args.change.now in
    let leaf = c.in-Some.leaf.now in
    let there = stands_here c.args.page c.args.self.now leaf c.in-Some.ensures in
    let sought : c.find_key-found.result ≡ seek_of key leaf.pairs =
    c.find_key-found.ensures.found ∙ ap (λ k. seek_of k leaf.pairs) c.key.ensures.value in
    let pairs : c.as_slice-pairs.result.now ≡ leaf.pairs = c.as_slice-pairs.ensures in
    let ended : IsBetween (length c.as_slice-pairs.result.now) c.find_key-found.result = c.if-not-is_between.ensures refl in
    let between : IsBetween (length leaf.pairs) (seek_of key leaf.pairs) =
    subst (IsBetween (length leaf.pairs)) sought (subst (λ (ps : Pairs). IsBetween (length ps) c.find_key-found.result) pairs ended) in
    let is = hinted_home c.args.self.now.m c.args.self.now.leaves c.args.page leaf key c.count.ensures.lawful there between in
    let within : (1 ≤ leaf.page) × (leaf.page ≤ length c.args.self.now.leaves) =
    subst (λ (l : Leaf). (1 ≤ l.page) × (l.page ≤ length c.args.self.now.leaves)) (sym is.1)
    (home_within c.args.self.now.m key c.args.self.now.leaves c.count.ensures.lawful) in
    let page : leaf.page - 1 + 1 ≡ leaf.page = omega (arith, within.0) in
    record {
      here = c.requires;
      page = page ∙ ap (λ (l : Leaf). l.page) is.1;
      within = omega (arith, within.0, within.1);
      lawful = c.key.ensures.lawful;
      pairs = c.count_packed-count.ensures ∙ ap (λ (ps : Pairs). length (changed_pairs c.args.change.now ps)) (pairs ∙ ap (λ (l : Leaf). l.pairs) is.1);
      sought = sought ∙ ap (λ (l : Leaf). seek_of key l.pairs) is.1;
      ends = subst (λ (l : Leaf). IsWithin (length l.pairs) c.find_key-found.result) is.1 c.find_key-found.ensures.within;
    }

use Rattle.std.proofs.Common.{◌≡◌, ◌+◌, ◌-◌, ◌∙◌, ap, length, arith}
use Rattle.bw_record.specs.Record.{key_of}
use Rattle.bw_record.specs.declared.leaf.Leaf.{Leaf}
use Rattle.bw_leaf.specs.Changed.{changed_pairs}
use Rattle.bw_page.specs.Leaves.{home}
use Rattle.bw_page.proofs.leaves.Leaves.aim_found.Goals as goal

pub returns : goal.returns
returns c =
    let leaf : c.home_on-leaf.result.now ≡ home (key_of c.args.change.now) c.args.self.now.leaves =
    c.home_on-leaf.ensures.home ∙ ap (λ k. home k c.args.self.now.leaves) c.key.ensures.value in
    let pairs = c.as_slice.ensures ∙ ap (λ (l : Leaf). l.pairs) leaf in
    let within = c.home_on-leaf.ensures.within in
    let page : c.home_on-leaf.result.now.page - 1 + 1 ≡ c.home_on-leaf.result.now.page = omega arith in
    record {
      here = c.requires.here;
      page = page ∙ ap (λ (l : Leaf). l.page) leaf;
      within = omega arith;
      lawful = c.key.ensures.lawful;
      pairs = c.count_packed-count.ensures ∙ ap (λ ps. length (changed_pairs c.args.change.now ps)) pairs;
      sought = c.requires.found.0;
      ends = c.requires.found.1;
    }

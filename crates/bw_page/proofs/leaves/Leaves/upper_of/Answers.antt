use Rattle.std.proofs.Common.{◌≡◌, ℕ, ◌+◌, ◌<◌, Bool, if◌then◌else◌, List, None, Some, length, sym, ap, ◌∙◌, arith}
use Rattle.std.proofs.lemmas.Bool.{lt-leb}
use Rattle.bw_record.specs.declared.leaf.Leaf.{Leaf}
use Rattle.bw_leaf.specs.Changed.{changed, changed_pairs}
use Rattle.bw_page.specs.Leaves.{home, result_of}
use Rattle.bw_leaf.specs.SplitRule.{upper_of}
use Rattle.bw_page.specs.Batch.{upper_if}
use Rattle.bw_page.specs.Shown.{Shown}
use Rattle.bw_page.proofs.leaves.Leaves.upper_of.Goals as goal

-- a leaf with too many pairs has an upper part
over_has : (m page : ℕ) (leaf : Leaf) → m < length leaf.pairs → Some (upper_of m page leaf) ≡ upper_if m page leaf
over_has m page leaf over = sym (ap (λ (b : Bool). if b then None else Some (upper_of m page leaf)) (lt-leb (length leaf.pairs) m over))

pub returns-clause-upper : goal.returns-clause-upper
returns-clause-upper c =
    let r = c.args.change.now in
    let leaves = c.args.self.now.leaves in
    let m = c.args.self.now.m in
    let home_is = c.home_on-leaf.ensures.home in
    let copied = c.in_ok-whole.ensures in
    let result_is : c.change_packed.new.leaf ≡ result_of leaves r = c.in_ok-change_packed.ensures.ok ∙ ap (changed r) (copied ∙ home_is ∙ ap (λ (k : List ℕ). home k leaves) c.key.ensures.value) in
    let counted = c.count_packed.ensures in
    let limit_is : c.self.inside.m ≡ m = ap (λ (f : Shown). f.m) c.self.view_is in
    let above = c.if-count_packed-from.false in
    let limit = c.from.ensures in
    let told = c.in-Some.ensures in
    let pages = c.count.ensures.value in
    let made : c.in-Some.made ≡ length leaves + 1 = omega arith in
    let long : length (changed_pairs r c.home_on-leaf.result.now.pairs) ≡ length (result_of leaves r).pairs =
    ap (λ (l : Leaf). length (changed r l).pairs) (home_is ∙ ap (λ (k : List ℕ). home k leaves) c.key.ensures.value) in
    let count : c.count_packed.result ≡ length (changed_pairs r c.home_on-leaf.result.now.pairs) = rw c.as_slice.ensures at counted in
    let over : m < length (result_of leaves r).pairs = omega arith in
    ap Some (c.in_ok-upper.ensures.upper ∙ ap (λ (n : ℕ). upper_of n c.in-Some.made c.change_packed.new.leaf) limit_is
    ∙ ap (λ (p : ℕ). upper_of m p c.change_packed.new.leaf) made ∙ ap (upper_of m (length leaves + 1)) result_is)
    ∙ over_has m (length leaves + 1) (result_of leaves r) over

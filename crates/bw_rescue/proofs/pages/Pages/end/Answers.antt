use Rattle.std.proofs.Common.{◌≡◌, ◌≤◌, ◌+◌, ◌∷◌, ℕ, List, length, sym, subst, arith}
use Rattle.std.specs.List.Sorted.{IsStrictlySortedBy}
use Rattle.std.specs.Map.{keys_of}
use Rattle.std.specs.Ordering.{nat_cmp}
use Rattle.bw_record.specs.declared.leaf.Leaf.{Leaf}
use Rattle.bw_rescue.specs.declared.pages.Line.{Line}
use Rattle.bw_rescue.proofs.PagesEnd.{Found, found, found_one, sorted_rest, AreSoFar, begins, goes_on}
use Rattle.bw_rescue.proofs.pages.Pages.end.Goals as goal

pub loop-page-init : goal.loop-page-init
loop-page-init c =
    let gives = c.into_iter-page-iterator.ensures.into_iter_gives in
    record {
      sorted = subst (λ (es : List (ℕ × Line)). IsStrictlySortedBy nat_cmp (keys_of es)) (sym gives.0) gives.5;
      there = subst (λ (es : List (ℕ × Line)). Found c.args.self.lines es) (sym gives.0) (found c.args.self.lines gives.5);
      more = omega arith;
      pages = λ done read none same. subst (λ (es : List (ℕ × Line)). AreSoFar done (length c.args.self.lines.entries) es 1 c.new-leaves.result.items) (sym gives.0)
          (begins done c.args.self.lines c.new-leaves.result.items c.new-leaves.ensures.items);
    }

pub loop-page-preserved : goal.loop-page-preserved
loop-page-preserved c =
    let parts : c.loop-page.page-iterator ≡ (c.in-Some.page, c.in-Some.line) ∷ c.next.new.self = c.in-Some.ensures.steps in
    let sorted = subst (λ (es : List (ℕ × Line)). IsStrictlySortedBy nat_cmp (keys_of es)) parts c.loop-page.invariant.sorted in
    let there = found_one c.args.self.lines c.in-Some.page c.in-Some.line c.next.new.self (subst (λ (es : List (ℕ × Line)). Found c.args.self.lines es) parts c.loop-page.invariant.there) in
    let more : length c.loop-page.losses.items ≤ length c.bring_back.new.losses.items = c.in_ok-bring_back.ensures.losses.0 in
    let before : length c.args.losses.now.items ≤ length c.loop-page.losses.items = c.loop-page.invariant.more in
    let later : c.saturating_add-next.result ≤ c.in-Some.page + 1 = (let is = c.saturating_add-next.ensures in omega arith) in
    record {
      sorted = sorted_rest c.in-Some.page c.in-Some.line c.next.new.self sorted;
      there = there.1;
      more = omega arith;
      pages = λ done read none same.
          let one : length c.loop-page.losses.items ≡ length c.args.losses.now.items = omega arith in
          let two : length c.bring_back.new.losses.items ≡ length c.loop-page.losses.items = omega arith in
          let told = c.in_ok-bring_back.ensures.losses.1 two in
          subst (λ (ls : List Leaf). AreSoFar done (length c.args.self.lines.entries) c.next.new.self c.saturating_add-next.result ls) (sym c.in_ok-bring_back.ensures.leaves)
          (goes_on done c.args.self.lines (length c.args.self.lines.entries) c.in-Some.page c.in-Some.line c.next.new.self c.loop-page.next c.saturating_add-next.result
          c.loop-page.leaves.items read none sorted there.0
          (subst (λ (es : List (ℕ × Line)). AreSoFar done (length c.args.self.lines.entries) es c.loop-page.next c.loop-page.leaves.items) parts
          (c.loop-page.invariant.pages done read none one)) told.0 told.1 later);
    }

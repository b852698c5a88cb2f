use Rattle.std.proofs.Common.{◌≡◌, ◌++◌, ◌∷◌, [], refl, sym, ap, ◌∙◌, subst, inl, arith}
use Rattle.bw_page.specs.Leaves.{home, union}
use Rattle.bw_page.specs.Ahead.{ahead}
use Rattle.bw_page.proofs.Ahead.{ahead_less}
use Rattle.bw_keys.specs.Stretches.{wanted_of}
use Rattle.bw_keys.proofs.Stretches.{IsStretchOf, whole, gone_first, gone_more, gone_whole, first_page, next_page, ahead_all, none_ahead}
use Rattle.bw_keys.proofs.pages.pages_over.Goals as goal

pub loop-init : goal.loop-init
loop-init c =
    let leaves = c.args.leaves.now.leaves in
    let span = c.args.span.now in
    let key = c.start_key-key.result in
    let few = ahead_all key leaves in
    let one : c.push.new.self.items ≡ c.find.result ∷ [] = c.in_ok-push.ensures.items ∙ ap (λ l. l ++ c.find.result ∷ []) c.new-pages.ensures.items in
    record {
      gone = (
        [],
        gone_first span leaves key c.start_key-key.ensures,
        first_page c.args.leaves.now.m leaves c.count-end.ensures.lawful span key c.find.result c.push.new.self.items c.find.ensures.directed one,
      );
      left = omega arith;
      end = c.count-end.ensures.value;
    }

pub loop-preserved : goal.loop-preserved
loop-preserved c =
    let leaves = c.args.leaves.now.leaves in
    let span = c.args.span.now in
    let m = c.args.leaves.now.m in
    let lawful = c.count-end.ensures.lawful in
    let low = c.in-Some.low in
    let next = c.in-Some.ensures.some in
    let before = c.loop.invariant.gone in
    let left = c.loop.invariant.left in
    let less = ahead_less c.loop.key low leaves next.above next.its in
    record {
      gone = (
        _,
        gone_more m leaves lawful span c.loop.key before.0 before.1 low next,
        next_page m leaves lawful span low c.find-in-loop.result c.loop.pages.items c.push-in-loop.new.self.items c.find-in-loop.ensures.directed
            c.in_ok-push-2.ensures.items ∙ ap (λ l. l ++ wanted_of span (home low leaves).pairs) before.2,
      );
      left = omega arith;
      end = c.loop.invariant.end;
    }

pub returns-in_default : goal.returns-in_default
returns-in_default c =
    let leaves = c.args.leaves.now.leaves in
    let span = c.args.span.now in
    let before = c.loop.invariant.gone in
    whole c.args.leaves.now.m leaves c.count-end.ensures.lawful span c.loop.pages.items
    (subst (IsStretchOf (union leaves) span) (sym before.2)
    (gone_whole c.args.leaves.now.m leaves c.count-end.ensures.lawful span c.loop.key before.0 before.1 (c.in_default.ensures.none refl)))

pub returns : goal.returns
returns c =
    let leaves = c.args.leaves.now.leaves in
    let span = c.args.span.now in
    let before = c.loop.invariant.gone in
    let left = c.loop.invariant.left in
    let end = c.loop.invariant.end in
    let all = c.loop-test.false in
    let last : ahead c.loop.key leaves ≡ 0 = omega arith in
    whole c.args.leaves.now.m leaves c.count-end.ensures.lawful span c.loop.pages.items
    (subst (IsStretchOf (union leaves) span) (sym before.2)
    (gone_whole c.args.leaves.now.m leaves c.count-end.ensures.lawful span c.loop.key before.0 before.1 (inl (none_ahead c.loop.key leaves last))))

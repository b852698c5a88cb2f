use Rattle.std.proofs.Common.{◌≤◌, ap, subst, arith, length, List}
use mathlib.Core.List.{IsPrefix}
use Rattle.bw_versions.specs.Batches.{BatchData}
use Rattle.bw_versions.proofs.Fronts.{prefix_shorter}
use Rattle.bw_versions.proofs.book.Front.has.Goals as goal

pub returns-then-other-self : goal.returns-then-other-self
returns-then-other-self c =
    let mine = c.self.inside.seen.log in
    let theirs = c.other.inside.seen.log in
    let both = c.learn.new.self.log in
    let this : IsPrefix mine both = subst (λ (l : List BatchData). IsPrefix l both) (ap (λ s. s.log) c.again-both.ensures) c.learn.ensures.2 in
    let less : length theirs ≤ length mine = omega (arith, c.self.invariant, c.other.invariant) in
    rw (← c.self.view_is, ← c.other.view_is) (prefix_shorter theirs mine both c.learn.ensures.3 this less)

pub returns : goal.returns
returns c =
    let mine = c.self.inside.seen.log in
    let theirs = c.other.inside.seen.log in
    let both = c.learn.new.self.log in
    let this : IsPrefix mine both = subst (λ (l : List BatchData). IsPrefix l both) (ap (λ s. s.log) c.again-both.ensures) c.learn.ensures.2 in
    let less : length mine ≤ length theirs = omega (arith, c.self.invariant, c.other.invariant) in
    rw (← c.self.view_is, ← c.other.view_is) (prefix_shorter mine theirs both this c.learn.ensures.3 less)

use Rattle.std.proofs.Common.{◌∙◌, sym}
use Rattle.bw.proofs.Prefixes.{none_ahead, from_pair, stays_within, ahead_behind}
use Rattle.bw.proofs.walk.Walk.pass.Goals as goal

pub returns-then-not-goes_over-clause-value : goal.returns-then-not-goes_over-clause-value
returns-then-not-goes_over-clause-value c = λ map at stands first.
    let walk = c.args.self.now in
    none_ahead map walk.prefix walk.place c.args.first at c.in_ok-key.key c.in_ok-key.value c.in_ok-key.was walk.within stands first
    (sym c.goes_over.ensures ∙ c.if-not-goes_over.true)

pub invariant_of-self-2 : goal.invariant_of-self-2
invariant_of-self-2 c =
    let walk = c.args.self.now in
    record { within = stays_within walk.prefix walk.place c.after-self.result c.in_ok-key.key walk.within (from_pair walk.place c.args.first _ c.in_ok-key.was c.requires) c.after-self.ensures }

pub returns-clause-passed : goal.returns-clause-passed
returns-clause-passed c =
    let walk = c.args.self.now in
    ahead_behind walk.prefix walk.place c.after-self.result c.in_ok-key.key (from_pair walk.place c.args.first _ c.in_ok-key.was c.requires) c.after-self.ensures

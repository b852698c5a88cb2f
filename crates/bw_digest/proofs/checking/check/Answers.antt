use Rattle.std.proofs.Common.{arith, length, refl}
use Rattle.bw_digest.specs.Sums.{sums_in}
use Rattle.bw_digest.proofs.Answering.{told_whole, told_misfit}
use Rattle.bw_digest.proofs.checking.check.Goals as goal

pub returns-in-Err-clause-whole : goal.returns-in-Err-clause-whole
returns-in-Err-clause-whole c =
    let told = told_misfit c.args.bytes.now (sums_in (length c.args.bytes.now) c.args.sums.now) c.in-Err.at c.in-Err.ensures.answer in
    (λ never. grind (arith, never), λ all. absurd (told.0 all.0))

pub returns-in-Err-clause-damage : goal.returns-in-Err-clause-damage
returns-in-Err-clause-damage c = (told_misfit c.args.bytes.now (sums_in (length c.args.bytes.now) c.args.sums.now) c.in-Err.at c.in-Err.ensures.answer).1

pub returns-then-to-from-clause-damage : goal.returns-then-to-from-clause-damage
returns-then-to-from-clause-damage c = (
  (told_whole c.args.bytes.now (sums_in (length c.args.bytes.now) c.args.sums.now) c.in-Ok.row c.in-Ok.ensures.answer).0,
  refl,
  c.told_end-to.ensures,
  omega arith,
)

pub returns-clause-whole : goal.returns-clause-whole
returns-clause-whole c = (
  λ _. (
    (told_whole c.args.bytes.now (sums_in (length c.args.bytes.now) c.args.sums.now) c.in-Ok.row c.in-Ok.ensures.answer).0,
    omega (arith, c.told_end-to.ensures),
  ),
  λ _. refl,
)

pub returns-clause-row : goal.returns-clause-row
returns-clause-row c = (told_whole c.args.bytes.now (sums_in (length c.args.bytes.now) c.args.sums.now) c.in-Ok.row c.in-Ok.ensures.answer).1

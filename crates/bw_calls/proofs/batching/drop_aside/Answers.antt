use Rattle.std.proofs.Common.{inl, ◌≡◌, [], ◌∷◌}
use Rattle.bw_record.specs.declared.record.Record.TheVariants.{Del}
use Rattle.bw_calls.proofs.BatchLaws.{aside_goes, stays_by}
use Rattle.bw_calls.proofs.batching.drop_aside.Goals as goal

pub returns-clause-stays : goal.returns-clause-stays
returns-clause-stays g c = λ lawful begins.
    let is : c.one.result ≡ Del c.args.key ∷ [] = c.one.ensures in
    stays_by _ _ c.one.result c.prepare.result lawful (aside_goes _ c.args.key c.one.result lawful begins is) c.prepare.ensures.changed c.prepare.ensures.refused

pub returns-clause-leaves : goal.returns-clause-leaves
returns-clause-leaves g c = λ lawful begins ts among stops.
    let is : c.one.result ≡ Del c.args.key ∷ [] = c.one.ensures in
    c.prepare.ensures.leaves ts (_, among, inl (aside_goes _ c.args.key c.one.result lawful begins is)) stops

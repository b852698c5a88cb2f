use Rattle.std.proofs.Common.{inl, ◌≡◌, [], ◌∷◌}
use Rattle.bw_record.specs.declared.record.Record.TheVariants.{Del}
use Rattle.bw_rows.specs.Spelling.{gone_key}
use Rattle.bw_calls.proofs.PlainLaws.{itself, kept_by, wrote}
use Rattle.bw_calls.proofs.NameLaws.{forgets, forgot_asides}
use Rattle.bw_calls.proofs.naming.forget.Goals as goal

pub returns-clause-stays : goal.returns-clause-stays
returns-clause-stays g c = λ lawful may.
    let is : c.one.result ≡ Del (gone_key c.args.table.bytes) ∷ [] = rw (c.one.ensures, c.gone_key.ensures) in
    let done = forgets _ c.args.table.bytes c.one.result is lawful may in
    kept_by _ _ _ _ (itself _ lawful) done (wrote c.prepare.result _ _ _ c.prepare.ensures.changed c.prepare.ensures.refused)

pub returns-clause-leaves : goal.returns-clause-leaves
returns-clause-leaves g c = λ lawful may ts among stops.
    let is : c.one.result ≡ Del (gone_key c.args.table.bytes) ∷ [] = rw (c.one.ensures, c.gone_key.ensures) in
    let done = forgets _ c.args.table.bytes c.one.result is lawful may in
    c.prepare.ensures.leaves ts (_, among, inl done) stops

pub returns-clause-asides : goal.returns-clause-asides
returns-clause-asides g c =
    let is : c.one.result ≡ Del (gone_key c.args.table.bytes) ∷ [] = rw (c.one.ensures, c.gone_key.ensures) in
    forgot_asides _ _ c.args.table.bytes c.one.result c.prepare.result is c.prepare.ensures.changed c.prepare.ensures.refused

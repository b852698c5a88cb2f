use Rattle.std.proofs.Common.{◌≡◌, [], ◌∷◌, length, refl, sym, subst, rules}
use Rattle.bw_record.specs.declared.record.Record.TheVariants.{Del}
use Rattle.bw_rows.specs.Spelling.{chunk_key, chunk_place}
use Rattle.bw_calls.proofs.PlainLaws.{dropped}
use Rattle.bw_calls.proofs.LeaveLaws.{after_chunk}
use Rattle.bw_calls.proofs.NameLaws.{marks_after}
use Rattle.bw_tables.specs.Calls.{KeepsMarks}
use Rattle.bw_calls.proofs.collecting.drop_chunk.Goals as goal

pub returns-clause-stays : goal.returns-clause-stays
returns-clause-stays g c = λ lawful doomed.
    let is : c.one.result ≡ Del (chunk_key (chunk_place c.args.number.bytes c.args.i)) ∷ [] = rw (c.one.ensures, c.chunk_key.ensures) in
    let wide : length c.args.number.bytes ≡ 8 = search rules in
    dropped _ _ c.args.number.bytes c.args.i c.one.result c.prepare.result wide is lawful doomed c.prepare.ensures.changed c.prepare.ensures.refused

pub returns-clause-leaves : goal.returns-clause-leaves
returns-clause-leaves g c = λ lawful doomed ts among stops.
    let is : c.one.result ≡ Del (chunk_key (chunk_place c.args.number.bytes c.args.i)) ∷ [] = rw (c.one.ensures, c.chunk_key.ensures) in
    let wide : length c.args.number.bytes ≡ 8 = search rules in
    c.prepare.ensures.leaves ts (after_chunk ts _ c.args.number.bytes c.args.i c.one.result wide is lawful doomed among) stops

pub returns-clause-marks : goal.returns-clause-marks
returns-clause-marks g c =
    let is : c.one.result ≡ Del (chunk_key (chunk_place c.args.number.bytes c.args.i)) ∷ [] = rw (c.one.ensures, c.chunk_key.ensures) in
    marks_after _ _ c.one.result c.prepare.result (subst KeepsMarks (sym is) (record { names = λ p name. refl; gone = λ p t. refl; asides = λ p k. refl })) c.prepare.ensures.changed c.prepare.ensures.refused

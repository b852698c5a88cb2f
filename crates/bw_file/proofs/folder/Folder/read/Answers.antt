use Rattle.std.proofs.Common.{◌∙◌, ap, sym, map, refl, length, [], ◌∷◌}
use Rattle.std.proofs.lemmas.List.{map-append}
use Rattle.bw_digest.specs.Rows.{reach}
use Rattle.bw_file.specs.FileHolding.{owed_of, owes}
use Rattle.bw_file.proofs.Waiting.{waits_too}
use Rattle.bw_file.proofs.folder.Folder.read.Goals as goal

pub returns-clause-waits : goal.returns-clause-waits
returns-clause-waits g c =
    let its = owes {F = g.row.F.Denot} in
    let old = c.args.self.now.waiting.items in
    let fits = c.in_ok-row.ensures.whole.0 refl in
    waits_too c.args.lease c.in_ok-bytes.bytes.items c.in_ok-told.told.items c.deref.result.now c.deref-2.result.now c.deref-3.result.now
    c.len.result (reach c.in_ok-row.row) (owed_of c.args.lease c.in_ok-owed.owed) (map its old) (map its c.push.new.self.items)
    c.deref.ensures.value c.deref-2.ensures.value c.deref-3.ensures.value
    fits.0 fits.1 c.in_ok-row.ensures.row (c.len.ensures ∙ sym c.deref-2.ensures.len ∙ ap length c.deref-2.ensures.value) (c.in_ok-owed.ensures.owed c.args.lease)
    (ap (λ l. map its l) c.in-Ok.ensures.items ∙ map-append its old (_ ∷ []))

use Rattle.bw_device.proofs.Boxed.{appends_at}
use Rattle.bw_device.proofs.boxes.append_to.Goals as goal

pub returns-clause-changed : goal.returns-clause-changed
returns-clause-changed g c =
    appends_at _ c.args.piece.now c.args.all.now.items c.args.i c.index_mut.result.now c.append_one.new.one c.append_one.result c.requires.inside
    c.index_mut.ensures.value c.append_one.ensures

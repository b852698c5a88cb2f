use Rattle.std.proofs.Common.{◌∙◌, ap, sym}
use Rattle.std.specs.Prelude.{Ok, Err, insert}
use Rattle.std.proofs.lemmas.Result.{on_ok_weaker}
use Rattle.bw_leaf.specs.Changed.{Pairs}
use Rattle.bw_leaf.specs.Hollow.{blank}
use Rattle.bw_leaf.proofs.Seeking.{sought_at}
use Rattle.bw_leaf.proofs.Valued.{sought_key}
use Rattle.bw_leaf.proofs.hollow.Hollow.put.Goals as goal

pub returns-in-Ok-clause-ok : goal.returns-in-Ok-clause-ok
returns-in-Ok-clause-ok c =
    let found = sym c.in-Ok.is ∙ c.find.ensures.found in
    on_ok_weaker c.set.result (λ is. is ∙ (sought_at c.args.key.now c.args.self.now (Ok c.in-Ok.at) found).0 (blank c.args.size))
    (c.set.ensures.ok c.args.key.now (sought_key c.args.key.now c.args.self.now c.in-Ok.at found))

pub returns-in_ok-pack-in-Err-clause-ok : goal.returns-in_ok-pack-in-Err-clause-ok
returns-in_ok-pack-in-Err-clause-ok c =
    let found = sym c.in-Err.is ∙ c.find.ensures.found in
    on_ok_weaker c.insert.result
    (λ is. is ∙ ap (λ (ps : Pairs). insert ps c.in-Err.at (c.args.key.now, blank c.args.size)) c.pack.ensures
    ∙ (sought_at c.args.key.now c.args.self.now (Err c.in-Err.at) found).0 (blank c.args.size)) c.insert.ensures.ok

use Rattle.std.proofs.Common.{List, [], sym, subst}
use Rattle.bw_record.specs.declared.record.Record.{Record}
use Rattle.bw_keys.specs.Loading.{queues, Puts}
use Rattle.bw_keys.proofs.Loading.{offered}
use Rattle.bw_keys.proofs.load.Load.queue.Goals as goal

pub returns-in-Ok-clause-puts : goal.returns-in-Ok-clause-puts
returns-in-Ok-clause-puts g c = subst (λ (w : List Record). Puts (queues c.args.home.now) (queues c.offer.new.self) [] w c.args.group) (sym c.requires.empty)
    (offered c.args.home.now.feeds.items c.offer.new.self.feeds.items c.args.group c.in-Ok.ensures.added)

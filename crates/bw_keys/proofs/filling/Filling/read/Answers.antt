use Rattle.bw_keys.specs.declared.fault.KeysFault.{KeysFault}
use Rattle.bw_keys.proofs.AsRead.{got_one, read_one}
use Rattle.bw_keys.proofs.filling.Filling.read.Goals as goal

pub returns-in-Ok-Some-clause-read : goal.returns-in-Ok-Some-clause-read
returns-in-Ok-Some-clause-read g c = λ idle given same.
    read_one given (g.S.Records.given c.args.self.now.records) (g.S.Records.given c.next_record.new.self) c.in-Ok-Some.item
    c.in_ok-accept-in-Ok-Some.field-0 c.args.self.now.held c.accept.new.self (c.in_ok-accept-in-Ok-Some.ensures idle)
    (got_one KeysFault _ _ _ _ c.in-Ok-Some.field-0-is c.in-Ok-Some.ensures.given) same

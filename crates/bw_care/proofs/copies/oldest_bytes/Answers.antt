use Rattle.bw_care.specs.Views.{seen}
use Rattle.bw_care.proofs.ReadAhead.{oldest_read}
use Rattle.bw_care.proofs.copies.oldest_bytes.Goals as goal

pub returns-in-Ok-clause-bytes : goal.returns-in-Ok-clause-bytes
returns-in-Ok-clause-bytes g c =
    oldest_read (seen c.args.log.now (λ b. (goal.Segment-dyn g b).holding b.1)) c.in-Some.segment c.in-Some.field-0-1 c.in-Some.len c.new-bytes.result.items
    c.dump.new.out.items c.in-Ok.field-0 c.in-Some.ensures c.new-bytes.ensures.items
    c.in-Ok.ensures.found

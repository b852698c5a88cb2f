use Rattle.std.proofs.Common.{sym, ap}
use Rattle.bw_codec.specs.declared.head.HeaderRead.TheVariants as heading
use Rattle.bw_care.proofs.HeadersRead.{heading_told}
use Rattle.bw_reading.specs.Calls.{number_told}
use Rattle.bw_reading.proofs.bw_number_in.Goals as goal

pub returns-in-Whole : goal.returns-in-Whole
returns-in-Whole c =
    sym (ap number_told (heading_told c.args.bytes.now (heading.Whole c.in-Whole.header) (λ i. (c.type_inv.bytes i).fits) c.in-Whole.ensures))

pub returns-in-Part : goal.returns-in-Part
returns-in-Part c = sym (ap number_told (heading_told c.args.bytes.now heading.Part (λ i. (c.type_inv.bytes i).fits) c.in-Part.ensures))

pub returns-in-Bad : goal.returns-in-Bad
returns-in-Bad c = sym (ap number_told (heading_told c.args.bytes.now heading.Bad (λ i. (c.type_inv.bytes i).fits) c.in-Bad.ensures))

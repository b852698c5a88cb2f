use Rattle.std.proofs.Common.{sym, subst}
use Rattle.bw_codec.specs.Grammar.{IsHeading}
use Rattle.bw_codec.proofs.Heading.{heading_is}
use Rattle.bw_codec.proofs.decoder.read_header.Goals as goal

pub returns : goal.returns
returns c = subst (IsHeading c.args.bytes.now) (sym c.heading.ensures) (heading_is c.args.bytes.now (λ i. (c.type_inv.bytes i).fits))

use Rattle.std.proofs.Common.{◌≡◌, false, sym, subst}
use Rattle.bw_record.specs.Keys.{is_below}
use Rattle.bw_record.proofs.Order.{UpTo, upto-refl}
use Rattle.bw_leaf.specs.Changed.{Bytes}
use Rattle.bw.proofs.Prefixes.{upto_begins}
use Rattle.bw.proofs.walk.Walk.over.Goals as goal

pub invariant_of-result : goal.invariant_of-result
invariant_of-result c = record { within = subst (λ (k : Bytes). is_below k c.args.prefix ≡ false) (sym c.copy.ensures) (upto-refl c.args.prefix) }

pub returns : goal.returns
returns c = λ q. (λ ahead. ahead.0, λ b. (b, subst (λ (k : Bytes). UpTo k q) (sym c.copy.ensures) (upto_begins c.args.prefix q b)))

use Rattle.bw_rows.proofs.OrderLaws.{order, apart, back}
use Rattle.bw_rows.proofs.laws.the_order_is_kept.Goals as goal

pub returns : goal.returns
returns c = record { order = order; apart = apart; back = back }

use Rattle.bw_page.proofs.Bases.{seat_leaf, seat_base}
use Rattle.bw_page.proofs.seats.Seats.base_length.Goals as goal

pub base_length-requires : goal.base_length-requires
base_length-requires c =
    seat_base c.self.inside c.args.self.now c.self.view_is c.args.at c.index.result.now c.requires.within c.index.ensures c.requires.lawful

pub returns-clause-value : goal.returns-clause-value
returns-clause-value c =
    rw (seat_leaf c.self.inside c.args.self.now c.self.view_is c.args.at c.index.result.now c.requires.within c.index.ensures) c.base_length.ensures.value

use Rattle.bw_core.specs.Views.{away_in}
use Rattle.bw_core.proofs.FollowMore.{group_more_by, none_more_by, group_fault}
use Rattle.bw_core.proofs.RoundsMore.{over_fault, over_none, over_some}
use Rattle.bw_core.proofs.store.Core.take_more.Goals as goal

pub returns-in-Ok-Some-clause-turned : goal.returns-in-Ok-Some-clause-turned
returns-in-Ok-Some-clause-turned g c = λ first x.
    group_more_by c.args.lane c.in-Ok-Some.records c.take_from.new.self.intake.lanes.items (away_in c.take_from.new.self) first _ _ _
    c.in-Ok-Some.field-0-is x c.in-Ok-Some.ensures.leaves

pub returns-in-Ok-None-clause-turned : goal.returns-in-Ok-None-clause-turned
returns-in-Ok-None-clause-turned g c = λ first x.
    none_more_by c.args.lane c.take_from.new.self.intake.lanes.items (away_in c.take_from.new.self) first _ _ _ c.in-Ok-None.field-0-is x
    c.in-Ok-None.ensures.leaves

pub returns-in-Err-clause-turned : goal.returns-in-Err-clause-turned
returns-in-Err-clause-turned g c = λ first x. group_fault c.args.lane _ _ first _ _ c.in-Err.cause x c.in-Err.ensures.leaves

pub returns-in-Ok-Some-clause-rounds : goal.returns-in-Ok-Some-clause-rounds
returns-in-Ok-Some-clause-rounds g c = λ first_lanes first rounds x.
    over_some c.args.lane c.in-Ok-Some.records (away_in c.take_from.new.self) first_lanes first _ _ _ _ _
    c.in-Ok-Some.field-0-is c.in-Ok-Some.ensures.leaves c.in-Ok-Some.ensures.takes.knows x

pub returns-in-Ok-None-clause-rounds : goal.returns-in-Ok-None-clause-rounds
returns-in-Ok-None-clause-rounds g c = λ first_lanes first rounds x.
    over_none c.args.lane (away_in c.take_from.new.self) first_lanes first _ _ _ _ _
    c.in-Ok-None.field-0-is c.in-Ok-None.ensures.leaves c.in-Ok-None.ensures.takes.knows c.in-Ok-None.ensures.takes.dry x

pub returns-in-Err-clause-rounds : goal.returns-in-Err-clause-rounds
returns-in-Err-clause-rounds g c = λ first_lanes first rounds x. over_fault c.args.lane _ first_lanes first _ _ _ _ c.in-Err.cause c.in-Err.ensures.leaves x

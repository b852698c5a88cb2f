use Rattle.std.proofs.Common.{rules}
use Rattle.std.proofs.lemmas.List.Sorted.{IsPartitionPoint-from_clause}
use Rattle.bw_reading.specs.Calls.{is_below_at}
use Rattle.bw_reading.proofs.Led.{parted, first_there, last_there}
use Rattle.bw_reading.proofs.bw_first_at.Goals as goal

pub returns-clause-first : goal.returns-clause-first
returns-clause-first c parted =
    IsPartitionPoint-from_clause (is_below_at c.args.image.now c.args.key.now) c.args.starts.now c.partition_point.result
    c.partition_point.ensures.partitioned parted (λ a r f' h. search rules)

pub returns-clause-parts : goal.returns-clause-parts
returns-clause-parts c map is =
    IsPartitionPoint-from_clause (is_below_at c.args.image.now c.args.key.now) c.args.starts.now c.partition_point.result
    c.partition_point.ensures.partitioned (parted c.args.key.now map c.args.image.now c.args.starts.now is) (λ a r f' h. search rules)

pub returns-clause-least : goal.returns-clause-least
returns-clause-least c map is some =
    first_there c.args.key.now map c.args.image.now c.args.starts.now c.partition_point.result is some c.partition_point.ensures.bound
    (IsPartitionPoint-from_clause (is_below_at c.args.image.now c.args.key.now) c.args.starts.now c.partition_point.result
    c.partition_point.ensures.partitioned (parted c.args.key.now map c.args.image.now c.args.starts.now is.index) (λ a r f' h. search rules))

pub returns-clause-before : goal.returns-clause-before
returns-clause-before c map is =
    last_there c.args.key.now map c.args.image.now c.args.starts.now c.partition_point.result is c.partition_point.ensures.bound
    (IsPartitionPoint-from_clause (is_below_at c.args.image.now c.args.key.now) c.args.starts.now c.partition_point.result
    c.partition_point.ensures.partitioned (parted c.args.key.now map c.args.image.now c.args.starts.now is.index) (λ a r f' h. search rules))

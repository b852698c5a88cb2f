use Rattle.bw_file.proofs.Paid.{told_done, told_stopped}
use Rattle.bw_file.proofs.paying.tell.Goals as goal

pub returns-in-Some-clause-asked : goal.returns-in-Some-clause-asked
returns-in-Some-clause-asked g c =
    told_done c.write_sums.result c.args.counted c.args.sum c.in-Some.sum c.to_bytes.result c.args.asked.now.value c.write_sums.new.asked.value
    c.in-Some.is c.to_bytes.ensures c.write_sums.ensures

pub returns-in-Some-clause-stopped : goal.returns-in-Some-clause-stopped
returns-in-Some-clause-stopped g c =
    told_stopped c.write_sums.result c.args.counted c.args.sum c.in-Some.sum c.to_bytes.result c.args.asked.now.value c.write_sums.new.asked.value
    c.in-Some.is c.to_bytes.ensures c.write_sums.ensures

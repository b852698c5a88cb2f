use Rattle.bw_pairs.proofs.WholeLines as lines
use Rattle.bw_pairs.proofs.JsonLines as objects
use Rattle.bw_pairs.proofs.laws.pairs_are_lines.Goals as goal

pub returns : goal.returns
returns c = record { tabs = lines.tabs; csv = lines.csv; dumps = lines.dumps; json = objects.json }

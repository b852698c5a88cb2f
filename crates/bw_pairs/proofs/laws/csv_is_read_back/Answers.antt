use Rattle.bw_pairs.proofs.CsvLaws as laws
use Rattle.bw_pairs.proofs.laws.csv_is_read_back.Goals as goal

pub returns : goal.returns
returns c = laws.csv

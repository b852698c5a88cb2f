use Rattle.bw_rows.proofs.NameLaws.{create_law, drop_law, gone_row_law, gone_law, nothing_law}
use Rattle.bw_rows.proofs.laws.tables_come_and_go.Goals as goal

pub returns : goal.returns
returns c = record { create = create_law; drop = drop_law; gone_row = gone_row_law; gone = gone_law; nothing = nothing_law }

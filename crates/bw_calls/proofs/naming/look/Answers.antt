use Rattle.bw_calls.proofs.NameLaws.{looked_none, looked_some}
use Rattle.bw_calls.proofs.PlainLaws.{ok_map}
use Rattle.bw_calls.proofs.naming.look.Goals as goal

pub returns-in-None-clause-looked : goal.returns-in-None-clause-looked
returns-in-None-clause-looked g c = looked_none _ c.args.at.now c.args.table.bytes _ c.in-None.is c.in_ok-key.ensures.value

pub returns-in-Some-clause-looked : goal.returns-in-Some-clause-looked
returns-in-Some-clause-looked g c =
    ok_map c.judge.result (λ looked judged. looked_some _ c.args.at.now c.args.table.bytes c.in-Some.key c.in-Some.row c.as_slice.result.now _ looked
    c.in-Some.is c.in_ok-key.ensures.value c.as_slice.ensures.value judged) c.judge.ensures.judges

use Rattle.std.proofs.Common.{not, rules, tests}
use Rattle.std.specs.Char.{is_control}
use Rattle.std.proofs.lemmas.Iterator.{YieldsList-from_chars}
use Rattle.std.proofs.lemmas.Iterator.Search.{all_from_yields_List}
use Rattle.bw_pairs.proofs.spelling.has_no_control.Goals as goal

pub returns : goal.returns
returns c =
    all_from_yields_List (λ l. not (is_control l)) _ _ _ c.all.ensures.ran
    (YieldsList-from_chars c.args.text.now c.utf8.text c.chars.ensures.rest) (λ x b q k. search (rules, tests))

use Rattle.bw_pairs.proofs.WordLaws as words
use Rattle.bw_pairs.proofs.laws.words_are_read_back.Goals as goal

pub returns : goal.returns
returns c = words.words

use Rattle.std.proofs.Common.{◌≡◌, ◌-◌}
use Rattle.std.specs.Option.{option_map}
use Rattle.bw_leaf.specs.declared.words.Word.TheVariants.{Silent}
use Rattle.bw_log.specs.Lent.{word_found, lent_word}
use Rattle.bw_log.proofs.lent.word_among.Given as goal

abbrev pub invariant-loop-i : goal.invariant-loop-i
invariant-loop-i l =
    word_found l.version l.key (lent_word (option_map (option_map (λ v. v.now)) l.word)) (l.count - l._i) l.rest ≡ word_found l.version l.key Silent l.count l.bytes

use Rattle.std.proofs.Common.{◌∙◌, sym}
use Rattle.std.specs.Option.{option_map}
use Rattle.bw_codec.specs.Lent.{record_of}
use Rattle.bw_log.specs.Lent.{lent_word}
use Rattle.bw_log.proofs.LentLoops.{word_on}
use Rattle.bw_log.proofs.lent.word_among.Goals as goal

pub loop-i-preserved : goal.loop-i-preserved
loop-i-preserved c =
    rw c.newer_of-word.ensures
    (sym (word_on c.args.version c.args.key.now (lent_word (option_map (option_map (λ v. v.now)) c.loop-i.word)) c.args.count c.loop-i._i c.loop-i.rest.now
    (record_of c.in_ok-own.own.now (option_map (λ v. v.now) c.in_ok-own.value)) c.in_ok-own.behind.now c.loop-i-test.true c.in_ok-own.ensures.gives)
    ∙ c.loop-i.invariant)

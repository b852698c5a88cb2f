use Rattle.std.proofs.Common.{subst}
use Rattle.bw_leaf.specs.Forwards.{blocks_of}
use Rattle.bw_care.specs.Ahead.{Says}
use Rattle.bw_care.proofs.SpelledAhead.{holds_oldest}
use Rattle.bw_care.proofs.copies.spell_rest.Goals as goal

pub pages_in-lines-requires : goal.pages_in-lines-requires
pages_in-lines-requires g c =
    (holds_oldest _ c.args.bytes.now.items c.deref.result.now c.requires.sound c.requires.some c.requires.oldest c.deref.ensures.value).framed

pub spell_wanted-requires-clause-says : goal.spell_wanted-requires-clause-says
spell_wanted-requires-clause-says g c =
    let holds =
    holds_oldest _ c.args.bytes.now.items c.deref.result.now c.requires.sound c.requires.some c.requires.oldest c.deref.ensures.value in
    subst (λ fs. Says (blocks_of fs) c.pages_in-lines.result) holds.frames c.pages_in-lines.ensures

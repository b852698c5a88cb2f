use Rattle.std.proofs.Common.{◌==◌, not, refl, rules}
use Rattle.std.proofs.lemmas.Fn.{filter_same}
use Rattle.bw_log.proofs.LogLeft.{left_boxes, two_boxes}
use Rattle.bw_log.proofs.log.Log.give_up_oldest.Goals as goal

pub returns : goal.returns
returns g c =
    let left = left_boxes _ _ c.args.self.now.live.items c.remove.new.self.items c.retain.new.self.items refl c.remove.ensures.items c.requires.sound
    (two_boxes _ c.args.self.now.live.items c.requires.two) c.requires.works c.requires.bases
    (filter_same _ (λ line. not (line.segment == c.args.self.now.number)) _ (λ x b f' h. search rules) _ _ c.retain.ensures.filtered) in
    let rest = left.rest in
    record { sound = left.sound; given_up = rw rest refl; counted = left.counts; stands = left.stands }

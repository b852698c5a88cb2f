use Rattle.std.proofs.Common.{◌∙◌, sym}
use Rattle.bw_segments.proofs.upgraded.upgrade_store.Goals as goal

pub print_all-requires : goal.print_all-requires
print_all-requires g c = record { sound = c.upgrade.ensures.sound; feeds = c.requires.feeds ∙ sym c.upgrade.ensures.follows.rings }

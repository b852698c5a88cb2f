use Rattle.std.proofs.Common.{◌∙◌, sym, ap, map}
use Rattle.bw_ring.specs.Ends.{ring_of_feed}
use Rattle.bw_writers.proofs.runs.drive.Goals as goal

pub returns-in-Ok : goal.returns-in-Ok
returns-in-Ok g c = record {
  sound = c.drive.ensures.sound;
  feeds =
      c.in-Ok.ensures.wrote.rings ∙ ap (λ feeds. map ring_of_feed feeds.items) c.replace-feeds.ensures.value ∙ c.requires.ready.feeds
      ∙ sym c.drive.ensures.runs.continues.base.rings;
}

pub returns-in-Err : goal.returns-in-Err
returns-in-Err g c = record {
  sound = c.drive.ensures.sound;
  feeds =
      c.in-Err.ensures.wrote.1.rings ∙ ap (λ feeds. map ring_of_feed feeds.items) c.replace-feeds.ensures.value ∙ c.requires.ready.feeds
      ∙ sym c.drive.ensures.runs.continues.base.rings;
}

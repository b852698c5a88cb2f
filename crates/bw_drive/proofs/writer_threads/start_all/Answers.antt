use Rattle.std.proofs.Common.{ap, arith, length, refl}
use Rattle.bw_drive.proofs.writer_threads.start_all.Goals as goal

pub starts-init : goal.starts-init
starts-init g c =
    let none = c.requires.empty in
    let feeds = c.from_vec-feeds.ensures.items in
    let scripts = c.from_vec-scripts.ensures.items in
    record {
      rings = rw (none, feeds) refl;
      given = rw (none, feeds) refl;
      scripts = rw (none, scripts) refl;
      count = rw (feeds, scripts) c.requires.count;
      total = omega (arith, ap length feeds, ap length none);
      room = omega (arith, ap length feeds, ap length none, c.requires.room);
    }

use Rattle.std.proofs.Common.{◌-◌, ap, length}
use Rattle.bw_log.proofs.Torn.{put_done, frame_told, next_told, next_is, some_there, last_there}
use Rattle.bw_log.proofs.log.Log.put.Goals as goal

pub returns-in-Ok : goal.returns-in-Ok
returns-in-Ok g c =
    let count = ap length c.as_slice.ensures.value in
    let told = rw c.deref.ensures.value at c.len_of-at.ensures.value in
    let grown = rw c.top.ensures at c.grow.ensures in
    let next = next_told c.frame-in-Ok.result c.checked_add-self.result c.checked_add-self.ensures in
    let number = c.frame-in-Ok.ensures.value in
    let line = rw (c.frame.ensures.value, c.of_appended.ensures) at c.push_reserved.ensures.items in
    record {
      outcome = put_done _ _ _ c.bytes-bytes.result.now (length c.as_slice.result.now - 1) c.len_of-at.result c.checked_add-self.result
          c.push_reserved.new.self.items c.grow.new.pages.items c.note_all.new.pages.items
          (some_there _ c.args.self.now.live.items c.requires.some) (last_there _ c.args.self.now.live.items (length c.as_slice.result.now) count)
          c.bytes-bytes.ensures.value c.in-Ok.ensures.changed told line grown c.note_all.ensures
          (next_is c.frame-in-Ok.result c.args.buffer.now.frame c.checked_add-self.result number next);
    }

pub returns-in-Err : goal.returns-in-Err
returns-in-Err g c =
    let count = ap length c.as_slice.ensures.value in
    let told = rw c.deref-in-Err.ensures.value at c.lease_of-lease.ensures in
    record {
      outcome = frame_told _ _ _ c.bytes-bytes.result.now c.lease_of-lease.result (length c.as_slice.result.now - 1)
          (some_there _ c.args.self.now.live.items c.requires.some) (last_there _ c.args.self.now.live.items (length c.as_slice.result.now) count)
          c.bytes-bytes.ensures.value c.in-Err.ensures.changed told;
    }

-- What a log is, through a reading of its boxes.

use Rattle.std.specs.Prelude.{ℕ, ◌+◌, ◌/◌, ◌≤◌, ◌≡◌, Bool, None, map, vec_len}
use Rattle.std.specs.Vec.{vec_capacity}
use Rattle.std.specs.declared.dyn_box.DynBox.{DynBox}
use Rattle.std.specs.declared.alloc.Global.{Global}
use Rattle.bw_device.specs.Holding.{Holding}
use Rattle.bw_log.specs.Contents.{Contents}
use Rattle.bw_log.specs.Contents as contents
use Rattle.bw_log.specs.Appends.{refusal}
use Rattle.bw_log.specs.declared.log.Log.{Log}

module _ {I : Type 0} {H : I → Type 0} where
  abbrev pub seen_by : (DynBox I Global H → Holding) → Log I H → Contents
  seen_by v l = record {
    live = map v l.live.items;
    spares = map v l.spares.items;
    m = l.m;
    f = l.f;
    number = l.number;
    old_to = l.old_to;
    is_open = l.is_open;
    is_failed = l.is_failed;
    next = l.next;
    frames = l.frames.items;
    pages = l.pages.items;
  }

  -- what every log keeps between calls
  abbrev pub IsSound : (DynBox I Global H → Holding) → Log I H → Type 0
  IsSound v l = contents.IsSound (seen_by v l)

  -- nothing but the device can refuse a frame of this length
  pub record IsReady (v : DynBox I Global H → Holding) (l : Log I H) (len : ℕ) (takes_last : Bool) : Type 0 where
    pub granted : refusal (seen_by v l) len takes_last ≡ None
    pub live : vec_len l.live + 1 ≤ vec_capacity l.live
    pub frames : vec_len l.frames + 1 ≤ vec_capacity l.frames
    pub pages : vec_len l.pages + len / 8 ≤ vec_capacity l.pages

use Rattle.std.proofs.Common.{arith}
use Rattle.bw_core.specs.Views.{kept_by}
use Rattle.bw_core.proofs.LayMore.{ahead_none, draft_done}
use Rattle.bw_core.proofs.store.Core.lay.Goals as goal

pub records-init : goal.records-init
records-init g c = record {
  stands = record { sound = c.requires.sound; next = c.requires.next; fits = (let room = c.room.ensures in omega arith); works = c.requires.works };
  ahead = ahead_none _ c.new-draft.result c.new-draft.ensures.blocks c.new-draft.ensures.rows c.new-draft.ensures.count;
}

pub returns : goal.returns
returns g c =
    draft_done (kept_by c.args.self.now (λ z. (goal.Segment-dyn g z).holding z.1)) c.args.lane c.args.records.now c.records.at c.records.draft
    (let end = c.records-test.false in let top = c.records.auto.at-end in omega arith) c.requires.room c.records.invariant.stands c.records.invariant.ahead

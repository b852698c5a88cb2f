use Rattle.bw_care.specs.Views.{seen}
use Rattle.bw_care.proofs.BasesLeave.{page_read}
use Rattle.bw_care.proofs.CleaningSteps.{read_lawful}
use Rattle.bw_care.proofs.ReadAhead.{put_told}
use Rattle.bw_care.proofs.moves.put_page.Goals as goal

pub put_all-requires-clause-lawful : goal.put_all-requires-clause-lawful
put_all-requires-clause-lawful g c =
    let log = seen c.args.log.now (λ b. (goal.Segment-dyn g b).holding b.1) in (
      read_lawful log c.args.page c.in_ok-leaf-in-None.leaf c.requires.sound
          (page_read log c.args.page c.in_ok-leaf-in-None.leaf c.requires.sound c.requires.page.0 c.requires.page.1 c.in_ok-leaf-in-None.ensures.page),
      tt,
    )

pub returns-in_ok-leaf-in-None-clause-put : goal.returns-in_ok-leaf-in-None-clause-put
returns-in_ok-leaf-in-None-clause-put g c =
    let log = seen c.args.log.now (λ b. (goal.Segment-dyn g b).holding b.1) in
    let leaf = c.in_ok-leaf-in-None.leaf in
    put_told log c.args.page leaf c.args.buffer.now c.put_all.new.self c.put_all.result c.is_ok-in-None.result
    (page_read log c.args.page leaf c.requires.sound c.requires.page.0 c.requires.page.1 c.in_ok-leaf-in-None.ensures.page)
    c.requires.unsealed c.is_ok-in-None.ensures.value
    c.put_all.ensures.added c.put_all.ensures.unchanged c.put_all.ensures.sealed c.put_all.ensures.no_room

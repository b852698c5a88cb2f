use Rattle.std.proofs.Common.{[], ◌++◌, ◌∙◌, List, IfErr, OnOk, sym, ap, subst}
use Rattle.bw_record.specs.declared.block.Frame.{Frame}
use Rattle.bw_codec.specs.declared.head.Header.{Header}
use Rattle.bw_codec.specs.declared.head.HeaderRead.TheVariants as heading
use Rattle.bw_log.specs.Places.{all_placed, bad_link}
use Rattle.bw_care.specs.Behind.{frames_behind, EndsInTail}
use Rattle.bw_lines.specs.Reading.{IsRead, LinkFaultIs}
use Rattle.bw_care.proofs.HeadersRead.{heading_told}
use Rattle.bw_care.proofs.SecondPass.{framed_header, never_headless}
use Rattle.bw_care.proofs.finding.find_segment.Goals as goal

pub find_frames-requires-clause-lawful : goal.find_frames-requires-clause-lawful
find_frames-requires-clause-lawful c =
    let head = heading_told c.args.bytes.now (heading.Whole c.in-Whole.header) (λ i. (c.type_inv.bytes i).fits) c.in-Whole.ensures in
    subst (λ (k : Header). EndsInTail k c.args.bytes.now) (framed_header c.args.bytes.now c.in-Whole.header c.requires head) c.requires.lawful

pub unreachable-requires-in-Bad : goal.unreachable-requires-in-Bad
unreachable-requires-in-Bad c =
    never_headless c.args.bytes.now c.requires (heading_told c.args.bytes.now heading.Bad (λ i. (c.type_inv.bytes i).fits) c.in-Bad.ensures)

pub returns-clause-ok : goal.returns-clause-ok
returns-clause-ok c =
    let head = heading_told c.args.bytes.now (heading.Whole c.in-Whole.header) (λ i. (c.type_inv.bytes i).fits) c.in-Whole.ensures in
    let frames = c.requires.frames
    ∙ ap (λ (k : Header). frames_behind k c.args.bytes.now) (framed_header c.args.bytes.now c.in-Whole.header c.requires head) in
    λ done read. subst (λ (fs : List Frame). OnOk c.find_frames.result (IsRead c.args.first (done ++ all_placed fs) c.find_frames.new.lines)) (sym frames)
    (c.find_frames.ensures.ok done read)

pub returns-clause-fault : goal.returns-clause-fault
returns-clause-fault c =
    let head = heading_told c.args.bytes.now (heading.Whole c.in-Whole.header) (λ i. (c.type_inv.bytes i).fits) c.in-Whole.ensures in
    let frames = c.requires.frames
    ∙ ap (λ (k : Header). frames_behind k c.args.bytes.now) (framed_header c.args.bytes.now c.in-Whole.header c.requires head) in
    λ done rest read. subst
    (λ (fs : List Frame). IfErr c.find_frames.result (LinkFaultIs (bad_link c.args.first [] (done ++ (all_placed fs ++ rest))))) (sym frames)
    (c.find_frames.ensures.fault done rest read)

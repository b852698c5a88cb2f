use Rattle.std.proofs.Common.{refl, sym, ap, ◌∙◌, subst, arith, rules}
use Rattle.bw_page.specs.Standing.{Stand}
use Rattle.bw_log.specs.Contents.{Contents, counted, IsSound}
use Rattle.bw_log.specs.Places.{first_number}
use Rattle.bw_care.specs.Recovery.{last_number}
use Rattle.bw_care.proofs.BoxesMoved.{moved, few_moved, adopted_moved}
use Rattle.bw_care.proofs.Warmed.{numbered_found}
use Rattle.bw_care.proofs.recovery.recover.Goals as goal

pub boxes_of-live-requires-clause-room : goal.boxes_of-live-requires-clause-room
boxes_of-live-requires-clause-room g c =
    let m = moved _ _ (λ n. (goal.Segment-dyn g (n.segment.vtable, n.segment.value)).holding n.segment.value) _ _ _ _ _ _ _ _ (λ n. refl)
    c.in-Ok-prepare.ensures.same c.deref.ensures.value c.in-Ok.ensures.numbered.0 c.in-Ok.ensures.spares.0 c.part-parts.ensures c.in-Ok-prepare.ensures.findings in
    few_moved _ _ c.args.boxes.items c.part-parts.result.live.items c.in-Ok-prepare.findings _ m.0 c.in-Ok-prepare.ensures.findings
    (let room = c.in-Ok.ensures.live.1 in omega (arith, c.len.ensures))

pub adopt-log-requires : goal.adopt-log-requires
adopt-log-requires g c =
    let m = moved _ _ (λ n. (goal.Segment-dyn g (n.segment.vtable, n.segment.value)).holding n.segment.value) _ _ _ _ _ _ _ _ (λ n. refl)
    c.in-Ok-prepare.ensures.same c.deref.ensures.value c.in-Ok.ensures.numbered.0 c.in-Ok.ensures.spares.0 c.part-parts.ensures c.in-Ok-prepare.ensures.findings in
    subst IsSound (sym (adopted_moved _ _ _ _ c.in-Ok-prepare.findings.tables (c.boxes_of-live.ensures ∙ m.0) m.1)) c.in-Ok-prepare.ensures.findings.sound

pub returns-in-Ok-prepare-clause-recovered : goal.returns-in-Ok-prepare-clause-recovered
returns-in-Ok-prepare-clause-recovered g c =
    let m = moved _ _ (λ n. (goal.Segment-dyn g (n.segment.vtable, n.segment.value)).holding n.segment.value) _ _ _ _ _ _ _ _ (λ n. refl)
    c.in-Ok-prepare.ensures.same c.deref.ensures.value c.in-Ok.ensures.numbered.0 c.in-Ok.ensures.spares.0 c.part-parts.ensures c.in-Ok-prepare.ensures.findings in
    let same = c.adopt-log.ensures.made ∙ adopted_moved _ _ _ _ c.in-Ok-prepare.findings.tables (c.boxes_of-live.ensures ∙ m.0) m.1 in
    let findings = c.in-Ok-prepare.ensures.findings in
    record {
      sound = c.adopt-log.ensures.sound;
      stands = subst (λ (k : Contents). Stand c.in-Ok-prepare.findings.leaves.m (counted k) c.in-Ok-prepare.findings.leaves.leaves) (sym same) findings.stands;
      first = ap (λ (k : Contents). first_number (counted k)) same ∙ findings.begins;
      last = ap (λ (k : Contents). last_number (counted k)) same ∙ findings.ends;
    }

pub returns-in-Ok-prepare-clause-live : goal.returns-in-Ok-prepare-clause-live
returns-in-Ok-prepare-clause-live g c =
    let m = moved _ _ (λ n. (goal.Segment-dyn g (n.segment.vtable, n.segment.value)).holding n.segment.value) _ _ _ _ _ _ _ _ (λ n. refl)
    c.in-Ok-prepare.ensures.same c.deref.ensures.value c.in-Ok.ensures.numbered.0 c.in-Ok.ensures.spares.0 c.part-parts.ensures c.in-Ok-prepare.ensures.findings in
    ap (λ (k : Contents). k.live) c.adopt-log.ensures.made ∙ (c.boxes_of-live.ensures ∙ m.0)

pub returns-in-Ok-prepare-clause-open : goal.returns-in-Ok-prepare-clause-open
returns-in-Ok-prepare-clause-open g c = ap (λ (k : Contents). k.is_open) c.adopt-log.ensures.made ∙ c.in-Ok-prepare.ensures.findings.opened

pub returns-in-Ok-prepare-clause-limit : goal.returns-in-Ok-prepare-clause-limit
returns-in-Ok-prepare-clause-limit g c = ap (λ (k : Contents). k.f) c.adopt-log.ensures.made ∙ c.in-Ok-prepare.ensures.findings.frame_limit

pub returns-in-Ok-prepare-clause-pairs : goal.returns-in-Ok-prepare-clause-pairs
returns-in-Ok-prepare-clause-pairs g c = ap (λ (k : Contents). k.m) c.adopt-log.ensures.made ∙ c.in-Ok-prepare.ensures.findings.page_limit

pub invariant_of-result : goal.invariant_of-result
invariant_of-result g c = record {
  follows = search rules;
  works = search rules;
  limit = search rules;
  pages = search rules;
  counts = c.in-Ok-prepare.ensures.findings.counts;
  numbered = numbered_found c.in-Ok-prepare.findings.leaves c.in-Ok-prepare.ensures.findings.away;
}

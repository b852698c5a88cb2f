use Rattle.std.proofs.Common.{List, [], ◌∷◌, ◌++◌, map, get_or, slice_get, sym, ap, subst, ◌∙◌, append_assoc, arith}
use Rattle.std.proofs.lemmas.Result.{err_from_is_err_and}
use Rattle.bw_record.specs.declared.block.Place.{Place}
use Rattle.bw_record.specs.declared.block.Block.{Block}
use Rattle.bw_device.specs.Holding.{Holding}
use Rattle.bw_log.specs.Places.{all_placed}
use Rattle.bw_log.specs.Segments.{frames_of}
use Rattle.bw_lines.specs.Reading.{IsRead}
use Rattle.bw_care.proofs.SecondPass.{stops_there, place_inside, next_ready, segment_more, segments_around}
use Rattle.bw_care.proofs.finding.read_forward.Goals as goal

pub read_box_forward-requires-clause-inside : goal.read_box_forward-requires-clause-inside
read_box_forward-requires-clause-inside g c =
    let s = c.segments.invariant.seen c.requires.0 c.requires.1 in
    let n = next_ready _ c.args.places.now c.segments.next s.1 c.segments-test.true s.3 in
    place_inside _ c.segments.boxes.items _ (get_or c.args.places.now c.segments.next 0) n.here c.segments.invariant.same n.at

pub segments-preserved : goal.segments-preserved
segments-preserved g c = record {
  within = (let less = c.segments-test.true in omega arith);
  same = c.in_ok-read_box_forward.ensures.same ∙ c.segments.invariant.same;
  seen = λ hs ready. (
      let s = c.segments.invariant.seen hs ready in
      let n = next_ready _ c.args.places.now c.segments.next s.1 c.segments-test.true s.3 in
      let there = ap (λ (l : List Holding). slice_get l (get_or c.args.places.now c.segments.next 0)) c.segments.invariant.same ∙ n.at in (
        s.0 ++ n.here ∷ [],
        n.rest,
        append_assoc s.0 (n.here ∷ []) n.rest ∙ ap (λ (l : List Holding). s.0 ++ l) (sym n.is) ∙ s.2,
        n.ready,
        subst (λ (l : List (Place × Block)). IsRead c.args.first l c.read_box_forward.new.lines) (segment_more s.0 n.here)
            (c.in_ok-read_box_forward.ensures.ok n.here (all_placed (frames_of (map (λ h. h.bytes) s.0))) there s.4),
      ));
}

pub returns-in_err-read_box_forward-clause-stops : goal.returns-in_err-read_box_forward-clause-stops
returns-in_err-read_box_forward-clause-stops g c =
    let p = err_from_is_err_and c.from_residual.result c.from_residual.ensures.1 in
    λ hs ready. rw (p.1, p.2) (
    let s = c.segments.invariant.seen hs ready in
    let n = next_ready _ c.args.places.now c.segments.next s.1 c.segments-test.true s.3 in
    let there = ap (λ (l : List Holding). slice_get l (get_or c.args.places.now c.segments.next 0)) c.segments.invariant.same ∙ n.at in
    let before = all_placed (frames_of (map (λ (h : Holding). h.bytes) s.0)) in
    let after = all_placed (frames_of (map (λ (h : Holding). h.bytes) n.rest)) in
    let all = ap (λ (l : List Holding). all_placed (frames_of (map (λ (h : Holding). h.bytes) (s.0 ++ l)))) (sym n.is)
    ∙ ap (λ (l : List Holding). all_placed (frames_of (map (λ (h : Holding). h.bytes) l))) s.2 in
    stops_there c.args.first _ _ _ _ _ c.in_err-read_box_forward.field-0.0 (segments_around s.0 n.here n.rest ∙ all) c.segments.invariant.same
    (c.in_err-read_box_forward.ensures.stops n.here before after there s.4))

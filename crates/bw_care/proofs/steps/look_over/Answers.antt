use Rattle.std.proofs.Common.{◌∙◌, ℕ, List, sym, ap, subst, arith, length, map}
use Rattle.std.proofs.lemmas.Result.{err_from_is_err_and}
use Rattle.bw_care.specs.Ordering.{IsOrder}
use Rattle.bw_care.specs.Surveying.{kind_seen, parts_seen}
use Rattle.bw_care.specs.declared.scan.Scan.{Scan}
use Rattle.bw_care.proofs.SurveyFacts.{rooms_here, rooms_are, not_large, scans_count, scans_short, pass_refuses, order_refuses}
use Rattle.bw_care.proofs.steps.look_over.Goals as goal

pub returns-in_err-scans-clause-refuses : goal.returns-in_err-scans-clause-refuses
returns-in_err-scans-clause-refuses g c =
    let p = err_from_is_err_and c.from_residual-in_err-scans.result c.from_residual-in_err-scans.ensures.1 in
    let r = rooms_here _ c.deref.result.now c.args.boxes.now.items c.in_ok-rooms.rooms.items c.deref.ensures.value c.in_ok-rooms.ensures.rooms in
    rw (p.1, p.2) (pass_refuses _ _ _ (not_large _ c.in_ok-rooms.rooms.items r.0 r.1 r.2) c.in_err-scans.ensures.stops)

pub parts_of-dropped-requires : goal.parts_of-dropped-requires
parts_of-dropped-requires g c =
    let r = rooms_here _ c.deref.result.now c.args.boxes.now.items c.in_ok-rooms.rooms.items c.deref.ensures.value c.in_ok-rooms.ensures.rooms in
    let count = scans_count _ c.in_ok-scans.scans.items c.in_ok-scans.ensures.scans in
    let size = ap (λ (l : List Scan). length l) c.deref-3.ensures.value in
    let few = r.2 in
    omega (arith, count, size, few)

pub order_of-requires-clause-rooms : goal.order_of-requires-clause-rooms
order_of-requires-clause-rooms g c =
    let r = rooms_here _ c.deref.result.now c.args.boxes.now.items c.in_ok-rooms.rooms.items c.deref.ensures.value c.in_ok-rooms.ensures.rooms in
    ap (λ (l : List ℕ). length l) c.deref-4.ensures.value ∙ r.1 ∙ sym (scans_count _ c.in_ok-scans.scans.items c.in_ok-scans.ensures.scans)

pub order_of-requires-clause-few : goal.order_of-requires-clause-few
order_of-requires-clause-few g c =
    let r = rooms_here _ c.deref.result.now c.args.boxes.now.items c.in_ok-rooms.rooms.items c.deref.ensures.value c.in_ok-rooms.ensures.rooms in
    let count = scans_count _ c.in_ok-scans.scans.items c.in_ok-scans.ensures.scans in
    let few = r.2 in
    omega (arith, count, few)

pub order_of-requires-clause-short : goal.order_of-requires-clause-short
order_of-requires-clause-short g c =
    let r = rooms_here _ c.deref.result.now c.args.boxes.now.items c.in_ok-rooms.rooms.items c.deref.ensures.value c.in_ok-rooms.ensures.rooms in
    scans_short _ c.in_ok-scans.scans.items c.in_ok-rooms.rooms.items c.in_ok-scans.ensures.scans r.0 r.1

pub returns-in_err-order-clause-refuses : goal.returns-in_err-order-clause-refuses
returns-in_err-order-clause-refuses g c =
    let p = err_from_is_err_and c.from_residual-in_err-order.result c.from_residual-in_err-order.ensures.1 in
    let r = rooms_here _ c.deref.result.now c.args.boxes.now.items c.in_ok-rooms.rooms.items c.deref.ensures.value c.in_ok-rooms.ensures.rooms in
    rw (p.1, p.2) (order_refuses _ _ c.in_ok-scans.scans.items c.deref-4.result.now c.in_err-order.field-0.0
    (not_large _ c.in_ok-rooms.rooms.items r.0 r.1 r.2) c.in_ok-scans.ensures.scans
    (c.deref-4.ensures.value ∙ rooms_are _ c.in_ok-rooms.rooms.items r.0 r.1)
    c.in_ok-scans.ensures.same c.in_err-order.ensures.fault)

pub returns-clause-found : goal.returns-clause-found
returns-clause-found g c =
    let r = rooms_here _ c.deref.result.now c.args.boxes.now.items c.in_ok-rooms.rooms.items c.deref.ensures.value c.in_ok-rooms.ensures.rooms in
    record {
      scans = c.in_ok-scans.scans.items;
      are = c.in_ok-scans.ensures.scans;
      sized = not_large _ c.in_ok-rooms.rooms.items r.0 r.1 r.2;
      kinds = c.in_ok-kinds.ensures ∙ ap (map kind_seen) c.deref-2.ensures.value;
      dropped = c.parts_of-dropped.ensures ∙ ap parts_seen c.deref-3.ensures.value;
      order = subst (λ (l : List ℕ). IsOrder c.in_ok-scans.scans.items l c.in_ok-order.order)
          (c.deref-4.ensures.value ∙ rooms_are _ c.in_ok-rooms.rooms.items r.0 r.1)
          c.in_ok-order.ensures.right;
    }

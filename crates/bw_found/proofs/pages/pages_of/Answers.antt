use Rattle.std.proofs.Common.{List, sym, ◌∙◌, ap, subst, map, length}
use Rattle.std.specs.FinMap as finite
use Rattle.bw_record.specs.declared.leaf.Leaf.{Leaf}
use Rattle.bw_page.specs.Leaves.{AreLeaves, union}
use Rattle.bw_page.specs.Seats.{numbers_from}
use Rattle.bw_page.specs.Shown.{Shown}
use Rattle.bw_lines.specs.Paging.{Rise, AreOf, leaves_in, at_line}
use Rattle.bw_lines.proofs.PagesRight.{rise_is, lawful_leaves, right_pages}
use Rattle.bw_lines.proofs.PageLines.{map_of}
use Rattle.bw_found.proofs.pages.pages_of.Goals as goal

pub wrong_among-requires : goal.wrong_among-requires
wrong_among-requires c =
    let r = c.requires.read in
    subst (Rise 0) (sym (c.deref.ensures.value ∙ c.in_ok-pages.ensures.same))
    (rise_is c.args.m r.0 c.args.lines.entries r.1 (map_of r.0 c.args.lines r.3) c.in_ok-pages.ensures.ordered)

pub found-requires-clause-lawful : goal.found-requires-clause-lawful
found-requires-clause-lawful c =
    let r = c.requires.read in
    let es = c.args.lines.entries in
    let of = map_of r.0 c.args.lines r.3 in
    let rise = rise_is c.args.m r.0 es r.1 of c.in_ok-pages.ensures.ordered in
    let none = sym (c.in_ok-page.ensures r.0 r.1 (subst (AreOf r.0) (sym (c.deref.ensures.value ∙ c.in_ok-pages.ensures.same)) of)) ∙ c.in-None.is in
    subst (AreLeaves c.args.m) (sym (c.in_ok-leaves-in-None.ensures.leaves ∙ ap leaves_in c.in_ok-pages.ensures.same))
    (lawful_leaves c.args.m r.0 es r.1 r.2 rise of none)

pub count_pairs-pairs-requires-clause-lawful : goal.count_pairs-pairs-requires-clause-lawful
count_pairs-pairs-requires-clause-lawful c =
    let r = c.requires.read in
    let es = c.args.lines.entries in
    let of = map_of r.0 c.args.lines r.3 in
    let rise = rise_is c.args.m r.0 es r.1 of c.in_ok-pages.ensures.ordered in
    let none = sym (c.in_ok-page.ensures r.0 r.1 (subst (AreOf r.0) (sym (c.deref.ensures.value ∙ c.in_ok-pages.ensures.same)) of)) ∙ c.in-None.is in
    subst (AreLeaves c.args.m) (sym (c.as_slice.ensures.value ∙ c.in_ok-leaves-in-None.ensures.leaves ∙ ap leaves_in c.in_ok-pages.ensures.same))
    (lawful_leaves c.args.m r.0 es r.1 r.2 rise of none)

pub returns-in-Some-clause-fault : goal.returns-in-Some-clause-fault
returns-in-Some-clause-fault c = λ frames laws of.
    sym (c.in_ok-page.ensures frames laws (subst (AreOf frames) (sym (c.deref.ensures.value ∙ c.in_ok-pages.ensures.same))
    (map_of frames c.args.lines of))) ∙ c.in-Some.is

pub returns-in_ok-leaves-in-None-2-clause-right : goal.returns-in_ok-leaves-in-None-2-clause-right
returns-in_ok-leaves-in-None-2-clause-right c = λ frames laws of_map.
    let es = c.args.lines.entries in
    let of = map_of frames c.args.lines of_map in
    let rise = rise_is c.args.m frames es laws of c.in_ok-pages.ensures.ordered in
    let none = sym (c.in_ok-page.ensures frames laws (subst (AreOf frames) (sym (c.deref.ensures.value ∙ c.in_ok-pages.ensures.same)) of)) ∙ c.in-None.is in
    right_pages c.args.m frames es (record { leaves = c.in_ok-leaves-in-None-2.leaves; table = c.in_ok-leaves-in-None.table; pairs = c.count_pairs-pairs.result }) laws rise of none
    (cc (c.in_ok-leaves-in-None-2.ensures))
    (cc (c.in_ok-leaves-in-None-2.ensures, c.in_ok-leaves-in-None.ensures.leaves, c.in_ok-pages.ensures.same))
    (c.in_ok-leaves-in-None.ensures.table ∙ ap (map at_line) c.in_ok-pages.ensures.same)
    (c.count_pairs-pairs.ensures
    ∙ ap (λ (ls : List Leaf). finite.len (union ls)) (c.as_slice.ensures.value ∙ sym (ap (λ (s : Shown). s.leaves) c.in_ok-leaves-in-None-2.ensures)))

pub returns-in_ok-leaves-in-None-2-clause-away : goal.returns-in_ok-leaves-in-None-2-clause-away
returns-in_ok-leaves-in-None-2-clause-away c =
    ap (λ (s : Shown). s.evicted) c.in_ok-leaves-in-None-2.ensures
    ∙ sym (ap (λ (s : Shown). numbers_from 1 (length s.leaves)) c.in_ok-leaves-in-None-2.ensures)

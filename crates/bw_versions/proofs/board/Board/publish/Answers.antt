use Rattle.std.proofs.Common.{◌≡◌, ◌++◌, ◌∙◌, List, ap, sym, subst, map}
use Rattle.std.specs.Prelude.{fold}
use Rattle.std.proofs.lemmas.List.{map-append}
use Rattle.std.proofs.lemmas.List.Sums.{fold-append}
use Rattle.bw_record.specs.declared.leaf.Leaf.{Leaf}
use Rattle.bw_record.specs.declared.record.Record.{Record}
use Rattle.bw_page.specs.Batch.{SomeIsSpent}
use Rattle.bw_leaf.specs.Changed.{Map, changed_map}
use Rattle.bw_page.specs.Leaves.{applied, union, plain}
use Rattle.bw_page.proofs.Runs.{all_here}
use Rattle.bw_page.specs.Shown.{Shown, run}
use Rattle.bw_history.specs.declared.entry.Entry.{Entry}
use Rattle.bw_history.specs.Entries.{records}
use Rattle.bw_versions.specs.Posted.{pages_of}
use Rattle.bw_versions.proofs.board.Board.publish.Goals as goal

-- entries, and then more, are one list of entries
joined : {B : Type 0} (h : B → Record → B) (b : B) (es more : List Entry) → fold h (fold h b (records es)) (records more) ≡ fold h b (records (es ++ more))
joined h b es more =
    sym (ap (fold h b) (map-append (λ (e : Entry). e.item) es more) ∙ fold-append h b (records es) (records more))

pub invariant_of-self-2 : goal.invariant_of-self-2
invariant_of-self-2 c =
    let start = c.self.inside.start.value in
    let es = map (λ s. s.value) c.self.inside.entries.items in
    let more = c.args.more.now in
    let all = c.append.ensures ∙ ap (λ ss. map (λ s. s.value) ss ++ more) c.in_ok-reserve.ensures.items in
    record {
      pages = c.in_ok-apply_all_of.ensures.ok ∙ ap (λ (f : Shown). run f (records more)) c.self.invariant.pages
          ∙ ap (λ (ls : List Leaf). let f : Shown = record start { leaves = ls } in f) (joined (applied start.m) start.leaves es more)
          ∙ ap (λ (xs : List Entry). run start (records xs)) (sym all);
      plainly = c.in_ok-apply_all_of.ensures.plain ∙ ap (λ (m : Map). fold changed_map m (records more)) c.self.invariant.plainly
          ∙ joined changed_map (union start.leaves) es more ∙ ap (λ (xs : List Entry). plain start.leaves (records xs)) (sym all);
      here = c.self.invariant.here;
    }

pub returns-clause-spent : goal.returns-clause-spent
returns-clause-spent c spent =
    c.in_ok-apply_all_of.ensures.spent
    (subst (λ (f : Shown). SomeIsSpent f (records c.args.more.now)) (sym (c.self.invariant.pages ∙ ap pages_of c.self.view_is)) spent)

pub apply_all_of-requires : goal.apply_all_of-requires
apply_all_of-requires c =
    all_here c.self.inside.leaves (records c.args.more.now) (ap (λ (f : Shown). f.evicted) c.self.invariant.pages ∙ c.self.invariant.here)

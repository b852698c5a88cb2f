use Rattle.std.proofs.Common.{◌≡◌, ◌∙◌, ◌+◌, ◌++◌, ◌∷◌, [], List, length, append_assoc, sym, ap, subst, arith}
use Rattle.bw_record.specs.declared.block.Block.{Block}
use Rattle.bw_rescue.specs.Pages.{AreRead}
use Rattle.bw_rescue.proofs.BlocksRead.{one_less, all_read}
use Rattle.bw_rescue.proofs.pages.Pages.read.Goals as goal

pub loop-block-preserved : goal.loop-block-preserved
loop-block-preserved c = record {
  read = λ done read. subst (λ (l : List Block). AreRead l c.read_block.new.self.lines) (append_assoc done c.loop-block.yielded (c.in-Some.block ∷ []))
      (c.in_ok-read_block.ensures.read (done ++ c.loop-block.yielded) (c.loop-block.invariant.read done read));
  all = append_assoc c.loop-block.yielded (c.in-Some.block ∷ []) c.next.new.self.rest.items
      ∙ ap (λ (l : List Block). c.loop-block.yielded ++ l) (sym c.in-Some.ensures.steps.0) ∙ c.loop-block.invariant.all;
  long = (let one : length c.loop-block.block-iterator.rest.items ≡ length c.next.new.self.rest.items + 1 =
      one_less c.in-Some.block c.next.new.self.rest.items c.loop-block.block-iterator.rest.items c.in-Some.ensures.steps.0 in
      let its = c.in-Some.ensures.steps.1 in let was = c.loop-block.invariant.long in omega arith);
  same = (c.in_ok-read_block.ensures.same.0 ∙ c.loop-block.invariant.same.0, c.in_ok-read_block.ensures.same.1 ∙ c.loop-block.invariant.same.1);
}

pub returns-clause-pages : goal.returns-clause-pages
returns-clause-pages c = λ done read. subst (λ (l : List Block). AreRead (done ++ l) c.loop-block.self.lines)
    (all_read c.args.frame.blocks c.loop-block.yielded c.loop-block.block-iterator.rest.items c.loop-block.block-iterator.rest.len c.loop-block.invariant.all c.loop-block.invariant.long
    c.in-None.ensures.steps.0) (c.loop-block.invariant.read done read)

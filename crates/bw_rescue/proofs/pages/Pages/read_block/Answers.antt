use Rattle.std.proofs.Common.{◌++◌, ◌∷◌, [], sym, ap, subst}
use Rattle.bw_record.specs.declared.block.Block.{Block}
use Rattle.bw_leaf.specs.Changed.{Bytes}
use Rattle.bw_leaf.specs.Forwards.{kept_below}
use Rattle.bw_rescue.specs.declared.pages.Change.TheVariants as change
use Rattle.bw_rescue.specs.Pages.{AreRead}
use Rattle.bw_rescue.proofs.BlocksRead.{on_ok, all_ok, base_read, split_read}
use Rattle.bw_rescue.proofs.pages.Pages.read_block.Goals as goal

pub returns-in-Base-clause-read : goal.returns-in-Base-clause-read
returns-in-Base-clause-read c = λ done read. on_ok c.set.result _ _
    (λ put. subst (λ (b : Block). AreRead (done ++ b ∷ []) c.set.new.self.lines) (sym c.in-Base.is)
    (base_read done c.in-Base.leaf c.args.place c.args.self.now.lines c.set.new.self.lines read put)) (all_ok c.set.result _ c.set.ensures.lines)

pub returns-in_ok-change-in-Split-clause-read : goal.returns-in_ok-change-in-Split-clause-read
returns-in_ok-change-in-Split-clause-read c = λ done read. on_ok c.set-in-Split.result _ _
    (λ put. subst (λ (b : Block). AreRead (done ++ b ∷ []) c.set-in-Split.new.self.lines) (sym c.in-Split.is)
    (split_read done c.in-Split.page c.in-Split.back c.in-Split.upper c.args.place (change.Split c.as_slice.result) c.args.self.now.lines c.change-in-Split.new.self.lines c.set-in-Split.new.self.lines read
    (λ leaf. ap (λ (s : Bytes). kept_below s leaf) c.as_slice.ensures) c.in_ok-change-in-Split.ensures.page
    (λ p isnt. c.in_ok-change-in-Split.ensures.others p isnt) put)) (all_ok c.set-in-Split.result _ c.set-in-Split.ensures.lines)

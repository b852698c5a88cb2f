use Rattle.std.proofs.Common.{◌≡◌, ◌<◌, Some, None, Result, Ok, Err, List, cond, length, subst, sym, ap, ◌∙◌, arith}
use Rattle.std.proofs.lemmas.Result.{on_ok_weaker}
use Rattle.std.specs.Prelude.{slice_set, insert, OnOk, OnErr}
use Rattle.std.specs.Ordering.{is_eq}
use Rattle.bw_lows.specs.LowHeads.{Bytes, order, page_of_low}
use Rattle.bw_lows.specs.Rows.{Low}
use Rattle.bw_lows.specs.Flat.{flat, block_at, AreBlocks}
use Rattle.bw_lows.proofs.Changed.{added_blocks, added_page}
use Rattle.bw_lows.proofs.lows.LowIndex.add.Goals as goal

-- whether the block took the low or not
either : (A B : Type 0) (r : Result A B) (blocks next new : List (List Low)) → AreBlocks blocks → AreBlocks next → OnOk r (new ≡ next)
    → OnErr r (new ≡ blocks) → AreBlocks new
either A B (Ok x) blocks next new before after ok err = subst (λ (bs : List (List Low)). AreBlocks bs) (sym ok) after
either A B (Err x) blocks next new before after ok err = subst (λ (bs : List (List Low)). AreBlocks bs) (sym err) before

pub invariant_of-self-2 : goal.invariant_of-self-2
invariant_of-self-2 c =
    let there : c.place-at.result.0 < length c.self.inside.blocks = omega (arith, c.len.ensures, c.if-at-len.false) in
    let none : page_of_low (flat c.self.inside.blocks) c.args.low.now ≡ None =
    ap (λ (lows : List Low). page_of_low lows c.args.low.now) c.self.view_is ∙ c.requires in
    either _ _ c.insert.result c.self.inside.blocks _ c.insert.new.self c.self.invariant
    (added_blocks c.args.low.now c.self.inside.blocks c.self.invariant c.place-at.result.0 c.place-at.result.1 c.place-at.ensures c.args.page there none)
    (rw c.in_ok-entry.ensures at c.insert.ensures.ok) c.insert.ensures.err

pub returns-clause-ok : goal.returns-clause-ok
returns-clause-ok c =
    let there : c.place-at.result.0 < length c.self.inside.blocks = omega (arith, c.len.ensures, c.if-at-len.false) in
    let none : page_of_low (flat c.self.inside.blocks) c.args.low.now ≡ None =
    ap (λ (lows : List Low). page_of_low lows c.args.low.now) c.self.view_is ∙ c.requires in
    on_ok_weaker c.insert.result
    (λ (e : c.insert.new.self ≡ slice_set c.self.inside.blocks c.place-at.result.0
    (insert (block_at c.self.inside.blocks c.place-at.result.0) c.place-at.result.1 (c.args.low.now, c.args.page))) (q : Bytes).
    ap (λ (blocks : List (List Low)). page_of_low (flat blocks) q) e
    ∙ added_page c.args.low.now c.self.inside.blocks c.self.invariant c.place-at.result.0 c.place-at.result.1 c.place-at.ensures c.args.page there none q
    ∙ ap (λ (lows : List Low). cond (is_eq (order q c.args.low.now)) (Some c.args.page) (page_of_low lows q)) c.self.view_is)
    (rw c.in_ok-entry.ensures at c.insert.ensures.ok)

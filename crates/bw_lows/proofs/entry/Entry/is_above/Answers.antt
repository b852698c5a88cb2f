use Rattle.std.proofs.Common.{◌≡◌, subst, sym, ap, ◌∙◌, arith}
use Rattle.bw_record.specs.Keys.{IsBytes}
use Rattle.bw_record.specs.Heads.{head}
use Rattle.bw_record.proofs.Order.{below_by_heads, upto_by_heads}
use Rattle.bw_lows.specs.LowHeads.{Bytes}
use Rattle.bw_lows.proofs.entry.Entry.is_above.Goals as goal

pub returns-then-start-self : goal.returns-then-start-self
returns-then-start-self c =
    let fits : IsBytes c.args.self.now = subst (λ (k : Bytes). IsBytes k) c.self.view_is c.self.invariant.bytes in
    let first : head c.args.self.now ≡ c.self.inside.first = ap (λ (k : Bytes). head k) (sym c.self.view_is) ∙ c.self.invariant.first in
    sym (below_by_heads c.args.key.now c.args.self.now fits (omega (arith, c.requires.start)))

pub returns-then-start-self-2 : goal.returns-then-start-self-2
returns-then-start-self-2 c =
    let first : head c.args.self.now ≡ c.self.inside.first = ap (λ (k : Bytes). head k) (sym c.self.view_is) ∙ c.self.invariant.first in
    sym (upto_by_heads c.args.self.now c.args.key.now c.requires.bytes (omega (arith, c.requires.start)))

use Rattle.std.proofs.Common.{◌≡◌, ◌≤◌, ◌-◌, true, cond, [], ◌∷◌, sym, ap, ◌∙◌, refl, arith}
use Rattle.bw_keys.specs.Spans.{is_wanted}
use Rattle.bw_keys.specs.declared.listing.Due.{Due}
use Rattle.bw_keys.proofs.Written.{one_is_written, moved}
use Rattle.bw_keys.proofs.listing.Listing.pair.Goals as goal

pub returns : goal.returns
returns g c =
    let span = c.args.self.now.span.now in
    let style = c.args.self.now.order.style in
    let key = c.args.pair.now.0 in
    let kept : is_wanted span key ≡ true = sym (c.if-not-has.ensures ∙ ap (is_wanted span) c.key-key.ensures.value) in
    let some : 1 ≤ c.args.due.left = omega (arith, c.if-due-eq0.false) in
    let none : c.args.due.passed ≡ 0 = omega (arith, c.if-due-gt0.false) in
    let next : Due = record { passed = c.args.due.passed; left = c.args.due.left - 1 } in
    moved style c.args.due next _ _ (c.args.pair.now ∷ []) _
    (one_is_written style c.args.due next _ _ c.args.pair.now some none none refl c.in_ok-write.ensures)
    (sym (ap (λ b. cond b (c.args.pair.now ∷ []) []) kept))

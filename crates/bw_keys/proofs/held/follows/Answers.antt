use Rattle.std.proofs.Common.{◌≡◌, refl, sym, ap, ◌∙◌, subst}
use Rattle.std.specs.Prelude.{Some}
use Rattle.bw_record.specs.Keys.{is_below}
use Rattle.bw_record.specs.Record.{key_of}
use Rattle.bw_keys.specs.Keyed.{Follows}
use Rattle.bw_keys.proofs.held.follows.Goals as goal

pub returns-in-Some : goal.returns-in-Some
returns-in-Some c = λ is.
    let key : key_of c.args.item.now ≡ c.in-Put.key = ap key_of c.in-Put.is in
    subst (λ l. Follows l c.replace.new.self (key_of c.args.item.now)) c.in-Some.ensures.value (
      ap (λ k. is_below c.in-Some.before k) (key ∙ sym c.as_slice-in-Some.ensures.value)
          ∙ ap (λ k. is_below k c.as_slice-in-Some.result.now) (sym c.as_slice.ensures.value)
          ∙ sym c.is_before.ensures
          ∙ is,
      c.replace.ensures.after ∙ ap Some (c.copy.ensures ∙ sym key),
    )

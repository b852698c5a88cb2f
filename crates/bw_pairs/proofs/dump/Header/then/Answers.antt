use Rattle.std.proofs.Common.{◌≡◌, true, false, codes, sym, ap, ◌∙◌}
use Rattle.std.proofs.lemmas.Bool.{cond-true, cond-false}
use Rattle.std.proofs.lemmas.Str.{is_utf8-from_IsUtf8}
use Rattle.std.specs.Str.{is_utf8, bytes_eq}
use Rattle.bw_pairs.specs.Headers.{known_by, parted_by}
use Rattle.bw_pairs.proofs.Steps.{no_text}
use Rattle.bw_pairs.proofs.dump.Header.then.Goals as goal

pub returns-in_default : goal.returns-in_default
returns-in_default c =
    let none = rw c.in_default.is at c.from_utf8.ensures.cases in
    sym (cond-false _ _ _ (no_text c.args.line.now none.0))

pub returns-in-First : goal.returns-in-First
returns-in-First c =
    let some = rw c.in-Ok.is at c.from_utf8.ensures.cases in
    let is : is_utf8 c.args.line.now ≡ true = is_utf8-from_IsUtf8 c.args.line.now some.1 in
    let first : bytes_eq c.args.line.now (codes "VERSION=3") ≡ true =
    ap (λ l. bytes_eq l (codes "VERSION=3")) (sym some.0) ∙ sym c.eq.ensures ∙ c.if-eq.true in
    sym (cond-true _ _ _ is ∙ ap (λ h. known_by h c.args.line.now) c.in-First.is ∙ cond-true _ _ _ first)

pub returns-in-First-2 : goal.returns-in-First-2
returns-in-First-2 c =
    let some = rw c.in-Ok.is at c.from_utf8.ensures.cases in
    let is : is_utf8 c.args.line.now ≡ true = is_utf8-from_IsUtf8 c.args.line.now some.1 in
    let first : bytes_eq c.args.line.now (codes "VERSION=3") ≡ false =
    ap (λ l. bytes_eq l (codes "VERSION=3")) (sym some.0) ∙ sym c.eq.ensures ∙ c.if-eq.false in
    sym (cond-true _ _ _ is ∙ ap (λ h. known_by h c.args.line.now) c.in-First-2.is ∙ cond-false _ _ _ first)

pub returns-in-Rest : goal.returns-in-Rest
returns-in-Rest c =
    let some = rw c.in-Ok.is at c.from_utf8.ensures.cases in
    let is : is_utf8 c.args.line.now ≡ true = is_utf8-from_IsUtf8 c.args.line.now some.1 in
    sym (cond-true _ _ _ is ∙ ap (λ h. known_by h c.args.line.now) c.in-Rest.is
    ∙ ap (parted_by c.in-Rest.letters) (sym some.0) ∙ sym c.with_line.ensures)

pub returns-in-End : goal.returns-in-End
returns-in-End c =
    let some = rw c.in-Ok.is at c.from_utf8.ensures.cases in
    let is : is_utf8 c.args.line.now ≡ true = is_utf8-from_IsUtf8 c.args.line.now some.1 in
    sym (cond-true _ _ _ is ∙ ap (λ h. known_by h c.args.line.now) c.in-End.is)

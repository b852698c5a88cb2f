use Rattle.std.proofs.Common.{◌≡◌, true, Ok, Err, Some, IfSome, sym, ap, ap₂, subst, ◌∙◌, rules}
use Rattle.std.specs.Result.{result_ok}
use Rattle.bw_pairs.specs.Faults.{fault_line}
use Rattle.bw_pairs.specs.Inputs.{bytes_left, line_held, line_number, longest_line}
use Rattle.bw_pairs.specs.Records.{Place, data_step, pair_came}
use Rattle.bw_pairs.specs.Readings.{place_of, IsData, IsMade, Makes}
use Rattle.bw_pairs.proofs.Steps.{with_place, number_at, value_none, value_paired, made_refused}
use Rattle.bw_pairs.proofs.Heading.{with_line}
use Rattle.bw_pairs.proofs.input.Pairs.next_data.Goals as goal

pub returns-in_err-read_data-2-clause-step : goal.returns-in_err-read_data-2-clause-step
returns-in_err-read_data-2-clause-step g c =
    let fault = c.in_err-read_data-2.field-0.0 in
    let was : c.from_residual-in_err-read_data-2.result ≡ Err fault = search rules in
    let letters = c.args.letters in
    let deletes = c.args.self.now.deletes in
    let before = place_of g.I.Read.remaining c.args.self.now.lines in
    let key = c.read_data.new.self.lines in
    let value = c.read_data-2.new.self.lines in
    let middle = place_of g.I.Read.remaining key in
    let after = place_of g.I.Read.remaining value in
    let now = c.read_data-2.new.self.form in
    let is : c.in_ok-read_data.field-0 ≡ true = search rules in
    subst (λ r. Makes r (data_step letters deletes) before now after) (sym was)
    (made_refused (fault_line fault) (λ came. IfSome before (λ place. IsMade (data_step letters deletes place) came now after))
    (with_line (fault_line fault) _ _ (λ at none.
    with_place before _ _ (λ place begins.
    value_none letters deletes place (line_held key) (line_held value) middle after now at
    (subst (λ b. IsData b (line_held key) place middle) is begins) none
    (c.read_data-2.ensures.form ∙ c.read_data.ensures.form ∙ c.requires.form))
    c.in_ok-read_data.ensures.data)
    c.in_err-read_data-2.ensures.no_end))

pub returns-in-Err-default-clause-step : goal.returns-in-Err-default-clause-step
returns-in-Err-default-clause-step g c =
    let letters = c.args.letters in
    let deletes = c.args.self.now.deletes in
    let before = place_of g.I.Read.remaining c.args.self.now.lines in
    let key = c.read_data.new.self.lines in
    let value = c.read_data-2.new.self.lines in
    let middle = place_of g.I.Read.remaining key in
    let after = place_of g.I.Read.remaining value in
    let now = c.read_data-2.new.self.form in
    let is : c.in_ok-read_data.field-0 ≡ true = search rules in
    let more : c.in_ok-read_data-2.field-0 ≡ true = search rules in
    let n = c.number-number.result in
    let m = line_number value in
    with_place before _ _ (λ place begins.
    subst (λ came. IsMade (data_step letters deletes place) came now after)
    (ap (λ k. pair_came deletes n m (result_ok k) (result_ok c.value.result)) c.in-Err-default.is-0)
    (value_paired letters deletes place (line_held key) (line_held value) middle after now n m
    (result_ok c.key-key.result) (result_ok c.value.result)
    (subst (λ b. IsData b (line_held key) place middle) is begins)
    (subst (λ b. IfSome middle (λ next. IsData b (line_held value) next after)) more c.in_ok-read_data-2.ensures.data)
    (c.read_data-2.ensures.form ∙ c.read_data.ensures.form ∙ c.requires.form)
    (λ next e. c.number-number.ensures ∙ number_at (bytes_left g.I.Read.remaining key) (line_number key) (longest_line key) next e)
    (λ next e. number_at (bytes_left g.I.Read.remaining value) (line_number value) (longest_line value) next e)
    c.key-key.ensures c.value.ensures))
    c.in_ok-read_data.ensures.data

pub returns-in-Ok-Err-clause-step : goal.returns-in-Ok-Err-clause-step
returns-in-Ok-Err-clause-step g c =
    let letters = c.args.letters in
    let deletes = c.args.self.now.deletes in
    let before = place_of g.I.Read.remaining c.args.self.now.lines in
    let key = c.read_data.new.self.lines in
    let value = c.read_data-2.new.self.lines in
    let middle = place_of g.I.Read.remaining key in
    let after = place_of g.I.Read.remaining value in
    let now = c.read_data-2.new.self.form in
    let is : c.in_ok-read_data.field-0 ≡ true = search rules in
    let more : c.in_ok-read_data-2.field-0 ≡ true = search rules in
    let n = c.number-number.result in
    let m = c.number.result in
    with_place before _ _ (λ place begins.
    subst (λ came. IsMade (data_step letters deletes place) came now after)
    (ap₂ (λ k v. pair_came deletes n m (result_ok k) (result_ok v)) c.in-Ok-Err.is-0 c.in-Ok-Err.is-1)
    (value_paired letters deletes place (line_held key) (line_held value) middle after now n m
    (result_ok c.key-key.result) (result_ok c.value.result)
    (subst (λ b. IsData b (line_held key) place middle) is begins)
    (subst (λ b. IfSome middle (λ next. IsData b (line_held value) next after)) more c.in_ok-read_data-2.ensures.data)
    (c.read_data-2.ensures.form ∙ c.read_data.ensures.form ∙ c.requires.form)
    (λ next e. c.number-number.ensures ∙ number_at (bytes_left g.I.Read.remaining key) (line_number key) (longest_line key) next e)
    (λ next e. c.number.ensures ∙ number_at (bytes_left g.I.Read.remaining value) (line_number value) (longest_line value) next e)
    c.key-key.ensures c.value.ensures))
    c.in_ok-read_data.ensures.data

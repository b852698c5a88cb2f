use Rattle.std.proofs.Common.{◌-◌, ◌<◌, Option, Some, None, List, ℕ, ap, ◌∙◌, arith}
use Rattle.std.proofs.lemmas.Bool.{le-ltb, lt-ltb}
use Rattle.std.proofs.lemmas.Result.{err_from_is_err_and}
use Rattle.bw_codec.specs.Reading.{◌>>=◌, number_at, pair_at, pairs_at}
use Rattle.bw_codec.specs.Checking.{keyed, rising_after, led_by}
use Rattle.bw_codec.proofs.Checked.{pairs_judged, pairs_many, pairs_none, led_empty, led_some}
use Rattle.bw_codec.proofs.Many.{fault_goes_on}
use Rattle.bw_codec.proofs.check.check_pairs.Goals as goal

pub returns-in_err-count-clause-gives : goal.returns-in_err-count-clause-gives
returns-in_err-count-clause-gives c =
    let p = err_from_is_err_and c.from_residual.result c.from_residual.ensures.1 in
    rw (p.1, p.2) (fault_goes_on c.in_err-count.field-0.0 (number_at 2 c.args.bytes.now) (led_by (pairs_at c.args.version c.args.m c.args.bytes.now))
    (λ none. ap led_by (pairs_none c.args.version c.args.m c.args.bytes.now none)) c.in_err-count.ensures.gives)

pub returns-then-m-count-clause-gives : goal.returns-then-m-count-clause-gives
returns-then-m-count-clause-gives c =
    ap led_by (pairs_many c.args.version c.args.m c.in_ok-count.count c.args.bytes.now c.in_ok-count.rest.now c.in_ok-count.ensures.gives
    (lt-ltb c.args.m c.in_ok-count.count c.if-m-count.true))

pub returns-then-count-eq0-clause-gives : goal.returns-then-count-eq0-clause-gives
returns-then-count-eq0-clause-gives c =
    ap led_by (pairs_judged c.args.version c.args.m c.in_ok-count.count c.args.bytes.now c.in_ok-count.rest.now c.in_ok-count.ensures.gives
    (le-ltb c.args.m c.in_ok-count.count c.if-m-count.false))
    ∙ led_empty c.args.version c.in_ok-count.count c.in_ok-count.rest.now c.if-count-eq0.true

pub returns-in_err-first-clause-gives : goal.returns-in_err-first-clause-gives
returns-in_err-first-clause-gives c =
    let p = err_from_is_err_and c.from_residual-in_err-first.result c.from_residual-in_err-first.ensures.1 in
    let some : 0 < c.in_ok-count.count = omega arith in
    rw (p.1, p.2) (fault_goes_on c.in_err-first.field-0.0 (keyed (pair_at c.args.version c.in_ok-count.rest.now))
    (led_by (pairs_at c.args.version c.args.m c.args.bytes.now))
    (λ none. ap led_by (pairs_judged c.args.version c.args.m c.in_ok-count.count c.args.bytes.now c.in_ok-count.rest.now c.in_ok-count.ensures.gives
    (le-ltb c.args.m c.in_ok-count.count c.if-m-count.false))
    ∙ led_some c.args.version c.in_ok-count.count c.in_ok-count.rest.now None some none) c.in_err-first.ensures.gives)

pub returns-in_err-rest-clause-gives : goal.returns-in_err-rest-clause-gives
returns-in_err-rest-clause-gives c =
    let p = err_from_is_err_and c.from_residual-in_err-rest.result c.from_residual-in_err-rest.ensures.1 in
    let some : 0 < c.in_ok-count.count = omega arith in
    let key = c.in_ok-first.first.now in
    rw (p.1, p.2) (fault_goes_on c.in_err-rest.field-0.0
    (rising_after c.args.version (c.in_ok-count.count - 1) key c.in_ok-first.rest.now)
    (led_by (pairs_at c.args.version c.args.m c.args.bytes.now))
    (λ none. ap led_by (pairs_judged c.args.version c.args.m c.in_ok-count.count c.args.bytes.now c.in_ok-count.rest.now c.in_ok-count.ensures.gives
    (le-ltb c.args.m c.in_ok-count.count c.if-m-count.false))
    ∙ led_some c.args.version c.in_ok-count.count c.in_ok-count.rest.now (Some (key, c.in_ok-first.rest.now)) some c.in_ok-first.ensures.gives
    ∙ ap (λ (o : Option (List ℕ)). o >>= λ after. Some (Some key, after)) none) c.in_err-rest.ensures.gives)

pub returns-clause-gives : goal.returns-clause-gives
returns-clause-gives c =
    let some : 0 < c.in_ok-count.count = omega arith in
    let key = c.in_ok-first.first.now in
    ap led_by (pairs_judged c.args.version c.args.m c.in_ok-count.count c.args.bytes.now c.in_ok-count.rest.now c.in_ok-count.ensures.gives
    (le-ltb c.args.m c.in_ok-count.count c.if-m-count.false))
    ∙ led_some c.args.version c.in_ok-count.count c.in_ok-count.rest.now (Some (key, c.in_ok-first.rest.now)) some c.in_ok-first.ensures.gives
    ∙ ap (λ (o : Option (List ℕ)). o >>= λ after. Some (Some key, after)) c.in_ok-rest.ensures.gives

use Rattle.std.proofs.Common.{◌≡◌, ◌≢◌, ◌++◌, ◌-◌, length, sym, ap, subst, ◌∙◌, rules, arith, append_assoc, length-append, IfSome, Ok, true}
use Rattle.std.proofs.lemmas.List.Elements.{All-append}
use Rattle.std.proofs.KnownBytes.{Consumes-trans}
use Rattle.bw_pairs.specs.Inputs.{front}
use Rattle.bw_pairs.proofs.Fronts.{joined, weaker}
use Rattle.bw_pairs.proofs.Kept.{kept}
use Rattle.bw_pairs.proofs.lines.read_front.Goals as goal

pub returns-then-branch-clause-line : goal.returns-then-branch-clause-line
returns-then-branch-clause-line g c =
    let (start, (done, line, less, none, read)) = c.loop.invariant in
    let (bytes, items, short, step, whole, part) = c.append_front.ensures.taken in
    let count : c.args.most - (c.len.result - c.len-start.result) ≡ c.args.most - length done =
    omega (arith, start, ap length line, length-append c.args.line.now.items done, c.len.ensures, c.len-start.ensures) in
    let last : c.append_front.result ≡ Ok true = search rules in
    let all = joined (g.R.Read.remaining c.args.input.now) (g.R.Read.remaining c.loop.input) (g.R.Read.remaining c.append_front.new.input) done bytes c.args.most read step none
    (omega arith) (subst (λ n. IfSome (g.R.Read.remaining c.loop.input) (λ left. bytes ≡ front n left)) count (whole last)) in
    let old = c.args.line.now.items in
    weaker (g.R.Read.remaining c.args.input.now) _ _ (λ left h. items ∙ ap (λ l. l ++ bytes) line ∙ append_assoc old done bytes ∙ ap (λ l. old ++ l) h.0) all

pub returns-then-branch-clause-left : goal.returns-then-branch-clause-left
returns-then-branch-clause-left g c =
    let (start, (done, line, less, none, read)) = c.loop.invariant in
    let (bytes, items, short, step, whole, part) = c.append_front.ensures.taken in
    let count : c.args.most - (c.len.result - c.len-start.result) ≡ c.args.most - length done =
    omega (arith, start, ap length line, length-append c.args.line.now.items done, c.len.ensures, c.len-start.ensures) in
    let last : c.append_front.result ≡ Ok true = search rules in
    let all = joined (g.R.Read.remaining c.args.input.now) (g.R.Read.remaining c.loop.input) (g.R.Read.remaining c.append_front.new.input) done bytes c.args.most read step none
    (omega arith) (subst (λ n. IfSome (g.R.Read.remaining c.loop.input) (λ left. bytes ≡ front n left)) count (whole last)) in
    weaker (g.R.Read.remaining c.args.input.now) _ _ (λ left h. h.1) all

pub loop-preserved : goal.loop-preserved
loop-preserved g c =
    let (start, (done, line, less, none, read)) = c.loop.invariant in
    let (bytes, items, short, step, whole, part) = c.append_front.ensures.taken in
    let more : c.append_front.result ≢ Ok true = search rules in
    let rest = part more in (
      start,
      (
        done ++ bytes,
        items ∙ ap (λ l. l ++ bytes) line ∙ append_assoc c.args.line.now.items done bytes,
        omega (arith, rest.0, length-append done bytes, start, ap length line, length-append c.args.line.now.items done, c.len.ensures, c.len-start.ensures),
        All-append (λ byte. byte ≢ 10) done bytes none rest.1,
        Consumes-trans _ _ _ _ _ read step,
      ),
    )

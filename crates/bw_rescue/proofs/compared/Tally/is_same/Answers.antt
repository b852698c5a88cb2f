use Rattle.std.proofs.Common.{◌≡◌, ◌∙◌, List, eqb-true, eq-eqb, ap, sym}
use Rattle.bw_digest.specs.Sums.{Reach}
use Rattle.bw_rescue.specs.Tallied.{Pair, tallied}
use Rattle.bw_rescue.proofs.SameTallies.{same_pairs}
use Rattle.bw_rescue.proofs.compared.Tally.is_same.Goals as goal

pub returns-then-are_one : goal.returns-then-are_one
returns-then-are_one c = λ pairs others a b.
    let count : c.count.result ≡ (tallied pairs).0.count = c.count.ensures.count ∙ ap (λ (r : Reach). r.count) a.row in
    let theirs : c.count-then-are_one.result ≡ (tallied others).0.count = c.count-then-are_one.ensures.count ∙ ap (λ (r : Reach). r.count) b.row in
    record {
      if_equal = λ same. eq-eqb c.count.result c.count-then-are_one.result (count ∙ ap (λ (l : List Pair). (tallied l).0.count) same ∙ sym theirs);
      only = λ same. same_pairs pairs others a.short b.short (sym a.last ∙ c.are_one.ensures.0 c.if-are_one.true ∙ b.last)
          (sym count ∙ eqb-true c.count.result c.count-then-are_one.result same ∙ theirs);
    }

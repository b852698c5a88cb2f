use Rattle.std.proofs.Common.{◌∙◌, refl, rules}
use Rattle.bw_leaf.specs.declared.words.Word.TheVariants.{Gone, Holds}
use Rattle.bw_log.proofs.Valued.{looks_first, heard_value, heard_on, heard_further, never_ends}
use Rattle.bw_log.proofs.Walked.{place_now, rank_less, stops_on_page}
use Rattle.bw_log.proofs.log.Log.value_back.Goals as goal

pub back-init : goal.back-init
back-init g c = record { same = refl; looks = looks_first c.args.page c.args.key.now _ c.args.start c.requires.starts }

pub hear-requires-clause-there : goal.hear-requires-clause-there
hear-requires-clause-there g c = place_now _ c.back.invariant.same c.back.invariant.looks.walk

pub returns-in-Gone-clause-value : goal.returns-in-Gone-clause-value
returns-in-Gone-clause-value g c =
    heard_value Gone (c.back.invariant.same, c.requires.sound, c.back.invariant.looks, c.in_ok-link.ensures.heard) c.in-Gone.is (λ e. cc)

pub returns-in-Holds-clause-value : goal.returns-in-Holds-clause-value
returns-in-Holds-clause-value g c =
    heard_value (Holds c.in-Holds.value) (c.back.invariant.same, c.requires.sound, c.back.invariant.looks, c.in_ok-link.ensures.heard) c.in-Holds.is (λ e. cc)

pub back-smaller : goal.back-smaller
back-smaller g c =
    rank_less c.in-Some.back c.back.place
    (heard_on c.in-Some.back (c.back.invariant.same, c.requires.sound, c.back.invariant.looks, c.in_ok-link.ensures.heard)
    c.in-Silent.is c.in-Some.is).earlier (search rules)

pub back-preserved : goal.back-preserved
back-preserved g c = record {
  same = c.in_ok-link.ensures.stops ∙ c.back.invariant.same;
  looks = heard_further c.in-Some.back (c.back.invariant.same, c.requires.sound, c.back.invariant.looks, c.in_ok-link.ensures.heard) c.in-Silent.is c.in-Some.is;
}

pub unreachable-requires : goal.unreachable-requires
unreachable-requires g c =
    never_ends (c.back.invariant.same, c.requires.sound, c.back.invariant.looks, c.in_ok-link.ensures.heard) c.in-Silent.is c.in-None.is

pub returns-in_err-link-clause-stops : goal.returns-in_err-link-clause-stops
returns-in_err-link-clause-stops g c =
    stops_on_page _ c.from_residual.result c.in_err-link.field-0.0 c.from_residual.ensures.1 c.back.invariant.same c.requires.sound c.back.invariant.looks.walk
    c.in_err-link.ensures.stops

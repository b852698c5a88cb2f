use Rattle.std.proofs.Common.{inl, inr, refl, rules, arith}
use Rattle.std.proofs.lemmas.List.{length-map}
use Rattle.bw_log.proofs.log.Log.add_segment.Goals.{then-len-ge-MAX_BOXES-via-then-len-ge-MAX_BOXES}
use Rattle.bw_log.proofs.log.Log.add_segment.Goals.{then-len-ge-MAX_BOXES-via-else-len-ge-MAX_BOXES+then-not-is_spare}
use Rattle.bw_log.proofs.log.Log.add_segment.Goals as goal

pub returns-then-len-ge-MAX_BOXES-clause-bad_config : goal.returns-then-len-ge-MAX_BOXES-clause-bad_config
returns-then-len-ge-MAX_BOXES-clause-bad_config g c =
    let s = c.args.self.now in (
      λ _. elim c.then-len-ge-MAX_BOXES.branch [
        | then-len-ge-MAX_BOXES-via-then-len-ge-MAX_BOXES w ↦
            inl (simp length-map (omega (arith, w.if-len-ge-MAX_BOXES.true, c.len.ensures, c.len-2.ensures, s.live.ok.0, s.spares.ok.0)))
        | then-len-ge-MAX_BOXES-via-else-len-ge-MAX_BOXES+then-not-is_spare w ↦ inr (search rules)
      ],
      λ _. refl,
    )

-- Why a put was refused, said of the store as it was before the call.

use Rattle.std.proofs.Common.{◌≡◌, ◌∙◌, ℕ, Bool, List, ap, length, map, subst, sym}
use Rattle.std.proofs.lemmas.List.{length-map}
use Rattle.bw_ring.specs.Ends.{accepted}
use Rattle.bw_ring.specs.declared.feed.Feed.{Feed}
use Rattle.bw_history.specs.History.{streams}
use Rattle.bw_ring.specs.declared.lane.Lane.{Lane}
use Rattle.bw_terms.specs.declared.fault.StoreFault.{StoreFault}
use Rattle.bw_core.specs.Following.{RefusedAfter, RefusedAt}
use Rattle.bw_core.specs.Kept.{Kept}
use Rattle.bw_home.specs.Reasons.{AreTaken, IsStillFull}

-- a full queue changed nothing, and then a turn was refused
pub turn_refused : (old tried new : Kept) (lanes : List Lane) (away : ℕ → Bool) (n : ℕ) (cause : StoreFault) → tried ≡ old
    → RefusedAfter n tried lanes away cause new → RefusedAt old lanes away cause new
turn_refused old tried new lanes away n cause same refused = (n, subst (λ (k : Kept). RefusedAfter n k lanes away cause new) same refused)

-- the queue was full before, and is again
pub taken_again : (old tried new last : Kept) → tried ≡ old → last ≡ new → AreTaken tried new → AreTaken old last
taken_again old tried new last same then taken = subst (λ (k : Kept). AreTaken k last) same (subst (AreTaken tried) (sym then) taken)

pub still_full : (feeds now : List Feed) (old tried new last : Kept) → tried ≡ old → last ≡ new → AreTaken tried new
    → streams 0 (length feeds) new.entries ≡ map accepted feeds → map accepted now ≡ map accepted feeds → IsStillFull now old last
still_full feeds now old tried new last same then taken all accepts =
    let many : length now ≡ length feeds = sym (length-map now accepted) ∙ ap length accepts ∙ length-map feeds accepted in
    record {
      taken = taken_again old tried new last same then taken;
      all = ap (λ (n : ℕ). streams 0 n last.entries) many ∙ ap (λ (k : Kept). streams 0 (length feeds) k.entries) then ∙ all ∙ sym accepts;
    }

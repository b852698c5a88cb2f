-- What the writing again of pages leaves, by its answer.

use Rattle.std.proofs.Common.{inr, ◌≡◌, ℕ, true, false, Result, Ok, Err, IfOk, IfErr, List, [], sym, ◌∙◌}
use Rattle.std.proofs.lemmas.Bool.{true≢false}
use Rattle.std.specs.Prelude.{◌↔◌, IsErrOf}
use Rattle.bw_record.specs.declared.leaf.Leaf.{Leaf}
use Rattle.bw_page.specs.Standing.{Stand}
use Rattle.bw_log.specs.Contents.{Contents, counted}
use Rattle.bw_log.specs.declared.fault.LogFault.{LogFault}
use Rattle.bw_log.specs.declared.fault.LogFault.TheVariants.{Failed}
use Rattle.bw_care.specs.Moving.{MovedBehind, StoppedBehind}
use Rattle.bw_care.specs.Rewriting.{RefusesRewrite}
use Rattle.bw_care.proofs.CleaningSteps.{moved_stand, stopped_stands, same_m}
use Rattle.bw_care.proofs.UpgradeMoved.{never_failed}

pub failed_none : (old new : Contents) (pages : List ℕ) (r : Result ℕ LogFault) → old.is_failed ≡ false
    → IfErr r (λ fault. StoppedBehind 0 old pages fault new) → IsErrOf r Failed ↔ (old.is_failed ≡ true)
failed_none old new pages (Ok n) works s = (λ e. cc, λ failed. absurd (true≢false (sym failed ∙ works)))
failed_none old new pages (Err fault) works s =
    (λ e. absurd (never_failed 0 old new pages fault s (let same : fault ≡ Failed = cc in same)), λ failed. absurd (true≢false (sym failed ∙ works)))

pub refused_by : (old new : Contents) (pages : List ℕ) (r : Result ℕ LogFault) → old.is_failed ≡ false
    → IfErr r (λ fault. StoppedBehind 0 old pages fault new) → IfErr r (λ fault. RefusesRewrite fault old pages new)
refused_by old new pages (Ok n) works s = tt
refused_by old new pages (Err fault) works s = inr (works, s)

pub stands_by : (old new : Contents) (pages : List ℕ) (r : Result ℕ LogFault) (leaves : List Leaf)
    → IfOk r (λ n. MovedBehind 0 old new pages [] n) → IfErr r (λ fault. StoppedBehind 0 old pages fault new)
    → Stand old.m (counted old) leaves → Stand old.m (counted new) leaves
stands_by old new pages (Ok n) leaves moved stopped stand =
    same_m 0 old new (counted new) pages [] n leaves moved (moved_stand 0 old new pages [] n leaves moved stand)
stands_by old new pages (Err fault) leaves moved stopped stand = stopped_stands 0 old new pages fault stopped leaves stand

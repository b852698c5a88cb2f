-- What is left if pages that the caller names were written again: no page changes, and no segment
-- is given up.

use Rattle.std.specs.Prelude.{ℕ, nat_le, ◌&&◌, ◌≡◌, ◌↔◌, IsErrOf, Bool, true, false, Result, Ok, Err, List, [], length}
use Rattle.std.specs.List.{list_all}
use Rattle.bw_log.specs.Contents.{Contents}
use Rattle.bw_log.specs.declared.fault.LogFault.{LogFault}
use Rattle.bw_care.specs.Moving.{MovedBehind}
use Rattle.bw_care.specs.Rewriting as care
use Rattle.bw_terms.specs.declared.fault.StoreFault.{StoreFault}
use Rattle.bw_terms.specs.declared.fault.StoreFault.TheVariants.{NoPage}
use Rattle.bw_core.specs.Cleaning.{HasMoved, HasStopped}
use Rattle.bw_core.specs.Emptied.{Behind, WhereSome}
use Rattle.bw_terms.specs.Told.{fault_of}
use Rattle.bw_core.specs.Kept.{Kept}

-- whether each of these numbers is one of so many pages
abbrev pub are_pages : ℕ → List ℕ → Bool
are_pages count pages = list_all (λ p. nat_le 1 p && nat_le p count) pages

-- the pages, in a store in which nothing waits: they were written, or some frames were added and
-- then a step was refused
abbrev pub RewriteMoves : Kept → List ℕ → Result ℕ StoreFault → Kept → Type 0
RewriteMoves old pages (Ok frames) new = HasMoved old frames old.floor (λ (log : Contents). MovedBehind 0 old.log log pages [] frames) new
RewriteMoves old pages (Err fault) new = (cause : LogFault) × (fault ≡ fault_of cause) × HasStopped old (care.RefusesRewrite cause old.log pages) new

-- the numbers are looked at first
abbrev pub RewriteLeaves : Kept → List ℕ → Result ℕ StoreFault → Kept → Type 0
RewriteLeaves old pages result new =
    WhereSome (are_pages (length old.filed.leaves) pages ≡ true) (are_pages (length old.filed.leaves) pages ≡ false) NoPage
    (Behind (λ s r t. RewriteMoves s pages r t)) old result new

-- it was refused NoPage exactly if one of the numbers is no page's
abbrev pub TellsNoPage : Kept → List ℕ → Result ℕ StoreFault → Type 0
TellsNoPage s pages result = IsErrOf result NoPage ↔ (are_pages (length s.filed.leaves) pages ≡ false)

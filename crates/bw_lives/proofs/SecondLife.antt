-- The boxes of a store, handed on to its second life, or refused.

use Rattle.std.proofs.Common.{◌≡◌, Err, List, [], ◌++◌, map, ap, ◌∙◌, subst}
use Rattle.std.proofs.lemmas.List.{map-append}
use Rattle.bw_device.specs.Holding.{Holding}
use Rattle.bw_log.specs.Contents.{boxes}
use Rattle.bw_care.specs.Found.{Refuses}
use Rattle.bw_care.specs.Recovery.{recovery}
use Rattle.bw_lines.specs.declared.cause.RecoverCause.{RecoverCause}
use Rattle.bw_lines.specs.declared.cause.RecoverCause.TheVariants.{NoMemory, BadConfig, Device, Spent, Empty, BadBytes, Gap, Mixed, BadLink, Unlawful}
use Rattle.bw_core.specs.Kept.{IsSound, Kept}
use Rattle.bw_core.specs.Reopened.{Begins}
use Rattle.bw_core.proofs.Relived.{none_of}
use Rattle.bw_lives.specs.Lives.{IsUnfound}

-- all boxes, the live ones before the spares
pub joined : {A : Type 0} (v : A → Holding) (none live spares some all : List A) (held more : List Holding) → none ≡ [] → some ≡ none ++ live
    → all ≡ some ++ spares → map v live ≡ held → map v spares ≡ more → map v all ≡ held ++ more
joined {A} v none live spares some all held more empty first second a b =
    ap (λ (l : List A). map v l) second ∙ map-append v some spares
    ∙ ap (λ (l : List Holding). l ++ map v spares)
    (ap (λ (l : List A). map v l) first ∙ map-append v none live ∙ ap (λ (l : List A). map v l ++ map v live) empty ∙ a)
    ∙ ap (λ (l : List Holding). held ++ l) b

-- a store that begins over all boxes
pub begins_over_all : (held all : List Holding) (new : Kept) → held ≡ all → Begins held new → Begins all new
begins_over_all held all new same begins = subst (λ (hs : List Holding). Begins hs new) same begins

-- only an empty store has boxes that are not recovered
told_wrong : (old : Kept) (cause : RecoverCause) → IsSound old → recovery (boxes old.log) ≡ Err cause → cause ≡ Empty
told_wrong old cause h refused = (none_of old cause h refused).0

unfound : (old : Kept) (cause : RecoverCause) (back : List Holding) → IsSound old → Refuses (boxes old.log) cause back → IsUnfound old cause
unfound old NoMemory back h r = tt
unfound old (Device lease) back h r = tt
unfound old Spent back h r = tt
unfound old Empty back h r = (let none = none_of old Empty h r.0 in (none.1, none.2))
unfound old BadConfig back h r = (let wrong = told_wrong old BadConfig h r.0 in absurd cc)
unfound old (BadBytes segment at) back h r = (let wrong = told_wrong old (BadBytes segment at) h r.0 in absurd cc)
unfound old Gap back h r = (let wrong = told_wrong old Gap h r.0 in absurd cc)
unfound old Mixed back h r = (let wrong = told_wrong old Mixed h r.0 in absurd cc)
unfound old (BadLink page) back h r = (let wrong = told_wrong old (BadLink page) h r.0 in absurd cc)
unfound old (Unlawful page) back h r = (let wrong = told_wrong old (Unlawful page) h r.0 in absurd cc)

-- a refusal of all boxes is one of a log's
pub refused_as : {A : Type 0} (v : A → Holding) (all back : List A) (old : Kept) (cause : RecoverCause) → IsSound old
    → map v all ≡ boxes old.log → Refuses (map v all) cause (map v back) → Refuses (boxes old.log) cause (map v back) × IsUnfound old cause
refused_as v all back old cause h same refuses =
    let told = subst (λ (held : List Holding). Refuses held cause (map v back)) same refuses in
    (told, unfound old cause (map v back) h told)

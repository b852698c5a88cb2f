-- After an opening nothing is left half done.

use Rattle.std.proofs.Common.{◌∙◌}
use Rattle.std.specs.Prelude.{Result, Ok, Err, OnOk}
use Rattle.bw_rows.specs.Meaning.{Plain}
use Rattle.bw_rows.specs.Laws.{IsLawful}
use Rattle.bw_rows.specs.Batches.{HasNoAside}
use Rattle.bw_rows.proofs.NameLaws.{nothing_law}
use Rattle.bw_calls.specs.Changes.{HasNoneGone, HasSameAsides, HasSameMarks, IsClean, IsFinished, IsOfTables}

-- by the map that was settled, the one whose gone tables were cleared, and the last
pub all_finished : {A E : Type 0} (p q new : Plain) (r : Result A E) → HasNoAside p → HasSameAsides p q → HasNoneGone q → OnOk r (HasSameMarks q new) → OnOk r (IsClean new)
    → OnOk r (IsFinished new)
all_finished p q new (Ok x) none same gone marks clean = record {
  clean = clean;
  gone = λ t. marks.gone t ∙ gone t;
  asides = λ k. marks.asides k ∙ same.asides k ∙ none k;
}
all_finished p q new (Err e) none same gone marks clean = tt

pub all_of_tables : {A E : Type 0} (q new : Plain) (r : Result A E) → IsLawful new → HasNoneGone q → OnOk r (HasSameMarks q new) → OnOk r (IsOfTables new)
all_of_tables q new (Ok x) lawful gone marks = λ k there. nothing_law new k lawful (λ t. marks.gone t ∙ gone t) there
all_of_tables q new (Err e) lawful gone marks = tt

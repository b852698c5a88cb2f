-- What a list of batches comes to, and one batch more.
use Rattle.std.proofs.Common.{◌≡◌, List, [], ◌∷◌, ◌++◌, Option, Some, fold, ap, sym, ◌∙◌, append_assoc}
use Rattle.std.proofs.lemmas.List.{append-nil}
use Rattle.bw_page.specs.Shown.{Shown}
use Rattle.bw_history.specs.declared.entry.Entry.{Entry}
use Rattle.bw_versions.specs.Batches.{BatchData, entries_of}
use Rattle.bw_versions.specs.Posted.{brings, begun}
use Rattle.bw_versions.specs.Laws.{AreJoined}

-- more batches bring only their entries
pub onward : (start : Shown) (es : List Entry) (bs : List BatchData) → fold brings (begun (Some start) es) bs ≡ begun (Some start) (es ++ entries_of bs)
onward start es [] = ap (begun (Some start)) (sym (append-nil es))
onward start es (b ∷ bs) = onward start (es ++ b.entries) bs ∙ ap (begun (Some start)) (append_assoc es b.entries (entries_of bs))

pub joined : AreJoined
joined b bs start e = ap (λ (s : Option Shown). fold brings (begun s b.entries) bs) e ∙ onward start b.entries bs

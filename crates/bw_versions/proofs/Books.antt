-- Steps that only add batches keep the rule.
use Rattle.std.proofs.Common.{◌≡◌, ◌≢◌, ℕ, List, [], ◌∷◌, ◌++◌, Option, Some, None, Result, Ok, Err, MatchResult, fold}
use Rattle.std.proofs.Common.{slice_set, refl, ap, sym, ◌∙◌, subst, ⊎_elim}
use mathlib.Core.List.{IsPrefix}
use mathlib.Core.Option.{some}
use lib.ListN.{get_elem?}
use Rattle.crossbeam_utils.specs.Register.{TurnsAt, Admits, Forks, Merges}
use Rattle.atomic_table.proofs.Lists.{at_set, at_snoc}
use Rattle.bw_versions.specs.Reach.{Reach}
use Rattle.bw_versions.specs.VersionData.{VersionData}
use Rattle.bw_versions.specs.Heard.{Beyond}
use Rattle.bw_versions.specs.Keeping.{Fits, Keeps, Sees, Follows, applied, last_mark, fresh}
use Rattle.bw_versions.specs.declared.writer.Operation.{Operation}
use Rattle.bw_versions.proofs.Fronts.{prefix_self, prefix_trans}

-- a seat that knows nothing may always be added
pub admits : Admits Keeps None
admits x views h = (
  h.0,
  λ seat v at.
      ⊎_elim (λ (e : get_elem? views seat ≡ some v). h.1 seat v e)
      (λ (e : None ≡ v). subst (λ (z : Option Reach). Fits x.mark z) e tt) (at_snoc views None v seat at),
)

-- n has the book of m, and all of its log
abbrev pub Later : Reach → Reach → Type 0
Later m n = (m.book ≡ n.book) × IsPrefix m.log n.log

fits-later : (m n : Reach) (v : Option Reach) → Later m n → Fits m v → Fits n v
fits-later m n None e f = tt
fits-later m n (Some p) e f = (f.0 ∙ e.0, prefix_trans p.log m.log n.log f.1 e.1)

-- a step of a seat from x to y, which has all of x, keeps the rule
pub turns : (seat : ℕ) (v : Option Reach) (x y : VersionData) → y.mark.log ≡ y.posts → Later x.mark y.mark → TurnsAt Keeps seat v x y Sees
turns seat v x y own later views h at =
    let mine : Fits y.mark v = fits-later x.mark y.mark v later (h.1 seat v at) in
    let whole : Fits y.mark (Some y.mark) = (refl, prefix_self y.mark.log) in (
      Some y.mark,
      (
        own,
        λ j u e. ⊎_elim (λ (t : (j ≡ seat) × (Some y.mark ≡ u)). subst (λ (z : Option Reach). Fits y.mark z) t.1 whole)
            (λ (t : (j ≢ seat) × (get_elem? views j ≡ some u)). fits-later x.mark y.mark u later (h.1 j u t.1)) (at_set views seat j (Some y.mark) u e),
      ),
      (own, mine, refl),
    )

-- a look: the rule says itself that the mark is the board's
pub looks : (seat : ℕ) (v : Option Reach) (x : VersionData) → TurnsAt Keeps seat v x x Sees
looks seat v x views h at = turns seat v x x h.0 (refl, prefix_self x.mark.log) views h at

-- what a look saw begins with what its seat had seen
pub looked : (m : Reach) (v w : Option Reach) (x : VersionData) → Beyond m v → Sees v x x w → Beyond m (Some x.mark)
looked m None w x b s = absurd b
looked m (Some p) w x b s = (sym s.1.0 ∙ b.0, prefix_trans m.log p.log x.mark.log b.1 s.1.1)

-- ---- operations

pub last-later : (ops : List Operation) (m : Reach) → Follows m ops → Later m (last_mark m ops)
last-later [] m f = (refl, prefix_self m.log)
last-later (op ∷ ops) m f =
    let rest = last-later ops op.mark f.2 in
    (sym f.0 ∙ rest.0, prefix_trans m.log op.mark.log (last_mark op.mark ops).log (op.batch ∷ [], sym f.1) rest.1)

-- applied, they leave the last one's front, with its batches
pub folds : (ops : List Operation) (x : VersionData) → x.mark.log ≡ x.posts → Follows x.mark ops
    → ((fold applied x ops).mark.log ≡ (fold applied x ops).posts) × ((fold applied x ops).mark ≡ last_mark x.mark ops)
folds [] x own f = (own, refl)
folds (op ∷ ops) x own f = folds ops (applied x op) (f.1 ∙ ap (λ l. l ++ op.batch ∷ []) own) f.2

pub turns-next : (seat : ℕ) (v : Option Reach) (x next : VersionData) (ops : List Operation) → x.mark.log ≡ x.posts → Follows x.mark ops
    → next ≡ fold applied x ops → TurnsAt Keeps seat v x next Sees
turns-next seat v x next ops own f is =
    let all = folds ops x own f in
    let later : Later x.mark (fold applied x ops).mark = subst (λ (z : Reach). Later x.mark z) (sym all.1) (last-later ops x.mark f) in
    subst (λ (n : VersionData). TurnsAt Keeps seat v x n Sees) (sym is) (turns seat v x (fold applied x ops) all.0 later)

-- what a publication leaves
pub published : {A E : Type 0} (r : Result A E) (x y : VersionData) (ops rest : List Operation) (v w : Option Reach)
    → MatchResult r (λ _. (y ≡ fold applied x ops) × (rest ≡ [])) (λ _. (y ≡ x) × (rest ≡ ops))
    → MatchResult r (λ _. Sees v x y w) (λ _. w ≡ v)
    → x.mark.log ≡ x.posts → Follows x.mark ops
    → MatchResult r
    (λ _. (y.mark ≡ last_mark x.mark ops) × (y.mark.log ≡ y.posts) × (rest ≡ []) × (w ≡ Some y.mark))
    (λ _. (y ≡ x) × (rest ≡ ops) × (w ≡ v))
published (Ok a) x y ops rest v w is sees own f = (ap (λ (z : VersionData). z.mark) is.0 ∙ (folds ops x own f).1, sees.0, is.1, sees.2)
published (Err e) x y ops rest v w is sees own f = (is.0, is.1, sees)

-- ---- a new reader

set-keeps : (x : VersionData) (views : List (Option Reach)) (seat : ℕ) (v : Option Reach)
    → ((j : ℕ) (u : Option Reach) → get_elem? views j ≡ some u → Fits x.mark u) → Fits x.mark v
    → (j : ℕ) (u : Option Reach) → get_elem? (slice_set views seat v) j ≡ some u → Fits x.mark u
set-keeps x views seat v h f j u e =
    ⊎_elim (λ (t : (j ≡ seat) × (v ≡ u)). subst (λ (z : Option Reach). Fits x.mark z) t.1 f)
    (λ (t : (j ≢ seat) × (get_elem? views j ≡ some u)). h j u t.1) (at_set views seat j v u e)

fresh-fits : (m : Reach) (v : Option Reach) → Fits m v → Fits m (fresh v)
fresh-fits m None f = tt
fresh-fits m (Some p) f = (f.0, (m.log, refl))

-- the writer may say only the book
pub forks : (seat : ℕ) (v : Option Reach) → Forks Keeps seat v v (fresh v)
forks seat v x views h at = (
  h.0,
  λ j u e.
      ⊎_elim (set-keeps x views seat v h.1 (h.1 seat v at) j u)
      (λ (same : fresh v ≡ u). subst (λ (z : Option Reach). Fits x.mark z) same (fresh-fits x.mark v (h.1 seat v at)))
      (at_snoc (slice_set views seat v) (fresh v) u j e),
)

-- a reader may take in what it heard
pub merges : (seat : ℕ) (v : Option Reach) (other : ℕ) (w : Option Reach) → Merges Keeps seat v other w w None
merges seat v other w x views h at apart there =
    let theirs : Fits x.mark w =
    ⊎_elim (λ (t : (other ≡ seat) × (w ≡ w)). absurd (apart t.0))
    (λ (t : (other ≢ seat) × (get_elem? views other ≡ some w)). h.1 other w t.1) (at_set views seat other w w there) in
    (h.0, set-keeps x (slice_set views seat w) other None (set-keeps x views seat w h.1 theirs) tt)

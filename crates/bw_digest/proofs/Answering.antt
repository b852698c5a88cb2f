-- What the check answers says whether the pieces fit.
use Rattle.std.proofs.Common.{◌≡◌, ℕ, List, [], ◌∷◌, refl, sym, subst, ap, Ok, Err, inl, inr, eq-eqb}
use Rattle.std.proofs.lemmas.Bool.{ne_eqb}
use Rattle.std.proofs.lemmas.Bool.Decides.{eqb_tells}
use Rattle.bw_digest.specs.Digest.{digest}
use Rattle.bw_digest.specs.Sums.{Reach, after, no_sums, piece_to, with_all, Fits, IsDamagedAt}
use Rattle.bw_digest.specs.Rows.{reach}
use Rattle.bw_digest.specs.Checked.{checked, IsAnswer}
use Rattle.bw_digest.specs.declared.row.Row.{Row}
use Rattle.bw_digest.specs.declared.sum.Sum.{Sum}

-- the sums up to the first misfit, if there is one
data Verdict (bytes : List ℕ) (row : Reach) (ss : List Sum) : Type 0 where
  sound : Fits bytes row ss → checked bytes row ss ≡ Ok (with_all row ss) → Verdict bytes row ss
  damaged : (at : ℕ) → IsDamagedAt bytes row ss at → (Fits bytes row ss → ⊥) → checked bytes row ss ≡ Err at → Verdict bytes row ss

-- after a piece that fits
behind : (bytes : List ℕ) (row : Reach) (s : Sum) (ss : List Sum) → digest (piece_to bytes row s.end) ≡ s.digest → Verdict bytes (after row s) ss →
    Verdict bytes row (s ∷ ss)
behind bytes row s ss same (sound fits is) = sound (same, fits) (rw (eq-eqb _ _ same) is)
behind bytes row s ss same (damaged at found not_all is) =
    damaged at
    (record {
      before = s ∷ found.before;
      its = found.its;
      later = found.later;
      parts = ap (λ rest. s ∷ rest) found.parts;
      fits = (same, found.fits);
      begins = found.begins;
      misfits = found.misfits;
    })
    (λ all. not_all all.1) (rw (eq-eqb _ _ same) is)

-- at a piece that does not
here : (bytes : List ℕ) (row : Reach) (s : Sum) (ss : List Sum) → (digest (piece_to bytes row s.end) ≡ s.digest → ⊥) → Verdict bytes row (s ∷ ss)
here bytes row s ss other =
    damaged row.end (record { before = []; its = s; later = ss; parts = refl; fits = tt; begins = refl; misfits = other }) (λ all. other all.0)
    (rw (ne_eqb _ _ other) refl)

verdict : (bytes : List ℕ) (row : Reach) (ss : List Sum) → Verdict bytes row ss
verdict bytes row [] = sound tt refl
verdict bytes row (s ∷ ss) =
    elim (eqb_tells (digest (piece_to bytes row s.end)) s.digest) [
      | inl same ↦ behind bytes row s ss same.1 (verdict bytes (after row s) ss)
      | inr other ↦ here bytes row s ss other.1
    ]

-- an answer that all pieces fit
whole_by : (bytes : List ℕ) (ss : List Sum) (row : Row) → IsAnswer (Ok row) (checked bytes no_sums ss) → Verdict bytes no_sums ss →
    Fits bytes no_sums ss × (reach row ≡ with_all no_sums ss)
whole_by bytes ss row says (sound fits is) = (fits, subst (λ x. IsAnswer (Ok row) x) is says)
whole_by bytes ss row says (damaged at found not_all is) = absurd (subst (λ x. IsAnswer (Ok row) x) is says)

pub told_whole : (bytes : List ℕ) (ss : List Sum) (row : Row) → IsAnswer (Ok row) (checked bytes no_sums ss) →
    Fits bytes no_sums ss × (reach row ≡ with_all no_sums ss)
told_whole bytes ss row says = whole_by bytes ss row says (verdict bytes no_sums ss)

-- an answer that one does not
misfit_by : (bytes : List ℕ) (ss : List Sum) (told : ℕ) → IsAnswer (Err told) (checked bytes no_sums ss) → Verdict bytes no_sums ss →
    (Fits bytes no_sums ss → ⊥) × IsDamagedAt bytes no_sums ss told
misfit_by bytes ss told says (sound fits is) = absurd (subst (λ x. IsAnswer (Err told) x) is says)
misfit_by bytes ss told says (damaged at found not_all is) =
    let same : told ≡ at = subst (λ x. IsAnswer (Err told) x) is says in
    (not_all, subst (λ k. IsDamagedAt bytes no_sums ss k) (sym same) found)

pub told_misfit : (bytes : List ℕ) (ss : List Sum) (told : ℕ) → IsAnswer (Err told) (checked bytes no_sums ss) →
    (Fits bytes no_sums ss → ⊥) × IsDamagedAt bytes no_sums ss told
told_misfit bytes ss told says = misfit_by bytes ss told says (verdict bytes no_sums ss)

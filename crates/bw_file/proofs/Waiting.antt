-- What waits after a segment was read.
use Rattle.std.proofs.Common.{◌≡◌, ◌∙◌, ap, subst, ◌≤◌, ℕ, List, [], ◌∷◌, ◌++◌, length}
use Rattle.bw_digest.specs.Sums.{Reach, no_sums, sums_in, with_all, told_end, Fits}
use Rattle.bw_file.specs.Settled.{Owes, owed_after, owed_to, IsOwed}

pub waits_too : (lease : ℕ) (bytes sums checked told paid : List ℕ) (held : ℕ) (row : Reach) (one : Owes) (old new : List Owes)
    → checked ≡ bytes → told ≡ sums → paid ≡ bytes
    → Fits checked no_sums (sums_in (length checked) told) → told_end told ≤ length checked
    → row ≡ with_all no_sums (sums_in (length checked) told) → held ≡ length sums
    → one ≡ owed_after lease paid held row → new ≡ old ++ one ∷ [] → IsOwed lease bytes old new
waits_too lease bytes sums checked told paid held row one old new its beside again fits within its_row count is added =
    let owed : one ≡ owed_to lease bytes sums =
    is ∙ ap (λ (b : List ℕ). owed_after lease b held row) again ∙ ap (λ (n : ℕ). owed_after lease bytes n row) count
    ∙ ap (λ (r : Reach). owed_after lease bytes (length sums) r) its_row
    ∙ ap (λ (b : List ℕ). owed_after lease bytes (length sums) (with_all no_sums (sums_in (length b) told))) its
    ∙ ap (λ (t : List ℕ). owed_after lease bytes (length sums) (with_all no_sums (sums_in (length bytes) t))) beside in
    let both : Fits bytes no_sums (sums_in (length bytes) sums) =
    subst (λ (t : List ℕ). Fits bytes no_sums (sums_in (length bytes) t)) beside
    (subst (λ (b : List ℕ). Fits b no_sums (sums_in (length b) told)) its fits) in
    let inside : told_end sums ≤ length bytes =
    subst (λ (t : List ℕ). told_end t ≤ length bytes) beside
    (subst (λ (b : List ℕ). told_end told ≤ length b) its within) in
    (sums, (both, inside, added ∙ ap (λ (o : Owes). old ++ o ∷ []) owed))

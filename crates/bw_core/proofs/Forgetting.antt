-- What was forgotten stays durable.

use Rattle.std.proofs.Common.{◌≡◌, ℕ, zero, suc, ◌+◌, ◌≤◌, List, [], ◌∷◌, ◌++◌, length, ap, ◌∙◌, arith, replicate, append-nil}
use Rattle.bw_history.specs.History.{cut}
use Rattle.bw_core.specs.Kept.{Kept, IsSound}
use Rattle.bw_core.proofs.FrameMore.{cut_old, cut_new}
use Rattle.bw_core.proofs.MovedMore.{get_behind}
use Rattle.bw_core.proofs.RecordMore.{cut_within}

-- the durable cut is within the history
pub end_within : (s : Kept) (end : ℕ) → IsSound s → end ≡ cut s.cuts s.durable → end ≤ length s.entries
end_within s end h is = (let within = cut_within s.cuts (length s.entries) s.durable h.ordered in omega arith)

-- it rises where a frame was appended
pub gone_flushed : (s : Kept) (cuts : List ℕ) (end durable gone : ℕ) → IsSound s → length s.cuts ≡ s.durable → cuts ≡ s.cuts ++ end ∷ []
    → end ≡ length s.entries → durable ≡ s.durable + 1 → gone ≤ cut s.cuts s.durable → gone ≤ cut cuts durable
gone_flushed s cuts end durable gone h all is last more low =
    let within = cut_within s.cuts (length s.entries) s.durable h.ordered in
    let e = ap (λ (cs : List ℕ). cut cs durable) is in
    let k : durable ≡ length s.cuts + 1 = omega arith in
    let n = ap (λ (i : ℕ). cut (s.cuts ++ end ∷ []) i) k ∙ cut_new s.cuts end in
    omega arith

-- it stays where an append failed
pub gone_stopped : (s : Kept) (cuts : List ℕ) (end gone : ℕ) → s.durable ≤ length s.cuts → cuts ≡ s.cuts ++ end ∷ []
    → gone ≤ cut s.cuts s.durable → gone ≤ cut cuts s.durable
gone_stopped s cuts end gone many is low =
    (let e = ap (λ (cs : List ℕ). cut cs s.durable) is ∙ cut_old s.cuts end s.durable many in omega arith)

-- it is the end of the history where frames were added after it
cut_many : (cs : List ℕ) (n end k : ℕ) → length cs ≡ k → cut cs k ≡ end → cut (cs ++ replicate n end) (k + n) ≡ end
cut_many cs zero end k len last =
    (let e : k + 0 ≡ k = omega arith in ap (λ (ds : List ℕ). cut ds (k + 0)) (append-nil cs) ∙ ap (cut cs) e ∙ last)
cut_many cs (suc n) end k len last =
    (let e : k + suc n ≡ suc (k + n) = omega arith in ap (cut (cs ++ replicate (suc n) end)) e
    ∙ get_behind cs (suc n) end (k + n) (omega arith) (omega arith))

pub gone_moved : (cs cuts : List ℕ) (n end k durable gone : ℕ) → length cs ≡ k → cut cs k ≡ end → cuts ≡ cs ++ replicate n end → durable ≡ k + n
    → gone ≤ cut cs k → gone ≤ cut cuts durable
gone_moved cs cuts n end k durable gone len last is more low =
    (let e = ap (λ (ds : List ℕ). cut ds durable) is ∙ ap (cut (cs ++ replicate n end)) more ∙ cut_many cs n end k len last in omega arith)

-- The chunks of a value, one after the other, are the value.

use Rattle.std.proofs.Common.{ℕ, zero, suc, ◌≡◌, ◌+◌, ◌*◌, ◌<◌, Option, Some, ◌++◌, length, take, refl, sym, ap, ◌∙◌, arith}
use Rattle.std.proofs.Math.Seq.{take-add}
use Rattle.std.proofs.lemmas.List.{take_all}
use Rattle.bw_rows.specs.Spelling.{Bytes, chunk_of, chunks_in}
use Rattle.bw_rows.specs.Meaning.{joined, or_nothing}

-- the first chunks of a value
first_joined : (f : ℕ → Option Bytes) (value : Bytes) (k : ℕ) → ((i : ℕ) → i < k → f i ≡ Some (chunk_of value i)) → joined f k ≡ take (512 * k) value
first_joined f value zero all = refl
first_joined f value (suc k) all =
    ap (λ (x : Bytes). x ++ or_nothing (f k)) (first_joined f value k (λ i less. all i (omega arith)))
    ∙ ap (λ (x : Option Bytes). take (512 * k) value ++ or_nothing x) (all k (omega arith))
    ∙ sym (take-add (512 * k) 512 value)
    ∙ ap (λ (n : ℕ). take n value) (let e : 512 * k + 512 ≡ 512 * suc k = omega arith in e)

pub all_joined : (f : ℕ → Option Bytes) (value : Bytes) → ((i : ℕ) → i < chunks_in (length value) → f i ≡ Some (chunk_of value i)) → joined f (chunks_in (length value)) ≡ value
all_joined f value all =
    first_joined f value (chunks_in (length value)) all
    ∙ take_all (512 * chunks_in (length value)) value (omega arith)

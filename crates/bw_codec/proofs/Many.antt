-- Loops that read many things, one after the other.

use Rattle.std.proofs.Common.{◌≡◌, ℕ, suc, ◌+◌, ◌-◌, ◌<◌, Option, Some, None, List, [], ◌∷◌, ◌++◌, refl, sym, ap, ◌∙◌, append_assoc, arith}
use Rattle.bw_codec.specs.Reading.{Found, ◌>>=◌, Says, many_at}
use Rattle.bw_codec.specs.declared.fault.CodecFault.{CodecFault}
use Rattle.bw_codec.specs.declared.fault.CodecFault.TheVariants.{NoMemory, BadBytes}

-- what was read before, and what is read then
abbrev pub prefixed : {X : Type 0} → List X → Found (List X) → Found (List X)
prefixed xs None = None
prefixed xs (Some read) = Some (xs ++ read.0, read.1)

prefixed_again : {X : Type 0} (xs : List X) (x : X) (read : Found (List X))
    → prefixed xs (read >>= λ others. Some (x ∷ others.0, others.1)) ≡ prefixed (xs ++ x ∷ []) read
prefixed_again xs x None = refl
prefixed_again {X} xs x (Some read) = ap (λ (ys : List X). Some (ys, read.1)) (sym (append_assoc xs (x ∷ []) read.0))

many_first : {X : Type 0} (one : List ℕ → Found X) (n : ℕ) (bytes : List ℕ) (x : X) (rest : List ℕ) → one bytes ≡ Some (x, rest)
    → many_at one (suc n) bytes ≡ (many_at one n rest >>= λ others. Some (x ∷ others.0, others.1))
unfolding many_at
many_first one n bytes x rest e = rw e refl

pub many_none : {X : Type 0} (one : List ℕ → Found X) (n : ℕ) (bytes : List ℕ) → one bytes ≡ None → many_at one (suc n) bytes ≡ None
unfolding many_at
many_none one n bytes e = rw e refl

-- only one thing was read
pub many_of_one : {X : Type 0} (one : List ℕ → Found X) (bytes : List ℕ) (x : X) (rest : List ℕ) → one bytes ≡ Some (x, rest)
    → many_at one 1 bytes ≡ Some (x ∷ [], rest)
unfolding many_at
many_of_one one bytes x rest e = rw e refl

-- one thing more was read
pub many_goes_on : {X : Type 0} (one : List ℕ → Found X) (count i : ℕ) (xs : List X) (bytes : List ℕ) (x : X) (rest : List ℕ) → i < count
    → one bytes ≡ Some (x, rest)
    → prefixed xs (many_at one (count - i) bytes) ≡ prefixed (xs ++ x ∷ []) (many_at one (count - (i + 1)) rest)
many_goes_on one count i xs bytes x rest h e =
    let n : count - i ≡ suc (count - (i + 1)) = omega arith in
    ap (λ k. prefixed xs (many_at one k bytes)) n ∙ ap (prefixed xs) (many_first one (count - (i + 1)) bytes x rest e)
    ∙ prefixed_again xs x (many_at one (count - (i + 1)) rest)

-- one thing could not be read
pub many_stops : {X : Type 0} (one : List ℕ → Found X) (count i : ℕ) (xs : List X) (bytes : List ℕ) → i < count → one bytes ≡ None
    → prefixed xs (many_at one (count - i) bytes) ≡ None
many_stops one count i xs bytes h e =
    let n : count - i ≡ suc (count - (i + 1)) = omega arith in
    ap (λ k. prefixed xs (many_at one k bytes)) n ∙ ap (prefixed xs) (many_none one (count - (i + 1)) bytes e)

-- nothing is left to read
pub many_ends : {X : Type 0} (one : List ℕ → Found X) (count : ℕ) (xs : List X) (bytes : List ℕ)
    → prefixed xs (many_at one (count - count) bytes) ≡ Some (xs ++ [], bytes)
unfolding many_at
many_ends one count xs bytes = let n : count - count ≡ 0 = omega arith in ap (λ k. prefixed xs (many_at one k bytes)) n

-- nothing was read
pub many_begins : {X : Type 0} (one : List ℕ → Found X) (count : ℕ) (bytes : List ℕ) → prefixed [] (many_at one (count - 0) bytes) ≡ many_at one count bytes
many_begins {X} one count bytes =
    let n : count - 0 ≡ count = omega arith in
    ap (λ k. prefixed [] (many_at one k bytes)) n
    ∙ (let all : (read : Found (List X)) → prefixed [] read ≡ read = λ read. elim read as (λ r. prefixed [] r ≡ r) [ None ↦ refl | Some x ↦ refl ]
    in all (many_at one count bytes))

-- ---- what a fault says

-- if nothing is read of a part, nothing is read of the whole
pub fault_goes_on : {X Y : Type 0} (fault : CodecFault) (part : Option X) (whole : Option Y) → (part ≡ None → whole ≡ None) → Says fault part → Says fault whole
fault_goes_on NoMemory part whole none says = tt
fault_goes_on BadBytes part whole none says = none says

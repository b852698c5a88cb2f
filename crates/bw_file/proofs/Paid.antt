-- What a settlement asks of the files of one segment: its parts, one after the other.
use Rattle.std.proofs.Common.{◌≡◌, refl, sym, ◌∙◌, ap, subst, ◌==◌, ◌<◌, ℕ, zero, suc, ◌+◌, if◌then◌else◌, List, [], ◌∷◌, ◌++◌, Bool, false, length, is_ok, arith, zero-add}
use Rattle.std.specs.Prelude.{Result, Ok, Err, OnOk, OnErr, Option, Some}
use Rattle.std.proofs.lemmas.List.{append_assoc, length-append}
use Rattle.bw_digest.specs.declared.sum.Sum.{Sum}
use Rattle.bw_digest.specs.Sums.{sum_bytes}
use Rattle.bw_file.specs.Asked.{Which, Bytes, Sums, Call, Write, Sync, Step, done, broken_off, IsStopped}
use Rattle.bw_file.specs.Settled.{end_calls, told_calls}

-- ---- one call

-- it was done
pub on_ok_one : {A E : Type 0} (r : Result A E) (file : Which) (call : Call) (old new : List Step)
    → new ≡ old ++ record { file = file; call = call; is_ok = is_ok r } ∷ []
    → OnOk r (new ≡ old ++ done file call ∷ [])
on_ok_one (Ok x) file call old new is = is
on_ok_one (Err e) file call old new is = tt

-- it failed
pub on_err_one : {A E : Type 0} (r : Result A E) (file : Which) (call : Call) (old new : List Step)
    → new ≡ old ++ record { file = file; call = call; is_ok = is_ok r } ∷ []
    → OnErr r (IsStopped (done file call ∷ []) old new)
on_err_one (Ok x) file call old new is = tt
on_err_one (Err e) file call old new is = (0, (omega arith, is))

-- ---- one part after the other

broken_front : (n : ℕ) (xs ys : List Step) → n < length xs → broken_off n (xs ++ ys) ≡ broken_off n xs
broken_front n [] ys l = absurd (omega arith)
broken_front zero (x ∷ xs) ys l = refl
broken_front (suc n) (x ∷ xs) ys l = ap (λ (t : List Step). x ∷ t) (broken_front n xs ys (omega arith))

broken_back : (xs ys : List Step) (n : ℕ) → broken_off (length xs + n) (xs ++ ys) ≡ xs ++ broken_off n ys
broken_back [] ys n = ap (λ (k : ℕ). broken_off k ys) (zero-add n)
broken_back (x ∷ xs) ys n =
    let step : suc (length xs) + n ≡ suc (length xs + n) = omega arith in
    subst (λ (k : ℕ). broken_off k ((x ∷ xs) ++ ys) ≡ (x ∷ xs) ++ broken_off n ys) (sym step)
    (ap (λ (t : List Step). x ∷ t) (broken_back xs ys n))

-- the first part stopped
pub stopped_first : (xs ys old new : List Step) → IsStopped xs old new → IsStopped (xs ++ ys) old new
stopped_first xs ys old new (n, (within, is)) =
    let longer : length (xs ++ ys) ≡ length xs + length ys = length-append xs ys in
    (n, (omega (arith, longer), is ∙ ap (λ (t : List Step). old ++ t) (sym (broken_front n xs ys within))))

-- the first part was done, and the next one stopped
pub stopped_next : (xs ys old mid new : List Step) → mid ≡ old ++ xs → IsStopped ys mid new → IsStopped (xs ++ ys) old new
stopped_next xs ys old mid new went (n, (within, is)) =
    let longer : length (xs ++ ys) ≡ length xs + length ys = length-append xs ys in (
      length xs + n,
      (
        omega (arith, longer),
        is ∙ ap (λ (t : List Step). t ++ broken_off n ys) went ∙ append_assoc old xs (broken_off n ys)
            ∙ ap (λ (t : List Step). old ++ t) (sym (broken_back xs ys n)),
      ),
    )

-- both were done
pub both_done : (xs ys old mid new : List Step) → mid ≡ old ++ xs → new ≡ mid ++ ys → new ≡ old ++ (xs ++ ys)
both_done xs ys old mid new first next = next ∙ ap (λ (t : List Step). t ++ ys) first ∙ append_assoc old xs ys

-- ---- the end

-- the wait for it failed
pub end_stopped : {A E : Type 0} (r : Result A E) (from : ℕ) (end : List ℕ) (bare : Bool) (old mid new : List Step)
    → bare ≡ (length end == 0) → bare ≡ false → mid ≡ old ++ done Bytes (Write from end) ∷ []
    → new ≡ mid ++ record { file = Bytes; call = Sync; is_ok = is_ok r } ∷ []
    → OnErr r (IsStopped (end_calls from end) old new)
end_stopped (Ok x) from end bare old mid new is_bare fills wrote is = tt
end_stopped (Err e) from end bare old mid new is_bare fills wrote is =
    let both : List Step = done Bytes (Write from end) ∷ done Bytes Sync ∷ [] in
    let chosen : end_calls from end ≡ both = ap (λ (b : Bool). if b then [] else both) (sym is_bare ∙ fills) in
    subst (λ (t : List Step). IsStopped t old new) (sym chosen)
    (stopped_next (done Bytes (Write from end) ∷ []) (done Bytes Sync ∷ []) old mid new wrote (0, (omega arith, is)))

-- ---- the sum

one_told : (counted : ℕ) (sum : Option Sum) (s : Sum) (bytes : List ℕ) → sum ≡ Some s → bytes ≡ sum_bytes s
    → told_calls counted sum ≡ done Sums (Write counted bytes) ∷ []
one_told counted sum s bytes is spelled =
    ap (λ (o : Option Sum). told_calls counted o) is
    ∙ ap (λ (b : List ℕ). done Sums (Write counted b) ∷ []) (sym spelled)

pub told_done : {A E : Type 0} (r : Result A E) (counted : ℕ) (sum : Option Sum) (s : Sum) (bytes : List ℕ) (old new : List Step)
    → sum ≡ Some s → bytes ≡ sum_bytes s
    → new ≡ old ++ record { file = Sums; call = Write counted bytes; is_ok = is_ok r } ∷ []
    → OnOk r (new ≡ old ++ told_calls counted sum)
told_done r counted sum s bytes old new is spelled asked =
    subst (λ (t : List Step). OnOk r (new ≡ old ++ t)) (sym (one_told counted sum s bytes is spelled))
    (on_ok_one r Sums (Write counted bytes) old new asked)

pub told_stopped : {A E : Type 0} (r : Result A E) (counted : ℕ) (sum : Option Sum) (s : Sum) (bytes : List ℕ) (old new : List Step)
    → sum ≡ Some s → bytes ≡ sum_bytes s
    → new ≡ old ++ record { file = Sums; call = Write counted bytes; is_ok = is_ok r } ∷ []
    → OnErr r (IsStopped (told_calls counted sum) old new)
told_stopped r counted sum s bytes old new is spelled asked =
    subst (λ (t : List Step). OnErr r (IsStopped t old new)) (sym (one_told counted sum s bytes is spelled))
    (on_err_one r Sums (Write counted bytes) old new asked)

-- What a folder asked up to a refusal: parts, one after the other.
use Rattle.std.proofs.Common.{◌≡◌, refl, sym, ◌∙◌, ap, subst, inl, inr, ◌<◌, ℕ, zero, suc, ◌+◌, List, [], ◌∷◌, ◌++◌, Bool, true, false, length, map, take, arith, zero-add}
use Rattle.std.proofs.lemmas.List.{append_assoc, append-nil, length-append}
use Rattle.std.proofs.Math.Seq.{take-length, take-append-add}
use Rattle.std.proofs.lemmas.Grind.{flat_map-append}
use Rattle.bw_file.specs.Asked.{Step, broken_off, IsStopped, FolderStep, Of, Names, cut_off, IsCutOff}
use Rattle.bw_file.specs.Settled.{Owes, calls_of, all_calls, settle_calls}

-- ---- whatever the parts

pub take_none : (xs : List FolderStep) → take 0 xs ≡ []
take_none [] = refl
take_none (x ∷ xs) = refl

-- nothing was asked
pub cut_nothing : (calls old : List FolderStep) → IsCutOff calls old old
cut_nothing calls old = (0, inl (sym (append-nil old) ∙ ap (λ (t : List FolderStep). old ++ t) (sym (take_none calls))))

-- all was asked
pub cut_all : (calls old new : List FolderStep) → new ≡ old ++ calls → IsCutOff calls old new
cut_all calls old new is = (length calls, inl (is ∙ ap (λ (t : List FolderStep). old ++ t) (sym (take-length calls))))

front_take : (n : ℕ) (xs ys : List FolderStep) → take (length (take n xs)) (xs ++ ys) ≡ take n xs
front_take zero [] ys = take_none ys
front_take (suc n) [] ys = take_none ys
front_take zero (x ∷ xs) ys = refl
front_take (suc n) (x ∷ xs) ys = ap (λ (t : List FolderStep). x ∷ t) (front_take n xs ys)

cut_front : (n : ℕ) (xs ys : List FolderStep) → n < length xs → cut_off n (xs ++ ys) ≡ cut_off n xs
cut_front n [] ys l = absurd (omega arith)
cut_front zero (x ∷ xs) ys l = refl
cut_front (suc n) (x ∷ xs) ys l = ap (λ (t : List FolderStep). x ∷ t) (cut_front n xs ys (omega arith))

cut_back : (xs ys : List FolderStep) (n : ℕ) → cut_off (length xs + n) (xs ++ ys) ≡ xs ++ cut_off n ys
cut_back [] ys n = ap (λ (k : ℕ). cut_off k ys) (zero-add n)
cut_back (x ∷ xs) ys n =
    let step : suc (length xs) + n ≡ suc (length xs + n) = omega arith in
    subst (λ (k : ℕ). cut_off k ((x ∷ xs) ++ ys) ≡ (x ∷ xs) ++ cut_off n ys) (sym step)
    (ap (λ (t : List FolderStep). x ∷ t) (cut_back xs ys n))

-- the first part was cut off
pub cut_first : (xs ys old new : List FolderStep) → IsCutOff xs old new → IsCutOff (xs ++ ys) old new
cut_first xs ys old new (n, inl is) =
    (length (take n xs), inl (is ∙ ap (λ (t : List FolderStep). old ++ t) (sym (front_take n xs ys))))
cut_first xs ys old new (n, inr (within, is)) =
    let longer : length (xs ++ ys) ≡ length xs + length ys = length-append xs ys in
    (n, inr (omega (arith, longer), is ∙ ap (λ (t : List FolderStep). old ++ t) (sym (cut_front n xs ys within))))

-- the first part was done, and the next one was cut off
pub cut_next : (xs ys old mid new : List FolderStep) → mid ≡ old ++ xs → IsCutOff ys mid new → IsCutOff (xs ++ ys) old new
cut_next xs ys old mid new went (n, inl is) = (
  length xs + n,
  inl (is ∙ ap (λ (t : List FolderStep). t ++ take n ys) went ∙ append_assoc old xs (take n ys)
      ∙ ap (λ (t : List FolderStep). old ++ t) (sym (take-append-add xs ys n))),
)
cut_next xs ys old mid new went (n, inr (within, is)) =
    let longer : length (xs ++ ys) ≡ length xs + length ys = length-append xs ys in (
      length xs + n,
      inr (
        omega (arith, longer),
        is ∙ ap (λ (t : List FolderStep). t ++ cut_off n ys) went ∙ append_assoc old xs (cut_off n ys)
            ∙ ap (λ (t : List FolderStep). old ++ t) (sym (cut_back xs ys n)),
      ),
    )

-- ---- the calls of one segment

broken_of : (lease n : ℕ) (calls : List Step) → map (λ s. Of lease s) (broken_off n calls) ≡ cut_off n (map (λ s. Of lease s) calls)
broken_of lease zero [] = refl
broken_of lease (suc n) [] = refl
broken_of lease zero (s ∷ ss) = refl
broken_of lease (suc n) (s ∷ ss) = ap (λ (t : List FolderStep). Of lease s ∷ t) (broken_of lease n ss)

as_many : (lease : ℕ) (calls : List Step) → length (map (λ s. Of lease s) calls) ≡ length calls
as_many lease [] = refl
as_many lease (s ∷ ss) = ap suc (as_many lease ss)

-- they stopped
pub cut_of_one : (lease : ℕ) (calls none asked : List Step) (old new : List FolderStep) → none ≡ [] → IsStopped calls none asked
    → new ≡ old ++ map (λ s. Of lease s) asked → IsCutOff (map (λ s. Of lease s) calls) old new
cut_of_one lease calls none asked old new begins (n, (within, is)) added =
    let many : length (map (λ s. Of lease s) calls) ≡ length calls = as_many lease calls in
    let only : asked ≡ broken_off n calls = is ∙ ap (λ (t : List Step). t ++ broken_off n calls) begins in (
      n,
      inr (
        omega (arith, many),
        added ∙ ap (λ (t : List Step). old ++ map (λ s. Of lease s) t) only ∙ ap (λ (t : List FolderStep). old ++ t) (broken_of lease n calls),
      ),
    )

-- all were done
pub all_of_one : (lease : ℕ) (calls none asked : List Step) (old new : List FolderStep) → none ≡ [] → asked ≡ none ++ calls
    → new ≡ old ++ map (λ s. Of lease s) asked → new ≡ old ++ map (λ s. Of lease s) calls
all_of_one lease calls none asked old new begins is added =
    added ∙ ap (λ (t : List Step). old ++ map (λ s. Of lease s) t) (is ∙ ap (λ (t : List Step). t ++ calls) begins)

-- ---- one segment after the other

-- one was cut off, after those before it
pub cut_among : (all before after : List Owes) (one : Owes) (old mid new : List FolderStep) → all ≡ before ++ one ∷ after
    → mid ≡ old ++ all_calls before → IsCutOff (calls_of one) mid new → IsCutOff (all_calls all) old new
cut_among all before after one old mid new whole went cut =
    let split : all_calls all ≡ all_calls before ++ (calls_of one ++ all_calls after) =
    ap all_calls whole ∙ flat_map-append calls_of before (one ∷ after) in
    subst (λ (t : List FolderStep). IsCutOff t old new) (sym split)
    (cut_next (all_calls before) (calls_of one ++ all_calls after) old mid new went
    (cut_first (calls_of one) (all_calls after) mid new cut))

-- ---- a settlement

-- the wait for the names failed
pub cut_at_names : (waiting : List Owes) (ok : Bool) (old mid new : List FolderStep) → mid ≡ old ++ all_calls waiting → ok ≡ false
    → new ≡ mid ++ Names ok ∷ [] → IsCutOff (settle_calls waiting) old new
cut_at_names waiting ok old mid new went refused is =
    cut_next (all_calls waiting) (Names true ∷ []) old mid new went
    (0, inr (omega arith, is ∙ ap (λ (b : Bool). mid ++ Names b ∷ []) refused))

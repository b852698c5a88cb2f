-- What a settlement leaves of a file that was read.
use Rattle.std.proofs.Common.{◌≡◌, refl, sym, ◌∙◌, ap, subst, inl, inr, ◌==◌, ◌≤◌, ◌-◌, ℕ, zero, suc, nat_le, if◌then◌else◌, List, [], ◌∷◌, ◌++◌, Bool, true, false, length, take, drop, arith}
use Rattle.std.specs.Prelude.{Option, Some, None}
use Rattle.std.proofs.lemmas.List.{append_assoc, take-take, take_all, take-append-drop, length-drop}
use Rattle.std.proofs.lemmas.Bool.{eqb-true}
use Rattle.bw_digest.specs.declared.sum.Sum.{Sum}
use Rattle.bw_file.specs.Asked.{Bytes, Sums, Write, SetLen, Sync, Step, done, broken_off, IsFound, Disk, empty, after, after_all}
use Rattle.bw_file.specs.Settled.{Owes, end_calls, cut_calls, told_calls, owed_calls, owed_to}
use Rattle.bw_file.specs.Laws.{read_so_far, WhatWasReadStands, WhatStoodStays}
use Rattle.bw_file.proofs.Asking.{after_both}

-- all of these bytes stand
abbrev pub all_stand : List ℕ → Disk
all_stand bytes = record { given = bytes; stands = bytes }

-- ---- calls on the file of sums

cut_beside : (d : Disk) (counted : ℕ) (b : Bool) → after_all d (if b then [] else (done Sums (SetLen counted) ∷ [])) ≡ d
cut_beside d counted true = refl
cut_beside d counted false = refl

told_beside : (d : Disk) (counted : ℕ) (sum : Option Sum) → after_all d (told_calls counted sum) ≡ d
told_beside d counted None = refl
told_beside d counted (Some s) = refl

-- they break off
sums_beside : (d : Disk) (counted k : ℕ) (b : Bool) (sum : Option Sum)
    → after_all d (broken_off k ((if b then [] else (done Sums (SetLen counted) ∷ [])) ++ told_calls counted sum)) ≡ d
sums_beside d counted zero true None = refl
sums_beside d counted (suc k) true None = refl
sums_beside d counted zero true (Some s) = refl
sums_beside d counted (suc zero) true (Some s) = refl
sums_beside d counted (suc (suc k)) true (Some s) = refl
sums_beside d counted zero false None = refl
sums_beside d counted (suc zero) false None = refl
sums_beside d counted (suc (suc k)) false None = refl
sums_beside d counted zero false (Some s) = refl
sums_beside d counted (suc zero) false (Some s) = refl
sums_beside d counted (suc (suc zero)) false (Some s) = refl
sums_beside d counted (suc (suc (suc k))) false (Some s) = refl

-- ---- the end

-- if there is nothing after an offset, all stands that stands up to there
whole : (bytes : List ℕ) (from n : ℕ) → true ≡ (length (drop from bytes) == 0) → from ≤ n → take n bytes ≡ bytes
whole bytes from n bare within =
    let none : length (drop from bytes) ≡ 0 = eqb-true (length (drop from bytes)) 0 (sym bare) in
    let counts : length (drop from bytes) ≡ length bytes - from = length-drop from bytes in
    take_all n bytes (omega (arith, none, counts))

-- the end was written over itself
written_again : (bytes : List ℕ) (from : ℕ) (b : Bool) → (if b then (take from bytes ++ drop from bytes) else bytes) ≡ bytes
written_again bytes from true = take-append-drop from bytes
written_again bytes from false = refl

end_stands : (bytes : List ℕ) (from n : ℕ) (b : Bool) → b ≡ (length (drop from bytes) == 0) → from ≤ n
    → after_all (read_so_far bytes n) (if b then [] else (done Bytes (Write from (drop from bytes)) ∷ done Bytes Sync ∷ [])) ≡ all_stand bytes
end_stands bytes from n true bare within = ap (λ (s : List ℕ). record { given = bytes; stands = s }) (whole bytes from n bare within)
end_stands bytes from n false bare within = ap all_stand (written_again bytes from (nat_le from (length bytes)))

-- ---- all of it

paid : (o : Owes) (bytes : List ℕ) (n : ℕ) → o.end ≡ drop o.from bytes → o.from ≤ n
    → after_all (read_so_far bytes n) (owed_calls o) ≡ all_stand bytes
paid o bytes n is within =
    let first : after_all (read_so_far bytes n) (end_calls o.from o.end) ≡ all_stand bytes =
    ap (λ (e : List ℕ). after_all (read_so_far bytes n) (end_calls o.from e)) is
    ∙ end_stands bytes o.from n (length (drop o.from bytes) == 0) refl within in
    after_both (read_so_far bytes n) (end_calls o.from o.end ++ cut_calls o.held o.counted) (told_calls o.counted o.sum)
    ∙ told_beside (after_all (read_so_far bytes n) (end_calls o.from o.end ++ cut_calls o.held o.counted)) o.counted o.sum
    ∙ after_both (read_so_far bytes n) (end_calls o.from o.end) (cut_calls o.held o.counted)
    ∙ cut_beside (after_all (read_so_far bytes n) (end_calls o.from o.end)) o.counted (o.held == o.counted)
    ∙ first

-- by the record of the segment
by_record : (bytes : List ℕ) (asked : List Step) → IsFound bytes asked → after_all empty asked ≡ all_stand bytes
by_record bytes asked (inl is) = ap (λ (l : List Step). after_all empty l) is
by_record bytes asked (inr (is, none)) = ap (λ (l : List Step). after_all empty l) is ∙ ap all_stand (sym none)

pub what_was_read : WhatWasReadStands
what_was_read lease bytes sums n asked later found within =
    let o : Owes = owed_to lease bytes sums in
    after_both (read_so_far bytes n) (owed_calls o) later
    ∙ ap (λ (d : Disk). after_all d later) (paid o bytes n refl within ∙ sym (by_record bytes asked found))
    ∙ sym (after_both empty asked later)

-- ---- it breaks off

stood : (o : Owes) (bytes : List ℕ) (n k : ℕ) (b : Bool) (rest : List Step) → o.end ≡ drop o.from bytes → o.from ≤ n
    → ((d : Disk) (j : ℕ) → after_all d (broken_off j rest) ≡ d)
    → take o.from (after_all (read_so_far bytes n) (broken_off k ((if b then [] else (done Bytes (Write o.from o.end) ∷ done Bytes Sync ∷ [])) ++ rest))).stands ≡ take o.from bytes
stood o bytes n k true rest is within beside =
    ap (λ (d : Disk). take o.from d.stands) (beside (read_so_far bytes n) k) ∙ take-take o.from n bytes within
stood o bytes n zero false rest is within beside =
    take-take o.from o.from (take n bytes) (omega arith) ∙ take-take o.from n bytes within
stood o bytes n (suc zero) false rest is within beside =
    take-take o.from o.from (take n bytes) (omega arith) ∙ take-take o.from n bytes within
stood o bytes n (suc (suc k)) false rest is within beside =
    let now : Disk = after Sync true (after (Write o.from o.end) true (read_so_far bytes n)) in
    let given : now.stands ≡ bytes =
    ap (λ (e : List ℕ). if nat_le o.from (length bytes) then (take o.from bytes ++ e) else bytes) is
    ∙ written_again bytes o.from (nat_le o.from (length bytes)) in
    ap (λ (d : Disk). take o.from d.stands) (beside now k) ∙ ap (λ (l : List ℕ). take o.from l) given

pub what_stood : WhatStoodStays
what_stood lease bytes sums n k within =
    let o : Owes = owed_to lease bytes sums in
    let rest : List Step = cut_calls o.held o.counted ++ told_calls o.counted o.sum in
    subst (λ (l : List Step). take o.from (after_all (read_so_far bytes n) (broken_off k l)).stands ≡ take o.from bytes)
    (sym (append_assoc (end_calls o.from o.end) (cut_calls o.held o.counted) (told_calls o.counted o.sum)))
    (stood o bytes n k (length o.end == 0) rest refl within
    (λ d j. sums_beside d o.counted j (o.held == o.counted) o.sum))

-- What an append asks of the files, and what a disk that does its duty has after it.
use Rattle.std.proofs.Common.{◌≡◌, refl, sym, ◌∙◌, ap, subst, inl, inr, ◌==◌, ℕ, zero, suc, ◌+◌, ◌*◌, nat_le, if◌then◌else◌, List, [], ◌∷◌, ◌++◌, Bool, true, false, length, take, min, arith}
use Rattle.std.specs.Prelude.{Result, Ok, Err, OnErr}
use Rattle.std.proofs.lemmas.List.{append_assoc, length-append, length-take}
use Rattle.std.proofs.lemmas.Bool.{le-leb}
use Rattle.std.proofs.Math.Seq.{take-length, take-append_seam}
use Rattle.bw_digest.specs.declared.sum.Sum.{Sum}
use Rattle.bw_digest.specs.Sums.{Reach, sum_bytes, sum_of}
use Rattle.bw_file.specs.Asked.{Bytes, Sums, Call, Write, Sync, Step, done, broken_off, sum_calls, append_calls, IsBrokenOff, Disk, after, after_step, after_all}

-- ---- answers

pub on_err : {A E : Type 0} {P : Type 0} (r : Result A E) → P → OnErr r P
on_err (Ok x) p = tt
on_err (Err e) p = p

-- what two facts of a refusal give
pub on_err_of : {A E : Type 0} {P Q R : Type 0} (r : Result A E) → (P → Q → R) → OnErr r P → OnErr r Q → OnErr r R
on_err_of (Ok x) f p q = tt
on_err_of (Err e) f p q = f p q

-- ---- the calls of an append

-- the one call for the sum of a piece that has bytes
one_sum : (row : Reach) (piece : List ℕ) (bare : Bool) (count : ℕ) (sum : Sum) (bytes : List ℕ) (ok : Bool)
    → bare ≡ (length piece == 0) → bare ≡ false → count ≡ row.count → sum ≡ sum_of row piece → bytes ≡ sum_bytes sum
    → sum_calls row piece ≡ done Sums (Write (count * 24) bytes) ∷ []
one_sum row piece bare count sum bytes ok is_bare fills counts sums spelled =
    let chosen : List Step = done Sums (Write (row.count * 24) (sum_bytes (sum_of row piece))) ∷ [] in
    let first : sum_calls row piece ≡ chosen = ap (λ (b : Bool). if b then [] else chosen) (sym is_bare ∙ fills) in
    first ∙ ap (λ (n : ℕ). done Sums (Write (n * 24) (sum_bytes (sum_of row piece))) ∷ []) (sym counts)
    ∙ ap (λ (b : List ℕ). done Sums (Write (count * 24) b) ∷ []) (sym (spelled ∙ ap sum_bytes sums))

-- it was done
pub noted : (row : Reach) (piece : List ℕ) (bare : Bool) (count : ℕ) (sum : Sum) (bytes : List ℕ) (ok : Bool) (old new : List Step)
    → bare ≡ (length piece == 0) → bare ≡ false → count ≡ row.count → sum ≡ sum_of row piece → bytes ≡ sum_bytes sum → ok ≡ true
    → new ≡ old ++ record { file = Sums; call = Write (count * 24) bytes; is_ok = ok } ∷ []
    → new ≡ old ++ sum_calls row piece
noted row piece bare count sum bytes ok old new is_bare fills counts sums spelled went is =
    is ∙ ap (λ (b : Bool). old ++ record { file = Sums; call = Write (count * 24) bytes; is_ok = b } ∷ []) went
    ∙ ap (λ (s : List Step). old ++ s) (sym (one_sum row piece bare count sum bytes ok is_bare fills counts sums spelled))

-- it was refused
pub not_noted : (row : Reach) (piece : List ℕ) (bare : Bool) (count : ℕ) (sum : Sum) (bytes : List ℕ) (ok : Bool) (old new : List Step)
    → bare ≡ (length piece == 0) → bare ≡ false → count ≡ row.count → sum ≡ sum_of row piece → bytes ≡ sum_bytes sum → ok ≡ false
    → new ≡ old ++ record { file = Sums; call = Write (count * 24) bytes; is_ok = ok } ∷ []
    → new ≡ old ++ broken_off 0 (sum_calls row piece)
not_noted row piece bare count sum bytes ok old new is_bare fills counts sums spelled went is =
    is ∙ ap (λ (b : Bool). old ++ record { file = Sums; call = Write (count * 24) bytes; is_ok = b } ∷ []) went
    ∙ ap (λ (s : List Step). old ++ broken_off 0 s) (sym (one_sum row piece bare count sum bytes ok is_bare fills counts sums spelled))

-- the sync was refused
pub broken_at_sync : (at : ℕ) (row : Reach) (piece : List ℕ) (old one two : List Step) (len : ℕ) (a b : Bool)
    → len ≡ at → a ≡ true → b ≡ false
    → one ≡ old ++ record { file = Bytes; call = Write len piece; is_ok = a } ∷ []
    → two ≡ one ++ record { file = Bytes; call = Sync; is_ok = b } ∷ []
    → IsBrokenOff (append_calls at row piece) old two
broken_at_sync at row piece old one two len a b ends wrote refused first second =
    let w : Step = done Bytes (Write at piece) in
    let s : Step = record { file = Bytes; call = Sync; is_ok = false } in
    let one_is : one ≡ old ++ w ∷ [] =
    first ∙ ap (λ (x : Bool). old ++ record { file = Bytes; call = Write len piece; is_ok = x } ∷ []) wrote
    ∙ ap (λ (n : ℕ). old ++ done Bytes (Write n piece) ∷ []) ends in
    let two_is : two ≡ old ++ (w ∷ s ∷ []) =
    second ∙ ap (λ (x : Bool). one ++ record { file = Bytes; call = Sync; is_ok = x } ∷ []) refused
    ∙ ap (λ (l : List Step). l ++ s ∷ []) one_is ∙ append_assoc old (w ∷ []) (s ∷ []) in
    inr (1, (omega arith, two_is))

-- the write of the sum was refused
pub broken_at_sum : (at : ℕ) (row : Reach) (piece : List ℕ) (old one two three : List Step) (len : ℕ) (a b : Bool)
    → len ≡ at → a ≡ true → b ≡ true
    → one ≡ old ++ record { file = Bytes; call = Write len piece; is_ok = a } ∷ []
    → two ≡ one ++ record { file = Bytes; call = Sync; is_ok = b } ∷ []
    → length (sum_calls row piece) ≡ 1 → three ≡ two ++ broken_off 0 (sum_calls row piece)
    → IsBrokenOff (append_calls at row piece) old three
broken_at_sum at row piece old one two three len a b ends wrote synced first second has_one third =
    let w : Step = done Bytes (Write at piece) in
    let s : Step = done Bytes Sync in
    let r : List Step = broken_off 0 (sum_calls row piece) in
    let one_is : one ≡ old ++ w ∷ [] =
    first ∙ ap (λ (x : Bool). old ++ record { file = Bytes; call = Write len piece; is_ok = x } ∷ []) wrote
    ∙ ap (λ (n : ℕ). old ++ done Bytes (Write n piece) ∷ []) ends in
    let two_is : two ≡ old ++ (w ∷ s ∷ []) =
    second ∙ ap (λ (x : Bool). one ++ record { file = Bytes; call = Sync; is_ok = x } ∷ []) synced
    ∙ ap (λ (l : List Step). l ++ s ∷ []) one_is ∙ append_assoc old (w ∷ []) (s ∷ []) in
    let three_is : three ≡ old ++ (w ∷ s ∷ r) =
    third ∙ ap (λ (l : List Step). l ++ r) two_is ∙ append_assoc old (w ∷ s ∷ []) r in
    let counts : length (sum_calls row piece) ≡ 1 = has_one in
    inr (2, (omega arith, three_is))

-- ---- what the disk has

-- one part after the other
pub after_both : (d : Disk) (xs ys : List Step) → after_all d (xs ++ ys) ≡ after_all (after_all d xs) ys
after_both d [] ys = refl
after_both d (x ∷ xs) ys = after_both (after_step x.file x.call x.is_ok d) xs ys

-- both begin with these bytes
pub record Has (bytes : List ℕ) (d : Disk) : Type 0 where
  pub given : take (length bytes) d.given ≡ bytes
  pub stands : take (length bytes) d.stands ≡ bytes

-- the write for a sum changes nothing of the segment's file, whether it is done or not
beside : (d : Disk) (call : Call) (b : Bool) → after_all d (if b then [] else (done Sums call ∷ [])) ≡ d
beside d call true = refl
beside d call false = refl

sum_beside : (d : Disk) (row : Reach) (piece : List ℕ) → after_all d (sum_calls row piece) ≡ d
sum_beside d row piece = beside d (Write (row.count * 24) (sum_bytes (sum_of row piece))) (length piece == 0)

broken_beside : (d : Disk) (call : Call) (n : ℕ) (b : Bool) → after_all d (broken_off n (if b then [] else (done Sums call ∷ []))) ≡ d
broken_beside d call zero true = refl
broken_beside d call zero false = refl
broken_beside d call (suc n) true = refl
broken_beside d call (suc n) false = refl

sum_broken_beside : (d : Disk) (row : Reach) (piece : List ℕ) (n : ℕ) → after_all d (broken_off n (sum_calls row piece)) ≡ d
sum_broken_beside d row piece n = broken_beside d (Write (row.count * 24) (sum_bytes (sum_of row piece))) n (length piece == 0)

fits : (bytes given : List ℕ) → take (length bytes) given ≡ bytes → nat_le (length bytes) (length given) ≡ true
fits bytes given is =
    let counts : min (length bytes) (length given) ≡ length bytes = sym (length-take (length bytes) given) ∙ ap length is in
    le-leb (length bytes) (length given) (omega arith)

-- the piece was given to it
written : (bytes piece : List ℕ) (d : Disk) → Has bytes d → (after (Write (length bytes) piece) true d).given ≡ bytes ++ piece
written bytes piece d has =
    ap (λ (b : Bool). if b then (take (length bytes) d.given ++ piece) else d.given) (fits bytes d.given has.given)
    ∙ ap (λ (l : List ℕ). l ++ piece) has.given

again : (bytes l : List ℕ) → l ≡ bytes → take (length bytes) l ≡ bytes
again bytes l is = ap (λ (x : List ℕ). take (length bytes) x) is ∙ take-length bytes

longer : (bytes piece l : List ℕ) → l ≡ bytes ++ piece → take (length bytes) l ≡ bytes
longer bytes piece l is = ap (λ (x : List ℕ). take (length bytes) x) is ∙ take-append_seam bytes piece

pub ends_with : (bytes piece now : List ℕ) (ends : ℕ) → now ≡ bytes ++ piece → ends ≡ length bytes + length piece → ends ≡ length now
ends_with bytes piece now ends grown is =
    let longer : length now ≡ length (bytes ++ piece) = ap length grown in
    omega (arith, longer ∙ length-append bytes piece)

-- all of an append was done
pub has_piece : (bytes piece : List ℕ) (row : Reach) (d : Disk) → Has bytes d → Has (bytes ++ piece) (after_all d (append_calls (length bytes) row piece))
has_piece bytes piece row d has =
    let given : (after (Write (length bytes) piece) true d).given ≡ bytes ++ piece = written bytes piece d has in
    let now : Disk = after Sync true (after (Write (length bytes) piece) true d) in
    subst (λ (e : Disk). Has (bytes ++ piece) e) (sym (sum_beside now row piece))
    (record { given = again (bytes ++ piece) now.given given; stands = again (bytes ++ piece) now.stands given })

-- an append broke off
pub has_still : (bytes piece : List ℕ) (row : Reach) (d : Disk) (n : ℕ) → Has bytes d
    → Has bytes (after_all d (broken_off n (append_calls (length bytes) row piece)))
has_still bytes piece row d zero has =
    record { given = again bytes (take (length bytes) d.given) has.given; stands = again bytes (take (length bytes) d.stands) has.stands }
has_still bytes piece row d (suc zero) has =
    record { given = again bytes (take (length bytes) d.stands) has.stands; stands = again bytes (take (length bytes) d.stands) has.stands }
has_still bytes piece row d (suc (suc n)) has =
    let given : (after (Write (length bytes) piece) true d).given ≡ bytes ++ piece = written bytes piece d has in
    let now : Disk = after Sync true (after (Write (length bytes) piece) true d) in
    subst (λ (e : Disk). Has bytes e) (sym (sum_broken_beside now row piece n))
    (record { given = longer bytes piece now.given given; stands = longer bytes piece now.stands given })

-- whatever an append was refused for
pub has_old : (bytes piece : List ℕ) (row : Reach) (d : Disk) (old new : List Step) → Has bytes (after_all d old)
    → IsBrokenOff (append_calls (length bytes) row piece) old new → Has bytes (after_all d new)
has_old bytes piece row d old new has (inl same) = subst (λ (l : List Step). Has bytes (after_all d l)) (sym same) has
has_old bytes piece row d old new has (inr (n, (within, is))) =
    subst (λ (l : List Step). Has bytes (after_all d l)) (sym is)
    (subst (λ (e : Disk). Has bytes e) (sym (after_both d old (broken_off n (append_calls (length bytes) row piece))))
    (has_still bytes piece row (after_all d old) n has))

-- after an append
pub has_new : (bytes piece now : List ℕ) (row : Reach) (d : Disk) (old new : List Step) → now ≡ bytes ++ piece → Has bytes (after_all d old)
    → new ≡ old ++ append_calls (length bytes) row piece → Has now (after_all d new)
has_new bytes piece now row d old new grown has is =
    subst (λ (b : List ℕ). Has b (after_all d new)) (sym grown)
    (subst (λ (l : List Step). Has (bytes ++ piece) (after_all d l)) (sym is)
    (subst (λ (e : Disk). Has (bytes ++ piece) e) (sym (after_both d old (append_calls (length bytes) row piece)))
    (has_piece bytes piece row (after_all d old) has)))

-- A segment that is shortened to some length.

use Rattle.std.proofs.Common.{◌≡◌, ℕ, zero, suc, ◌-◌, ◌≤◌, inl, inr, ◌==◌, true, List, [], ◌∷◌, ◌++◌, length, take}
use Rattle.std.proofs.Common.{refl, sym, ap, subst, ◌∙◌, append_assoc, arith}
use Rattle.std.specs.List.{flat_map, AllByRecursion}
use Rattle.std.proofs.lemmas.Bool.{and_parts, and_from, cases_lt}
use Rattle.bw_codec.specs.Bytes.{number_bytes}
use Rattle.bw_codec.specs.Grammar.{agrees, frame_word, frame_bytes_in, head_bytes_in, header_bytes, IsFrameIn, IsTailIn, IsWhole}
use Rattle.bw_record.specs.declared.block.Frame.{Frame}
use Rattle.bw_codec.specs.declared.head.Header.{Header}
use Rattle.bw_codec.proofs.FrontFormat.{agrees_whole, beginnings_are_tails, length-head}
use Rattle.bw_codec.proofs.Heading.{length-header}
use Rattle.bw_log.specs.Segments.{Limits, header_in, segment_frames, IsLive}
use Rattle.bw_log.proofs.Reread.{segment_read}

take_part : {X : Type 0} (xs ys : List X) (n : ℕ) → n ≤ length xs → take n (xs ++ ys) ≡ take n xs
take_part xs ys zero le = refl
take_part [] ys (suc n) le = absurd (omega arith)
take_part (x ∷ xs) ys (suc n) le = ap (λ l. x ∷ l) (take_part xs ys n (omega arith))

take_past : {X : Type 0} (xs ys : List X) (n : ℕ) → length xs ≤ n → take n (xs ++ ys) ≡ xs ++ take (n - length xs) ys
take_past {X} [] ys n le = let e : n ≡ n - length {A = X} [] = omega arith in ap (λ (k : ℕ). take k ys) e
take_past (x ∷ xs) ys zero le = absurd (omega arith)
take_past (x ∷ xs) ys (suc n) le = let e : n - length xs ≡ suc n - length (x ∷ xs) =
    omega arith in ap (λ l. x ∷ l) (take_past xs ys n (omega arith) ∙ ap (λ (k : ℕ). xs ++ take k ys) e)

take_short : {X : Type 0} (xs : List X) (n : ℕ) → length (take n xs) ≤ n
take_short xs zero = omega arith
take_short [] (suc n) = omega arith
take_short (x ∷ xs) (suc n) = let r = take_short xs n in omega arith

take_less : {X : Type 0} (xs : List X) (n : ℕ) → length (take n xs) ≤ length xs
take_less xs zero = omega arith
take_less [] (suc n) = omega arith
take_less (x ∷ xs) (suc n) = let r = take_less xs n in omega arith

agrees_shorter : (word bytes : List ℕ) (n : ℕ) → agrees bytes word ≡ true → agrees (take n bytes) word ≡ true
agrees_shorter [] bytes n h = refl
agrees_shorter (w ∷ ws) bytes zero h = refl
agrees_shorter (w ∷ ws) [] (suc n) h = refl
agrees_shorter (w ∷ ws) (b ∷ bs) (suc n) h = let two =
    and_parts (w == b) (agrees bs ws) h in and_from (w == b) (agrees (take n bs) ws) two.0 (agrees_shorter ws bs n two.1)

-- a beginning of a tail is a tail
pub tail_shortened : (v f : ℕ) (torn : List ℕ) (n : ℕ) → IsTailIn v f torn → IsTailIn v f (take n torn)
tail_shortened v f torn n (inl short) = inl (omega (arith, take_less torn n, short.0), agrees_shorter (frame_word v) torn n short.1)
tail_shortened v f torn n (inr t) =
    let head = t.0 in
    let rest = t.1 in
    let spelled = head_bytes_in v head.number head.body head.blocks in
    let numbers = number_bytes 8 head.number ++ (number_bytes 4 head.body ++ number_bytes 4 head.blocks) in
    let size : length spelled ≡ 20 = length-head v head.number head.body head.blocks in
    elim (cases_lt n 20) [
      | inl less ↦ inl (
        omega (arith, take_short torn n),
        ap (λ (b : List ℕ). agrees (take n b) (frame_word v)) (t.4)
            ∙ agrees_shorter (frame_word v) (spelled ++ rest) n (agrees_whole (frame_word v) (numbers ++ rest)),
      )
      | inr more ↦ inr (
        head,
        take (n - 20) rest,
        t.2,
        omega (arith, take_less rest (n - 20), t.3),
        ap (take n) t.4 ∙ take_past spelled rest n (omega arith) ∙ ap (λ (k : ℕ). spelled ++ take (n - k) rest) size,
      )
    ]

-- so many whole frames, and a tail
pub record Shortened (v f : ℕ) (fs : List Frame) (bytes : List ℕ) : Type 0 where
  pub count : ℕ
  pub rest : List ℕ
  pub tail : IsTailIn v f rest
  pub parts : bytes ≡ flat_map (frame_bytes_in v) (take count fs) ++ rest

pub frames_shortened : (v m f : ℕ) (fs : List Frame) (torn : List ℕ) (n : ℕ) → AllByRecursion (IsFrameIn v m f) fs → IsTailIn v f torn
    → Shortened v f fs (take n (flat_map (frame_bytes_in v) fs ++ torn))
frames_shortened v m f [] torn n laws tail = record { count = 0; rest = take n torn; tail = tail_shortened v f torn n tail; parts = refl }
frames_shortened v m f (x ∷ fs) torn n laws tail =
    let spelled = frame_bytes_in v x in
    let others = flat_map (frame_bytes_in v) fs ++ torn in
    let parts : flat_map (frame_bytes_in v) (x ∷ fs) ++ torn ≡ spelled ++ others = append_assoc spelled (flat_map (frame_bytes_in v) fs) torn in
    elim (cases_lt n (length spelled)) [
      | inl less ↦ record {
        count = 0;
        rest = take n spelled;
        tail = beginnings_are_tails v m f x n laws.0 less;
        parts = ap (take n) parts ∙ take_part spelled others n (omega arith);
      }
      | inr more ↦ (
          let c = frames_shortened v m f fs torn (n - length spelled) laws.1 tail in
          record {
            count = suc c.count;
            rest = c.rest;
            tail = c.tail;
            parts = ap (take n) parts ∙ take_past spelled others n more ∙ ap (λ (l : List ℕ). spelled ++ l) c.parts
                ∙ sym (append_assoc spelled (flat_map (frame_bytes_in v) (take c.count fs)) c.rest);
          })
    ]

all_taken : {X : Type 0} (P : X → Type 0) (n : ℕ) (xs : List X) → AllByRecursion P xs → AllByRecursion P (take n xs)
all_taken P zero xs all = tt
all_taken P (suc n) [] all = tt
all_taken P (suc n) (x ∷ xs) all = (all.0, all_taken P n xs all.1)

-- a live segment that is shortened after its header: live, with a beginning of its frames
pub live_shortened : (l : Limits) (number : ℕ) (bytes : List ℕ) (n : ℕ) → IsLive l number bytes → 24 ≤ n
    → (count : ℕ) × (segment_frames (take n bytes) ≡ take count (segment_frames bytes)) × IsLive l number (take n bytes)
live_shortened l number bytes n live some =
    let h : Header = header_in l number in
    let v = h.version in
    let w = live.whole in
    let fs = segment_frames bytes in
    let size : length (header_bytes h) ≡ 24 = length-header h in
    let c = frames_shortened v h.m h.f fs live.torn (n - 24) w.each w.tail in
    let parts : take n bytes ≡ header_bytes h ++ (flat_map (frame_bytes_in v) (take c.count fs) ++ c.rest) =
    ap (take n) w.parts ∙ take_past (header_bytes h) (flat_map (frame_bytes_in v) fs ++ live.torn) n (omega arith)
    ∙ ap (λ (k : ℕ). header_bytes h ++ take (n - k) (flat_map (frame_bytes_in v) fs ++ live.torn)) size ∙ ap (λ (l : List ℕ). header_bytes h ++ l) c.parts in
    let whole : IsWhole (take n bytes) h (take c.count fs) c.rest =
    record { lawful = w.lawful; each = all_taken (IsFrameIn v h.m h.f) c.count fs w.each; tail = c.tail; parts = parts } in
    let read = segment_read (take n bytes) h (take c.count fs) c.rest whole in
    (c.count, read, record { torn = c.rest; whole = subst (λ (gs : List Frame). IsWhole (take n bytes) h gs c.rest) (sym read) whole })

-- What stands at the front of bytes: a whole frame, a frame that is torn, or neither.

use Rattle.std.proofs.Common.{◌≡◌, ℕ, zero, suc, ◌+◌, ◌-◌, ◌^◌, ◌<◌, ◌≤◌, ◌==◌, ◌&&◌, inl, inr, true, false, if◌then◌else◌, Option, Some, None, List, [], ◌∷◌}
use Rattle.std.proofs.Common.{◌++◌, length, take, drop, nat_lt, nat_le, refl, sym, ap, subst, ◌∙◌, append_assoc, append-nil, arith, length-append, length-take}
use Rattle.std.proofs.lemmas.Bool.{ltb-false, ltb-true, le-ltb, lt-ltb, leb-true, le-leb, eqb-true, eq-eqb, and_parts, and_from, cases_lt}
use Rattle.std.proofs.lemmas.List.{take_at, take-append-drop, nil_from_length, length-take-le, append_cancel_left}
use Rattle.std.proofs.Math.Seq.{take-append-add}
use Rattle.byteorder.specs.Numbers.{length-bytes_low_first}
use Rattle.bw_codec.specs.Bytes.{number_bytes}
use Rattle.bw_record.specs.Keys.{IsBytes}
use Rattle.bw_codec.specs.Grammar.{block_bytes_in, body_bytes_in, frame_word, head_bytes_in, frame_bytes_in, agrees, is_head, IsHead, IsBlockIn}
use Rattle.bw_codec.specs.Grammar.{IsFrameIn, IsFront}
use Rattle.std.specs.Prelude.{Result, Ok, Err, IfOk}
use Rattle.bw_codec.specs.declared.fault.CodecFault.{CodecFault}
use Rattle.bw_codec.specs.Reading.{◌>>=◌, Gives, number_at, many_at, block_at, head_at, front_at}
use Rattle.bw_codec.specs.Laws.{OneSpelling, BeginningsAreTails}
use Rattle.bw_record.specs.declared.block.Block.{Block}
use Rattle.bw_record.specs.declared.block.Frame.{Frame}
use Rattle.bw_codec.specs.declared.head.Head.{Head}
use Rattle.bw_codec.specs.declared.head.FrameRead.{FrameRead}
use Rattle.bw_codec.specs.declared.head.FrameRead.TheVariants.{Whole, Tail}
use Rattle.bw_codec.proofs.Format.{Takes, bytes_after, bytes_before, found, takes_as, bind_some, held, then_parts, again_on, number_format}
use Rattle.bw_codec.proofs.BlockFormat.{many_takes, many_again, block_format}

-- ---- the word in front

pub length-number : (n x : ℕ) → length (number_bytes n x) ≡ n
unfolding number_bytes
length-number n x = length-bytes_low_first 0 n x

-- bytes long enough that agree with a word begin with it
pub agrees_begins : (word bytes : List ℕ) → length word ≤ length bytes → agrees bytes word ≡ true → bytes ≡ word ++ drop (length word) bytes
agrees_begins [] bytes long same = refl
agrees_begins (w ∷ ws) [] long same = absurd (omega arith)
agrees_begins (w ∷ ws) (b ∷ bs) long same =
    let both = and_parts (w == b) (agrees bs ws) same in
    let others = agrees_begins ws bs (omega arith) both.1 in
    let first : b ≡ w = sym (eqb-true w b both.0) in
    ap (λ (x : ℕ). x ∷ bs) first ∙ ap (λ (r : List ℕ). w ∷ r) others

-- a beginning of what begins with a word agrees with it
pub agrees_shortened : (word rest : List ℕ) (n : ℕ) → agrees (take n (word ++ rest)) word ≡ true
agrees_shortened [] rest n = refl
agrees_shortened (w ∷ ws) rest zero = refl
agrees_shortened (w ∷ ws) rest (suc n) = and_from (w == w) (agrees (take n (ws ++ rest)) ws) (eq-eqb w w refl) (agrees_shortened ws rest n)

pub agrees_whole : (word rest : List ℕ) → agrees (word ++ rest) word ≡ true
agrees_whole [] rest = refl
agrees_whole (w ∷ ws) rest = and_from (w == w) (agrees (ws ++ rest) ws) (eq-eqb w w refl) (agrees_whole ws rest)

-- ---- the head

tested : (f : ℕ) (h : Head) → is_head f h ≡ true → h.number < 2 ^ 64 → h.blocks < 2 ^ 32 → IsHead f h.number h.body h.blocks
tested f h is number blocks =
    let a = and_parts (nat_lt 0 h.number && nat_le 8 h.body && nat_le (h.body + 20) f) (nat_lt 0 h.blocks) is in
    let b = and_parts (nat_lt 0 h.number && nat_le 8 h.body) (nat_le (h.body + 20) f) a.0 in
    let c = and_parts (nat_lt 0 h.number) (nat_le 8 h.body) b.0 in
    record {
      numbered = (ltb-true 0 h.number c.0, number);
      fits = (leb-true 8 h.body c.1, leb-true (h.body + 20) f b.1);
      some = (ltb-true 0 h.blocks a.1, blocks);
    }

passes : (f : ℕ) (h : Head) → IsHead f h.number h.body h.blocks → is_head f h ≡ true
passes f h law =
    and_from (nat_lt 0 h.number && nat_le 8 h.body && nat_le (h.body + 20) f) (nat_lt 0 h.blocks)
    (and_from (nat_lt 0 h.number && nat_le 8 h.body) (nat_le (h.body + 20) f)
    (and_from (nat_lt 0 h.number) (nat_le 8 h.body) (lt-ltb 0 h.number law.numbered.0) (le-leb 8 h.body law.fits.0))
    (le-leb (h.body + 20) f law.fits.1))
    (lt-ltb 0 h.blocks law.some.0)

-- the spelling of a head, and when it is lawful
abbrev pub spelled_head : (v : ℕ) → Head → List ℕ
spelled_head v h = head_bytes_in v h.number h.body h.blocks

abbrev pub LawfulHead : ℕ → Head → Type 0
LawfulHead f h = IsHead f h.number h.body h.blocks

head_takes : (v : ℕ) → (f : ℕ) (bytes : List ℕ) (x : Head) (rest : List ℕ) → 20 ≤ length bytes → IsBytes bytes → head_at v f bytes ≡ Some (x, rest)
    → Takes (spelled_head v) (LawfulHead f) bytes x rest
unfolding head_at
head_takes v f bytes x rest long fits read =
    let word = held (agrees bytes (frame_word v))
    (number_at 8 (drop 4 bytes) >>= λ number. number_at 4 number.1 >>= λ body. number_at 4 body.1 >>= λ blocks. if is_head f
    (record { number = number.0; body = body.0; blocks = blocks.0 }) then Some (record { number = number.0; body = body.0; blocks = blocks.0 }, blocks.1)
    else None) (x, rest) read in
    let front : bytes ≡ (frame_word v) ++ drop 4 bytes = agrees_begins (frame_word v) bytes (omega arith) word.0 in
    let n = bind_some (number_at 8 (drop 4 bytes))
    (λ number. number_at 4 number.1 >>= λ body. number_at 4 body.1 >>= λ blocks. if is_head f
    (record { number = number.0; body = body.0; blocks = blocks.0 }) then Some (record { number = number.0; body = body.0; blocks = blocks.0 }, blocks.1)
    else None) (x, rest) word.1 in
    let number = (number_format 8).takes (drop 4 bytes) n.0.0 n.0.1 (bytes_after bytes (frame_word v) (drop 4 bytes) front fits) n.1 in
    let d = bind_some (number_at 4 n.0.1) (λ body. number_at 4 body.1 >>= λ blocks. if is_head f (record { number = n.0.0; body = body.0; blocks = blocks.0 })
    then Some (record { number = n.0.0; body = body.0; blocks = blocks.0 }, blocks.1) else None) (x, rest) n.2 in
    let body = (number_format 4).takes n.0.1 d.0.0 d.0.1 number.others d.1 in
    let b = bind_some (number_at 4 d.0.1) (λ blocks. if is_head f (record { number = n.0.0; body = d.0.0; blocks = blocks.0 }) then Some
    (record { number = n.0.0; body = d.0.0; blocks = blocks.0 }, blocks.1) else None) (x, rest) d.2 in
    let blocks = (number_format 4).takes d.0.1 b.0.0 b.0.1 body.others b.1 in
    let head : Head = record { number = n.0.0; body = d.0.0; blocks = b.0.0 } in
    let lawful = held (is_head f head) (Some (head, b.0.1)) (x, rest) b.2 in
    let body_parts = then_parts n.0.1 (number_bytes 4 d.0.0) (number_bytes 4 b.0.0) d.0.1 b.0.1 body.parts blocks.parts in
    let number_parts = then_parts (drop 4 bytes) (number_bytes 8 n.0.0) (number_bytes 4 d.0.0 ++ number_bytes 4 b.0.0) n.0.1 b.0.1 number.parts body_parts in
    takes_as (spelled_head v) (LawfulHead f) bytes (head, b.0.1) (x, rest) (found lawful.1)
    (record {
      parts = then_parts bytes (frame_word v) (number_bytes 8 n.0.0 ++ (number_bytes 4 d.0.0 ++ number_bytes 4 b.0.0)) (drop 4 bytes) b.0.1 front number_parts;
      lawful = tested f head lawful.0 number.lawful blocks.lawful;
      others = blocks.others;
    })

head_again : (v : ℕ) → (f : ℕ) (x : Head) (rest : List ℕ) → x.body < 2 ^ 32 → LawfulHead f x → head_at v f (spelled_head v x ++ rest) ≡ Some (x, rest)
unfolding head_at
head_again v f x rest small law =
    let numbers = number_bytes 8 x.number ++ (number_bytes 4 x.body ++ number_bytes 4 x.blocks) in
    let word : agrees (spelled_head v x ++ rest) (frame_word v) ≡ true = agrees_whole (frame_word v) (numbers ++ rest) in
    rw (
      word,
      again_on (number_bytes 8) (λ n. n < 256 ^ 8) (number_at 8) (number_format 8) x.number (number_bytes 4 x.body ++ number_bytes 4 x.blocks)
          rest law.numbered.1,
      again_on (number_bytes 4) (λ n. n < 256 ^ 4) (number_at 4) (number_format 4) x.body (number_bytes 4 x.blocks) rest small,
      (number_format 4).again x.blocks rest law.some.1,
      passes f x law,
    ) refl

pub length-head : (v : ℕ) → (number body blocks : ℕ) → length (head_bytes_in v number body blocks) ≡ 20
length-head v number body blocks =
    let a = length-number 8 number in
    let b = length-number 4 body in
    let c = length-number 4 blocks in
    omega (
      arith,
      a,
      b,
      c,
      length-append (number_bytes 8 number) (number_bytes 4 body ++ number_bytes 4 blocks),
      length-append (number_bytes 4 body) (number_bytes 4 blocks),
    )

-- ---- the front

frame_there : (v : ℕ) → (m f : ℕ) (bytes : List ℕ) (h : Head) (rest : List ℕ) (blocks : List Block) (left : List ℕ) → m < 2 ^ 16 → IsBytes rest
    → bytes ≡ spelled_head v h ++ rest → LawfulHead f h → h.body ≤ length rest
    → many_at (block_at v m) h.blocks (take h.body rest) ≡ Some (blocks, left) → length left ≡ 0
    → IsFront v m f bytes (Whole (record { number = h.number; blocks = blocks }) (h.body + 20))
frame_there v m f bytes h rest blocks left small fits parts law long read none =
    let many = many_takes (block_bytes_in v) (IsBlockIn v m) (block_at v m) (block_format v m small) h.blocks (take h.body rest) blocks left
    (bytes_before h.body rest fits) read in
    let spelled : take h.body rest ≡ body_bytes_in v blocks =
    many.parts ∙ ap (λ (r : List ℕ). body_bytes_in v blocks ++ r) (nil_from_length left none) ∙ append-nil (body_bytes_in v blocks) in
    let size : length (body_bytes_in v blocks) ≡ h.body = ap (λ (r : List ℕ). length r) (sym spelled) ∙ length-take-le h.body rest long in
    let count : length blocks ≡ h.blocks = many.lawful.0 in
    let frame : Frame = record { number = h.number; blocks = blocks } in
    let head : head_bytes_in v h.number (length (body_bytes_in v blocks)) (length blocks) ≡ spelled_head v h =
    ap (λ (n : ℕ). head_bytes_in v h.number n (length blocks)) size ∙ ap (λ (n : ℕ). head_bytes_in v h.number h.body n) count in
    let tail : rest ≡ body_bytes_in v blocks ++ drop h.body rest = sym (take-append-drop h.body rest) ∙ ap (λ (r : List ℕ). r ++ drop h.body rest) spelled in
    let front : bytes ≡ head_bytes_in v h.number (length (body_bytes_in v blocks)) (length blocks) ++ rest = parts
    ∙ ap (λ (r : List ℕ). r ++ rest) (sym head) in
    let lawful : IsFrameIn v m f frame = record {
      head = record {
        numbered = law.numbered;
        fits = subst (λ (n : ℕ). (8 ≤ n) × (n + 20 ≤ f)) (sym size) law.fits;
        some = subst (λ (n : ℕ). (1 ≤ n) × (n < 2 ^ 32)) (sym count) law.some;
      };
      blocks = many.lawful.1;
    } in
    let used : h.body + 20 ≡ length (frame_bytes_in v frame) =
    omega (
      arith,
      size,
      (length-head v) h.number (length (body_bytes_in v blocks)) (length blocks),
      length-append (head_bytes_in v h.number (length (body_bytes_in v blocks)) (length blocks)) (body_bytes_in v blocks),
    ) in (
      lawful,
      drop h.body rest,
      then_parts bytes (head_bytes_in v h.number (length (body_bytes_in v blocks)) (length blocks)) (body_bytes_in v blocks) rest
          (drop h.body rest) front tail,
      used,
    )

-- what is read at the front stands there
pub front_is : (v : ℕ) → (m f : ℕ) (bytes : List ℕ) (read : FrameRead) → m < 2 ^ 16 → IsBytes bytes → front_at v m f bytes ≡ Some read
    → IsFront v m f bytes read
unfolding front_at
front_is v m f bytes read small fits e =
    elim (nat_lt (length bytes) 20) as (λ t. nat_lt (length bytes) 20 ≡ t
    → (if t then (if agrees bytes (frame_word v) then Some Tail else None) else
    (head_at v f bytes >>= λ head. if nat_lt (length head.1) head.0.body then Some Tail else
    (many_at (block_at v m) head.0.blocks (take head.0.body head.1) >>= λ blocks. if length blocks.1 == 0 then Some
    (Whole (record { number = head.0.number; blocks = blocks.0 }) (head.0.body + 20)) else None))) ≡ Some read → IsFront v m f bytes read) [
      | true ↦ λ short front. (
          let word = held (agrees bytes (frame_word v)) (Some Tail) read front in
          subst (IsFront v m f bytes) (found word.1) (inl (ltb-true (length bytes) 20 short, word.0)))
      | false ↦ λ long front. (
          let h = bind_some (head_at v f bytes) (λ head. if nat_lt (length head.1) head.0.body then Some Tail else
          (many_at (block_at v m) head.0.blocks (take head.0.body head.1) >>= λ blocks. if length blocks.1 == 0 then Some
          (Whole (record { number = head.0.number; blocks = blocks.0 }) (head.0.body + 20)) else None)) read front in
          let head = head_takes v f bytes h.0.0 h.0.1 (ltb-false (length bytes) 20 long) fits h.1 in
          elim (nat_lt (length h.0.1) h.0.0.body) as
          (λ t. nat_lt (length h.0.1) h.0.0.body ≡ t
          → (if t then Some Tail else (many_at (block_at v m) h.0.0.blocks (take h.0.0.body h.0.1) >>= λ blocks. if length blocks.1 == 0 then Some
          (Whole (record { number = h.0.0.number; blocks = blocks.0 }) (h.0.0.body + 20)) else None)) ≡ Some read → IsFront v m f bytes read) [
            | true ↦ λ torn tail. subst (IsFront v m f bytes) (found tail) (inr (h.0.0, h.0.1, head.lawful, ltb-true (length h.0.1) h.0.0.body torn, head.parts))
            | false ↦ λ there whole. (
                let b = bind_some (many_at (block_at v m) h.0.0.blocks (take h.0.0.body h.0.1))
                (λ blocks. if length blocks.1 == 0 then Some (Whole (record { number = h.0.0.number; blocks = blocks.0 }) (h.0.0.body + 20)) else
                None) read whole in
                let none = held (length b.0.1 == 0) (Some (Whole (record { number = h.0.0.number; blocks = b.0.0 }) (h.0.0.body + 20))) read b.2 in
                subst (IsFront v m f bytes) (found none.1) (frame_there v m f bytes h.0.0 h.0.1 b.0.0 b.0.1 small head.others head.parts head.lawful
                (ltb-false (length h.0.1) h.0.0.body there) b.1 (eqb-true (length b.0.1) 0 none.0)))
          ] refl h.2)
    ] refl e

tail_read : (v : ℕ) → (m f : ℕ) (h : Head) (rest : List ℕ) → f < 2 ^ 32 → LawfulHead f h → length rest < h.body
    → front_at v m f (spelled_head v h ++ rest) ≡ Some Tail
unfolding front_at
tail_read v m f h rest limit law torn =
    let fits = law.fits in
    let long : nat_lt (length (spelled_head v h ++ rest)) 20 ≡ false =
    le-ltb (length (spelled_head v h ++ rest)) 20 (omega (arith, length-head v h.number h.body h.blocks, length-append (spelled_head v h) rest)) in
    rw (long, head_again v f h rest (omega arith) law, lt-ltb (length rest) h.body torn) refl

frame_read : (v : ℕ) → (m f : ℕ) (frame : Frame) (rest : List ℕ) → m < 2 ^ 16 → f < 2 ^ 32 → IsFrameIn v m f frame
    → front_at v m f (frame_bytes_in v frame ++ rest) ≡ Some (Whole frame (length (body_bytes_in v frame.blocks) + 20))
unfolding front_at
frame_read v m f frame rest small limit law =
    let h : Head = record { number = frame.number; body = length (body_bytes_in v frame.blocks); blocks = length frame.blocks } in
    let fits = law.head.fits in
    let size : length (frame_bytes_in v frame ++ rest) ≡ length (spelled_head v h) + length (body_bytes_in v frame.blocks) + length rest =
    omega (arith, length-append (frame_bytes_in v frame) rest, length-append (spelled_head v h) (body_bytes_in v frame.blocks)) in
    let long : nat_lt (length (frame_bytes_in v frame ++ rest)) 20 ≡ false =
    le-ltb (length (frame_bytes_in v frame ++ rest)) 20 (omega (arith, size, length-head v h.number h.body h.blocks)) in
    let assoc : frame_bytes_in v frame ++ rest ≡ spelled_head v h ++ (body_bytes_in v frame.blocks ++ rest) =
    append_assoc (spelled_head v h) (body_bytes_in v frame.blocks) rest in
    let head : head_at v f (frame_bytes_in v frame ++ rest) ≡ Some (h, body_bytes_in v frame.blocks ++ rest) =
    ap (head_at v f) assoc ∙ head_again v f h (body_bytes_in v frame.blocks ++ rest) (omega arith) law.head in
    let there : nat_lt (length (body_bytes_in v frame.blocks ++ rest)) h.body ≡ false =
    le-ltb (length (body_bytes_in v frame.blocks ++ rest)) h.body (omega (arith, length-append (body_bytes_in v frame.blocks) rest)) in
    let body : take h.body (body_bytes_in v frame.blocks ++ rest) ≡ body_bytes_in v frame.blocks ++ [] =
    take_at (body_bytes_in v frame.blocks) rest h.body refl ∙ sym (append-nil (body_bytes_in v frame.blocks)) in
    let blocks : many_at (block_at v m) h.blocks (take h.body (body_bytes_in v frame.blocks ++ rest)) ≡ Some (frame.blocks, []) =
    ap (many_at (block_at v m) h.blocks) body ∙ many_again (block_bytes_in v) (IsBlockIn v m) (block_at v m) (block_format v m small) frame.blocks []
    law.blocks in
    rw (long, head, there, blocks) refl

short_read : (v : ℕ) → (m f : ℕ) (bytes : List ℕ) → length bytes < 20 → agrees bytes (frame_word v) ≡ true → front_at v m f bytes ≡ Some Tail
unfolding front_at
short_read v m f bytes short word = rw (lt-ltb (length bytes) 20 short, word) refl

-- what stands at the front is read
pub is_front : (v : ℕ) → (m f : ℕ) (bytes : List ℕ) (read : FrameRead) → m < 2 ^ 16 → f < 2 ^ 32 → IsFront v m f bytes read → front_at v m f bytes ≡ Some read
is_front v m f bytes (Whole frame used) small limit front =
    let size : length (body_bytes_in v frame.blocks) + 20 ≡ used =
    omega (
      arith,
      front.3,
      (length-head v) frame.number (length (body_bytes_in v frame.blocks)) (length frame.blocks),
      length-append (head_bytes_in v frame.number (length (body_bytes_in v frame.blocks)) (length frame.blocks)) (body_bytes_in v frame.blocks),
    ) in
    ap (front_at v m f) front.2 ∙ frame_read v m f frame front.1 small limit front.0 ∙ ap (λ (n : ℕ). Some (Whole frame n)) size
is_front v m f bytes Tail small limit (inl short) = short_read v m f bytes short.0 short.1
is_front v m f bytes Tail small limit (inr torn) = ap (front_at v m f) torn.4 ∙ tail_read v m f torn.0 torn.1 limit torn.2 torn.3

-- ---- laws

pub one_spelling : OneSpelling
one_spelling v m f small limit a b x y law_a law_b same =
    let read_a = frame_read v m f a x small limit law_a in
    let read_b = frame_read v m f b y small limit law_b in
    let reads : Some (Whole a (length (body_bytes_in v a.blocks) + 20)) ≡ Some (Whole b (length (body_bytes_in v b.blocks) + 20)) =
    sym read_a ∙ ap (front_at v m f) same ∙ read_b in
    let frames : a ≡ b = cc in
    (frames, append_cancel_left (frame_bytes_in v b) x y (ap (λ (c : Frame). frame_bytes_in v c ++ x) (sym frames) ∙ same))

take_over : (xs ys : List ℕ) (n : ℕ) → length xs ≤ n → take n (xs ++ ys) ≡ xs ++ take (n - length xs) ys
take_over xs ys n h = ap (λ (k : ℕ). take k (xs ++ ys)) (omega arith) ∙ take-append-add xs ys (n - length xs)

agrees_word : (v : ℕ) → (a : Frame) (n : ℕ) → agrees (take n (frame_bytes_in v a)) (frame_word v) ≡ true
agrees_word v a n =
    let body = body_bytes_in v a.blocks in
    agrees_shortened (frame_word v) ((number_bytes 8 a.number ++ (number_bytes 4 (length body) ++ number_bytes 4 (length a.blocks))) ++ body) n

pub beginnings_are_tails : BeginningsAreTails
beginnings_are_tails v m f a n law short =
    let body = body_bytes_in v a.blocks in
    let h : Head = record { number = a.number; body = length body; blocks = length a.blocks } in
    let head = length-head v h.number h.body h.blocks in
    elim (cases_lt n 20) [
      | inl inside ↦ inl (omega (arith, length-take n (frame_bytes_in v a)), agrees_word v a n)
      | inr beyond ↦ (
          let fewer : length (take (n - 20) body) < length body = omega (arith, length-take (n - 20) body, length-append (spelled_head v h) body) in
          let same : take n (frame_bytes_in v a) ≡ spelled_head v h ++ take (n - 20) body =
          take_over (spelled_head v h) body n (omega arith) ∙ ap (λ (k : ℕ). spelled_head v h ++ take (n - k) body) head in
          inr (h, take (n - 20) body, law.head, fewer, same))
    ]

-- ---- what a reader's answer says

pub found_there : (v : ℕ) → (m f : ℕ) (bytes : List ℕ) (result : Result FrameRead CodecFault) → m < 2 ^ 16 → IsBytes bytes
    → Gives (λ (x : FrameRead). x) result (front_at v m f bytes) → IfOk result (IsFront v m f bytes)
found_there v m f bytes (Ok read) small fits gives = front_is v m f bytes read small fits gives
found_there v m f bytes (Err fault) small fits gives = tt

pub only_there : (v : ℕ) → (m f : ℕ) (bytes : List ℕ) (result : Result FrameRead CodecFault) → m < 2 ^ 16 → f < 2 ^ 32
    → Gives (λ (x : FrameRead). x) result (front_at v m f bytes) → (read : FrameRead) → IsFront v m f bytes read
    → Gives (λ (x : FrameRead). x) result (Some read)
only_there v m f bytes result small limit gives read front =
    subst (λ (o : Option FrameRead). Gives (λ (x : FrameRead). x) result o) (is_front v m f bytes read small limit front) gives

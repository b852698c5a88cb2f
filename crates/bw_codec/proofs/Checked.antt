-- What is said of bytes that are checked is said of what would be read.

use Rattle.std.proofs.Common.{◌≡◌, ℕ, zero, suc, ◌+◌, ◌-◌, ◌<◌, nat_lt, Bool, true, false, if◌then◌else◌, Option, Some, None, Result, Ok, Err, IfOk, IfErr, ◌^◌, List, ◌∷◌, refl, sym, ap, subst, ◌∙◌, arith}
use Rattle.std.specs.Option.{option_map}
use Rattle.bw_record.specs.Keys.{is_below, ascends, IsBytes}
use Rattle.bw_codec.specs.Grammar.{IsFront}
use Rattle.bw_codec.specs.Reading.{Found, ◌>>=◌, Says, Gives, number_at, pair_at, pairs_at, many_at, front_at}
use Rattle.bw_codec.specs.Skipping.{many_after}
use Rattle.bw_codec.specs.Checking.{past, keyed, rising_after, led_by, seen_of, IsSeen}
use Rattle.bw_codec.specs.declared.head.FrameRead.{FrameRead}
use Rattle.bw_codec.specs.declared.check.FrameSeen.{FrameSeen}
use Rattle.bw_codec.specs.declared.fault.CodecFault.{CodecFault}
use Rattle.bw_codec.specs.declared.fault.CodecFault.TheVariants.{NoMemory, BadBytes}
use Rattle.bw_codec.proofs.Format.{found}
use Rattle.bw_codec.proofs.FrontFormat.{front_is, is_front}
use Rattle.bw_codec.proofs.Stepping.{no_both, steps_fault, steps_done}

abbrev Pair : Type 0
Pair = List ℕ × List ℕ

-- ---- many things, of which none is kept

-- what was made of what was read stands before the same bytes
pub past_made : {X Y : Type 0} (make : X → Y) (read : Found X) → past (read >>= λ x. Some (make x.0, x.1)) ≡ past read
past_made make None = refl
past_made make (Some x) = refl

pub past_many : {X : Type 0} (one : List ℕ → Found X) (n : ℕ) (bytes : List ℕ) → past (many_at one n bytes) ≡ many_after (λ b. past (one b)) n bytes
unfolding many_at many_after
past_many one zero bytes = refl
past_many {X} one (suc n) bytes =
    let step : (o : Found X) → past (o >>= λ first. many_at one n first.1 >>= λ others. Some (first.0 ∷ others.0, others.1))
    ≡ (past o >>= λ rest. many_after (λ b. past (one b)) n rest) =
    λ o. elim o as (λ o. past (o >>= λ first. many_at one n first.1 >>= λ others. Some (first.0 ∷ others.0, others.1))
    ≡ (past o >>= λ rest. many_after (λ b. past (one b)) n rest)) [
      | None ↦ refl
      | Some x ↦ past_made (λ (others : List X). x.0 ∷ others) (many_at one n x.1) ∙ past_many one n x.1
    ] in
    step (one bytes)

-- a loop over things of which none is kept: it met a fault, and it ended
pub past_fault : {X : Type 0} (one : List ℕ → Found X) (count i : ℕ) (bytes rest : List ℕ) (fault : CodecFault) → i < count
    → many_after (λ b. past (one b)) (count - i) rest ≡ many_after (λ b. past (one b)) count bytes → Says fault (past (one rest))
    → Says fault (past (many_at one count bytes))
past_fault one count i bytes rest fault h so_far says =
    subst (Says fault) (sym (past_many one count bytes)) (steps_fault (λ b. past (one b)) count i bytes rest fault h so_far says)

pub past_done : {X : Type 0} (one : List ℕ → Found X) (count i : ℕ) (bytes rest : List ℕ) → i ≡ count
    → many_after (λ b. past (one b)) (count - i) rest ≡ many_after (λ b. past (one b)) count bytes → past (many_at one count bytes) ≡ Some rest
past_done one count i bytes rest all so_far = past_many one count bytes ∙ steps_done (λ b. past (one b)) count i bytes rest all so_far

-- ---- pairs

-- pairs that were read, if their keys ascend after those of others
abbrev risen : List Pair → Found (List Pair) → Found (List Pair)
risen before read = read >>= λ ps. if ascends ps.0 then Some ps else None

abbrev behind : Pair → Found (List Pair) → Found (List Pair)
behind p read = read >>= λ others. Some (p ∷ others.0, others.1)

-- pairs that were read, if they ascend after this one
abbrev rising : Pair → Found (List Pair) → Found (List Pair)
rising p read = read >>= λ ps. if ascends (p ∷ ps.0) then Some ps else None

past_if : (c : Bool) (xs ys : List Pair) (rest : List ℕ)
    → past (let o : Found (List Pair) = if c then Some (xs, rest) else None in o) ≡ past (let o : Found (List Pair) = if c then Some (ys, rest) else None in o)
past_if true xs ys rest = refl
past_if false xs ys rest = refl

one_more : (p q : Pair) (b : Bool) → is_below p.0 q.0 ≡ b → (read : Found (List Pair))
    → past (rising p (behind q read)) ≡ (if b then past (rising q read) else None)
one_more p q true is None = refl
one_more p q false is None = refl
one_more p q true is (Some others) = rw is (past_if (ascends (q ∷ others.0)) (q ∷ others.0) others.0 others.1)
one_more p q false is (Some others) = rw is refl

pub rises : (v n : ℕ) (p : Pair) (bytes : List ℕ) → past (rising p (many_at (pair_at v) n bytes)) ≡ rising_after v n p.0 bytes
unfolding many_at rising_after
rises v zero p bytes = refl
rises v (suc n) p bytes =
    let step : (o : Found Pair) → past (rising p (o >>= λ first. behind first.0 (many_at (pair_at v) n first.1)))
    ≡ (keyed o >>= λ pair. if is_below p.0 pair.0 then rising_after v n pair.0 pair.1 else None) =
    λ o. elim o as (λ o. past (rising p (o >>= λ first. behind first.0 (many_at (pair_at v) n first.1)))
    ≡ (keyed o >>= λ pair. if is_below p.0 pair.0 then rising_after v n pair.0 pair.1 else None)) [
      | None ↦ refl
      | Some x ↦ one_more p x.0 (is_below p.0 x.0.0) refl (many_at (pair_at v) n x.1) ∙ ap (λ (o : Option (List ℕ)). if is_below p.0 x.0.0 then o else None) (rises v n x.0 x.1)
    ] in
    step (pair_at v bytes)

-- ---- the loop over pairs

rising_step : (v n : ℕ) (before bytes : List ℕ) → rising_after v (suc n) before bytes
    ≡ (keyed (pair_at v bytes) >>= λ pair. if is_below before pair.0 then rising_after v n pair.0 pair.1 else None)
unfolding rising_after
rising_step v n before bytes = refl

rising_next : (v count i : ℕ) (before bytes : List ℕ) (o : Found (List ℕ)) → i < count → keyed (pair_at v bytes) ≡ o
    → rising_after v (count - i) before bytes ≡ (o >>= λ pair. if is_below before pair.0 then rising_after v (count - (i + 1)) pair.0 pair.1 else None)
rising_next v count i before bytes o h e =
    let n : count - i ≡ suc (count - (i + 1)) = omega arith in
    ap (λ k. rising_after v k before bytes) n ∙ rising_step v (count - (i + 1)) before bytes
    ∙ ap (λ (o : Found (List ℕ)). o >>= λ pair. if is_below before pair.0 then rising_after v (count - (i + 1)) pair.0 pair.1 else None) e

-- one pair more was passed
pub rising_on : (v count i : ℕ) (before bytes next rest : List ℕ) → i < count → keyed (pair_at v bytes) ≡ Some (next, rest)
    → is_below before next ≡ true → rising_after v (count - i) before bytes ≡ rising_after v (count - (i + 1)) next rest
rising_on v count i before bytes next rest h e above = rising_next v count i before bytes (Some (next, rest)) h e ∙ rw above refl

-- one pair was not there
pub rising_stop : (v count i : ℕ) (before bytes : List ℕ) → i < count → keyed (pair_at v bytes) ≡ None
    → rising_after v (count - i) before bytes ≡ None
rising_stop v count i before bytes h e = rising_next v count i before bytes None h e

-- a key was not above the one before
pub rising_not : (v count i : ℕ) (before bytes next rest : List ℕ) → i < count → keyed (pair_at v bytes) ≡ Some (next, rest)
    → is_below before next ≡ false → rising_after v (count - i) before bytes ≡ None
rising_not v count i before bytes next rest h e above = rising_next v count i before bytes (Some (next, rest)) h e ∙ rw above refl

-- all were passed
pub rising_end : (v count : ℕ) (before bytes : List ℕ) → rising_after v (count - count) before bytes ≡ Some bytes
unfolding rising_after
rising_end v count before bytes = let n : count - count ≡ 0 = omega arith in ap (λ k. rising_after v k before bytes) n

-- ---- a page's pairs

-- of pairs that were read, whether their keys ascend
abbrev judged : Found (List Pair) → Found (List Pair)
judged read = read >>= λ ps. if ascends ps.0 then Some ps else None

pub pairs_judged : (v m count : ℕ) (bytes rest : List ℕ) → number_at 2 bytes ≡ Some (count, rest) → nat_lt m count ≡ false
    → pairs_at v m bytes ≡ judged (many_at (pair_at v) count rest)
unfolding pairs_at
pairs_judged v m count bytes rest read few = rw (read, few) refl

pub pairs_many : (v m count : ℕ) (bytes rest : List ℕ) → number_at 2 bytes ≡ Some (count, rest) → nat_lt m count ≡ true → pairs_at v m bytes ≡ None
unfolding pairs_at
pairs_many v m count bytes rest read few = rw (read, few) refl

pub pairs_none : (v m : ℕ) (bytes : List ℕ) → number_at 2 bytes ≡ None → pairs_at v m bytes ≡ None
unfolding pairs_at
pairs_none v m bytes read = rw read refl

-- no pairs
pub led_empty : (v count : ℕ) (bytes : List ℕ) → count ≡ 0 → led_by (judged (many_at (pair_at v) count bytes)) ≡ Some (None, bytes)
unfolding many_at
led_empty v count bytes zeros = ap (λ n. led_by (judged (many_at (pair_at v) n bytes))) zeros

led_if : (c : Bool) (p : Pair) (others : List Pair) (rest : List ℕ)
    → led_by (let o : Found (List Pair) = if c then Some (p ∷ others, rest) else None in o)
    ≡ (past (let o : Found (List Pair) = if c then Some (others, rest) else None in o) >>= λ after. Some (Some p.0, after))
led_if true p others rest = refl
led_if false p others rest = refl

led_behind : (p : Pair) (read : Found (List Pair)) → led_by (judged (behind p read)) ≡ (past (rising p read) >>= λ after. Some (Some p.0, after))
led_behind p None = refl
led_behind p (Some others) = led_if (ascends (p ∷ others.0)) p others.0 others.1

led_many : (v n : ℕ) (bytes : List ℕ) (o : Found Pair) → pair_at v bytes ≡ o
    → led_by (judged (many_at (pair_at v) (suc n) bytes)) ≡ (keyed o >>= λ pair. rising_after v n pair.0 pair.1 >>= λ after. Some (Some pair.0, after))
unfolding many_at
led_many v n bytes None e = rw e refl
led_many v n bytes (Some x) e =
    rw e (led_behind x.0 (many_at (pair_at v) n x.1)) ∙ ap (λ (o : Option (List ℕ)). o >>= λ after. Some (Some x.0.0, after)) (rises v n x.0 x.1)

-- some pairs: the first, and those after it
pub led_some : (v count : ℕ) (bytes : List ℕ) (o : Found (List ℕ)) → 0 < count → keyed (pair_at v bytes) ≡ o
    → led_by (judged (many_at (pair_at v) count bytes)) ≡ (o >>= λ pair. rising_after v (count - 1) pair.0 pair.1 >>= λ after. Some (Some pair.0, after))
led_some v count bytes o some e =
    let n : count ≡ suc (count - 1) = omega arith in
    ap (λ k. led_by (judged (many_at (pair_at v) k bytes))) n ∙ led_many v (count - 1) bytes (pair_at v bytes) refl
    ∙ ap (λ (o : Found (List ℕ)). o >>= λ pair. rising_after v (count - 1) pair.0 pair.1 >>= λ after. Some (Some pair.0, after)) e

-- ---- frames

seen_by : (v m f : ℕ) (bytes : List ℕ) (told : FrameSeen) (o : Option FrameRead) → front_at v m f bytes ≡ o → m < 2 ^ 16 → IsBytes bytes
    → option_map seen_of o ≡ Some told → IsSeen v m f bytes told
seen_by v m f bytes told None is small fits gives = cc
seen_by v m f bytes told (Some read) is small fits gives =
    record { read = read; there = front_is v m f bytes read small fits is; is = sym (found gives) }

-- what is said stands there
pub seen_there : (v m f : ℕ) (bytes : List ℕ) (result : Result FrameSeen CodecFault) → m < 2 ^ 16 → IsBytes bytes
    → Gives (λ (x : FrameSeen). x) result (option_map seen_of (front_at v m f bytes)) → IfOk result (IsSeen v m f bytes)
seen_there v m f bytes (Ok told) small fits gives = seen_by v m f bytes told (front_at v m f bytes) refl small fits gives
seen_there v m f bytes (Err fault) small fits gives = tt

-- what stands there is said
pub only_seen : (v m f : ℕ) (bytes : List ℕ) (result : Result FrameSeen CodecFault) → m < 2 ^ 16 → f < 2 ^ 32
    → IfErr result (λ fault. fault ≡ BadBytes)
    → Gives (λ (x : FrameSeen). x) result (option_map seen_of (front_at v m f bytes))
    → (read : FrameRead) → IsFront v m f bytes read → result ≡ Ok (seen_of read)
only_seen v m f bytes (Ok told) small limit bad gives read there =
    ap (λ (x : FrameSeen). let r : Result FrameSeen CodecFault = Ok x in r)
    (found (sym gives ∙ ap (option_map seen_of) (is_front v m f bytes read small limit there)))
only_seen v m f bytes (Err NoMemory) small limit bad gives read there = cc
only_seen v m f bytes (Err BadBytes) small limit bad gives read there =
    absurd (no_both (option_map seen_of (front_at v m f bytes)) (seen_of read) gives (ap (option_map seen_of) (is_front v m f bytes read small limit there)))

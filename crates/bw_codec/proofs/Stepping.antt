-- What steps over a spelled block steps over all of it.

use Rattle.std.proofs.Common.{◌≡◌, ℕ, suc, ◌+◌, ◌-◌, ◌^◌, ◌<◌, ◌==◌, ◌||◌, Bool, true, false, Option, Some, None, List, [], ◌∷◌, ◌++◌}
use Rattle.std.proofs.Common.{length, ◌≤◌, drop, refl, sym, ap, subst, ◌∙◌, append_assoc, arith, length-append}
use Rattle.std.proofs.lemmas.Bool.{le-ltb}
use Rattle.std.proofs.lemmas.List.{drop_at}
use Rattle.std.specs.List.{flat_map, AllByRecursion}
use Rattle.byteorder.specs.Endian.{little_number}
use Rattle.bw_record.specs.Version.{value_width}
use Rattle.bw_codec.specs.Bytes.{number_bytes, text, value_bytes}
use Rattle.bw_codec.specs.Grammar.{op_bytes_in, pair_bytes_in, place_bytes, pairs_bytes_in, ops_bytes_in, upper_bytes_in, block_bytes_in, IsPage}
use Rattle.bw_codec.specs.Grammar.{IsPlace, IsDeltaIn}
use Rattle.bw_record.specs.Lawful.{IsPairIn, IsOpIn}
use Rattle.bw_codec.specs.Grammar.{IsBaseIn, IsSplitIn, IsBlockIn}
use Rattle.bw_codec.specs.Reading.{◌>>=◌, Says, number_at, place_at, page_at}
use Rattle.bw_codec.specs.declared.fault.CodecFault.{CodecFault}
use Rattle.bw_codec.specs.declared.fault.CodecFault.TheVariants.{BadBytes}
use Rattle.bw_codec.specs.Outline.{outline_of}
use Rattle.bw_codec.specs.Skipping.{Pages, run_after, value_after, pair_after, op_after, many_after, counted_after, delta_after, base_after, upper_after}
use Rattle.bw_codec.specs.Outline.{OutlinesTouch}
use Rattle.bw_codec.specs.Skipping.{split_after, block_after}
use Rattle.bw_record.specs.declared.record.Record.{Record}
use Rattle.bw_record.specs.declared.record.Record.TheVariants.{Put, Del}
use Rattle.bw_record.specs.declared.leaf.Leaf.{Leaf}
use Rattle.bw_record.specs.declared.block.Place.{Place}
use Rattle.bw_record.specs.declared.block.Block.{Block}
use Rattle.bw_record.specs.declared.block.Block.TheVariants.{Delta, Base, Split}
use Rattle.bw_codec.specs.declared.outline.Outline.{Outline}
use Rattle.bw_codec.proofs.Format.{found, again_on, number_format, number_reads, run_again, IsValue, value_sizes}
use Rattle.bw_codec.proofs.FrontFormat.{length-number}
use Rattle.bw_codec.proofs.BlockFormat.{page_format, place_format}
use Rattle.bw_codec.proofs.Many.{fault_goes_on}

-- ---- loops

-- one thing more was stepped over
pub steps_on : (one : List ℕ → Option (List ℕ)) (count i : ℕ) (bytes rest : List ℕ) → i < count → one bytes ≡ Some rest
    → many_after one (count - i) bytes ≡ many_after one (count - (i + 1)) rest
unfolding many_after
steps_on one count i bytes rest h e =
    let n : count - i ≡ suc (count - (i + 1)) = omega arith in
    ap (λ k. many_after one k bytes) n ∙ ap (λ (o : Option (List ℕ)). o >>= λ r. many_after one (count - (i + 1)) r) e

-- one thing was not there
pub steps_stop : (one : List ℕ → Option (List ℕ)) (count i : ℕ) (bytes : List ℕ) → i < count → one bytes ≡ None
    → many_after one (count - i) bytes ≡ None
unfolding many_after
steps_stop one count i bytes h e =
    let n : count - i ≡ suc (count - (i + 1)) = omega arith in
    ap (λ k. many_after one k bytes) n ∙ ap (λ (o : Option (List ℕ)). o >>= λ r. many_after one (count - (i + 1)) r) e

-- all were
pub steps_end : (one : List ℕ → Option (List ℕ)) (count : ℕ) (bytes : List ℕ) → many_after one (count - count) bytes ≡ Some bytes
unfolding many_after
steps_end one count bytes = let n : count - count ≡ 0 = omega arith in ap (λ k. many_after one k bytes) n

-- a loop that met a fault, which is the whole's
pub steps_fault : (one : List ℕ → Option (List ℕ)) (count i : ℕ) (bytes rest : List ℕ) (fault : CodecFault) → i < count
    → many_after one (count - i) rest ≡ many_after one count bytes → Says fault (one rest) → Says fault (many_after one count bytes)
steps_fault one count i bytes rest fault h so_far says =
    fault_goes_on fault (one rest) (many_after one count bytes) (λ none. sym so_far ∙ steps_stop one count i rest h none) says

-- a loop that ended
pub steps_done : (one : List ℕ → Option (List ℕ)) (count i : ℕ) (bytes rest : List ℕ) → i ≡ count
    → many_after one (count - i) rest ≡ many_after one count bytes → many_after one count bytes ≡ Some rest
steps_done one count i bytes rest all so_far =
    sym so_far ∙ ap (λ n. many_after one (count - n) rest) all ∙ steps_end one count rest

-- ---- parts

run_over : (x more rest : List ℕ) → run_after ((text x ++ more) ++ rest) ≡ Some (more ++ rest)
run_over x more rest = ap run_after (append_assoc (text x) more rest) ∙ rw (run_again x (more ++ rest)) refl

run_last : (x rest : List ℕ) → run_after (text x ++ rest) ≡ Some rest
run_last x rest = rw (run_again x rest) refl

value_last : (v : ℕ) (x rest : List ℕ) → IsValue v x → value_after v (value_bytes v x ++ rest) ≡ Some rest
unfolding value_after
value_last v x rest law =
    let sizes = value_sizes v x rest law in
    rw (
      again_on (number_bytes (value_width v)) (λ n. n < 256 ^ value_width v) (number_at (value_width v)) (number_format (value_width v)) (length x) x
          rest sizes.0,
      sizes.1,
      drop_at x rest (length x) refl,
    ) refl

pair_over : (v : ℕ) → (p : List ℕ × List ℕ) (rest : List ℕ) → IsPairIn v p → pair_after v (pair_bytes_in v p ++ rest) ≡ Some rest
unfolding pair_after
pair_over v p rest law = rw (run_over p.0 (value_bytes v p.1) rest) (value_last v p.1 rest law.1)

op_over : (v : ℕ) → (op : Record) (rest : List ℕ) → IsOpIn v op → op_after v (op_bytes_in v op ++ rest) ≡ Some rest
unfolding op_after
op_over v (Put key value) rest law = rw (run_over key (value_bytes v value) rest) (value_last v value rest law.1)
op_over v (Del key) rest law = rw (run_last key rest) refl

many_over : {X : Type 0} (spell : X → List ℕ) (Law : X → Type 0) (one : List ℕ → Option (List ℕ))
    → ((x : X) (rest : List ℕ) → Law x → one (spell x ++ rest) ≡ Some rest)
    → (xs : List X) (rest : List ℕ) → AllByRecursion Law xs → many_after one (length xs) (flat_map spell xs ++ rest) ≡ Some rest
unfolding many_after
many_over spell Law one over [] rest laws = refl
many_over spell Law one over (x ∷ xs) rest laws =
    let first = ap one (append_assoc (spell x) (flat_map spell xs) rest) ∙ over x (flat_map spell xs ++ rest) laws.0 in
    rw (first) (many_over spell Law one over xs rest laws.1)

counted_over : {X : Type 0} (spell : X → List ℕ) (Law : X → Type 0) (one : List ℕ → Option (List ℕ))
    → ((x : X) (rest : List ℕ) → Law x → one (spell x ++ rest) ≡ Some rest)
    → (xs : List X) (rest : List ℕ) → length xs < 2 ^ 16 → AllByRecursion Law xs
    → counted_after one ((number_bytes 2 (length xs) ++ flat_map spell xs) ++ rest) ≡ Some rest
unfolding counted_after
counted_over spell Law one over xs rest few laws =
    rw (again_on (number_bytes 2) (λ n. n < 256 ^ 2) (number_at 2) (number_format 2) (length xs) (flat_map spell xs) rest few)
    (many_over spell Law one over xs rest laws)

-- ---- blocks

delta_over : (v : ℕ) → (page : ℕ) (back : Place) (ops : List Record) (rest : List ℕ) → IsDeltaIn v page back ops
    → delta_after v ((number_bytes 4 page ++ (place_bytes back ++ ops_bytes_in v ops)) ++ rest) ≡ Some ((page, None), rest)
unfolding delta_after
delta_over v page back ops rest law =
    let bytes = (number_bytes 4 page ++ (place_bytes back ++ ops_bytes_in v ops)) ++ rest in
    let behind = ops_bytes_in v ops ++ rest in
    let fixed = number_bytes 4 page ++ place_bytes back in
    let four : length (number_bytes 4 page) ≡ 4 = length-number 4 page in
    let eight : length (number_bytes 8 back.frame) ≡ 8 = length-number 8 back.frame in
    let last : length (number_bytes 4 back.index) ≡ 4 = length-number 4 back.index in
    let sixteen : length fixed ≡ 16 =
    omega (arith, length-append (number_bytes 4 page) (place_bytes back), length-append (number_bytes 8 back.frame) (number_bytes 4 back.index)) in
    let parts : bytes ≡ fixed ++ behind =
    ap (λ (b : List ℕ). b ++ rest) (sym (append_assoc (number_bytes 4 page) (place_bytes back) (ops_bytes_in v ops)))
    ∙ append_assoc fixed (ops_bytes_in v ops) rest in
    let long : 16 ≤ length bytes = omega (arith, ap (λ (b : List ℕ). length b) parts, length-append fixed behind) in
    let number : little_number 4 bytes ≡ page =
    ap (λ (b : List ℕ). little_number 4 b) (append_assoc (number_bytes 4 page) (place_bytes back ++ ops_bytes_in v ops) rest)
    ∙ number_reads 4 page ((place_bytes back ++ ops_bytes_in v ops) ++ rest) law.changes.1 in
    let left : drop 16 bytes ≡ behind = ap (λ (b : List ℕ). drop 16 b) parts ∙ drop_at fixed behind 16 sixteen in
    rw (le-ltb (length bytes) 16 long, left, counted_over (op_bytes_in v) (IsOpIn v) (op_after v) (op_over v) ops rest law.count.1 law.each, number) refl

base_over : (v : ℕ) → (m : ℕ) (leaf : Leaf) (rest : List ℕ) → m < 2 ^ 16 → IsBaseIn v m leaf
    → base_after v ((number_bytes 4 leaf.page ++ (text leaf.low ++ pairs_bytes_in v leaf.pairs)) ++ rest) ≡ Some ((leaf.page, None), rest)
unfolding base_after
base_over v m leaf rest small law =
    let few = law.count in
    rw (
      again_on (number_bytes 4) IsPage page_at page_format leaf.page (text leaf.low ++ pairs_bytes_in v leaf.pairs) rest law.page,
      run_over leaf.low (pairs_bytes_in v leaf.pairs) rest,
      counted_over (pair_bytes_in v) (IsPairIn v) (pair_after v) (pair_over v) leaf.pairs rest (omega arith) law.pairs,
    ) refl

upper_over : (v : ℕ) → (m : ℕ) (leaf : Leaf) (rest : List ℕ) → m < 2 ^ 16 → IsBaseIn v m leaf
    → upper_after v (upper_bytes_in v leaf ++ rest) ≡ Some (leaf.page, rest)
unfolding upper_after
upper_over v m leaf rest small law =
    let few = law.count in
    rw (
      run_over leaf.low (number_bytes 4 leaf.page ++ pairs_bytes_in v leaf.pairs) rest,
      again_on (number_bytes 4) (λ n. n < 256 ^ 4) (number_at 4) (number_format 4) leaf.page (pairs_bytes_in v leaf.pairs) rest law.page.1,
      counted_over (pair_bytes_in v) (IsPairIn v) (pair_after v) (pair_over v) leaf.pairs rest (omega arith) law.pairs,
    ) refl

split_over : (v : ℕ) → (m page : ℕ) (back : Place) (upper : Leaf) (rest : List ℕ) → m < 2 ^ 16 → IsSplitIn v m page back upper
    → split_after v ((number_bytes 4 page ++ (place_bytes back ++ upper_bytes_in v upper)) ++ rest) ≡ Some ((page, Some upper.page), rest)
unfolding split_after
split_over v m page back upper rest small law =
    rw (
      again_on (number_bytes 4) IsPage page_at page_format page (place_bytes back ++ upper_bytes_in v upper) rest law.splits,
      again_on place_bytes IsPlace place_at place_format back (upper_bytes_in v upper) rest law.links,
      (upper_over v) m upper rest small law.makes,
    ) refl

-- the pages of an outline
abbrev pages_of : Outline → Pages
pages_of o = (o.page, o.made)

block_over : (v : ℕ) → (m : ℕ) (block : Block) (rest : List ℕ) → m < 2 ^ 16 → IsBlockIn v m block
    → block_after v (block_bytes_in v block ++ rest) ≡ Some (pages_of (outline_of v block), rest)
unfolding block_after
block_over v m (Delta page back ops) rest small law = delta_over v page back ops rest law
block_over v m (Base leaf) rest small law = base_over v m leaf rest small law
block_over v m (Split page back upper) rest small law = split_over v m page back upper rest small law

pub length-outlined : (v : ℕ) → (block : Block) → (outline_of v block).len ≡ length (block_bytes_in v block)
length-outlined v (Delta page back ops) = refl
length-outlined v (Base leaf) = refl
length-outlined v (Split page back upper) = refl

-- what was stepped over is the block's outline
pub outlined : (v : ℕ) → (m : ℕ) (block : Block) (bytes rest : List ℕ) (pages : Pages) (behind : List ℕ) → m < 2 ^ 16 → IsBlockIn v m block
    → bytes ≡ block_bytes_in v block ++ rest → block_after v bytes ≡ Some (pages, behind)
    → (let o : Outline = record { len = length bytes - length behind; page = pages.0; made = pages.1 } in o) ≡ outline_of v block
outlined v m block bytes rest pages behind small law parts read =
    let same = found (sym read ∙ ap (block_after v) parts ∙ block_over v m block rest small law) in
    let left : length behind ≡ length rest = ap (λ (r : Pages × List ℕ). length r.1) same in
    let size : length bytes - length behind ≡ (outline_of v block).len =
    omega (arith, left, ap (λ (l : List ℕ). length l) parts, length-append (block_bytes_in v block) rest, length-outlined v block) in
    ap (λ (r : Pages × List ℕ). let o : Outline = record { len = length bytes - length behind; page = r.0.0; made = r.0.1 } in o) same
    ∙ ap (λ (n : ℕ). let o : Outline = record { len = n; page = (outline_of v block).page; made = (outline_of v block).made } in o) size

pub no_both : {A : Type 0} (o : Option A) (x : A) → o ≡ None → o ≡ Some x → ⊥
no_both None x none some = cc
no_both (Some y) x none some = cc

-- a lawful block is not stepped over in vain
pub over_none : (v : ℕ) → (m : ℕ) (block : Block) (bytes rest : List ℕ) (fault : CodecFault) → m < 2 ^ 16 → IsBlockIn v m block
    → bytes ≡ block_bytes_in v block ++ rest → fault ≡ BadBytes → Says fault (block_after v bytes) → ⊥
over_none v m block bytes rest fault small law parts bad says =
    let none : block_after v bytes ≡ None = subst (λ (f : CodecFault). Says f (block_after v bytes)) bad says in
    no_both (block_after v bytes) (pages_of (outline_of v block), rest) none (ap (block_after v) parts ∙ block_over v m block rest small law)

-- ---- what an outline touches

or_none : (b : Bool) → (b || false) ≡ b
or_none true = refl
or_none false = refl

pub outlines_touch : OutlinesTouch
outlines_touch v p (Delta page back ops) = or_none (page == p)
outlines_touch v p (Base leaf) = or_none (leaf.page == p)
outlines_touch v p (Split page back upper) = refl

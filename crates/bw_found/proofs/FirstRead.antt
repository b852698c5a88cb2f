-- Which block stands at the front of bytes, by its tag, and the blocks of a frame one after the other.

use Rattle.std.proofs.Common.{◌≡◌, ℕ, zero, suc, ◌+◌, ◌-◌, ◌^◌, ◌<◌, ◌≤◌, List, [], ◌∷◌, ◌++◌, length, take, drop, get_or, true, false, ◌==◌, refl, sym, ap, ◌∙◌, arith, length-append, length-drop}
use Rattle.std.specs.List.{AllByRecursion}
use Rattle.std.proofs.lemmas.Bool.{eqb-true, eqb-false}
use Rattle.std.proofs.Math.Seq.{drop-append_seam, take-length}
use Rattle.bw_record.specs.declared.record.Record.{Record}
use Rattle.bw_record.specs.declared.leaf.Leaf.{Leaf}
use Rattle.bw_record.specs.declared.block.Place.{Place}
use Rattle.bw_record.specs.declared.block.Block.{Block}
use Rattle.bw_record.specs.declared.block.Block.TheVariants.{Delta, Base, Split}
use Rattle.bw_codec.specs.Grammar.{block_bytes_in, body_bytes_in, IsBlockIn, IsFirst}
use Rattle.bw_codec.specs.Outline.{outline_of}
use Rattle.bw_codec.specs.declared.outline.Outline.{Outline}
use Rattle.bw_codec.proofs.Stepping.{length-outlined}
use Rattle.bw_found.specs.Lent.{IsDeltaAfter, IsBaseAfter, IsSplitAfter}

-- ---- the bytes from an index on

abbrev pub from : ℕ → List ℕ → List ℕ
from n bytes = take (length bytes - n) (drop n bytes)

pub from_is : (n : ℕ) (bytes : List ℕ) → from n bytes ≡ drop n bytes
from_is n bytes = ap (λ k. take k (drop n bytes)) (sym (length-drop n bytes)) ∙ take-length (drop n bytes)

-- ---- by the tag

pub record IsDeltaHere (v : ℕ) (block : Block) (rest : List ℕ) : Type 0 where
  pub page : ℕ
  pub back : Place
  pub ops : List Record
  pub is : block ≡ Delta page back ops
  pub after : IsDeltaAfter v page back ops rest

apart : {X : Type 0} (bytes rest : List ℕ) (a b : ℕ) → get_or bytes 0 0 ≡ a → bytes ≡ b ∷ rest → (a ≡ b → ⊥) → X
apart bytes rest a b tag front not = absurd (not (sym tag ∙ ap (λ (l : List ℕ). get_or l 0 0) front))

pub delta_here : (v m : ℕ) (bytes : List ℕ) (block : Block) → get_or bytes 0 0 ≡ 1 → IsFirst v m bytes block → IsDeltaHere v block (from 1 bytes)
delta_here v m bytes (Delta page back ops) tag first = record {
  page = page;
  back = back;
  ops = ops;
  is = refl;
  after = record { lawful = first.0; rest = first.1; there = from_is 1 bytes ∙ ap (λ (l : List ℕ). drop 1 l) first.2 };
}
delta_here v m bytes (Base leaf) tag first = apart bytes _ 1 2 tag first.2 (λ e. absurd (omega (arith, e)))
delta_here v m bytes (Split page back upper) tag first = apart bytes _ 1 3 tag first.2 (λ e. absurd (omega (arith, e)))

pub record IsBaseHere (v m : ℕ) (block : Block) (rest : List ℕ) : Type 0 where
  pub leaf : Leaf
  pub is : block ≡ Base leaf
  pub after : IsBaseAfter v m leaf rest

pub base_here : (v m : ℕ) (bytes : List ℕ) (block : Block) → m < 2 ^ 16 → get_or bytes 0 0 ≡ 2 → IsFirst v m bytes block
    → IsBaseHere v m block (from 1 bytes)
base_here v m bytes (Delta page back ops) small tag first = apart bytes _ 2 1 tag first.2 (λ e. absurd (omega (arith, e)))
base_here v m bytes (Base leaf) small tag first = record {
  leaf = leaf;
  is = refl;
  after = record { small = small; lawful = first.0; rest = first.1; there = from_is 1 bytes ∙ ap (λ (l : List ℕ). drop 1 l) first.2 };
}
base_here v m bytes (Split page back upper) small tag first = apart bytes _ 2 3 tag first.2 (λ e. absurd (omega (arith, e)))

pub record IsSplitHere (v m : ℕ) (block : Block) (rest : List ℕ) : Type 0 where
  pub page : ℕ
  pub back : Place
  pub upper : Leaf
  pub is : block ≡ Split page back upper
  pub after : IsSplitAfter v m page back upper rest

pub split_here : (v m : ℕ) (bytes : List ℕ) (block : Block) → m < 2 ^ 16 → get_or bytes 0 0 ≡ 3 → IsFirst v m bytes block
    → IsSplitHere v m block (from 1 bytes)
split_here v m bytes (Delta page back ops) small tag first = apart bytes _ 3 1 tag first.2 (λ e. absurd (omega (arith, e)))
split_here v m bytes (Base leaf) small tag first = apart bytes _ 3 2 tag first.2 (λ e. absurd (omega (arith, e)))
split_here v m bytes (Split page back upper) small tag first = record {
  page = page;
  back = back;
  upper = upper;
  is = refl;
  after = record { small = small; lawful = first.0; rest = first.1; there = from_is 1 bytes ∙ ap (λ (l : List ℕ). drop 1 l) first.2 };
}

-- ---- one after the other

-- a block's spelling is not empty
some_bytes : (v : ℕ) (b : Block) → 1 ≤ length (block_bytes_in v b)
some_bytes v (Delta page back ops) = omega arith
some_bytes v (Base leaf) = omega arith
some_bytes v (Split page back upper) = omega arith

all_here : {X : Type 0} (P : X → Type 0) (n : ℕ) (xs : List X) → AllByRecursion P xs → AllByRecursion P (drop n xs)
all_here P zero xs h = h
all_here P (suc n) [] h = h
all_here P (suc n) (x ∷ xs) h = all_here P n xs h.1

-- the next block of a frame, of which so many were read
pub record IsNextHere (v m : ℕ) (blocks : List Block) (index : ℕ) (rest : List ℕ) : Type 0 where
  pub block : Block
  pub more : List Block
  pub front : drop index blocks ≡ block ∷ more
  pub first : IsFirst v m rest block
  pub spelled : rest ≡ block_bytes_in v block ++ body_bytes_in v more

next_by : (v m : ℕ) (blocks now : List Block) (index : ℕ) (rest : List ℕ) → drop index blocks ≡ now → AllByRecursion (IsBlockIn v m) now
    → rest ≡ body_bytes_in v now → 1 ≤ length rest → IsNextHere v m blocks index rest
next_by v m blocks [] index rest at laws there some = absurd (let n = ap (λ (l : List ℕ). length l) there in omega (arith, n, some))
next_by v m blocks (b ∷ more) index rest at laws there some = record {
  block = b;
  more = more;
  front = at;
  first = (laws.0, body_bytes_in v more, there);
  spelled = there;
}

pub next_here : (v m : ℕ) (blocks : List Block) (index : ℕ) (rest : List ℕ) → AllByRecursion (IsBlockIn v m) blocks
    → rest ≡ body_bytes_in v (drop index blocks) → 1 ≤ length rest → IsNextHere v m blocks index rest
next_here v m blocks index rest laws there some =
    next_by v m blocks (drop index blocks) index rest refl (all_here (IsBlockIn v m) index blocks laws) there some

-- none is left where no byte is
none_left : (v : ℕ) (blocks : List Block) (index : ℕ) → length (body_bytes_in v (drop index blocks)) ≡ 0 → take index blocks ≡ blocks
none_left v [] zero none = refl
none_left v [] (suc index) none = refl
none_left v (b ∷ bs) zero none =
    absurd (let l = length-append (block_bytes_in v b) (body_bytes_in v bs) in let s = some_bytes v b in omega (arith, l, s, none))
none_left v (b ∷ bs) (suc index) none = ap (λ (l : List Block). b ∷ l) (none_left v bs index none)

pub all_read : (v : ℕ) (blocks : List Block) (index : ℕ) (rest : List ℕ) → rest ≡ body_bytes_in v (drop index blocks) → length rest ≡ 0
    → take index blocks ≡ blocks
all_read v blocks index rest there none = none_left v blocks index (sym (ap (λ (l : List ℕ). length l) there) ∙ none)

-- the outline of the next block says where it ends
pub outline_ends : (v : ℕ) (o : Outline) (block : Block) → o ≡ outline_of v block → o.len ≡ length (block_bytes_in v block)
outline_ends v o block is = ap (λ (x : Outline). x.len) is ∙ length-outlined v block

pub left_after : (v : ℕ) (blocks more : List Block) (index len : ℕ) (block : Block) (rest : List ℕ) → drop (index + 1) blocks ≡ more
    → rest ≡ block_bytes_in v block ++ body_bytes_in v more → len ≡ length (block_bytes_in v block)
    → from len rest ≡ body_bytes_in v (drop (index + 1) blocks)
left_after v blocks more index len block rest at spelled is =
    from_is len rest ∙ (λ t. drop (is t) (spelled t)) ∙ drop-append_seam (block_bytes_in v block) (body_bytes_in v more) ∙ ap (body_bytes_in v) (sym at)

pub less_after : (index len total : ℕ) (rest : List ℕ) → index + length rest ≤ total → 1 ≤ len → len ≤ length rest → index + 1 + length (from len rest) ≤ total
less_after index len total rest small some within =
    let n = ap (λ (l : List ℕ). length l) (from_is len rest) in omega (arith, n, length-drop len rest, small, some, within)

pub shorter_after : (len : ℕ) (rest : List ℕ) → 1 ≤ len → len ≤ length rest → length (from len rest) < length rest
shorter_after len rest some within =
    let n = ap (λ (l : List ℕ). length l) (from_is len rest) in omega (arith, n, length-drop len rest, some, within)

pub some_number : (n : ℕ) → (n ≡ 0 → ⊥) → 1 ≤ n
some_number zero not = absurd (not refl)
some_number (suc n) not = omega arith

pub some_left : (n : ℕ) → false ≡ (n == 0) → 1 ≤ n
some_left n e = let not = eqb-false n 0 (sym e) in some_number n not

pub nothing_left : (n : ℕ) → true ≡ (n == 0) → n ≡ 0
nothing_left n e = eqb-true n 0 (sym e)

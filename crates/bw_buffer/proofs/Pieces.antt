-- One more piece of an arena, and one more row or a longer one.

use Rattle.std.proofs.Common.{◌≡◌, ℕ, zero, suc, ◌+◌, ◌<◌, ◌≤◌, ◌≢◌, Bool, Some, List, [], ◌∷◌, ◌++◌, length, set, take, drop, refl, sym, ap}
use Rattle.std.proofs.Common.{◌∙◌, subst, arith, ◌⊎◌, inl, inr}
use Rattle.std.proofs.Common.{append_assoc, append-nil, if◌then◌else◌, length-append}
use Rattle.std.specs.Prelude.{◌==◌}
use Rattle.std.specs.List.{AllByRecursion as All, flat_map}
use Rattle.std.proofs.lemmas.Grind.{flat_map-append}
use Rattle.std.proofs.lemmas.List.{take-append-le, drop-append-le, take_all}
use Rattle.std.proofs.lemmas.Bool.{eq-eqb, ne_eqb}
use Rattle.bw_codec.specs.Grammar.{op_bytes, block_bytes, body_bytes, place_bytes}
use Rattle.bw_codec.specs.Bytes.{number_bytes}
use Rattle.bw_record.specs.declared.record.Record.{Record}
use Rattle.bw_record.specs.declared.block.Place.{Place}
use Rattle.bw_record.specs.declared.block.Block.{Block}
use Rattle.bw_record.specs.declared.block.Block.TheVariants.{Delta, Base, Split}
use Rattle.bw_buffer.specs.Rows.{Parts, parts, pieces_length, bytes_at, front_by, front_of, laid, IsRow, AreRows}
use Rattle.bw_buffer.specs.Marks.{mark_of}
use Rattle.bw_buffer.specs.declared.mark.Mark.{Mark}
use Rattle.bw_buffer.specs.declared.rows.Row.{Row}
use Rattle.bw_buffer.specs.declared.rows.Piece.{Piece}

-- ---- pieces

pub parts_more : (qs : List Piece) (bytes : List ℕ) (q : Piece) (xs : List ℕ) → pieces_length qs ≡ length bytes → q.len ≡ length xs
    → parts (qs ++ q ∷ []) (bytes ++ xs) ≡ parts qs bytes ++ (q.block, xs) ∷ []
parts_more [] [] q xs parted len = ap (λ (l : List ℕ). (q.block, l) ∷ []) (take_all q.len xs (omega arith))
parts_more [] (b ∷ bs) q xs parted len = absurd (omega arith)
parts_more (p ∷ ps) bytes q xs parted len =
    let rest : pieces_length ps ≡ length (drop p.len bytes) = (let e = Rattle.std.proofs.Common.length-drop p.len bytes in omega arith) in
    ap (λ (l : List ℕ). (p.block, l) ∷ parts (ps ++ q ∷ []) (drop p.len (bytes ++ xs))) (take-append-le p.len bytes xs (omega arith))
    ∙ ap (λ (l : List ℕ). (p.block, take p.len bytes) ∷ parts (ps ++ q ∷ []) l) (drop-append-le p.len bytes xs (omega arith))
    ∙ ap (λ (l : Parts). (p.block, take p.len bytes) ∷ l) (parts_more ps (drop p.len bytes) q xs rest len)

pub length_more : (qs : List Piece) (q : Piece) → pieces_length (qs ++ q ∷ []) ≡ pieces_length qs + q.len
length_more [] q = omega arith
length_more (p ∷ ps) q = (let e = length_more ps q in omega arith)

-- one piece more of a block, or of another one
pub bytes_more : (i : ℕ) (ps : Parts) (xs : List ℕ) → bytes_at i (ps ++ (i, xs) ∷ []) ≡ bytes_at i ps ++ xs
bytes_more i ps xs =
    flat_map-append (λ (x : ℕ × List ℕ). if x.0 == i then x.1 else []) ps ((i, xs) ∷ [])
    ∙ ap (λ (b : Bool). bytes_at i ps ++ ((if b then xs else []) ++ [])) (eq-eqb i i refl)
    ∙ ap (λ (l : List ℕ). bytes_at i ps ++ l) (append-nil xs)

pub bytes_apart : (i j : ℕ) (ps : Parts) (xs : List ℕ) → j ≢ i → bytes_at i (ps ++ (j, xs) ∷ []) ≡ bytes_at i ps
bytes_apart i j ps xs ne =
    flat_map-append (λ (x : ℕ × List ℕ). if x.0 == i then x.1 else []) ps ((j, xs) ∷ [])
    ∙ ap (λ (b : Bool). bytes_at i ps ++ ((if b then xs else []) ++ [])) (ne_eqb j i ne)
    ∙ append-nil (bytes_at i ps)

-- a block after all pieces has none
pub none_at : (i n : ℕ) (qs : List Piece) (bytes : List ℕ) → n ≤ i → All (λ q. q.block < n) qs → bytes_at i (parts qs bytes) ≡ []
none_at i n [] bytes le h = refl
none_at i n (q ∷ qs) bytes le h =
    ap (λ (b : Bool). (if b then take q.len bytes else []) ++ bytes_at i (parts qs (drop q.len bytes)))
    (ne_eqb q.block i (let lt = h.0 in λ e. absurd (omega arith)))
    ∙ none_at i n qs (drop q.len bytes) le h.1

-- ---- rows

-- a piece of a block that is none of these
pub rows_apart : (i j : ℕ) (rows : List Row) (ps : Parts) (xs : List ℕ) (bs : List Block) → ((j < i) ⊎ (i + length rows ≤ j))
    → AreRows i rows ps bs → AreRows i rows (ps ++ (j, xs) ∷ []) bs
rows_apart i j [] ps xs [] out h = tt
rows_apart i j [] ps xs (b ∷ bs) out h = absurd h
rows_apart i j (r ∷ rs) ps xs [] out h = absurd h
rows_apart i j (r ∷ rs) ps xs (b ∷ bs) out h =
    let ne : j ≢ i = λ e. elim out [ inl x ↦ absurd (omega arith) | inr x ↦ absurd (omega arith) ] in
    let further : (j < suc i) ⊎ (suc i + length rs ≤ j) = elim out [ inl x ↦ inl (omega arith) | inr x ↦ inr (omega arith) ] in (
      subst (λ (l : List ℕ). IsRow r l b) (sym (bytes_apart i j ps xs ne)) h.0,
      rows_apart (suc i) j rs ps xs bs further h.1,
    )

-- a row more
pub rows_more : (i : ℕ) (rows : List Row) (ps : Parts) (bs : List Block) (row : Row) (block : Block) (xs : List ℕ) (k : ℕ) → k ≡ i + length rows
    → bytes_at k ps ≡ [] → IsRow row xs block → AreRows i rows ps bs → AreRows i (rows ++ row ∷ []) (ps ++ (k, xs) ∷ []) (bs ++ block ∷ [])
rows_more i [] ps [] row block xs k at none is h =
    (let same : k ≡ i = omega arith in
    let all : bytes_at i (ps ++ (k, xs) ∷ []) ≡ xs =
    ap (λ (n : ℕ). bytes_at i (ps ++ (n, xs) ∷ [])) same ∙ bytes_more i ps xs ∙ ap (λ (n : ℕ). bytes_at n ps ++ xs) (sym same)
    ∙ ap (λ (l : List ℕ). l ++ xs) none in
    (subst (λ (l : List ℕ). IsRow row l block) (sym all) is, tt))
rows_more i [] ps (b ∷ bs) row block xs k at none is h = absurd h
rows_more i (r ∷ rs) ps [] row block xs k at none is h = absurd h
rows_more i (r ∷ rs) ps (b ∷ bs) row block xs k at none is h = (
  subst (λ (l : List ℕ). IsRow r l b) (sym (bytes_apart i k ps xs (λ e. absurd (omega arith)))) h.0,
  rows_more (suc i) rs ps bs row block xs k (omega arith) none is h.1,
)

-- a row longer: it is a Delta's, and has more records
abbrev pub longer : Row → ℕ → ℕ → Row
longer row ops len = record row { ops = row.ops + ops; len = row.len + len }

row_longer : (row : Row) (bytes xs : List ℕ) (page : ℕ) (back : Place) (was ops : List Record) → IsRow row bytes (Delta page back was)
    → xs ≡ flat_map op_bytes ops → IsRow (longer row (length ops) (length xs)) (bytes ++ xs) (Delta page back (was ++ ops))
row_longer row bytes xs page back was ops h is = (
  h.0,
  h.1,
  (let a = h.2 in let e = length-append was ops in omega arith),
  (let a = h.3 in let e = length-append bytes xs in omega arith),
  ap (λ (l : List ℕ). l ++ xs) h.4 ∙ ap (λ (l : List ℕ). flat_map op_bytes was ++ l) is ∙ sym (flat_map-append op_bytes was ops),
)

pub rows_longer : (i k : ℕ) (rows : List Row) (ps : Parts) (before behind : List Block) (page : ℕ) (back : Place) (was ops : List Record)
    (xs : List ℕ) (row : Row)
    → length before ≡ k → xs ≡ flat_map op_bytes ops → Rattle.std.specs.List.slice_get rows k ≡ Some row
    → AreRows i rows ps (before ++ Delta page back was ∷ behind)
    → AreRows i (set rows k (longer row (length ops) (length xs))) (ps ++ (i + k, xs) ∷ []) (before ++ Delta page back (was ++ ops) ∷ behind)
rows_longer i k [] ps [] behind page back was ops xs row at is there h = absurd h
rows_longer i k [] ps (b ∷ bs) behind page back was ops xs row at is there h = absurd h
rows_longer i zero (r ∷ rs) ps [] behind page back was ops xs row at is there h =
    (let same : i + zero ≡ i = omega arith in
    let one : r ≡ row = cc in
    let more : bytes_at i (ps ++ (i + zero, xs) ∷ []) ≡ bytes_at i ps ++ xs = ap (λ (n : ℕ). bytes_at i (ps ++ (n, xs) ∷ [])) same ∙ bytes_more i ps xs in (
      subst (λ (l : List ℕ). IsRow (longer row (length ops) (length xs)) l (Delta page back (was ++ ops))) (sym more)
          (row_longer row (bytes_at i ps) xs page back was ops (subst (λ (x : Row). IsRow x (bytes_at i ps) (Delta page back was)) one h.0) is),
      rows_apart (suc i) (i + zero) rs ps xs behind (inl (omega arith)) h.1,
    ))
rows_longer i (suc k) (r ∷ rs) ps [] behind page back was ops xs row at is there h = absurd (omega arith)
rows_longer i zero (r ∷ rs) ps (b ∷ bs) behind page back was ops xs row at is there h = absurd (omega arith)
rows_longer i (suc k) (r ∷ rs) ps (b ∷ bs) behind page back was ops xs row at is there h =
    (let same : i + suc k ≡ suc i + k = omega arith in (
      subst (λ (l : List ℕ). IsRow r l b) (sym (bytes_apart i (i + suc k) ps xs (λ e. absurd (omega arith)))) h.0,
      subst (λ (n : ℕ). AreRows (suc i) (set rs k (longer row (length ops) (length xs))) (ps ++ (n, xs) ∷ [])
          (bs ++ Delta page back (was ++ ops) ∷ behind)) (sym same)
          (rows_longer (suc i) k rs ps bs behind page back was ops xs row (omega arith) is there h.1),
    ))

-- ---- what rows say

pub rows_count : (i : ℕ) (rows : List Row) (ps : Parts) (bs : List Block) → AreRows i rows ps bs → length rows ≡ length bs
rows_count i [] ps [] h = refl
rows_count i [] ps (b ∷ bs) h = absurd h
rows_count i (r ∷ rs) ps [] h = absurd h
rows_count i (r ∷ rs) ps (b ∷ bs) h = ap suc (rows_count (suc i) rs ps bs h.1)

pub row_mark : (row : Row) (bytes : List ℕ) (b : Block) → IsRow row bytes b → row.mark ≡ mark_of b
row_mark row bytes (Delta page back ops) h = h.0
row_mark row bytes (Base leaf) h = h.0
row_mark row bytes (Split page back upper) h = h.0

pub rows_mark : (i k : ℕ) (rows : List Row) (ps : Parts) (bs : List Block) (row : Row) (b : Block) → AreRows i rows ps bs
    → Rattle.std.specs.List.slice_get rows k ≡ Some row → Rattle.std.specs.List.slice_get bs k ≡ Some b → row.mark ≡ mark_of b
rows_mark i k [] ps [] row b h r e = absurd cc
rows_mark i k [] ps (c ∷ cs) row b h r e = absurd h
rows_mark i k (x ∷ xs) ps [] row b h r e = absurd h
rows_mark i zero (x ∷ xs) ps (c ∷ cs) row b h r e =
    (let one : x ≡ row = cc in let two : c ≡ b = cc in ap (λ (y : Row). y.mark) (sym one) ∙ row_mark x (bytes_at i ps) c h.0 ∙ ap mark_of two)
rows_mark i (suc k) (x ∷ xs) ps (c ∷ cs) row b h r e = rows_mark (suc i) k xs ps cs row b h.1 r e

pub row_spelled : (row : Row) (bytes : List ℕ) (b : Block) → IsRow row bytes b → front_of row ++ bytes ≡ block_bytes b
row_spelled row bytes (Delta page back ops) h =
    rw (h.0, h.1, h.2, h.4)
    (ap (λ (l : List ℕ). 1 ∷ l)
    (append_assoc (number_bytes 4 page) (place_bytes back ++ number_bytes 2 (length ops)) (flat_map op_bytes ops)
    ∙ ap (λ (l : List ℕ). number_bytes 4 page ++ l) (append_assoc (place_bytes back) (number_bytes 2 (length ops)) (flat_map op_bytes ops))))
row_spelled row bytes (Base leaf) h = ap (λ (m : Mark). front_by m row.back row.ops ++ bytes) h.0 ∙ h.2
row_spelled row bytes (Split page back upper) h = ap (λ (m : Mark). front_by m row.back row.ops ++ bytes) h.0 ∙ h.2

pub rows_spelled : (i : ℕ) (rows : List Row) (ps : Parts) (bs : List Block) → AreRows i rows ps bs → laid i rows ps ≡ body_bytes bs
rows_spelled i [] ps [] h = refl
rows_spelled i [] ps (b ∷ bs) h = absurd h
rows_spelled i (r ∷ rs) ps [] h = absurd h
rows_spelled i (r ∷ rs) ps (b ∷ bs) h =
    ap (λ (l : List ℕ). l ++ laid (suc i) rs ps) (row_spelled r (bytes_at i ps) b h.0)
    ∙ ap (λ (l : List ℕ). block_bytes b ++ l) (rows_spelled (suc i) rs ps bs h.1)

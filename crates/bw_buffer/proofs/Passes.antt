-- The two passes that lay out a frame.

use Rattle.std.proofs.Common.{◌≡◌, ℕ, zero, suc, ◌+◌, ◌-◌, ◌<◌, ◌≤◌, Bool, List, [], ◌∷◌, ◌++◌, length, set, take, drop, get_or, refl, sym, ap, ◌∙◌}
use Rattle.std.proofs.Common.{subst, arith}
use Rattle.std.proofs.Common.{append_assoc, if◌then◌else◌, length-append, length-drop}
use Rattle.std.specs.Prelude.{◌==◌}
use Rattle.std.specs.List.{AllByRecursion as All}
use Rattle.std.proofs.lemmas.Grind.{flat_map-append}
use Rattle.std.proofs.lemmas.List.{take-append-drop}
use Rattle.bw_codec.proofs.Adding.{taken_within}
use Rattle.bw_buffer.specs.Rows.{Parts, parts, pieces_length, bytes_at, front_of, laid, IsFewBy, AreMeasured}
use Rattle.std.proofs.lemmas.List.{take_more, take_all}
use Rattle.std.proofs.lemmas.Bool.{eq-eqb}
use Rattle.bw_record.specs.Version.{latest}
use Rattle.bw_codec.specs.Grammar.{head_bytes}
use Rattle.bw_codec.proofs.FrontFormat.{length-head}
use Rattle.bw_buffer.specs.Gaps.{zeros, padded, filled, ends, written}
use Rattle.bw_buffer.specs.declared.rows.Row.{Row}
use Rattle.bw_buffer.specs.declared.rows.Piece.{Piece}
use Rattle.bw_buffer.proofs.Gaps.{gap_is, length-zeros, filled_push, ends_push, put_piece, filled_all}

-- how long blocks are, by their rows
abbrev pub total : List Row → ℕ
total [] = 0
total (r ∷ rs) = (length (front_of r) + r.len) + total rs

pub gaps_length : (i : ℕ) (rs : List Row) → length (filled i rs []) ≡ total rs
gaps_length i [] = refl
gaps_length i (r ∷ rs) =
    omega (
      arith,
      length-append (front_of r ++ padded r.len []) (filled (suc i) rs []),
      length-append (front_of r) (padded r.len []),
      ap (λ (l : List ℕ). length l) (gap_is r.len),
      length-zeros r.len,
      gaps_length (suc i) rs,
    )

pub laid_length : (i : ℕ) (rs : List Row) (ps : Parts) → AreMeasured i rs ps → length (laid i rs ps) ≡ total rs
laid_length i [] ps m = refl
laid_length i (r ∷ rs) ps m =
    (let e = m.0 in
    omega (
      arith,
      length-append (front_of r ++ bytes_at i ps) (laid (suc i) rs ps),
      length-append (front_of r) (bytes_at i ps),
      laid_length (suc i) rs ps m.2,
    ))

pub total_take : (rs : List Row) (k : ℕ) (r : Row) → k < length rs → r ≡ get_or rs k r → total (take k rs) + (length (front_of r) + r.len) ≤ total rs
total_take [] k r lt is = absurd (omega arith)
total_take (x ∷ xs) zero r lt is = (let e = ap (λ (y : Row). length (front_of y) + y.len) is in omega arith)
total_take (x ∷ xs) (suc k) r lt is = (let e = total_take xs k r (omega arith) is in omega arith)

pub few_here : (i k : ℕ) (rs : List Row) (ps : Parts) (r : Row) → AreMeasured i rs ps → k < length rs → r ≡ get_or rs k r → IsFewBy r.mark r.ops
few_here i k [] ps r m lt is = absurd (omega arith)
few_here i zero (x ∷ xs) ps r m lt is = subst (λ (y : Row). IsFewBy y.mark y.ops) (sym is) m.1
few_here i (suc k) (x ∷ xs) ps r m lt is = few_here (suc i) k xs ps r m.2 (omega arith) is

-- ---- pieces

pub parts_count : (qs : List Piece) (bytes : List ℕ) → length (parts qs bytes) ≡ length qs
parts_count [] bytes = refl
parts_count (q ∷ qs) bytes = ap suc (parts_count qs (drop q.len bytes))

abbrev nothing : List ℕ
nothing = []

drop_nothing : (n : ℕ) → drop n nothing ≡ nothing
drop_nothing zero = refl
drop_nothing (suc n) = refl

pub drop_sum : (bytes : List ℕ) (a b : ℕ) → drop b (drop a bytes) ≡ drop (a + b) bytes
drop_sum bytes zero b = ap (λ (n : ℕ). drop n bytes) (omega arith)
drop_sum [] (suc a) b = drop_nothing b ∙ sym (drop_nothing (suc a + b))
drop_sum (x ∷ xs) (suc a) b = drop_sum xs a b ∙ ap (λ (n : ℕ). drop n (x ∷ xs)) (let e : suc (a + b) ≡ suc a + b = omega arith in e)

-- the part of a piece
pub part_of : List Piece → List ℕ → ℕ → Piece → ℕ × List ℕ
part_of qs bytes j q = (q.block, take q.len (drop (pieces_length (take j qs)) bytes))

pub parts_next : (qs : List Piece) (bytes : List ℕ) (j : ℕ) (q : Piece) → j < length qs → q ≡ get_or qs j q
    → take (j + 1) (parts qs bytes) ≡ take j (parts qs bytes) ++ (q.block, take q.len (drop (pieces_length (take j qs)) bytes)) ∷ []
parts_next [] bytes j q lt is = absurd (omega arith)
parts_next (p ∷ ps) bytes zero q lt is = ap (λ (y : Piece). (y.block, take y.len bytes) ∷ []) (sym is)
parts_next (p ∷ ps) bytes (suc j) q lt is =
    ap (λ (n : ℕ). take n (parts (p ∷ ps) bytes)) (let e : suc j + 1 ≡ suc (j + 1) = omega arith in e)
    ∙ ap (λ (l : Parts). (p.block, take p.len bytes) ∷ l)
    (parts_next ps (drop p.len bytes) j q (omega arith) is
    ∙ ap (λ (l : List ℕ). take j (parts ps (drop p.len bytes)) ++ (q.block, take q.len l) ∷ []) (drop_sum bytes p.len (pieces_length (take j ps))))

pub part_there : (qs : List Piece) (bytes : List ℕ) (j : ℕ) (q : Piece) (d : ℕ × List ℕ) → j < length qs → q ≡ get_or qs j q
    → (q.block, take q.len (drop (pieces_length (take j qs)) bytes)) ≡ get_or (parts qs bytes) j d
part_there [] bytes j q d lt is = absurd (omega arith)
part_there (p ∷ ps) bytes zero q d lt is = ap (λ (y : Piece). (y.block, take y.len bytes)) is
part_there (p ∷ ps) bytes (suc j) q d lt is =
    ap (λ (l : List ℕ). (q.block, take q.len l)) (sym (drop_sum bytes p.len (pieces_length (take j ps))))
    ∙ part_there ps (drop p.len bytes) j q d (omega arith) is

pub pieces_take : (qs : List Piece) (j : ℕ) (q : Piece) → j < length qs → q ≡ get_or qs j q
    → pieces_length (take (j + 1) qs) ≡ pieces_length (take j qs) + q.len
pieces_take [] j q lt is = absurd (omega arith)
pieces_take (p ∷ ps) zero q lt is = (let e = ap (λ (y : Piece). y.len) is in omega arith)
pieces_take (p ∷ ps) (suc j) q lt is =
    ap (λ (n : ℕ). pieces_length (take n (p ∷ ps))) (let e : suc j + 1 ≡ suc (j + 1) = omega arith in e)
    ∙ (let e = pieces_take ps j q (omega arith) is in omega arith)

pub pieces_within : (qs : List Piece) (j : ℕ) → pieces_length (take j qs) ≤ pieces_length qs
pieces_within [] zero = omega arith
pieces_within [] (suc j) = omega arith
pieces_within (p ∷ ps) zero = omega arith
pieces_within (p ∷ ps) (suc j) = (let e = pieces_within ps j in omega arith)

pub block_within : (n : ℕ) (qs : List Piece) (j : ℕ) (q : Piece) → All (λ p. p.block < n) qs → j < length qs → q ≡ get_or qs j q → q.block < n
block_within n [] j q h lt is = absurd (omega arith)
block_within n (p ∷ ps) zero q h lt is = (let e = ap (λ (y : Piece). y.block) is in let w = h.0 in omega arith)
block_within n (p ∷ ps) (suc j) q h lt is = block_within n ps j q h.1 (omega arith) is

-- of each block at most its own is written
pub part_short : (k j : ℕ) (ps : Parts) → length (bytes_at k (take j ps)) ≤ length (bytes_at k ps)
part_short k j ps =
    omega (
      arith,
      ap (λ (l : Parts). length (bytes_at k l)) (take-append-drop j ps),
      ap (λ (l : List ℕ). length l) (flat_map-append (λ (x : ℕ × List ℕ). if x.0 == k then x.1 else []) (take j ps) (drop j ps)),
      length-append (bytes_at k (take j ps)) (bytes_at k (drop j ps)),
    )

-- ---- the first pass

pub rows_room : (rows : List Row) (ps : Parts) (number size count i : ℕ) (row : Row) (bytes : List ℕ) → AreMeasured 0 rows ps
    → size ≡ 20 + length (laid 0 rows ps) → bytes ≡ head_bytes number (size - 20) count ++ filled 0 (take i rows) [] → i < length rows → row ≡ get_or rows i row
    → length bytes + (length (front_of row) + row.len) ≤ size
rows_room rows ps number size count i row bytes measured is told lt here =
    omega (
      arith,
      is,
      ap (λ (l : List ℕ). length l) told,
      length-append (head_bytes number (size - 20) count) (filled 0 (take i rows) []),
      length-head latest number (size - 20) count,
      gaps_length 0 (take i rows),
      total_take rows i row lt here,
      laid_length 0 rows ps measured,
    )

row_taken : (rows : List Row) (i : ℕ) (row : Row) → i < length rows → row ≡ get_or rows i row → take (i + 1) rows ≡ take i rows ++ row ∷ []
row_taken rows i row lt is = take_more rows i row lt ∙ ap (λ (r : Row). take i rows ++ r ∷ []) (sym is)

pub bytes_next : (head old new : List ℕ) (rows : List Row) (i : ℕ) (row : Row) → i < length rows → row ≡ get_or rows i row
    → old ≡ head ++ filled 0 (take i rows) [] → new ≡ old ++ (front_of row ++ zeros row.len) → new ≡ head ++ filled 0 (take (i + 1) rows) []
bytes_next head old new rows i row lt is was more =
    let done = filled 0 (take i rows) [] in
    more ∙ ap (λ (l : List ℕ). l ++ (front_of row ++ zeros row.len)) was ∙ append_assoc head done (front_of row ++ zeros row.len)
    ∙ ap (λ (l : List ℕ). head ++ (done ++ (front_of row ++ l))) (sym (gap_is row.len))
    ∙ ap (λ (l : List ℕ). head ++ l) (sym (filled_push 0 (take i rows) row))
    ∙ ap (λ (rs : List Row). head ++ filled 0 rs []) (sym (row_taken rows i row lt is))

pub spots_next : (head bytes old new : List ℕ) (rows : List Row) (i : ℕ) (row : Row) → length head ≡ 20 → i < length rows → row ≡ get_or rows i row
    → bytes ≡ head ++ filled 0 (take i rows) [] → old ≡ ends 20 0 (take i rows) [] → new ≡ old ++ (length bytes + length (front_of row)) ∷ []
    → new ≡ ends 20 0 (take (i + 1) rows) []
spots_next head bytes old new rows i row twenty lt is stand was more =
    let at : length bytes + length (front_of row) ≡ 20 + length (filled 0 (take i rows) []) + length (front_of row) =
    omega (arith, ap (λ (l : List ℕ). length l) stand, length-append head (filled 0 (take i rows) [])) in
    more ∙ ap (λ (l : List ℕ). l ++ (length bytes + length (front_of row)) ∷ []) was ∙ ap (λ (k : ℕ). ends 20 0 (take i rows) [] ++ k ∷ []) at
    ∙ sym (ends_push 20 0 (take i rows) row) ∙ ap (λ (rs : List Row). ends 20 0 rs []) (sym (row_taken rows i row lt is))

-- ---- the second pass

pub filled_length : (i : ℕ) (rs : List Row) (ps whole : Parts) → AreMeasured i rs whole → ((j : ℕ) → length (bytes_at j ps) ≤ length (bytes_at j whole))
    → length (filled i rs ps) ≡ total rs
filled_length i [] ps whole m part = refl
filled_length i (r ∷ rs) ps whole m part =
    (let e = m.0 in
    let p = part i in
    omega (
      arith,
      length-append (front_of r ++ padded r.len (bytes_at i ps)) (filled (suc i) rs ps),
      length-append (front_of r) (padded r.len (bytes_at i ps)),
      length-append (bytes_at i ps) (zeros (r.len - length (bytes_at i ps))),
      length-zeros (r.len - length (bytes_at i ps)),
      filled_length (suc i) rs ps whole m.2 part,
    ))

pub end_within : (base i d : ℕ) (rs : List Row) (ps whole : Parts) (xs : List ℕ) → AreMeasured i rs whole
    → length (bytes_at (i + d) ps) + length xs ≤ length (bytes_at (i + d) whole) → d < length rs
    → get_or (ends base i rs ps) d 0 + length xs ≤ base + total rs
end_within base i d [] ps whole xs m short lt = absurd (omega arith)
end_within base i zero (r ∷ rs) ps whole xs m short lt =
    (let e = m.0 in
    let same : i + zero ≡ i = omega arith in
    let now = subst (λ (n : ℕ). length (bytes_at n ps) + length xs ≤ length (bytes_at n whole)) same short in
    omega arith)
end_within base i (suc d) (r ∷ rs) ps whole xs m short lt =
    (let same : i + suc d ≡ suc i + d = omega arith in
    let rest = end_within (base + length (front_of r) + r.len) (suc i) d rs ps whole xs m.2
    (subst (λ (n : ℕ). length (bytes_at n ps) + length xs ≤ length (bytes_at n whole)) same short) (omega arith) in
    omega arith)

-- a piece has room in its block
pub piece_short : (qs : List Piece) (bytes : List ℕ) (j : ℕ) (q : Piece) → j < length qs → q ≡ get_or qs j q
    → length (bytes_at q.block (take j (parts qs bytes))) + length (take q.len (drop (pieces_length (take j qs)) bytes)) ≤ length
    (bytes_at q.block (parts qs bytes))
piece_short qs bytes j q lt is =
    let part : ℕ × List ℕ = (q.block, take q.len (drop (pieces_length (take j qs)) bytes)) in
    let within = taken_within (λ (x : ℕ × List ℕ). if x.0 == q.block then x.1 else []) (parts qs bytes) j part (let n = parts_count qs bytes in omega arith)
    (part_there qs bytes j q part lt is) in
    subst (λ (b : Bool). length (bytes_at q.block (take j (parts qs bytes))) + length (if b then part.1 else []) ≤ length (bytes_at q.block (parts qs bytes)))
    (eq-eqb q.block q.block refl) within

ends_count : (base i : ℕ) (rs : List Row) (ps : Parts) → length (ends base i rs ps) ≡ length rs
ends_count base i [] ps = refl
ends_count base i (r ∷ rs) ps = ap suc (ends_count (base + length (front_of r) + r.len) (suc i) rs ps)

-- the pieces from an index on stand in what is left of the arena
pub record Stepped (head : List ℕ) (rows : List Row) (qs : List Piece) (arena : List ℕ) (j : ℕ) (q : Piece) (rest bytes spots : List ℕ) : Type 0 where
  pub inside : q.len ≤ length rest
  pub behind : drop q.len rest ≡ drop (pieces_length (take (j + 1) qs)) arena
  pub spot : q.block < length spots
  pub within : get_or spots q.block 0 + length (take q.len rest) ≤ length bytes
  pub size : length bytes ≡ 20 + length (laid 0 rows (parts qs arena))
  pub bytes_next : written (get_or spots q.block 0) (take q.len rest) bytes ≡ head ++ filled 0 rows (take (j + 1) (parts qs arena))
  pub spots_next : set spots q.block (get_or spots q.block 0 + length (take q.len rest)) ≡ ends 20 0 rows (take (j + 1) (parts qs arena))

-- the same with the values of a step named
step_at : (head : List ℕ) (rows : List Row) (qs : List Piece) (arena : List ℕ) (j : ℕ) (q : Piece) → length head ≡ 20 → AreMeasured 0 rows (parts qs arena)
    → All (λ p. p.block < length rows) qs → pieces_length qs ≡ length arena → j < length qs → q ≡ get_or qs j q
    → Stepped head rows qs arena j q (drop (pieces_length (take j qs)) arena) (head ++ filled 0 rows (take j (parts qs arena)))
    (ends 20 0 rows (take j (parts qs arena)))
step_at head rows qs arena j q twenty measured within parted lt is =
    let whole = parts qs arena in
    let done = take j whole in
    let from = pieces_length (take j qs) in
    let rest = drop from arena in
    let xs = take q.len rest in
    let block = block_within (length rows) qs j q within lt is in
    let short = piece_short qs arena j q lt is in
    let part : (k : ℕ) → length (bytes_at k done) ≤ length (bytes_at k whole) = λ k. part_short k j whole in
    let long : length (filled 0 rows done) ≡ total rows = filled_length 0 rows done whole measured part in
    let all : length (head ++ filled 0 rows done) ≡ length head + length (filled 0 rows done) = length-append head (filled 0 rows done) in
    let zeroth : 0 + q.block ≡ q.block = omega arith in
    let first : q.block - 0 ≡ q.block = omega arith in
    let end : get_or (ends 20 0 rows done) q.block 0 + length xs ≤ 20 + total rows =
    end_within 20 0 q.block rows done whole xs measured (subst (λ (n : ℕ). length (bytes_at n done) + length xs ≤ length (bytes_at n whole))
    (sym zeroth) short) block in
    let put = put_piece head 20 0 q.block rows done whole xs (get_or (ends 20 0 rows done) q.block 0) (sym twenty) (omega arith) measured part short
    (omega arith)
    (ap (λ (n : ℕ). get_or (ends 20 0 rows done) n 0) (sym first)) in
    let next = parts_next qs arena j q lt is in
    let gone : pieces_length (take (j + 1) qs) ≡ from + q.len = pieces_take qs j q lt is in
    let upto = pieces_within qs (j + 1) in
    record {
      inside = omega (arith, length-drop from arena);
      behind = drop_sum arena from q.len ∙ ap (λ (n : ℕ). drop n arena) (sym gone);
      spot = omega (arith, ends_count 20 0 rows done);
      within = omega arith;
      size = omega (arith, laid_length 0 rows whole measured);
      bytes_next = put.0 ∙ ap (λ (ps : Parts). head ++ filled 0 rows ps) (sym next);
      spots_next = ap (λ (n : ℕ). set (ends 20 0 rows done) n (get_or (ends 20 0 rows done) q.block 0 + length xs)) (sym first) ∙ put.1
          ∙ ap (λ (ps : Parts). ends 20 0 rows ps) (sym next);
    }

pub piece_step : (head : List ℕ) (rows : List Row) (qs : List Piece) (arena : List ℕ) (j : ℕ) (q : Piece) (rest bytes spots : List ℕ) → length head ≡ 20
    → AreMeasured 0 rows (parts qs arena) → All (λ p. p.block < length rows) qs → pieces_length qs ≡ length arena → j < length qs → q ≡ get_or qs j q
    → rest ≡ drop (pieces_length (take j qs)) arena → bytes ≡ head ++ filled 0 rows (take j (parts qs arena)) → spots ≡ ends 20 0 rows (take j (parts qs arena))
    → Stepped head rows qs arena j q rest bytes spots
piece_step head rows qs arena j q rest bytes spots twenty measured within parted lt is left told ended =
    subst (λ (l : List ℕ). Stepped head rows qs arena j q rest bytes l) (sym ended)
    (subst (λ (l : List ℕ). Stepped head rows qs arena j q rest l (ends 20 0 rows (take j (parts qs arena)))) (sym told)
    (subst (λ (l : List ℕ). Stepped head rows qs arena j q l (head ++ filled 0 rows (take j (parts qs arena)))
    (ends 20 0 rows (take j (parts qs arena)))) (sym left)
    (step_at head rows qs arena j q twenty measured within parted lt is)))

-- all pieces are written once the last one is
pub all_written : (rows : List Row) (qs : List Piece) (arena : List ℕ) (j : ℕ) → length qs ≤ j → AreMeasured 0 rows (parts qs arena)
    → filled 0 rows (take j (parts qs arena)) ≡ laid 0 rows (parts qs arena)
all_written rows qs arena j end measured =
    ap (λ (ps : Parts). filled 0 rows ps) (take_all j (parts qs arena) (let n = parts_count qs arena in omega arith))
    ∙ filled_all 0 rows (parts qs arena) measured

-- What no row touches has no open Delta, and what is left of the rows at each step.

use Rattle.std.proofs.Common.{◌≡◌, ◌∙◌, ℕ, zero, suc, ◌+◌, ◌<◌, ◌≤◌, Bool, true, false, Option, Some, None, List, [], ◌∷◌, length, drop, get_or, refl}
use Rattle.std.proofs.Common.{sym, ap, subst, arith, if◌then◌else◌}
use Rattle.std.proofs.lemmas.List.{drop_all}
use Rattle.bw_record.specs.Touch.{touches}
use Rattle.bw_record.specs.declared.block.Block.{Block}
use Rattle.bw_record.specs.declared.block.Block.TheVariants.{Delta, Base, Split}
use Rattle.bw_buffer.specs.Joining.{open_from, is_delta}
use Rattle.bw_buffer.specs.Index.{index_at}
use Rattle.bw_buffer.specs.Marks.{mark_of, is_closed_by}
use Rattle.bw_buffer.specs.Rows.{Parts, bytes_at, AreRows, IsUntouched}
use Rattle.bw_buffer.specs.Laid.{blocks_of, parts_of, IsLaid}
use Rattle.bw_buffer.specs.declared.rows.Row.{Row}
use Rattle.bw_buffer.specs.declared.buffer.Buffer.TheInside.{Inside}
use Rattle.bw_buffer.proofs.Pieces.{row_mark}

-- a block touches the pages that its mark closes
touched : (p : ℕ) (b : Block) → touches p b ≡ is_closed_by p (mark_of b)
touched p (Delta page back ops) = refl
touched p (Base leaf) = refl
touched p (Split page back upper) = refl

-- a page that no row touches is as it was
as_it_was : (p i n : ℕ) (was : Option ℕ) (rows : List Row) (ps : Parts) (bs : List Block) → AreRows i rows ps bs → IsUntouched p rows
    → open_from p n was bs ≡ was
as_it_was p i n was [] ps [] h u = refl
as_it_was p i n was [] ps (b ∷ bs) h u = absurd h
as_it_was p i n was (r ∷ rs) ps [] h u = absurd h
as_it_was p i n was (r ∷ rs) ps (b ∷ bs) h u =
    let not : touches p b ≡ false = touched p b ∙ ap (is_closed_by p) (sym (row_mark r (bytes_at i ps) b h.0)) ∙ u.0 in
    ap (λ (t : Bool). open_from p (suc n) (if t then (if is_delta b then Some n else None) else was) bs) not
    ∙ as_it_was p (suc i) (suc n) was rs ps bs h.1 u.1

-- so it has no open Delta
pub none_open : (a : Inside) (p : ℕ) → IsLaid a → IsUntouched p a.rows.items → index_at a.deltas p ≡ None
none_open a p h u = h.told p ∙ as_it_was p 0 0 None a.rows.items (parts_of a) (blocks_of a) h.rows u

-- rows from an index on that do not touch a page, and the row before them
one_more : (p i : ℕ) (rows : List Row) (d : Row) → i < length rows → is_closed_by p (get_or rows i d).mark ≡ false → IsUntouched p (drop (suc i) rows)
    → IsUntouched p (drop i rows)
one_more p i [] d lt not u = absurd (omega arith)
one_more p zero (r ∷ rs) d lt not u = (not, u)
one_more p (suc i) (r ∷ rs) d lt not u = one_more p i rs d (omega arith) not u

-- a page that the row closes has no index then, and one that it does not close has none if the rows
-- after do not touch it
pub closed_so_far : (p i : ℕ) (rows : List Row) (d : Row) (was now : Option ℕ) → i < length rows
    → now ≡ (if is_closed_by p (get_or rows i d).mark then None else was)
    → (IsUntouched p (drop i rows) → was ≡ None) → IsUntouched p (drop (i + 1) rows) → now ≡ None
closed_so_far p i rows d was now lt e before u = by_test (is_closed_by p (get_or rows i d).mark) refl
  where
    behind : IsUntouched p (drop (suc i) rows)
    behind = (let next : i + 1 ≡ suc i = omega arith in subst (λ (n : ℕ). IsUntouched p (drop n rows)) next u)

    by_test : (t : Bool) → is_closed_by p (get_or rows i d).mark ≡ t → now ≡ None
    by_test true is = e ∙ ap (λ (t : Bool). if t then None else was) is
    by_test false is = e ∙ ap (λ (t : Bool). if t then None else was) is ∙ before (one_more p i rows d lt is behind)

-- after all rows nothing is left
pub none_left : (p i : ℕ) (rows : List Row) → length rows ≤ i → IsUntouched p (drop i rows)
none_left p i [] le = subst (IsUntouched p) (sym (drop_all i [] le)) tt
none_left p zero (r ∷ rs) le = absurd (omega arith)
none_left p (suc i) (r ∷ rs) le = none_left p i rs (omega arith)

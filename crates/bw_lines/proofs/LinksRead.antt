-- A map of lines, and the links of the blocks that were read.

use Rattle.std.proofs.Common.{zero, suc, take, drop, get_or, ◌+◌, ◌<◌, length, append_assoc, arith, ◌≡◌, ℕ, Bool, true, false, if◌then◌else◌, nat_eq, Option, Some, None, Result, Ok, Err, OnOk, IfErr}
use Rattle.std.proofs.Common.{List, [], ◌∷◌, ◌++◌, refl, sym, ap, ◌∙◌, subst}
use Rattle.std.specs.List.{fold}
use Rattle.std.specs.BTreeMap as tree
use Rattle.std.specs.Ordering.{nat_cmp}
use Rattle.std.proofs.lemmas.Grind.{fold-append}
use Rattle.bw_record.specs.Touch.{sets, touches}
use Rattle.bw_record.specs.declared.record.Record.{Record}
use Rattle.bw_record.specs.declared.block.Block.{Block}
use Rattle.bw_record.specs.declared.block.Block.TheVariants.{Delta}
use Rattle.bw_record.specs.declared.block.Place.{Place}
use Rattle.bw_log.specs.PageTable.{changed_line, set_line}
use Rattle.bw_log.specs.declared.places.PageAt.{PageAt}
use Rattle.bw_log.specs.Places.{placed, later, last_place, is_back, fault_at, fault_of, or_else, bad_link}
use Rattle.bw_log.proofs.Links.{bad_link-append}
use Rattle.bw_lines.specs.declared.links.Line.{Line}
use Rattle.bw_lines.specs.declared.links.ReadFault.{ReadFault}
use Rattle.bw_lines.specs.declared.links.ReadFault.TheVariants.{NoMemory, BadLink}
use Rattle.bw_lines.specs.Reading.{place_in, at_in, changed_by, line_after, line_of, AreLines, IsRead, LinkFaultIs, IsUnlinked}
use Rattle.bw_lines.proofs.LinesAfter.{delta_told}

-- a line's place is the last block that touches the page
-- wherever a page was set before, its last block is the one that was read
pub at_place : (t : Bool) (q : Place) (w : PageAt) → (if t then set_line q else changed_line q w).place ≡ q
at_place true q w = refl
at_place false q w = refl

place_step : (p : ℕ) (was : Option Line) (last : Option Place) (x : Place × Block) (t : Bool) → touches p x.1 ≡ t → place_in was ≡ last
    → place_in (line_after p was x) ≡ later (touches p) last x
place_step p was last x true e same = rw e (ap (λ (q : Place). Some q) (at_place (sets p x.1) x.0 (at_in was)))
place_step p was last x false e same = rw e same

place_fold : (p : ℕ) (was : Option Line) (last : Option Place) (xs : List (Place × Block)) → place_in was ≡ last
    → place_in (line_of p was xs) ≡ fold (later (touches p)) last xs
place_fold p was last [] same = same
place_fold p was last (x ∷ xs) same = place_fold p (line_after p was x) (later (touches p) last x) xs (place_step p was last x (touches p x.1) refl same)

pub place_is : (p : ℕ) (xs : List (Place × Block)) → place_in (line_of p None xs) ≡ last_place (touches p) xs
place_is p xs = place_fold p None None xs refl

-- ---- one block

pub right : (first : ℕ) (done : List (Place × Block)) (lines : tree.BTreeMap ℕ Line) (page : ℕ) (back : Place) (t : Bool) → IsRead first done lines
    → t ≡ is_back first (place_in (tree.get nat_cmp lines page)) back
    → (if t then None else Some page) ≡ fault_at first done page back
right first done lines page back t read is =
    ap (λ (b : Bool). if b then None else Some page)
    (is ∙ ap (λ (o : Option Place). is_back first o back) (ap place_in (read.lines page) ∙ place_is page done))

pub read_more : (first : ℕ) (done : List (Place × Block)) (old new : tree.BTreeMap ℕ Line) (place : Place) (block : Block) → IsRead first done old
    → fault_of first done block ≡ None → AreLines old ((place, block) ∷ []) new
    → IsRead first (done ++ (place, block) ∷ []) new
read_more first done old new place block read right step = record {
  lines = λ p. step p ∙ ap (λ (o : Option Line). line_after p o (place, block)) (read.lines p)
      ∙ sym (fold-append (line_after p) None done ((place, block) ∷ []));
  linked = bad_link-append first [] done ((place, block) ∷ []) ∙ ap (λ (o : Option ℕ). or_else o (bad_link first done ((place, block) ∷ []))) read.linked
      ∙ ap (λ (o : Option ℕ). or_else o None) right;
}

-- the first wrong link of blocks, of which these were read
pub wrong_here : (first : ℕ) (done : List (Place × Block)) (x : Place × Block) (rest : List (Place × Block)) (p : ℕ) → bad_link first [] done ≡ None
    → fault_of first done x.1 ≡ Some p → bad_link first [] (done ++ x ∷ rest) ≡ Some p
wrong_here first done x rest p linked wrong =
    bad_link-append first [] done (x ∷ rest) ∙ ap (λ (o : Option ℕ). or_else o (bad_link first done (x ∷ rest))) linked
    ∙ ap (λ (o : Option ℕ). or_else o (bad_link first (done ++ x ∷ []) rest)) wrong

placed_more : (n i : ℕ) (bs : List Block) (b : Block) (k : ℕ) → k ≡ i + length bs
    → placed n i (bs ++ b ∷ []) ≡ placed n i bs ++ (record { frame = n; index = k }, b) ∷ []
placed_more n i [] b k is = (let same : i ≡ k = omega arith in ap (λ (j : ℕ). (record { frame = n; index = j }, b) ∷ []) same)
placed_more n i (c ∷ bs) b k is = (let same : k ≡ i + 1 + length bs = omega arith
    in ap (λ (l : List (Place × Block)). (record { frame = n; index = i }, c) ∷ l) (placed_more n (i + 1) bs b k same))

pub blocks_more : (first number k : ℕ) (done : List (Place × Block)) (bs : List Block) (b : Block) (lines : tree.BTreeMap ℕ Line) → k ≡ length bs
    → IsRead first ((done ++ placed number 0 bs) ++ (record { frame = number; index = k }, b) ∷ []) lines
    → IsRead first (done ++ placed number 0 (bs ++ b ∷ [])) lines
blocks_more first number k done bs b lines is read =
    let at : k ≡ 0 + length bs = omega arith in
    subst (λ (l : List (Place × Block)). IsRead first l lines)
    (append_assoc done (placed number 0 bs) ((record { frame = number; index = k }, b) ∷ [])
    ∙ ap (λ (l : List (Place × Block)). done ++ l) (sym (placed_more number 0 bs b k at))) read

placed_join : (n i : ℕ) (xs ys : List Block) (k : ℕ) → k ≡ i + length xs → placed n i (xs ++ ys) ≡ placed n i xs ++ placed n k ys
placed_join n i [] ys k is = (let same : i ≡ k = omega arith in ap (λ (j : ℕ). placed n j ys) same)
placed_join n i (x ∷ xs) ys k is = (let same : k ≡ i + 1 + length xs = omega arith
    in ap (λ (l : List (Place × Block)). (record { frame = n; index = i }, x) ∷ l) (placed_join n (i + 1) xs ys k same))

wrong_as : (o p : Option ℕ) (fault : ReadFault) → ((q : ℕ) → p ≡ Some q → o ≡ Some q) → LinkFaultIs p fault → LinkFaultIs o fault
wrong_as o p NoMemory f is = tt
wrong_as o p (BadLink q) f is = f q is

-- a wrong link among the blocks of a frame
pub blocks_wrong : (first number k : ℕ) (done rest : List (Place × Block)) (bs more all : List Block) (b : Block) (lines : tree.BTreeMap ℕ Line)
    (fault : ReadFault) → k ≡ length bs → all ≡ bs ++ b ∷ more → IsRead first (done ++ placed number 0 bs) lines
    → LinkFaultIs (fault_of first (done ++ placed number 0 bs) b) fault → LinkFaultIs (bad_link first [] (done ++ (placed number 0 all ++ rest))) fault
blocks_wrong first number k done rest bs more all b lines fault is split read wrong =
    let at : k ≡ 0 + length bs = omega arith in
    let here : Place × Block = (record { frame = number; index = k }, b) in
    let parts : placed number 0 all ++ rest ≡ placed number 0 bs ++ here ∷ (placed number (k + 1) more ++ rest) =
    ap (λ (l : List Block). placed number 0 l ++ rest) split ∙ ap (λ (l : List (Place × Block)). l ++ rest) (placed_join number 0 bs (b ∷ more) k at)
    ∙ append_assoc (placed number 0 bs) (here ∷ placed number (k + 1) more) rest in
    let whole : done ++ (placed number 0 all ++ rest) ≡ (done ++ placed number 0 bs) ++ here ∷ (placed number (k + 1) more ++ rest) =
    ap (λ (l : List (Place × Block)). done ++ l) parts ∙ sym (append_assoc done (placed number 0 bs) (here ∷ (placed number (k + 1) more ++ rest))) in
    wrong_as (bad_link first [] (done ++ (placed number 0 all ++ rest))) (fault_of first (done ++ placed number 0 bs) b) fault
    (λ q e. ap (bad_link first []) whole ∙ wrong_here first (done ++ placed number 0 bs) here (placed number (k + 1) more ++ rest) q read.linked e) wrong

-- the items so far, the next one and those after it
pub split_there : {X : Type 0} (xs yielded : List X) (x : X) → xs ≡ yielded ++ x ∷ drop (length yielded + 1) xs
    → xs ≡ yielded ++ x ∷ drop (length yielded + 1) xs
split_there xs yielded x e = e

-- ---- a frame's blocks, taken from the front

pub record IsNextOf (all : List Block) (i : ℕ) (b : Block) (more : List Block) : Type 0 where
  pub front : take (i + 1) all ≡ take i all ++ b ∷ []
  pub beyond : drop (i + 1) all ≡ more
  pub split : all ≡ take i all ++ b ∷ more
  pub index : i ≡ length (take i all)

next_of_by : (all : List Block) (i : ℕ) (b : Block) (more : List Block) → drop i all ≡ b ∷ more
    → (take (suc i) all ≡ take i all ++ b ∷ []) × (drop (suc i) all ≡ more) × (all ≡ take i all ++ b ∷ more) × (i ≡ length (take i all))
next_of_by [] zero b more is = absurd cc
next_of_by [] (suc i) b more is = absurd cc
next_of_by (x ∷ xs) zero b more is = (let same : x ≡ b = cc in let rest : xs ≡ more = cc in (ap (λ (y : Block). y ∷ []) same, rest, λ k. same k ∷ rest k, refl))
next_of_by (x ∷ xs) (suc i) b more is =
    let n = next_of_by xs i b more is in
    (ap (λ (l : List Block). x ∷ l) n.0, n.1, ap (λ (l : List Block). x ∷ l) n.2, ap suc n.3)

pub next_of : (all now later : List Block) (i : ℕ) (b : Block) → now ≡ drop i all → now ≡ b ∷ later → IsNextOf all i b later
next_of all now later i b is front =
    let one : suc i ≡ i + 1 = omega arith in
    let n = next_of_by all i b later (sym is ∙ front) in
    record { front = ap (λ (k : ℕ). take k all) (sym one) ∙ n.0; beyond = ap (λ (k : ℕ). drop k all) (sym one) ∙ n.1; split = n.2; index = n.3 }

-- an item, and those after it
item_there : (all : List Block) (i : ℕ) (b : Block) → i < length all → b ≡ get_or all i b → drop i all ≡ b ∷ drop (suc i) all
item_there [] i b inside is = absurd (omega arith)
item_there (x ∷ xs) zero b inside is = ap (λ (y : Block). y ∷ xs) (sym is)
item_there (x ∷ xs) (suc i) b inside is = item_there xs i b (omega arith) is

pub next_at : (all : List Block) (i : ℕ) (b : Block) → i < length all → b ≡ get_or all i b → IsNextOf all i b (drop (suc i) all)
next_at all i b inside is = next_of all (drop i all) (drop (suc i) all) i b refl (item_there all i b inside is)

pub blocks_step : (first number i : ℕ) (done : List (Place × Block)) (all later : List Block) (b : Block) (lines : tree.BTreeMap ℕ Line)
    → IsNextOf all i b later → IsRead first ((done ++ placed number 0 (take i all)) ++ (record { frame = number; index = i }, b) ∷ []) lines
    → IsRead first (done ++ placed number 0 (take (i + 1) all)) lines
blocks_step first number i done all later b lines n read =
    subst (λ (l : List Block). IsRead first (done ++ placed number 0 l) lines) (sym n.front) (blocks_more first number i done (take i all) b lines n.index read)

-- ---- a Delta, whose link is looked at with its page's line

pub delta_linked : (r : Result (Unit {0}) ReadFault) (first : ℕ) (done : List (Place × Block)) (old new : tree.BTreeMap ℕ Line) (place back : Place) (page : ℕ)
    (ops records : List Record) (block : Block) → block ≡ Delta page back ops → records ≡ ops
    → OnOk r (is_back first (place_in (tree.get nat_cmp old page)) back ≡ true)
    → ((p : ℕ) → OnOk r (tree.get nat_cmp new p ≡ (if nat_eq page p then Some (changed_by place records (tree.get nat_cmp old page)) else tree.get nat_cmp old p)))
    → IsRead first done old → OnOk r (IsRead first (done ++ (place, block) ∷ []) new)
delta_linked (Ok u) first done old new place back page ops records block is same linked put read =
    let links : fault_of first done block ≡ None =
    ap (fault_of first done) is ∙ sym (right first done old page back true read (sym linked)) in
    read_more first done old new place block read links
    (delta_told {E = ReadFault} (Ok u) place back page ops records block (tree.get nat_cmp old) (tree.get nat_cmp new) is same put)
delta_linked (Err e) first done old new place back page ops records block is same linked put read = tt

pub delta_unlinked : (r : Result (Unit {0}) ReadFault) (first : ℕ) (done : List (Place × Block)) (old : tree.BTreeMap ℕ Line) (back : Place) (page : ℕ)
    (ops : List Record) (block : Block) → block ≡ Delta page back ops
    → IfErr r (IsUnlinked first page (place_in (tree.get nat_cmp old page)) back)
    → IsRead first done old → IfErr r (LinkFaultIs (fault_of first done block))
delta_unlinked (Ok u) first done old back page ops block is fault read = tt
delta_unlinked (Err NoMemory) first done old back page ops block is fault read = tt
delta_unlinked (Err (BadLink p)) first done old back page ops block is fault read =
    ap (fault_of first done) is ∙ sym (right first done old page back false read (sym fault.1)) ∙ ap (λ (q : ℕ). Some q) (sym fault.0)

-- ---- another block

pub set_linked : (first : ℕ) (done : List (Place × Block)) (old new : tree.BTreeMap ℕ Line) (place : Place) (block known : Block) → block ≡ known
    → fault_of first done known ≡ None → AreLines old ((place, known) ∷ []) new → IsRead first done old
    → IsRead first (done ++ (place, block) ∷ []) new
set_linked first done old new place block known is links step read =
    read_more first done old new place block read (ap (fault_of first done) is ∙ links)
    (subst (λ (b : Block). AreLines old ((place, b) ∷ []) new) (sym is) step)

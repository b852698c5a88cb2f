-- One more block, and the lines of a map.

use Rattle.std.proofs.Common.{◌≡◌, ℕ, nat_eq, Bool, true, false, if◌then◌else◌, Option, Some, None, Result, Ok, Err, OnOk, List, refl, sym}
use Rattle.std.proofs.Common.{ap, ◌∙◌}
use Rattle.std.specs.Option.{option_map}
use Rattle.std.proofs.lemmas.Bool.{eqb-true}
use Rattle.bw_record.specs.declared.block.Block.{Block}
use Rattle.bw_record.specs.declared.block.Block.TheVariants.{Delta, Base, Split}
use Rattle.bw_record.specs.declared.block.Place.{Place}
use Rattle.bw_record.specs.declared.leaf.Leaf.{Leaf}
use Rattle.bw_record.specs.declared.record.Record.{Record}
use Rattle.bw_leaf.specs.Forwards.{kept_below}
use Rattle.bw_lines.specs.declared.links.Line.{Line}
use Rattle.bw_log.specs.PageTable.{changed_line, set_line}
use Rattle.bw_log.specs.declared.places.PageAt.{PageAt}
use Rattle.bw_lines.specs.Reading.{at_in, leaf_in, changed_by, line_after}

abbrev Lines : Type 0
Lines = ℕ → Option Line

pub on_each : {E : Type 0} (F : ℕ → Type 0) (r : Result (Unit {0}) E) → ((p : ℕ) → OnOk r (F p)) → OnOk r ((p : ℕ) → F p)
on_each F (Ok u) h = h
on_each F (Err e) h = tt

pub on_more : {E P Q : Type 0} (r : Result (Unit {0}) E) → (P → Q) → OnOk r P → OnOk r Q
on_more (Ok u) f h = f h
on_more (Err e) f h = tt

-- a map without a line, and with one
abbrev pub Without : ℕ → Lines → Lines → Type 0
Without page old new = (q : ℕ) → new q ≡ (if nat_eq page q then None else old q)

abbrev pub With : ℕ → Line → Lines → Lines → Type 0
With page line old new = (q : ℕ) → new q ≡ (if nat_eq page q then Some line else old q)

-- ---- Delta

delta_by : (p page : ℕ) (place back : Place) (ops : List Record) (old : Lines) (t : Bool) → nat_eq page p ≡ t
    → (if t then Some (changed_by place ops (old page)) else old p) ≡ line_after p (old p) (place, Delta page back ops)
delta_by p page place back ops old true e = rw e (ap (λ (k : ℕ). Some (changed_by place ops (old k))) (eqb-true page p e))
delta_by p page place back ops old false e = rw e refl

pub delta_line : (p page : ℕ) (place back : Place) (ops : List Record) (old new : Lines) → With page (changed_by place ops (old page)) old new
    → new p ≡ line_after p (old p) (place, Delta page back ops)
delta_line p page place back ops old new with_it = with_it p ∙ delta_by p page place back ops old (nat_eq page p) refl

-- ---- Base

abbrev pub base_after : Place → Leaf → Line
base_after place leaf = record { at = set_line place; leaf = Some leaf }

base_by : (p : ℕ) (place : Place) (leaf : Leaf) (old : Lines) (t : Bool) → nat_eq leaf.page p ≡ t
    → (if t then Some (base_after place leaf) else old p) ≡ line_after p (old p) (place, Base leaf)
base_by p place leaf old true e = rw e refl
base_by p place leaf old false e = rw e refl

pub base_line : (p : ℕ) (place : Place) (leaf : Leaf) (old new : Lines) → With leaf.page (base_after place leaf) old new
    → new p ≡ line_after p (old p) (place, Base leaf)
base_line p place leaf old new with_it = with_it p ∙ base_by p place leaf old (nat_eq leaf.page p) refl

-- ---- Split

abbrev pub split_after : Place → List ℕ → Option Line → Line
split_after place low was = record { at = changed_line place (at_in was); leaf = option_map (kept_below low) (leaf_in was) }

split_by : (p page : ℕ) (place back : Place) (upper : Leaf) (old mid : Lines) (t u : Bool) → nat_eq page p ≡ t → nat_eq upper.page p ≡ u → Without page old mid
    → (if u then Some (base_after place upper) else if t then Some (split_after place upper.low (old page)) else mid p)
    ≡ line_after p (old p) (place, Split page back upper)
split_by p page place back upper old mid true true e f without = rw (e, f) refl
split_by p page place back upper old mid false true e f without = rw (e, f) refl
split_by p page place back upper old mid true false e f without = rw (e, f) (ap (λ (k : ℕ). Some (split_after place upper.low (old k))) (eqb-true page p e))
split_by p page place back upper old mid false false e f without = rw (e, f) (without p ∙ (rw e refl))

pub split_line : (p page : ℕ) (place back : Place) (upper : Leaf) (old mid one new : Lines) → Without page old mid
    → With page (split_after place upper.low (old page)) mid one → With upper.page (base_after place upper) one new
    → new p ≡ line_after p (old p) (place, Split page back upper)
split_line p page place back upper old mid one new without with_it more =
    more p ∙ ap (λ (o : Option Line). if nat_eq upper.page p then Some (base_after place upper) else o) (with_it p)
    ∙ split_by p page place back upper old mid (nat_eq page p) (nat_eq upper.page p) refl refl without

-- ---- as the code goes

pub delta_told : {E : Type 0} (r : Result (Unit {0}) E) (place back : Place) (page : ℕ) (ops records : List Record) (block : Block) (old new : Lines)
    → block ≡ Delta page back ops → records ≡ ops
    → ((p : ℕ) → OnOk r (new p ≡ (if nat_eq page p then Some (changed_by place records (old page)) else old p)))
    → OnOk r ((p : ℕ) → new p ≡ line_after p (old p) (place, block))
delta_told {E} r place back page ops records block old new is same put =
    on_more r (λ (h : With page (changed_by place records (old page)) old new). λ p.
    delta_line p page place back ops old new
    (λ q. h q ∙ ap (λ (l : List Record). if nat_eq page q then Some (changed_by place l (old page)) else old q) same)
    ∙ ap (λ (b : Block). line_after p (old p) (place, b)) (sym is))
    (on_each (λ q. new q ≡ (if nat_eq page q then Some (changed_by place records (old page)) else old q)) r put)

pub base_told : {E : Type 0} (r : Result (Unit {0}) E) (place : Place) (leaf : Leaf) (block : Block) (old new : Lines) → block ≡ Base leaf
    → ((p : ℕ) → OnOk r (new p ≡ (if nat_eq leaf.page p then Some (base_after place leaf) else old p)))
    → OnOk r ((p : ℕ) → new p ≡ line_after p (old p) (place, block))
base_told r place leaf block old new is put =
    on_more r (λ (h : With leaf.page (base_after place leaf) old new). λ p. base_line p place leaf old new h
    ∙ ap (λ (b : Block). line_after p (old p) (place, b)) (sym is))
    (on_each (λ q. new q ≡ (if nat_eq leaf.page q then Some (base_after place leaf) else old q)) r put)

pub split_told : {E : Type 0} (r : Result (Unit {0}) E) (place back : Place) (was_at at : PageAt) (page : ℕ) (upper : Leaf) (low : List ℕ) (block : Block)
    (was leaf : Option Leaf) (old mid one new : Lines) → block ≡ Split page back upper
    → was_at ≡ at_in (old page) → at ≡ changed_line place was_at → was ≡ leaf_in (old page) → Without page old mid → low ≡ upper.low
    → leaf ≡ option_map (kept_below low) was
    → ((p : ℕ) → one p ≡ (if nat_eq page p then Some (record { at = at; leaf = leaf }) else mid p))
    → ((p : ℕ) → OnOk r (new p ≡ (if nat_eq upper.page p then Some (base_after place upper) else one p)))
    → OnOk r ((p : ℕ) → new p ≡ line_after p (old p) (place, block))
split_told r place back was_at at page upper low block was leaf old mid one new is was_at_is at_is was_is without same leaf_is first put =
    let leaf_told : leaf ≡ option_map (kept_below upper.low) (leaf_in (old page)) =
    leaf_is ∙ ap (λ (l : List ℕ). option_map (kept_below l) was) same ∙ ap (option_map (kept_below upper.low)) was_is in
    let at_told : at ≡ changed_line place (at_in (old page)) = at_is ∙ ap (changed_line place) was_at_is in
    let line : record { at = at; leaf = leaf } ≡ split_after place upper.low (old page) =
    λ i. record { at = at_told i; leaf = leaf_told i } in
    on_more r (λ (h : With upper.page (base_after place upper) one new). λ p.
    split_line p page place back upper old mid one new without (λ q. first q ∙ ap (λ (l : Line). if nat_eq page q then Some l else mid q) line) h
    ∙ ap (λ (b : Block). line_after p (old p) (place, b)) (sym is))
    (on_each (λ q. new q ≡ (if nat_eq upper.page q then Some (base_after place upper) else one q)) r put)

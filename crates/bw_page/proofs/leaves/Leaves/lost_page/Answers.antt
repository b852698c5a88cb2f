use Rattle.std.proofs.Common.{◌≡◌, ℕ, ◌∙◌, ◌≤◌, Bool, IsTrue, Option, None, Result, Ok, [], get_or, ap, sym, subst, true, false, length, nat_le, arith}
use Rattle.std.proofs.lemmas.Bool.{le-leb}
use Rattle.std.specs.Prelude.{is_none, is_some, not}
use Rattle.std.specs.FinMap.Entries.{find}
use Rattle.bw_codec.specs.Grammar.{IsBase}
use Rattle.bw_record.specs.Keys.{ascends}
use Rattle.bw_record.specs.Record.{key_of}
use Rattle.bw_record.specs.declared.leaf.Leaf.{Leaf}
use Rattle.bw_record.specs.declared.record.Record.{Record}
use Rattle.bw_record.specs.declared.record.Record.TheVariants.{Put, Del}
use Rattle.bw_leaf.specs.Changed.{Bytes, order}
use Rattle.bw_page.specs.Leaves.{home, result_of, AreLeaves}
use Rattle.bw_leaf.specs.Seek.{seek_of, back_of, IsWithin}
use Rattle.bw_page.specs.Shown.{Shown}
use Rattle.bw_page.specs.Aim.{IsAim}
use Rattle.bw_page.specs.Index.{view_of, IsIndexed}
use Rattle.bw_page.specs.declared.leaves.Leaves.TheInside.{Inside}
use Rattle.bw_page.proofs.Homes.{home-all}
use Rattle.bw_page.proofs.Closed.{home_at}
use Rattle.bw_leaf.proofs.Sorted.{ascends_rises}
use Rattle.bw_leaf.proofs.Valued.{Reads, reads, sought_key, some_unless_none}
use Rattle.bw_page.proofs.Parting.{seeks_itself}
use Rattle.bw_page.proofs.leaves.Leaves.lost_page.Goals as goal

-- a pair is kept for the way back, unless taking the record back removes it
kept_unless : (f : Shown) (r : Record) (removes : Bool) → AreLeaves f.m f.leaves
    → (IsTrue (ascends (home (key_of r) f.leaves).pairs) → removes ≡ is_none (back_of r (find order (key_of r) (home (key_of r) f.leaves).pairs)))
    → (b : Bool) → removes ≡ b → not b ≡ is_some (back_of r (find order (key_of r) (home (key_of r) f.leaves).pairs))
kept_unless f r removes lawful told b is =
    let rises = (home-all (IsBase f.m) (key_of r) f.leaves lawful.first lawful.each).ascends in
    sym (some_unless_none _ ∙ ap not (sym (told rises) ∙ is))

-- a record whose key had no value is taken back by another
none_had : (r : Record) (old : Option Bytes) → old ≡ None → true ≡ is_some (back_of r old)
none_had (Put key value) old h = sym (ap (λ (o : Option Bytes). is_some (back_of (Put key value) o)) h)
none_had (Del key) old h = sym (ap (λ (o : Option Bytes). is_some (back_of (Del key) o)) h)

pub returns-then-not-removes-clause-kept : goal.returns-then-not-removes-clause-kept
returns-then-not-removes-clause-kept c =
    kept_unless c.args.self.now c.args.change.now c.removes.result (subst (λ (f : Shown). AreLeaves f.m f.leaves) c.self.view_is c.self.invariant.lawful)
    (λ rises. c.removes.ensures _ rises c.requires.aim.sought) false c.if-not-removes.true

pub returns-in_ok-lost-in-Ok-clause-kept : goal.returns-in_ok-lost-in-Ok-clause-kept
returns-in_ok-lost-in-Ok-clause-kept c =
    kept_unless c.args.self.now c.args.change.now c.removes.result (subst (λ (f : Shown). AreLeaves f.m f.leaves) c.self.view_is c.self.invariant.lawful)
    (λ rises. c.removes.ensures _ rises c.requires.aim.sought) true c.if-not-removes.false

pub returns-in-Err-clause-kept : goal.returns-in-Err-clause-kept
returns-in-Err-clause-kept c =
    let f = c.args.self.now in
    let key = key_of c.args.change.now in
    let pairs = (home key f.leaves).pairs in
    let lawful : AreLeaves f.m f.leaves = subst (λ (x : Shown). AreLeaves x.m x.leaves) c.self.view_is c.self.invariant.lawful in
    let rises = ascends_rises pairs (home-all (IsBase f.m) key f.leaves lawful.first lawful.each).ascends in
    none_had c.args.change.now (find order key pairs)
    (subst (Reads (find order key pairs) pairs) c.in-Err.is (reads key pairs c.args.found rises c.requires.aim.sought))

-- the leaf is the one that the record changes
aimed : (a : Inside) (h : IsIndexed a) (f : Shown) (v : view_of a ≡ f) (r : Record) (at count : ℕ) (found : Result ℕ ℕ) → IsAim f r at count found
    → (leaf : Leaf) → leaf ≡ get_or a.leaves.items at leaf → leaf ≡ home (key_of r) f.leaves
aimed a h f v r at count found aim leaf e = home_at a h f v r aim.lawful at count aim.page aim.pairs leaf e

sought : (f : Shown) (r : Record) (leaf : Leaf) (found : Result ℕ ℕ) (place : ℕ) → leaf ≡ home (key_of r) f.leaves → found ≡ Ok place
    → found ≡ seek_of (key_of r) (home (key_of r) f.leaves).pairs → Ok place ≡ seek_of (key_of r) leaf.pairs
sought f r leaf found place at is e = sym is ∙ e ∙ ap (λ (l : Leaf). seek_of (key_of r) l.pairs) (sym at)

pub lost-requires-clause-within : goal.lost-requires-clause-within
lost-requires-clause-within c =
    let pairs = (home (key_of c.args.change.now) c.args.self.now.leaves).pairs in
    let leaf = aimed c.self.inside c.self.invariant c.args.self.now c.self.view_is c.args.change.now c.args.at c.args.count c.args.found c.requires.aim
    c.get-leaf.result.now c.get-leaf.ensures in
    let ends : IsWithin (length pairs) (Ok c.in-Ok.place) = subst (IsWithin (length pairs)) c.in-Ok.is c.requires.aim.ends in
    let same = ap (λ (l : Leaf). length l.pairs) leaf in
    omega arith

pub lost-requires-clause-sought : goal.lost-requires-clause-sought
lost-requires-clause-sought c p =
    let leaf = aimed c.self.inside c.self.invariant c.args.self.now c.self.view_is c.args.change.now c.args.at c.args.count c.args.found c.requires.aim
    c.get-leaf.result.now c.get-leaf.ensures in
    seeks_itself (key_of c.args.change.now) c.get-leaf.result.now.pairs c.in-Ok.place p
    (sought c.args.self.now c.args.change.now c.get-leaf.result.now c.args.found c.in-Ok.place leaf c.in-Ok.is c.requires.aim.sought)

pub returns-in_ok-lost-in-Ok-clause-leaf : goal.returns-in_ok-lost-in-Ok-clause-leaf
returns-in_ok-lost-in-Ok-clause-leaf c =
    let none : Bytes × Bytes = ([], []) in
    let pairs = c.requires.aim.pairs in
    let few = c.requires.few in
    let leaf = aimed c.self.inside c.self.invariant c.args.self.now c.self.view_is c.args.change.now c.args.at c.args.count c.args.found c.requires.aim
    c.get-leaf.result.now c.get-leaf.ensures in
    let key = sought_key (key_of c.args.change.now) c.get-leaf.result.now.pairs c.in-Ok.place
    (sought c.args.self.now c.args.change.now c.get-leaf.result.now c.args.found c.in-Ok.place leaf c.in-Ok.is c.requires.aim.sought) none in
    let fits : length (result_of c.args.self.now.leaves c.args.change.now).pairs ≤ c.args.self.now.m = omega arith in
    let whole : false ≡ not (nat_le (length (result_of c.args.self.now.leaves c.args.change.now).pairs) c.args.self.now.m) =
    sym (ap not (le-leb (length (result_of c.args.self.now.leaves c.args.change.now).pairs) c.args.self.now.m fits)) in
    c.in_ok-lost-in-Ok.ensures none
    ∙ (λ i. record { leaf = leaf i; pages = c.count.ensures.value i; key = key i; is_split = whole i })

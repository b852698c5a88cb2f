-- A store that was just opened.

use Rattle.std.proofs.Common.{◌≡◌, ℕ, zero, suc, ◌-◌, ◌≤◌, inl, lit≤, lit<, Bool, false, Some, None, List, [], ◌∷◌}
use Rattle.std.proofs.Common.{map, refl, sym, ap, ◌∙◌, subst, arith, if◌then◌else◌}
use Rattle.std.specs.Prelude.{◌==◌}
use Rattle.std.specs.List.{AllByRecursion as All, slice_get}
use Rattle.std.proofs.lemmas.Bool.{ne_eqb}
use Rattle.std.proofs.lemmas.Option.{slice_get_past}
use Rattle.bw_codec.specs.Grammar.{IsBlock}
use Rattle.bw_record.specs.declared.block.Place.{Place}
use Rattle.bw_record.specs.declared.block.Block.{Block}
use Rattle.bw_record.specs.declared.block.Block.TheVariants.{Base}
use Rattle.bw_leaf.specs.Changed.{empty_leaf}
use Rattle.bw_page.specs.Leaves.{leaf_at}
use Rattle.bw_leaf.specs.Forwards.{content}
use Rattle.bw_page.specs.Standing.{Stand}
use Rattle.bw_page.proofs.Law.{one_empty-lawful}
use Rattle.bw_device.specs.Holding.{Holding}
use Rattle.bw_buffer.specs.Filling.{Filling}
use Rattle.bw_ring.specs.Ends.{Ring}
use Rattle.bw_log.specs.Contents as logs
use Rattle.bw_log.specs.Limits.{fresh}
use Rattle.bw_log.specs.Places.{place_of}
use Rattle.bw_page.specs.Shown.{Shown}
use Rattle.bw_history.specs.declared.entry.Entry.{Entry}
use Rattle.bw_terms.specs.declared.config.Config.{Config}
use Rattle.bw_making.specs.Begun.{first_place, first_frame, first_making}
use Rattle.bw_core.specs.Opened.{one_empty, opened, AreTaken}
use Rattle.bw_core.specs.Reopened.{reopened}
use Rattle.bw_core.specs.Kept.{Kept, IsSound}
use Rattle.bw_core.proofs.CutMore.{none_mapped}
use Rattle.bw_core.proofs.Telling.{tells_none}

first_stands : (m : ℕ) → Stand m (first_frame ∷ []) (empty_leaf ∷ [])
first_stands m = record {
  some = omega arith;
  lawful = one_empty-lawful m;
  each = λ p from within. (let one : 1 ≡ p = omega arith in subst (λ n. content n (Base empty_leaf ∷ []) ≡ leaf_at n (empty_leaf ∷ [])) one refl);
  all = λ p beyond. (ne_eqb 1 p (λ e. absurd (omega arith)), tt);
}

first_newest : (p : ℕ) → 1 ≤ p → slice_get (first_place ∷ []) (p - 1) ≡ place_of p (first_frame ∷ [])
first_newest zero h = absurd (omega arith)
first_newest (suc zero) h = refl
first_newest (suc (suc n)) h =
    (let apart : (1 == suc (suc n)) ≡ false = ne_eqb 1 (suc (suc n)) (λ e. absurd (omega arith)) in
    let none : slice_get (first_place ∷ []) (suc (suc n) - 1) ≡ None = slice_get_past (first_place ∷ []) (suc (suc n) - 1) (omega arith) in
    none ∙ sym (ap (λ (b : Bool). if b then Some first_place else None) apart))

pub opened_sound : (rings : List Ring) (m f : ℕ) (spares : List Holding)
    → logs.IsSound (fresh m f spares) → IsSound (opened rings m f spares)
opened_sound rings m f spares sound = record {
  log = sound;
  pairs = refl;
  limit = refl;
  leaves = refl;
  mapped = refl;
  mapped_at = none_mapped m (empty_leaf ∷ []);
  first = λ none. refl;
  ops = tt;
  writers = tt;
  floor = omega arith;
  stands = λ k low high from. absurd (omega arith);
  grown = record {
    stands = first_stands m;
    linked = refl;
    count = refl;
    places = (record { frame = (lit≤ tt, lit< tt); index = lit< tt }, tt);
    each = first_newest;
    lawful = (record { page = (lit≤ tt, lit< tt); low = lit≤ tt; count = omega arith; pairs = tt; ascends = refl }, tt);
  };
  next = refl;
  last = lit< tt;
  number = inl refl;
  sealed = refl;
  ordered = omega arith;
  beyond = inl refl;
  last_cut = λ failed. absurd cc;
  shares = tt;
  tells = inl (refl, refl, (refl, tells_none m (empty_leaf ∷ [])));
  edged = inl refl;
  begun = tt;
  left = λ failed. absurd cc;
}

pub first_lawful : (blocks : List Block) → blocks ≡ Base empty_leaf ∷ [] → All (IsBlock 32) blocks
first_lawful blocks is = subst (All (IsBlock 32)) (sym is)
    (record { page = (lit≤ tt, lit< tt); low = lit≤ tt; count = lit≤ tt; pairs = tt; ascends = refl }, tt)

-- boxes are taken that the slice of them is said to be
pub taken_at : {X : Type 0} (config : Config) (view : X → Holding) (shown items : List X) → AreTaken config (map view shown) → shown ≡ items
    → AreTaken config (map view items)
taken_at {X} config view shown items taken same = subst (λ (xs : List X). AreTaken config (map view xs)) same taken

-- a store of the parts that `open` makes is an opened one
pub started_sound : {k : Kept} (rings : List Ring) (entries : List Entry) (filed : Shown) (newest : List Place) (making : Filling) (log : logs.Contents)
    (m f : ℕ) (spares : List Holding)
    → k ≡ record (reopened rings 0 filed newest making log) { entries = entries } → entries ≡ [] → filed ≡ one_empty m
    → newest ≡ first_place ∷ [] → making ≡ first_making f → log ≡ fresh m f spares → logs.IsSound log → IsSound k
started_sound rings entries filed newest making log m f spares is e1 e2 e3 e4 e5 sound =
    let same : record (reopened rings 0 filed newest making log) { entries = entries } ≡ opened rings m f spares =
    ap (λ (x : List Entry). record (reopened rings 0 filed newest making log) { entries = x }) e1
    ∙ ap (λ (x : Shown). reopened rings 0 x newest making log) e2
    ∙ ap (λ (x : List Place). reopened rings 0 (one_empty m) x making log) e3
    ∙ ap (λ (x : Filling). reopened rings 0 (one_empty m) (first_place ∷ []) x log) e4
    ∙ ap (λ (x : logs.Contents). reopened rings 0 (one_empty m) (first_place ∷ []) (first_making f) x) e5 in
    subst IsSound (sym (is ∙ same)) (opened_sound rings m f spares (subst logs.IsSound e5 sound))

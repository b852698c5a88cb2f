use Rattle.std.proofs.Common.{◌≡◌, ◌∙◌, ap, sym, subst, length}
use Rattle.std.specs.Prelude.{ℕ, Result}
use Rattle.bw_record.specs.Record.{key_of}
use Rattle.bw_record.specs.declared.record.Record.{Record}
use Rattle.bw_record.specs.declared.record.Record.TheVariants.{Put, Del}
use Rattle.bw_leaf.specs.Changed.{Bytes, Pairs, changed_pairs}
use Rattle.bw_leaf.specs.Seek.{seek_of, IsWithin}
use Rattle.bw_leaf.proofs.Seeking.{Counted, counted}
use Rattle.bw_leaf.proofs.changes.count_packed.Goals as goal

-- how many pairs records of a key make, if the search for it ended so
there : (change : Record) (key : Bytes) (pairs : Pairs) (found at : Result ℕ ℕ) → key_of change ≡ key → found ≡ at
    → found ≡ seek_of (key_of change) pairs → IsWithin (length pairs) found → Counted key pairs at
there change key pairs found at same is sought within =
    counted key pairs at (sym is ∙ sought ∙ ap (λ k. seek_of k pairs) same) (subst (IsWithin (length pairs)) is within)

pub returns-in-Ok-found : goal.returns-in-Ok-found
returns-in-Ok-found c =
    let is : c.args.change.now ≡ Put c.in-Ok.field-0.now.0 c.in-Ok.field-0.now.1 = c.in-Ok.ensures in
    (there c.args.change.now _ _ _ _ (ap key_of is) c.in-Ok-found.is c.requires.found c.requires.within).0 c.in-Ok.field-0.now.1
    ∙ ap (λ (r : Record). length (changed_pairs r c.args.pairs.now)) (sym is)

pub returns-in-Err-found : goal.returns-in-Err-found
returns-in-Err-found c =
    let is : c.args.change.now ≡ Put c.in-Ok.field-0.now.0 c.in-Ok.field-0.now.1 = c.in-Ok.ensures in
    (there c.args.change.now _ _ _ _ (ap key_of is) c.in-Err-found.is c.requires.found c.requires.within).0 c.in-Ok.field-0.now.1
    ∙ ap (λ (r : Record). length (changed_pairs r c.args.pairs.now)) (sym is)

pub returns-in-Ok-found-2 : goal.returns-in-Ok-found-2
returns-in-Ok-found-2 c =
    let is : c.args.change.now ≡ Del c.in-Err.field-0.now.0 = c.in-Err.ensures in
    (there c.args.change.now _ _ _ _ (ap key_of is) c.in-Ok-found-2.is c.requires.found c.requires.within).1
    ∙ ap (λ (r : Record). length (changed_pairs r c.args.pairs.now)) (sym is)

pub returns-in-Err-found-2 : goal.returns-in-Err-found-2
returns-in-Err-found-2 c =
    let is : c.args.change.now ≡ Del c.in-Err.field-0.now.0 = c.in-Err.ensures in
    (there c.args.change.now _ _ _ _ (ap key_of is) c.in-Err-found-2.is c.requires.found c.requires.within).1
    ∙ ap (λ (r : Record). length (changed_pairs r c.args.pairs.now)) (sym is)

use Rattle.std.proofs.Common.{◌≡◌, ◌∙◌, ap, sym, subst, length}
use Rattle.std.specs.Prelude.{ℕ, Result}
use Rattle.bw_record.specs.Record.{key_of}
use Rattle.bw_record.specs.declared.record.Record.{Record}
use Rattle.bw_leaf.specs.Changed.{Bytes, Pairs, changed_pairs}
use Rattle.bw_leaf.specs.Seek.{seek_of, IsWithin}
use Rattle.bw_leaf.proofs.Seeking.{Counted, counted}
use Rattle.bw_leaf.proofs.changes.count_found.Goals as goal

-- how many pairs records of a key make, if the search for it ended so
there : (change : Record) (key : Bytes) (pairs : Pairs) (found at : Result ℕ ℕ) → key_of change ≡ key → found ≡ at
    → found ≡ seek_of (key_of change) pairs → IsWithin (length pairs) found → Counted key pairs at
there change key pairs found at same is sought within =
    counted key pairs at (sym is ∙ sought ∙ ap (λ k. seek_of k pairs) same) (subst (IsWithin (length pairs)) is within)

pub returns-in-Ok : goal.returns-in-Ok
returns-in-Ok c =
    (there c.args.change.now _ _ _ _ (ap key_of c.in-Put.is) c.in-Ok.is c.requires.found c.requires.within).0 c.in-Put.field-1
    ∙ ap (λ (r : Record). length (changed_pairs r c.args.pairs.now)) (sym c.in-Put.is)

pub returns-in-Err : goal.returns-in-Err
returns-in-Err c =
    (there c.args.change.now _ _ _ _ (ap key_of c.in-Put.is) c.in-Err.is c.requires.found c.requires.within).0 c.in-Put.field-1
    ∙ ap (λ (r : Record). length (changed_pairs r c.args.pairs.now)) (sym c.in-Put.is)

pub returns-in-Ok-found : goal.returns-in-Ok-found
returns-in-Ok-found c =
    (there c.args.change.now _ _ _ _ (ap key_of c.in-Del.is) c.in-Ok-found.is c.requires.found c.requires.within).1
    ∙ ap (λ (r : Record). length (changed_pairs r c.args.pairs.now)) (sym c.in-Del.is)

pub returns-in-Err-found : goal.returns-in-Err-found
returns-in-Err-found c =
    (there c.args.change.now _ _ _ _ (ap key_of c.in-Del.is) c.in-Err-found.is c.requires.found c.requires.within).1
    ∙ ap (λ (r : Record). length (changed_pairs r c.args.pairs.now)) (sym c.in-Del.is)

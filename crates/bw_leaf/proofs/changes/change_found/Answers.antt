use Rattle.std.proofs.Common.{◌≡◌, ◌∙◌, sym, ap, Ok, Err, Some, None, [], get_or, slice_set}
use Rattle.std.specs.FinMap.Entries.{find}
use Rattle.std.specs.Prelude.{ℕ, Result, insert}
use Rattle.bw_record.specs.declared.record.Record.{Record}
use Rattle.bw_record.specs.Record.{key_of}
use Rattle.bw_record.specs.declared.record.Record.TheVariants.{Put, Del}
use Rattle.bw_leaf.specs.Changed.{Bytes, Pairs, order}
use Rattle.bw_leaf.specs.Seek.{seek_of, back_of}
use Rattle.bw_leaf.proofs.Seeking.{put_there, gone_there}
use Rattle.bw_leaf.proofs.Sorted.{ascends_rises}
use Rattle.bw_leaf.proofs.Valued.{reads, sought_key}
use Rattle.bw_leaf.proofs.changes.change_found.Goals as goal

-- the search for the key of a record ended so
ended : (change : Record) (key : Bytes) (pairs : Pairs) (found at : Result ℕ ℕ) → key_of change ≡ key → found ≡ at
    → found ≡ seek_of (key_of change) pairs → at ≡ seek_of key pairs
ended change key pairs found at same is sought = sym is ∙ sought ∙ ap (λ k. seek_of k pairs) same

pub returns-in-Ok-found-clause-ok : goal.returns-in-Ok-found-clause-ok
returns-in-Ok-found-clause-ok c =
    let is : c.args.change.now ≡ Put c.in-Ok.pair.now.0 c.in-Ok.pair.now.1 = c.in-Ok.ensures in
    let there = put_there c.args.leaf.now _ _ _ _ is (ended c.args.change.now _ _ _ _ (ap key_of is) c.in-Ok-found.is c.requires.found) in
    there.0 c.set-was.new.self
    (c.set-was.ensures.set ∙ ap (λ (p : Bytes × Bytes). slice_set c.args.leaf.now.pairs c.in-Ok-found.at p) c.in_ok-own-in-Ok.ensures
    ∙ there.1.0 c.in-Ok.pair.now.1)

pub returns-in-Ok-found-clause-back : goal.returns-in-Ok-found-clause-back
returns-in-Ok-found-clause-back c rises =
    let is : c.args.change.now ≡ Put c.in-Ok.pair.now.0 c.in-Ok.pair.now.1 = c.in-Ok.ensures in
    let found : Ok c.in-Ok-found.at ≡ seek_of (key_of c.args.change.now) c.args.leaf.now.pairs = sym c.in-Ok-found.is ∙ c.requires.found in
    let was : Bytes × Bytes = c.set-was.result in
    let pair : Bytes × Bytes = get_or c.args.leaf.now.pairs c.in-Ok-found.at was in
    let old : find order (key_of c.args.change.now) c.args.leaf.now.pairs ≡ Some pair.1 =
    reads (key_of c.args.change.now) c.args.leaf.now.pairs (Ok c.in-Ok-found.at) (ascends_rises _ rises) found was in
    let same : was ≡ pair = c.set-was.ensures.was in
    let key : pair.0 ≡ c.in-Ok.pair.now.0 =
    sought_key (key_of c.args.change.now) c.args.leaf.now.pairs c.in-Ok-found.at found was ∙ ap key_of is in
    ap Some (c.put.ensures ∙ (λ i. Put ((ap (λ (p : Bytes × Bytes). p.0) same ∙ key) i) (same i).1)) ∙ (λ i. back_of (sym is i) (sym old i))

pub returns-in_ok-insert-in-Err-found-clause-ok : goal.returns-in_ok-insert-in-Err-found-clause-ok
returns-in_ok-insert-in-Err-found-clause-ok c =
    let is : c.args.change.now ≡ Put c.in-Ok.pair.now.0 c.in-Ok.pair.now.1 = c.in-Ok.ensures in
    let there = put_there c.args.leaf.now _ _ _ _ is (ended c.args.change.now _ _ _ _ (ap key_of is) c.in-Err-found.is c.requires.found) in
    let made = c.in_ok-insert-in-Err-found.ensures in
    there.0 c.insert.new.self
    (made.ok ∙ ap (λ (p : Bytes × Bytes). insert c.args.leaf.now.pairs c.in-Err-found.at p) c.in_ok-own-in-Ok.ensures
    ∙ there.1.0 c.in-Ok.pair.now.1)

pub returns-in_ok-insert-in-Err-found-clause-back : goal.returns-in_ok-insert-in-Err-found-clause-back
returns-in_ok-insert-in-Err-found-clause-back c rises =
    let is : c.args.change.now ≡ Put c.in-Ok.pair.now.0 c.in-Ok.pair.now.1 = c.in-Ok.ensures in
    let old : find order (key_of c.args.change.now) c.args.leaf.now.pairs ≡ None =
    reads (key_of c.args.change.now) c.args.leaf.now.pairs (Err c.in-Err-found.at) (ascends_rises _ rises) (sym c.in-Err-found.is ∙ c.requires.found) in
    let back : c.in_ok-back-in-Err-found.back ≡ c.in-Ok.pair.now = c.in_ok-back-in-Err-found.ensures in
    ap Some (c.del.ensures ∙ ap (λ (p : Bytes × Bytes). Del p.0) back) ∙ (λ i. back_of (sym is i) (sym old i))

pub returns-in-Ok-found-2-clause-ok : goal.returns-in-Ok-found-2-clause-ok
returns-in-Ok-found-2-clause-ok c =
    let is : c.args.change.now ≡ Del c.in-Err.pair.now.0 = c.in-Err.ensures in
    let there = gone_there c.args.leaf.now _ _ _ is (ended c.args.change.now _ _ _ _ (ap key_of is) c.in-Ok-found-2.is c.requires.found) in
    there.0 _ (c.remove.ensures ∙ there.1.1)

pub returns-in-Ok-found-2-clause-back : goal.returns-in-Ok-found-2-clause-back
returns-in-Ok-found-2-clause-back c rises =
    let is : c.args.change.now ≡ Del c.in-Err.pair.now.0 = c.in-Err.ensures in
    let found : Ok c.in-Ok-found-2.at ≡ seek_of (key_of c.args.change.now) c.args.leaf.now.pairs = sym c.in-Ok-found-2.is ∙ c.requires.found in
    let old : find order (key_of c.args.change.now) c.args.leaf.now.pairs ≡ Some (get_or c.args.leaf.now.pairs c.in-Ok-found-2.at ([], [])).1 =
    reads (key_of c.args.change.now) c.args.leaf.now.pairs (Ok c.in-Ok-found-2.at) (ascends_rises _ rises) found ([], []) in
    (λ i. back_of (sym is i) (sym old i))

pub returns-in_ok-copy-in-Err-found-2-clause-ok : goal.returns-in_ok-copy-in-Err-found-2-clause-ok
returns-in_ok-copy-in-Err-found-2-clause-ok c =
    let is : c.args.change.now ≡ Del c.in-Err.pair.now.0 = c.in-Err.ensures in
    let there = gone_there c.args.leaf.now _ _ _ is (ended c.args.change.now _ _ _ _ (ap key_of is) c.in-Err-found-2.is c.requires.found) in
    there.0 _ there.1.1

pub returns-in_ok-copy-in-Err-found-2-clause-back : goal.returns-in_ok-copy-in-Err-found-2-clause-back
returns-in_ok-copy-in-Err-found-2-clause-back c rises =
    let is : c.args.change.now ≡ Del c.in-Err.pair.now.0 = c.in-Err.ensures in
    let old : find order (key_of c.args.change.now) c.args.leaf.now.pairs ≡ None =
    reads (key_of c.args.change.now) c.args.leaf.now.pairs (Err c.in-Err-found-2.field-0) (ascends_rises _ rises) (sym c.in-Err-found-2.is ∙ c.requires.found) in
    let back : c.in_ok-copy-in-Err-found-2.field-0 ≡ c.in-Err.pair.now = c.in_ok-copy-in-Err-found-2.ensures in
    ap Some (c.del-in-Err-found-2.ensures ∙ ap (λ (p : Bytes × Bytes). Del p.0) back) ∙ (λ i. back_of (sym is i) (sym old i))

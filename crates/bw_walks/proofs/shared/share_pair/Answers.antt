use Rattle.std.proofs.Common.{◌≡◌, ◌∙◌, sym, ap, ℕ, Ok, Err, Some, Result, get_or}
use Rattle.bw_leaf.specs.Changed.{Bytes, Pairs}
use Rattle.bw_leaf.specs.Seek.{seek_of}
use Rattle.bw_leaf.proofs.Sorted.{ascends_rises}
use Rattle.bw_leaf.proofs.Valued.{reads, sought_key}
use Rattle.bw_walks.specs.Shared.{with_key}
use Rattle.bw_walks.proofs.shared.share_pair.Goals as goal

pub returns-in_ok-pair-in-Ok : goal.returns-in_ok-pair-in-Ok
returns-in_ok-pair-in-Ok c =
    let key = c.args.key.now in
    let ps = c.args.leaf.now.pairs in
    let p = c.index-as_slice-at.result in
    let found : ◌≡◌ {A = Result ℕ ℕ} (Ok c.in-Ok.at) (seek_of key ps) = cc (c.in-Ok.ensures.found, c.as_slice.ensures.value) in
    let there : p ≡ get_or ps c.in-Ok.at p = c.index-as_slice-at.is ∙ ap (λ (l : Pairs). get_or l c.in-Ok.at p) c.as_slice-in-Ok.ensures in
    let named : p.0 ≡ key = ap (λ (q : Bytes × Bytes). q.0) there ∙ sought_key key ps c.in-Ok.at found p in
    let value = reads key ps (Ok c.in-Ok.at) (ascends_rises _ c.requires) found p in
    let pair : p ≡ (key, (get_or ps c.in-Ok.at p).1) = λ i. (named i, ap (λ (q : Bytes × Bytes). q.1) there i) in
    ap Some (c.in_ok-pair-in-Ok.ensures ∙ pair) ∙ sym (ap (with_key key) value)

pub returns-in-Err : goal.returns-in-Err
returns-in-Err c =
    let key = c.args.key.now in
    let ps = c.args.leaf.now.pairs in
    let found : ◌≡◌ {A = Result ℕ ℕ} (Err c.in-Err.field-0) (seek_of key ps) = cc (c.in-Err.ensures.found, c.as_slice.ensures.value) in
    sym (ap (with_key key) (reads key ps (Err c.in-Err.field-0) (ascends_rises _ c.requires) found))

use Rattle.std.proofs.Common.{◌≡◌, ◌≤◌, ◌∙◌, sym, ap, length, ◌-◌, suc, [], ◌∷◌, ◌++◌, take, get_or, arith, length-take-le, inl, inr}
use Rattle.bw_leaf.specs.Changed.{Bytes}
use Rattle.bw_walks.proofs.Backwards.{split_last, made_some, not_made, front_next, filled_next, filled_over, filled_long, front_or_none}
use Rattle.bw_walks.proofs.back.last_below.Goals as goal

pub returns-then-bytes-at-eq0-clause-some : goal.returns-then-bytes-at-eq0-clause-some
returns-then-bytes-at-eq0-clause-some c =
    let ks = c.as_slice-bytes.result.now in
    let key : ks ≡ c.args.key.now = c.as_slice-bytes.ensures.value in
    let some : 1 ≤ length ks = let h = c.as_slice-bytes.ensures.lawful in omega (arith, ap (λ (k : Bytes). length k) key) in
    let parts : ks ≡ take (length ks - 1) ks ++ 0 ∷ [] = split_last ks some ∙ ap (λ b. take (length ks - 1) ks ++ b ∷ []) c.if-bytes-at-eq0.true in
    made_some c.args.key.now (take (length ks - 1) ks) c.new.result c.ok.result c.ok.ensures.value c.new.ensures.ok
    (front_next c.args.key.now (take (length ks - 1) ks) (sym key ∙ parts))

pub returns-then-bytes-at-eq0-clause-none : goal.returns-then-bytes-at-eq0-clause-none
returns-then-bytes-at-eq0-clause-none c none =
    let ks = c.as_slice-bytes.result.now in
    let key : ks ≡ c.args.key.now = c.as_slice-bytes.ensures.value in
    let long : length ks ≡ length c.args.key.now = ap (λ (k : Bytes). length k) key in
    let lawful = c.as_slice-bytes.ensures.lawful in
    let front = take (length ks - 1) ks in
    let shorter : length front ≡ length ks - 1 = length-take-le (length ks - 1) ks (omega arith) in
    let empty : front ≡ [] =
    elim (front_or_none front) [ inl e ↦ e | inr some ↦ not_made c.new.result c.ok.result c.ok.ensures.value none (c.new.ensures.variant.1 (some, omega arith)) ] in
    sym key ∙ split_last ks (omega arith) ∙ ap (λ b. front ++ b ∷ []) c.if-bytes-at-eq0.true ∙ ap (λ (k : Bytes). k ++ 0 ∷ []) empty

pub returns-clause-some : goal.returns-clause-some
returns-clause-some c =
    let ks = c.as_slice-bytes.result.now in
    let key : ks ≡ c.args.key.now = c.as_slice-bytes.ensures.value in
    let long : length ks ≡ length c.args.key.now = ap (λ (k : Bytes). length k) key in
    let lawful = c.as_slice-bytes.ensures.lawful in
    let at = length ks - 1 in
    let front = take (length ks - 1) ks in
    let shorter : length front ≡ length ks - 1 = length-take-le (length ks - 1) ks (omega arith) in
    let b = get_or ks (length ks - 1) 0 - 1 in
    let last : get_or ks (length ks - 1) 0 ≡ suc (get_or ks (length ks - 1) 0 - 1) = let some = c.if-bytes-at-eq0.false in omega arith in
    let over = filled_over c.copy_from_slice.new.self front at b c.copy_from_slice.ensures.after shorter (omega arith) in
    made_some c.args.key.now _ c.new-2.result c.ok-2.result c.ok-2.ensures.value c.new-2.ensures.ok
    (filled_next c.args.key.now front _ b (127 - at) (sym key ∙ split_last ks (omega arith) ∙ ap (λ x. front ++ x ∷ []) last) over (omega arith))

pub returns-clause-none : goal.returns-clause-none
returns-clause-none c none =
    let ks = c.as_slice-bytes.result.now in
    let long : length ks ≡ length c.args.key.now = ap (λ (k : Bytes). length k) c.as_slice-bytes.ensures.value in
    let lawful = c.as_slice-bytes.ensures.lawful in
    let front = take (length ks - 1) ks in
    let shorter : length front ≡ length ks - 1 = length-take-le (length ks - 1) ks (omega arith) in
    let whole = filled_long c.copy_from_slice.new.self front (length ks - 1) (get_or ks (length ks - 1) 0 - 1) c.copy_from_slice.ensures.after shorter (omega arith) in
    not_made c.new-2.result c.ok-2.result c.ok-2.ensures.value none (c.new-2.ensures.variant.1 (omega arith, omega arith))

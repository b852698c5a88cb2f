use Rattle.std.proofs.Common.{◌≡◌, ◌∙◌, ◌++◌, ◌-◌, ◌∷◌, [], ℕ, Some, length, take, get_or, sym, ap, subst, arith, length-take-le}
use Rattle.bw_leaf.specs.Changed.{Bytes}
use Rattle.bw.specs.Keys.{IsAfter}
use Rattle.bw_walks.proofs.Backwards.{filled}
use Rattle.bw.proofs.NextKey.{after_short, after_raised, one_more, none_behind, after_none}
use Rattle.bw.proofs.keys.after.Goals as goal

pub returns-then-end-lt-MAX_KEY : goal.returns-then-end-lt-MAX_KEY
returns-then-end-lt-MAX_KEY c =
    let key : c.as_slice-bytes.result.now ≡ c.args.key.now = c.as_slice-bytes.ensures.value in
    subst (IsAfter c.args.key.now) (sym (c.ended.ensures ∙ ap (λ (k : Bytes). Some (k ++ 0 ∷ [])) key)) (after_short c.args.key.now)

pub loop-end-init : goal.loop-end-init
loop-end-init c =
    let ks = c.as_slice-bytes.result.now in
    let lawful = c.as_slice-bytes.ensures.lawful in
    let key : ks ≡ c.args.key.now = c.as_slice-bytes.ensures.value in
    let long : length ks ≡ 128 = let same = ap (λ (k : Bytes). length k) key in let full = c.if-end-lt-MAX_KEY.false in omega arith in
    (none_behind ks long, omega arith, long, key)

pub bounds-bytes-end : goal.bounds-bytes-end
bounds-bytes-end c = let i = c.loop-end.invariant in omega (arith, i.1, i.2, c.loop-end-test.true)

pub slice_bounds-ended-end : goal.slice_bounds-ended-end
slice_bounds-ended-end c = let i = c.loop-end.invariant in
    sym (length-take-le (c.loop-end.end - 1) c.as_slice-bytes.result.now (omega (arith, i.1, i.2)))

pub bounds-bytes-end-then-bytes-end-lt255 : goal.bounds-bytes-end-then-bytes-end-lt255
bounds-bytes-end-then-bytes-end-lt255 c = let i = c.loop-end.invariant in omega (arith, i.1, i.2, c.loop-end-test.true)

pub ended-requires-then-bytes-end-lt255 : goal.ended-requires-then-bytes-end-lt255
ended-requires-then-bytes-end-lt255 c = let i = c.loop-end.invariant in
    let shorter = length-take-le (c.loop-end.end - 1) c.as_slice-bytes.result.now (omega (arith, i.1, i.2)) in
    omega (arith, i.1, c.loop-end-test.true)

pub returns-then-bytes-end-lt255 : goal.returns-then-bytes-end-lt255
returns-then-bytes-end-lt255 c = let i = c.loop-end.invariant in
    let ks = c.as_slice-bytes.result.now in
    subst (λ (k : Bytes). IsAfter k c.ended-then-bytes-end-lt255.result) i.3
    (subst (IsAfter ks) (sym c.ended-then-bytes-end-lt255.ensures) (after_raised ks c.loop-end.end i.2 c.loop-end-test.true i.1 i.0))

pub loop-end-preserved : goal.loop-end-preserved
loop-end-preserved c = let i = c.loop-end.invariant in
    let ks = c.as_slice-bytes.result.now in
    let greatest : get_or ks (c.loop-end.end - 1) 0 ≡ 255 = let fits = c.type_inv.bytes (c.loop-end.end - 1) in let not = c.if-bytes-end-lt255.false in omega arith in
    (one_more ks c.loop-end.end i.2 c.loop-end-test.true i.1 i.0 greatest, omega (arith, i.1), i.2, i.3)

pub returns : goal.returns
returns c = let i = c.loop-end.invariant in
    let ks = c.as_slice-bytes.result.now in
    let end : c.loop-end.end ≡ 0 = let not = c.loop-end-test.false in omega arith in
    after_none c.args.key.now (sym i.3 ∙ subst (λ (n : ℕ). ks ≡ take n ks ++ filled (128 - n)) end i.0)

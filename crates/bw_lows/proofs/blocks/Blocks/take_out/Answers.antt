use Rattle.std.proofs.Common.{◌≡◌, ℕ, ◌<◌, ◌+◌, length, get_or, List, [], ◌++◌, remove, sym, ap, ◌∙◌, arith}
use Rattle.std.proofs.lemmas.List.{get_or_read, get_or-set_same, length-set, nil_from_length}
use Rattle.std.specs.Prelude.{slice_set}
use Rattle.bw_lows.specs.Rows.{Low}
use Rattle.bw_lows.specs.Flat.{flat, firsts, lows_before, lows_behind}
use Rattle.bw_lows.proofs.Changed.{flat_without, flat_out}
use Rattle.bw_lows.proofs.FirstHeads.{length-firsts, firsts_removed}
use Rattle.bw_lows.proofs.blocks.Blocks.take_out.Goals as goal

lows_out : (blocks was : List (List Low)) (at index : ℕ) (read new : List Low) → blocks ≡ was → at < length blocks → read ≡ get_or blocks at read
    → new ≡ remove read index → flat (slice_set blocks at new) ≡ lows_before was at index ++ lows_behind was at (index + 1)
lows_out blocks was at index read new same inside is e =
    ap (λ (b : List Low). flat (slice_set blocks at b)) (e ∙ ap (λ (b : List Low). remove b index) (get_or_read blocks at read inside is []))
    ∙ flat_out blocks at index inside
    ∙ ap (λ (bs : List (List Low)). lows_before bs at index ++ lows_behind bs at (index + 1)) same

-- a look at the block finds what was written
seen : (blocks : List (List Low)) (at : ℕ) (new read : List Low) → at < length blocks → read ≡ get_or (slice_set blocks at new) at read → read ≡ new
seen blocks at new read inside is =
    get_or_read (slice_set blocks at new) at read (omega (arith, length-set blocks at new)) is [] ∙ get_or-set_same blocks at new [] inside

pub invariant_of-self : goal.invariant_of-self
invariant_of-self c =
    let blocks : List (List Low) = c.self.inside.blocks.items in
    let within : c.args.at < length (firsts blocks) = omega (arith, c.requires.within, ap length c.self.view_is, length-firsts blocks) in
    firsts_removed _ _ blocks c.remove-then-len-eq0.new.self.items c.args.at c.remove.new.self c.remove-then-len-eq0.ensures.items
    (c.remove-then-len-eq0-2.ensures (firsts blocks) within c.self.invariant)

pub returns-then-len-eq0-clause-lows : goal.returns-then-len-eq0-clause-lows
returns-then-len-eq0-clause-lows c =
    let blocks : List (List Low) = c.self.inside.blocks.items in
    let inside : c.args.at < length blocks = omega (arith, c.requires.within, ap length c.self.view_is) in
    let there = seen blocks c.args.at c.remove.new.self c.index.result.now inside c.index.ensures in
    let empty : c.remove.new.self ≡ [] = nil_from_length c.remove.new.self (ap length (sym there) ∙ sym c.len.ensures ∙ c.if-len-eq0.true) in
    ap (λ (bs : List (List Low)). flat bs) c.remove-then-len-eq0.ensures.items
    ∙ flat_without blocks c.args.at c.remove.new.self empty
    ∙ lows_out blocks c.args.self.now c.args.at c.args.index c.index_mut.result.now c.remove.new.self c.self.view_is inside
    c.index_mut.ensures.value c.remove.ensures

pub returns-else-len-eq0-clause-lows : goal.returns-else-len-eq0-clause-lows
returns-else-len-eq0-clause-lows c =
    let inside : c.args.at < length c.self.inside.blocks.items = omega (arith, c.requires.within, ap length c.self.view_is) in
    lows_out c.self.inside.blocks.items c.args.self.now c.args.at c.args.index c.index_mut.result.now c.remove.new.self c.self.view_is inside
    c.index_mut.ensures.value c.remove.ensures

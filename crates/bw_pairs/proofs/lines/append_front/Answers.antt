use Rattle.std.proofs.Common.{◌≢◌, [], take, sym, subst, ◌∙◌, rules, arith, zero-le, append-nil, length-take, length-take-le}
use Rattle.std.proofs.lemmas.List.Elements.{All-nil}
use Rattle.std.specs.Io.BufRead.{FillKeeps}
use Rattle.std.proofs.KnownBytes.{Consumes-nil, Consumes-kept}
use Rattle.std.proofs.BufReadLemmas.{Consumes_shown}
use Rattle.bw_pairs.proofs.Fronts.{whole_front, told_true, told_false}
use Rattle.bw_pairs.proofs.lines.append_front.Goals as goal

pub returns-then-eq : goal.returns-then-eq
returns-then-eq g c = record {
  taken = ([], sym (append-nil _), zero-le, Consumes-kept _ _ _ [] (Consumes-nil _) c.fill_buf.follows.holds-at-none.0, search rules, λ _. (c.requires.some, All-nil (λ byte. byte ≢ 10)));
}

pub returns-else-eq : goal.returns-else-eq
returns-else-eq g c = record {
  taken = ([], sym (append-nil _), zero-le, Consumes-kept _ _ _ [] (Consumes-nil _) c.fill_buf.follows.holds-at-none.0, search rules, λ _. (c.requires.some, All-nil (λ byte. byte ≢ 10)));
}

pub returns-in_err-extend_from_slice : goal.returns-in_err-extend_from_slice
returns-in_err-extend_from_slice g c = record {
  taken = (
    [],
    c.in_err-extend_from_slice.ensures.items ∙ sym (append-nil _),
    zero-le,
    Consumes-kept _ _ _ [] (Consumes-nil _) c.fill_buf.follows.holds-at-none.0,
    search rules,
    λ _. (c.requires.some, All-nil (λ byte. byte ≢ 10)),
  );
}

pub returns : goal.returns
returns g c =
    let part = c.shown_front-count in
    let count = part.result.0 in
    let shown = c.in-Ok.shown.now in
    let rested = c.fill_buf.follows.lender-at-none in
    let filled = subst (FillKeeps _ (g.R.Read.remaining rested) (g.R.BufRead.consumable_len rested)) c.in-Ok.is c.fill_buf.follows.holds-at-none in
    let moved = Consumes_shown _ _ _ _ shown count part.ensures.within c.in-Ok.ensures.front c.in-Ok.ensures.end filled.0 filled.1 c.consume.ensures.bytes in
    record {
      taken = (
        take count shown,
        c.in_ok-extend_from_slice.ensures.items,
        omega (arith, part.ensures.short, length-take count shown),
        moved.0,
        λ e. whole_front (g.R.Read.remaining c.args.input.now) shown (take count shown) c.args.most c.in-Ok.ensures.front c.in-Ok.ensures.end
            (part.ensures.whole (told_true part.result.1 e)),
        λ e.
            let less = part.ensures.part (told_false part.result.1 e) in
            (omega (arith, less.0, length-take-le count shown part.ensures.within), less.1),
      );
    }

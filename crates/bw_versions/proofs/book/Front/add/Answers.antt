use Rattle.std.proofs.Common.{sym, ◌∙◌, ◌≡◌, ap}
use Rattle.bw_versions.proofs.Adding.{adds_moves}
use Rattle.bw_versions.proofs.book.Front.add.Goals as goal

pub compare_exchange-found-requires : goal.compare_exchange-found-requires
compare_exchange-found-requires c =
    let h = c.args.head.now.is_head in
    let offer = c.plain-offer.ensures in
    let pen = c.no_pen-pen.ensures in
    let own : c.args.head.now.word.book ≡ c.self.inside.seen.book = c.requires.own ∙ ap (λ p. p.book) (sym c.self.view_is) in (
      ap (λ w. w.tracked) h,
      sym own,
      pen.0 ∙ sym own,
      offer.0,
      rw (ap (λ w. w.key) h, pen.1, offer.1, offer.3) (adds_moves c.self.inside.seen.log c.args.batch.now c.self.inside.count (sym c.self.invariant)),
    )

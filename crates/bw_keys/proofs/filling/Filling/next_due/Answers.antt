use Rattle.std.proofs.Common.{◌≡◌, ap, refl, sym, ◌∙◌, subst, inl, ◌++◌}
use Rattle.std.specs.Prelude.{IsNone}
use Rattle.bw_keys.specs.Held.{pending, of_key, AreAsRead}
use Rattle.bw_keys.proofs.AsRead.{none_gone}
use Rattle.bw_keys.proofs.filling.Filling.next_due.Goals as goal

pub records-preserved : goal.records-preserved
records-preserved g c = record {
  given = c.in_ok-item.ensures.given ∙ c.records.invariant.given;
  filled = λ is.
      let filled = c.records.invariant.filled is in
      let given = c.records.self.given.value in
      let read = g.S.Records.given c.records.self.records in
      let same : AreAsRead (given ++ pending c.take.new.self) read =
      λ key. ap (λ l. of_key key (given ++ l)) (sym c.in-None.ensures.taken) ∙ filled.same key in
      record {
        same = none_gone given c.read.new.self.given.value (pending c.read.new.self.held) (g.S.Records.given c.read.new.self.records)
            c.in_ok-item.field-0 c.in-None-2.is (ap (λ t. t.value) c.in_ok-item.ensures.given) (c.in_ok-item.ensures.read (c.in-None.ensures.idle refl) given same);
        ended = λ some. inl (c.in_ok-item.ensures.ended (subst (λ e. IsNone e) (sym c.in-None-end.is) refl) some);
      };
}

use Rattle.std.proofs.Common.{◌≡◌, refl, ap, ◌∙◌, ◌++◌, map}
use Rattle.std.proofs.lemmas.List.{append-nil}
use Rattle.bw_record.specs.Record.{key_of}
use Rattle.bw_keys.specs.Held.{of_key, goes_in}
use Rattle.bw_keys.proofs.Waiting.{all_upto, none_waits, one_may_wait}
use Rattle.bw_keys.proofs.held.Held.accept.Goals as goal

pub invariant_of-self-then-self-eq1 : goal.invariant_of-self-then-self-eq1
invariant_of-self-then-self-eq1 c = record {
  upto = λ r. one_may_wait _ _ _ _ _ _ (c.follows.ensures c.if-not-follows.false) c.push_back.ensures.items (c.args.self.now.upto r);
  alone = c.args.self.now.alone;
}

pub invariant_of-self-2 : goal.invariant_of-self-2
invariant_of-self-2 c = record {
  upto = λ r. all_upto _ _ _ _ (c.follows.ensures c.if-not-follows.false) (c.args.self.now.upto r);
  alone = c.args.self.now.alone;
}

pub returns : goal.returns
returns c = λ idle.
    let held = c.args.self.now in
    let key = key_of c.args.item in (
      refl,
      refl,
      ap (λ n. of_key key (map (λ w. w.item) held.waiting.items ++ goes_in n)) (held.alone idle.stays)
          ∙ ap (λ l. of_key key l) (append-nil (map (λ w. w.item) held.waiting.items))
          ∙ none_waits _ _ _ _ (c.follows.ensures c.if-not-follows.false) (held.upto idle.stays),
    )

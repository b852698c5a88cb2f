use Rattle.std.proofs.Common.{◌≡◌, Some, IsOk, OnOk, List, refl, subst, arith, rules}
use mathlib.Core.List.{IsPrefix}
use Rattle.bw_versions.specs.Batches.{entries_of}
use Rattle.bw_versions.specs.Posted.{posted_of}
use Rattle.bw_versions.specs.Versioned.{EntersWhole, IsUpTo}
use Rattle.bw_history.specs.declared.entry.Entry.{Entry}
use Rattle.bw_store.specs.Views.{kept_by}
use Rattle.bw_store.proofs.Readers.{end_within, enters_longer, known_within, fresh_is, fresh_count, publish_leaves, publish_sound}
use Rattle.bw_store.proofs.store.Store.publish.Goals as goal

pub durable_end-end-requires : goal.durable_end-end-requires
durable_end-end-requires g c = c.requires.sound.base

pub entries-fresh-requires-clause-order : goal.entries-fresh-requires-clause-order
entries-fresh-requires-clause-order g c =
    let low = known_within (kept_by c.args.self.now (λ z. (goal.Segment-dyn g z).holding z.1)) c.durable_end-end.result c.requires.sound c.durable_end-end.ensures.value in
    let known = c.entered-known.ensures in
    omega arith

pub entries-fresh-requires-clause-within : goal.entries-fresh-requires-clause-within
entries-fresh-requires-clause-within g c =
    end_within (kept_by c.args.self.now (λ z. (goal.Segment-dyn g z).holding z.1)) c.durable_end-end.result c.requires.sound c.durable_end-end.ensures.value

pub publish_up_to-went-requires : goal.publish_up_to-went-requires
publish_up_to-went-requires g c =
    fresh_count (kept_by c.args.self.now (λ z. (goal.Segment-dyn g z).holding z.1)) c.durable_end-end.result c.entered-known.result c.entries-fresh.result.now
    c.requires.sound c.durable_end-end.ensures.value c.entered-known.ensures c.entries-fresh.ensures

pub returns-clause-quiet : goal.returns-clause-quiet
returns-clause-quiet g c = record {
  sound = (
      let s = kept_by c.args.self.now (λ z. (goal.Segment-dyn g z).holding z.1) in
      let all = fresh_is s c.durable_end-end.result c.entered-known.result c.entries-fresh.result.now c.requires.sound c.durable_end-end.ensures.value
      c.entered-known.ensures c.entries-fresh.ensures in
      publish_sound s c.publish_up_to-went.new.self c.durable_end-end.result s.entries c.requires.sound
      c.durable_end-end.ensures.value refl c.publish_up_to-went.ensures.same
      (subst (IsPrefix (entries_of c.publish_up_to-went.new.self.entered)) all c.publish_up_to-went.ensures.begins)
      (subst (EntersWhole s.versions.entered c.publish_up_to-went.new.self.entered) all c.publish_up_to-went.ensures.whole));
  noted = search rules;
}

pub returns-clause-leaves : goal.returns-clause-leaves
returns-clause-leaves g c =
    let s = kept_by c.args.self.now (λ z. (goal.Segment-dyn g z).holding z.1) in
    let all = fresh_is s c.durable_end-end.result c.entered-known.result c.entries-fresh.result.now c.requires.sound c.durable_end-end.ensures.value
    c.entered-known.ensures c.entries-fresh.ensures in
    publish_leaves s c.publish_up_to-went.new.self c.publish_up_to-went.result c.durable_end-end.result
    s.entries c.requires.sound c.durable_end-end.ensures.value refl c.publish_up_to-went.ensures.same
    (subst (λ (es : List Entry). OnOk c.publish_up_to-went.result (posted_of c.publish_up_to-went.new.self.published
    ≡ Some (record { start = s.versions.start; entries = es }))) all c.publish_up_to-went.ensures.published)
    c.publish_up_to-went.ensures.grows c.publish_up_to-went.ensures.unchanged
    (subst (λ (es : List Entry). OnOk c.publish_up_to-went.result (IsUpTo c.publish_up_to-went.new.self es)) all c.publish_up_to-went.ensures.all)
    (subst (EntersWhole s.versions.entered c.publish_up_to-went.new.self.entered) all c.publish_up_to-went.ensures.whole)
    (subst (λ (es : List Entry). IsUpTo s.versions es → (c.publish_up_to-went.new.self ≡ s.versions) × IsOk c.publish_up_to-went.result) all
    c.publish_up_to-went.ensures.idle)

pub invariant_of-self : goal.invariant_of-self
invariant_of-self g c = record {
  forgotten = enters_longer c.args.self.now.versions.entered c.publish_up_to-went.new.self.entered _ _
      c.publish_up_to-went.ensures.whole c.args.self.now.forgotten;
}

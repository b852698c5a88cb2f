use Rattle.std.proofs.Common.{◌≡◌, ◌+◌, ◌∙◌, None, is_some, ap, sym, drop, lit<}
use Rattle.std.specs.Prelude.{reverse}
use Rattle.std.specs.Option.{unwrap_or}
use Rattle.bw_leaf.specs.Links.{Chained, told, trimmed, from_mark, ground_of}
use Rattle.bw_leaf.specs.Marks.{mark_after}
use Rattle.bw_leaf.proofs.Chains.{trimmed_at, Evicts, evicts, not_trimmed, stays}
use Rattle.bw_leaf.proofs.chain.Chain.evict.Goals as goal

-- the old links, as they stand in memory
marks : (c : goal.Joined-self) → Evicts c.args.self.now (reverse (drop (c.in-Some.at + 1) c.self.inside.links.items)) c.in-Some.place
marks c =
    evicts c.args.self.now _ _
    (trimmed_at c.args.self.now c.self.inside.links.items c.in-Some.at c.in-Some.place (ap (λ (x : Chained). x.links) (sym c.self.view_is))
    (c.in-Some.ensures.mark ∙ ap (mark_after 0 None) c.as_slice.ensures))

left : (c : goal.Joined-self) → reverse c.drop-drain.new.self.0.items ≡ reverse (drop (c.in-Some.at + 1) c.self.inside.links.items)
left c = ap reverse (c.drop-drain.ensures.items (lit< tt) ∙ c.drain.ensures.kept)

pub returns-in-Some-clause-flushed : goal.returns-in-Some-clause-flushed
returns-in-Some-clause-flushed c = (marks c).flushed

pub returns-in-Some-clause-acts : goal.returns-in-Some-clause-acts
returns-in-Some-clause-acts c = sym (ap is_some (marks c).acts)

pub returns-in-Some-clause-links : goal.returns-in-Some-clause-links
returns-in-Some-clause-links c = left c ∙ sym (ap (λ x. (unwrap_or x c.args.self.now).links) (marks c).acts)

pub returns-in-Some-clause-end : goal.returns-in-Some-clause-end
returns-in-Some-clause-end c = sym (ap (λ x. (unwrap_or x c.args.self.now).end) (marks c).acts)

pub returns-in-Some-clause-content : goal.returns-in-Some-clause-content
returns-in-Some-clause-content c acts below =
    ap (λ links. told links (told (from_mark c.args.self.now.links) (ground_of c.args.self.now.end below))) (left c) ∙ (marks c).content below

none : (c : goal.In-None) → trimmed c.args.self.now.links ≡ None
none c =
    not_trimmed c.args.self.now c.self.inside.links.items (ap (λ (x : Chained). x.links) (sym c.self.view_is))
    (c.in-None.ensures.mark ∙ ap (mark_after 0 None) c.as_slice.ensures)

pub returns-in-None-clause-flushed : goal.returns-in-None-clause-flushed
returns-in-None-clause-flushed c = (stays c.args.self.now (none c)).0

pub returns-in-None-clause-acts : goal.returns-in-None-clause-acts
returns-in-None-clause-acts c = sym (ap is_some (stays c.args.self.now (none c)).1)

pub returns-in-None-clause-links : goal.returns-in-None-clause-links
returns-in-None-clause-links c = sym (ap (λ x. (unwrap_or x c.args.self.now).links) (stays c.args.self.now (none c)).1)

pub returns-in-None-clause-end : goal.returns-in-None-clause-end
returns-in-None-clause-end c = sym (ap (λ x. (unwrap_or x c.args.self.now).end) (stays c.args.self.now (none c)).1)

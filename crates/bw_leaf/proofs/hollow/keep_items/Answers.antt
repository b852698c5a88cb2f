use Rattle.std.proofs.Common.{rules}
use Rattle.std.proofs.lemmas.Fn.{filter_same}
use Rattle.bw_leaf.specs.Hollow.{is_kept}
use Rattle.bw_leaf.proofs.Hollowed.{kept}
use Rattle.bw_leaf.proofs.hollow.keep_items.Goals as goal

pub returns-clause-in_keys : goal.returns-clause-in_keys
returns-clause-in_keys c =
    let stay = filter_same _ (is_kept c.args.keys.now c.args.separator.now) _ (λ x b f' h. search rules) _ _ c.retain.ensures.filtered in
    (kept c.args.keys.now c.args.separator.now c.args.items.now.items c.retain.new.self.items stay c.requires).0

pub returns-clause-kept : goal.returns-clause-kept
returns-clause-kept c =
    let stay = filter_same _ (is_kept c.args.keys.now c.args.separator.now) _ (λ x b f' h. search rules) _ _ c.retain.ensures.filtered in
    (kept c.args.keys.now c.args.separator.now c.args.items.now.items c.retain.new.self.items stay c.requires).1

use Rattle.std.proofs.Common.{◌≡◌, rules}
use Rattle.bw_care.proofs.copies.is_last.Goals as goal

pub returns-then-last-place : goal.returns-then-last-place
returns-then-last-place g c = let same : c.in-Some.last.frame ≡ c.args.place.frame = c.if-last-place.true in search rules

use Rattle.std.proofs.Common.{◌≡◌, ℕ, IfOk, subst}
use Rattle.std.specs.Vec.{vec_capacity}
use Rattle.bw_codec.proofs.parts.room_for.Goals as goal

pub returns-clause-exact : goal.returns-clause-exact
returns-clause-exact g c = subst (λ (n : ℕ). IfOk c.with_capacity.result (λ things. vec_capacity things ≡ n)) c.min.ensures c.with_capacity.ensures.exact

use Rattle.std.proofs.Common.{rules, ◌≡◌, ◌%◌, ◌^◌, ◌∙◌, sym, ap}
use Rattle.std.proofs.Math.Nat.{mod-eq_of_lt}
use Rattle.std.specs.Hash.DefaultHasher as sip
use Rattle.bw_digest.specs.Digest.{digest}
use Rattle.bw_digest.proofs.digest.digest_of.Goals as goal

pub returns : goal.returns
unfolding digest
returns c =
    let is : c.finish.result ≡ sip.finish (sip.write sip.initial c.args.bytes.now) = search rules in
    sym (mod-eq_of_lt c.finish.type_inv) ∙ ap (λ n. n % 2 ^ 64) is

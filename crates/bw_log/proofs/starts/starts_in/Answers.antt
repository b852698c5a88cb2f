use Rattle.std.proofs.Common.{◌≤◌, arith, length, refl}
use Rattle.std.proofs.lemmas.Result.{err_from_is_err_and}
use Rattle.bw_codec.specs.Grammar.{body_bytes_in}
use Rattle.bw_log.specs.Starts.{starts_of}
use Rattle.bw_log.proofs.Looked.{begins, some_left, none_left, next_block, all_passed, outlined_as, behind_it, stepped, no_outline, only_memory}
use Rattle.bw_log.proofs.Looked.{some_as, head_there}
use Rattle.bw_log.proofs.starts.starts_in.Goals as goal

pub returns-in_err-rest : goal.returns-in_err-rest
returns-in_err-rest c m f frame small law is =
    let p = err_from_is_err_and c.from_residual.result c.from_residual.ensures.1 in
    rw (p.1, p.2) (only_memory c.in_err-rest.field-0.0 _ (starts_of c.args.version frame)
    (c.in_err-rest.ensures.there (omega arith) (head_there c.args.version frame c.args.bytes.now is)))

pub loop-rest-init : goal.loop-rest-init
loop-rest-init c = record {
  within = (let less = c.in_ok-rest.ensures.shorter in omega arith);
  passed = λ m f frame small law is. rw c.new-starts.ensures.items (begins c.args.version m f frame c.args.bytes.now c.in_ok-rest.rest.now law is
      (c.in_ok-rest.ensures.there (omega arith) (head_there c.args.version frame c.args.bytes.now is)));
}

pub returns-in-None : goal.returns-in-None
returns-in-None c m f frame small law is =
    let n = next_block (c.loop-rest.invariant.passed m f frame small law is) (some_left c.loop-rest.rest.now c.loop-rest-test.ensures) in
    absurd (no_outline _ (c.in-None.ensures m n.block (body_bytes_in c.args.version n.others) small n.law n.parts))

pub returns-in_err-rest-in-Some : goal.returns-in_err-rest-in-Some
returns-in_err-rest-in-Some c m f frame small law is =
    let n = next_block (c.loop-rest.invariant.passed m f frame small law is) (some_left c.loop-rest.rest.now c.loop-rest-test.ensures) in
    let same = outlined_as n c.in-Some.outline (c.in-Some.ensures m n.block (body_bytes_in c.args.version n.others) small n.law n.parts) in
    let b = behind_it n c.in-Some.outline same in
    let p = err_from_is_err_and c.from_residual-in_err-rest-in-Some.result c.from_residual-in_err-rest-in-Some.ensures.1 in
    rw (p.1, p.2) (only_memory c.in_err-rest-in-Some.field-0.0 _ (starts_of c.args.version frame) (c.in_err-rest-in-Some.ensures.there b.some b.within))

pub loop-rest-preserved : goal.loop-rest-preserved
loop-rest-preserved c = record {
  within = (let less = c.in_ok-rest-in-Some.ensures.shorter in let was = c.loop-rest.invariant.within in omega arith);
  passed = λ m f frame small law is. (
      let n = next_block (c.loop-rest.invariant.passed m f frame small law is) (some_left c.loop-rest.rest.now c.loop-rest-test.ensures) in
      let same = outlined_as n c.in-Some.outline (c.in-Some.ensures m n.block (body_bytes_in c.args.version n.others) small n.law n.parts) in
      let b = behind_it n c.in-Some.outline same in
      let was : length c.loop-rest.rest.now ≤ length c.args.bytes.now = c.loop-rest.invariant.within in
      stepped n c.in_ok-rest-in-Some.rest.now c.push.new.self.items c.in-Some.outline.len _ b
      (c.in_ok-rest-in-Some.ensures.there b.some b.within) was refl c.in_ok-push-in-Some.ensures.items);
}

pub returns : goal.returns
returns c m f frame small law is =
    some_as _ _ (all_passed (c.loop-rest.invariant.passed m f frame small law is) (none_left c.loop-rest.rest.now c.loop-rest-test.ensures))

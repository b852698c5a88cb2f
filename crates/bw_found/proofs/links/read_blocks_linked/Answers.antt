use Rattle.std.proofs.Common.{◌≡◌, ◌++◌, List, length, drop, take, subst, refl}
use Rattle.std.proofs.lemmas.Result.{err_from_is_err_and}
use Rattle.bw_record.specs.declared.block.Block.{Block}
use Rattle.bw_codec.specs.Grammar.{body_bytes_in}
use Rattle.bw_codec.specs.Outline.{outline_of}
use Rattle.bw_codec.proofs.Format.{found}
use Rattle.bw_log.specs.Places.{placed}
use Rattle.bw_lines.specs.Reading.{IsRead}
use Rattle.bw_lines.proofs.LinksRead.{next_of, blocks_step, blocks_wrong}
use Rattle.bw_found.proofs.FirstRead.{next_here, all_read, outline_ends, left_after, less_after, some_number, some_left, nothing_left}
use Rattle.bw_found.proofs.links.read_blocks_linked.Goals as goal

pub returns-in_err-read_linked-clause-fault : goal.returns-in_err-read_linked-clause-fault
returns-in_err-read_linked-clause-fault c =
    let p = err_from_is_err_and c.from_residual.result c.from_residual.ensures.1 in
    λ m blocks done rest body read. rw (p.1, p.2) (
    let n = next_here c.args.version m blocks c.next.index c.next.rest.now body.lawful (c.next.invariant.there m blocks body)
    (some_left (length c.next.rest.now) c.next-test.ensures) in
    let next = next_of blocks (drop c.next.index blocks) n.more c.next.index n.block refl n.front in
    let so_far = c.next.invariant.read m blocks done body read in
    blocks_wrong c.args.first c.args.number c.next.index done rest (take c.next.index blocks) n.more blocks n.block c.next.lines
    c.in_err-read_linked.field-0.0 next.index next.split so_far
    (c.in_err-read_linked.ensures.fault m n.block (done ++ placed c.args.number 0 (take c.next.index blocks)) body.small n.first so_far))

pub next-preserved : goal.next-preserved
next-preserved c = record {
  small = less_after c.next.index c.in-Some.outline.len (length c.args.body.now) c.next.rest.now c.next.invariant.small (some_number c.in-Some.outline.len c.if-outline-eq0.false) (search);
  there = λ m blocks body.
      (let n = next_here c.args.version m blocks c.next.index c.next.rest.now body.lawful (c.next.invariant.there m blocks body)
      (some_left (length c.next.rest.now) c.next-test.ensures) in
      let next = next_of blocks (drop c.next.index blocks) n.more c.next.index n.block refl n.front in
      let outline : c.in-Some.outline ≡ outline_of c.args.version n.block =
      found (c.in-Some.ensures m n.block (body_bytes_in c.args.version n.more) body.small n.first.0 n.spelled) in
      left_after c.args.version blocks n.more c.next.index c.in-Some.outline.len n.block c.next.rest.now next.beyond n.spelled
      (outline_ends c.args.version c.in-Some.outline n.block outline));
  read = λ m blocks done body read.
      (let n = next_here c.args.version m blocks c.next.index c.next.rest.now body.lawful (c.next.invariant.there m blocks body)
      (some_left (length c.next.rest.now) c.next-test.ensures) in
      let next = next_of blocks (drop c.next.index blocks) n.more c.next.index n.block refl n.front in
      blocks_step c.args.first c.args.number c.next.index done blocks n.more n.block c.read_linked.new.lines next
      (c.in_ok-read_linked.ensures.ok m n.block (done ++ placed c.args.number 0 (take c.next.index blocks)) body.small n.first
      (c.next.invariant.read m blocks done body read)));
}

pub returns-clause-ok : goal.returns-clause-ok
returns-clause-ok c m blocks done body read =
    subst (λ (bs : List Block). IsRead c.args.first (done ++ placed c.args.number 0 bs) c.next.lines)
    (all_read c.args.version blocks c.next.index c.next.rest.now (c.next.invariant.there m blocks body) (nothing_left (length c.next.rest.now) c.next-test.ensures))
    (c.next.invariant.read m blocks done body read)

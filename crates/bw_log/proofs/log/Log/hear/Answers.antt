use Rattle.std.proofs.Common.{ap, length, arith}
use Rattle.bw_log.proofs.BlocksRead.{block_now}
use Rattle.bw_log.proofs.Walked.{some_frames, numbered_at}
use Rattle.bw_log.proofs.log.Log.hear.Goals as goal

pub index-requires : goal.index-requires
index-requires g c = omega (arith, some_frames c.requires.sound c.requires.there, c.args.self.now.frames.ok.0)

pub overflow_sub-i : goal.overflow_sub-i
overflow_sub-i g c = (numbered_at c.index.result.now c.requires.sound c.requires.there.1 c.index.ensures).from_first

pub spot-spot-requires-clause-inside : goal.spot-spot-requires-clause-inside
spot-spot-requires-clause-inside g c = (numbered_at c.index.result.now c.requires.sound c.requires.there.1 c.index.ensures).inside

pub look_through-requires-clause-inside : goal.look_through-requires-clause-inside
look_through-requires-clause-inside g c = (numbered_at c.index.result.now c.requires.sound c.requires.there.1 c.index.ensures).inside

pub lent_block-requires-clause-inside : goal.lent_block-requires-clause-inside
lent_block-requires-clause-inside g c =
    let inside = (numbered_at c.index.result.now c.requires.sound c.requires.there.1 c.index.ensures).inside in
    omega (arith, ap (λ x. length x.frames) c.look_through.ensures.same)

pub lent_block-requires-clause-there : goal.lent_block-requires-clause-there
lent_block-requires-clause-there g c =
    (c.requires.there.0, block_now _ c.look_through.ensures.same (numbered_at c.index.result.now c.requires.sound c.requires.there.1 c.index.ensures).stands)

pub word_in_bytes-requires : goal.word_in_bytes-requires
word_in_bytes-requires g c = (
  c.requires.there.0,
  c.in-Some.ensures c.requires.there.0
      (block_now _ c.look_through.ensures.same (numbered_at c.index.result.now c.requires.sound c.requires.there.1 c.index.ensures).stands),
)

pub returns-in-Some-clause-heard : goal.returns-in-Some-clause-heard
returns-in-Some-clause-heard g c block x =
    c.word_in_bytes.ensures block
    (c.in-Some.ensures block (block_now _ c.look_through.ensures.same (numbered_at c.index.result.now c.requires.sound x c.index.ensures).stands))

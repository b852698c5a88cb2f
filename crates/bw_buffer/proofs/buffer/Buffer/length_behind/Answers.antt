use Rattle.std.proofs.Common.{ℕ, ◌≡◌, true, refl, ap, arith, length, if◌then◌else◌}
use Rattle.bw_codec.specs.Grammar.{block_bytes}
use Rattle.bw_record.specs.declared.block.Block.{Block}
use Rattle.bw_record.specs.declared.block.Block.TheVariants.{Delta}
use Rattle.bw_codec.proofs.Lengths.{length-delta}
use Rattle.bw_buffer.specs.Joining.{open_records, takes, added}
use Rattle.bw_buffer.proofs.Sizes.{joined_size, more_for}
use Rattle.bw_buffer.proofs.buffer.Buffer.length_behind.Goals as goal

pub overflow_sub-result : goal.overflow_sub-result
overflow_sub-result c =
    let d = length-delta c.in-Delta.page c.in-Delta.back c.in-Delta.ops in
    let is = ap (λ (b : Block). length (block_bytes b)) c.in-Delta.is in
    omega (arith, c.block_length-length.ensures.value, d, is)

pub returns-then-joins_behind : goal.returns-then-joins_behind
returns-then-joins_behind c =
    let bs = added c.args.self.now.blocks c.args.others.now in
    let yes : c.joins_behind.result ≡ true = cc in
    let told : c.joins_behind.result ≡ takes (length c.as_slice.result.now) (open_records c.in-Delta.page bs) = c.joins_behind.ensures in
    let room : takes (length c.in-Delta.ops) (open_records c.in-Delta.page bs) ≡ true = (let e = c.as_slice.ensures in cc) in
    let size = joined_size bs c.in-Delta.page c.in-Delta.back c.in-Delta.ops in
    let saved : ◌≡◌ {A = ℕ} (if takes (length c.in-Delta.ops) (open_records c.in-Delta.page bs) then 19 else 0) 19 = (rw room refl) in
    let d = length-delta c.in-Delta.page c.in-Delta.back c.in-Delta.ops in
    let is = ap (λ (b : Block). length (block_bytes b)) c.in-Delta.is in
    let all = more_for c.args.self.now c.args.others.now (Delta c.in-Delta.page c.in-Delta.back c.in-Delta.ops) in
    rw c.in-Delta.is (omega (arith, c.block_length-length.ensures.value, size, saved, d, is, all))

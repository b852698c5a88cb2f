use Rattle.std.proofs.Common.{◌≡◌, ◌≤◌, length, take, subst, sym, ap, ◌∙◌}
use Rattle.bw_record.specs.Keys.{IsBytes}
use Rattle.bw_record.specs.Heads.{head}
use Rattle.bw_lows.specs.LowHeads.{Bytes}
use Rattle.bw_lows.specs.Packing.{eight_bytes}
use Rattle.bw_lows.proofs.Shorts.{short_low}
use Rattle.bw_lows.proofs.entry.Entry.of.Goals as goal

low : (c : goal.After-new) → take (length c.as_slice-bytes.result.now) (eight_bytes c.head-first.result) ≡ c.args.low.now
low c =
    short_low c.args.low.now c.as_slice-bytes.result.now c.head-first.result c.head-first.ensures.bytes c.if-bytes-le8.true
    c.as_slice-bytes.ensures.value c.head-first.ensures.value

pub invariant_of-result : goal.invariant_of-result
invariant_of-result c = record {
  first = ap (λ (k : Bytes). head k) (low c) ∙ sym c.head-first.ensures.value;
  bytes = subst (λ (k : Bytes). IsBytes k) (sym (low c)) c.head-first.ensures.bytes;
  key = subst (λ (k : Bytes). (1 ≤ length k) × (length k ≤ 128)) (sym (low c)) c.as_slice-bytes.ensures.lawful;
  count = c.if-bytes-le8.true;
}

pub returns-then-bytes-le8 : goal.returns-then-bytes-le8
returns-then-bytes-le8 c = low c

use Rattle.std.proofs.Common.{◌≡◌, ◌≤◌, ◌++◌, take}
use Rattle.bw_pairs.proofs.json.push_all.Given as goal

abbrev pub invariant-loop-byte : goal.invariant-loop-byte
invariant-loop-byte g l = record {
  held : g.B.Buffer.held l.text ≡ g.B.Buffer.held l.initial.text ++ take l.byte-index l.bytes;
  room : g.B.Buffer.room l.initial.text ≤ g.B.Buffer.room l.text;
}

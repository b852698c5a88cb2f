use Rattle.std.proofs.Common.{◌≡◌, ◌≤◌, ◌+◌, length}
use Rattle.bw_pairs.specs.Json.{onto, text_from}
use Rattle.bw_pairs.specs.Json.Within.{Letters}
use Rattle.bw_pairs.proofs.json.Rest.letters.Given as goal

abbrev pub invariant-loop : goal.invariant-loop
invariant-loop g l = record {
  read :
      onto (g.B.Buffer.held l.text) (text_from Letters l.self.bytes.now)
      ≡ onto (g.B.Buffer.held l.initial.text) (text_from Letters l.initial.self.bytes.now);
  room : g.B.Buffer.room l.initial.text ≤ g.B.Buffer.room l.text;
  left : length l.self.bytes.now + l.counter ≤ length l.initial.self.bytes.now;
  end : l.end ≡ length l.initial.self.bytes.now;
}

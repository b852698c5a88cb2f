-- The bytes that were appended are no whole line yet.
use Rattle.std.proofs.Common.{◌≡◌, ◌≢◌, ◌<◌, List, ℕ, ◌++◌, All, length, vec_len}
use Rattle.std.specs.Io.KnownBytes.{Consumes}
use Rattle.bw_pairs.proofs.lines.read_front.Given as goal

abbrev pub invariant-loop : goal.invariant-loop
invariant-loop g l = (l.start ≡ vec_len l.initial.line) × ((done : List ℕ) × (l.line.items ≡ l.initial.line.items ++ done) × (length done < l.most)
    × All (λ byte. byte ≢ 10) done × Consumes (g.R.Read.remaining l.initial.input) (g.R.Read.remaining l.input) done)

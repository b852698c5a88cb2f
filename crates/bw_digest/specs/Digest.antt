-- The digest of bytes.
use Rattle.std.specs.Prelude.{◌≡◌, ◌≢◌, ℕ, ◌%◌, ◌^◌, List}
use Rattle.std.specs.Hash.DefaultHasher as sip

-- SipHash-1-3 under the keys of std, a number of 64 bits
unfoldable pub digest : List ℕ → ℕ
digest bytes = sip.finish (sip.write sip.initial bytes) % 2 ^ 64

-- two runs of bytes with one digest
abbrev pub Collide : List ℕ → List ℕ → Type 0
Collide a b = (a ≢ b) × (digest a ≡ digest b)

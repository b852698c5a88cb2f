-- What a lawful map keeps: each value that a row names is whole, and what a stop leaves half done has a mark.

use Rattle.std.specs.Prelude.{◌≡◌, ◌<◌, ℕ, Bool, true, false, cond, take, length, Option, Some, is_some}
use Rattle.std.specs.Option.{option_and_then}
use Rattle.bw_rows.specs.Spelling.{Bytes, same, name_key, doomed_key, chunk_key, row_key, head_of, chunks_in}
use Rattle.bw_rows.specs.Meaning.{Plain, chunks_of, table_in}

-- the number and the length that the row at a place names
abbrev pub head_at : Plain → Bytes → Option (Bytes × ℕ)
head_at p place = option_and_then head_of (p (row_key place))

abbrev pub is_doomed : Plain → Bytes → Bool
is_doomed p n = is_some (p (doomed_key n))

pub record HasValues (p : Plain) : Type 0 where
  -- a long value has a chunk
  pub long : (k n : Bytes) (len : ℕ) → head_at p k ≡ Some (n, len) → 0 < chunks_in len
  -- a long value has all its chunks
  pub full : (k n : Bytes) (len i : ℕ) → head_at p k ≡ Some (n, len) → i < chunks_in len → is_some (chunks_of p n i) ≡ true
  -- a number has one row
  pub once : (k q n : Bytes) (c d : ℕ) → head_at p k ≡ Some (n, c) → head_at p q ≡ Some (n, d) → k ≡ q
  -- what a row names is not doomed
  pub kept : (k n : Bytes) (c : ℕ) → head_at p k ≡ Some (n, c) → is_doomed p n ≡ false
  -- a chunk that no row names is doomed
  pub known : (c : Bytes) → is_some (p (chunk_key c)) ≡ true → is_doomed p (take 8 c) ≡ false
      → (k : Bytes) × ((len : ℕ) × (head_at p k ≡ Some (take 8 c, len)))

-- tables have numbers of two bytes, and no two have one number
pub record HasNames (p : Plain) : Type 0 where
  pub wide : (name row : Bytes) → p (name_key name) ≡ Some row → length (table_in row) ≡ 2
  pub apart : (name other row its : Bytes) → p (name_key name) ≡ Some row → p (name_key other) ≡ Some its
      → table_in row ≡ table_in its → name ≡ other

-- ---- the step of a call

-- one row becomes this one, or goes away, and no chunk changes: what it named is doomed, what it names is not
pub record Steps (p new : Plain) (k : Bytes) (row : Option Bytes) : Type 0 where
  pub rows : (q : Bytes) → new (row_key q) ≡ cond (same q k) row (p (row_key q))
  pub chunks : (c : Bytes) → new (chunk_key c) ≡ p (chunk_key c)
  pub old : (n : Bytes) (len : ℕ) → head_at p k ≡ Some (n, len) → is_doomed new n ≡ true
  pub next : (n : Bytes) (len : ℕ) → option_and_then head_of row ≡ Some (n, len) → is_doomed new n ≡ false
  pub others : (m : Bytes) → ((len : ℕ) → head_at p k ≡ Some (m, len) → ⊥) → ((len : ℕ) → option_and_then head_of row ≡ Some (m, len) → ⊥)
      → is_doomed new m ≡ is_doomed p m

-- a row may be written: what it names is doomed so far, and has all its chunks
pub record IsWhole (p : Plain) (row : Option Bytes) : Type 0 where
  pub long : (n : Bytes) (len : ℕ) → option_and_then head_of row ≡ Some (n, len) → 0 < chunks_in len
  pub doomed : (n : Bytes) (len : ℕ) → option_and_then head_of row ≡ Some (n, len) → is_doomed p n ≡ true
  pub full : (n : Bytes) (len i : ℕ) → option_and_then head_of row ≡ Some (n, len) → i < chunks_in len → is_some (chunks_of p n i) ≡ true

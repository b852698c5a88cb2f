-- What the head of a frame reads as, if its numbers are known.

use Rattle.std.proofs.Common.{◌≡◌, ℕ, List, true, false, Some, None, length, ◌-◌, refl, sym}
use Rattle.std.proofs.lemmas.List.{take_rest}
use Rattle.std.specs.Prelude.{take, drop}
use Rattle.bw_codec.specs.Grammar.{agrees, frame_word, is_head}
use Rattle.bw_codec.specs.Reading.{number_at, head_at}

module _ (v f : ℕ) (bytes first second third : List ℕ) (number body blocks : ℕ) (word : agrees bytes (frame_word v) ≡ true)
    (at_number : number_at 8 (take (length bytes - 4) (drop 4 bytes)) ≡ Some (number, first)) (at_body : number_at 4 first ≡ Some (body, second))
    (at_blocks : number_at 4 second ≡ Some (blocks, third)) where
  pub head_there : is_head f (record { number = number; body = body; blocks = blocks }) ≡ true
      → head_at v f bytes ≡ Some (record { number = number; body = body; blocks = blocks }, third)
  unfolding head_at
  head_there lawful = rw (word, sym (take_rest bytes 4), at_number, at_body, at_blocks, lawful) refl

  pub no_head_there : is_head f (record { number = number; body = body; blocks = blocks }) ≡ false → head_at v f bytes ≡ None
  unfolding head_at
  no_head_there unlawful = rw (word, sym (take_rest bytes 4), at_number, at_body, at_blocks, unlawful) refl

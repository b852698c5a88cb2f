-- A frame of 65,536 bytes may be the first.

use Rattle.std.proofs.Common.{◌≡◌, ℕ, suc, zero, ◌+◌, lit≤, lit<, true, List, [], ◌∷◌, ◌++◌, replicate, refl, sym, ap, subst, ◌∙◌}
use Rattle.std.proofs.lemmas.List.{replicate_more}
use Rattle.std.specs.List.{AllByRecursion}
use Rattle.bw_codec.specs.Bytes.{number_bytes}
use Rattle.bw_record.specs.Lawful.{IsOp}
use Rattle.bw_codec.specs.Grammar.{IsBlock, IsFrame}
use Rattle.bw_record.specs.declared.record.Record.{Record}
use Rattle.bw_record.specs.declared.block.Block.{Block}
use Rattle.bw_record.specs.declared.block.Block.TheVariants.{Delta}
use Rattle.bw_buffer.specs.Filling.{Filling}
use Rattle.bw_record.specs.declared.leaf.Leaf.{Leaf}
use Rattle.bw_leaf.specs.Changed.{changed, Pairs}
use Rattle.bw_page.specs.Standing.{Stand}
use Rattle.log_tests.specs.Examples.{long_put, last_put, filling_blocks, filling_example, filling_leaf}
use Rattle.log_tests.specs.OnePage.{Opens, first_with, leaf_with}
use Rattle.log_tests.proofs.Exampled.{not_one, empty_lawful, page_lawful, page_stands}
use Rattle.log_tests.proofs.OnePage.{opens_with, opens_made}

-- so many puts and the last one
puts_lawful : (n : ℕ) → AllByRecursion IsOp (replicate n long_put ++ last_put ∷ [])
puts_lawful zero = (((lit≤ tt, lit≤ tt), lit≤ tt), tt)
puts_lawful (suc n) = (((lit≤ tt, lit≤ tt), lit≤ tt), puts_lawful n)

-- one more put after so many
pub one_more : (n : ℕ) (items new : List Record) (r : Record) → items ≡ replicate n long_put → r ≡ long_put → new ≡ items ++ r ∷ []
    → new ≡ replicate (n + 1) long_put
one_more n items new r so_far is pushed =
    pushed ∙ ap (λ (k : Record). items ++ k ∷ []) is ∙ ap (λ (l : List Record). l ++ long_put ∷ []) so_far ∙ replicate_more n long_put

-- the last one
pub last_one : (n : ℕ) (items new : List Record) (r : Record) → items ≡ replicate n long_put → n ≡ 126 → r ≡ last_put → new ≡ items ++ r ∷ []
    → new ≡ replicate 126 long_put ++ last_put ∷ []
last_one n items new r so_far all is pushed =
    pushed ∙ ap (λ (k : Record). items ++ k ∷ []) is
    ∙ ap (λ (l : List Record). l ++ last_put ∷ []) (so_far ∙ ap (λ (k : ℕ). replicate k long_put) all)

abbrev all_puts : List Record
all_puts = replicate 126 long_put ++ last_put ∷ []

abbrev delta_of : List Record → Block
delta_of ops = Delta 1 (record { frame = 1; index = 0 }) ops

delta_lawful : (m : ℕ) → IsBlock m (delta_of all_puts)
delta_lawful m = record {
  changes = (lit≤ tt, lit< tt);
  links = record { frame = (lit≤ tt, lit< tt); index = lit< tt };
  count = (lit≤ tt, lit< tt);
  each = puts_lawful 126;
}

pub puts_fit : (ops : List Record) → ops ≡ all_puts → IsBlock 32 (delta_of ops)
puts_fit ops is = subst (λ (o : List Record). IsBlock 32 (delta_of o)) (sym is) (delta_lawful 32)

filling_frame_lawful : IsFrame 4 65536 filling_example
unfolding number_bytes
filling_frame_lawful = record {
  head = record { numbered = (lit≤ tt, lit< tt); fits = (lit≤ tt, lit≤ tt); some = (lit≤ tt, lit< tt) };
  blocks = (empty_lawful 4, (delta_lawful 4, tt));
}

abbrev last_pair : Pairs
last_pair = (107 ∷ [], replicate 342 119) ∷ []

filling_stands : Stand 4 (filling_example ∷ []) (filling_leaf ∷ [])
filling_stands =
    page_stands (filling_example ∷ []) last_pair (lit≤ tt) (page_lawful 4 last_pair (lit≤ tt) (((lit≤ tt, lit≤ tt), lit≤ tt), tt) refl) refl
    (λ p h. (not_one p h, (not_one p h, tt)))

-- as it is made
pub full_opens : (b : Filling) (ops : List Record) (leaf empty : Leaf) (r : Record) → ops ≡ all_puts
    → b ≡ record { frame = 1; limit = 65536; blocks = first_with ops; is_sealed = true } → r ≡ last_put → empty ≡ leaf_with [] → leaf ≡ changed r empty
    → Opens b leaf
full_opens b ops leaf empty r ops_is is r_is none made =
    opens_made b ops all_puts leaf empty filling_leaf r last_put ops_is is r_is none made refl
    (opens_with filling_blocks last_pair filling_frame_lawful refl filling_stands)

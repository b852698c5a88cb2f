-- The format of each part of a block, and of a block.

use Rattle.std.proofs.Common.{◌≡◌, ℕ, zero, suc, ◌^◌, ◌<◌, ◌≤◌, ◌==◌, true, false, if◌then◌else◌, Some, None, IsTrue, List, [], ◌∷◌, ◌++◌, length, nat_lt, refl}
use Rattle.std.proofs.Common.{sym, ap, subst, ◌∙◌, arith}
use Rattle.std.proofs.lemmas.Bool.{ltb-false, le-ltb, eqb-true, eqb-false, ne_eqb}
use Rattle.std.specs.List.{flat_map, AllByRecursion}
use lib.Pointwise.{bytes_decides}
use Rattle.bw_record.specs.Version.{key_limit}
use Rattle.bw_codec.specs.Bytes.{number_bytes, text, value_bytes}
use Rattle.bw_record.specs.Keys.{ascends, IsBytes}
use Rattle.bw_record.specs.Lawful.{IsPairIn}
use Rattle.bw_codec.specs.Grammar.{op_bytes_in, pair_bytes_in, place_bytes, pairs_bytes_in, ops_bytes_in, upper_bytes_in, block_bytes_in}
use Rattle.bw_record.specs.Lawful.{IsOpIn}
use Rattle.bw_codec.specs.Grammar.{IsPage, IsPlace, IsDeltaIn}
use Rattle.bw_codec.specs.Grammar.{IsBaseIn, IsSplitIn, IsBlockIn, first_key}
use Rattle.bw_codec.specs.Reading.{Found, ◌>>=◌, number_at, text_at, value_at, put_at, del_at, op_at, pair_at, many_at, place_at, page_at, pairs_at}
use Rattle.bw_codec.specs.Reading.{delta_at, base_at}
use Rattle.bw_codec.specs.Reading.{upper_at, split_at, block_at, is_led}
use Rattle.bw_record.specs.declared.record.Record.{Record}
use Rattle.bw_record.specs.declared.record.Record.TheVariants.{Put, Del}
use Rattle.bw_record.specs.declared.leaf.Leaf.{Leaf}
use Rattle.bw_record.specs.declared.block.Place.{Place}
use Rattle.bw_record.specs.declared.block.Block.{Block}
use Rattle.bw_record.specs.declared.block.Block.TheVariants.{Delta, Base, Split}
use Rattle.bw_codec.proofs.Format.{Takes, IsFormat, IsRun, found, takes_as, bind_some, passed, held, then_parts, again_on, number_format, text_format}
use Rattle.bw_codec.proofs.Format.{value_format}

-- ---- pairs and records

pair_takes : (v : ℕ) → (bytes : List ℕ) (x : List ℕ × List ℕ) (rest : List ℕ) → IsBytes bytes → pair_at v bytes ≡ Some (x, rest)
    → Takes (pair_bytes_in v) (IsPairIn v) bytes x rest
unfolding pair_at
pair_takes v bytes x rest fits read =
    let k = bind_some (text_at 1 (key_limit v) bytes) (λ key. value_at v key.1 >>= λ value. Some ((key.0, value.0), value.1)) (x, rest) read in
    let key = (text_format 1 (key_limit v)).takes bytes k.0.0 k.0.1 fits k.1 in
    let w = bind_some (value_at v k.0.1) (λ value. Some ((k.0.0, value.0), value.1)) (x, rest) k.2 in
    let value = (value_format v).takes k.0.1 w.0.0 w.0.1 key.others w.1 in
    takes_as (pair_bytes_in v) (IsPairIn v) bytes ((k.0.0, w.0.0), w.0.1) (x, rest) (found w.2)
    (record {
      parts = then_parts bytes (text k.0.0) (value_bytes v w.0.0) k.0.1 w.0.1 key.parts value.parts;
      lawful = (key.lawful, value.lawful);
      others = value.others;
    })

pair_again : (v : ℕ) → (x : List ℕ × List ℕ) (rest : List ℕ) → IsPairIn v x → pair_at v (pair_bytes_in v x ++ rest) ≡ Some (x, rest)
unfolding pair_at
pair_again v x rest law =
    rw (
      again_on text (IsRun 1 (key_limit v)) (text_at 1 (key_limit v)) (text_format 1 (key_limit v)) x.0 (value_bytes v x.1) rest law.0,
      (value_format v).again x.1 rest law.1,
    ) refl

pub pair_format : (v : ℕ) → IsFormat (pair_bytes_in v) (IsPairIn v) (pair_at v)
pair_format v = record { takes = pair_takes v; again = pair_again v }

put_takes : (v : ℕ) → (bytes : List ℕ) (x : Record) (rest : List ℕ) → IsBytes bytes → put_at v bytes ≡ Some (x, rest)
    → Takes (op_bytes_in v) (IsOpIn v) (1 ∷ bytes) x rest
put_takes v bytes x rest fits read =
    let k = bind_some (text_at 1 (key_limit v) bytes) (λ key. value_at v key.1 >>= λ value. Some (Put key.0 value.0, value.1)) (x, rest) read in
    let key = (text_format 1 (key_limit v)).takes bytes k.0.0 k.0.1 fits k.1 in
    let w = bind_some (value_at v k.0.1) (λ value. Some (Put k.0.0 value.0, value.1)) (x, rest) k.2 in
    let value = (value_format v).takes k.0.1 w.0.0 w.0.1 key.others w.1 in
    let parts = ap (λ (r : List ℕ). 1 ∷ r) (then_parts bytes (text k.0.0) (value_bytes v w.0.0) k.0.1 w.0.1 key.parts value.parts) in
    takes_as (op_bytes_in v) (IsOpIn v) (1 ∷ bytes) (Put k.0.0 w.0.0, w.0.1) (x, rest) (found w.2)
    (record { parts = parts; lawful = (key.lawful, value.lawful); others = value.others })

del_takes : (v : ℕ) → (bytes : List ℕ) (x : Record) (rest : List ℕ) → IsBytes bytes → del_at v bytes ≡ Some (x, rest)
    → Takes (op_bytes_in v) (IsOpIn v) (2 ∷ bytes) x rest
del_takes v bytes x rest fits read =
    let k = bind_some (text_at 1 (key_limit v) bytes) (λ key. Some (Del key.0, key.1)) (x, rest) read in
    let key = (text_format 1 (key_limit v)).takes bytes k.0.0 k.0.1 fits k.1 in
    takes_as (op_bytes_in v) (IsOpIn v) (2 ∷ bytes) (Del k.0.0, k.0.1) (x, rest) (found k.2)
    (record { parts = ap (λ (r : List ℕ). 2 ∷ r) key.parts; lawful = key.lawful; others = key.others })

-- the tag in front says which kind it is
tagged : {X : Type 0} (spell : X → List ℕ) (Law : X → Type 0) (tag n : ℕ) (bytes : List ℕ) (x : X) (rest : List ℕ) → (tag == n) ≡ true
    → Takes spell Law (n ∷ bytes) x rest → Takes spell Law (tag ∷ bytes) x rest
tagged spell Law tag n bytes x rest is takes = subst (λ (t : ℕ). Takes spell Law (t ∷ bytes) x rest) (sym (eqb-true tag n is)) takes

op_takes : (v : ℕ) → (bytes : List ℕ) (x : Record) (rest : List ℕ) → IsBytes bytes → op_at v bytes ≡ Some (x, rest)
    → Takes (op_bytes_in v) (IsOpIn v) bytes x rest
unfolding op_at
op_takes v [] x rest fits read = absurd cc
op_takes v (tag ∷ bytes) x rest fits read =
    let behind : IsBytes bytes = λ i. fits (suc i) in
    elim (tag == 1) as (λ t. (tag == 1) ≡ t → (if t then put_at v bytes else if tag == 2 then del_at v bytes else None) ≡ Some (x, rest)
    → Takes (op_bytes_in v) (IsOpIn v) (tag ∷ bytes) x rest) [
      | true ↦ λ one put. tagged (op_bytes_in v) (IsOpIn v) tag 1 bytes x rest one (put_takes v bytes x rest behind put)
      | false ↦ λ other read2. (
          let two = held (tag == 2) (del_at v bytes) (x, rest) read2 in
          tagged (op_bytes_in v) (IsOpIn v) tag 2 bytes x rest two.0 (del_takes v bytes x rest behind two.1))
    ] refl read

op_again : (v : ℕ) → (x : Record) (rest : List ℕ) → IsOpIn v x → op_at v (op_bytes_in v x ++ rest) ≡ Some (x, rest)
unfolding op_at
op_again v (Put key value) rest law =
    rw (
      again_on text (IsRun 1 (key_limit v)) (text_at 1 (key_limit v)) (text_format 1 (key_limit v)) key (value_bytes v value) rest law.0,
      (value_format v).again value rest law.1,
    ) refl
op_again v (Del key) rest law = rw ((text_format 1 (key_limit v)).again key rest law) refl

pub op_format : (v : ℕ) → IsFormat (op_bytes_in v) (IsOpIn v) (op_at v)
op_format v = record { takes = op_takes v; again = op_again v }

-- ---- many of a kind

pub many_takes : {X : Type 0} (spell : X → List ℕ) (Law : X → Type 0) (read : List ℕ → Found X) → IsFormat spell Law read
    → (n : ℕ) (bytes : List ℕ) (xs : List X) (rest : List ℕ) → IsBytes bytes → many_at read n bytes ≡ Some (xs, rest)
    → Takes (flat_map spell) (λ ys. (length ys ≡ n) × AllByRecursion Law ys) bytes xs rest
unfolding many_at
many_takes {X} spell Law read format zero bytes xs rest fits e =
    takes_as (flat_map spell) (λ ys. (length ys ≡ zero) × AllByRecursion Law ys) bytes ([], bytes) (xs, rest) (found e)
    (record { parts = refl; lawful = (refl, tt); others = fits })
many_takes {X} spell Law read format (suc n) bytes xs rest fits e =
    let f = bind_some (read bytes) (λ first. many_at read n first.1 >>= λ others. Some (first.0 ∷ others.0, others.1)) (xs, rest) e in
    let first = format.takes bytes f.0.0 f.0.1 fits f.1 in
    let o = bind_some (many_at read n f.0.1) (λ others. Some (f.0.0 ∷ others.0, others.1)) (xs, rest) f.2 in
    let others = many_takes spell Law read format n f.0.1 o.0.0 o.0.1 first.others o.1 in
    takes_as (flat_map spell) (λ ys. (length ys ≡ suc n) × AllByRecursion Law ys) bytes (f.0.0 ∷ o.0.0, o.0.1) (xs, rest) (found o.2)
    (record {
      parts = then_parts bytes (spell f.0.0) (flat_map spell o.0.0) f.0.1 o.0.1 first.parts others.parts;
      lawful = (ap suc others.lawful.0, (first.lawful, others.lawful.1));
      others = others.others;
    })

pub many_again : {X : Type 0} (spell : X → List ℕ) (Law : X → Type 0) (read : List ℕ → Found X) → IsFormat spell Law read → (xs : List X) (rest : List ℕ)
    → AllByRecursion Law xs
    → many_at read (length xs) (flat_map spell xs ++ rest) ≡ Some (xs, rest)
unfolding many_at
many_again spell Law read format [] rest laws = refl
many_again spell Law read format (x ∷ xs) rest laws =
    rw (again_on spell Law read format x (flat_map spell xs) rest laws.0, many_again spell Law read format xs rest laws.1) refl

-- ---- the parts of a block

page_takes : (bytes : List ℕ) (x : ℕ) (rest : List ℕ) → IsBytes bytes → page_at bytes ≡ Some (x, rest) → Takes (number_bytes 4) IsPage bytes x rest
unfolding page_at
page_takes bytes x rest fits read =
    let n = bind_some (number_at 4 bytes) (λ page. if nat_lt page.0 1 then None else Some page) (x, rest) read in
    let number = (number_format 4).takes bytes n.0.0 n.0.1 fits n.1 in
    let above = passed (nat_lt n.0.0 1) (Some n.0) (x, rest) n.2 in
    takes_as (number_bytes 4) IsPage bytes n.0 (x, rest) (found above.1)
    (record { parts = number.parts; lawful = (ltb-false n.0.0 1 above.0, number.lawful); others = number.others })

page_again : (x : ℕ) (rest : List ℕ) → IsPage x → page_at (number_bytes 4 x ++ rest) ≡ Some (x, rest)
unfolding page_at
page_again x rest law = rw ((number_format 4).again x rest law.1, le-ltb x 1 law.0) refl

pub page_format : IsFormat (number_bytes 4) IsPage page_at
page_format = record { takes = page_takes; again = page_again }

place_takes : (bytes : List ℕ) (x : Place) (rest : List ℕ) → IsBytes bytes → place_at bytes ≡ Some (x, rest) → Takes place_bytes IsPlace bytes x rest
unfolding place_at
place_takes bytes x rest fits read =
    let f = bind_some (number_at 8 bytes) (λ frame. number_at 4 frame.1 >>= λ index. if nat_lt frame.0 1 then None else Some
    (record { frame = frame.0; index = index.0 }, index.1)) (x, rest) read in
    let frame = (number_format 8).takes bytes f.0.0 f.0.1 fits f.1 in
    let i = bind_some (number_at 4 f.0.1) (λ index. if nat_lt f.0.0 1 then None else Some (record { frame = f.0.0; index = index.0 }, index.1)) (x, rest) f.2 in
    let index = (number_format 4).takes f.0.1 i.0.0 i.0.1 frame.others i.1 in
    let place : Place = record { frame = f.0.0; index = i.0.0 } in
    let above = passed (nat_lt f.0.0 1) (Some (place, i.0.1)) (x, rest) i.2 in
    takes_as place_bytes IsPlace bytes (place, i.0.1) (x, rest) (found above.1)
    (record {
      parts = then_parts bytes (number_bytes 8 f.0.0) (number_bytes 4 i.0.0) f.0.1 i.0.1 frame.parts index.parts;
      lawful = record { frame = (ltb-false f.0.0 1 above.0, frame.lawful); index = index.lawful };
      others = index.others;
    })

place_again : (x : Place) (rest : List ℕ) → IsPlace x → place_at (place_bytes x ++ rest) ≡ Some (x, rest)
unfolding place_at
place_again x rest law =
    rw (
      again_on (number_bytes 8) (λ n. n < 256 ^ 8) (number_at 8) (number_format 8) x.frame (number_bytes 4 x.index) rest law.frame.1,
      (number_format 4).again x.index rest law.index,
      le-ltb x.frame 1 law.frame.0,
    ) refl

pub place_format : IsFormat place_bytes IsPlace place_at
place_format = record { takes = place_takes; again = place_again }

-- at most m pairs, in the order of their keys
pub record ArePairs (v m : ℕ) (pairs : List (List ℕ × List ℕ)) : Type 0 where
  pub count : length pairs ≤ m
  pub few : length pairs < 2 ^ 16
  pub each : AllByRecursion (IsPairIn v) pairs
  pub ascends : IsTrue (ascends pairs)

pairs_takes : (v : ℕ) → (m : ℕ) (bytes : List ℕ) (x : List (List ℕ × List ℕ)) (rest : List ℕ) → IsBytes bytes → pairs_at v m bytes ≡ Some (x, rest)
    → Takes (pairs_bytes_in v) (ArePairs v m) bytes x rest
unfolding pairs_at
pairs_takes v m bytes x rest fits read =
    let n = bind_some (number_at 2 bytes) (λ count. if nat_lt m count.0 then None else
    (many_at (pair_at v) count.0 count.1 >>= λ pairs. if ascends pairs.0 then Some pairs else None)) (x, rest) read in
    let number = (number_format 2).takes bytes n.0.0 n.0.1 fits n.1 in
    let few = passed (nat_lt m n.0.0) (many_at (pair_at v) n.0.0 n.0.1 >>= λ pairs. if ascends pairs.0 then Some pairs else None) (x, rest) n.2 in
    let p = bind_some (many_at (pair_at v) n.0.0 n.0.1) (λ pairs. if ascends pairs.0 then Some pairs else None) (x, rest) few.1 in
    let pairs = many_takes (pair_bytes_in v) (IsPairIn v) (pair_at v) (pair_format v) n.0.0 n.0.1 p.0.0 p.0.1 number.others p.1 in
    let order = held (ascends p.0.0) (Some p.0) (x, rest) p.2 in
    let counted : length p.0.0 ≡ n.0.0 = pairs.lawful.0 in
    let parts : bytes ≡ number_bytes 2 (length p.0.0) ++ n.0.1 = number.parts ∙ ap (λ (k : ℕ). number_bytes 2 k ++ n.0.1) (sym counted) in
    takes_as (pairs_bytes_in v) (ArePairs v m) bytes p.0 (x, rest) (found order.1)
    (record {
      parts = then_parts bytes (number_bytes 2 (length p.0.0)) (flat_map (pair_bytes_in v) p.0.0) n.0.1 p.0.1 parts pairs.parts;
      lawful = record {
        count = subst (λ (k : ℕ). k ≤ m) (sym counted) (ltb-false m n.0.0 few.0);
        few = subst (λ (k : ℕ). k < 2 ^ 16) (sym counted) number.lawful;
        each = pairs.lawful.1;
        ascends = order.0;
      };
      others = pairs.others;
    })

pairs_again : (v : ℕ) → (m : ℕ) (x : List (List ℕ × List ℕ)) (rest : List ℕ) → ArePairs v m x → pairs_at v m (pairs_bytes_in v x ++ rest) ≡ Some (x, rest)
unfolding pairs_at
pairs_again v m x rest law =
    rw (
      again_on (number_bytes 2) (λ n. n < 256 ^ 2) (number_at 2) (number_format 2) (length x) (flat_map (pair_bytes_in v) x) rest law.few,
      le-ltb m (length x) law.count,
      many_again (pair_bytes_in v) (IsPairIn v) (pair_at v) (pair_format v) x rest law.each,
      law.ascends,
    ) refl

pub pairs_format : (v : ℕ) → (m : ℕ) → IsFormat (pairs_bytes_in v) (ArePairs v m) (pairs_at v m)
pairs_format v m = record { takes = pairs_takes v m; again = pairs_again v m }

-- ---- blocks

delta_takes : (v : ℕ) → (bytes : List ℕ) (x : Block) (rest : List ℕ) (m : ℕ) → IsBytes bytes → delta_at v bytes ≡ Some (x, rest)
    → Takes (block_bytes_in v) (IsBlockIn v m) (1 ∷ bytes) x rest
unfolding delta_at
delta_takes v bytes x rest m fits read =
    let g = bind_some (page_at bytes) (λ page. place_at page.1 >>= λ back. number_at 2 back.1 >>= λ count. if nat_lt count.0 1 then None else
    (many_at (op_at v) count.0 count.1 >>= λ ops. Some (Delta page.0 back.0 ops.0, ops.1))) (x, rest) read in
    let page = page_format.takes bytes g.0.0 g.0.1 fits g.1 in
    let b = bind_some (place_at g.0.1) (λ back. number_at 2 back.1 >>= λ count. if nat_lt count.0 1 then None else
    (many_at (op_at v) count.0 count.1 >>= λ ops. Some (Delta g.0.0 back.0 ops.0, ops.1))) (x, rest) g.2 in
    let back = place_format.takes g.0.1 b.0.0 b.0.1 page.others b.1 in
    let n = bind_some (number_at 2 b.0.1) (λ count. if nat_lt count.0 1 then None else
    (many_at (op_at v) count.0 count.1 >>= λ ops. Some (Delta g.0.0 b.0.0 ops.0, ops.1))) (x, rest) b.2 in
    let number = (number_format 2).takes b.0.1 n.0.0 n.0.1 back.others n.1 in
    let some = passed (nat_lt n.0.0 1) (many_at (op_at v) n.0.0 n.0.1 >>= λ ops. Some (Delta g.0.0 b.0.0 ops.0, ops.1)) (x, rest) n.2 in
    let o = bind_some (many_at (op_at v) n.0.0 n.0.1) (λ ops. Some (Delta g.0.0 b.0.0 ops.0, ops.1)) (x, rest) some.1 in
    let ops = many_takes (op_bytes_in v) (IsOpIn v) (op_at v) (op_format v) n.0.0 n.0.1 o.0.0 o.0.1 number.others o.1 in
    let counted : length o.0.0 ≡ n.0.0 = ops.lawful.0 in
    let count : b.0.1 ≡ number_bytes 2 (length o.0.0) ++ n.0.1 = number.parts ∙ ap (λ (k : ℕ). number_bytes 2 k ++ n.0.1) (sym counted) in
    let ops_parts = then_parts b.0.1 (number_bytes 2 (length o.0.0)) (flat_map (op_bytes_in v) o.0.0) n.0.1 o.0.1 count ops.parts in
    let back_parts = then_parts g.0.1 (place_bytes b.0.0) (ops_bytes_in v o.0.0) b.0.1 o.0.1 back.parts ops_parts in
    let parts = then_parts bytes (number_bytes 4 g.0.0) (place_bytes b.0.0 ++ ops_bytes_in v o.0.0) g.0.1 o.0.1 page.parts back_parts in
    takes_as (block_bytes_in v) (IsBlockIn v m) (1 ∷ bytes) (Delta g.0.0 b.0.0 o.0.0, o.0.1) (x, rest) (found o.2)
    (record {
      parts = ap (λ (r : List ℕ). 1 ∷ r) parts;
      lawful = record {
        changes = page.lawful;
        links = back.lawful;
        count = (subst (λ (k : ℕ). 1 ≤ k) (sym counted) (ltb-false n.0.0 1 some.0), subst (λ (k : ℕ). k < 2 ^ 16) (sym counted) number.lawful);
        each = ops.lawful.1;
      };
      others = ops.others;
    })

delta_again : (v : ℕ) → (page : ℕ) (back : Place) (ops : List Record) (rest : List ℕ) → IsDeltaIn v page back ops
    → delta_at v ((number_bytes 4 page ++ (place_bytes back ++ ops_bytes_in v ops)) ++ rest) ≡ Some (Delta page back ops, rest)
unfolding delta_at
delta_again v page back ops rest law =
    rw (
      again_on (number_bytes 4) IsPage page_at page_format page (place_bytes back ++ ops_bytes_in v ops) rest law.changes,
      again_on place_bytes IsPlace place_at place_format back (ops_bytes_in v ops) rest law.links,
      again_on (number_bytes 2) (λ n. n < 256 ^ 2) (number_at 2) (number_format 2) (length ops) (flat_map (op_bytes_in v) ops) rest law.count.1,
      le-ltb (length ops) 1 law.count.0,
      many_again (op_bytes_in v) (IsOpIn v) (op_at v) (op_format v) ops rest law.each,
    ) refl

-- pairs of a lawful leaf
pairs_of_base : (v : ℕ) → (m : ℕ) (leaf : Leaf) → m < 2 ^ 16 → IsBaseIn v m leaf → ArePairs v m leaf.pairs
pairs_of_base v m leaf small law = record { count = law.count; few = (let h = law.count in omega arith); each = law.pairs; ascends = law.ascends }

base_takes : (v : ℕ) → (m : ℕ) (bytes : List ℕ) (x : Block) (rest : List ℕ) → IsBytes bytes → base_at v m bytes ≡ Some (x, rest)
    → Takes (block_bytes_in v) (IsBlockIn v m) (2 ∷ bytes) x rest
unfolding base_at
base_takes v m bytes x rest fits read =
    let g = bind_some (page_at bytes) (λ page. text_at 0 (key_limit v) page.1 >>= λ low. pairs_at v m low.1 >>= λ pairs. Some
    (Base (record { page = page.0; low = low.0; pairs = pairs.0 }), pairs.1)) (x, rest) read in
    let page = page_format.takes bytes g.0.0 g.0.1 fits g.1 in
    let l = bind_some (text_at 0 (key_limit v) g.0.1) (λ low. pairs_at v m low.1 >>= λ pairs. Some
    (Base (record { page = g.0.0; low = low.0; pairs = pairs.0 }), pairs.1)) (x, rest) g.2 in
    let low = (text_format 0 (key_limit v)).takes g.0.1 l.0.0 l.0.1 page.others l.1 in
    let p = bind_some (pairs_at v m l.0.1) (λ pairs. Some (Base (record { page = g.0.0; low = l.0.0; pairs = pairs.0 }), pairs.1)) (x, rest) l.2 in
    let pairs = (pairs_format v m).takes l.0.1 p.0.0 p.0.1 low.others p.1 in
    let leaf : Leaf = record { page = g.0.0; low = l.0.0; pairs = p.0.0 } in
    let low_parts = then_parts g.0.1 (text l.0.0) (pairs_bytes_in v p.0.0) l.0.1 p.0.1 low.parts pairs.parts in
    let parts = then_parts bytes (number_bytes 4 g.0.0) (text l.0.0 ++ pairs_bytes_in v p.0.0) g.0.1 p.0.1 page.parts low_parts in
    takes_as (block_bytes_in v) (IsBlockIn v m) (2 ∷ bytes) (Base leaf, p.0.1) (x, rest) (found p.2)
    (record {
      parts = ap (λ (r : List ℕ). 2 ∷ r) parts;
      lawful = record { page = page.lawful; low = low.lawful.1; count = pairs.lawful.count; pairs = pairs.lawful.each; ascends = pairs.lawful.ascends };
      others = pairs.others;
    })

base_again : (v : ℕ) → (m : ℕ) (leaf : Leaf) (rest : List ℕ) → m < 2 ^ 16 → IsBaseIn v m leaf
    → base_at v m ((number_bytes 4 leaf.page ++ (text leaf.low ++ pairs_bytes_in v leaf.pairs)) ++ rest) ≡ Some (Base leaf, rest)
unfolding base_at
base_again v m leaf rest small law =
    rw (
      again_on (number_bytes 4) IsPage page_at page_format leaf.page (text leaf.low ++ pairs_bytes_in v leaf.pairs) rest law.page,
      again_on text (IsRun 0 (key_limit v)) (text_at 0 (key_limit v)) (text_format 0 (key_limit v)) leaf.low (pairs_bytes_in v leaf.pairs) rest
          (omega arith, law.low),
      (pairs_format v m).again leaf.pairs rest (pairs_of_base v m leaf small law),
    ) refl

-- ---- the new page of a Split

-- a lawful leaf but page 1, led by its first pair's key
pub record IsUpper (v m : ℕ) (leaf : Leaf) : Type 0 where
  pub makes : IsBaseIn v m leaf
  pub low : leaf.low ≡ first_key leaf.pairs
  pub count : 1 ≤ length leaf.pairs
  pub page : 2 ≤ leaf.page

leads : (low : List ℕ) (pairs : List (List ℕ × List ℕ)) → is_led low pairs ≡ true → (low ≡ first_key pairs) × (1 ≤ length pairs)
leads low [] e = absurd cc
leads low (p ∷ ps) e = (sym ((bytes_decides p.0 low).0 e), omega arith)

led : (low : List ℕ) (pairs : List (List ℕ × List ℕ)) → low ≡ first_key pairs → 1 ≤ length pairs → is_led low pairs ≡ true
led low [] e some = absurd (omega arith)
led low (p ∷ ps) e some = (bytes_decides p.0 low).1 (sym e)

upper_takes : (v : ℕ) → (m : ℕ) (bytes : List ℕ) (x : Leaf) (rest : List ℕ) → IsBytes bytes → upper_at v m bytes ≡ Some (x, rest)
    → Takes (upper_bytes_in v) (IsUpper v m) bytes x rest
unfolding upper_at
upper_takes v m bytes x rest fits read =
    let l = bind_some (text_at 0 (key_limit v) bytes) (λ low. number_at 4 low.1 >>= λ page. pairs_at v m page.1 >>= λ pairs. if nat_lt page.0 2 then
    None else if is_led
    low.0 pairs.0 then Some (record { page = page.0; low = low.0; pairs = pairs.0 }, pairs.1) else None) (x, rest) read in
    let low = (text_format 0 (key_limit v)).takes bytes l.0.0 l.0.1 fits l.1 in
    let g = bind_some (number_at 4 l.0.1) (λ page. pairs_at v m page.1 >>= λ pairs. if nat_lt page.0 2 then None else if is_led l.0.0 pairs.0 then Some
    (record { page = page.0; low = l.0.0; pairs = pairs.0 }, pairs.1) else None) (x, rest) l.2 in
    let page = (number_format 4).takes l.0.1 g.0.0 g.0.1 low.others g.1 in
    let p = bind_some (pairs_at v m g.0.1) (λ pairs. if nat_lt g.0.0 2 then None else if is_led l.0.0 pairs.0 then Some
    (record { page = g.0.0; low = l.0.0; pairs = pairs.0 }, pairs.1) else None) (x, rest) g.2 in
    let pairs = (pairs_format v m).takes g.0.1 p.0.0 p.0.1 page.others p.1 in
    let leaf : Leaf = record { page = g.0.0; low = l.0.0; pairs = p.0.0 } in
    let two = passed (nat_lt g.0.0 2) (if is_led l.0.0 p.0.0 then Some (leaf, p.0.1) else None) (x, rest) p.2 in
    let first = held (is_led l.0.0 p.0.0) (Some (leaf, p.0.1)) (x, rest) two.1 in
    let page_parts = then_parts l.0.1 (number_bytes 4 g.0.0) (pairs_bytes_in v p.0.0) g.0.1 p.0.1 page.parts pairs.parts in
    let parts = then_parts bytes (text l.0.0) (number_bytes 4 g.0.0 ++ pairs_bytes_in v p.0.0) l.0.1 p.0.1 low.parts page_parts in
    let second = ltb-false g.0.0 2 two.0 in
    let lead = leads l.0.0 p.0.0 first.0 in
    takes_as (upper_bytes_in v) (IsUpper v m) bytes (leaf, p.0.1) (x, rest) (found first.1)
    (record {
      parts = parts;
      lawful = record {
        makes = record {
          page = (omega arith, page.lawful);
          low = low.lawful.1;
          count = pairs.lawful.count;
          pairs = pairs.lawful.each;
          ascends = pairs.lawful.ascends;
        };
        low = lead.0;
        count = lead.1;
        page = second;
      };
      others = pairs.others;
    })

upper_again : (v : ℕ) → (m : ℕ) (leaf : Leaf) (rest : List ℕ) → m < 2 ^ 16 → IsUpper v m leaf → upper_at v m (upper_bytes_in v leaf ++ rest) ≡ Some (leaf, rest)
unfolding upper_at
upper_again v m leaf rest small law =
    rw (
      again_on text (IsRun 0 (key_limit v)) (text_at 0 (key_limit v)) (text_format 0 (key_limit v)) leaf.low
          (number_bytes 4 leaf.page ++ pairs_bytes_in v leaf.pairs) rest
          (omega arith, law.makes.low),
      again_on (number_bytes 4) (λ n. n < 256 ^ 4) (number_at 4) (number_format 4) leaf.page (pairs_bytes_in v leaf.pairs) rest law.makes.page.1,
      (pairs_format v m).again leaf.pairs rest (pairs_of_base v m leaf small law.makes),
      le-ltb leaf.page 2 law.page,
      led leaf.low leaf.pairs law.low law.count,
    ) refl

split_takes : (v : ℕ) → (m : ℕ) (bytes : List ℕ) (x : Block) (rest : List ℕ) → IsBytes bytes → split_at v m bytes ≡ Some (x, rest)
    → Takes (block_bytes_in v) (IsBlockIn v m) (3 ∷ bytes) x rest
unfolding split_at
split_takes v m bytes x rest fits read =
    let g = bind_some (page_at bytes) (λ page. place_at page.1 >>= λ back. upper_at v m back.1 >>= λ upper. if upper.0.page == page.0 then None else Some
    (Split page.0 back.0 upper.0, upper.1)) (x, rest) read in
    let page = page_format.takes bytes g.0.0 g.0.1 fits g.1 in
    let b = bind_some (place_at g.0.1) (λ back. upper_at v m back.1 >>= λ upper. if upper.0.page == g.0.0 then None else Some
    (Split g.0.0 back.0 upper.0, upper.1)) (x, rest) g.2 in
    let back = place_format.takes g.0.1 b.0.0 b.0.1 page.others b.1 in
    let u = bind_some (upper_at v m b.0.1) (λ upper. if upper.0.page == g.0.0 then None else Some (Split g.0.0 b.0.0 upper.0, upper.1)) (x, rest) b.2 in
    let upper = upper_takes v m b.0.1 u.0.0 u.0.1 back.others u.1 in
    let other = passed (u.0.0.page == g.0.0) (Some (Split g.0.0 b.0.0 u.0.0, u.0.1)) (x, rest) u.2 in
    let back_parts = then_parts g.0.1 (place_bytes b.0.0) (upper_bytes_in v u.0.0) b.0.1 u.0.1 back.parts upper.parts in
    let parts = then_parts bytes (number_bytes 4 g.0.0) (place_bytes b.0.0 ++ upper_bytes_in v u.0.0) g.0.1 u.0.1 page.parts back_parts in
    takes_as (block_bytes_in v) (IsBlockIn v m) (3 ∷ bytes) (Split g.0.0 b.0.0 u.0.0, u.0.1) (x, rest) (found other.1)
    (record {
      parts = ap (λ (r : List ℕ). 3 ∷ r) parts;
      lawful = record {
        splits = page.lawful;
        links = back.lawful;
        makes = upper.lawful.makes;
        low = upper.lawful.low;
        count = upper.lawful.count;
        new = (upper.lawful.page, eqb-false u.0.0.page g.0.0 other.0);
      };
      others = upper.others;
    })

split_again : (v : ℕ) → (m page : ℕ) (back : Place) (upper : Leaf) (rest : List ℕ) → m < 2 ^ 16 → IsSplitIn v m page back upper
    → split_at v m ((number_bytes 4 page ++ (place_bytes back ++ upper_bytes_in v upper)) ++ rest) ≡ Some (Split page back upper, rest)
unfolding split_at
split_again v m page back upper rest small law =
    rw (
      again_on (number_bytes 4) IsPage page_at page_format page (place_bytes back ++ upper_bytes_in v upper) rest law.splits,
      again_on place_bytes IsPlace place_at place_format back (upper_bytes_in v upper) rest law.links,
      (upper_again v) m upper rest small (record { makes = law.makes; low = law.low; count = law.count; page = law.new.0 }),
      ne_eqb upper.page page law.new.1,
    ) refl

block_takes : (v : ℕ) → (m : ℕ) (bytes : List ℕ) (x : Block) (rest : List ℕ) → IsBytes bytes → block_at v m bytes ≡ Some (x, rest)
    → Takes (block_bytes_in v) (IsBlockIn v m) bytes x rest
unfolding block_at
block_takes v m [] x rest fits read = absurd cc
block_takes v m (tag ∷ bytes) x rest fits read =
    let behind : IsBytes bytes = λ i. fits (suc i) in
    elim (tag == 1) as (λ t. (tag == 1) ≡ t → (if t then delta_at v bytes else if tag == 2 then base_at v m bytes else if tag == 3 then split_at v m
    bytes else None)
    ≡ Some (x, rest) → Takes (block_bytes_in v) (IsBlockIn v m) (tag ∷ bytes) x rest) [
      | true ↦ λ one delta. tagged (block_bytes_in v) (IsBlockIn v m) tag 1 bytes x rest one (delta_takes v bytes x rest m behind delta)
      | false ↦ λ _ read2. elim (tag == 2) as (λ t. (tag == 2) ≡ t
          → (if t then base_at v m bytes else if tag == 3 then split_at v m bytes else None) ≡ Some (x, rest)
          → Takes (block_bytes_in v) (IsBlockIn v m) (tag ∷ bytes) x rest) [
            | true ↦ λ two base. tagged (block_bytes_in v) (IsBlockIn v m) tag 2 bytes x rest two (base_takes v m bytes x rest behind base)
            | false ↦ λ _ read3. (let three = held (tag == 3) (split_at v m bytes) (x, rest) read3
                in tagged (block_bytes_in v) (IsBlockIn v m) tag 3 bytes x rest three.0 (split_takes v m bytes x rest behind three.1))
          ] refl read2
    ] refl read

block_again : (v : ℕ) → (m : ℕ) → m < 2 ^ 16 → (x : Block) (rest : List ℕ) → IsBlockIn v m x → block_at v m (block_bytes_in v x ++ rest) ≡ Some (x, rest)
unfolding block_at
block_again v m small (Delta page back ops) rest law = delta_again v page back ops rest law
block_again v m small (Base leaf) rest law = base_again v m leaf rest small law
block_again v m small (Split page back upper) rest law = split_again v m page back upper rest small law

pub block_format : (v : ℕ) → (m : ℕ) → m < 2 ^ 16 → IsFormat (block_bytes_in v) (IsBlockIn v m) (block_at v m)
block_format v m small = record { takes = block_takes v m; again = block_again v m small }

-- What changes a page changes its keys and the lengths of its values only by those of the records.

use Rattle.std.proofs.Common.{◌≡◌, ◌<◌, ℕ, arith, length-append, subst, true, false, cond, [], ◌∷◌, ◌++◌, length, refl, ap, sym, ◌∙◌}
use Rattle.std.specs.Prelude.{slice_index_or, Result, Ok, Err, IfOk}
use Rattle.std.specs.List.{filter, flat_map}
use Rattle.std.specs.FinMap.Entries.{put, by_order}
use Rattle.std.specs.declared.cmp.Ordering.TheVariants.{Less, Equal, Greater}
use Rattle.std.proofs.lemmas.List.{length-replicate, map-append, length-map, get_or-map}
use Rattle.bw_record.specs.Keys.{is_below}
use Rattle.bw_record.specs.Version.{latest}
use Rattle.bw_codec.specs.Bytes.{text, value_bytes}
use Rattle.bw_codec.specs.Grammar.{pair_bytes}
use Rattle.bw_codec.proofs.Lengths.{length-value}
use Rattle.bw_leaf.specs.Changed.{Bytes, Pairs, order, without}
use Rattle.bw_leaf.specs.Hollow.{blank, hollow, hollow_pair}

pub hollow_put : (key value : Bytes) (ps : Pairs) → hollow (put order key value ps) ≡ put order key (blank (length value)) (hollow ps)
hollow_put key value [] = refl
hollow_put key value (p ∷ ps) =
    elim (order key p.0) as (λ o. hollow (by_order o ((key, value) ∷ p ∷ ps) ((p.0, value) ∷ ps) (p ∷ put order key value ps))
    ≡ by_order o ((key, blank (length value)) ∷ hollow_pair p ∷ hollow ps) ((p.0, blank (length value)) ∷ hollow ps)
    (hollow_pair p ∷ put order key (blank (length value)) (hollow ps))) [
      | Less ↦ refl
      | Equal ↦ refl
      | Greater ↦ ap (λ (xs : Pairs). hollow_pair p ∷ xs) (hollow_put key value ps)
    ]

pub hollow_without : (key : Bytes) (ps : Pairs) → hollow (without key ps) ≡ without key (hollow ps)
hollow_without key [] = refl
hollow_without key (p ∷ ps) =
    elim (order key p.0) as (λ o. hollow (by_order o (p ∷ ps) ps (p ∷ without key ps))
    ≡ by_order o (hollow_pair p ∷ hollow ps) (hollow ps) (hollow_pair p ∷ without key (hollow ps))) [
      | Less ↦ refl
      | Equal ↦ refl
      | Greater ↦ ap (λ (xs : Pairs). hollow_pair p ∷ xs) (hollow_without key ps)
    ]

pub hollow_below : (s : Bytes) (ps : Pairs) → hollow (filter (λ p. is_below p.0 s) ps) ≡ filter (λ p. is_below p.0 s) (hollow ps)
hollow_below s [] = refl
hollow_below s (p ∷ ps) =
    elim (is_below p.0 s) as (λ t. hollow (cond t (p ∷ filter (λ p. is_below p.0 s) ps) (filter (λ p. is_below p.0 s) ps))
    ≡ cond t (hollow_pair p ∷ filter (λ p. is_below p.0 s) (hollow ps)) (filter (λ p. is_below p.0 s) (hollow ps))) [
      | true ↦ ap (λ (xs : Pairs). hollow_pair p ∷ xs) (hollow_below s ps)
      | false ↦ hollow_below s ps
    ]

-- a blank value has its length
pub blank_length : (n : ℕ) → length (blank n) ≡ n
blank_length n = length-replicate n 0

pub put_blank : (key : Bytes) (n : ℕ) (ps : Pairs) → hollow (put order key (blank n) ps) ≡ put order key (blank n) (hollow ps)
put_blank key n ps = hollow_put key (blank n) ps ∙ ap (λ k. put order key (blank k) (hollow ps)) (blank_length n)

pub hollow_push : (ps : Pairs) (key value : Bytes) → hollow (ps ++ (key, value) ∷ []) ≡ hollow ps ++ (key, blank (length value)) ∷ []
hollow_push ps key value = map-append hollow_pair ps ((key, value) ∷ [])

pub push_blank : (ps : Pairs) (key : Bytes) (n : ℕ) → hollow (ps ++ (key, blank n) ∷ []) ≡ hollow ps ++ (key, blank n) ∷ []
push_blank ps key n = hollow_push ps key (blank n) ∙ ap (λ k. hollow ps ++ (key, blank k) ∷ []) (blank_length n)

-- pairs of the same keys and lengths: how many, and the key of each
pub same_count : (xs ys : Pairs) → hollow xs ≡ hollow ys → length xs ≡ length ys
same_count xs ys e = sym (length-map xs hollow_pair) ∙ ap length e ∙ length-map ys hollow_pair

pub same_key : (xs ys : Pairs) (n : ℕ) (d : Bytes × Bytes) → hollow xs ≡ hollow ys → n < length ys → (slice_index_or xs n d).0 ≡ (slice_index_or ys n d).0
same_key xs ys n d e within =
    let short : n < length xs = subst (λ k. n < k) (sym (same_count xs ys e)) within in
    sym (ap (λ (p : Bytes × Bytes). p.0) (get_or-map hollow_pair xs n d d short))
    ∙ ap (λ (ps : Pairs). (slice_index_or ps n d).0) e
    ∙ ap (λ (p : Bytes × Bytes). p.0) (get_or-map hollow_pair ys n d d within)

pub hollow_twice : (ps : Pairs) → hollow (hollow ps) ≡ hollow ps
hollow_twice [] = refl
hollow_twice (p ∷ ps) = λ t. (p.0, blank (blank_length (length p.1) t)) ∷ hollow_twice ps t

pub if_ok_from : {A E : Type 0} {P Q : A → Type 0} (r : Result A E) → ((x : A) → P x → Q x) → IfOk r P → IfOk r Q
if_ok_from (Ok x) f p = f x p
if_ok_from (Err e) f p = tt

-- pairs are spelled in as many bytes as blank ones of their lengths
same_length : (p : Bytes × Bytes) → length (pair_bytes p) ≡ length (pair_bytes (hollow_pair p))
same_length p =
    omega (
      arith,
      length-append (text p.0) (value_bytes latest p.1),
      length-append (text p.0) (value_bytes latest (blank (length p.1))),
      length-value p.1,
      length-value (blank (length p.1)),
      blank_length (length p.1),
    )

pub same_spelled : (ps : Pairs) → length (flat_map pair_bytes ps) ≡ length (flat_map pair_bytes (hollow ps))
same_spelled [] = refl
same_spelled (p ∷ ps) =
    omega (
      arith,
      same_length p,
      same_spelled ps,
      length-append (pair_bytes p) (flat_map pair_bytes ps),
      length-append (pair_bytes (hollow_pair p)) (flat_map pair_bytes (hollow ps)),
    )

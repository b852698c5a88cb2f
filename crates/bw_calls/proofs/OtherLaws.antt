-- A long value that is written touches what stands under its number only.

use Rattle.std.proofs.Common.{ℕ, zero, suc, ◌≡◌, ◌+◌, Option, Some, None, is_some, cond, List, [], ◌++◌, length, refl, sym, ap, subst, ◌∙◌}
use Rattle.std.specs.Prelude.{Result, Ok, Err, OnOk}
use Rattle.std.proofs.lemmas.List.Sums.{fold_push, fold-append}
use Rattle.bw_record.specs.declared.record.Record.{Record}
use Rattle.bw_leaf.specs.Changed.{Map}
use Rattle.bw_rows.specs.Spelling.{Bytes, doomed_key, chunk_key, chunk_place, chunk_of}
use Rattle.bw_rows.specs.Meaning.{Plain, chunks_of}
use Rattle.bw_rows.specs.Steps.{changed, after}
use Rattle.bw_rows.specs.Batches.{HasOthers}
use Rattle.bw_rows.proofs.OneKey.{same_false, chunks_apart}
use Rattle.bw_tables.specs.Writing.{chunk_record, chunk_records, taking}
use Rattle.bw_calls.proofs.PlainLaws.{plain_of}

pub on_then : {A E : Type 0} {P Q : Type 0} (r : Result A E) → (P → Q) → OnOk r P → OnOk r Q
on_then (Ok x) f h = f h
on_then (Err e) f h = tt

pub on_any : {A E : Type 0} {P : Type 0} (r : Result A E) → P → OnOk r P
on_any (Ok x) h = h
on_any (Err e) h = tt

pub others_then : (n : Bytes) (p q r : Plain) → HasOthers n p q → HasOthers n q r → HasOthers n p r
others_then n p q r a b = record {
  names = λ name. b.names name ∙ a.names name;
  asides = λ k. b.asides k ∙ a.asides k;
  gone = λ t. b.gone t ∙ a.gone t;
  chunks = λ m i wide other. b.chunks m i wide other ∙ a.chunks m i wide other;
  doomed = λ m other. b.doomed m other ∙ a.doomed m other;
}

pub others_here : (n : Bytes) (p : Plain) → HasOthers n p p
others_here n p = record { names = λ name. refl; asides = λ k. refl; gone = λ t. refl; chunks = λ m i wide other. refl; doomed = λ m other. refl }

one_chunk_more : (n value : Bytes) (q : Plain) (i : ℕ) → length n ≡ 8 → HasOthers n q (changed q (chunk_record n value i))
one_chunk_more n value q i wide = record {
  names = λ name. refl;
  asides = λ k. refl;
  gone = λ t. refl;
  chunks = λ m j its other. ap (λ b. cond b (Some (chunk_of value i)) (chunks_of q m j)) (chunks_apart n m i j wide its other);
  doomed = λ m other. refl;
}

pub chunks_others : (p : Plain) (n value : Bytes) (i k : ℕ) → length n ≡ 8 → HasOthers n p (after p (chunk_records n value i k))
chunks_others p n value i zero wide = others_here n p
chunks_others p n value i (suc k) wide =
    subst (HasOthers n p) (sym (fold_push changed p (chunk_records n value i k) (chunk_record n value (i + k))))
    (others_then n p (after p (chunk_records n value i k)) (changed (after p (chunk_records n value i k)) (chunk_record n value (i + k)))
    (chunks_others p n value i k wide) (one_chunk_more n value (after p (chunk_records n value i k)) (i + k) wide))

taking_others : (p : Plain) (n : Bytes) → HasOthers n p (after p (taking n))
taking_others p n = record {
  names = λ name. refl;
  asides = λ k. refl;
  gone = λ t. refl;
  chunks = λ m i wide other. refl;
  doomed = λ m other. ap (λ b. is_some (cond b (Some []) (p (doomed_key m)))) (same_false m n other);
}

pub begun_others : {A E : Type 0} (p new : Plain) (n value : Bytes) (to : ℕ) (group : List Record) (r : Result A E) → length n ≡ 8
    → group ≡ taking n ++ chunk_records n value 0 to → OnOk r (new ≡ after p group) → OnOk r (HasOthers n p new)
begun_others p new n value to group r wide is ok =
    let both : HasOthers n p (after (after p (taking n)) (chunk_records n value 0 to))
    = others_then n p (after p (taking n)) (after (after p (taking n)) (chunk_records n value 0 to)) (taking_others p n) (chunks_others (after p (taking n)) n value 0 to wide) in
    on_then r (λ e. subst (HasOthers n p) (sym (e ∙ ap (after p) is ∙ fold-append changed p (taking n) (chunk_records n value 0 to))) both) ok

pub gone_on_others : {A E : Type 0} (p new : Plain) (n value : Bytes) (i k : ℕ) (group : List Record) (r : Result A E) → length n ≡ 8
    → group ≡ chunk_records n value i k → OnOk r (new ≡ after p group) → OnOk r (HasOthers n p new)
gone_on_others p new n value i k group r wide is ok =
    on_then r (λ e. subst (HasOthers n p) (sym (e ∙ ap (after p) is)) (chunks_others p n value i k wide)) ok

pub first_told : (m m1 : Map) (n k : Bytes) (answer : Option Bytes) → m1 ≡ m → answer ≡ None → answer ≡ plain_of m1 k → k ≡ chunk_key (chunk_place n 0)
    → chunks_of (plain_of m) n 0 ≡ None
first_told m m1 n k answer same is told its =
    ap (λ (x : Map). plain_of x (chunk_key (chunk_place n 0))) (sym same) ∙ ap (plain_of m1) (sym its) ∙ sym told ∙ is

pub all_others : (m m1 : Map) (n : Bytes) (p new : Plain) → m1 ≡ m → HasOthers n (plain_of m1) p → HasOthers n p new → HasOthers n (plain_of m) new
all_others m m1 n p new same a b = subst (λ (x : Map). HasOthers n (plain_of x) new) same (others_then n (plain_of m1) p new a b)

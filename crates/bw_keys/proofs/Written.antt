-- What a listing has written, some pairs after others.

use Rattle.std.proofs.Common.{◌≡◌, inl, inr, ℕ, zero, suc, ◌+◌, ◌-◌, ◌≤◌, ◌<◌, ◌==◌, ◌^◌, Bool, true, false, cond, if◌then◌else◌, Option, Result, OnOk, List, [], ◌∷◌, ◌++◌, length, take, drop, min, reverse, get_or, length-append, append-nil, refl, sym, ap, ◌∙◌, subst, arith}
use Rattle.std.specs.FinMap as finite
use Rattle.std.proofs.lemmas.List.{reverse-append, length-reverse, length-drop, length-take, take-append-drop, take_all, take-take, take_at, drop_all, take_more}
use Rattle.std.proofs.lemmas.List.Concat.{flat_map-append}
use Rattle.std.proofs.lemmas.List.Elements.{filter-append}
use Rattle.std.proofs.lemmas.Bool.{eqb-true, cases_lt}
use Rattle.std.specs.Io.KnownBytes.{Appends}
use Rattle.std.proofs.KnownBytes.{Appends-nil, Appends-trans}
use Rattle.bw_pairs.proofs.Parts.{trans_on_ok}
use Rattle.bw_record.specs.declared.leaf.Leaf.{Leaf}
use Rattle.bw_leaf.specs.Changed.{Bytes, Pairs, Map}
use Rattle.bw_page.specs.Leaves.{leaf_at, union}
use Rattle.bw_keys.specs.declared.span.Span.{Span}
use Rattle.bw_keys.specs.declared.listing.Style.{Style}
use Rattle.bw_keys.specs.declared.listing.Order.{Order}
use Rattle.bw_keys.specs.declared.listing.Due.{Due}
use Rattle.bw_keys.specs.Spans.{is_wanted}
use Rattle.bw_keys.specs.Stretches.{wanted_of, wanted_on, stretch_on, stretch}
use Rattle.bw_keys.specs.Styles.{styled}
use Rattle.bw_keys.specs.Asked.{counted}
use Rattle.bw_keys.proofs.Stretches.{counted_whole}
use Rattle.bw_keys.specs.Listed.{before, behind, listing, greatest, chosen, spelled, due_of, passed_after, left_after, Writes}

-- ---- lists

drop-append : {X : Type 0} (n : ℕ) (xs ys : List X) → drop n (xs ++ ys) ≡ drop n xs ++ drop (n - length xs) ys
drop-append zero xs ys = let e : 0 - length xs ≡ 0 = omega arith in rw e refl
drop-append (suc n) [] ys = let e : suc n ≡ suc n - 0 = omega arith in ap (λ k. drop k ys) e
drop-append (suc n) (x ∷ xs) ys = let e : suc n - suc (length xs) ≡ n - length xs = omega arith in rw e (drop-append n xs ys)

take-append : {X : Type 0} (n : ℕ) (xs ys : List X) → take n (xs ++ ys) ≡ take n xs ++ take (n - length xs) ys
take-append zero xs ys = let e : 0 - length xs ≡ 0 = omega arith in rw e refl
take-append (suc n) [] ys = let e : suc n ≡ suc n - 0 = omega arith in ap (λ k. take k ys) e
take-append (suc n) (x ∷ xs) ys =
    let e : suc n - suc (length xs) ≡ n - length xs = omega arith in
    rw e (ap (λ l. x ∷ l) (take-append n xs ys))

take_none : {X : Type 0} (n : ℕ) (xs : List X) → n ≡ 0 → take n xs ≡ []
take_none n xs h = ap (λ k. take k xs) h

-- so many of no more than there are: the lesser bound decides
lesser : {X : Type 0} (limit last : ℕ) (xs : List X) → length xs ≤ last → take (min limit last) xs ≡ take limit xs
lesser limit last xs h =
    elim (cases_lt limit last) [
      | inl less ↦ let same : min limit last ≡ limit = omega arith in ap (λ k. take k xs) same
      | inr more ↦
          let left : length xs ≤ min limit last = omega arith in
          let right : length xs ≤ limit = omega arith in
          take_all (min limit last) xs left ∙ sym (take_all limit xs right)
    ]

-- the last ones, turned round, are the first ones of all turned round
turned : {X : Type 0} (count : ℕ) (xs : List X) → reverse (drop (length xs - count) xs) ≡ take count (reverse xs)
turned count xs =
    let skipped : ℕ = length xs - count in
    let all : reverse xs ≡ reverse (drop skipped xs) ++ reverse (take skipped xs) =
    ap reverse (sym (take-append-drop skipped xs)) ∙ reverse-append (take skipped xs) (drop skipped xs) in
    let long : length (reverse (drop skipped xs)) ≡ length xs - skipped = length-reverse (drop skipped xs) ∙ length-drop skipped xs in
    elim (cases_lt count (length xs)) [
      | inl less ↦ sym (ap (take count) all ∙ take_at (reverse (drop skipped xs)) (reverse (take skipped xs)) count (omega (arith, long)))
      | inr more ↦
          let none : skipped ≡ 0 = omega arith in
          let fits : length (reverse xs) ≤ count = omega (arith, length-reverse xs) in
          ap (λ k. reverse (drop k xs)) none ∙ sym (take_all count (reverse xs) fits)
    ]

-- ---- what is due

due_join : (due after : Due) (xs ys : Pairs) → after.passed ≡ passed_after due (length xs) → after.left ≡ left_after due (length xs)
    → due_of due (xs ++ ys) ≡ due_of due xs ++ due_of after ys
due_join due after xs ys passed left =
    let one : due_of due (xs ++ ys) ≡ take due.left (drop due.passed xs) ++ take (due.left - length (drop due.passed xs)) (drop (due.passed - length xs) ys) =
    ap (take due.left) (drop-append due.passed xs ys) ∙ take-append due.left (drop due.passed xs) (drop (due.passed - length xs) ys) in
    let rest : due.left - length (drop due.passed xs) ≡ after.left = ap (λ k. due.left - k) (length-drop due.passed xs) ∙ sym left in
    one ∙ ap (λ l. take due.left (drop due.passed xs) ++ l) (ap (λ k. take k (drop (due.passed - length xs) ys)) rest ∙ same (due.left == 0) refl)
  where
    same : (b : Bool) → (due.left == 0) ≡ b → take after.left (drop (due.passed - length xs) ys) ≡ take after.left (drop after.passed ys)
    same true e =
        let zero_left : due.left ≡ 0 = eqb-true due.left 0 e in
        let none : after.left ≡ 0 = left ∙ ap (λ k. k - (length xs - due.passed)) zero_left ∙ omega arith in
        take_none after.left (drop (due.passed - length xs) ys) none ∙ sym (take_none after.left (drop after.passed ys) none)
    same false e = ap (λ k. take after.left (drop k ys)) (sym (passed ∙ ap (λ b. if b then due.passed else due.passed - length xs) e))

spelled_join : (style : Style) (xs ys : Pairs) → spelled style (xs ++ ys) ≡ spelled style xs ++ spelled style ys
spelled_join style xs ys = flat_map-append (λ p. styled style p.0 p.1) xs ys

passed_twice : (due after : Due) (n k : ℕ) → after.passed ≡ passed_after due n → after.left ≡ left_after due n
    → passed_after after k ≡ passed_after due (n + k)
passed_twice due after n k passed left = by (due.left == 0) (after.left == 0) refl refl
  where
    by : (b t : Bool) → (due.left == 0) ≡ b → (after.left == 0) ≡ t → passed_after after k ≡ passed_after due (n + k)
    by true true e f = rw (e, f) (passed ∙ rw e refl)
    by true false e f = grind arith
    by false true e f = grind arith
    by false false e f = grind arith

left_twice : (due after : Due) (n k : ℕ) → after.passed ≡ passed_after due n → after.left ≡ left_after due n
    → left_after after k ≡ left_after due (n + k)
left_twice due after n k passed left = by (due.left == 0) refl
  where
    by : (b : Bool) → (due.left == 0) ≡ b → left_after after k ≡ left_after due (n + k)
    by true e = let zero_left : due.left ≡ 0 = eqb-true due.left 0 e in omega arith
    by false e =
        let here : after.passed ≡ due.passed - n = passed ∙ ap (λ b. if b then due.passed else due.passed - n) e in
        omega arith

due_nil : (due : Due) → due_of due [] ≡ []
due_nil due = ap (take due.left) (drop_all due.passed [] (omega arith)) ∙ take_all due.left [] (omega arith)

less_none : (b : Bool) (n : ℕ) → n ≡ (if b then n else n - 0)
less_none true n = refl
less_none false n = omega arith

-- ---- what was written

module _ (style : Style) where
  pub one_after_the_other : (a b c : Due) (o p q : Option (List ℕ)) (xs ys : Pairs)
      → Writes style a b o p xs → Writes style b c p q ys → Writes style a c o q (xs ++ ys)
  one_after_the_other a b c o p q xs ys first second = record {
    bytes = subst (Appends o q) (sym (ap (spelled style) (due_join a b xs ys first.passed first.left) ∙ spelled_join style (due_of a xs) (due_of b ys)))
        (Appends-trans o p q _ _ first.bytes second.bytes);
    passed = second.passed ∙ ap (passed_after b) refl ∙ passed_twice a b (length xs) (length ys) first.passed first.left
        ∙ ap (passed_after a) (sym (length-append xs ys));
    left = second.left ∙ left_twice a b (length xs) (length ys) first.passed first.left ∙ ap (left_after a) (sym (length-append xs ys));
  }

  pub moved : (due after : Due) (o p : Option (List ℕ)) (xs ys : Pairs) → Writes style due after o p xs → xs ≡ ys → Writes style due after o p ys
  moved due after o p xs ys wrote same = subst (Writes style due after o p) same wrote

  -- none is left to be written
  pub none_is_left : (due : Due) (o : Option (List ℕ)) (pairs : Pairs) → due.left ≡ 0 → Writes style due due o o pairs
  none_is_left due o pairs none = record {
    bytes = subst (Appends o o) (sym (ap (spelled style) (take_none due.left (drop due.passed pairs) none))) (Appends-nil o);
    passed = let test : (due.left == 0) ≡ true = ap (λ k. k == 0) none in sym (ap (λ b. if b then due.passed else due.passed - length pairs) test);
    left = omega arith;
  }

  -- no pair comes
  pub no_pair : (due : Due) (o : Option (List ℕ)) (pairs : Pairs) → pairs ≡ [] → Writes style due due o o pairs
  no_pair due o pairs none = subst (Writes style due due o o) (sym none) nothing
    where
      nothing : Writes style due due o o []
      nothing = record {
        bytes = subst (Appends o o) (sym (ap (spelled style) (due_nil due))) (Appends-nil o);
        passed = less_none (due.left == 0) due.passed;
        left = omega arith;
      }

  -- one pair is passed over
  pub one_is_passed : (due after : Due) (o : Option (List ℕ)) (pair : Bytes × Bytes)
      → 1 ≤ due.left → 1 ≤ due.passed → after.passed ≡ due.passed - 1 → after.left ≡ due.left → Writes style due after o o (pair ∷ [])
  one_is_passed due after o pair left passed one same = record {
    bytes = subst (Appends o o) (sym (ap (spelled style) none)) (Appends-nil o);
    passed = one ∙ sym (ap (λ b. if b then due.passed else due.passed - 1) test);
    left = omega arith;
  }
    where
      none : due_of due (pair ∷ []) ≡ []
      none = ap (take due.left) (drop_all due.passed (pair ∷ []) passed) ∙ take_all due.left [] (omega arith)

      test : (due.left == 0) ≡ false
      test = grind arith

  -- one pair is written
  pub one_is_written : (due after : Due) (o p : Option (List ℕ)) (pair : Bytes × Bytes)
      → 1 ≤ due.left → due.passed ≡ 0 → after.passed ≡ 0 → after.left ≡ due.left - 1 → Appends o p (styled style pair.0 pair.1)
      → Writes style due after o p (pair ∷ [])
  one_is_written due after o p pair left passed none less written = record {
    bytes = subst (Appends o p) (sym (ap (spelled style) one ∙ append-nil (styled style pair.0 pair.1))) written;
    passed = none ∙ sym (ap (λ b. if b then due.passed else due.passed - 1) test ∙ omega arith);
    left = omega arith;
  }
    where
      one : due_of due (pair ∷ []) ≡ pair ∷ []
      one = ap (λ k. take due.left (drop k (pair ∷ []))) passed ∙ take_all due.left (pair ∷ []) left

      test : (due.left == 0) ≡ false
      test = grind arith

-- ---- pairs of pages

pub wanted_more : (span : Span) (pairs : Pairs) (i : ℕ) (d : Bytes × Bytes) → i < length pairs
    → wanted_of span (take (i + 1) pairs) ≡ wanted_of span (take i pairs) ++ wanted_of span (get_or pairs i d ∷ [])
wanted_more span pairs i d h =
    ap (wanted_of span) (take_more pairs i d h) ∙ filter-append (λ p. is_wanted span p.0) (take i pairs) (get_or pairs i d ∷ [])

pub stretch_more : (span : Span) (leaves : List Leaf) (numbers : List ℕ) (i d : ℕ) → i < length numbers
    → stretch_on span leaves (take (i + 1) numbers) ≡ stretch_on span leaves (take i numbers) ++ wanted_on span (leaf_at (get_or numbers i d) leaves)
stretch_more span leaves numbers i d h =
    ap (stretch_on span leaves) (take_more numbers i d h)
    ∙ flat_map-append (λ n. wanted_on span (leaf_at n leaves)) (take i numbers) (get_or numbers i d ∷ [])
    ∙ ap (λ l. stretch_on span leaves (take i numbers) ++ l) (append-nil (wanted_on span (leaf_at (get_or numbers i d) leaves)))

reverse_one : (span : Span) (pair : Bytes × Bytes) → reverse (wanted_of span (pair ∷ [])) ≡ wanted_of span (pair ∷ [])
reverse_one span pair =
    elim (is_wanted span pair.0) as (λ b. reverse (cond b (pair ∷ []) []) ≡ cond b (pair ∷ []) []) [ true ↦ refl | false ↦ refl ]

pub wanted_back : (span : Span) (pair : Bytes × Bytes) (gone : Pairs)
    → reverse (wanted_of span (pair ∷ gone)) ≡ reverse (wanted_of span gone) ++ wanted_of span (pair ∷ [])
wanted_back span pair gone =
    ap reverse (filter-append (λ p. is_wanted span p.0) (pair ∷ []) gone)
    ∙ reverse-append (wanted_of span (pair ∷ [])) (wanted_of span gone)
    ∙ ap (λ l. reverse (wanted_of span gone) ++ l) (reverse_one span pair)

pub stretch_back : (span : Span) (leaves : List Leaf) (number : ℕ) (gone : List ℕ)
    → reverse (stretch_on span leaves (number ∷ gone)) ≡ reverse (stretch_on span leaves gone) ++ reverse (wanted_on span (leaf_at number leaves))
stretch_back span leaves number gone = reverse-append (wanted_on span (leaf_at number leaves)) (stretch_on span leaves gone)

-- ---- what goes out

pub due_up : (order : Order) (pairs : Pairs) (due : Due) → order.reverse ≡ false
    → due.passed ≡ length pairs - order.last → due.left ≡ min order.limit order.last → due_of due pairs ≡ chosen order pairs
due_up order pairs due up passed left =
    let last : Pairs = greatest order.last pairs in
    let few : length last ≤ order.last = omega (arith, length-drop (length pairs - order.last) pairs) in
    ap (λ k. take due.left (drop k pairs)) passed ∙ ap (λ k. take k last) left ∙ lesser order.limit order.last last few
    ∙ sym (ap (λ b. take order.limit (if b then reverse last else last)) up)

pub due_down : (order : Order) (pairs : Pairs) (due : Due) → order.reverse ≡ true
    → due.passed ≡ 0 → due.left ≡ min order.limit order.last → due_of due (reverse pairs) ≡ chosen order pairs
due_down order pairs due down passed left =
    let last : Pairs = greatest order.last pairs in
    let back : Pairs = take order.last (reverse pairs) in
    let few : length back ≤ order.last = omega (arith, length-take order.last (reverse pairs)) in
    ap (λ k. take due.left (drop k (reverse pairs))) passed ∙ ap (λ k. take k (reverse pairs)) left
    ∙ sym (take-take (min order.limit order.last) order.last (reverse pairs) (omega arith))
    ∙ lesser order.limit order.last back few ∙ ap (take order.limit) (sym (turned order.last pairs))
    ∙ sym (ap (λ b. take order.limit (if b then reverse last else last)) down)

pub listed_none : {E : Type 0} (order : Order) (r : Result Unit E) (o p q : Option (List ℕ))
    → Appends o p (before order.style) → OnOk r (Appends p q (behind order.style)) → OnOk r (Appends o q (listing order []))
listed_none order r o p q first second =
    let none : chosen order [] ≡ [] = none_chosen order.reverse in
    subst (λ bs. OnOk r (Appends o q bs))
    (ap (λ l. l ++ behind order.style) (sym (ap (λ ps. before order.style ++ spelled order.style ps) none ∙ append-nil (before order.style))))
    (trans_on_ok r o p q _ _ first second)
  where
    no_last : greatest order.last [] ≡ []
    no_last = drop_all (0 - order.last) [] (omega arith)

    none_chosen : (b : Bool) → take order.limit (if b then reverse (greatest order.last []) else greatest order.last []) ≡ []
    none_chosen true = ap (λ l. take order.limit (reverse l)) no_last ∙ take_all order.limit [] (omega arith)
    none_chosen false = ap (take order.limit) no_last ∙ take_all order.limit [] (omega arith)

pub wrote_up : (order : Order) (due after : Due) (o p : Option (List ℕ)) (pairs all : Pairs)
    → Writes order.style due after o p pairs → pairs ≡ all → order.reverse ≡ false
    → due.passed ≡ length all - order.last → due.left ≡ min order.limit order.last → Appends o p (spelled order.style (chosen order all))
wrote_up order due after o p pairs all wrote same up passed left =
    subst (λ l. Appends o p (spelled order.style l)) (ap (due_of due) same ∙ due_up order all due up passed left) wrote.bytes

pub wrote_down : (order : Order) (due after : Due) (o p : Option (List ℕ)) (pairs all : Pairs)
    → Writes order.style due after o p (reverse pairs) → pairs ≡ all → order.reverse ≡ true
    → due.passed ≡ 0 → due.left ≡ min order.limit order.last → Appends o p (spelled order.style (chosen order all))
wrote_down order due after o p pairs all wrote same down passed left =
    subst (λ l. Appends o p (spelled order.style l)) (ap (λ l. due_of due (reverse l)) same ∙ due_down order all due down passed left) wrote.bytes

-- ---- the last of a list

pub split_last_at : {X : Type 0} (xs : List X) (d : X) → 1 ≤ length xs → xs ≡ take (length xs - 1) xs ++ get_or xs (length xs - 1) d ∷ []
split_last_at xs d some =
    let last : length xs - 1 < length xs = omega arith in
    let all : length xs ≤ length xs - 1 + 1 = omega arith in
    sym (take_all (length xs - 1 + 1) xs all) ∙ take_more xs (length xs - 1) d last

pub split_last : {X : Type 0} (xs : List X) (x : X) → 1 ≤ length xs → x ≡ get_or xs (length xs - 1) x → xs ≡ take (length xs - 1) xs ++ x ∷ []
split_last xs x some is = split_last_at xs x some ∙ ap (λ y. take (length xs - 1) xs ++ y ∷ []) (sym is)

-- ---- no more than a map has

few_kept : (span : Span) (ps : Pairs) → length (wanted_of span ps) ≤ length ps
few_kept span [] = omega arith
few_kept span (p ∷ ps) =
    elim (is_wanted span p.0) as (λ b. length (cond b (p ∷ wanted_of span ps) (wanted_of span ps)) ≤ suc (length ps))
    [ true ↦ omega (arith, few_kept span ps) | false ↦ omega (arith, few_kept span ps) ]

pub few_of : (span : Span) (map : Map) → length (stretch span map) ≤ finite.len map
few_of span map = omega (arith, few_kept span (finite.entries map), finite.len-entries map)

pub passed_all : (span : Span) (map : Map) (last : ℕ) → finite.len map < 2 ^ 64 → last ≡ 2 ^ 64 - 1 → 0 ≡ length (stretch span map) - last
passed_all span map last fits all = omega (arith, few_of span map)

pub passed_some : (span : Span) (leaves : List Leaf) (numbers : List ℕ) (last count : ℕ) → finite.len (union leaves) < 2 ^ 64
    → stretch_on span leaves numbers ≡ stretch span (union leaves) → count ≡ counted span leaves numbers → count < 2 ^ 64
    → count - last ≡ length (stretch span (union leaves)) - last
passed_some span leaves numbers last count few whole is fits =
    let same : count ≡ min (length (stretch span (union leaves))) (2 ^ 64 - 1) = counted_whole span leaves numbers count whole is fits in
    omega (arith, few_of span (union leaves))

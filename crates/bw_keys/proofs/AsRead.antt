-- Of each key the records that were handed out, and those that did not go in yet, are those that were read.

use Rattle.std.proofs.Common.{◌≡◌, ℕ, Bool, true, false, List, [], ◌∷◌, ◌++◌, cond, refl, sym, ap, ◌∙◌, subst}
use Rattle.std.specs.Prelude.{Option, Some, None, Result, Ok, Err}
use Rattle.std.specs.List.{filter}
use Rattle.std.specs.Ordering.{is_eq}
use Rattle.std.proofs.lemmas.List.{append-nil, append_assoc}
use Rattle.std.proofs.lemmas.List.Elements.{filter-append}
use Rattle.bw_record.specs.declared.record.Record.{Record}
use Rattle.bw_record.specs.Keys.{order}
use Rattle.bw_record.specs.Record.{key_of}
use Rattle.bw_record.proofs.Order.{tied}
use Rattle.bw_keys.specs.Loading.{got}
use Rattle.bw_keys.specs.declared.held.Held.{Held}
use Rattle.bw_keys.specs.Held.{of_key, goes_in, pending, Accepts, AreAsRead}

joined : (key : List ℕ) (xs ys : List Record) → of_key key (xs ++ ys) ≡ of_key key xs ++ of_key key ys
joined key xs ys = filter-append (λ r. is_eq (order (key_of r) key)) xs ys

-- a record stands before others, none of which has its key
goes_before : (key : List ℕ) (r : Record) (items : List Record) (b : Bool) → is_eq (order (key_of r) key) ≡ b → of_key (key_of r) items ≡ []
    → of_key key (r ∷ []) ++ of_key key items ≡ of_key key items ++ of_key key (r ∷ [])
goes_before key r items true is none =
    let same : of_key key items ≡ [] = ap (λ k. of_key k items) (sym (tied (key_of r) key is)) ∙ none in
    ap (λ l. of_key key (r ∷ []) ++ l) same ∙ append-nil (of_key key (r ∷ [])) ∙ ap (λ l. l ++ of_key key (r ∷ [])) (sym same)
goes_before key r items false is none =
    let gone : of_key key (r ∷ []) ≡ [] = ap (λ b. cond b (r ∷ []) []) is in
    ap (λ l. l ++ of_key key items) gone ∙ sym (append-nil (of_key key items)) ∙ ap (λ l. of_key key items ++ l) (sym gone)

waits_behind : (given waiting later read : List Record) (r : Record) → later ≡ waiting ++ r ∷ [] → AreAsRead (given ++ waiting) read
    → AreAsRead (given ++ later) (read ++ r ∷ [])
waits_behind given waiting later read r waits same key =
    ap (λ l. of_key key (given ++ l)) waits
    ∙ ap (λ l. of_key key l) (sym (append_assoc given waiting (r ∷ [])))
    ∙ joined key (given ++ waiting) (r ∷ [])
    ∙ ap (λ l. l ++ of_key key (r ∷ [])) (same key)
    ∙ sym (joined key read (r ∷ []))

goes_ahead : (given waiting read : List Record) (r : Record) → of_key (key_of r) waiting ≡ [] → AreAsRead (given ++ waiting) read
    → AreAsRead ((given ++ r ∷ []) ++ waiting) (read ++ r ∷ [])
goes_ahead given waiting read r none same key =
    ap (λ l. of_key key l) (append_assoc given (r ∷ []) waiting)
    ∙ joined key given (r ∷ waiting)
    ∙ ap (λ l. of_key key given ++ l) (joined key (r ∷ []) waiting ∙ goes_before key r waiting (is_eq (order (key_of r) key)) refl none)
    ∙ sym (append_assoc (of_key key given) (of_key key waiting) (of_key key (r ∷ [])))
    ∙ ap (λ l. l ++ of_key key (r ∷ [])) (sym (joined key given waiting) ∙ same key)
    ∙ sym (joined key read (r ∷ []))

-- a record was read, and went in or waits
pub read_one : (given read later : List Record) (r : Record) (now : Option Record) (old new : Held) → Accepts r now old new → later ≡ read ++ r ∷ []
    → AreAsRead (given ++ pending old) read → AreAsRead ((given ++ goes_in now) ++ pending new) later
read_one given read later r None old new waits more same = λ key.
    ap (λ l. of_key key (l ++ pending new)) (append-nil given)
    ∙ waits_behind given (pending old) (pending new) read r waits same key
    ∙ ap (λ l. of_key key l) (sym more)
read_one given read later r (Some now) old new goes more same = λ key.
    ap (λ n. of_key key ((given ++ n ∷ []) ++ pending new)) goes.0
    ∙ ap (λ l. of_key key ((given ++ r ∷ []) ++ l)) goes.1
    ∙ goes_ahead given (pending old) read r goes.2 same key
    ∙ ap (λ l. of_key key l) (sym more)

-- one that was read before goes in
pub gone_in : (given waiting later read : List Record) (now : List Record) → waiting ≡ now ++ later → AreAsRead (given ++ waiting) read
    → AreAsRead ((given ++ now) ++ later) read
gone_in given waiting later read now taken same = λ key.
    ap (λ l. of_key key l) (append_assoc given now later ∙ ap (λ l. given ++ l) (sym taken)) ∙ same key

-- a record came
pub got_one : (E : Type 0) (read later : List Record) (x : Option Record) (item : Record) → x ≡ Some item → later ≡ read ++ got {E = E} (Ok x)
    → later ≡ read ++ item ∷ []
got_one E read later x item is more = more ∙ ap (λ o. read ++ got {E = E} (Ok o)) is

-- no record came
pub got_none : (E : Type 0) (read later : List Record) (x : Option Record) → x ≡ None → later ≡ read ++ got {E = E} (Ok x) → later ≡ read
got_none E read later x is more = more ∙ ap (λ o. read ++ got {E = E} (Ok o)) is ∙ append-nil read

-- none of them went in
pub none_gone : (given later waiting read : List Record) (o : Option Record) → o ≡ None → later ≡ given
    → AreAsRead ((given ++ goes_in o) ++ waiting) read → AreAsRead (later ++ waiting) read
none_gone given later waiting read o is more same = λ key.
    ap (λ l. of_key key (l ++ waiting)) (more ∙ sym (append-nil given) ∙ ap (λ x. given ++ goes_in x) (sym is)) ∙ same key

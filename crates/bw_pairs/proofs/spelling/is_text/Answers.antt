use Rattle.std.proofs.Common.{◌≡◌, Bool, true, false, List, ℕ, refl, IsUtf8, arith, nat_eq}
use Rattle.std.specs.List.{starts_with}
use Rattle.std.specs.Str.{is_utf8}
use Rattle.std.proofs.lemmas.Str.{is_utf8-from_IsUtf8, IsUtf8-from_is_utf8}
use Rattle.bw_pairs.specs.Words.{mark, is_text, has_no_control}
use Rattle.bw_pairs.proofs.spelling.is_text.Goals as goal

no_text : (bytes : List ℕ) (b : Bool) → is_utf8 bytes ≡ b → (IsUtf8 bytes → ⊥) → false ≡ is_text bytes
no_text bytes true same none = absurd (none (IsUtf8-from_is_utf8 bytes same))
no_text bytes false same none = rw same (grind arith)

text : (bytes : List ℕ) (r : Bool) → false ≡ starts_with nat_eq bytes mark → IsUtf8 bytes
    → r ≡ has_no_control bytes → r ≡ is_text bytes
text bytes r plain utf8 same = rw (← plain, is_utf8-from_IsUtf8 bytes utf8) same

pub returns-in-Ok : goal.returns-in-Ok
returns-in-Ok c =
    let e = c.in-Ok.ensures.cases in
    text c.args.bytes.now c.has_no_control.result c.if-starts_with.ensures.value e.1 (rw e.0 at c.has_no_control.ensures)

pub returns-in-Err : goal.returns-in-Err
returns-in-Err c = no_text c.args.bytes.now (is_utf8 c.args.bytes.now) refl c.in-Err.ensures.cases.0

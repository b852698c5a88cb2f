-- What each group of a call makes of the tables.

use Rattle.std.proofs.Common.{ℕ, ◌≡◌, ◌+◌, ◌-◌, ◌<◌, ◌≤◌, ◌^◌, cond, Option, Some, None, List, [], ◌∷◌, ◌++◌, length, take, refl, sym, ap, subst, ◌∙◌, arith}
use Rattle.std.proofs.lemmas.List.Sums.{fold-append}
use Rattle.bw_record.specs.declared.record.Record.{Record}
use Rattle.bw_record.specs.declared.record.Record.TheVariants.{Put, Del}
use Rattle.bw_rows.specs.Spelling.{Bytes, aside_key, row_key, row_place, name_key, mark_key, gone_key, doomed_key, free_key, stands_key, head_of, head_row, whole_row, no_row}
use Rattle.bw_rows.specs.Meaning.{Plain, over, with_value}
use Rattle.bw_rows.specs.Law.{head_at}
use Rattle.bw_rows.specs.Steps.{with, changed, after, head_in, row_group, aside_group, step_of, carry_of}
use Rattle.bw_rows.specs.Laws.{IsTables, with_table, empty_table}
use Rattle.bw_rows.specs.Batches.{said, batched, IsGathering, IsStanding}
use Rattle.bw_rows.proofs.TableLaws as laws
use Rattle.bw_rows.proofs.NameLaws.{create_law, drop_law, gone_row_law}
use Rattle.bw_rows.proofs.BatchLaws.{mark_law, carry_law, end_law}
use Rattle.bw_rows.proofs.GatherLaws.{gathered_law}
use Rattle.bw_rows.proofs.OneKey.{split, same_true}
use Rattle.bw_rows.proofs.HeadLaws.{head_named}
use Rattle.bw_tables.specs.Writing.{chunk_records, taking, IsWriting}
use Rattle.bw_tables.specs.Calls.{Begins, GoesOn, MakesLong, MakesShort, Frees, MakesBatch, CarriesOut, EndsBatch, MakesTable, DropsTable, DropsRow, KeepsMarks, SetsAside}
use Rattle.bw_tables.proofs.WritingLaws.{taking_law, chunks_law, step_law}

-- a number of two bytes in front
front : (t : Bytes) → length t ≡ 2 → take 2 (t ++ 1 ∷ []) ≡ t
front [] e = absurd (omega arith)
front (high ∷ []) e = absurd (omega arith)
front (high ∷ low ∷ []) e = refl
front (high ∷ low ∷ more ∷ rest) e = absurd (omega arith)

pub begins : (n value : Bytes) (to : ℕ) (group : List Record) → length n ≡ 8 → to < 2 ^ 32 → group ≡ taking n ++ chunk_records n value 0 to → Begins n value to group
begins n value to group wide fits is tables p h unnamed =
    let taken : IsWriting tables (after p (taking n)) n value 0 = taking_law tables p n value h unnamed in
    let written : IsWriting tables (after (after p (taking n)) (chunk_records n value 0 to)) n value (0 + to)
    = chunks_law tables (after p (taking n)) n value 0 to wide (omega arith) taken in
    let counted : IsWriting tables (after (after p (taking n)) (chunk_records n value 0 to)) n value to
    = subst (IsWriting tables (after (after p (taking n)) (chunk_records n value 0 to)) n value) (let e : 0 + to ≡ to = omega arith in e) written in
    subst (λ (q : Plain). IsWriting tables q n value to)
    (sym (fold-append changed p (taking n) (chunk_records n value 0 to)) ∙ ap (after p) (sym is)) counted

pub goes_on : (n value : Bytes) (from to : ℕ) (group : List Record) → length n ≡ 8 → from ≤ to → to < 2 ^ 32 → group ≡ chunk_records n value from (to - from) → GoesOn n value from to group
goes_on n value from to group wide order fits is tables p h =
    let written : IsWriting tables (after p (chunk_records n value from (to - from))) n value (from + (to - from)) = chunks_law tables p n value from (to - from) wide (omega arith) h in
    let counted : IsWriting tables (after p (chunk_records n value from (to - from))) n value to
    = subst (IsWriting tables (after p (chunk_records n value from (to - from))) n value) (let e : from + (to - from) ≡ to = omega arith in e) written in
    subst (λ (q : Plain). IsWriting tables q n value to) (ap (after p) (sym is)) counted

pub makes_long : (t key n value : Bytes) (old : Option (Bytes × ℕ)) (group : List Record) → length n ≡ 8 → 0 < length value → length value < 2 ^ 64
    → group ≡ row_group (row_place t key) (Some (head_row n (length value))) (Some (n, length value)) old → MakesLong t key n value old group
makes_long t key n value old group wide long fits is tables p name h its was =
    let place : Bytes = row_place t key in
    let row : Option Bytes = Some (head_row n (length value)) in
    let step : IsTables (with_value tables name key (Some value)) (after p (step_of place row (head_at p place))) = step_law tables p name t key n value wide long fits h its in
    let same_group : step_of place row (head_at p place) ≡ group
    = ap (row_group place row (head_in row)) was ∙ ap (λ (next : Option (Bytes × ℕ)). row_group place row next old) (head_named n (length value) wide fits) ∙ sym is in
    subst (λ (g : List Record). IsTables (with_value tables name key (Some value)) (after p g)) same_group step

pub makes_short : (t key value : Bytes) (old : Option (Bytes × ℕ)) (group : List Record)
    → group ≡ row_group (row_place t key) (Some (whole_row value)) None old → MakesShort t key (Some value) old group
makes_short t key value old group is tables p name h its was =
    let place : Bytes = row_place t key in
    let row : Option Bytes = Some (whole_row value) in
    let step : IsTables (with_value tables name key (Some value)) (after p (step_of place row (head_at p place))) = laws.short_law tables p name t key row h its refl in
    subst (λ (g : List Record). IsTables (with_value tables name key (Some value)) (after p g)) (ap (row_group place row None) was ∙ sym is) step

pub makes_none : (t key : Bytes) (old : Option (Bytes × ℕ)) (group : List Record)
    → group ≡ row_group (row_place t key) None None old → MakesShort t key None old group
makes_none t key old group is tables p name h its was =
    let place : Bytes = row_place t key in
    let step : IsTables (with_value tables name key None) (after p (step_of place None (head_at p place))) = laws.short_law tables p name t key None h its refl in
    subst (λ (g : List Record). IsTables (with_value tables name key None) (after p g)) (ap (row_group place None None) was ∙ sym is) step

pub frees : (n : Bytes) (group : List Record) → group ≡ Del (doomed_key n) ∷ Put (free_key n) [] ∷ [] → Frees n group
frees n group is tables p h none =
    let ended : IsTables tables (with p (doomed_key n) None) = laws.end_law tables p n h none in
    let freed : IsTables tables (with (with p (doomed_key n) None) (free_key n) (Some [])) = laws.free_law tables (with p (doomed_key n) None) n (Some []) ended in
    subst (λ (g : List Record). IsTables tables (after p g)) (sym is) freed

pub sets_aside : (t key row : Bytes) (group : List Record) → group ≡ Put (aside_key (row_place t key)) row ∷ [] → SetsAside t key row group
sets_aside t key row group is tables next p name h its fits =
    let step = gathered_law tables next p name t key row h its fits in
    subst (λ (g : List Record). IsGathering tables (with_value next name key (said p (Some row) None)) (after p g)) (sym is) step

pub makes_batch : (group : List Record) → group ≡ Put stands_key [] ∷ [] → MakesBatch group
makes_batch group is tables p h asides =
    let step = mark_law tables p h asides in
    subst (λ (g : List Record). IsStanding (batched p) (after p g)) (sym is) step

pub ends_batch : (group : List Record) → group ≡ Del stands_key ∷ [] → EndsBatch group
ends_batch group is tables p h none =
    let step = end_law tables p h none in
    subst (λ (g : List Record). IsTables tables (after p g)) (sym is) step

pub makes_table : (name t mark : Bytes) (group : List Record) → length t ≡ 2 → group ≡ Put (name_key name) (t ++ 1 ∷ []) ∷ Put mark_key mark ∷ [] → MakesTable name t group
makes_table name t mark group wide is tables p h fresh none empty =
    let its : take 2 (t ++ 1 ∷ []) ≡ t = front t wide in
    let step = create_law tables p name (t ++ 1 ∷ []) mark h fresh (ap length its ∙ wide)
    (λ other row e f. none other row e (f ∙ its))
    (λ key. ap (λ (x : Bytes). p (row_key (row_place x key))) its ∙ empty key) in
    subst (λ (g : List Record). IsTables (with_table tables name (Some empty_table)) (after p g)) (sym is) step

pub drops_table : (name t : Bytes) (group : List Record) → group ≡ Del (name_key name) ∷ Put (gone_key t) [] ∷ [] → DropsTable name t group
drops_table name t group is tables p h its =
    let step = drop_law tables p name t h its in
    subst (λ (g : List Record). IsTables (with_table tables name None) (after p g)) (sym is) step

pub drops_row : (t key : Bytes) (old : Option (Bytes × ℕ)) (group : List Record) → length t ≡ 2 → group ≡ row_group (row_place t key) None None old → DropsRow t key old group
drops_row t key old group wide is tables p h none was =
    let place : Bytes = row_place t key in
    let step : IsTables tables (after p (step_of place None (head_at p place))) = gone_row_law tables p t key h wide none in
    subst (λ (g : List Record). IsTables tables (after p g)) (ap (row_group place None None) was ∙ sym is) step

-- a row that goes away changes no name, no number that is gone, and no row aside
row_marks : (place : Bytes) (old : Option (Bytes × ℕ)) → KeepsMarks (row_group place None None old)
row_marks place None = record { names = λ p name. refl; gone = λ p t. refl; asides = λ p k. refl }
row_marks place (Some head) = record { names = λ p name. refl; gone = λ p t. refl; asides = λ p k. refl }

pub row_keeps_marks : (place : Bytes) (old : Option (Bytes × ℕ)) (group : List Record) → group ≡ row_group place None None old → KeepsMarks group
row_keeps_marks place old group is = subst KeepsMarks (sym is) (row_marks place old)

-- nor does a number that is freed
pub frees_no_mark : (n : Bytes) (group : List Record) → group ≡ Del (doomed_key n) ∷ Put (free_key n) [] ∷ [] → KeepsMarks group
frees_no_mark n group is = subst KeepsMarks (sym is) (record { names = λ p name. refl; gone = λ p t. refl; asides = λ p k. refl })

-- nor the end of a batch
pub ends_no_mark : (group : List Record) → group ≡ Del stands_key ∷ [] → KeepsMarks group
ends_no_mark group is = subst KeepsMarks (sym is) (record { names = λ p name. refl; gone = λ p t. refl; asides = λ p k. refl })

-- ---- rows aside

-- what is carried out names what is aside
carried_head : (aside : Bytes) → head_in (over (Some aside) None) ≡ head_of aside
carried_head aside = split aside no_row
    (λ one. ap (λ b. head_in (cond b None (Some aside))) one ∙ sym (ap head_of (same_true aside no_row one)))
    (λ two. ap (λ b. head_in (cond b None (Some aside))) two)

pub carries_out : (place aside : Bytes) (old : Option (Bytes × ℕ)) (group : List Record)
    → group ≡ aside_group place (over (Some aside) None) (head_of aside) old → CarriesOut place aside old group
carries_out place aside old group is tables p h there was =
    let row : Option Bytes = over (Some aside) None in
    let step : IsStanding tables (after p (carry_of place row (head_at p place))) = carry_law tables p place aside h there in
    subst (λ (g : List Record). IsStanding tables (after p g))
    (ap (aside_group place row (head_in row)) was ∙ ap (λ (next : Option (Bytes × ℕ)). aside_group place row next old) (carried_head aside) ∙ sym is) step

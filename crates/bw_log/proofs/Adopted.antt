-- Lines that name their segments by number, one after the other.

use Rattle.std.proofs.Common.{◌≡◌, ◌≢◌, ℕ, zero, suc, ◌+◌, ◌-◌, ◌==◌, ◌^◌, ◌<◌, ◌≤◌, Bool, true, false, if◌then◌else◌, drop, Option, Some, List, []}
use Rattle.std.proofs.Common.{◌∷◌, ◌++◌, length, map, get_or, set, refl, sym}
use Rattle.std.proofs.Common.{ap, subst, ◌∙◌, append_assoc, append-nil, arith, length-append}
use Rattle.std.proofs.lemmas.List.{map-append, length-map}
use Rattle.std.proofs.lemmas.List.{drop_all}
use Rattle.std.proofs.lemmas.Bool.{eq-eqb, ne_eqb}
use Rattle.std.proofs.lemmas.Grind.{fold-append}
use Rattle.std.specs.List.{filter, AllByRecursion}
use Rattle.bw_codec.specs.Grammar.{frame_bytes_in}
use Rattle.bw_codec.specs.Reading.{version_in}
use Rattle.bw_record.specs.declared.block.Frame.{Frame}
use Rattle.bw_log.specs.Segments.{Limits, segment_frames, entries_from, entries, following, AreLive, is_before_next}
use Rattle.bw_log.specs.Adopting.{next_in, in_segments, old_in, Numbering}
use Rattle.bw_log.specs.declared.places.FrameAt.{FrameAt}
use Rattle.bw_log.proofs.Asked.{live_number}
use Rattle.bw_log.proofs.Entries.{all_append, all_filtered}
use Rattle.bw_log.proofs.GivenUp.{all_map, all_behind}

pub numbering_starts : (number : ℕ) (old : List FrameAt) → Numbering number old 0 old (Some 1)
numbering_starts number old = record { done = []; rest = old; split = refl; count = refl; is = refl; told = refl }

set_at : (xs : List FrameAt) (e d : FrameAt) (ys : List FrameAt) → set (xs ++ e ∷ ys) (length xs) d ≡ xs ++ d ∷ ys
set_at [] e d ys = refl
set_at (x ∷ xs) e d ys = ap (λ l. x ∷ l) (set_at xs e d ys)

get_at : (xs : List FrameAt) (e d : FrameAt) (ys : List FrameAt) → get_or (xs ++ e ∷ ys) (length xs) d ≡ e
get_at [] e d ys = refl
get_at (x ∷ xs) e d ys = get_at xs e d ys

on : ℕ → FrameAt → FrameAt
on number e = record e { segment = number + e.segment }

-- the line of this index
line_by : (old : List FrameAt) (i : ℕ) (done rest : List FrameAt) → old ≡ done ++ rest → length done ≡ i → i < length old
    → (e : FrameAt) × (others : List FrameAt) × (rest ≡ e ∷ others)
line_by old i done [] split count inside = absurd (omega (arith, ap (λ (l : List FrameAt). length l) split, length-append done []))
line_by old i done (e ∷ others) split count inside = (e, others, refl)

read_at : (number : ℕ) (i : ℕ) (now done others : List FrameAt) (e line : FrameAt) → length done ≡ i → now ≡ in_segments number done ++ e ∷ others
    → line ≡ get_or now i line → line ≡ e
read_at number i now done others e line count all read =
    let before = in_segments number done in
    let size : length before ≡ i = length-map done (λ (x : FrameAt). record x { segment = number + x.segment }) ∙ count in
    read ∙ ap (λ (l : List FrameAt). get_or l i line) all ∙ ap (λ (k : ℕ). get_or (before ++ e ∷ others) k line) (sym size) ∙ get_at before e line others

pub line_small : (number : ℕ) (old : List FrameAt) (i : ℕ) (now : List FrameAt) (next : Option ℕ) (line : FrameAt) → Numbering number old i now next
    → i < length old → line ≡ get_or now i line
    → AllByRecursion (λ e. number + e.segment < 2 ^ 64) old → number + line.segment < 2 ^ 64
line_small number old i now next line n inside read all =
    let parts = line_by old i n.done n.rest n.split n.count inside in
    let same = read_at number i now n.done parts.1 parts.0 line n.count (n.is ∙ ap (λ (l : List FrameAt). in_segments number n.done ++ l) parts.2) read in
    let there : AllByRecursion (λ e. number + e.segment < 2 ^ 64) (n.done ++ parts.0 ∷ parts.1) =
    subst (λ (l : List FrameAt). AllByRecursion (λ e. number + e.segment < 2 ^ 64) l) (n.split ∙ ap (λ (l : List FrameAt). n.done ++ l) parts.2) all in
    subst (λ (x : FrameAt). number + x.segment < 2 ^ 64) (sym same)
    (all_behind (λ (e : FrameAt). number + e.segment < 2 ^ 64) n.done (parts.0 ∷ parts.1) there).0

pub numbering_on : (number : ℕ) (old : List FrameAt) (i : ℕ) (now : List FrameAt) (next : Option ℕ) (line : FrameAt) (new : List FrameAt) (told : Option ℕ)
    → Numbering number old i now next → i < length old
    → line ≡ get_or now i line → new ≡ set now i (record line { segment = number + line.segment }) → told ≡ following line.number
    → Numbering number old (i + 1) new told
numbering_on number old i now next line new told n inside read written follows =
    let parts = line_by old i n.done n.rest n.split n.count inside in
    let e = parts.0 in
    let others = parts.1 in
    let before = in_segments number n.done in
    let size : length before ≡ i = length-map n.done (λ (x : FrameAt). record x { segment = number + x.segment }) ∙ n.count in
    let all : now ≡ before ++ e ∷ others = n.is ∙ ap (λ (l : List FrameAt). before ++ l) parts.2 in
    let same : line ≡ e = read ∙ ap (λ (l : List FrameAt). get_or l i line) all ∙ ap (λ (k : ℕ). get_or (before ++ e ∷ others) k line) (sym size)
    ∙ get_at before e line others in
    let d : FrameAt = record line { segment = number + line.segment } in
    record {
      done = n.done ++ e ∷ [];
      rest = others;
      split = n.split ∙ ap (λ (l : List FrameAt). n.done ++ l) parts.2 ∙ sym (append_assoc n.done (e ∷ []) others);
      count = omega (arith, length-append n.done (e ∷ []), n.count);
      is = written ∙ ap (λ (l : List FrameAt). set l i d) all ∙ ap (λ (k : ℕ). set (before ++ e ∷ others) k d) (sym size) ∙ set_at before e d others
          ∙ ap (λ (x : FrameAt). before ++ record x { segment = number + x.segment } ∷ others) same
          ∙ sym (append_assoc before (record e { segment = number + e.segment } ∷ []) others)
          ∙ ap (λ (l : List FrameAt). l ++ others) (sym (map-append (λ (x : FrameAt). record x { segment = number + x.segment }) n.done (e ∷ [])));
      told = follows ∙ ap (λ (x : FrameAt). following x.number) same
          ∙ sym (fold-append (λ (was : Option ℕ) (x : FrameAt). following x.number) (Some 1) n.done (e ∷ []));
    }

ends_by : (number : ℕ) (old now : List FrameAt) (next : Option ℕ) (done rest : List FrameAt) → old ≡ done ++ rest → length old ≤ length done
    → now ≡ in_segments number done ++ rest → next ≡ next_in done → (now ≡ in_segments number old) × (next ≡ next_in old)
ends_by number old now next done [] split all is told =
    let same : old ≡ done = split ∙ append-nil done in
    (is ∙ append-nil (in_segments number done) ∙ ap (in_segments number) (sym same), told ∙ ap next_in (sym same))
ends_by number old now next done (e ∷ rest) split all is told = absurd (omega (arith, ap (λ (l : List FrameAt). length l) split, length-append done (e ∷ rest)))

pub numbering_ends : (number : ℕ) (old : List FrameAt) (i : ℕ) (now : List FrameAt) (next : Option ℕ) → Numbering number old i now next → length old ≤ i
    → (now ≡ in_segments number old) × (next ≡ next_in old)
numbering_ends number old i now next n all = ends_by number old now next n.done n.rest n.split (let c = n.count in omega arith) n.is n.told

-- ---- the numbers fit

small_from : (v segment at : ℕ) (fs : List Frame) → segment < 2 ^ 64 → AllByRecursion (λ e. e.0.segment < 2 ^ 64) (entries_from v segment at fs)
small_from v segment at [] small = tt
small_from v segment at (f ∷ fs) small = (small, small_from v segment (at + length (frame_bytes_in v f)) fs small)

small_entries : (l : Limits) (number : ℕ) (bs : List (List ℕ)) → AreLive l number bs → AllByRecursion (λ e. e.0.segment < 2 ^ 64) (entries number bs)
small_entries l number [] live = tt
small_entries l number (b ∷ bs) live =
    all_append (λ (e : FrameAt × Frame). e.0.segment < 2 ^ 64) (entries_from (version_in b) number 24 (segment_frames b)) (entries (number + 1) bs)
    (small_from (version_in b) number 24 (segment_frames b) live.0.whole.lawful.number.1) (small_entries l (number + 1) bs live.1)

unmapped : (number : ℕ) (xs : List FrameAt) → AllByRecursion (λ e. e.segment < 2 ^ 64) (in_segments number xs)
    → AllByRecursion (λ e. number + e.segment < 2 ^ 64) xs
unmapped number [] all = tt
unmapped number (x ∷ xs) all = (all.0, unmapped number xs all.1)

pub small_lines : (l : Limits) (number : ℕ) (next : Option ℕ) (bs : List (List ℕ)) (lines : List FrameAt) → AreLive l number bs
    → in_segments number lines ≡ map (λ e. e.0) (filter (λ e. is_before_next next e.1.number) (entries number bs))
    → AllByRecursion (λ e. number + e.segment < 2 ^ 64) lines
small_lines l number next bs lines live is =
    let test : FrameAt × Frame → Bool = λ e. is_before_next next e.1.number in
    let line : FrameAt × Frame → FrameAt = λ e. e.0 in
    unmapped number lines (subst (λ (l : List FrameAt). AllByRecursion (λ e. e.segment < 2 ^ 64) l) (sym is)
    (all_map line (λ (e : FrameAt). e.segment < 2 ^ 64) (filter test (entries number bs))
    (all_filtered (λ (e : FrameAt × Frame). e.0.segment < 2 ^ 64) test (entries number bs) (small_entries l number bs live))))

-- ---- how many segments have version 1

pub old_next : (vs : List ℕ) (i v : ℕ) → i < length vs → v ≡ get_or vs i v → old_in (drop i vs) ≡ (if v == 1 then suc (old_in (drop (i + 1) vs)) else 0)
old_next [] i v inside is = absurd (omega arith)
old_next (x ∷ xs) zero v inside is = ap (λ (n : ℕ). if n == 1 then suc (old_in xs) else 0) (sym is)
old_next (x ∷ xs) (suc i) v inside is =
    let e : suc (i + 1) ≡ suc i + 1 = omega arith in
    old_next xs i v (omega arith) is ∙ ap (λ (n : ℕ). if v == 1 then suc (old_in (drop n (x ∷ xs))) else 0) e

pub none_left : (vs : List ℕ) (i : ℕ) → length vs ≤ i → old_in (drop i vs) ≡ 0
none_left vs i all = ap old_in (drop_all i vs all)

pub old_counts : (vs : List ℕ) (i v count : ℕ) → i < length vs → v ≡ get_or vs i v → v ≡ 1 → old_in vs ≡ count + old_in (drop i vs)
    → old_in vs ≡ (count + 1) + old_in (drop (i + 1) vs)
old_counts vs i v count inside is one was =
    (let n = old_next vs i v inside is in let t : (v == 1) ≡ true = eq-eqb v 1 one in
    let next : old_in (drop i vs) ≡ suc (old_in (drop (i + 1) vs)) = n ∙ ap (λ (b : Bool). if b then suc (old_in (drop (i + 1) vs)) else 0) t in
    omega arith)

pub old_ends : (vs : List ℕ) (i v count : ℕ) → i < length vs → v ≡ get_or vs i v → v ≢ 1 → old_in vs ≡ count + old_in (drop i vs) → count ≡ old_in vs
old_ends vs i v count inside is other was =
    (let n = old_next vs i v inside is in let f : (v == 1) ≡ false = ne_eqb v 1 other in
    let next : old_in (drop i vs) ≡ 0 = n ∙ ap (λ (b : Bool). if b then suc (old_in (drop (i + 1) vs)) else 0) f in
    omega arith)

-- the last number of version 1 fits
pub old_small : (l : Limits) (number old : ℕ) (bytes : List (List ℕ)) → AreLive l number bytes → number < 2 ^ 64 → number - 1 + old < number + length bytes
    → number - 1 + old < 2 ^ 64
old_small l number old [] live small news = omega arith
old_small l number old (b ∷ bs) live small news = (let last = live_number l number (b ∷ bs) (length bs) live (omega arith) in omega arith)

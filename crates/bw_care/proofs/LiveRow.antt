-- Segments in order, as a log has them.

use Rattle.std.proofs.Common.{◌≡◌, ℕ, suc, ◌+◌, ◌-◌, ◌<◌, ◌≤◌, ◌==◌, ◌&&◌, not, nat_lt, if◌then◌else◌, inl, inr, le-leb, Bool, true, false, Some}
use Rattle.std.proofs.Common.{None, List, [], ◌∷◌, ◌++◌}
use Rattle.std.proofs.Common.{length, map, refl, sym, ap, ◌∙◌, subst, arith}
use Rattle.std.specs.List.{list_any, AllByRecursion}
use Rattle.std.proofs.lemmas.Bool.{or_parts, and_parts, and_from, eqb-true, eq-eqb, lt-ltb, true≢false}
use Rattle.std.proofs.lemmas.List.{map-append}
use Rattle.bw_codec.specs.Grammar.{IsHeader, IsWhole, frame_bytes_in}
use Rattle.bw_codec.specs.Reading.{version_in}
use Rattle.bw_record.specs.Version.{latest}
use Rattle.bw_record.specs.declared.block.Frame.{Frame}
use Rattle.bw_codec.specs.declared.head.Header.{Header}
use Rattle.bw_device.specs.Holding.{Holding}
use Rattle.bw_log.specs.Segments.{Limits, header_in, header_with, segment_frames, entry_of, entries_from, entries, IsLive, AreLive}
use Rattle.bw_log.specs.Adopting.{in_segments, old_in}
use Rattle.bw_log.specs.declared.places.FrameAt.{FrameAt}
use Rattle.bw_care.specs.Scanning.{rest_of}
use Rattle.bw_care.specs.Behind.{frames_behind}
use Rattle.bw_care.specs.Scanned.{IsScan}
use Rattle.bw_care.specs.Recovery.{clash, are_mixed, pairs_of, limit_of}
use Rattle.bw_care.specs.Ordering.{lives_from, lives, headers_of, number_found, sorted, oldest_number, follow_from, AreFound, moved_to, lines_found}
use Rattle.bw_care.specs.declared.scan.Scan.{Scan}
use Rattle.bw_care.specs.declared.scan.Scan.TheVariants.{Bare, Part, Live}
use Rattle.bw_care.specs.declared.order.Found.{Found}
use Rattle.bw_care.proofs.HeadersRead.{live_is}
use Rattle.bw_care.proofs.NumberOrder.{frames_here}
use Rattle.bw_log.proofs.Entries.{all_mapped}
use Rattle.bw_care.proofs.RoomsParted.{fold_all}
use Rattle.bw_care.proofs.SortedOut.{header_is}
use Rattle.bw_log.proofs.Reread.{header_new}

-- ---- numbers

abbrev pub AreNumbers : ℕ → List Found → Type 0
AreNumbers n [] = Unit {0}
AreNumbers n (r ∷ rs) = (r.header.number ≡ n) × AreNumbers (n + 1) rs

numbers_some : (k : ℕ) (rs : List Found) → follow_from (Some k) (map number_found rs) ≡ true → AreNumbers (k + 1) rs
numbers_some k [] e = tt
numbers_some k (r ∷ rs) e =
    let two = and_parts (k + 1 == r.header.number) (follow_from (Some r.header.number) (map number_found rs)) e in
    let same : k + 1 ≡ r.header.number = eqb-true (k + 1) r.header.number two.0 in
    (sym same, subst (λ (n : ℕ). AreNumbers (n + 1) rs) (sym same) (numbers_some r.header.number rs two.1))

pub numbers_are : (r : Found) (rs : List Found) → follow_from None (map number_found (r ∷ rs)) ≡ true → AreNumbers r.header.number (r ∷ rs)
numbers_are r rs e = (refl, numbers_some r.header.number rs e)

-- the numbers of a row, from that of its first segment
pub numbers_row : (rs : List Found) → follow_from None (map number_found rs) ≡ true → AreNumbers (oldest_number rs) rs
numbers_row [] e = tt
numbers_row (r ∷ rs) e = numbers_are r rs e

-- ---- headers of which no two clash

not_off : (b : Bool) → not b ≡ false → b ≡ true
not_off true e = refl
not_off false e = absurd cc

and_off : (a b : Bool) → (a && b) ≡ false → a ≡ true → b ≡ false
and_off true b e is = e
and_off false b e is = absurd cc

same_pairs : (a b : Header) → clash a b ≡ false → a.m ≡ b.m
same_pairs a b e = eqb-true a.m b.m (not_off (a.m == b.m) (or_parts _ _ (or_parts _ _ e).0).0)

same_limit : (a b : Header) (v : ℕ) → clash a b ≡ false → a.version ≡ v → b.version ≡ v → a.f ≡ b.f
same_limit a b v e one two =
    let part = (or_parts _ _ (or_parts _ _ e).0).1 in
    eqb-true a.f b.f (not_off (a.f == b.f) (and_off (a.version == b.version) (not (a.f == b.f)) part (eq-eqb a.version b.version (one ∙ sym two))))

-- a segment of version 1 is not numbered after one of version 2
never_older : (a b : Header) → clash a b ≡ false → a.version ≡ 2 → b.version ≡ 1 → a.number < b.number → ⊥
never_older a b e new old less =
    let part = (or_parts _ _ e).1 in
    let versions = and_from (a.version == 2) (b.version == 1) (eq-eqb a.version 2 new) (eq-eqb b.version 1 old) in
    true≢false (sym (lt-ltb a.number b.number less)
    ∙ and_off ((a.version == 2) && (b.version == 1)) (nat_lt a.number b.number) part versions)

abbrev NoClash : Found → Found → Type 0
NoClash r q = clash r.header q.header ≡ false

abbrev pub AllAgree : List Found → Type 0
AllAgree rs = AllByRecursion (λ r. AllByRecursion (NoClash r) rs) rs

agree_rest : (q : Found) (rs : List Found) → AllAgree (q ∷ rs) → AllAgree rs
agree_rest q rs all = all_mapped (λ r. AllByRecursion (NoClash r) (q ∷ rs)) (λ r. AllByRecursion (NoClash r) rs) rs (λ r apart. apart.1) all.1

abbrev header_at : Found → Header
header_at r = r.header

lives_headers : (n : ℕ) (ss : List Scan) → map header_at (lives_from n ss) ≡ headers_of ss
lives_headers n [] = refl
lives_headers n (Bare ∷ ss) = lives_headers (n + 1) ss
lives_headers n (Part ∷ ss) = lives_headers (n + 1) ss
lives_headers n (Live header b ∷ ss) = ap (λ (l : List Header). header ∷ l) (lives_headers (n + 1) ss)

none_mapped : {X Y : Type 0} (test : Y → Bool) (g : X → Y) (xs : List X) → list_any test (map g xs) ≡ false → AllByRecursion (λ x. test (g x) ≡ false) xs
none_mapped test g [] e = tt
none_mapped test g (x ∷ xs) e = let two = or_parts (test (g x)) (list_any test (map g xs)) e in (two.0, none_mapped test g xs two.1)

agree : (rs : List Found) → are_mixed (map header_at rs) ≡ false → AllAgree rs
agree rs e =
    all_mapped (λ r. list_any (clash r.header) (map header_at rs) ≡ false) (λ r. AllByRecursion (NoClash r) rs) rs
    (λ r off. none_mapped (clash r.header) header_at rs off)
    (none_mapped (λ (a : Header). list_any (clash a) (map header_at rs)) header_at rs e)

lives_agree : (ss : List Scan) → are_mixed (headers_of ss) ≡ false → AllAgree (lives ss)
lives_agree ss e = agree (lives ss) (ap are_mixed (lives_headers 0 ss) ∙ e)

sorted_agree : (ss : List Scan) → AllAgree (lives ss) → AllAgree (sorted ss)
sorted_agree ss all =
    fold_all number_found (λ r. AllByRecursion (NoClash r) (sorted ss)) [] (lives ss) tt
    (all_mapped (λ r. AllByRecursion (NoClash r) (lives ss)) (λ r. AllByRecursion (NoClash r) (sorted ss)) (lives ss)
    (λ r one. fold_all number_found (NoClash r) [] (lives ss) tt one) all)

-- ---- limits

-- the frame limit of the first header of a version
abbrev first_limit : ℕ → List Header → ℕ
first_limit v [] = 65536
first_limit v (h ∷ hs) = if h.version == v then h.f else first_limit v hs

limit_first : (hs : List Header) → first_limit 2 hs ≡ limit_of hs
limit_first [] = refl
limit_first (h ∷ hs) = ap (λ (n : ℕ). if h.version == 2 then h.f else n) (limit_first hs)

abbrev HasPairs : ℕ → Found → Type 0
HasPairs m r = r.header.m ≡ m

abbrev HasLimit : ℕ → ℕ → Found → Type 0
HasLimit v f r = r.header.version ≡ v → r.header.f ≡ f

abbrev IsLawful : Found → Type 0
IsLawful r = IsHeader r.header

pairs_alike : (rs : List Found) → AllAgree rs → AllByRecursion (HasPairs (pairs_of (map header_at rs))) rs
pairs_alike [] all = tt
pairs_alike (q ∷ rs) all =
    (refl, all_mapped (λ r. AllByRecursion (NoClash r) (q ∷ rs)) (HasPairs q.header.m) rs (λ r apart. same_pairs r.header q.header apart.0) all.1)

limits_step : (v : ℕ) (q : Found) (rs : List Found) (t : Bool) → (q.header.version == v) ≡ t → AllAgree (q ∷ rs)
    → AllByRecursion (HasLimit v (first_limit v (map header_at rs))) rs
    → AllByRecursion (HasLimit v (if t then q.header.f else first_limit v (map header_at rs))) (q ∷ rs)
limits_step v q rs true is all more = (
  λ e. refl,
  all_mapped (λ r. AllByRecursion (NoClash r) (q ∷ rs)) (HasLimit v q.header.f) rs
      (λ r apart e. same_limit r.header q.header v apart.0 e (eqb-true q.header.version v is)) all.1,
)
limits_step v q rs false is all more = (λ e. absurd (true≢false (sym (eq-eqb q.header.version v e) ∙ is)), more)

limits_alike : (v : ℕ) (rs : List Found) → AllAgree rs → AllByRecursion (HasLimit v (first_limit v (map header_at rs))) rs
limits_alike v [] all = tt
limits_alike v (q ∷ rs) all = limits_step v q rs (q.header.version == v) refl all (limits_alike v rs (agree_rest q rs all))

-- ---- versions

-- what the headers of a row say beside their numbers
abbrev pub row_limits : List Scan → Limits
row_limits ss = record {
  m = pairs_of (headers_of ss);
  f = limit_of (headers_of ss);
  old_f = first_limit 1 (headers_of ss);
  old_to = oldest_number (sorted ss) - 1 + old_in (map (λ r. r.header.version) (sorted ss));
}

-- a segment's header is the one that these limits say
abbrev pub IsLike : Limits → Found → Type 0
IsLike l r = r.header ≡ header_in l r.header.number

old_like : (l : Limits) (h : Header) → h.version ≡ 1 → h.m ≡ l.m → h.f ≡ l.old_f → h.number ≤ l.old_to → h ≡ header_in l h.number
old_like l h old pairs limit within =
    let same : ◌≡◌ {A = Header} h (record { version = 1; number = h.number; m = l.m; f = l.old_f }) =
    (λ i. record { version = old i; number = h.number; m = pairs i; f = limit i }) in
    same ∙ ap (λ (t : Bool). let k : Header = record {
      version = if t then 1 else latest;
      number = h.number;
      m = l.m;
      f = if t then l.old_f else l.f;
    } in k) (sym (le-leb h.number l.old_to within))

new_like : (l : Limits) (h : Header) → h.version ≡ 2 → h.m ≡ l.m → h.f ≡ l.f → l.old_to < h.number → h ≡ header_in l h.number
new_like l h new pairs limit beyond =
    let same : ◌≡◌ {A = Header} h (header_with h.number l.m l.f) = (λ i. record { version = new i; number = h.number; m = pairs i; f = limit i }) in
    same ∙ sym (header_new l h.number beyond)

-- after a segment of version 2 stand none of version 1
stay_new : (r : Found) (n : ℕ) (rs : List Found) → AreNumbers n rs → r.header.version ≡ 2 → r.header.number < n → AllByRecursion (NoClash r) rs
    → AllByRecursion IsLawful rs → AllByRecursion (λ q. q.header.version ≡ 2) rs
stay_new r n [] numbers new below apart laws = tt
stay_new r n (q ∷ rs) numbers new below apart laws =
    let number : q.header.number ≡ n = numbers.0 in (
      elim laws.0.version [
        | inl old ↦ absurd (never_older r.header q.header apart.0 new old (omega arith))
        | inr e ↦ e
      ],
      stay_new r (n + 1) rs numbers.1 new (omega arith) apart.1 laws.1,
    )

all_new : (l : Limits) (n : ℕ) (rs : List Found) → AreNumbers n rs → l.old_to < n → AllByRecursion (HasPairs l.m) rs
    → AllByRecursion (HasLimit 2 l.f) rs → AllByRecursion (λ q. q.header.version ≡ 2) rs → AllByRecursion (IsLike l) rs
all_new l n [] numbers beyond pairs limits news = tt
all_new l n (q ∷ rs) numbers beyond pairs limits news =
    let number : q.header.number ≡ n = numbers.0 in
    (new_like l q.header news.0 pairs.0 (limits.0 news.0) (omega arith), all_new l (n + 1) rs numbers.1 (omega arith) pairs.1 limits.1 news.1)

old_more : (v : ℕ) (vs : List ℕ) → v ≡ 1 → old_in (v ∷ vs) ≡ suc (old_in vs)
old_more v vs e = ap (λ (t : Bool). if t then suc (old_in vs) else 0) (eq-eqb v 1 e)

old_none : (v : ℕ) (vs : List ℕ) → v ≡ 2 → old_in (v ∷ vs) ≡ 0
old_none v vs e = ap (λ (k : ℕ). if k == 1 then suc (old_in vs) else 0) e

row_like : (l : Limits) (n : ℕ) (rs : List Found) → AreNumbers n rs → AllByRecursion (HasPairs l.m) rs → AllByRecursion (HasLimit 2 l.f) rs
    → AllByRecursion (HasLimit 1 l.old_f) rs → AllByRecursion IsLawful rs → AllAgree rs → suc l.old_to ≡ n + old_in (map (λ r. r.header.version) rs)
    → AllByRecursion (IsLike l) rs
row_like l n [] numbers pairs news olds laws all to = tt
row_like l n (r ∷ rs) numbers pairs news olds laws all to =
    let number : r.header.number ≡ n = numbers.0 in
    elim laws.0.version [
      | inl old ↦ (
          let count = old_more r.header.version (map (λ q. q.header.version) rs) old in (
            old_like l r.header old pairs.0 (olds.0 old) (omega arith),
            row_like l (n + 1) rs numbers.1 pairs.1 news.1 olds.1 laws.1 (agree_rest r rs all) (omega arith),
          )
          )
      | inr new ↦ (
          let count = old_none r.header.version (map (λ q. q.header.version) rs) new in (
            new_like l r.header new pairs.0 (news.0 new) (omega arith),
            all_new l (n + 1) rs numbers.1 (omega arith) pairs.1 news.1 (stay_new r (n + 1) rs numbers.1 new (omega arith) all.0.1 laws.1),
          )
          )
    ]

found_lawful : (boxes hs : List Holding) (rs : List Found) → AreFound boxes hs rs → AllByRecursion IsLawful rs
found_lawful boxes [] [] all = tt
found_lawful boxes [] (r ∷ rs) all = absurd all
found_lawful boxes (h ∷ hs) [] all = absurd all
found_lawful boxes (h ∷ hs) (r ∷ rs) all = (all.0.3.0, found_lawful boxes hs rs all.1)

sorted_by : (l : Limits) (rs : List Found) → AreNumbers (oldest_number rs) rs → AllByRecursion (HasPairs l.m) rs → AllByRecursion (HasLimit 2 l.f) rs
    → AllByRecursion (HasLimit 1 l.old_f) rs → AllByRecursion IsLawful rs → AllAgree rs
    → l.old_to ≡ oldest_number rs - 1 + old_in (map (λ r. r.header.version) rs) → AllByRecursion (IsLike l) rs
sorted_by l [] numbers pairs news olds laws all to = tt
sorted_by l (r ∷ rs) numbers pairs news olds laws all to =
    let law = laws.0.number.0 in
    row_like l r.header.number (r ∷ rs) numbers pairs news olds laws all (omega (arith, to, law))

-- if no headers clash, and the numbers have no gap
pub sorted_like : (boxes hs : List Holding) (ss : List Scan) → are_mixed (headers_of ss) ≡ false → AreFound boxes hs (sorted ss)
    → follow_from None (map number_found (sorted ss)) ≡ true → AllByRecursion (IsLike (row_limits ss)) (sorted ss)
sorted_like boxes hs ss e found follow =
    let l = row_limits ss in
    let all = lives_agree ss e in
    let headers = lives_headers 0 ss in
    let pairs = subst (λ (k : List Header). AllByRecursion (HasPairs (pairs_of k)) (lives ss)) headers (pairs_alike (lives ss) all) in
    let news = subst (λ (k : List Header). AllByRecursion (HasLimit 2 (first_limit 2 k)) (lives ss)) headers (limits_alike 2 (lives ss) all) in
    let olds = subst (λ (k : List Header). AllByRecursion (HasLimit 1 (first_limit 1 k)) (lives ss)) headers (limits_alike 1 (lives ss) all) in
    sorted_by l (sorted ss) (numbers_row (sorted ss) follow) (fold_all number_found (HasPairs l.m) [] (lives ss) tt pairs)
    (subst (λ (n : ℕ). AllByRecursion (HasLimit 2 n) (sorted ss)) (limit_first (headers_of ss))
    (fold_all number_found (HasLimit 2 (first_limit 2 (headers_of ss))) [] (lives ss) tt news))
    (fold_all number_found (HasLimit 1 l.old_f) [] (lives ss) tt olds)
    (found_lawful boxes hs (sorted ss) found) (sorted_agree ss all) refl

-- ---- live segments

pub like_at : (l : Limits) (n : ℕ) (r : Found) → IsLike l r → r.header.number ≡ n → r.header ≡ header_in l n
like_at l n r like number = like ∙ ap (header_in l) number

one_live : (l : Limits) (n : ℕ) (h : Holding) (r : Found) → IsScan h.bytes (Live r.header r.behind) → r.header.number ≡ n → IsLike l r → IsLive l n h.bytes
one_live l n h r is number like = record {
  torn = rest_of r.header h.bytes;
  whole = subst (λ (k : Header). IsWhole h.bytes k (segment_frames h.bytes) (rest_of r.header h.bytes)) (like_at l n r like number)
      (subst (λ (fs : List Frame). IsWhole h.bytes r.header fs (rest_of r.header h.bytes)) (sym (frames_here h r is))
      (live_is h.bytes r.header r.behind is.3 is.2));
}

pub all_live : (l : Limits) (n : ℕ) (boxes hs : List Holding) (rs : List Found) → AreFound boxes hs rs → AreNumbers n rs → AllByRecursion (IsLike l) rs
    → AreLive l n (map (λ h. h.bytes) hs)
all_live l n boxes [] [] all numbers like = tt
all_live l n boxes [] (r ∷ rs) all numbers like = absurd all
all_live l n boxes (h ∷ hs) [] all numbers like = absurd all
all_live l n boxes (h ∷ hs) (r ∷ rs) all numbers like = (one_live l n h r all.0 numbers.0 like.0, all_live l (n + 1) boxes hs rs all.1 numbers.1 like.1)

-- ---- lines

lines_from : (v number k at : ℕ) (fs : List Frame)
    → in_segments number (map (moved_to k) (map (λ e. e.0) (entries_from v 0 at fs))) ≡ map (λ e. e.0) (entries_from v (number + k) at fs)
lines_from v number k at [] = refl
lines_from v number k at (f ∷ fs) = ap (λ (l : List FrameAt). entry_of v (number + k) at f ∷ l) (lines_from v number k (at + length (frame_bytes_in v f)) fs)

version_found : (h : Holding) (r : Found) → IsScan h.bytes (Live r.header r.behind) → r.header.version ≡ version_in h.bytes
version_found h r is = ap (λ (k : Header). k.version) (header_is h.bytes r.header is.0)

pub lines_are : (number k : ℕ) (boxes hs : List Holding) (rs : List Found) → AreFound boxes hs rs
    → in_segments number (lines_found k rs) ≡ map (λ e. e.0) (entries (number + k) (map (λ h. h.bytes) hs))
lines_are number k boxes [] [] all = refl
lines_are number k boxes [] (r ∷ rs) all = absurd all
lines_are number k boxes (h ∷ hs) [] all = absurd all
lines_are number k boxes (h ∷ hs) (r ∷ rs) all =
    let next : number + (k + 1) ≡ number + k + 1 = omega arith in
    let here : in_segments number (map (moved_to k) r.behind.lines.items) ≡ map (λ e. e.0)
    (entries_from (version_in h.bytes) (number + k) 24 (segment_frames h.bytes)) =
    ap (λ (l : List FrameAt). in_segments number (map (moved_to k) l)) all.0.2.lines ∙ lines_from r.header.version number k 24 (frames_behind r.header h.bytes)
    ∙ ap (λ (v : ℕ). map (λ e. e.0) (entries_from v (number + k) 24 (frames_behind r.header h.bytes))) (version_found h r all.0)
    ∙ ap (λ (fs : List Frame). map (λ e. e.0) (entries_from (version_in h.bytes) (number + k) 24 fs)) (sym (frames_here h r all.0)) in
    map-append (λ (e : FrameAt). record e { segment = number + e.segment }) (map (moved_to k) r.behind.lines.items) (lines_found (k + 1) rs)
    ∙ ap (λ (l : List FrameAt). l ++ in_segments number (lines_found (k + 1) rs)) here
    ∙ ap (λ (l : List FrameAt). map (λ e. e.0) (entries_from (version_in h.bytes) (number + k) 24 (segment_frames h.bytes)) ++ l)
    (lines_are number (k + 1) boxes hs rs all.1 ∙ ap (λ (n : ℕ). map (λ e. e.0) (entries n (map (λ x. x.bytes) hs))) next)
    ∙ sym (map-append (λ (e : FrameAt × Frame). e.0) (entries_from (version_in h.bytes) (number + k) 24 (segment_frames h.bytes))
    (entries (number + k + 1) (map (λ x. x.bytes) hs)))

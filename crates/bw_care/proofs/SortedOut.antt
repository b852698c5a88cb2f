-- Boxes parted by what was read of them.

use Rattle.std.proofs.Common.{◌≡◌, ℕ, ◌==◌, nat_lt, Bool, true, false, if◌then◌else◌, List, [], ◌∷◌, ◌++◌, length, drop, map, refl, sym, ap, ◌∙◌}
use Rattle.std.proofs.Common.{append_assoc, append-nil}
use Rattle.std.specs.List.{fold, filter}
use Rattle.byteorder.specs.Endian.{little_number}
use Rattle.bw_codec.specs.Grammar.{agrees, segment_word, is_header}
use Rattle.bw_codec.specs.Reading.{version_in, header_in, heading_of}
use Rattle.bw_codec.specs.declared.head.Header.{Header}
use Rattle.bw_codec.specs.declared.head.HeaderRead.TheVariants as heading
use Rattle.bw_device.specs.Holding.{Holding}
use Rattle.bw_care.specs.Scanning.{has_header, has_header_by, is_bare}
use Rattle.bw_care.specs.Scanned.{AreScans}
use Rattle.bw_care.specs.Recovery.{placed_by, number_in, segments_in, spares_in}
use Rattle.bw_care.specs.Parting.{Numbered, number_of, Parted, parted}
use Rattle.bw_care.specs.declared.scan.Scan.{Scan}
use Rattle.bw_care.specs.declared.scan.Scan.TheVariants.{Bare, Part, Live}
use Rattle.bw_care.specs.Surveying.{kind_seen}

abbrev pub numbered : Holding → Numbered
numbered h = (number_in h.bytes, h)

abbrev pub number_at : Holding → ℕ
number_at h = number_in h.bytes

-- ---- headers

whole_by : (a b c d e : Bool) (x h : Header)
    → (if a then (if b then (if c then heading.Part else heading.Bad) else if d then (if e then heading.Whole x else heading.Bad) else heading.Bad) else
    heading.Bad) ≡ heading.Whole h → h ≡ x
whole_by true false c true true x h is = cc
whole_by true false c true false x h is = absurd cc
whole_by true false c false e x h is = absurd cc
whole_by true true true d e x h is = absurd cc
whole_by true true false d e x h is = absurd cc
whole_by false b c d e x h is = absurd cc

pub header_is : (bytes : List ℕ) (h : Header) → heading_of bytes ≡ heading.Whole h → h ≡ header_in bytes
unfolding heading_of
header_is bytes h is = whole_by (agrees bytes (segment_word (version_in bytes))) (nat_lt (length bytes) 24) (nat_lt 0 (length bytes))
    (little_number 2 (drop 18 bytes) == 0)
    (is_header (header_in bytes)) (header_in bytes) h is

pub bare_none : has_header [] ≡ false
unfolding heading_of
bare_none = refl

pub not_bare : (bytes : List ℕ) (t : Bool) → has_header bytes ≡ t → t ≡ true → is_bare bytes ≡ false
not_bare [] t is yes_is = (let e : has_header [] ≡ true = is ∙ yes_is in absurd (let f = sym bare_none ∙ e in cc))
not_bare (b ∷ bs) t is yes_is = refl

pub part_not_bare : (bytes : List ℕ) → heading_of bytes ≡ heading.Part → is_bare bytes ≡ false
unfolding heading_of
part_not_bare [] is = absurd cc
part_not_bare (b ∷ bs) is = refl

-- ---- in order

placed_test : (h k : Holding) (ks : List Holding) (t : Bool) → map numbered (placed_by number_at h ks) ≡ placed_by number_of (numbered h) (map numbered ks)
    → map numbered (if t then h ∷ k ∷ ks else k ∷ placed_by number_at h ks)
    ≡ (if t then numbered h ∷ numbered k ∷ map numbered ks else numbered k ∷ placed_by number_of (numbered h) (map numbered ks))
placed_test h k ks true more = refl
placed_test h k ks false more = ap (λ (l : List Numbered). numbered k ∷ l) more

pub placed_map : (h : Holding) (ks : List Holding) → map numbered (placed_by number_at h ks) ≡ placed_by number_of (numbered h) (map numbered ks)
placed_map h [] = refl
placed_map h (k ∷ ks) = placed_test h k ks (nat_lt (number_at h) (number_at k)) (placed_map h ks)

-- ---- all boxes

abbrev ordered : List Holding → List Holding → List Holding
ordered acc hs = fold (λ sorted x. placed_by number_at x sorted) acc hs

pub keeps : {X : Type 0} (test : X → Bool) (x : X) (xs : List X) → test x ≡ true → filter test (x ∷ xs) ≡ x ∷ filter test xs
keeps {X} test x xs e = ap (λ (t : Bool). if t then x ∷ filter test xs else filter test xs) e

pub drops : {X : Type 0} (test : X → Bool) (x : X) (xs : List X) → test x ≡ false → filter test (x ∷ xs) ≡ filter test xs
drops {X} test x xs e = ap (λ (t : Bool). if t then x ∷ filter test xs else filter test xs) e

pub parted_is : (hs : List Holding) (ss : List Scan) (acc q : List Holding) → AreScans hs ss
    → ◌≡◌ {A = Parted} (parted hs (map kind_seen ss) (map numbered acc, q)) (map numbered (ordered acc (segments_in hs)), q ++ spares_in hs)
parted_is [] [] acc q all = ap (λ (l : List Holding). (map numbered acc, l)) (sym (append-nil q))
parted_is [] (s ∷ ss) acc q all = absurd all
parted_is (h ∷ hs) [] acc q all = absurd all
parted_is (h ∷ hs) (Bare ∷ ss) acc q all =
    let live = drops (λ (x : Holding). has_header x.bytes) h hs (ap has_header all.0 ∙ bare_none) in
    let bare = keeps (λ (x : Holding). is_bare x.bytes) h hs (ap is_bare all.0) in
    parted_is hs ss acc (q ++ h ∷ []) all.1
    ∙ ap (λ (l : List Holding). (map numbered (ordered acc l), (q ++ h ∷ []) ++ spares_in hs)) (sym live)
    ∙ ap (λ (l : List Holding). (map numbered (ordered acc (segments_in (h ∷ hs))), l))
    (append_assoc q (h ∷ []) (spares_in hs) ∙ ap (λ (l : List Holding). q ++ l) (sym bare))
parted_is (h ∷ hs) (Part ∷ ss) acc q all =
    let live = drops (λ (x : Holding). has_header x.bytes) h hs (ap has_header_by all.0.0) in
    let bare = drops (λ (x : Holding). is_bare x.bytes) h hs (part_not_bare h.bytes all.0.0) in
    parted_is hs ss acc q all.1
    ∙ ap (λ (l : List Holding). (map numbered (ordered acc l), q ++ spares_in hs)) (sym live)
    ∙ ap (λ (l : List Holding). (map numbered (ordered acc (segments_in (h ∷ hs))), q ++ l)) (sym bare)
parted_is (h ∷ hs) (Live header b ∷ ss) acc q all =
    let has = ap has_header_by all.0.0 in
    let live = keeps (λ (x : Holding). has_header x.bytes) h hs has in
    let bare = drops (λ (x : Holding). is_bare x.bytes) h hs (not_bare h.bytes (has_header h.bytes) refl has) in
    let number : header.number ≡ number_in h.bytes = ap (λ (x : Header). x.number) (header_is h.bytes header all.0.0) in
    ap (λ (n : ℕ). parted hs (map kind_seen ss) (placed_by number_of (n, h) (map numbered acc), q)) number
    ∙ ap (λ (l : List Numbered). parted hs (map kind_seen ss) (l, q)) (sym (placed_map h acc))
    ∙ parted_is hs ss (placed_by number_at h acc) q all.1
    ∙ ap (λ (l : List Holding). (map numbered (ordered acc l), q ++ spares_in hs)) (sym live)
    ∙ ap (λ (l : List Holding). (map numbered (ordered acc (segments_in (h ∷ hs))), q ++ l)) (sym bare)

-- Boxes moved as planned.

use Rattle.std.proofs.Common.{◌≡◌, ℕ, ◌≤◌, List, [], ◌∷◌, length, map, refl, sym, ap, ◌∙◌, arith}
use Rattle.std.proofs.lemmas.List.{length-map}
use Rattle.bw_device.specs.Holding.{Holding}
use Rattle.bw_log.specs.Adopting.{adopted}
use Rattle.bw_log.specs.declared.places.Tables.{Tables}
use Rattle.bw_care.specs.Recovery.{number_in, live_in, spares_in}
use Rattle.bw_care.specs.Parting.{Numbered, Parted, parted}
use Rattle.bw_care.specs.Planned.{AreFindings}
use Rattle.bw_care.specs.declared.boxes.Kind.{Kind}
use Rattle.bw_care.specs.declared.steps.Findings.{Findings}

seconds : (hs : List Holding) → map (λ (p : Numbered). p.1) (map (λ (h : Holding). (number_in h.bytes, h)) hs) ≡ hs
seconds [] = refl
seconds (h ∷ hs) = ap (λ (l : List Holding). h ∷ l) (seconds hs)

second_of : {Y : Type 0} (w : Y → Numbered) (u : Y → Holding) → ((y : Y) → (w y).1 ≡ u y) → (ys : List Y) → map (λ (p : Numbered). p.1) (map w ys) ≡ map u ys
second_of w u same [] = refl
second_of w u same (y ∷ ys) = λ i. same y i ∷ second_of w u same ys i

pub moved : {X Y : Type 0} (v : X → Holding) (w : Y → Numbered) (u : Y → Holding) (boxes now : List X) (slice : List Kind) (numbered ys : List Y)
    (spares xs : List X) (p : Findings) → ((y : Y) → (w y).1 ≡ u y) → map v now ≡ map v boxes → slice ≡ p.kinds.items → numbered ≡ [] → spares ≡ []
    → ◌≡◌ {A = Parted} (map w ys, map v xs) (parted (map v now) slice (map w numbered, map v spares)) → AreFindings (map v boxes) p
    → (map u ys ≡ live_in (map v boxes)) × (map v xs ≡ spares_in (map v boxes))
moved v w u boxes now slice numbered ys spares xs p same now_is slice_is none_numbered none_spares parts findings =
    let all : ◌≡◌ {A = Parted} (map w ys, map v xs) (map (λ (h : Holding). (number_in h.bytes, h)) (live_in (map v boxes)), spares_in (map v boxes)) =
    parts ∙ ap (λ (l : List Holding). parted l slice (map w numbered, map v spares)) now_is
    ∙ ap (λ (k : List Kind). parted (map v boxes) k (map w numbered, map v spares)) slice_is
    ∙ ap (λ (n : List _). parted (map v boxes) p.kinds.items (map w n, map v spares)) none_numbered
    ∙ ap (λ (n : List _). parted (map v boxes) p.kinds.items ([], map v n)) none_spares ∙ findings.kinds in
    (sym (second_of w u same ys) ∙ ap (λ (q : Parted). map (λ (r : Numbered). r.1) q.0) all ∙ seconds (live_in (map v boxes)), ap (λ (q : Parted). q.1) all)

pub few_moved : {X Y : Type 0} (v : X → Holding) (u : Y → Holding) (boxes : List X) (ys : List Y) (p : Findings) (room : ℕ) → map u ys ≡ live_in (map v boxes)
    → AreFindings (map v boxes) p → length boxes ≤ room → length ys ≤ room
few_moved v u boxes ys p room same findings within =
    let few = findings.few in
    let size = ap (λ (l : List Holding). length l) same in
    omega (arith, size, length-map ys u, length-map boxes v)

pub adopted_moved : (live live_then spares spares_then : List Holding) (t : Tables) → live ≡ live_then → spares ≡ spares_then
    → adopted live spares t ≡ adopted live_then spares_then t
adopted_moved live live_then spares spares_then t a b = ap (λ (l : List Holding). adopted l spares t) a ∙ ap (λ (s : List Holding). adopted live_then s t) b

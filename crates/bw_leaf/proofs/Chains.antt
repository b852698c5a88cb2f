-- Chains: the newest mark, what stands above it, and what an eviction and a consolidation leave.

use Rattle.std.proofs.Common.{◌≡◌, ℕ, ◌+◌, ◌<◌, ◌-◌, ltb, true, false, Option, Some, None, is_some, List, [], ◌∷◌, ◌++◌, length, get_or, take, drop}
use Rattle.std.proofs.Common.{refl, sym, ap, ◌∙◌, subst, arith}
use Rattle.std.proofs.Common.{append-nil, append_assoc, length-append}
use Rattle.std.specs.Prelude.{reverse}
use Rattle.std.specs.List.{list_any}
use Rattle.std.specs.Option.{option_map, IfSome}
use Rattle.std.proofs.lemmas.List.{reverse-append, drop-append-le, drop_all, drop_more, take-append-drop}
use Rattle.std.proofs.lemmas.Bool.{false≢true}
use Rattle.bw_record.specs.declared.block.Place.{Place}
use Rattle.bw_record.specs.declared.leaf.Leaf.{Leaf}
use Rattle.bw_record.specs.declared.record.Record.{Record}
use Rattle.bw_leaf.specs.declared.chain.Link.{Link}
use Rattle.bw_leaf.specs.declared.chain.Link.TheVariants.{Delta, Flushed}
use Rattle.bw_leaf.specs.declared.chain.End.TheVariants.{Whole, OnLog}
use Rattle.bw_leaf.specs.Changed.{changed}
use Rattle.bw_leaf.specs.Links.{Chained, ground_of, told, content_of, is_flushed, under, trimmed, from_mark, evicted, consolidated, consolidated_by}
use Rattle.bw_leaf.specs.Marks.{mark_after}

-- what stands above a mark, of links that stand oldest first
abbrev pub above : List Link → Option (ℕ × Place) → Option (List Link × Place)
above links found = option_map (λ x. (reverse (drop (x.0 + 1) links), x.1)) found

above-more : (links : List Link) (r : Record) (found : Option (ℕ × Place)) → IfSome found (λ x. x.0 < length links)
    → under (Delta r) (above links found) ≡ above (links ++ Delta r ∷ []) found
above-more links r None h = refl
above-more links r (Some x) h =
    ap (λ ls. Some (ls, x.1)) (sym (ap reverse (drop-append-le (x.0 + 1) links (Delta r ∷ []) (omega arith))
    ∙ reverse-append (drop (x.0 + 1) links) (Delta r ∷ [])))

lasts : (n : ℕ) (found : Option (ℕ × Place)) → IfSome found (λ x. x.0 < n) → IfSome found (λ x. x.0 < n + 1)
lasts n None h = h
lasts n (Some x) h = omega arith

pushed : (links : List Link) (x : Link) (n : ℕ) → length links ≡ n → length (links ++ x ∷ []) ≡ n + 1
pushed links x n e = let l = length-append links (x ∷ []) in omega arith

marked : (n : ℕ) (front rest : List Link) (found : Option (ℕ × Place)) → length front ≡ n → IfSome found (λ x. x.0 < n)
    → trimmed (reverse front) ≡ above front found
    → trimmed (reverse (front ++ rest)) ≡ above (front ++ rest) (mark_after n found rest)
marked n front [] found e h is = subst (λ (ls : List Link). trimmed (reverse ls) ≡ above ls found) (sym (append-nil front)) is
marked n front (Delta r ∷ rest) found e h is =
    subst (λ (ls : List Link). trimmed (reverse ls) ≡ above ls (mark_after (n + 1) found rest)) (append_assoc front (Delta r ∷ []) rest)
    (marked (n + 1) (front ++ Delta r ∷ []) rest found (pushed front (Delta r) n e) (lasts n found h)
    (ap trimmed (reverse-append front (Delta r ∷ [])) ∙ ap (under (Delta r)) is ∙ above-more front r found (subst (λ k. IfSome found (λ x. x.0 < k)) (sym e) h)))
marked n front (Flushed place ∷ rest) found e h is =
    subst (λ (ls : List Link). trimmed (reverse ls) ≡ above ls (mark_after (n + 1) (Some (n, place)) rest)) (append_assoc front (Flushed place ∷ []) rest)
    (marked (n + 1) (front ++ Flushed place ∷ []) rest (Some (n, place)) (pushed front (Flushed place) n e) (omega arith)
    (ap trimmed (reverse-append front (Flushed place ∷ []))
    ∙ ap (λ ls. Some (ls, place)) (sym (ap reverse
    (drop_all (n + 1) (front ++ Flushed place ∷ []) (let l = pushed front (Flushed place) n e in omega arith))))))

-- the newest mark of links that stand oldest first, and of the same links newest first
pub trimmed-reverse : (links : List Link) → trimmed (reverse links) ≡ above links (mark_after 0 None links)
trimmed-reverse links = marked 0 [] links None refl tt refl

flushed-under : (r : Record) (x : Option (List Link × Place)) → is_some (under (Delta r) x) ≡ is_some x
flushed-under r None = refl
flushed-under r (Some x) = refl

-- there is a mark exactly if a flushed link stands
pub flushed-trimmed : (links : List Link) → list_any is_flushed links ≡ is_some (trimmed links)
flushed-trimmed [] = refl
flushed-trimmed (Delta r ∷ links) = flushed-trimmed links ∙ sym (flushed-under r (trimmed links))
flushed-trimmed (Flushed place ∷ links) = refl

told-under : (r : Record) (links : List Link) (x : Option (List Link × Place)) (leaf : Leaf)
    → IfSome x (λ c. told c.0 (told (from_mark links) leaf) ≡ told links leaf)
    → IfSome (under (Delta r) x) (λ c. told c.0 (told (from_mark links) leaf) ≡ changed r (told links leaf))
told-under r links None leaf h = tt
told-under r links (Some x) leaf h = ap (changed r) h

-- what stands above the mark, over what stands from it on, is all
pub told-trimmed : (links : List Link) (leaf : Leaf) → IfSome (trimmed links) (λ c. told c.0 (told (from_mark links) leaf) ≡ told links leaf)
told-trimmed [] leaf = tt
told-trimmed (Delta r ∷ links) leaf = told-under r links (trimmed links) leaf (told-trimmed links leaf)
told-trimmed (Flushed place ∷ links) leaf = refl

-- ---- at the end of the search for a mark

pub trimmed_at : (c : Chained) (links : List Link) (at : ℕ) (place : Place) → c.links ≡ reverse links → Some (at, place) ≡ mark_after 0 None links
    → trimmed c.links ≡ Some (reverse (drop (at + 1) links), place)
trimmed_at c links at place e is = ap trimmed e ∙ trimmed-reverse links ∙ ap (above links) (sym is)

pub not_trimmed : (c : Chained) (links : List Link) → c.links ≡ reverse links → None ≡ mark_after 0 None links → trimmed c.links ≡ None
not_trimmed c links e is = ap trimmed e ∙ trimmed-reverse links ∙ ap (above links) (sym is)

-- a chain whose newest mark is known
pub record Evicts (c : Chained) (links : List Link) (place : Place) : Type 0 where
  pub flushed : true ≡ list_any is_flushed c.links
  pub acts : evicted c ≡ Some (record c { links = links; end = OnLog place })
  pub content : (below : Leaf) → told links (told (from_mark c.links) (ground_of c.end below)) ≡ content_of c below

pub evicts : (c : Chained) (links : List Link) (place : Place) → trimmed c.links ≡ Some (links, place) → Evicts c links place
evicts c links place e = record {
  flushed = sym (flushed-trimmed c.links ∙ ap is_some e);
  acts = ap (option_map (λ x. record c { links = x.0; end = OnLog x.1 })) e;
  content = λ below. subst (λ (x : Option (List Link × Place)). IfSome x
      (λ y. told y.0 (told (from_mark c.links) (ground_of c.end below)) ≡ content_of c below)) e (told-trimmed c.links (ground_of c.end below));
}

pub stays : (c : Chained) → trimmed c.links ≡ None → (false ≡ list_any is_flushed c.links) × (evicted c ≡ None)
stays c e = (sym (flushed-trimmed c.links ∙ ap is_some e), ap (option_map (λ x. record c { links = x.0; end = OnLog x.1 })) e)

-- ---- a consolidation

-- only the newest link, of links that stand oldest first
pub newest_left : (links : List Link) (newest : Link) → true ≡ ltb 0 (length links) → newest ≡ get_or links (length links - 1) newest
    → drop (length links - 1) links ≡ newest ∷ []
newest_left [] newest some is = absurd (false≢true (sym some))
newest_left (x ∷ links) newest some is =
    let n = length (x ∷ links) - 1 in
    drop_more (x ∷ links) n newest (omega arith) ∙ (λ i. sym is i ∷ drop_all (n + 1) (x ∷ links) (omega arith) i)

-- the newest link comes first, if links stand newest first
pub newest_first : (links : List Link) (newest : Link) → true ≡ ltb 0 (length links) → newest ≡ get_or links (length links - 1) newest
    → reverse links ≡ newest ∷ reverse (take (length links - 1) links)
newest_first links newest some is =
    let n = length links - 1 in
    ap reverse (sym (take-append-drop n links) ∙ ap (λ rest. take n links ++ rest) (newest_left links newest some is))
    ∙ reverse-append (take n links) (newest ∷ [])

-- a chain whose newest link is flushed
pub consolidates : (c : Chained) (place : Place) (rest : List Link) (below : Leaf) → c.links ≡ Flushed place ∷ rest
    → consolidated c below ≡ Some (record c { links = Flushed place ∷ []; end = Whole (content_of c below) })
consolidates c place rest below e = ap (λ links. consolidated_by c links below) e

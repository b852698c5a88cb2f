-- Lawful leaves stay lawful: one written in its place, and a new one after them.

use Rattle.std.proofs.Common.{◌≡◌, ◌≢◌, ℕ, ◌+◌, true, false, List, [], ◌∷◌, ◌++◌, map, length, refl, sym, ap, ◌∙◌, subst, arith, if◌then◌else◌}
use Rattle.std.specs.Prelude.{◌==◌}
use Rattle.std.specs.List.{AllByRecursion as All}
use Rattle.std.proofs.lemmas.Bool.{eqb-true, eqb-false, eq-eqb, ne_eqb}
use Rattle.bw_codec.specs.Grammar.{IsBase}
use Rattle.bw_record.specs.declared.leaf.Leaf.{Leaf}
use Rattle.bw_record.proofs.Order.{Below, UpTo, not_both, below_upto, upto-trans, upto-refl, upto-antisymm}
use Rattle.bw_leaf.specs.Changed.{Bytes}
use Rattle.bw_page.specs.Leaves.{home, AreNumbered, BeginsEmpty, HaveOwnLows, AtHome, AreLeaves}
use Rattle.bw_leaf.proofs.Sorted.{all-map, all-zip, all-push}
use Rattle.bw_page.proofs.Homes.{pick, picks, second, first, home-all, home-max, home-push, home-map, is_home, put_in}

-- ---- a leaf in the place of a key's home

-- d may stand where the home of k stands
pub record Replaces (m : ℕ) (leaves : List Leaf) (k : Bytes) (d : Leaf) : Type 0 where
  pub page : d.page ≡ (home k leaves).page
  pub low : d.low ≡ (home k leaves).low
  pub base : IsBase m d
  pub homes : All (λ p. home p.0 leaves ≡ home k leaves) d.pairs

pub put_in-at : (d l : Leaf) → l.page ≡ d.page → put_in d l ≡ d
put_in-at d l e = rw (eq-eqb l.page d.page e)

pub put_in-other : (d l : Leaf) → l.page ≢ d.page → put_in d l ≡ l
put_in-other d l ne = rw (ne_eqb l.page d.page ne)

-- what holds of a leaf after a write: of d where the page is d's, else of the old leaf
put_in-either : (P : Leaf → Type 0) (d l : Leaf) → (l.page ≡ d.page → P d) → (l.page ≢ d.page → P l) → P (put_in d l)
put_in-either P d l f g =
    elim (l.page == d.page) as (λ b. (l.page == d.page) ≡ b → P (if b then d else l)) [ true ↦ λ e. f (eqb-true _ _ e) | false ↦ λ e. g (eqb-false _ _ e) ] refl

pub put_in-page : (d l : Leaf) → (put_in d l).page ≡ l.page
put_in-page d l = put_in-either (λ x. x.page ≡ l.page) d l (λ e. sym e) (λ ne. refl)

module _ (m : ℕ) (leaves : List Leaf) (k : Bytes) (d : Leaf) (a : AreLeaves m leaves) (h : Replaces m leaves k d) where
  pub same_lows : All (λ l. (put_in d l).low ≡ l.low) leaves
  same_lows =
      all-map (λ l. l.page ≡ (home k leaves).page → l ≡ home k leaves) (λ l. (put_in d l).low ≡ l.low)
      (λ l is. put_in-either (λ x. x.low ≡ l.low) d l (λ e. h.low ∙ ap (λ (x : Leaf). x.low) (sym (is (e ∙ h.page)))) (λ ne. refl))
      leaves (is_home leaves k a.first a.pages)

  pub home-put : (q : Bytes) → home q (map (put_in d) leaves) ≡ put_in d (home q leaves)
  home-put q = home-map (put_in d) q leaves a.first same_lows

  pub home-put_here : (q : Bytes) → home q leaves ≡ home k leaves → home q (map (put_in d) leaves) ≡ d
  home-put_here q e = home-put q ∙ put_in-at d (home q leaves) (ap (λ (x : Leaf). x.page) e ∙ sym h.page)

  pub home-put_elsewhere : (q : Bytes) → (home q leaves).page ≢ (home k leaves).page → home q (map (put_in d) leaves) ≡ home q leaves
  home-put_elsewhere q ne = home-put q ∙ put_in-other d (home q leaves) (λ e. ne (e ∙ h.page))

  same_page : (q : Bytes) → (home q (map (put_in d) leaves)).page ≡ (home q leaves).page
  same_page q = ap (λ (x : Leaf). x.page) (home-put q) ∙ put_in-page d (home q leaves)

numbered-put : (d : Leaf) (n : ℕ) (ls : List Leaf) → AreNumbered n ls → AreNumbered n (map (put_in d) ls)
numbered-put d n [] h = tt
numbered-put d n (l ∷ ls) h = (put_in-page d l ∙ h.0, numbered-put d (n + 1) ls h.1)

all-over : {X : Type 0} (P : X → Type 0) (f : X → X) (xs : List X) → All (λ x. P (f x)) xs → All P (map f xs)
all-over P f [] h = tt
all-over P f (x ∷ xs) h = (h.0, all-over P f xs h.1)

begins-put : (d : Leaf) (ls : List Leaf) → BeginsEmpty ls → All (λ l. (put_in d l).low ≡ l.low) ls → BeginsEmpty (map (put_in d) ls)
begins-put d [] b h = b
begins-put d (l ∷ ls) b h = h.0 ∙ b

lows-put : (d : Leaf) (ls : List Leaf) → HaveOwnLows ls → All (λ l. (put_in d l).low ≡ l.low) ls → HaveOwnLows (map (put_in d) ls)
lows-put d ls h k =
    all-over (λ x. All (λ y. x.low ≡ y.low → x.page ≡ y.page) (map (put_in d) ls)) (put_in d) ls
    (all-zip (λ x. All (λ y. x.low ≡ y.low → x.page ≡ y.page) ls) (λ x. (put_in d x).low ≡ x.low)
    (λ x. All (λ y. (put_in d x).low ≡ y.low → (put_in d x).page ≡ y.page) (map (put_in d) ls))
    (λ x each low. all-over (λ y. (put_in d x).low ≡ y.low → (put_in d x).page ≡ y.page) (put_in d) ls
    (all-zip (λ y. x.low ≡ y.low → x.page ≡ y.page) (λ y. (put_in d y).low ≡ y.low)
    (λ y. (put_in d x).low ≡ (put_in d y).low → (put_in d x).page ≡ (put_in d y).page)
    (λ y own lower e. put_in-page d x ∙ own (sym low ∙ e ∙ lower) ∙ sym (put_in-page d y)) ls each k))
    ls h k)

pub put_leaves : (m : ℕ) (leaves : List Leaf) (k : Bytes) (d : Leaf) → AreLeaves m leaves → Replaces m leaves k d → AreLeaves m (map (put_in d) leaves)
put_leaves m leaves k d a h = record {
  pages = numbered-put d 1 leaves a.pages;
  first = begins-put d leaves a.first (same_lows m leaves k d a h);
  lows = lows-put d leaves a.lows (same_lows m leaves k d a h);
  each = all-over (IsBase m) (put_in d) leaves
      (all-map (IsBase m) (λ l. IsBase m (put_in d l)) (λ l b. put_in-either (IsBase m) d l (λ e. h.base) (λ ne. b)) leaves a.each);
  homes = all-over (AtHome (map (put_in d) leaves)) (put_in d) leaves
      (all-map (AtHome leaves) (λ l. AtHome (map (put_in d) leaves) (put_in d l))
      (λ l at. put_in-either (λ x. All (λ p. (home p.0 (map (put_in d) leaves)).page ≡ x.page) x.pairs) d l
      (λ e. all-map (λ p. home p.0 leaves ≡ home k leaves) (λ p. (home p.0 (map (put_in d) leaves)).page ≡ d.page)
      (λ p is. ap (λ (x : Leaf). x.page) (home-put_here m leaves k d a h p.0 is)) d.pairs h.homes)
      (λ ne. all-map (λ p. (home p.0 leaves).page ≡ l.page) (λ p. (home p.0 (map (put_in d) leaves)).page ≡ l.page)
      (λ p is. same_page m leaves k d a h p.0 ∙ is) l.pairs at))
      leaves a.homes);
}

-- ---- a new leaf after them

-- u takes the keys from its low on of the leaf at whose page that low is directed
pub record Splits (m : ℕ) (leaves : List Leaf) (u : Leaf) : Type 0 where
  pub page : u.page ≡ length leaves + 1
  pub base : IsBase m u
  pub above : Below (home u.low leaves).low u.low
  pub lower : All (λ p. Below p.0 u.low) (home u.low leaves).pairs
  pub from : All (λ p. UpTo u.low p.0) u.pairs
  pub homes : All (λ p. home p.0 leaves ≡ home u.low leaves) u.pairs

numbered-push : (n : ℕ) (ls : List Leaf) (u : Leaf) → AreNumbered n ls → u.page ≡ n + length ls → AreNumbered n (ls ++ u ∷ [])
numbered-push n [] u h e = (omega arith, tt)
numbered-push n (l ∷ ls) u h e = (h.0, numbered-push (n + 1) ls u h.1 (omega arith))

begins-push : (ls : List Leaf) (u : Leaf) → BeginsEmpty ls → BeginsEmpty (ls ++ u ∷ [])
begins-push [] u b = absurd b
begins-push (l ∷ ls) u b = b

module _ (m : ℕ) (leaves : List Leaf) (u : Leaf) (a : AreLeaves m leaves) (s : Splits m leaves u) where
  -- were u better for a key with another home, its home would have the low of the leaf that is split
  better_is_split : (q : Bytes) → UpTo u.low q → Below (home q leaves).low u.low → (home q leaves).page ≡ (home u.low leaves).page
  better_is_split q from below =
      let split_low : UpTo (home u.low leaves).low (home q leaves).low =
      home-all (λ l. UpTo l.low q → UpTo l.low (home q leaves).low) u.low leaves a.first (home-max q leaves)
      (upto-trans (home u.low leaves).low u.low q (below_upto (home u.low leaves).low u.low s.above) from) in
      let home_low : UpTo (home q leaves).low (home u.low leaves).low =
      home-all (λ l. UpTo l.low u.low → UpTo l.low (home u.low leaves).low) q leaves a.first (home-max u.low leaves)
      (below_upto (home q leaves).low u.low below) in
      home-all (λ y. (home q leaves).low ≡ y.low → (home q leaves).page ≡ y.page) u.low leaves a.first
      (home-all (λ x. All (λ y. x.low ≡ y.low → x.page ≡ y.page) leaves) q leaves a.first a.lows)
      (upto-antisymm _ _ home_low split_low)

  pub stays : (q : Bytes) → (home q leaves).page ≢ (home u.low leaves).page → pick q (home q leaves) u ≡ home q leaves
  stays q ne = elim (picks q (home q leaves) u) [ second from below e ↦ absurd (ne (better_is_split q from below)) | first f e ↦ e ]

  pub home-push_lower : (q : Bytes) → Below q u.low → home q (leaves ++ u ∷ []) ≡ home q leaves
  home-push_lower q b = home-push q leaves u a.first ∙ elim (picks q (home q leaves) u) [ second from below e ↦ absurd (not_both _ b from) | first f e ↦ e ]

  pub home-push_upper : (q : Bytes) → UpTo u.low q → home q leaves ≡ home u.low leaves → home q (leaves ++ u ∷ []) ≡ u
  home-push_upper q from same =
      home-push q leaves u a.first ∙ elim (picks q (home q leaves) u) [
        | second f below e ↦ e
        | first f e ↦ absurd (not_both _ (subst (λ (l : Leaf). Below l.low u.low) (sym same) s.above) (f from))
      ]

  pub home-push_elsewhere : (q : Bytes) → (home q leaves).page ≢ (home u.low leaves).page → home q (leaves ++ u ∷ []) ≡ home q leaves
  home-push_elsewhere q ne = home-push q leaves u a.first ∙ stays q ne

  pub new_low : All (λ l. l.low ≢ u.low) leaves
  new_low =
      all-map (λ l. UpTo l.low u.low → UpTo l.low (home u.low leaves).low) (λ l. l.low ≢ u.low)
      (λ l max e. not_both _ s.above (subst (λ (low : Bytes). UpTo low (home u.low leaves).low) e
      (max (subst (λ (low : Bytes). UpTo low u.low) (sym e) (upto-refl u.low)))))
      leaves (home-max u.low leaves)

  push_lows : HaveOwnLows (leaves ++ u ∷ [])
  push_lows =
      all-push (λ x. All (λ y. x.low ≡ y.low → x.page ≡ y.page) (leaves ++ u ∷ [])) leaves u
      (all-zip (λ x. All (λ y. x.low ≡ y.low → x.page ≡ y.page) leaves) (λ x. x.low ≢ u.low)
      (λ x. All (λ y. x.low ≡ y.low → x.page ≡ y.page) (leaves ++ u ∷ []))
      (λ x own new. all-push (λ y. x.low ≡ y.low → x.page ≡ y.page) leaves u own (λ e. absurd (new e))) leaves a.lows new_low)
      (all-push (λ y. u.low ≡ y.low → u.page ≡ y.page) leaves u
      (all-map (λ y. y.low ≢ u.low) (λ y. u.low ≡ y.low → u.page ≡ y.page) (λ y new e. absurd (new (sym e))) leaves new_low) (λ e. refl))

  -- the keys of an old leaf stay at home
  old_homes : (l : Leaf) → AtHome leaves l → (l.page ≡ (home u.low leaves).page → l ≡ home u.low leaves) → AtHome (leaves ++ u ∷ []) l
  old_homes l at is =
      elim (l.page == (home u.low leaves).page) as (λ b. (l.page == (home u.low leaves).page) ≡ b → AtHome (leaves ++ u ∷ []) l) [
        | true ↦ λ e. all-zip (λ p. (home p.0 leaves).page ≡ l.page) (λ p. Below p.0 u.low) (λ p. (home p.0 (leaves ++ u ∷ [])).page ≡ l.page)
            (λ p h b. ap (λ (x : Leaf). x.page) (home-push_lower p.0 b) ∙ h) l.pairs at
            (subst (λ (x : Leaf). All (λ p. Below p.0 u.low) x.pairs) (sym (is (eqb-true _ _ e))) s.lower)
        | false ↦ λ e. all-map (λ p. (home p.0 leaves).page ≡ l.page) (λ p. (home p.0 (leaves ++ u ∷ [])).page ≡ l.page)
            (λ p h. ap (λ (x : Leaf). x.page) (home-push_elsewhere p.0 (λ same. eqb-false _ _ e (sym h ∙ same))) ∙ h) l.pairs at
      ] refl

  pub push_leaves : AreLeaves m (leaves ++ u ∷ [])
  push_leaves = record {
    pages = numbered-push 1 leaves u a.pages (let e = s.page in omega arith);
    first = begins-push leaves u a.first;
    lows = push_lows;
    each = all-push (IsBase m) leaves u a.each s.base;
    homes = all-push (AtHome (leaves ++ u ∷ [])) leaves u
        (all-zip (AtHome leaves) (λ l. l.page ≡ (home u.low leaves).page → l ≡ home u.low leaves) (AtHome (leaves ++ u ∷ [])) old_homes leaves a.homes
        (is_home leaves u.low a.first a.pages))
        (all-zip (λ p. UpTo u.low p.0) (λ p. home p.0 leaves ≡ home u.low leaves) (λ p. (home p.0 (leaves ++ u ∷ [])).page ≡ u.page)
        (λ p from same. ap (λ (x : Leaf). x.page) (home-push_upper p.0 from same)) u.pairs s.from s.homes);
  }

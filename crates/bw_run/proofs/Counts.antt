-- One step on the count of a run, under its invariant: an owner more, and an owner less. Assumes `Logic`.
use Rattle.std.proofs.Common.{◌≡◌, ℕ, ◌+◌, ◌-◌, ◌%◌, ◌^◌, ◌<◌, ◌≤◌, Bool, true, false, List, [], ◌∷◌, refl, arith}
use mathlib.Core.List.{Mem, not-mem-nil}
use mathlib.Core.Logic.{dite}
use native.Mathlib.Decide.{ℕ_discrete, dec_le}
use seplogic.Ra.Ura.{Ura}
use base.Fraction.{full_share}
use base.Logic.{SProp, ent, sep, wand, ex, all, guard, emp, upd, upd_i, ex_i, ex∗, via, mono_r, comm∗, emp∗, never, never_e}
use base.Fml.{Share, Fml, fsep, fex, fall, fdead, flft, flent, finv, fnamed}
use prog.Atomic.{bump}
use types.Logic.{Logic, sem}
use types.Kit.{‵, raw, ◌⊛◌, some, ◌$◌, ◌∵◌, !, qed, by, move, use1, use2, split, fsplit3, fjoin3, fpick, fpack, pick, show, check, frame, each, assume, suffices, rewrite, done}
use types.RcWeak.{part, rest, Fine, takes, gives, whole}
use denote.RawPtr.{block_ptr}
use Rattle.core.specs.Sync.RawAtomic.{Shift, rests, enters, leaves, ends, word, always, asks, along, back, found, if_none}
use Rattle.core.specs.Thread.Scope.{refcount_state, refcount_if_alive, refcount_invariant, after_increment}

abbrev pub less1 : ℕ → ℕ
less1 n = (n + (2 ^ 64 - 1)) % 2 ^ 64

none_left : (n : ℕ) → n ≡ 1 → less1 n ≡ 0
none_left n one = omega arith

some_left : (n : ℕ) → 0 < n → n < 2 ^ 63 → less1 n ≡ n - 1
some_left n some' small = omega arith

module _ {M : Type 1} {𝓤 : Ura M} (𝓛 : Logic 𝓤) where
  open 𝓛 use {H, A}

  abbrev Pr : Type 2
  Pr = SProp 𝓤

  abbrev ◌⊢◌ : Pr → Pr → Type 1
  P ⊢ Q = ent 𝓤 P Q

  abbrev ◌∗◌ : Pr → Pr → Pr
  P ∗ Q = sep 𝓤 P Q

  abbrev ◌-∗◌ : Pr → Pr → Pr
  P -∗ Q = wand 𝓤 P Q

  abbrev ⟦◌⟧ : Fml → Pr
  ⟦ P ⟧ = sem 𝓛 P

  infix 26 ◌⊢◌
  infixr 35 ◌∗◌
  infixr 30 ◌-∗◌
  -- a step under an invariant, which stays open between its two halves
  entered : (I : Fml) (b o : ℕ) (f : ℕ → ℕ) (after : ℕ → Fml) (X : Pr) → ((j : ℕ) → ⟦ I ⟧ ∗ X ⊢ ex 𝓤 (found 𝓛 ((j, I) ∷ []) b o f always after))
      → A.inv I ∗ X ⊢ asks 𝓛 (block_ptr b o) f always after
  entered I b o f after X h = let K : List (ℕ × Fml) → Pr = λ l. ex 𝓤 (found 𝓛 l b o f always after) in
      qed 𝓛 (‵ (finv I) ∷ raw X ∷ []) ∵ use1 𝓛 (some (λ (j : ℕ). ‵ (fnamed j I))) (𝓛.invs.inv_named I) $ pick ! (λ j. let F : Pr = K ((j, I) ∷ []) in
      suffices ! _ (ex_i 𝓤 (λ (s : Shift). along 𝓛 s K []) (enters j I rests)) $
      suffices ! _ (upd_i 𝓤 (guard 𝓤 (¬ Mem j []) (A.named j I ∗ (⟦ I ⟧ -∗ upd 𝓤 F)))) $ check ! (λ m. not-mem-nil m) $ frame ! $ assume ! (‵ I) $
      suffices ! _ (upd_i 𝓤 F) $ by ! (h j))

  module _ (P : Fml) (b o a : ℕ) where
    abbrev I : Fml
    I = refcount_invariant P b o a

    abbrev St : ℕ → Fml
    St = refcount_state P b o a

    -- the invariant is shut, at the count n
    shut : (j n : ℕ) (Z : Fml) → ⟦ St n ⟧ ∗ ⟦ Z ⟧ ⊢ along 𝓛 (leaves rests) (if_none 𝓛 ⟦ Z ⟧) ((j, I) ∷ [])
    shut j n Z = qed 𝓛 (‵ (St n) ∷ ‵ Z ∷ []) ∵ suffices ! _ (upd_i 𝓤 (⟦ I ⟧ ∗ upd 𝓤 ⟦ Z ⟧)) $ fpack ! ℕ St n $ fpack ! Bool (refcount_if_alive P b o a) true $ frame ! $ suffices ! _ (upd_i 𝓤 ⟦ Z ⟧) $ done !

    -- what opens the invariant with a part of the token finds the count
    finds : (t : Fml) (G : Pr) → ((q : Pr) → ⟦ fdead (a ∷ []) ⟧ ∗ ⟦ t ⟧ ⊢ q) → ((n : ℕ) → ⟦ St n ⟧ ∗ ⟦ t ⟧ ⊢ G) → ⟦ I ⟧ ∗ ⟦ t ⟧ ⊢ G
    finds t G never_dead h = ex∗ 𝓤 (λ (y : Bool). ⟦ refcount_if_alive P b o a y ⟧) ⟦ t ⟧ (λ y. elim y as (λ y. ⟦ refcount_if_alive P b o a y ⟧ ∗ ⟦ t ⟧ ⊢ G) [
      | true ↦ ex∗ 𝓤 (λ (n : ℕ). ⟦ St n ⟧) ⟦ t ⟧ h
      | false ↦ never_dead G
    ])

    module _ (s : Share) where
      abbrev T : Fml
      T = flft (a ∷ []) s

      abbrev more_after : ℕ → Fml
      more_after = after_increment a s

      dead_token : (q : Pr) → ⟦ fdead (a ∷ []) ⟧ ∗ ⟦ T ⟧ ⊢ q
      dead_token q = via 𝓤 (never 𝓤) (via 𝓤 _ (comm∗ 𝓤 ⟦ fdead (a ∷ []) ⟧ ⟦ T ⟧) (𝓛.lfts.lft-dead (a ∷ []) s)) (never_e 𝓤 q)

      more : (j n : ℕ) (d : Dec (2 ^ 63 ≤ n + 1)) → ⟦ rest 63 a n ⟧ ∗ ⟦ flent (a ∷ []) P ⟧ ∗ ⟦ T ⟧ ⊢ back 𝓛 ((j, I) ∷ []) b o (λ _. dite d (λ _. n) (λ _. n + 1)) more_after n
      more j n (yes full) = let Z = more_after n in qed 𝓛 (‵ (rest 63 a n) ∷ ‵ (flent (a ∷ []) P) ∷ ‵ T ∷ []) ∵ assume ! (‵ (word b o n)) $ suffices ! _ (ex_i 𝓤 (λ (s : Shift). along 𝓛 s (if_none 𝓛 ⟦ Z ⟧) ((j, I) ∷ [])) (leaves rests)) $
          suffices ! _ (shut j n Z) $ fjoin3 ! $ frame ! $
          by ! (via 𝓤 (⟦ T ⟧ ∗ emp 𝓤) (via 𝓤 _ (emp∗ 𝓤 ⟦ T ⟧) (comm∗ 𝓤 (emp 𝓤) ⟦ T ⟧)) (mono_r 𝓤 ⟦ T ⟧ {Q = emp 𝓤} {Q' = all 𝓤 (λ (_ : n + 1 < 2 ^ 63). ⟦ part 63 a ⟧)} (record { apply = λ r h room. let no : ⊥ = omega arith in absurd no })))
      more j n (no room) = let Z = more_after n in qed 𝓛 (‵ (rest 63 a n) ∷ ‵ (flent (a ∷ []) P) ∷ ‵ T ∷ []) ∵ assume ! (‵ (word b o (n + 1))) $ suffices ! _ (ex_i 𝓤 (λ (s : Shift). along 𝓛 s (if_none 𝓛 ⟦ Z ⟧) ((j, I) ∷ [])) (leaves rests)) $
          suffices ! _ (shut j (n + 1) Z) $ move ! (1 ∷ []) $ use1 𝓛 (‵ (rest 63 a (n + 1)) ⊛ ‵ (part 63 a)) (takes 63 𝓛 a n (omega arith)) $ split ! $ move ! (2 ∷ 0 ∷ 3 ∷ []) $ fjoin3 ! $ frame ! $
          move ! (1 ∷ []) $ frame ! $ each ! (λ (_ : n + 1 < 2 ^ 63). ⟦ part 63 a ⟧) (λ _. done !)

      -- one owner more
      pub one_more : A.inv I ∗ ⟦ T ⟧ ⊢ asks 𝓛 (block_ptr b o) bump always more_after
      one_more = entered I b o bump more_after ⟦ T ⟧ (λ j. let L = (j, I) ∷ [] in finds T (ex 𝓤 (found 𝓛 L b o bump always more_after)) dead_token (λ n.
          qed 𝓛 (‵ (St n) ∷ ‵ T ∷ []) ∵ fsplit3 ! $ show ! (found 𝓛 L b o bump always more_after) n $ frame ! $ each ! (λ (_ : Unit {0}). back 𝓛 L b o bump more_after n) (λ _. by ! (more j n (dec_le (2 ^ 63) (n + 1))))))

    -- what the last owner has
    abbrev pub last_after : ℕ → Fml
    last_after n = fall (n ≡ 1) (λ _. fsep (word b o 0) (fsep (fdead (a ∷ [])) (flent (a ∷ []) P)))

    vacuous : (n : ℕ) → ¬ (n ≡ 1) → emp 𝓤 ⊢ ⟦ last_after n ⟧
    vacuous n many = record { apply = λ r h one. absurd (many one) }

    dead_part : (q : Pr) → ⟦ fdead (a ∷ []) ⟧ ∗ ⟦ part 63 a ⟧ ⊢ q
    dead_part q = qed 𝓛 (‵ (fdead (a ∷ [])) ∷ ‵ (part 63 a) ∷ []) ∵ move ! (1 ∷ []) $ fpick ! (λ e. fpick ! (λ c. by ! (via 𝓤 (never 𝓤) (𝓛.lfts.lft-dead (a ∷ []) e) (never_e 𝓤 q))))

    less : (j n : ℕ) → Dec (n ≡ 1) → 0 < n → n < 2 ^ 63 → ⟦ rest 63 a n ⟧ ∗ ⟦ flent (a ∷ []) P ⟧ ∗ ⟦ part 63 a ⟧ ⊢ back 𝓛 ((j, I) ∷ []) b o less1 last_after n
    less j n (yes one) some' small = let Z = last_after n in let Q = if_none 𝓛 ⟦ Z ⟧ in let L = (j, I) ∷ [] in let N : Pr = along 𝓛 (leaves rests) Q L in
        qed 𝓛 (‵ (rest 63 a n) ∷ ‵ (flent (a ∷ []) P) ∷ ‵ (part 63 a) ∷ []) ∵ assume ! (‵ (word b o (less1 n))) $ rewrite ! 0 (λ (j : ℕ). ‵ (word b o j)) (none_left n one) refl $ rewrite ! 1 (λ (j : ℕ). ‵ (rest 63 a j)) one refl $
        suffices ! _ (ex_i 𝓤 (λ (s : Shift). along 𝓛 s Q L) (ends a (leaves rests))) $ suffices ! _ (upd_i 𝓤 (A.lft (a ∷ []) full_share ∗ (A.dead (a ∷ []) -∗ N))) $
        move ! (1 ∷ 3 ∷ []) $ use2 𝓛 (‵ (flft (a ∷ []) full_share)) (whole 63 𝓛 a) $ frame ! $ assume ! (‵ (fdead (a ∷ []))) $
        use1 𝓛 (‵ (fdead (a ∷ [])) ⊛ ‵ (fdead (a ∷ []))) (𝓛.lfts.dead_dup (a ∷ [])) $ split ! $ suffices ! _ (upd_i 𝓤 (⟦ I ⟧ ∗ upd 𝓤 ⟦ Z ⟧)) $ fpack ! Bool (refcount_if_alive P b o a) false $ frame ! $ suffices ! _ (upd_i 𝓤 ⟦ Z ⟧) $
        each ! (λ (_ : n ≡ 1). ⟦ fsep (word b o 0) (fsep (fdead (a ∷ [])) (flent (a ∷ []) P)) ⟧) (λ _. move ! (1 ∷ []) $ done !)
    less j n (no many) some' small = let Z = last_after n in
        qed 𝓛 (‵ (rest 63 a n) ∷ ‵ (flent (a ∷ []) P) ∷ ‵ (part 63 a) ∷ []) ∵ assume ! (‵ (word b o (less1 n))) $ rewrite ! 0 (λ (j : ℕ). ‵ (word b o j)) (some_left n some' small) refl $
        suffices ! _ (ex_i 𝓤 (λ (s : Shift). along 𝓛 s (if_none 𝓛 ⟦ Z ⟧) ((j, I) ∷ [])) (leaves rests)) $ suffices ! _ (shut j (n - 1) Z) $
        move ! (1 ∷ 3 ∷ []) $ use2 𝓛 (‵ (rest 63 a (n - 1))) (gives 63 𝓛 a n (omega arith)) $ move ! (1 ∷ 0 ∷ 2 ∷ []) $ fjoin3 ! $ frame ! $
        by ! (vacuous n many)

    -- one owner less
    pub one_less : A.inv I ∗ ⟦ part 63 a ⟧ ⊢ asks 𝓛 (block_ptr b o) less1 always last_after
    one_less = entered I b o less1 last_after ⟦ part 63 a ⟧ (λ j. let L = (j, I) ∷ [] in finds (part 63 a) (ex 𝓤 (found 𝓛 L b o less1 always last_after)) dead_part (λ n.
        qed 𝓛 (‵ (St n) ∷ ‵ (part 63 a) ∷ []) ∵ fsplit3 ! $ show ! (found 𝓛 L b o less1 always last_after) n $ frame ! $ fpick ! (λ r. fpick ! (λ c.
        fpack ! (Fine 63 n r) (λ _. flft (a ∷ []) r) c $ fpack ! Share (λ u. fex (Fine 63 n u) (λ _. flft (a ∷ []) u)) r $
        each ! (λ (_ : Unit {0}). back 𝓛 L b o less1 last_after n) (λ _. by ! (less j n (ℕ_discrete n 1) c.0 c.1))))))

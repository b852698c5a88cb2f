-- `Global`'s two functions at a call: what each is handed, and what a caller has of it. Assumes `Logic`.
use Rattle.std.proofs.Common.{◌≡◌, ℕ, ◌+◌, ◌*◌, ◌/◌, ◌^◌, ◌<◌, Bool, true, false, List, [], ◌∷◌, ◌++◌, refl, ap, ◌∙◌, w64, arith}
use seplogic.Ra.Ura.{Ura}
use mir.Syntax.{Ty, given as dict_at}
use mir.Val.{Val, vunit, vint, vptr, of_list}
use base.Logic.{SProp, ent, sep, guard, emp, id⊢, fst∗, never}
use base.Fml.{Lft, Share, Fml, ftrue, fsep, froom, flft}
use prog.Capped.{capped_is}
use prog.Memory.{Memory, size, align, capped}
use prog.Routine.{Routine}
use types.Logic.{Logic, sem}
use types.Kit.{‵, raw, ◌⊛◌, some, later, ◌$◌, ◌∵◌, !, qed, move, keep, drop, use0, use1, use2, split, join, pick, fsplit, fjoin, fpick, feq_l, feq_i, flt_i, check, show, await, updating, now, done}
use types.Match.{live}
use contract.Monad.{Fun, fact, fact_i}
use denote.Builtin.{unit}
use denote.Memory.{hidden_shr}
use denote.RawPtr.{Ptr, block_ptr, null_ptr, ptr_val, room_for, in_a_block}
use denote.Steps.{only, nothing}
use denote.Triple.Spec.{triple_of}
use denote.Triple.Statement.{Contract}
use Rattle.core.proofs.alloc.Calls.{Al, Answer, answer_val, got, Answered}
use Rattle.core.specs.Allocator.{block_if_ok}
use Rattle.core.specs.declared.result.Result.TheVariants.{Ok, Err}
use Rattle.bw_run.specs.Token.{chunk}
use Rattle.std_heap.proofs.Global.TheLaws as laws
use Rattle.std_heap.specs.contracts.Global as heap
use Rattle.std_heap.specs.contracts.GlobalAllocator.allocate as AL
use Rattle.std_heap.specs.contracts.GlobalAllocator.deallocate as DE
use Rattle.std_heap.specs.contracts.GlobalAllocator.TheImpl.{ghosts}
use Rattle.bw_run.specs.Ownership.{block_type}

abbrev pub H' : Type 0
H' = heap.the_row.Denot

-- the allocator as the kit's lemmas have one
abbrev pub al : Al
al = record { row = heap.the_row; laws = laws.the_row_laws; g = ghosts; d = dict_at 0; drops = dict_at 0 }

-- the size that is asked for n bytes
abbrev pub asked : ℕ → ℕ
asked n = (n + 17) / 8 * 8

size_is : (n : ℕ) → size (block_type n) ≡ asked n
size_is n = omega arith

pub asked_fits : (n : ℕ) → n < 2 ^ 16 → asked n < 2 ^ 64
asked_fits n small = omega arith

pub laid : (n : ℕ) → n < 2 ^ 16 → (capped (size (block_type n)) ≡ asked n) × (capped (align (block_type n)) ≡ 8)
laid n small = let is = size_is n in (capped_is (size (block_type n)) (omega (arith, is, asked_fits n small)) ∙ is, refl)

module _ {M : Type 1} {𝓤 : Ura M} (𝓛 : Logic 𝓤) (at_mem : Memory → SProp 𝓤) (run : Routine → Fun 𝓤) (κ : Lft) (q : Share) (p : ℕ × ℕ) (a : H') (n : ℕ) (small : n < 2 ^ 16) where
  open 𝓛 use {H, A}

  abbrev τ : Ty
  τ = block_type n

  abbrev s : ℕ
  s = asked n

  abbrev pub seen : Fml
  seen = hidden_shr heap.the_row κ a p.0 p.1

  abbrev Laid : Type 0
  Laid = (capped (size τ) ≡ s) × (capped (align τ) ≡ 8)

  abbrev pub Takes : Contract 𝓤
  Takes = triple_of 𝓛 AL.signature (AL.spec 𝓛 at_mem run)

  abbrev pub at_takes : Takes.Ghost
  at_takes = (((κ, tt), (q, tt), tt, (record { ref_ptr = p; now = a }, (s, (8, tt))), (vptr p.0 p.1 ∷ [], (vint w64 s ∷ [], (vint w64 8 ∷ [], tt)))), τ)

  pub takes_goes : ent 𝓤 (sep 𝓤 (sem 𝓛 seen) (A.lft κ q)) (Takes.pre at_takes)
  takes_goes =
      qed 𝓛 (‵ seen ∷ ‵ (flft κ q) ∷ []) ∵ use0 𝓛 (raw (fact 𝓤 Laid)) (fact_i 𝓤 Laid (emp 𝓤) (laid n small)) $
      nothing ! $ flt_i ! 8 (2 ^ 64) (lib.Dec.lit< tt) $ feq_i ! (List Val) (vint w64 8 ∷ []) (vint w64 8 ∷ []) refl $ fjoin ! $ fjoin ! $
      flt_i ! s (2 ^ 64) (asked_fits n small) $ feq_i ! (List Val) (vint w64 s ∷ []) (vint w64 s ∷ []) refl $ fjoin ! $ fjoin ! $ move ! (2 ∷ []) $ feq_i ! (List Val) (vptr p.0 p.1 ∷ []) (vptr p.0 p.1 ∷ []) refl $ fjoin ! $ move ! (0 ∷ 1 ∷ []) $ fjoin ! $
      nothing ! $ move ! (3 ∷ 0 ∷ []) $ join ! $ join ! $ done !

  answered : (v : Val) (r : Answer.Denot) → ent 𝓤 (sep 𝓤 (sem 𝓛 (Answer.own_val r (v ∷ []))) (sem 𝓛 (block_if_ok chunk τ r))) (Answered al 𝓛 at_mem run a τ v)
  answered v (Ok r) =
      qed 𝓛 (‵ (Answer.own_val (Ok r) (v ∷ [])) ∷ ‵ (fsep (room_for τ r) (chunk τ r)) ∷ []) ∵
      fpick ! (λ us. fsplit ! $ feq_l ! (λ e. fpick ! (λ vss. fsplit ! $ feq_l ! (λ e'. fsplit ! $ feq_l ! (λ e''. drop ! $
      in_a_block ! r (λ z. fsep (room_for τ z) (chunk τ z)) (fst∗ 𝓤 (never 𝓤) (sem 𝓛 (chunk τ null_ptr))) (λ b o at.
      show ! (λ (c : Bool × (ℕ × ℕ)). guard 𝓤 (v ≡ answer_val c.0 c.1.0 c.1.1) (sem 𝓛 (got chunk τ c.0 c.1.0 c.1.1))) (true, (b, o)) $
      check ! (ap only e ∙ ap (λ (ws : List Val). live 0 (of_list ws)) (e' ∙ ap (λ (ws : List Val). ws ++ []) (e'' ∙ ap (λ (z : Ptr). ptr_val z ∷ []) at))) $ done !))))))
  answered v (Err n) =
      qed 𝓛 (‵ (Answer.own_val (Err n) (v ∷ [])) ∷ ‵ ftrue ∷ []) ∵
      fpick ! (λ us. fsplit ! $ feq_l ! (λ e. fpick ! (λ vss. fsplit ! $ feq_l ! (λ e'. fsplit ! $ fpick ! (λ none. fsplit ! $ feq_l ! (λ e''. keep ! [] $
      show ! (λ (c : Bool × (ℕ × ℕ)). guard 𝓤 (v ≡ answer_val c.0 c.1.0 c.1.1) (sem 𝓛 (got chunk τ c.0 c.1.0 c.1.1))) (false, (0, 0)) $
      check ! (ap only e ∙ ap (λ (ws : List Val). live 1 (of_list ws)) (e' ∙ ap (λ (ws : List Val). ws ++ []) e'')) $ done !))))))

  pub takes_gives : (v : Val) → ent 𝓤 (Takes.post at_takes v) (H.⇛ (sep 𝓤 (Answered al 𝓛 at_mem run a τ v) (A.lft κ q)))
  takes_gives v =
      qed 𝓛 (raw (Takes.post at_takes v) ∷ []) ∵ updating ! $
      use1 𝓛 (later (some (λ (r : Answer.Denot). ((‵ (flft κ q) ⊛ ‵ ftrue) ⊛ ‵ (Answer.own_val r (v ∷ [])))
      ⊛ some (λ (ws : Unit {0} × (Unit {0} × (Unit {0} × Unit {0}))). ‵ (fsep ftrue (fsep ftrue (fsep ftrue ftrue))) ⊛ ‵ (block_if_ok chunk τ r))))) (id⊢ 𝓤 _) $ await ! tt $ pick ! (λ r.
      split ! $ move ! (1 ∷ []) $ pick ! (λ ws. split ! $ drop ! $ move ! (1 ∷ []) $ split ! $ split ! $ keep ! (2 ∷ 3 ∷ 0 ∷ []) $
      use2 𝓛 (raw (Answered al 𝓛 at_mem run a τ v)) (answered v r) $ now ! $ done !))

  abbrev pub Gives : Contract 𝓤
  Gives = triple_of 𝓛 DE.signature (DE.spec 𝓛 at_mem run)

  module _ (b o : ℕ) where
    abbrev pub at_gives : Gives.Ghost
    at_gives = (((κ, tt), (q, tt), tt, (record { ref_ptr = p; now = a }, (block_ptr b o, (s, (8, tt)))), (vptr p.0 p.1 ∷ [], (vptr b o ∷ [], (vint w64 s ∷ [], (vint w64 8 ∷ [], tt))))), τ)

    pub gives_goes : ent 𝓤 (sep 𝓤 (H.room τ b o) (sep 𝓤 (sem 𝓛 (chunk τ (block_ptr b o))) (sep 𝓤 (sem 𝓛 seen) (A.lft κ q)))) (Gives.pre at_gives)
    gives_goes =
        qed 𝓛 (‵ (froom τ b o) ∷ ‵ (chunk τ (block_ptr b o)) ∷ ‵ seen ∷ ‵ (flft κ q) ∷ []) ∵ fjoin ! $
        use0 𝓛 (raw (fact 𝓤 Laid)) (fact_i 𝓤 Laid (emp 𝓤) (laid n small)) $ join ! $
        nothing ! $ flt_i ! 8 (2 ^ 64) (lib.Dec.lit< tt) $ feq_i ! (List Val) (vint w64 8 ∷ []) (vint w64 8 ∷ []) refl $ fjoin ! $ fjoin ! $
        flt_i ! s (2 ^ 64) (asked_fits n small) $ feq_i ! (List Val) (vint w64 s ∷ []) (vint w64 s ∷ []) refl $ fjoin ! $ fjoin ! $
        feq_i ! (List Val) (vptr b o ∷ []) (vptr b o ∷ []) refl $ fjoin ! $ move ! (2 ∷ []) $ feq_i ! (List Val) (vptr p.0 p.1 ∷ []) (vptr p.0 p.1 ∷ []) refl $ fjoin ! $ move ! (0 ∷ 1 ∷ []) $ fjoin ! $
        nothing ! $ move ! (3 ∷ 0 ∷ []) $ join ! $ join ! $ done !

    pub gives_gives : (v : Val) → ent 𝓤 (Gives.post at_gives v) (H.⇛ (guard 𝓤 (v ≡ vunit) (A.lft κ q)))
    gives_gives v =
        qed 𝓛 (raw (Gives.post at_gives v) ∷ []) ∵ updating ! $
        use1 𝓛 (later (some (λ (r : Unit {0}). ((‵ (flft κ q) ⊛ ‵ ftrue) ⊛ ‵ (unit.own_val r (v ∷ []))) ⊛ some (λ (ws : Unit {0} × (Unit {0} × (Unit {0} × (Unit {0} × Unit {0})))). ‵ (fsep ftrue (fsep ftrue (fsep ftrue (fsep ftrue ftrue)))) ⊛ ‵ ftrue)))) (id⊢ 𝓤 _) $ await ! tt $ pick ! (λ r.
        split ! $ split ! $ move ! (1 ∷ []) $ feq_l ! (λ e. split ! $ now ! $ check ! (ap only e) $ keep ! (0 ∷ []) $ done !))

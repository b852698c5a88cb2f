-- The word of an owner, by value and through a `&`, and a call that adds an owner. Assumes `Logic`.
use Rattle.std.proofs.Common.{◌≡◌, ℕ, List, [], ◌∷◌, refl}
use seplogic.Ra.Ura.{Ura}
use base.Fraction.{full_share}
use base.Logic.{SProp, ent, sep, emp, via}
use base.Fml.{Lft, Share, Fml, ftrue, fsep, fat, flft}
use mir.Syntax.{Sym, ty_ptr}
use mir.Val.{Val}
use prog.Atomic.{bump}
use prog.Model.{Model}
use prog.Wired.{Wired}
use types.Logic.{Logic}
use types.Kit.{Item, Goal, Seq, Step, Soaks, step, ‵, raw, mean, ◌$◌, ◌∵◌, !, qed, move, drop, use0, use1, fjoin, feq_i, rewrite, done}
use contract.Running.{Running, MachineTables, tables}
use contract.Monad.{fact, fact_i}
use denote.Copied.{Copied, plain_Copied, Struct-Copied}
use denote.Memory.{cell_at, part_at, hidden_shr}
use denote.Opens.{Shut}
use denote.RattleType.{RattleType, owns}
use denote.RawPtr.{Ptr, RawPtr, ptr_val, coded_ptr, ptr_own, rawptr_pure}
use denote.Signature.{types_at}
use denote.Laws.{Is, shows}
use denote.Steps.{nothing, looks, shuts, peeks}
use denote.Struct.Laws.{RawPtr-laws, copied as copied_struct}
use denote.Struct.Struct.{Shape, Struct}
use denote.Triple.Spec.{triple_of}
use mir.Raw.{raw as bare}
use Rattle.core.specs.Sync.RawAtomic.{asks, always}
use Rattle.core.specs.declared.atomic.Ordering.TheVariants.{SeqCst}
use Rattle.core.specs.contracts.atomic.Ordering as Order
use Rattle.core.proofs.raw_atomic.Ordered.{order_made}
use Rattle.core.specs.declared.raw_atomic.Outcome as Outcome
use Rattle.core.specs.contracts.raw_atomic.saturating_increment as bumping
use Rattle.core.proofs.raw_atomic.saturating_increment.Symbol as bumping_is
use Rattle.core.proofs.raw_atomic.saturating_increment.Met as bumping-thm
use Rattle.std.proofs.raw_atomic.Calls.{marker, marker_laws, dict, picked, seq_cst, found, called, answers}
use Rattle.std_heap.proofs.Global.TheLaws as laws
use Rattle.std_heap.specs.contracts.Global as heap
use Rattle.bw_run.proofs.Values.{word, word_ty, word_told, word_made as made}
use Rattle.bw_run.specs.contracts.run.Run as C

abbrev pub name : Sym
name = C.the_type.name

-- the data fields of an owner
abbrev pub two_fields : Shape
two_fields = record { name = name; args = []; types = []; fields = RawPtr ∷ heap.the_row ∷ [] }

abbrev pub Word : RattleType
Word = Struct two_fields

module _ (c : Ptr) (h : heap.the_row.Denot) {M : Type 1} {𝓤 : Ura M} {𝓛 : Logic 𝓤} {K : Type 0} {Γ : List (Item 𝓤)} {G : Goal 𝓤 𝓛.H} where
  pub word_had : K → (vs : List Val) → (vs ≡ word c ∷ [] → Seq K 𝓛 Γ G) → Seq K 𝓛 (‵ (Word.own_val (c, (h, tt)) vs) ∷ Γ) G
  word_had t vs k = peeks t Word (Is Word) (shows 𝓛 Word) (c, (h, tt)) vs (λ is. drop t $ k (word_told c h vs is))

  pub word_made : K → Step K 𝓛 (‵ (Word.own_val (c, (h, tt)) (word c ∷ [])) ∷ Γ) G Γ G
  word_made t = step (λ s. use0 𝓛 (‵ (Word.own_val (c, (h, tt)) (word c ∷ []))) (made 𝓛 c h) $ s)

module _ (c : Ptr) (h : heap.the_row.Denot) {M : Type 1} {𝓤 : Ura M} {𝓛 : Logic 𝓤} {K : Type 0} {Γ : List (Item 𝓤)} {G : Goal 𝓤 𝓛.H} where
  -- [the word; what shuts]
  pub reads : K → Soaks G → {κ : Lft} {q : Share} (b o : ℕ) → ((q' : Share) → Seq K 𝓛 (‵ (fat q' (word_ty name) b o (word c)) ∷ Shut 𝓛 κ q (part_at Word q' (c, (h, tt)) b o) ∷ Γ) G)
      → Seq K 𝓛 (‵ (hidden_shr Word κ (c, (h, tt)) b o) ∷ ‵ (flft κ q) ∷ Γ) G
  reads t z b o k =
      let raw_copied : Copied 𝓛 RawPtr = plain_Copied 𝓛 Ptr coded_ptr (ty_ptr ∷ []) ptr_own rawptr_pure ptr_val RawPtr-laws.tells in
      let copied : Copied 𝓛 Word = Struct-Copied 𝓛 two_fields (refl, (refl, tt)) (raw_copied, (copied_struct heap.the_type laws.the_copy 𝓛, tt)) in
      looks t z Word copied.opens (c, (h, tt)) b o (λ q' vs. move t (3 ∷ []) $ drop t $ move t (1 ∷ []) $ word_had c h t vs (λ e.
      rewrite t 0 (λ (us : List Val). ‵ (cell_at q' (word_ty name ∷ []) us b o)) e refl $ use1 𝓛 (‵ (fat q' (word_ty name) b o (word c))) (𝓛.laws.raw_at q' (word_ty name) b o (word c)) $ k q'))

  pub read : K → Soaks G → {κ : Lft} {q : Share} (b o : ℕ) (q' : Share)
      → Step K 𝓛 (‵ (flft κ q) ∷ Γ) G (‵ (fat q' (word_ty name) b o (word c)) ∷ Shut 𝓛 κ q (part_at Word q' (c, (h, tt)) b o) ∷ Γ) G
  read t z b o q' = step (λ s.
      use1 𝓛 (‵ (fat q' (bare (word_ty name)) b o (word c))) (𝓛.laws.at_raw q' (word_ty name) b o (word c)) $ word_made c h t $ move t (1 ∷ 0 ∷ []) $ shuts t z Word q' (c, (h, tt)) (word c ∷ []) b o $ s)

module _ {M : Type 1} {𝓤 : Ura M} (𝓛 : Logic 𝓤) (𝓜 : Model 𝓤 𝓛.H) (𝓡 : Running 𝓤 𝓛.H 𝓜) where
  abbrev 𝓣 : MachineTables 𝓤 𝓛.H 𝓜
  𝓣 = tables 𝓤 𝓛.H 𝓜 𝓡 𝓡.env

  pub bumps : Wired 𝓡.env bumping_is.code → (p : Ptr) → (after : ℕ → Fml)
      → ent 𝓤 (asks 𝓛 p bump always after) (𝓣.C (bumping_is.name picked) (ptr_val p ∷ seq_cst ∷ []) (λ v. mean 𝓛 (found after v)))
  bumps w p after = let g : Outcome.Ghosts marker.Denot = record { after = after } in let X : SProp 𝓤 = asks 𝓛 p bump always after in let F : SProp 𝓤 = fact 𝓤 (SeqCst ≡ SeqCst) in
      let c = triple_of 𝓛 (bumping.ended marker g dict).signature (bumping.spec marker g dict 𝓛 𝓜.mem 𝓡.returns) in
      let y : c.Ghost = ((([], tt), (full_share, tt), tt, (p, (SeqCst, tt)), (ptr_val p ∷ [], (seq_cst ∷ [], tt))), tt) in
      let args : Fml = owns (types_at (bumping.ended marker g dict).signature.params ([], tt)) y.0.3 y.0.4 in
      via 𝓤 (sep 𝓤 F X) (qed 𝓛 (raw X ∷ []) ∵ use0 𝓛 (raw F) (fact_i 𝓤 (SeqCst ≡ SeqCst) (emp 𝓤) refl) $ done !)
      (called 𝓛 𝓜 𝓡 (bumping_is.name picked) (ptr_val p ∷ seq_cst ∷ []) args
      (qed 𝓛 [] ∵ nothing ! $ use0 𝓛 (‵ (Order.the_row.own_val SeqCst (seq_cst ∷ []))) (order_made 𝓛) $ fjoin ! $ feq_i ! (List Val) (ptr_val p ∷ []) (ptr_val p ∷ []) refl $ done !) (sep 𝓤 F X) (c.post y) (λ v. mean 𝓛 (found after v))
      (bumping-thm.met 𝓤 𝓛 𝓜 𝓡 w marker marker_laws g dict record {} y) (answers 𝓛 𝓜 𝓡 (Unit {0} × (Unit {0} × Unit {0})) (λ _. fsep ftrue (fsep ftrue ftrue)) after))

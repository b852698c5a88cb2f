-- The length of a run is opened, from what shows a `&` to it, and shut. Assumes `Logic`.
use Rattle.std.proofs.Common.{ℕ, ◌^◌, ◌<◌, List, [], ◌∷◌, refl, w16}
use seplogic.Ra.Ura.{Ura}
use mir.Syntax.{ty_int}
use mir.Val.{Val, vint}
use base.Logic.{ent, sep}
use base.Fml.{Lft, Share, Fml, ftrue, fat, flft}
use types.Logic.{Logic, sem}
use types.Kit.{Goal, Soaks, Step, step, Seq, Item, ‵, ◌⊛◌, ◌$◌, ◌∵◌, !, qed, move, drop, use1, split, rewrite, fsplit, fjoin, feq_l, feq_i, flt_l, flt_i, done}
use denote.Builtin.{u16}
use denote.Copied.{uint_Copied}
use denote.Memory.{cell_at, part_at, hidden_shr}
use denote.Opens.{Shut, shr_dup}
use denote.Plain.{uint_row_laws}
use denote.Steps.{looks, shuts, nothing}

pub read_again : {M : Type 1} {𝓤 : Ura M} (𝓛 : Logic 𝓤) (n b o : ℕ) (κ : Lft) → ent 𝓤 (sem 𝓛 (hidden_shr u16 κ n b o)) (sep 𝓤 (sem 𝓛 (hidden_shr u16 κ n b o)) (sem 𝓛 (hidden_shr u16 κ n b o)))
read_again 𝓛 n b o κ = qed 𝓛 (‵ (hidden_shr u16 κ n b o) ∷ []) ∵ shr_dup ! u16 (uint_row_laws w16) n b o κ $ done !

module _ {M : Type 1} {𝓤 : Ura M} {𝓛 : Logic 𝓤} {K : Type 0} {Γ : List (Item 𝓤)} {G : Goal 𝓤 𝓛.H} where
  -- [nothing; the length; the way back; S]
  pub length_in : K → Soaks G → {κ : Lft} {q : Share} {S : Fml} (n b at : ℕ) → ent 𝓤 (sem 𝓛 S) (sep 𝓤 (sem 𝓛 (hidden_shr u16 κ n b at)) (sem 𝓛 S))
      → ((q' : Share) → n < 2 ^ 16 → Seq K 𝓛 (‵ ftrue ∷ ‵ (fat q' (ty_int w16) b at (vint w16 n)) ∷ Shut 𝓛 κ q (part_at u16 q' n b at) ∷ ‵ S ∷ Γ) G) → Seq K 𝓛 (‵ S ∷ ‵ (flft κ q) ∷ Γ) G
  length_in t z {κ} {q} {S} n b at shown k =
      use1 𝓛 (‵ (hidden_shr u16 κ n b at) ⊛ ‵ S) shown $ split t $ move t (0 ∷ 2 ∷ []) $ looks t z u16 (uint_Copied 𝓛 w16).opens n b at (λ q' vs. move t (1 ∷ []) $ fsplit t $ feq_l t (λ e. flt_l t (λ fn.
      rewrite t 0 (λ (us : List Val). ‵ (cell_at q' u16.mir us b at)) e refl $ move t (2 ∷ []) $ drop t $ nothing t $ k q' fn)))

  pub length_out : K → Soaks G → {κ : Lft} {q q' : Share} (n b at : ℕ) → n < 2 ^ 16
      → Step K 𝓛 (‵ (flft κ q) ∷ Γ) G (‵ ftrue ∷ ‵ (fat q' (ty_int w16) b at (vint w16 n)) ∷ Shut 𝓛 κ q (part_at u16 q' n b at) ∷ Γ) G
  length_out t z {q' = q'} n b at fn = step (λ s.
      drop t $ flt_i t n (2 ^ 16) fn $ feq_i t (List Val) (vint w16 n ∷ []) (vint w16 n ∷ []) refl $ fjoin t $ move t (1 ∷ 0 ∷ []) $ shuts t z u16 q' n (vint w16 n ∷ []) b at $ s)

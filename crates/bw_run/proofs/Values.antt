-- The machine values of the crate's structs: what is owned says them, and is made of nothing.
-- Assumes `Logic`.
use Rattle.std.proofs.Common.{◌≡◌, ℕ, ◌^◌, ◌<◌, List, [], ◌∷◌, ◌++◌, refl, ◌∙◌, w64}
use seplogic.Ra.Ura.{Ura}
use mir.Syntax.{Ty, Sym, ty_int, ty_ptr, ty_struct, tcons, tnil}
use mir.Val.{Val, vint, vunit, vstruct, vcons, vnil, of_list}
use base.Logic.{ent, emp}
use base.Fml.{Fml}
use types.Logic.{Logic, sem}
use denote.RattleType.{RattleType}
use denote.Builtin.{usize}
use denote.RawPtr.{Ptr, RawPtr, ptr_val}
use denote.Shadow.{shadow, makes_shadow}
use denote.Struct.Struct.{Struct, as_fields}
use Rattle.std_alloc.proofs.RcSteps.{Good, Ptr-Good}
use Rattle.std_heap.proofs.Global.TheLaws as laws
use Rattle.std_heap.proofs.Handle.{heap_val, heap_Tells}
use Rattle.std_heap.specs.contracts.Global as heap

-- a struct only by its fields: what it owns does not read its name
abbrev pub plainly : List RattleType → RattleType
plainly Rs = Struct (record { name = []; args = []; types = []; fields = Rs })

-- a pointer and a `Global`, which has one value
abbrev pub word : Ptr → Val
word p = vstruct (vcons (ptr_val p) (vcons heap_val vnil))

abbrev pub word_own : Ptr → heap.the_row.Denot → List Val → Fml
word_own p h = (plainly (RawPtr ∷ heap.the_row ∷ [])).own_val (p, (h, tt))

pub word_told : (p : Ptr) (h : heap.the_row.Denot) (vs : List Val) → shadow (word_own p h vs) → vs ≡ word p ∷ []
word_told p h vs s = s.1.0 ∙ (λ i. vstruct (of_list (s.1.1.0 i ++ (heap_Tells h s.0.1.0 s.1.1.1.0 i ++ []))) ∷ [])

pub heap_made : {M : Type 1} {𝓤 : Ura M} (𝓛 : Logic 𝓤) (h : heap.the_row.Denot) → ent 𝓤 (emp 𝓤) (sem 𝓛 (heap.the_row.own_val h (heap_val ∷ [])))
heap_made 𝓛 h = makes_shadow 𝓛 (heap.the_row.own_val h (heap_val ∷ [])) (λ _. (tt, ((λ _. (tt, (tt, tt))), tt))) ((vstruct (vcons vunit vnil) ∷ [], tt), (refl, (((vunit ∷ [], tt), (refl, (refl, tt))), tt)))

pub word_made : {M : Type 1} {𝓤 : Ura M} (𝓛 : Logic 𝓤) (p : Ptr) (h : heap.the_row.Denot) → ent 𝓤 (emp 𝓤) (sem 𝓛 (word_own p h (word p ∷ [])))
word_made 𝓛 p h = makes_shadow 𝓛 (word_own p h (word p ∷ [])) (λ _. (tt, (tt, ((λ _. (tt, ((λ _. (tt, (tt, tt))), tt))), tt)))) ((ptr_val p ∷ [], (heap_val ∷ [], tt)), (refl, (refl, (((vstruct (vcons vunit vnil) ∷ [], tt), (refl, (((vunit ∷ [], tt), (refl, (refl, tt))), tt))), tt))))

abbrev pub word_ty : Sym → Ty
word_ty ν = ty_struct ν (tcons ty_ptr (tcons laws.mir tnil))

pub word-Good : (ν : Sym) (p : Ptr) → Good (word_ty ν) (word p)
word-Good ν p = as_fields (ty_ptr ∷ laws.mir ∷ []) (ptr_val p ∷ heap_val ∷ []) (Ptr-Good p, ((tt, ((tt, tt), tt)), tt))

-- a pointer and a length
abbrev pub two_val : Ptr → ℕ → Val
two_val p n = vstruct (vcons (ptr_val p) (vcons (vint w64 n) vnil))

abbrev pub two_own : Ptr → ℕ → List Val → Fml
two_own p n = (plainly (RawPtr ∷ usize ∷ [])).own_val (p, (n, tt))

pub two_told : (p : Ptr) (n : ℕ) (vs : List Val) → shadow (two_own p n vs) → (vs ≡ two_val p n ∷ []) × (n < 2 ^ 64)
two_told p n vs s = (s.1.0 ∙ (λ i. vstruct (of_list (s.1.1.0 i ++ (s.1.1.1.0.0 i ++ []))) ∷ []), s.1.1.1.0.1)

pub two_made : {M : Type 1} {𝓤 : Ura M} (𝓛 : Logic 𝓤) (p : Ptr) (n : ℕ) → n < 2 ^ 64 → ent 𝓤 (emp 𝓤) (sem 𝓛 (two_own p n (two_val p n ∷ [])))
two_made 𝓛 p n f = makes_shadow 𝓛 (two_own p n (two_val p n ∷ [])) (λ _. (tt, (tt, ((tt, tt), tt)))) ((ptr_val p ∷ [], (vint w64 n ∷ [], tt)), (refl, (refl, ((refl, f), tt))))

abbrev pub two_ty : Sym → Ty
two_ty ν = ty_struct ν (tcons ty_ptr (tcons (ty_int w64) tnil))

pub two-Good : (ν : Sym) (p : Ptr) (n : ℕ) → n < 2 ^ 64 → Good (two_ty ν) (two_val p n)
two-Good ν p n f = as_fields (ty_ptr ∷ ty_int w64 ∷ []) (ptr_val p ∷ vint w64 n ∷ []) (Ptr-Good p, ((tt, record { fits = f }), tt))

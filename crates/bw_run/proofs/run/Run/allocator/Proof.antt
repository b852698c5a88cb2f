-- `allocator` reads the handle through the `&`. Assumes `Logic`.
use Rattle.std.proofs.Common.{ℕ, [], ◌∷◌, refl}
use mir.Syntax.{named}
use mir.Val.{Val, vptr}
use base.Logic.{SProp, id⊢}
use base.Fml.{Lft, Share, ftrue, fhide, flft}
use prog.Wp.{Env}
use types.Kit.{‵, ◌⊛◌, ◌$◌, ◌∵◌, !, qed, move, keep, use0, use1, split, join, fsplit, fjoin, suffices, done}
use types.Run.{stop, fld, load, of_opd, returns, enter}
use types.ByLocal.{alloc_all, pass_all, free_all, look_at, through, sets, env}
use types.Part.{look_in, sub, whole}
use contract.Running.{tables}
use denote.Builtin.{RefOf}
use denote.Exit.{yes}
use denote.Memory.{hidden_shr}
use denote.RattleType.{owns}
use denote.RawPtr.{Ptr}
use denote.Ref.{shr_vals, shr_Tells}
use denote.Signature.{types_at, plain}
use denote.Steps.{nothing}
use denote.Triple.Walked.{Stays, stay_dropped, walk_of, ends_at, Goes-dropped}
use Rattle.std.proofs.raw_atomic.Walks.{proved}
use Rattle.std_heap.proofs.Handle.{heap_val}
use Rattle.std_heap.specs.contracts.Global as heap
use Rattle.bw_run.specs.Ownership.{run_shares}
use Rattle.bw_run.specs.contracts.run.Run.{the_row as R}
use Rattle.bw_run.specs.contracts.run.Run.allocator as F
use Rattle.bw_run.proofs.Handles.{Word, reads, read}
use Rattle.bw_run.proofs.Values.{heap_made}
use Rattle.bw_run.proofs.run.Run.allocator.Statement.{statement}
use Rattle.bw_run.proofs.run.Run.allocator.Code as code

pub allocator_spec : {M : Type 1} → statement M
allocator_spec 𝓤 𝓛 𝓜 𝓡 wired =
    let H = 𝓛.H in let 𝓣 = tables 𝓤 H 𝓜 𝓡 𝓡.env in let c = F.clauses 𝓛 𝓜.mem 𝓡.returns in let fn = code.function in
    let self = RefOf (0 ∷ []) tt (plain (λ _. R)) (λ _. tt) in let hs : Stays F.ended.signature.params F.ended.kept = (stay_dropped self yes, tt) in
    proved 𝓛 F.ended hs c 𝓜 𝓡 (Goes-dropped 𝓛 1 self yes (λ κs x f. refl), tt) F.Key.name fn (code.unfolded 𝓤 H 𝓜 𝓡 wired)
    (λ κs. (shr_vals, tt)) (λ κs. (shr_Tells (named 0) κs.0 R, tt)) (λ κs qs bounds a gh are.
    let b : ℕ = a.0.ref_ptr.0 in let o : ℕ = a.0.ref_ptr.1 in let κ : Lft = κs.0 in let q : Share = qs.0 in let p : Ptr = a.0.now.ptr in let h = a.0.now.alloc in
    let y : (walk_of 𝓛 F.ended hs c).Ghost = ((κs, qs, bounds, a, (vptr b o ∷ [], tt)), gh) in let Post : Val → SProp 𝓤 = (walk_of 𝓛 F.ended hs c).post y in
    qed 𝓛 (((‵ (flft κ q) ⊛ ‵ ftrue) ⊛ ‵ (owns (types_at F.ended.signature.params κs) a y.0.4)) ∷ ‵ ftrue ∷ []) ∵
    split ! $ split ! $ move ! (2 ∷ []) $ fsplit ! $ fsplit ! $ keep ! (1 ∷ 3 ∷ []) $
    use1 𝓛 (‵ (hidden_shr Word κ (p, (h, tt)) b o) ⊛ ‵ (fhide (run_shares p a.0.now.bytes κ))) (id⊢ 𝓤 _) $ split ! $ keep ! (0 ∷ 2 ∷ []) $
    enter ! 𝓣.C 𝓣.Λ fn (vptr b o ∷ []) Post $ alloc_all ! (λ l. pass_all ! refl ((tt, tt), tt) $ let En : Env 𝓤 H = env fn.locals l in
    reads p h ! tt b o (λ q'. sets ! (of_opd ! (load ! (through ! refl (fld ! refl (stop !))) (look_in ! 0 (sub ! 1 refl (whole !))))) refl (tt, ((tt, tt), tt)) $ read p h ! tt b o q' $
    use0 𝓛 (‵ (heap.the_row.own_val h (heap_val ∷ []))) (heap_made 𝓛 h) $ returns ! (look_at ! 0 refl) $ free_all ! refl $ keep ! (0 ∷ 1 ∷ []) $
    suffices ! _ (ends_at 𝓛 F.ended hs c y heap_val h (tt, tt) (tt, tt)) $
    move ! (1 ∷ []) $ nothing ! $ move ! (1 ∷ 0 ∷ []) $ join ! $ move ! (1 ∷ []) $ nothing ! $ nothing ! $ fjoin ! $ join ! $ move ! (1 ∷ 0 ∷ []) $ join ! $ nothing ! $ move ! (1 ∷ 0 ∷ []) $ done !)))

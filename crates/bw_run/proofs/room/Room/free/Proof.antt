-- `free` hands the block back. Assumes `Logic`.
use Rattle.std.proofs.Common.{◌≡◌, ℕ, ◌^◌, ◌<◌, List, [], ◌∷◌, T, refl, sym, subst, lit<, arith}
use mir.Syntax.{named, ty_unit}
use mir.Val.{Val, vunit, vptr, has_ty, WT}
use base.Logic.{SProp, fst∗, never}
use base.Fml.{Lft, Share, ftrue, flft}
use prog.Wp.{Env, WpFn}
use types.Logic.{sem}
use types.Kit.{‵, raw, ◌⊛◌, given, later, prop, at_ret, ◌$◌, ◌∵◌, !, qed, move, keep, drop, use1, split, join, group, regoal, fsplit, fjoin, feq_i, learn, await, suffices, done}
use types.Run.{stop, fld, lit, unit_lit, of_opd, bin, no_more, and_then, first, blocks, exec, returns, enter}
use types.ByLocal.{alloc_all, pass_all, free_all, look_at, get, get_in, sets, lands_last, env}
use types.Part.{sub, whole}
use contract.Monad.{fact}
use contract.Running.{tables}
use denote.Builtin.{RefOf}
use denote.Exit.{yes}
use denote.RattleType.{owns}
use denote.RawPtr.{Ptr, block_ptr, null_ptr, in_a_block}
use denote.Ref.{shr_vals, shr_Tells}
use denote.Signature.{types_at, plain}
use denote.Steps.{nothing, heard}
use denote.Triple.Call.{calls_at_last}
use denote.Triple.Walked.{Stays, stay_dropped, walk_of, ends_at, Goes-dropped}
use Rattle.core.proofs.atomic.Steps.{fm}
use Rattle.bw_run.specs.Token.{chunk}
use Rattle.std.proofs.raw_atomic.Walks.{proved}
use Rattle.std_alloc.proofs.VecSteps.Shapes.{after}
use Rattle.std_heap.proofs.GlobalAllocator.deallocate.Met as callee
use Rattle.std_heap.specs.contracts.Global as heap
use Rattle.bw_run.specs.Ownership.{block_type, room_owns}
use Rattle.bw_run.specs.contracts.room.Room as room
use Rattle.bw_run.specs.contracts.room.Room.free as F
use Rattle.bw_run.proofs.Heap.{asked, asked_fits, Gives, at_gives, gives_goes, gives_gives}
use Rattle.bw_run.proofs.Values.{two_val, two_told, two-Good}
use Rattle.bw_run.proofs.room.Room.free.Statement.{statement}
use Rattle.bw_run.proofs.room.Room.free.Code as code

pub free_spec : {M : Type 1} → statement M
free_spec 𝓤 𝓛 𝓜 𝓡 wired =
    let H = 𝓛.H in let 𝓣 = tables 𝓤 H 𝓜 𝓡 𝓡.env in let c = F.clauses 𝓛 𝓜.mem 𝓡.returns in let fn = code.function in
    let self = plain (λ _. room.the_row) in let handle = RefOf (0 ∷ []) tt (plain (λ _. heap.the_row)) (λ _. tt) in let hs : Stays F.ended.signature.params F.ended.kept = (stay_dropped self F.ended.kept.0, (stay_dropped handle yes, tt)) in
    proved 𝓛 F.ended hs c 𝓜 𝓡 (Goes-dropped 𝓛 1 self F.ended.kept.0 (λ κs x f. refl), (Goes-dropped 𝓛 1 handle yes (λ κs x f. refl), tt)) F.Key.name fn (code.unfolded 𝓤 H 𝓜 𝓡 wired)
    (λ κs. ((λ x. two_val x.ptr x.len ∷ []), (shr_vals, tt))) (λ κs. ((λ x vs so. (two_told x.ptr x.len vs so.0).0), (shr_Tells (named 0) κs.0 heap.the_row, tt))) (λ κs qs bounds a gh are.
    let p : Ptr = a.0.ptr in let n : ℕ = a.0.len in let place : ℕ × ℕ = a.1.0.ref_ptr in let h = a.1.0.now in let κ : Lft = κs.0 in let q : Share = qs.0 in
    let y : (walk_of 𝓛 F.ended hs c).Ghost = ((κs, qs, bounds, a, (two_val p n ∷ [], (vptr place.0 place.1 ∷ [], tt))), gh) in let Post : Val → SProp 𝓤 = (walk_of 𝓛 F.ended hs c).post y in
    qed 𝓛 (((‵ (flft κ q) ⊛ ‵ ftrue) ⊛ ‵ (owns (types_at F.ended.signature.params κs) a y.0.4)) ∷ raw (fact 𝓤 (n < 2 ^ 16)) ∷ []) ∵
    move ! (1 ∷ []) $ heard ! (n < 2 ^ 16) (λ small. split ! $ split ! $ move ! (2 ∷ []) $ fsplit ! $ fsplit ! $ drop ! $
    in_a_block ! p (λ r. room_owns r n) (fst∗ 𝓤 (never 𝓤) (sem 𝓛 (chunk (block_type n) null_ptr))) (λ b o e. let fits : n < 2 ^ 64 = omega arith in let s : ℕ = asked n in let wide : s < 2 ^ 64 = asked_fits n small in
    let z = at_gives 𝓛 𝓜.mem 𝓡.returns κ q place h n small b o in let C = Gives 𝓛 𝓜.mem 𝓡.returns κ q place h n small in
    regoal ! (λ (r : Ptr). prop (WpFn 𝓤 H 𝓣.C 𝓣.Λ fn (two_val r n ∷ vptr place.0 place.1 ∷ []) Post)) e refl $
    fsplit ! $ move ! (2 ∷ []) $ fsplit ! $ fsplit ! $ keep ! (3 ∷ 4 ∷ 1 ∷ 5 ∷ []) $
    -- [the room; what frees; the handle; the token]
    enter ! 𝓣.C 𝓣.Λ fn (two_val (block_ptr b o) n ∷ vptr place.0 place.1 ∷ []) Post $ alloc_all ! (λ l. pass_all ! refl (two-Good room.the_type.name (block_ptr b o) n fits, ((tt, tt), tt)) $ let En : Env 𝓤 H = env fn.locals l in
    sets ! (of_opd ! (get_in ! (fld ! refl (stop !)) (sub ! 0 refl (whole !)))) refl (tt, tt) $ sets ! (of_opd ! (get_in ! (fld ! refl (stop !)) (sub ! 1 refl (whole !)))) refl (tt, record { fits = fits }) $
    first ! $ blocks ! $ sets ! (of_opd ! (get ! refl)) refl (tt, tt) $
    sets ! (bin ! (get ! refl) (lit ! tt) (record { fits = omega arith })) refl (tt, record { fits = omega arith }) $
    sets ! (bin ! (get ! refl) (lit ! tt) (lit< tt)) refl (tt, record { fits = omega arith }) $
    sets ! (bin ! (get ! refl) (lit ! tt) (record { fits = wide })) refl (tt, record { fits = wide }) $
    group ! 4 $ use1 𝓛 (raw (C.pre z)) (gives_goes 𝓛 𝓜.mem 𝓡.returns κ q place h n small b o) $
    calls_at_last ! (fm 𝓛 𝓜 𝓡) C (callee.met 𝓤 𝓛 𝓜 𝓡 (code.calls-std_heap::GlobalAllocator::deallocate 𝓡.env wired)) z (and_then ! (get ! refl) (and_then ! (get ! refl) (and_then ! (get ! refl) (and_then ! (lit ! tt) (no_more !))))) (λ v.
    use1 𝓛 (later (given (v ≡ vunit) (‵ (flft κ q)))) (gives_gives 𝓛 𝓜.mem 𝓡.returns κ q place h n small b o v) $ await ! tt $ learn ! (λ is_unit.
    lands_last ! refl (subst (λ (u : Val). T (has_ty ty_unit u) × WT u) (sym is_unit) (tt, tt)) $ exec ! 𝓣.C 𝓣.Λ En (after 3 fn.body) (at_ret En Post) $
    sets ! (of_opd ! (unit_lit !)) refl (tt, tt) $ returns ! (look_at ! 0 refl) $ free_all ! refl $ keep ! (0 ∷ []) $
    suffices ! _ (ends_at 𝓛 F.ended hs c y vunit tt (tt, (tt, tt)) (tt, (tt, tt))) $
    nothing ! $ move ! (1 ∷ 0 ∷ []) $ join ! $ feq_i ! (List Val) (vunit ∷ []) (vunit ∷ []) refl $ nothing ! $ nothing ! $ fjoin ! $ nothing ! $ fjoin ! $ join ! $ move ! (1 ∷ 0 ∷ []) $ join ! $ nothing ! $ move ! (1 ∷ 0 ∷ []) $ done !))))))

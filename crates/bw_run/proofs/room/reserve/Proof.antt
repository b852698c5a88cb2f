-- `reserve` asks for the block, and owns it whole. Assumes `Logic`.
use Rattle.std.proofs.Common.{◌≡◌, ℕ, ◌^◌, ◌<◌, true, false, [], ◌∷◌, refl, lit<, w64, arith}
use Rattle.std.specs.Prelude.{IfOk, Ok, Err}
use mir.Syntax.{Body, named}
use mir.Val.{Val, vint, vptr, vstruct, vcons, vnil}
use base.Logic.{SProp}
use base.Fml.{Lft, Share, ftrue, flft}
use prog.Wp.{Env, Wp, after_seq, at_return}
use types.Kit.{Post as After, any_q, ‵, raw, ◌⊛◌, later, prop, at_ret, Sq, ◌$◌, ◌∵◌, !, qed, move, keep, use0, use1, use2, split, join, fsplit, fjoin, await, suffices, done}
use types.Match.{live, vrt, in_variant}
use types.Run.{stop, fld, lit, of_opd, bin, no_more, and_then, first, switches_on, exec, returns, enter}
use types.ByLocal.{alloc_all, pass_all, free_all, look_at, get, get_in, get_tag, sets, sets_last, lands_as, env}
use types.Part.{agg, whole}
use contract.Monad.{fact}
use contract.Running.{tables}
use denote.Builtin.{RefOf, usize}
use denote.Exit.{yes}
use denote.Laws.{Is}
use denote.Plain.{uint_vals, uint_Tells}
use denote.RattleType.{RattleType, owns}
use denote.RawPtr.{block_ptr}
use denote.Ref.{shr_vals, shr_Tells}
use denote.Signature.{types_at, plain}
use denote.Steps.{nothing, heard, owned}
use denote.Struct.Declared as Declared
use denote.Struct.Struct.{Struct, Struct-Makes}
use denote.Triple.Call.{calls_at}
use denote.Triple.Walked.{says, Stays, stay_dropped, walk_of, ends_at, Goes-dropped}
use Rattle.core.proofs.alloc.Calls.{Answer-typed, Answered, answers}
use Rattle.core.proofs.atomic.Steps.{fm}
use Rattle.core.specs.contracts.alloc.AllocError as AE
use Rattle.core.specs.contracts.result.Result as RS
use Rattle.std.proofs.raw_atomic.Walks.{proved}
use Rattle.std_alloc.proofs.RcSteps.{first_Good}
use Rattle.std_alloc.proofs.ResultValues.{ok_of, err_of}
use Rattle.std_alloc.proofs.VecSteps.Shapes.{after, head, arm_body}
use Rattle.std_heap.proofs.GlobalAllocator.allocate.Met as callee
use Rattle.std_heap.specs.contracts.Global as heap
use Rattle.bw_run.specs.Ownership.{block_type}
use Rattle.bw_run.specs.contracts.room.Room as room
use Rattle.bw_run.specs.contracts.room.reserve as F
use Rattle.bw_run.proofs.Heap.{al, asked, asked_fits, Takes, at_takes, takes_goes, takes_gives}
use Rattle.bw_run.proofs.Values.{two_val, two_own, two_made, two_ty, two-Good}
use Rattle.bw_run.proofs.room.reserve.Statement.{statement}
use Rattle.bw_run.proofs.room.reserve.Code as code

pub reserve_spec : {M : Type 1} → statement M
reserve_spec 𝓤 𝓛 𝓜 𝓡 wired =
    let H = 𝓛.H in let 𝓣 = tables 𝓤 H 𝓜 𝓡 𝓡.env in let c = F.clauses 𝓛 𝓜.mem 𝓡.returns in let fn = code.function in let Out : RattleType = RS.the_row room.the_row AE.the_row in
    let handle = RefOf (0 ∷ []) tt (plain (λ _. heap.the_row)) (λ _. tt) in let hs : Stays F.ended.signature.params F.ended.kept = (stay_dropped handle yes, (stay_dropped (plain (λ _. usize)) yes, tt)) in
    proved 𝓛 F.ended hs c 𝓜 𝓡 (Goes-dropped 𝓛 1 handle yes (λ κs x f. refl), (Goes-dropped 𝓛 1 (plain (λ _. usize)) yes (λ κs x f. refl), tt)) F.Key.name fn (code.unfolded 𝓤 H 𝓜 𝓡 wired)
    (λ κs. (shr_vals, (uint_vals w64, tt))) (λ κs. (shr_Tells (named 0) κs.0 heap.the_row, (uint_Tells w64, tt))) (λ κs qs bounds a gh are.
    let place : ℕ × ℕ = a.0.ref_ptr in let h = a.0.now in let κ : Lft = κs.0 in let q : Share = qs.0 in let n : ℕ = a.1.0 in
    let y : (walk_of 𝓛 F.ended hs c).Ghost = ((κs, qs, bounds, a, (vptr place.0 place.1 ∷ [], (vint w64 n ∷ [], tt))), gh) in let Post : Val → SProp 𝓤 = (walk_of 𝓛 F.ended hs c).post y in
    let out : (r : Out.Denot) (v : Val) → IfOk r (λ room. room.len ≡ n) → Sq 𝓛 (‵ (Out.own_val r (v ∷ [])) ∷ ‵ (flft κ q) ∷ []) (prop (Post v)) = λ r v g.
    suffices ! _ (ends_at 𝓛 F.ended hs c y v r (tt, (tt, tt)) (tt, (tt, tt))) $ says ! g $ nothing ! $ nothing ! $ join ! $ nothing ! $ join ! $ nothing ! $ move ! (3 ∷ 0 ∷ []) $ join ! $ done ! in
    qed 𝓛 (((‵ (flft κ q) ⊛ ‵ ftrue) ⊛ ‵ (owns (types_at F.ended.signature.params κs) a y.0.4)) ∷ raw (fact 𝓤 (n < 2 ^ 16)) ∷ []) ∵
    move ! (1 ∷ []) $ heard ! (n < 2 ^ 16) (λ small. split ! $ split ! $ move ! (2 ∷ []) $ fsplit ! $ fsplit ! $ keep ! (1 ∷ 3 ∷ []) $
    -- [the handle; the token]
    let s : ℕ = asked n in let fits : s < 2 ^ 64 = asked_fits n small in let τ = block_type n in let z = at_takes 𝓛 𝓜.mem 𝓡.returns κ q place h n small in
    enter ! 𝓣.C 𝓣.Λ fn (vptr place.0 place.1 ∷ vint w64 n ∷ []) Post $ alloc_all ! (λ l. pass_all ! refl ((tt, tt), ((tt, record { fits = are.1.0.1 }), tt)) $ let En : Env 𝓤 H = env fn.locals l in
    let both : Body = head (after 4 fn.body) in let Then : After 𝓤 H = any_q (after_seq 𝓤 H (Wp 𝓤 H 𝓣.C 𝓣.Λ En (after 5 fn.body) (at_return 𝓤 H En Post)) (at_return 𝓤 H En Post)) in
    sets ! (bin ! (get ! refl) (lit ! tt) (record { fits = omega arith })) refl (tt, record { fits = omega arith }) $
    sets ! (bin ! (get ! refl) (lit ! tt) (lit< tt)) refl (tt, record { fits = omega arith }) $
    sets ! (bin ! (get ! refl) (lit ! tt) (record { fits = fits })) refl (tt, record { fits = fits }) $
    use2 𝓛 (raw ((Takes 𝓛 𝓜.mem 𝓡.returns κ q place h n small).pre z)) (takes_goes 𝓛 𝓜.mem 𝓡.returns κ q place h n small) $
    calls_at ! (fm 𝓛 𝓜 𝓡) (Takes 𝓛 𝓜.mem 𝓡.returns κ q place h n small) (callee.met 𝓤 𝓛 𝓜 𝓡 (code.calls-std_heap::GlobalAllocator::allocate 𝓡.env wired)) z (and_then ! (get ! refl) (and_then ! (get ! refl) (and_then ! (lit ! tt) (no_more !)))) (λ v.
    use1 𝓛 (later (raw (Answered al 𝓛 𝓜.mem 𝓡.returns h τ v) ⊛ ‵ (flft κ q))) (takes_gives 𝓛 𝓜.mem 𝓡.returns κ q place h n small v) $ await ! tt $ split ! $
    answers al ! 𝓜.mem 𝓡.returns h τ v
    (λ b o e. let d : room.the_row.Denot = record { ptr = block_ptr b o; len = n } in let u : Val = two_val d.ptr n in let ν = room.the_type.name in
    let good = two-Good ν d.ptr n are.1.0.1 in let ok = first_Good (two_ty ν) u good in
    lands_as ! e refl (Answer-typed true b o) $ first ! $ switches_on ! (get_tag ! (vrt ! refl (fld ! refl (stop !))) (whole !)) $ exec ! 𝓣.C 𝓣.Λ En (arm_body 0 both) Then $
    sets ! (of_opd ! (get_in ! (vrt ! refl (fld ! refl (stop !))) (in_variant ! 0 0 refl refl (whole !)))) refl (tt, tt) $ sets ! (of_opd ! (get ! refl)) refl (tt, tt) $
    sets ! (agg ! (and_then ! (get ! refl) (and_then ! (get ! refl) (no_more !)))) refl good $ sets_last ! (agg ! (and_then ! (lit ! tt) (and_then ! (get ! refl) (no_more !)))) refl ok $
    exec ! 𝓣.C 𝓣.Λ En (after 5 fn.body) (at_ret En Post) $ sets ! (of_opd ! (get ! refl)) refl ok $
    fjoin ! $ use0 𝓛 (‵ (two_own d.ptr n (u ∷ []))) (two_made 𝓛 d.ptr n are.1.0.1) $ fjoin ! $ use1 𝓛 (‵ (Out.own_val (Ok d) (live 0 (vcons u vnil) ∷ []))) (ok_of 𝓛 room.the_row AE.the_row d u) $
    returns ! (look_at ! 0 refl) $ free_all ! refl $ keep ! (0 ∷ 1 ∷ []) $ out (Ok d) (live 0 (vcons u vnil)) refl)
    (λ e. let Refusal : RattleType = Struct (Declared.shape AE.the_type) in let none : Val = live 1 (vcons (vstruct vnil) vnil) in
    lands_as ! e refl (Answer-typed false 0 0) $ first ! $ switches_on ! (get_tag ! (vrt ! refl (fld ! refl (stop !))) (whole !)) $ exec ! 𝓣.C 𝓣.Λ En (arm_body 1 both) Then $
    sets ! (of_opd ! (get_in ! (vrt ! refl (fld ! refl (stop !))) (in_variant ! 1 0 refl refl (whole !)))) refl (tt, tt) $
    sets_last ! (agg ! (and_then ! (lit ! tt) (and_then ! (get ! refl) (no_more !)))) refl (tt, (record { fits = lit< tt }, (tt, tt))) $
    exec ! 𝓣.C 𝓣.Λ En (after 5 fn.body) (at_ret En Post) $ sets ! (of_opd ! (get ! refl)) refl (tt, (record { fits = lit< tt }, (tt, tt))) $
    owned ! Refusal (Is Refusal) (Struct-Makes 𝓛 (Declared.shape AE.the_type) tt) tt (vstruct vnil ∷ []) (tt, (refl, tt)) $
    use1 𝓛 (‵ (Out.own_val (Err (record {})) (none ∷ []))) (err_of 𝓛 room.the_row AE.the_row (record {}) (vstruct vnil)) $
    returns ! (look_at ! 0 refl) $ free_all ! refl $ keep ! (0 ∷ 1 ∷ []) $ out (Err (record {})) none tt)))))

-- `as_slice` reads the pointer through the `&`, and the length through the pointer. Assumes `Logic`.
use Rattle.std.proofs.Common.{ℕ, ◌+◌, ◌*◌, ◌^◌, ◌<◌, List, [], ◌∷◌, length, refl, ap, arith}
use mir.Syntax.{named}
use mir.Val.{Val, vptr}
use base.Logic.{SProp, id⊢}
use base.Fml.{Lft, Share, ftrue, fhide, flft}
use prog.Wp.{Env}
use types.Kit.{‵, ◌⊛◌, at_ret, ◌$◌, ◌∵◌, !, qed, move, keep, drop, use1, split, join, rewrite, fsplit, fjoin, fpick, feq_i, flt_i, flt_l, suffices, done}
use types.Run.{stop, fld, load, look, lit, of_opd, bin, un, no_more, and_then, first, blocks, exec, returns, enter}
use types.ByLocal.{alloc_all, pass_all, free_all, look_at, get, through, sets, sets_last, is, env}
use types.Part.{agg, look_in, sub, whole}
use contract.Running.{tables}
use denote.Builtin.{RefOf, u8}
use denote.Exit.{yes}
use denote.Memory.{hidden_shr, mem}
use denote.Opens.{unhide, hide}
use denote.RattleType.{owns}
use denote.RawPtr.{Ptr, ptr_val, block_of, count_of, at_block}
use denote.Ref.{shr_vals, shr_Tells}
use denote.Signature.{types_at, plain}
use denote.Slice.{slice_val}
use denote.Steps.{nothing}
use denote.Triple.Walked.{says, Stays, stay_dropped, walk_of, ends_at, Goes-dropped}
use Rattle.std.proofs.raw_atomic.Walks.{proved}
use Rattle.std_alloc.proofs.ArcSteps.{arc_sees}
use Rattle.std_alloc.proofs.VecSteps.Shapes.{after}
use Rattle.bw_run.specs.Ownership.{contents, seen, run_shares}
use Rattle.bw_run.specs.contracts.run.Run.{the_row as R}
use Rattle.bw_run.specs.contracts.run.Run.as_slice as F
use Rattle.bw_run.proofs.Blocks.{behind}
use Rattle.bw_run.proofs.Handles.{Word, reads, read}
use Rattle.bw_run.proofs.Lengths.{read_again, length_in, length_out}
use Rattle.bw_run.proofs.Shares.{seen_laws}
use Rattle.bw_run.proofs.run.Run.as_slice.Statement.{statement}
use Rattle.bw_run.proofs.run.Run.as_slice.Code as code

pub as_slice_spec : {M : Type 1} → statement M
as_slice_spec 𝓤 𝓛 𝓜 𝓡 wired =
    let H = 𝓛.H in let 𝓣 = tables 𝓤 H 𝓜 𝓡 𝓡.env in let c = F.clauses 𝓛 𝓜.mem 𝓡.returns in let fn = code.function in
    let self = RefOf (0 ∷ []) tt (plain (λ _. R)) (λ _. tt) in let hs : Stays F.ended.signature.params F.ended.kept = (stay_dropped self yes, tt) in
    proved 𝓛 F.ended hs c 𝓜 𝓡 (Goes-dropped 𝓛 1 self yes (λ κs x f. refl), tt) F.Key.name fn (code.unfolded 𝓤 H 𝓜 𝓡 wired)
    (λ κs. (shr_vals, tt)) (λ κs. (shr_Tells (named 0) κs.0 R, tt)) (λ κs qs bounds a gh are.
    let b : ℕ = a.0.ref_ptr.0 in let o : ℕ = a.0.ref_ptr.1 in let κ : Lft = κs.0 in let q : Share = qs.0 in let p : Ptr = a.0.now.ptr in let h = a.0.now.alloc in let xs : List ℕ = a.0.now.bytes in let n : ℕ = length xs in
    let y : (walk_of 𝓛 F.ended hs c).Ghost = ((κs, qs, bounds, a, (vptr b o ∷ [], tt)), gh) in let Post : Val → SProp 𝓤 = (walk_of 𝓛 F.ended hs c).post y in
    let cb : ℕ = block_of p in let at : ℕ = count_of p in let place : ℕ × ℕ = (cb, at + 10) in
    qed 𝓛 (((‵ (flft κ q) ⊛ ‵ ftrue) ⊛ ‵ (owns (types_at F.ended.signature.params κs) a y.0.4)) ∷ ‵ ftrue ∷ []) ∵
    split ! $ split ! $ move ! (2 ∷ []) $ fsplit ! $ fsplit ! $ keep ! (1 ∷ 3 ∷ []) $
    use1 𝓛 (‵ (hidden_shr Word κ (p, (h, tt)) b o) ⊛ ‵ (fhide (run_shares p xs κ))) (id⊢ 𝓤 _) $ split ! $ move ! (1 ∷ []) $ unhide ! $ fsplit ! $ fsplit ! $ fpick ! (λ inb. drop ! $ flt_l ! (λ small.
    use1 𝓛 (‵ (seen p xs κ)) (arc_sees (contents p xs) cb (at + 0) (seen p xs) (seen_laws p xs) 𝓛 κ) $ rewrite ! 0 (λ (r : Ptr). ‵ (seen r xs κ)) (at_block p inb) refl $
    fsplit ! $ fsplit ! $ drop ! $ hide ! $ move ! (1 ∷ []) $ fsplit ! $ drop ! $ fsplit ! $ drop ! $ hide ! $
    -- [the bytes; the length; the word; the token]
    enter ! 𝓣.C 𝓣.Λ fn (vptr b o ∷ []) Post $ alloc_all ! (λ l. pass_all ! refl ((tt, tt), tt) $ let En : Env 𝓤 H = env fn.locals l in
    move ! (2 ∷ 3 ∷ []) $ reads p h ! tt b o (λ q'.
    sets ! (is ! (of_opd ! (load ! (through ! refl (fld ! refl (stop !))) (look_in ! 0 (sub ! 0 refl (whole !))))) (ap ptr_val (at_block p inb))) refl (tt, tt) $ read p h ! tt b o q' $
    first ! $ blocks ! $ sets ! (of_opd ! (get ! refl)) refl (tt, tt) $ sets ! (is ! (bin ! (get ! refl) (lit ! tt) tt) (ap (vptr cb) (behind at))) refl (tt, tt) $
    move ! (2 ∷ 0 ∷ []) $ length_in ! tt n cb (at + 8) (read_again 𝓛 n cb (at + 8) κ) (λ q1 short. let fits : n < 2 ^ 64 = omega arith in
    sets ! (of_opd ! (load ! (through ! refl (fld ! refl (stop !))) (look ! 1 refl))) refl (tt, record { fits = short }) $ length_out ! tt n cb (at + 8) short $ sets ! (un ! (get ! refl) (record { fits = fits })) refl (tt, record { fits = fits }) $
    sets_last ! (agg ! (and_then ! (get ! refl) (and_then ! (get ! refl) (no_more !)))) refl (tt, (tt, (record { fits = fits }, tt))) $ exec ! 𝓣.C 𝓣.Λ En (after 2 fn.body) (at_ret En Post) $
    sets ! (of_opd ! (get ! refl)) refl (tt, (tt, (record { fits = fits }, tt))) $
    -- [the token; the length; the bytes]
    move ! (2 ∷ []) $ flt_i ! (n * (mem u8).size) (2 ^ 63) (omega arith) $ flt_i ! n (2 ^ 64) fits $ fjoin ! $ feq_i ! (List Val) (slice_val place n ∷ []) (slice_val place n ∷ []) refl $ fjoin ! $ fjoin ! $
    returns ! (look_at ! 0 refl) $ free_all ! refl $ keep ! (0 ∷ 1 ∷ []) $
    suffices ! _ (ends_at 𝓛 F.ended hs c y (slice_val place n) (record { ref_ptr = place; now = xs }) (tt, tt) (tt, tt)) $ says ! refl $
    nothing ! $ nothing ! $ join ! $ nothing ! $ move ! (3 ∷ 0 ∷ []) $ join ! $ done !))))))

-- `another` makes one owner more, unless the count is full. Assumes `Logic`.
use Rattle.std.proofs.Common.{◌≡◌, ℕ, ◌+◌, ◌^◌, ◌<◌, List, [], ◌∷◌, length, refl, sym, ap, lit<, w64, arith}
use Rattle.std.specs.Prelude.{IfSome}
use mir.Syntax.{named}
use mir.Val.{Val, vint, vptr, vcons, vnil}
use base.Share
use base.Logic.{SProp, id⊢, via, guard_i, all_e}
use base.Fml.{Lft, Share, Fml, ftrue, fhide, flft, finv}
use prog.Wp.{Env}
use types.Logic.{sem}
use types.Kit.{‵, raw, ◌⊛◌, mean, prop, at_ret, Sq, ◌$◌, ◌∵◌, !, qed, move, keep, drop, use0, use1, use2, split, join, fsplit, fsplit3, fjoin, fjoin3, fpick, fpack, flt_i, flt_l, suffices, done}
use types.Match.{live}
use types.Run.{stop, fld, load, addr, lit, of_opd, bin, no_more, and_then, first, blocks, branches, exec, Calls-last, returns, enter}
use types.ByLocal.{alloc_all, pass_all, free_all, look_at, get, through, sets, sets_last, lands_last, is, env}
use types.Part.{agg, look_in, sub, whole}
use types.RcWeak.{part}
use types.Tokens.{shr_bor-open, obor_close}
use types.Within.{tokens_halve}
use contract.Running.{tables}
use denote.Builtin.{RefOf}
use denote.Exit.{yes}
use denote.Memory.{hidden_shr}
use denote.Opens.{unhide}
use denote.RattleType.{RattleType, owns}
use denote.RawPtr.{Ptr, InBlock, block_ptr, ptr_val, block_of, count_of, at_block}
use denote.Ref.{shr_vals, shr_Tells}
use denote.Signature.{types_at, plain}
use denote.Steps.{nothing}
use denote.Triple.Walked.{says, Stays, stay_dropped, walk_of, ends_at, Goes-dropped}
use Rattle.core.specs.contracts.option.Option as Opt
use Rattle.core.specs.declared.option.Option.TheVariants.{None, Some}
use Rattle.core.specs.Thread.Scope.{refcount_invariant, after_increment}
use Rattle.std.proofs.raw_atomic.Calls.{fm, seq_cst, found, finds}
use Rattle.std.proofs.raw_atomic.Walks.{proved}
use Rattle.std_alloc.proofs.RcSteps.{some_Good, Some-of, none_of}
use Rattle.std_alloc.proofs.VecSteps.Shapes.{after}
use Rattle.bw_run.specs.Ownership.{contents, owner_owns, run_shares}
use Rattle.bw_run.specs.contracts.run.Run.{the_row as R}
use Rattle.bw_run.specs.contracts.run.Run.another as F
use Rattle.bw_run.proofs.Counts.{one_more}
use Rattle.bw_run.proofs.Handles.{name, Word, word_made, reads, read, bumps}
use Rattle.bw_run.proofs.Values.{word, word_ty, word-Good}
use Rattle.bw_run.proofs.run.Run.another.Statement.{statement}
use Rattle.bw_run.proofs.run.Run.another.Code as code

pub another_spec : {M : Type 1} → statement M
another_spec 𝓤 𝓛 𝓜 𝓡 wired =
    let H = 𝓛.H in let 𝓣 = tables 𝓤 H 𝓜 𝓡 𝓡.env in let c = F.clauses 𝓛 𝓜.mem 𝓡.returns in let fn = code.function in let Out : RattleType = Opt.the_row R in
    let self = RefOf (0 ∷ []) tt (plain (λ _. R)) (λ _. tt) in let hs : Stays F.ended.signature.params F.ended.kept = (stay_dropped self yes, tt) in
    proved 𝓛 F.ended hs c 𝓜 𝓡 (Goes-dropped 𝓛 1 self yes (λ κs x f. refl), tt) F.Key.name fn (code.unfolded 𝓤 H 𝓜 𝓡 wired)
    (λ κs. (shr_vals, tt)) (λ κs. (shr_Tells (named 0) κs.0 R, tt)) (λ κs qs bounds a gh are.
    let b : ℕ = a.0.ref_ptr.0 in let o : ℕ = a.0.ref_ptr.1 in let κ : Lft = κs.0 in let q : Share = qs.0 in let p : Ptr = a.0.now.ptr in let h = a.0.now.alloc in let xs : List ℕ = a.0.now.bytes in
    let y : (walk_of 𝓛 F.ended hs c).Ghost = ((κs, qs, bounds, a, (vptr b o ∷ [], tt)), gh) in let Post : Val → SProp 𝓤 = (walk_of 𝓛 F.ended hs c).post y in
    let me : R.Denot = record { ptr = p; alloc = h; bytes = xs } in let cb : ℕ = block_of p in let co : ℕ = count_of p + 0 in
    let out : (r : Out.Denot) (v : Val) → IfSome r (λ run. (run.bytes ≡ xs) × (run.ptr ≡ p)) → Sq 𝓛 (‵ (Out.own_val r (v ∷ [])) ∷ ‵ (flft κ q) ∷ []) (prop (Post v)) = λ r v g.
    suffices ! _ (ends_at 𝓛 F.ended hs c y v r (tt, tt) (tt, tt)) $ says ! g $ nothing ! $ nothing ! $ join ! $ nothing ! $ move ! (3 ∷ 0 ∷ []) $ join ! $ done ! in
    qed 𝓛 (((‵ (flft κ q) ⊛ ‵ ftrue) ⊛ ‵ (owns (types_at F.ended.signature.params κs) a y.0.4)) ∷ ‵ ftrue ∷ []) ∵
    split ! $ split ! $ move ! (2 ∷ []) $ fsplit ! $ fsplit ! $ keep ! (1 ∷ 3 ∷ []) $
    use1 𝓛 (‵ (hidden_shr Word κ (p, (h, tt)) b o) ⊛ ‵ (fhide (run_shares p xs κ))) (id⊢ 𝓤 _) $ split ! $ move ! (1 ∷ []) $ unhide ! $ fsplit ! $ fsplit ! $ fpick ! (λ inb. drop ! $ flt_l ! (λ small. fpick ! (λ i. fsplit3 ! $
    -- [a share of the token; the invariant; what is seen; the word; the token of κ]
    move ! (4 ∷ []) $ use1 𝓛 (‵ (flft κ (Share.left q)) ⊛ ‵ (flft κ (Share.right q))) (𝓛.lfts.lft_split κ q) $ split ! $
    enter ! 𝓣.C 𝓣.Λ fn (vptr b o ∷ []) Post $ alloc_all ! (λ l. pass_all ! refl ((tt, tt), tt) $ let En : Env 𝓤 H = env fn.locals l in
    move ! (2 ∷ 0 ∷ []) $ shr_bor-open ! tt (tokens_halve 𝓛 (i ∷ [])) (λ s. let I : Fml = refcount_invariant (contents p xs) cb co i in let told : ℕ → Fml = after_increment i s in
    move ! (3 ∷ []) $ use1 𝓛 (‵ (finv I) ⊛ ‵ (finv I)) (𝓛.invs.inv_dup I) $ split ! $
    -- [inv; inv; the open share; its token; κ's half; what is seen; the word]
    move ! (6 ∷ 4 ∷ []) $ reads p h ! tt b o (λ q'.
    sets ! (is ! (of_opd ! (load ! (through ! refl (fld ! refl (stop !))) (look_in ! 0 (sub ! 0 refl (whole !))))) (ap ptr_val (at_block p inb))) refl (tt, tt) $
    sets ! (of_opd ! (load ! (through ! refl (fld ! refl (stop !))) (look_in ! 0 (sub ! 1 refl (whole !))))) refl (tt, ((tt, tt), tt)) $ read p h ! tt b o q' $
    first ! $ blocks ! $ sets ! (addr ! (through ! refl (fld ! refl (stop !)))) refl (tt, tt) $
    -- [κ's half; inv; inv; the open share; its token; what is seen]
    move ! (1 ∷ 4 ∷ []) $ use2 𝓛 (raw (𝓣.C _ (vptr cb co ∷ seq_cst ∷ []) (λ v. mean 𝓛 (found told v))))
    (via 𝓤 _ (one_more 𝓛 (contents p xs) cb co i s) (bumps 𝓛 𝓜 𝓡 (code.calls-core::raw_atomic::saturating_increment 𝓡.env wired) (block_ptr cb co) told)) $
    sets ! (agg ! (and_then ! (lit ! tt) (no_more !))) refl (tt, (record { fits = lit< tt }, tt)) $
    Calls-last ! (fm 𝓛 𝓜 𝓡) (found told) (and_then ! (get ! refl) (and_then ! (get ! refl) (no_more !))) (λ v. finds ! told (λ n fits.
    lands_last ! refl (tt, record { fits = fits }) $ exec ! 𝓣.C 𝓣.Λ En (after 3 fn.body) (at_ret En Post) $
    -- [the token, with a part of it; κ's half; inv; the open share; what is seen]
    fsplit ! $ move ! (4 ∷ 0 ∷ []) $ obor_close ! tt $ drop ! $ move ! (0 ∷ 2 ∷ []) $ use2 𝓛 (‵ (flft κ q)) (𝓛.lfts.lft_join κ q) $
    -- [the token of κ; the part, if there was room; inv; what is seen]
    sets ! (of_opd ! (get ! refl)) refl (tt, record { fits = fits }) $
    sets ! (bin ! (get ! refl) (record { go = λ Kt g. via 𝓤 (Kt (vint w64 9223372036854775807)) g (guard_i 𝓤 (mir.Val.Fits w64 9223372036854775807) (Kt (vint w64 9223372036854775807)) (record { fits = lit< tt })) }) tt) refl (tt, tt) $
    first ! $ branches ! (get ! refl)
    (λ room. let lt : n < 9223372036854775807 = lib.Dec.ltb→lt n 9223372036854775807 room in let more : n + 1 < 2 ^ 63 = omega arith in
    sets ! (is ! (agg ! (and_then ! (get ! refl) (and_then ! (get ! refl) (no_more !)))) (ap word (sym (at_block p inb)))) refl (word-Good name p) $
    sets_last ! (agg ! (and_then ! (lit ! tt) (and_then ! (get ! refl) (no_more !)))) refl (some_Good (word_ty name) (word p) (word-Good name p)) $ exec ! 𝓣.C 𝓣.Λ En (after 6 fn.body) (at_ret En Post) $
    sets ! (of_opd ! (get ! refl)) refl (some_Good (word_ty name) (word p) (word-Good name p)) $
    move ! (1 ∷ []) $ use1 𝓛 (‵ (part 63 i)) (all_e 𝓤 (λ (_ : n + 1 < 2 ^ 63). sem 𝓛 (part 63 i)) more) $ move ! (0 ∷ 2 ∷ 3 ∷ []) $ fjoin3 ! $ fpack ! ℕ (owner_owns p xs) i $
    flt_i ! (length xs) (2 ^ 16) small $ nothing ! $ fpack ! (InBlock p) (λ _. ftrue) inb $ fjoin ! $ fjoin ! $
    word_made p h ! $ fjoin ! $ use1 𝓛 (‵ (Out.own_val (Some me) (live 1 (vcons (word p) vnil) ∷ []))) (Some-of 𝓛 R me (word p)) $
    returns ! (look_at ! 0 refl) $ free_all ! refl $ out (Some me) (live 1 (vcons (word p) vnil)) (refl, refl))
    (λ full. sets_last ! (agg ! (and_then ! (lit ! tt) (no_more !))) refl (tt, (record { fits = lit< tt }, tt)) $ exec ! 𝓣.C 𝓣.Λ En (after 6 fn.body) (at_ret En Post) $
    sets ! (of_opd ! (get ! refl)) refl (tt, (record { fits = lit< tt }, tt)) $ use0 𝓛 (‵ (Out.own_val None (live 0 vnil ∷ []))) (none_of 𝓛 R) $
    returns ! (look_at ! 0 refl) $ free_all ! refl $ keep ! (0 ∷ 1 ∷ []) $ out None (live 0 vnil) tt))))))))))

-- `release` takes an owner off the count, and the last one gets the block. Assumes `Logic`.
use Rattle.std.proofs.Common.{◌≡◌, ℕ, ◌+◌, ◌^◌, ◌<◌, List, [], ◌∷◌, length, refl, ap, lit<, w16, w64, arith}
use Rattle.std.specs.Prelude.{IfSome}
use mir.Syntax.{ty_int}
use mir.Val.{Val, vint, vptr, vcons, vnil}
use base.Fraction.{full_share}
use base.Logic.{SProp, via, all_e}
use base.Fml.{Fml, ftrue, fsep, fat, fdead, flent}
use prog.Wp.{Env}
use types.Logic.{sem}
use types.Kit.{‵, raw, ◌⊛◌, mean, prop, at_ret, Sq, ◌$◌, ◌∵◌, !, qed, move, keep, drop, use0, use1, use2, split, split3, join, group, rewrite, fsplit, fsplit3, fjoin, fpick, flt_l, suffices, done}
use types.Match.{live}
use types.Run.{stop, fld, load, look, addr, lit, of_opd, bin, un, no_more, and_then, first, blocks, branches, skips, exec, Calls-last, returns, returns_within, enter, well_typed}
use types.ByLocal.{alloc_all, pass_all, free_all, look_at, get, get_in, through, sets, sets_last, lands_last, is, env}
use types.Part.{agg, sub, whole}
use types.Tokens.{lent_back}
use contract.Running.{tables}
use denote.Plain.{uint_out}
use denote.RattleType.{RattleType, owns}
use denote.RawPtr.{Ptr, block_ptr, ptr_val, block_of, count_of, at_block}
use denote.Signature.{types_at, plain}
use denote.Steps.{nothing}
use denote.Triple.Walked.{says, Stays, stay_dropped, walk_of, ends_at, Goes-dropped}
use Rattle.core.specs.contracts.option.Option as Opt
use Rattle.core.specs.declared.option.Option.TheVariants.{None, Some}
use Rattle.core.specs.Sync.RawAtomic.{word}
use Rattle.std.proofs.raw_atomic.Calls.{fm, seq_cst, found, finds, subs}
use Rattle.std.proofs.raw_atomic.Walks.{proved}
use Rattle.std_alloc.proofs.RcSteps.{some_Good, Some-of, none_of, is_so}
use Rattle.std_alloc.proofs.VecSteps.Shapes.{after}
use Rattle.bw_run.specs.Ownership.{contents, room_owns}
use Rattle.bw_run.specs.contracts.room.Room as room
use Rattle.bw_run.specs.contracts.run.Run.{the_row as R}
use Rattle.bw_run.specs.contracts.run.Run.release as F
use Rattle.bw_run.proofs.Blocks.{emptied}
use Rattle.bw_run.proofs.Counts.{one_less, last_after}
use Rattle.bw_run.proofs.Handles.{name}
use Rattle.bw_run.proofs.Values.{word as pointer, word-Good, word_told, two_val, two_own, two_made, two_ty, two-Good}
use Rattle.bw_run.proofs.run.Run.release.Statement.{statement}
use Rattle.bw_run.proofs.run.Run.release.Code as code

pub release_spec : {M : Type 1} → statement M
release_spec 𝓤 𝓛 𝓜 𝓡 wired =
    let H = 𝓛.H in let 𝓣 = tables 𝓤 H 𝓜 𝓡 𝓡.env in let c = F.clauses 𝓛 𝓜.mem 𝓡.returns in let fn = code.function in let Out : RattleType = Opt.the_row room.the_row in
    let hs : Stays F.ended.signature.params F.ended.kept = (stay_dropped (plain (λ _. R)) F.ended.kept.0, tt) in
    proved 𝓛 F.ended hs c 𝓜 𝓡 (Goes-dropped 𝓛 0 (plain (λ _. R)) F.ended.kept.0 (λ κs x f. refl), tt) F.Key.name fn (code.unfolded 𝓤 H 𝓜 𝓡 wired)
    (λ κs. ((λ x. pointer x.ptr ∷ []), tt)) (λ κs. ((λ x vs so. word_told x.ptr x.alloc vs so.0), tt)) (λ κs qs bounds a gh are.
    let p : Ptr = a.0.ptr in let xs : List ℕ = a.0.bytes in let n : ℕ = length xs in let cb : ℕ = block_of p in let at : ℕ = count_of p in let co : ℕ = at + 0 in
    let y : (walk_of 𝓛 F.ended hs c).Ghost = ((κs, qs, bounds, a, (pointer p ∷ [], tt)), gh) in let Post : Val → SProp 𝓤 = (walk_of 𝓛 F.ended hs c).post y in
    let out : (r : Out.Denot) (v : Val) → IfSome r (λ room. room.len < 2 ^ 16) → Sq 𝓛 (‵ (Out.own_val r (v ∷ [])) ∷ []) (prop (Post v)) = λ r v g.
    suffices ! _ (ends_at 𝓛 F.ended hs c y v r (tt, tt) (tt, tt)) $ says ! g $ nothing ! $ nothing ! $ join ! $ nothing ! $ done ! in
    qed 𝓛 ((‵ ftrue ⊛ ‵ (owns (types_at F.ended.signature.params κs) a y.0.4)) ∷ ‵ ftrue ∷ []) ∵
    split ! $ move ! (1 ∷ []) $ fsplit ! $ fsplit ! $ keep ! (1 ∷ []) $ fsplit ! $ fsplit ! $ fpick ! (λ inb. drop ! $ flt_l ! (λ small. let fits64 : n < 2 ^ 64 = omega arith in fpick ! (λ i. fsplit3 ! $ keep ! (1 ∷ 0 ∷ []) $
    -- [the invariant; a part of the token]
    let told : ℕ → Fml = last_after 𝓛 (contents p xs) cb co i in
    enter ! 𝓣.C 𝓣.Λ fn (pointer p ∷ []) Post $ alloc_all ! (λ l. pass_all ! refl (word-Good name p, tt) $ let En : Env 𝓤 H = env fn.locals l in
    sets ! (is ! (of_opd ! (get_in ! (fld ! refl (stop !)) (sub ! 0 refl (whole !)))) (ap ptr_val (at_block p inb))) refl (tt, tt) $
    first ! $ blocks ! $ sets ! (addr ! (through ! refl (fld ! refl (stop !)))) refl (tt, tt) $
    use2 𝓛 (raw (𝓣.C _ (vptr cb co ∷ vint w64 1 ∷ seq_cst ∷ []) (λ v. mean 𝓛 (found told v))))
    (via 𝓤 _ (one_less 𝓛 (contents p xs) cb co i) (subs 𝓛 𝓜 𝓡 (code.calls-core::raw_atomic::fetch_sub 𝓡.env wired) (block_ptr cb co) 1 (lit< tt) told)) $
    sets ! (agg ! (and_then ! (lit ! tt) (no_more !))) refl (tt, (record { fits = lit< tt }, tt)) $
    Calls-last ! (fm 𝓛 𝓜 𝓡) (found told) (and_then ! (get ! refl) (and_then ! (lit ! tt) (and_then ! (get ! refl) (no_more !)))) (λ v. finds ! told (λ m fits.
    lands_last ! refl (tt, record { fits = fits }) $ exec ! 𝓣.C 𝓣.Λ En (after 2 fn.body) (at_ret En Post) $
    sets ! (of_opd ! (get ! refl)) refl (tt, record { fits = fits }) $ sets ! (bin ! (get ! refl) (lit ! tt) tt) refl (tt, tt) $
    first ! $ branches ! (get ! refl)
    (λ more. sets ! (agg ! (and_then ! (lit ! tt) (no_more !))) refl (tt, (record { fits = lit< tt }, tt)) $ use0 𝓛 (‵ (Out.own_val None (live 0 vnil ∷ []))) (none_of 𝓛 room.the_row) $
    returns_within ! Post refl (look_at ! 0 refl) $ free_all ! refl $ keep ! (0 ∷ []) $ out None (live 0 vnil) tt)
    (λ last. skips ! $ exec ! 𝓣.C 𝓣.Λ En (after 5 fn.body) (at_ret En Post) $
    let Zero : Fml = word cb co 0 in let Dead : Fml = fdead (i ∷ []) in let Lent : Fml = flent (i ∷ []) (contents p xs) in
    use1 𝓛 (‵ Zero ⊛ ‵ Dead ⊛ ‵ Lent) (all_e 𝓤 (λ (_ : m ≡ 1). sem 𝓛 (fsep Zero (fsep Dead Lent))) (is_so m 1 last)) $ split3 ! $
    move ! (1 ∷ 2 ∷ []) $ lent_back ! tt $ rewrite ! 0 (λ (r : Ptr). ‵ (contents r xs)) (at_block p inb) refl $ fsplit3 ! $
    use1 𝓛 (‵ (fat full_share (ty_int w16) cb (at + 8) (vint w16 n))) (uint_out 𝓛 full_share w16 n cb (at + 8)) $ well_typed ! (λ ok.
    -- [the length; the bytes; what frees; the count]
    first ! $ blocks ! $ sets ! (of_opd ! (load ! (through ! refl (fld ! refl (stop !))) (look ! 0 refl))) refl ok $ sets_last ! (un ! (get ! refl) (record { fits = fits64 })) refl (tt, record { fits = fits64 }) $ exec ! 𝓣.C 𝓣.Λ En (after 6 fn.body) (at_ret En Post) $
    sets ! (of_opd ! (get ! refl)) refl (tt, record { fits = fits64 }) $ sets ! (of_opd ! (get ! refl)) refl (tt, tt) $
    move ! (3 ∷ 0 ∷ 1 ∷ 2 ∷ []) $ group ! 4 $ use1 𝓛 (‵ (room_owns (block_ptr cb at) n)) (emptied 𝓛 cb at n xs (vint w64 0) (vint w16 n)) $
    let d : room.the_row.Denot = record { ptr = block_ptr cb at; len = n } in let u : Val = two_val d.ptr n in let ν = room.the_type.name in let good = two-Good ν d.ptr n fits64 in
    sets ! (agg ! (and_then ! (get ! refl) (and_then ! (get ! refl) (no_more !)))) refl good $
    sets ! (agg ! (and_then ! (lit ! tt) (and_then ! (get ! refl) (no_more !)))) refl (some_Good (two_ty ν) u good) $
    use0 𝓛 (‵ (two_own d.ptr n (u ∷ []))) (two_made 𝓛 d.ptr n fits64) $ fjoin ! $ use1 𝓛 (‵ (Out.own_val (Some d) (live 1 (vcons u vnil) ∷ []))) (Some-of 𝓛 room.the_row d u) $
    returns ! (look_at ! 0 refl) $ free_all ! refl $ keep ! (0 ∷ []) $ out (Some d) (live 1 (vcons u vnil)) small)))))))))

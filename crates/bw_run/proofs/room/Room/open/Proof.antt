-- `open` cuts the block into the room for its head and slots for its bytes. Assumes `Logic`.
use Rattle.std.proofs.Common.{◌≡◌, ℕ, ◌+◌, ◌^◌, ◌<◌, Bool, false, List, [], ◌∷◌, replicate, refl, sym, ap, w8, w16, w64, arith}
use lib.ListN.{length-replicate}
use mir.Syntax.{ty_int, ty_array}
use mir.Val.{Val, vptr}
use base.Fraction.{full_share}
use base.Logic.{SProp, fst∗, never}
use base.Fml.{ftrue, froom, flft}
use prog.Wp.{Env, WpFn}
use types.Logic.{sem}
use types.Kit.{‵, raw, ◌⊛◌, some, given, later, prop, at_ret, ◌$◌, ◌∵◌, !, qed, move, keep, use0, use1, use2, split, split3, join, regoal, fsplit, fjoin, fjoin3, pick, learn, await, suffices, done}
use types.Run.{stop, fld, lit, of_opd, bin, no_more, and_then, first, blocks, exec, returns, enter}
use types.ByLocal.{alloc_all, pass_all, free_all, look_at, get, get_in, sets, lands_last, is, env}
use types.Part.{agg, sub, whole}
use contract.BorrowLft.{⊑_static}
use contract.Monad.{fact}
use contract.Running.{tables}
use denote.RattleType.{owns}
use denote.RawPtr.{Ptr, block_ptr, null_ptr, in_a_block}
use denote.Signature.{types_at, plain}
use denote.Steps.{nothing, heard}
use denote.Struct.Tuple.{Tuple}
use denote.Triple.Call.{calls_at_last}
use denote.Triple.Walked.{says, Stays, stay_dropped, walk_of, ends_at, Goes-dropped}
use Rattle.core.proofs.atomic.Steps.{fm}
use Rattle.core.proofs.slots.Opens.{row_val}
use Rattle.core.proofs.slots.Runs.{of_space}
use Rattle.core.proofs.slots.Slots.from_raw_parts.Met as callee
use Rattle.bw_run.specs.Token.{chunk}
use Rattle.std.proofs.raw_atomic.Walks.{proved}
use Rattle.std_alloc.proofs.Pairs.{pair_of, pair_val}
use Rattle.std_alloc.proofs.vec.Blocks.{el, all}
use Rattle.std_alloc.proofs.vec.Spares.{Row, From, at_from, Made, from_goes, from_gives, row_Typed}
use Rattle.std_alloc.proofs.VecSteps.El.{El}
use Rattle.std_alloc.proofs.VecSteps.Shapes.{after}
use Rattle.bw_run.specs.Ownership.{block_type, rejoins, room_owns}
use Rattle.bw_run.specs.contracts.room.Front as front
use Rattle.bw_run.specs.contracts.room.Room as room
use Rattle.bw_run.specs.contracts.room.Room.open as F
use Rattle.bw_run.proofs.Blocks.{bytes, behind}
use Rattle.bw_run.proofs.Values.{two_val, two_own, two_told, two_made, two-Good}
use Rattle.bw_run.proofs.room.Room.open.Statement.{statement}
use Rattle.bw_run.proofs.room.Room.open.Code as code

pub open_spec : {M : Type 1} → statement M
open_spec 𝓤 𝓛 𝓜 𝓡 wired =
    let H = 𝓛.H in let 𝓣 = tables 𝓤 H 𝓜 𝓡 𝓡.env in let c = F.clauses 𝓛 𝓜.mem 𝓡.returns in let fn = code.function in let E : El = bytes in
    let self = plain (λ _. room.the_row) in let hs : Stays F.ended.signature.params F.ended.kept = (stay_dropped self F.ended.kept.0, tt) in
    proved 𝓛 F.ended hs c 𝓜 𝓡 (Goes-dropped 𝓛 0 self F.ended.kept.0 (λ κs x f. refl), tt) F.Key.name fn (code.unfolded 𝓤 H 𝓜 𝓡 wired)
    (λ κs. ((λ x. two_val x.ptr x.len ∷ []), tt)) (λ κs. ((λ x vs so. (two_told x.ptr x.len vs so.0).0), tt)) (λ κs qs bounds a gh are.
    let p : Ptr = a.0.ptr in let n : ℕ = a.0.len in
    let y : (walk_of 𝓛 F.ended hs c).Ghost = ((κs, qs, bounds, a, (two_val p n ∷ [], tt)), gh) in let Post : Val → SProp 𝓤 = (walk_of 𝓛 F.ended hs c).post y in
    qed 𝓛 ((‵ ftrue ⊛ ‵ (owns (types_at F.ended.signature.params κs) a y.0.4)) ∷ raw (fact 𝓤 (n < 2 ^ 16)) ∷ []) ∵
    move ! (1 ∷ []) $ heard ! (n < 2 ^ 16) (λ small. split ! $ move ! (1 ∷ []) $ fsplit ! $ fsplit ! $ keep ! (1 ∷ []) $
    in_a_block ! p (λ r. room_owns r n) (fst∗ 𝓤 (never 𝓤) (sem 𝓛 (chunk (block_type n) null_ptr))) (λ b o e. let at : ℕ = o + 10 in let fits : n < 2 ^ 64 = omega arith in
    let xs : List ℕ = replicate n 0 in let fs : List Bool = replicate n false in let z = at_from E 𝓛 𝓜.mem 𝓡.returns [] full_share b at n xs fs in
    regoal ! (λ (r : Ptr). prop (WpFn 𝓤 H 𝓣.C 𝓣.Λ fn (two_val r n ∷ []) Post)) e refl $ fsplit ! $
    use1 𝓛 ((‵ (froom (ty_int w64) b (o + 0)) ⊛ ‵ (froom (ty_int w16) b (o + 8)) ⊛ ‵ (froom (ty_array (ty_int w8) n) b at) ⊛ ‵ ftrue) ⊛ ‵ (rejoins n (block_ptr b o))) (𝓛.laws.room_fields [] _ b o) $
    split ! $ split3 ! $ move ! (2 ∷ []) $ split ! $
    -- [room for the bytes; nothing; for the count; for the length; the way back; what frees]
    enter ! 𝓣.C 𝓣.Λ fn (two_val (block_ptr b o) n ∷ []) Post $ alloc_all ! (λ l. pass_all ! refl (two-Good room.the_type.name (block_ptr b o) n fits, tt) $ let En : Env 𝓤 H = env fn.locals l in
    sets ! (of_opd ! (get_in ! (fld ! refl (stop !)) (sub ! 0 refl (whole !)))) refl (tt, tt) $ sets ! (of_opd ! (get_in ! (fld ! refl (stop !)) (sub ! 1 refl (whole !)))) refl (tt, record { fits = fits }) $
    first ! $ blocks ! $ sets ! (of_opd ! (get ! refl)) refl (tt, tt) $ sets ! (is ! (bin ! (get ! refl) (lit ! tt) tt) (ap (vptr b) (behind o))) refl (tt, tt) $
    use1 𝓛 (‵ (all E b at xs fs)) (of_space (el E) 𝓛 b at n xs (length-replicate n 0)) $ use0 𝓛 (‵ (flft [] full_share)) (𝓛.lfts.lft-nil full_share) $ move ! (1 ∷ 0 ∷ []) $
    use2 𝓛 (raw ((From E 𝓛 𝓜.mem 𝓡.returns).pre z)) (from_goes E 𝓛 𝓜.mem 𝓡.returns [] full_share b at n xs fs (⊑_static []) (sym (length-replicate n 0)) (sym (length-replicate n false)) fits (omega arith)) $
    calls_at_last ! (fm 𝓛 𝓜 𝓡) (From E 𝓛 𝓜.mem 𝓡.returns) (callee.met 𝓤 𝓛 𝓜 𝓡 (code.calls-core::slots::Slots::from_raw_parts 𝓡.env wired) E.row E.laws) z (and_then ! (get ! refl) (and_then ! (get ! refl) (no_more !))) (λ v.
    use1 𝓛 (later (some (λ (r : (Row E).Denot). given ((v ≡ row_val b at n) × Made E 𝓛 𝓜.mem 𝓡.returns [] full_share b at n xs fs r) (‵ ((Row E).own_val r (row_val b at n ∷ [])) ⊛ ‵ (flft [] full_share)))))
    (from_gives E 𝓛 𝓜.mem 𝓡.returns [] full_share b at n xs fs v) $ await ! tt $ pick ! (λ r. learn ! (λ made. split ! $
    lands_last ! refl (row_Typed E v b at n made.0 fits) $ exec ! 𝓣.C 𝓣.Λ En (after 3 fn.body) (at_ret En Post) $
    -- [the slots; a token; nothing; for the count; for the length; the way back; what frees]
    let d : front.the_row.Denot = record { ptr = block_ptr b o; len = n } in let u : Val = two_val d.ptr n in let w : Val = row_val b at n in
    sets ! (is ! (of_opd ! (get ! refl)) made.0) refl (tt, (tt, (record { fits = fits }, tt))) $ sets ! (agg ! (and_then ! (get ! refl) (and_then ! (get ! refl) (no_more !)))) refl (two-Good front.the_type.name d.ptr n fits) $
    sets ! (of_opd ! (get ! refl)) refl (tt, (tt, (record { fits = fits }, tt))) $
    sets ! (agg ! (and_then ! (get ! refl) (and_then ! (get ! refl) (no_more !)))) refl (tt, ((tt, (record { fits = fits }, tt)), ((tt, (record { fits = fits }, tt)), tt))) $
    move ! (6 ∷ 5 ∷ []) $ fjoin ! $ move ! (4 ∷ 5 ∷ 0 ∷ []) $ fjoin3 ! $ use0 𝓛 (‵ (two_own d.ptr n (u ∷ []))) (two_made 𝓛 d.ptr n fits) $ fjoin ! $
    use2 𝓛 (‵ ((Tuple (front.the_row ∷ Row E ∷ [])).own_val (d, r) (pair_val u w ∷ []))) (pair_of 𝓛 front.the_row (Row E) d r u w) $
    returns ! (look_at ! 0 refl) $ free_all ! refl $ keep ! (0 ∷ []) $
    suffices ! _ (ends_at 𝓛 F.ended hs c y (pair_val u w) (d, r) (tt, tt) (tt, tt)) $ says ! (refl, made.1.1, made.1.0) $ nothing ! $ nothing ! $ join ! $ nothing ! $ done !)))))))

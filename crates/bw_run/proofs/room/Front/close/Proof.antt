-- `close` writes the head before the bytes, and makes the first owner. Assumes `Logic`.
use Rattle.std.proofs.Common.{◌≡◌, ℕ, ◌+◌, ◌^◌, ◌<◌, List, [], ◌∷◌, length, refl, sym, ap, ◌∙◌, subst, lit<, w16, arith}
use mir.Syntax.{ty_int}
use mir.Val.{Val}
use base.Fraction.{full_share}
use base.Logic.{SProp, fst∗, never}
use base.Fml.{ftrue, fsep, fex, flft, Incl-refl}
use prog.Wp.{Env, WpFn}
use types.Logic.{sem}
use types.Kit.{‵, raw, ◌⊛◌, given, later, prop, at_ret, ◌$◌, ◌∵◌, !, qed, move, keep, drop, use0, use1, use2, split, split3, join, regoal, rewrite, fsplit, fsplit3, fjoin, fpack, flt_i, learn, await, suffices, done}
use types.Run.{stop, fld, lit, of_opd, un, no_more, and_then, init, assigns, assigns_last, first, blocks, exec, returns, enter}
use types.ByLocal.{alloc_all, pass_all, free_all, look_at, get, get_in, through, sets, lands_last, env}
use types.Part.{agg, sub, whole}
use contract.BorrowLft.{⊑_static}
use contract.Monad.{fact}
use contract.Running.{tables}
use denote.Array.{Array}
use denote.Builtin.{u8, u16}
use denote.Plain.{uint_in}
use denote.RattleType.{owns}
use denote.RawPtr.{Ptr, InBlock, block_ptr, null_ptr, lies_at, room_for, in_a_block, ◌+ₚ◌}
use denote.Signature.{types_at, plain}
use denote.Steps.{nothing, heard}
use denote.Triple.Call.{calls_at_last}
use denote.Triple.Walked.{says, Stays, stay_dropped, walk_of, ends_at, Goes-dropped}
use Rattle.core.proofs.atomic.Steps.{fm}
use Rattle.core.proofs.slots.Opens.{words_val, row_val}
use Rattle.core.proofs.slots.Runs.{to_values}
use Rattle.core.proofs.slots.Slots.into_raw_parts.Met as callee
use Rattle.core.specs.contracts.slots.Slots as slots
use Rattle.core.specs.Mem.Slots.{IsFull}
use Rattle.bw_run.specs.Token.{chunk}
use Rattle.std.proofs.raw_atomic.Walks.{proved}
use Rattle.std_alloc.proofs.ArcSteps.{counted}
use Rattle.std_alloc.proofs.vec.Blocks.{el, all}
use Rattle.std_alloc.proofs.vec.Spares.{Row, Into, at_into, Into-goes, Into-gives, parts_typed}
use Rattle.std_alloc.proofs.VecSteps.El.{El}
use Rattle.std_alloc.proofs.VecSteps.Shapes.{after}
use Rattle.bw_run.specs.Ownership.{block_type, rejoins, front_owns, contents, seen, owner_owns}
use Rattle.bw_run.specs.contracts.room.Front as front
use Rattle.bw_run.specs.contracts.room.Front.close as F
use Rattle.bw_run.proofs.Blocks.{bytes}
use Rattle.bw_run.proofs.Handles.{name, word_made}
use Rattle.bw_run.proofs.Shares.{seen_laws, Lends-contents}
use Rattle.std_heap.proofs.Handle.{heap_val, heap_Tells}
use Rattle.std_heap.specs.contracts.Global as heap
use Rattle.bw_run.proofs.Values.{word, word-Good, two_val, two_told, two-Good}
use Rattle.bw_run.proofs.room.Front.close.Statement.{statement}
use Rattle.bw_run.proofs.room.Front.close.Code as code

pub close_spec : {M : Type 1} → statement M
close_spec 𝓤 𝓛 𝓜 𝓡 wired =
    let H = 𝓛.H in let 𝓣 = tables 𝓤 H 𝓜 𝓡 𝓡.env in let clauses = F.clauses 𝓛 𝓜.mem 𝓡.returns in let fn = code.function in let E : El = bytes in
    let self = plain (λ _. front.the_row) in let row = plain (λ _. slots.the_row u8) in let handle = plain (λ _. heap.the_row) in let hs : Stays F.ended.signature.params F.ended.kept = (stay_dropped self F.ended.kept.0, (stay_dropped row F.ended.kept.1.0, (stay_dropped handle F.ended.kept.1.1.0, tt))) in
    proved 𝓛 F.ended hs clauses 𝓜 𝓡 (Goes-dropped 𝓛 0 self F.ended.kept.0 (λ κs x f. refl), (Goes-dropped 𝓛 0 row F.ended.kept.1.0 (λ κs x f. refl), (Goes-dropped 𝓛 0 handle F.ended.kept.1.1.0 (λ κs x f. refl), tt))) F.Key.name fn (code.unfolded 𝓤 H 𝓜 𝓡 wired)
    (λ κs. ((λ x. two_val x.ptr x.len ∷ []), ((λ x. two_val x.ptr x.len ∷ []), ((λ x. heap_val ∷ []), tt))))
    (λ κs. ((λ x vs so. (two_told x.ptr x.len vs so.0).0), ((λ x vs so. (two_told x.ptr x.len vs so.0).0), (heap_Tells, tt)))) (λ κs qs bounds a gh are.
    let p : Ptr = a.0.ptr in let n : ℕ = a.0.len in let s = a.1.0 in let h = a.1.1.0 in let xs : List ℕ = s.items in let m : ℕ = length xs in
    let y : (walk_of 𝓛 F.ended hs clauses).Ghost = ((κs, qs, bounds, a, (two_val p n ∷ [], (two_val s.ptr s.len ∷ [], (heap_val ∷ [], tt)))), gh) in let Post : Val → SProp 𝓤 = (walk_of 𝓛 F.ended hs clauses).post y in
    let Small : Type 0 = n < 2 ^ 16 in let Places : Type 0 = (s.ptr ≡ p +ₚ 10) × (s.len ≡ n) in let Full : Type 0 = IsFull s in
    qed 𝓛 ((‵ ftrue ⊛ ‵ (owns (types_at F.ended.signature.params κs) a y.0.4)) ∷ (raw (fact 𝓤 Small) ⊛ raw (fact 𝓤 Places) ⊛ raw (fact 𝓤 Full)) ∷ []) ∵
    move ! (1 ∷ []) $ split3 ! $ heard ! Small (λ small. heard ! Places (λ places. heard ! Full (λ full. split ! $ move ! (1 ∷ []) $ fsplit ! $ fsplit ! $ drop ! $ move ! (1 ∷ []) $ fsplit ! $
    -- [the slots; nothing; the front]
    move ! (2 ∷ 0 ∷ []) $ in_a_block ! p (λ r. front_owns r n) (fst∗ 𝓤 (never 𝓤) (sem 𝓛 (fsep (room_for (ty_int w16) (null_ptr +ₚ 8)) (fsep (chunk (block_type n) null_ptr) (rejoins n null_ptr))))) (λ b o e.
    let at : ℕ = o + 10 in let there : s.ptr ≡ block_ptr b at = places.0 ∙ ap (λ (r : Ptr). r +ₚ 10) e in let long : n ≡ m = sym places.1 ∙ s.ok.0 in let short : m < 2 ^ 16 = subst (λ (k : ℕ). k < 2 ^ 16) long small in let fits : m < 2 ^ 64 = omega arith in
    let z = at_into E 𝓛 𝓜.mem 𝓡.returns [] full_share s b at in let c : Ptr = block_ptr b o in
    regoal ! (λ (r : (Ptr × ℕ) × Ptr). prop (WpFn 𝓤 H 𝓣.C 𝓣.Λ fn (two_val r.0.0 r.0.1 ∷ two_val r.1 s.len ∷ heap_val ∷ []) Post)) (λ i. ((e i, long i), there i)) refl $
    rewrite ! 0 (λ (k : ℕ). ‵ (front_owns c k)) long refl $ rewrite ! 1 (λ (r : Ptr). ‵ ((Row E).own_val s (words_val r s.len ∷ []))) there refl $
    enter ! 𝓣.C 𝓣.Λ fn (two_val c m ∷ row_val b at s.len ∷ heap_val ∷ []) Post $ alloc_all ! (λ l. pass_all ! refl (two-Good front.the_type.name c m fits, ((tt, (tt, (record { fits = s.small }, tt))), ((tt, ((tt, tt), tt)), tt))) $ let En : Env 𝓤 H = env fn.locals l in
    sets ! (of_opd ! (get_in ! (fld ! refl (stop !)) (sub ! 0 refl (whole !)))) refl (tt, tt) $ sets ! (of_opd ! (get_in ! (fld ! refl (stop !)) (sub ! 1 refl (whole !)))) refl (tt, record { fits = fits }) $
    first ! $ blocks ! $ sets ! (of_opd ! (get ! refl)) refl (tt, (tt, (record { fits = s.small }, tt))) $
    use0 𝓛 (‵ (flft [] full_share)) (𝓛.lfts.lft-nil full_share) $ move ! (2 ∷ 0 ∷ []) $ use2 𝓛 (raw ((Into E 𝓛 𝓜.mem 𝓡.returns).pre z)) (Into-goes E 𝓛 𝓜.mem 𝓡.returns [] full_share s b at (⊑_static [])) $
    calls_at_last ! (fm 𝓛 𝓜 𝓡) (Into E 𝓛 𝓜.mem 𝓡.returns) (callee.met 𝓤 𝓛 𝓜 𝓡 (code.calls-core::slots::Slots::into_raw_parts 𝓡.env wired) E.row E.laws) z (and_then ! (get ! refl) (no_more !)) (λ v.
    use1 𝓛 (later (given (v ≡ row_val b at s.len) (‵ (all E b at xs s.filled) ⊛ ‵ (flft [] full_share)))) (Into-gives E 𝓛 𝓜.mem 𝓡.returns [] full_share s b at v there) $ await ! tt $ learn ! (λ is. split ! $
    lands_last ! refl (parts_typed v b at s.len is s.small) $ exec ! 𝓣.C 𝓣.Λ En (after 3 fn.body) (at_ret En Post) $
    sets ! (of_opd ! (get ! refl)) refl (parts_typed v b at s.len is s.small) $
    -- [the bytes' places; a token; the front]
    use1 𝓛 (‵ (lies_at (Array u8 m) full_share (block_ptr b at) xs)) (to_values (el E) 𝓛 b at m xs refl s.filled (sym s.ok.1 ∙ s.ok.0) (λ k low high. full k low (omega (arith, s.ok.0)))) $
    move ! (2 ∷ []) $ fsplit3 ! $ first ! $ blocks ! $
    assigns ! (of_opd ! (lit ! tt)) (through ! refl (fld ! refl (stop !))) (init ! 0 refl (tt, record { fits = lit< tt })) $ sets ! (un ! (get ! refl) (record { fits = short })) refl (tt, record { fits = short }) $
    assigns_last ! (of_opd ! (get ! refl)) (through ! refl (fld ! refl (stop !))) (init ! 1 refl (tt, record { fits = short })) $ exec ! 𝓣.C 𝓣.Λ En (after 5 fn.body) (at_ret En Post) $
    -- [the count; the length; what frees; the bytes; a token]
    move ! (3 ∷ 2 ∷ []) $ fjoin ! $ move ! (2 ∷ []) $ use1 𝓛 (‵ (lies_at u16 full_share (c +ₚ 8) m)) (uint_in 𝓛 full_share w16 m b (o + 8)) $ move ! (0 ∷ 1 ∷ []) $ fjoin ! $ move ! (1 ∷ 0 ∷ []) $ fjoin ! $
    use2 𝓛 (later (‵ (fex ℕ (owner_owns c xs)) ⊛ ‵ (flft [] full_share))) (counted (contents c xs) b (o + 0) (seen c xs) (seen_laws c xs) 𝓛 [] (Lends-contents c xs 𝓛 []) [] full_share (Incl-refl [])) $ await ! tt $ split ! $
    flt_i ! m (2 ^ 16) short $ nothing ! $ fpack ! (InBlock c) (λ _. ftrue) tt $ fjoin ! $ fjoin ! $
    sets ! (agg ! (and_then ! (get ! refl) (and_then ! (get ! refl) (no_more !)))) refl (word-Good name c) $ word_made c h ! $ fjoin ! $
    returns ! (look_at ! 0 refl) $ free_all ! refl $ keep ! (0 ∷ []) $
    suffices ! _ (ends_at 𝓛 F.ended hs clauses y (word c) (record { ptr = c; alloc = h; bytes = xs }) (tt, (tt, (tt, tt))) (tt, (tt, (tt, tt)))) $ says ! refl $ nothing ! $ nothing ! $ join ! $ nothing ! $ join ! $ nothing ! $ join ! $ nothing ! $ done !))))))))

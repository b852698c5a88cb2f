-- One record more is planned after those of its group before it, and the store would be sound after
-- it.

use Rattle.std.proofs.Common.{◌≡◌, ℕ, zero, suc, ◌+◌, ◌-◌, ◌^◌, ◌<◌, ◌≤◌, false, Option, Some, None, List, [], ◌∷◌, ◌++◌}
use Rattle.std.proofs.Common.{length, map, refl, sym, ap, ◌∙◌, subst, arith}
use Rattle.std.proofs.lemmas.List.{map-append}
use Rattle.std.specs.Prelude.{unwrap_or, slice_get}
use Rattle.std.specs.List.{AllByRecursion as All}
use Rattle.std.proofs.lemmas.Grind.{fold-append}
use Rattle.bw_record.specs.Lawful.{IsOp}
use Rattle.bw_codec.specs.Grammar.{IsBlock}
use Rattle.bw_record.specs.Record.{key_of}
use Rattle.bw_record.specs.declared.record.Record.{Record}
use Rattle.bw_record.specs.declared.leaf.Leaf.{Leaf}
use Rattle.bw_record.specs.declared.block.Place.{Place}
use Rattle.bw_record.specs.declared.block.Block.{Block}
use Rattle.bw_codec.proofs.Wider.{blocks_wider}
use Rattle.bw_page.specs.Leaves.{directed_at, HasPage, AreLeaves}
use Rattle.bw_page.proofs.Indexed.{home_within}
use Rattle.bw_making.proofs.Joins.{all-append}
use Rattle.bw_buffer.specs.Filling.{Filling, frame_of, with_all, size_of}
use Rattle.bw_buffer.specs.Counting.{grown}
use Rattle.bw_buffer.specs.Joining.{joins, open_records}
use Rattle.bw_buffer.proofs.Holding.{few_blocks}
use Rattle.bw_log.specs.Contents as logs
use Rattle.bw_log.proofs.Adding.{following_is}
use Rattle.bw_ring.specs.Marks.{Marked}
use Rattle.bw_making.specs.declared.draft.Row.{Row}
use Rattle.bw_making.specs.declared.draft.Draft.{Draft}
use Rattle.bw_making.specs.Adding.{Drawn, back_in, blocks_in, count_after, drawn_by, here_for, last_for, nowhere, planned, result_of, upper_if}
use Rattle.bw_core.specs.Drafting.{IsAhead, Stands, behind, drawn_behind}
use Rattle.bw_making.specs.Drafting.{Added, count_with, open_in, place_by, place_in, place_with, records_in}
use Rattle.bw_making.specs.Drafting.{row_by, row_for, row_in}
use Rattle.bw_core.specs.Fitting.{back_for, drawn_of, group_blocks}
use Rattle.bw_core.specs.Kept.{Kept, IsSound}
use Rattle.bw_core.specs.Taken.{alone, taken, taken_all}
use Rattle.bw_core.proofs.Ahead.{Knows, knows_more, count_more, planned_for_is}
use Rattle.bw_core.proofs.Drafts.{items_alone, drawn_all, filed_m, made_all, blocks_push, rows_push, taken_push}
use Rattle.bw_core.proofs.Growing.{Takes, blocks_lawful}
use Rattle.bw_core.proofs.Planned.{takes_by}
use Rattle.bw_core.proofs.RecordMore.{TakesOne, taken_sound}

-- ---- lists

pub some_at : {X : Type 0} (xs : List X) (i : ℕ) (d : X) → i < length xs → slice_get xs i ≡ Some (unwrap_or (slice_get xs i) d)
some_at [] i d lt = absurd (omega arith)
some_at (x ∷ xs) zero d lt = refl
some_at (x ∷ xs) (suc i) d lt = some_at xs i d (omega arith)

pub none_at : {X : Type 0} (xs : List X) (i : ℕ) (x : X) → slice_get xs i ≡ Some x → i < length xs
none_at [] i x e = absurd cc
none_at (y ∷ ys) zero x e = omega arith
none_at (y ∷ ys) (suc i) x e = (let rest = none_at ys i x e in omega arith)

-- ---- the store after some records

module _ (s : Kept) (lane : ℕ) (done : List Record) where
  abbrev now : Kept
  now = behind s lane done

  abbrev d : Drawn
  d = drawn_behind s done

  pub drawn_is : drawn_of now ≡ d
  drawn_is = drawn_all s lane (map alone done) ∙ ap (drawn_behind s) (items_alone done)

  pub pairs_are : now.filed.m ≡ s.filed.m
  pairs_are = filed_m s lane (map alone done)

  pub making_is : now.making ≡ with_all s.making (group_blocks s done)
  making_is = made_all s lane (map alone done) ∙ ap (λ (rs : List Record). with_all s.making (group_blocks s rs)) (items_alone done)

  leaves_are : now.filed.leaves ≡ d.leaves
  leaves_are = ap (λ (x : Drawn). x.leaves) drawn_is

  pub number_is : d.frame.number ≡ s.making.frame
  number_is = sym (ap (λ (x : Drawn). x.frame.number) drawn_is) ∙ ap (λ (b : Filling). b.frame) making_is

  pub behind_next : (r : Record) → behind s lane (done ++ r ∷ []) ≡ taken now lane (alone r) (back_for now r)
  behind_next r = ap (taken_all s lane) (map-append alone done (r ∷ [])) ∙ taken_push s lane (map alone done) (alone r)

  module _ (t : Stands s lane done) where
    pub some_pairs : 1 ≤ s.filed.m
    some_pairs = (let l = t.sound.log.holds.limits in let p = t.sound.pairs in let q = pairs_are in omega arith)

    pub lawful_is : AreLeaves s.filed.m d.leaves
    lawful_is = subst (λ (m : ℕ). AreLeaves m d.leaves) pairs_are (subst (AreLeaves now.filed.m) leaves_are t.sound.grown.stands.lawful)

    pub count_is : length d.newest ≡ length d.leaves
    count_is = sym (ap (λ (x : Drawn). length x.newest) drawn_is) ∙ t.sound.grown.count ∙ ap length leaves_are

    pub page_is : (r : Record) → (1 ≤ directed_at d.leaves r) × (directed_at d.leaves r ≤ length d.leaves)
    page_is r = home_within s.filed.m (key_of r) d.leaves lawful_is

    pub few_is : length d.frame.blocks + 2 < 2 ^ 32
    few_is =
        (let k = few_blocks now.making.blocks in
        let fits = t.fits in
        let limit = t.sound.limit in
        let top = t.sound.log.holds.limits.3 in
        let same = ap (λ (x : Drawn). length x.frame.blocks) drawn_is in
        omega arith)

    takes_next : (r : Record) → IsOp r → HasPage s.filed.m d.leaves r
        → Takes now.filed.m (logs.counted now.log) (frame_of now.making) now.filed.leaves now.newest (back_for now r) r
    takes_next r op room =
        let here = home_within now.filed.m (key_of r) now.filed.leaves t.sound.grown.stands.lawful in
        let count = t.sound.grown.count in
        takes_by now t.sound r (back_for now r) op
        (subst (λ (m : ℕ). HasPage m now.filed.leaves r) (sym pairs_are) (subst (λ (ls : List Leaf). HasPage s.filed.m ls r) (sym leaves_are) room))
        t.next t.fits (some_at now.newest (directed_at now.filed.leaves r - 1) nowhere (omega arith))

    -- its blocks are lawful
    pub next_lawful : (r : Record) → IsOp r → HasPage s.filed.m d.leaves r → All (IsBlock 32) (blocks_in s.filed.m d r)
    next_lawful r op room =
        let all = blocks_lawful now.filed.m (logs.counted now.log) (frame_of now.making) now.filed.leaves now.newest (back_for now r) r
        (takes_next r op room) in
        let p = t.sound.pairs in
        let l = t.sound.log.holds.limits in
        let wide = blocks_wider now.filed.m 32 _ (omega arith) all in
        subst (λ (x : Drawn). All (IsBlock 32) (blocks_in s.filed.m x r)) drawn_is
        (subst (λ (m : ℕ). All (IsBlock 32) (blocks_in m (drawn_of now) r)) pairs_are wide)

    -- and if they fit, the store would be sound after it
    pub stands_next : (r : Record) → IsOp r → HasPage s.filed.m d.leaves r → lane < length s.rings
        → size_of (with_all s.making (group_blocks s (done ++ r ∷ []))) ≤ s.making.limit → Stands s lane (done ++ r ∷ [])
    stands_next r op room inside fits =
        let after = taken now lane (alone r) (back_for now r) in
        let made : after.making ≡ with_all s.making (group_blocks s (done ++ r ∷ [])) =
        ap (λ (k : Kept). k.making) (sym (behind_next r)) ∙ making_then s lane (done ++ r ∷ []) in
        let short = ap size_of made in
        let limit = ap (λ (b : Filling). b.limit) making_is in
        let top = t.sound.limit in
        let most = t.sound.log.holds.limits.3 in
        let number = following_is (now.before + now.durable) now.making.frame (sym t.sound.next ∙ t.next) in
        let one : TakesOne now lane r (back_for now r) = record {
          sound = t.sound;
          takes = takes_next r op room;
          number = number;
          inside = subst (λ (n : ℕ). lane < n) (rings_are s lane (map alone done)) inside;
          works = t.works;
        } in
        let sound = taken_sound now lane (alone r) (back_for now r) one in
        subst (λ (k : Kept). (IsSound k × (k.log.next ≡ Some k.making.frame) × (size_of k.making ≤ k.making.limit) × (k.log.is_failed ≡ false))
        → Stands s lane (done ++ r ∷ [])) (behind_next r) (λ x. record { sound = x.0; next = x.1; fits = x.2; works = x.3 })
        (sound, t.next, omega arith, t.works)
      where
        making_then : (s : Kept) (lane : ℕ) (rs : List Record) → (behind s lane rs).making ≡ with_all s.making (group_blocks s rs)
        making_then s lane rs = made_all s lane (map alone rs) ∙ ap (λ (xs : List Record). with_all s.making (group_blocks s xs)) (items_alone rs)

        rings_are : (s : Kept) (lane : ℕ) (ms : List Marked) → length s.rings ≡ length (taken_all s lane ms).rings
        rings_are s lane [] = refl
        rings_are s lane (m ∷ ms) = rings_are (taken s lane m (back_for s m.item)) lane ms

    -- ---- the draft with it

    module _ (old new : Draft) (a : IsAhead s done old) (r : Record) (page : ℕ) (upper : Option Leaf) (op : IsOp r) (room : HasPage s.filed.m d.leaves r)
        (at : page ≡ directed_at d.leaves r) (up : upper ≡ upper_if s.filed.m (length d.leaves + 1) (result_of d.leaves r)) where
      pub row_there : row_in old.rows.items page ≡ None → (1 ≤ page) × (page ≤ length s.newest)
      row_there none =
          let range = page_is r in
          let count = count_is in
          let there = a.places page (omega arith) (omega arith) in
          let some = some_at d.newest (page - 1) nowhere (omega arith) in
          let base : slice_get s.newest (page - 1) ≡ Some (unwrap_or (slice_get d.newest (page - 1)) nowhere) =
          sym (ap (λ (o : Option Row). place_by o (slice_get s.newest (page - 1))) none) ∙ there ∙ some in
          let lt = none_at s.newest (page - 1) _ base in (omega arith, omega arith)

      pub few_before : old.count + 2 < 2 ^ 32
      few_before = (let few = few_is in let count = a.count in omega arith)

      pub ahead_next : Added old s.making s.newest r page upper new → IsAhead s (done ++ r ∷ []) new
      ahead_next x =
          let m = s.filed.m in
          let p0 = directed_at d.leaves r in
          let range = page_is r in
          let back : unwrap_or (place_in old.rows.items s.newest page) nowhere ≡ back_in d r =
          ap (λ (o : Option Place). unwrap_or o nowhere) (a.places page (omega arith) (omega arith))
          ∙ ap (λ (p : ℕ). unwrap_or (slice_get d.newest (p - 1)) nowhere) at in
          let open_is : open_in old.rows.items s.making.blocks page ≡ joins p0 d.frame.blocks =
          a.opens page (omega arith) (omega arith) ∙ ap (λ (p : ℕ). joins p d.frame.blocks) at in
          let records_is : records_in old.rows.items s.making.blocks page ≡ open_records p0 d.frame.blocks =
          a.records page (omega arith) (omega arith) ∙ ap (λ (p : ℕ). open_records p d.frame.blocks) at in
          let here : place_with s.making.frame (unwrap_or (open_in old.rows.items s.making.blocks page) old.count) ≡ here_for d.frame p0 =
          ap (λ (n : ℕ). place_with n (unwrap_or (open_in old.rows.items s.making.blocks page) old.count)) (sym number_is)
          ∙ ap (λ (o : Option ℕ). place_with d.frame.number (unwrap_or o old.count)) open_is
          ∙ ap (λ (n : ℕ). place_with d.frame.number (unwrap_or (joins p0 d.frame.blocks) n)) a.count in
          let last : place_with s.making.frame (count_after (open_in old.rows.items s.making.blocks page) old.count) ≡ last_for d.frame p0 =
          ap (λ (n : ℕ). place_with n (count_after (open_in old.rows.items s.making.blocks page) old.count)) (sym number_is)
          ∙ ap (λ (o : Option ℕ). place_with d.frame.number (count_after o old.count)) open_is
          ∙ ap (λ (n : ℕ). place_with d.frame.number (count_after (joins p0 d.frame.blocks) n)) a.count in
          let upper_is : Option Leaf = upper_if m (length d.leaves + 1) (result_of d.leaves r) in
          let more : planned page (unwrap_or (place_in old.rows.items s.newest page) nowhere)
          (place_with s.making.frame (unwrap_or (open_in old.rows.items s.making.blocks page) old.count)) r upper ≡ blocks_in m d r =
          ap (λ (b : Place). planned page b (place_with s.making.frame (unwrap_or (open_in old.rows.items s.making.blocks page) old.count)) r upper) back
          ∙ ap (λ (h : Place). planned page (back_in d r) h r upper) here
          ∙ ap (λ (p : ℕ). planned p (back_in d r) (here_for d.frame p0) r upper) at
          ∙ ap (λ (u : Option Leaf). planned p0 (back_in d r) (here_for d.frame p0) r u) up
          ∙ planned_for_is m d.leaves (back_in d r) (here_for d.frame p0) r in
          let row : row_by page (place_with s.making.frame (unwrap_or (open_in old.rows.items s.making.blocks page) old.count))
          (place_with s.making.frame (count_after (open_in old.rows.items s.making.blocks page) old.count))
          (grown (records_in old.rows.items s.making.blocks page) 1) upper ≡ row_for m d r =
          ap (λ (h : Place). row_by page h (place_with s.making.frame (count_after (open_in old.rows.items s.making.blocks page) old.count))
          (grown (records_in old.rows.items s.making.blocks page) 1) upper) here
          ∙ ap (λ (l : Place). row_by page (here_for d.frame p0) l (grown (records_in old.rows.items s.making.blocks page) 1) upper) last
          ∙ ap (λ (o : Option ℕ). row_by page (here_for d.frame p0) (last_for d.frame p0) (grown o 1) upper) records_is
          ∙ ap (λ (p : ℕ). row_by p (here_for d.frame p0) (last_for d.frame p0) (grown (open_records p0 d.frame.blocks) 1) upper) at
          ∙ ap (λ (u : Option Leaf). row_by p0 (here_for d.frame p0) (last_for d.frame p0) (grown (open_records p0 d.frame.blocks) 1) u) up in
          let blocks : new.blocks.items ≡ group_blocks s (done ++ r ∷ []) =
          x.blocks ∙ ap (λ (bs : List Block). old.blocks.items ++ bs) more ∙ ap (λ (bs : List Block). bs ++ blocks_in m d r) a.blocks
          ∙ sym (blocks_push m (drawn_of s) done r) in
          let added_row : new.rows.items ≡ old.rows.items ++ row_for m d r ∷ [] = x.rows ∙ ap (λ (w : Row). old.rows.items ++ w ∷ []) row in
          let behind_is : drawn_behind s (done ++ r ∷ []) ≡ drawn_by m d r = fold-append (drawn_by m) (drawn_of s) done (r ∷ []) in
          let count : new.count ≡ length (drawn_by m d r).frame.blocks =
          x.count ∙ ap (λ (o : Option ℕ). count_with upper (count_after o old.count)) open_is
          ∙ ap (λ (n : ℕ). count_with upper (count_after (joins p0 d.frame.blocks) n)) a.count
          ∙ ap (λ (u : Option Leaf). count_with u (count_after (joins p0 d.frame.blocks) (length d.frame.blocks))) up
          ∙ sym (count_more m d r some_pairs lawful_is op count_is range.0 range.1) in
          let known : Knows old.rows.items s.newest s.making.blocks d = record { places = a.places; opens = a.opens; records = a.records } in
          let more_known : Knows new.rows.items s.newest s.making.blocks (drawn_by m d r) =
          subst (λ (rows : List Row). Knows rows s.newest s.making.blocks (drawn_by m d r)) (sym added_row)
          (knows_more m d r some_pairs lawful_is op count_is range.0 range.1 old.rows.items s.newest s.making.blocks known) in
          let now_known : Knows new.rows.items s.newest s.making.blocks (drawn_behind s (done ++ r ∷ [])) =
          subst (Knows new.rows.items s.newest s.making.blocks) (sym behind_is) more_known in
          record {
            blocks = blocks;
            rows = added_row ∙ ap (λ (ws : List Row). ws ++ row_for m d r ∷ []) a.rows ∙ sym (rows_push m (drawn_of s) done r);
            count = count ∙ ap (λ (y : Drawn). length y.frame.blocks) (sym behind_is);
            lawful = subst (All (IsBlock 32)) (sym (x.blocks ∙ ap (λ (bs : List Block). old.blocks.items ++ bs) more))
                (all-append (IsBlock 32) old.blocks.items (blocks_in m d r) a.lawful (next_lawful r op room));
            places = now_known.places;
            opens = now_known.opens;
            records = now_known.records;
          }

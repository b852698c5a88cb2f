-- What each question of the store answers for blocks of which Deltas joined.

use Rattle.std.proofs.Common.{◌≡◌, ℕ, suc, ◌+◌, ◌^◌, ◌<◌, ◌≤◌, true, false, Option, Some, None, List, [], ◌∷◌, ◌++◌, length}
use Rattle.std.proofs.Common.{refl, sym, ap, ◌∙◌, subst, append-nil, arith, if◌then◌else◌, length-append}
use Rattle.std.specs.Prelude.{◌==◌, ◌||◌, unwrap_or}
use Rattle.std.specs.List.{AllByRecursion as All, fold, list_any}
use Rattle.std.specs.Option.{option_map}
use Rattle.std.proofs.lemmas.Bool.{eqb-true, or_parts, or_from}
use Rattle.std.proofs.lemmas.Grind.{fold-append, flat_map-append}
use Rattle.std.proofs.lemmas.List.Folds.{list_any-append}
use Rattle.bw_record.specs.Lawful.{IsOp}
use Rattle.bw_codec.specs.Grammar.{block_bytes, body_bytes, IsBlock}
use Rattle.bw_record.specs.Touch.{touches}
use Rattle.bw_record.specs.declared.record.Record.{Record}
use Rattle.bw_record.specs.declared.leaf.Leaf.{Leaf}
use Rattle.bw_record.specs.declared.block.Place.{Place}
use Rattle.bw_record.specs.declared.block.Block.{Block}
use Rattle.bw_record.specs.declared.block.Block.TheVariants.{Delta, Base, Split}
use Rattle.bw_record.specs.declared.block.Frame.{Frame}
use Rattle.bw_leaf.specs.Changed.{changed, all_changed}
use Rattle.bw_leaf.specs.Forwards.{after, content, blocks_of}
use Rattle.bw_page.proofs.OneStanding.{untouched}
use Rattle.bw_buffer.specs.Joining.{is_delta, open_after, open_from, last_delta, open_records, records_after, records_in, takes, joins, joins_of}
use Rattle.bw_buffer.specs.Joining.{joined_by, joined, added}
use Rattle.bw_buffer.proofs.Joined.{StandsOpen, Joinable, JoinsIn, found, joins_parts, joins_one, joins_none, added_fold, added_flat, added_any, added_touches}
use Rattle.bw_buffer.proofs.Sizes.{pushed_size, joined_size}
use Rattle.bw_log.proofs.Walks.{content_push}
use Rattle.bw_making.specs.Adding.{with_blocks}
use Rattle.bw_making.specs.Share.{ops_of, ops_at, split_of, splits_in, base_of, bases_in}
use Rattle.bw_making.specs.Overlay.{makes, is_made}

pub all-append : {X : Type 0} (P : X → Type 0) (xs ys : List X) → All P xs → All P ys → All P (xs ++ ys)
all-append P [] ys h k = k
all-append P (x ∷ xs) ys h k = (h.0, all-append P xs ys h.1 k)

-- ---- content

changed_twice : (old new : List Record) (w : Option Leaf) → option_map (all_changed (old ++ new)) w ≡ option_map (all_changed new)
    (option_map (all_changed old) w)
changed_twice old new None = refl
changed_twice old new (Some leaf) = ap Some (fold-append (λ l r. changed r l) leaf old new)

after_more : (p : ℕ) (a : Option Leaf) (q : ℕ) (one back : Place) (old new : List Record)
    → after p a (Delta q one (old ++ new)) ≡ after p (after p a (Delta q one old)) (Delta q back new)
after_more p a q one back old new =
    elim (q == p) as (λ t. (if t then option_map (all_changed (old ++ new)) a else a)
    ≡ (if t then option_map (all_changed new) (if t then option_map (all_changed old) a else a) else if t then option_map (all_changed old) a else a)) [
      | true ↦ changed_twice old new a
      | false ↦ refl
    ]

after_past : (p : ℕ) (a : Option Leaf) (q : ℕ) (back : Place) (new : List Record) (c : Block) → touches q c ≡ false
    → after p (after p a c) (Delta q back new) ≡ after p (after p a (Delta q back new)) c
after_past p a q back new c quiet =
    let delta = Delta q back new in
    elim (q == p) as (λ t. (q == p) ≡ t → after p (after p a c) delta ≡ after p (after p a delta) c) [
      | true ↦ λ e. (
          let none : touches p c ≡ false = subst (λ (n : ℕ). touches n c ≡ false) (eqb-true q p e) quiet in
          ap (λ (w : Option Leaf). after p w delta) (untouched p a (c ∷ []) (none, tt)) ∙ sym (untouched p (after p a delta) (c ∷ []) (none, tt)))
      | false ↦ λ e. (rw e refl)
    ] refl

after_joins : (p : ℕ) → Joinable (after p)
after_joins p = record { more = λ a q one back old new. after_more p a q one back old new; past = λ a q back new c quiet. after_past p a q back new c quiet }

-- a page in frames of which the last got further blocks
pub content_with : (p : ℕ) (fs : List Frame) (f : Frame) (bs : List Block)
    → content p (blocks_of (fs ++ with_blocks f bs ∷ [])) ≡ fold (after p) (content p (blocks_of (fs ++ f ∷ []))) bs
content_with p fs f bs =
    content_push p fs (with_blocks f bs)
    ∙ added_fold (after p) (after_joins p) (content p (blocks_of fs)) f.blocks bs
    ∙ fold-append (after p) (content p (blocks_of fs)) f.blocks bs
    ∙ ap (λ (w : Option Leaf). fold (after p) w bs) (sym (content_push p fs f))

-- ---- pages that no block touches

pub none_touches : (p : ℕ) (blocks : List Block) → All (λ b. touches p b ≡ false) blocks → list_any (touches p) blocks ≡ false
none_touches p [] h = refl
none_touches p (b ∷ bs) h = rw h.0 (none_touches p bs h.1)

all_quiet : (p : ℕ) (blocks : List Block) → list_any (touches p) blocks ≡ false → All (λ b. touches p b ≡ false) blocks
all_quiet p [] e = tt
all_quiet p (b ∷ bs) e = (let parts = or_parts (touches p b) (list_any (touches p) bs) e in (parts.0, all_quiet p bs parts.1))

blocks_push : (fs : List Frame) (f : Frame) → blocks_of (fs ++ f ∷ []) ≡ blocks_of fs ++ f.blocks
blocks_push fs f = flat_map-append (λ (x : Frame). x.blocks) fs (f ∷ []) ∙ ap (λ (l : List Block). blocks_of fs ++ l) (append-nil f.blocks)

pub quiet_with : (p : ℕ) (fs : List Frame) (f : Frame) (bs : List Block) → All (λ b. touches p b ≡ false) (blocks_of (fs ++ f ∷ []))
    → All (λ b. touches p b ≡ false) bs → All (λ b. touches p b ≡ false) (blocks_of (fs ++ with_blocks f bs ∷ []))
quiet_with p fs f bs old new =
    let was : (list_any (touches p) (blocks_of fs) || list_any (touches p) f.blocks) ≡ false =
    sym (list_any-append (touches p) (blocks_of fs) f.blocks) ∙ ap (list_any (touches p)) (sym (blocks_push fs f))
    ∙ none_touches p (blocks_of (fs ++ f ∷ [])) old in
    let parts = or_parts (list_any (touches p) (blocks_of fs)) (list_any (touches p) f.blocks) was in
    let last : list_any (touches p) (added f.blocks bs) ≡ false =
    added_touches p f.blocks bs ∙ list_any-append (touches p) f.blocks bs
    ∙ or_from (list_any (touches p) f.blocks) (list_any (touches p) bs) parts.1 (none_touches p bs new) in
    all_quiet p (blocks_of (fs ++ with_blocks f bs ∷ []))
    (ap (list_any (touches p)) (blocks_push fs (with_blocks f bs)) ∙ list_any-append (touches p) (blocks_of fs) (added f.blocks bs)
    ∙ or_from (list_any (touches p) (blocks_of fs)) (list_any (touches p) (added f.blocks bs)) parts.0 last)

-- ---- what blocks say

ops_quiet : (p : ℕ) (c : Block) → touches p c ≡ false → ops_of p c ≡ []
ops_quiet p (Delta page back ops) e = rw e refl
ops_quiet p (Base leaf) e = refl
ops_quiet p (Split page back upper) e = refl

ops_join : (p : ℕ) → JoinsIn (ops_of p)
ops_join p = record {
  more = λ q one back old new.
      elim (q == p) as (λ t. (if t then old ++ new else []) ≡ (if t then old else []) ++ (if t then new else [])) [ true ↦ refl | false ↦ refl ];
  past = λ q back new c quiet.
      elim (q == p) as (λ t. (q == p) ≡ t → ops_of p c ++ (if t then new else []) ≡ (if t then new else []) ++ ops_of p c) [
        | true ↦ λ e. (
            let none = ops_quiet p c (subst (λ (n : ℕ). touches n c ≡ false) (eqb-true q p e) quiet) in
            ap (λ (l : List Record). l ++ new) none ∙ sym (append-nil new) ∙ ap (λ (l : List Record). new ++ l) (sym none))
        | false ↦ λ e. append-nil (ops_of p c)
      ] refl;
}

pub added_ops : (p : ℕ) (blocks more : List Block) → ops_at p (added blocks more) ≡ ops_at p blocks ++ ops_at p more
added_ops p blocks more = added_flat (ops_of p) (ops_join p) blocks more

pub added_splits : (blocks more : List Block) → splits_in (added blocks more) ≡ splits_in blocks ++ splits_in more
added_splits blocks more =
    added_flat split_of (record { more = λ p one back old new. refl; past = λ p back new c quiet. append-nil (split_of c) }) blocks more

pub added_bases : (blocks more : List Block) → bases_in (added blocks more) ≡ bases_in blocks ++ bases_in more
added_bases blocks more =
    added_flat base_of (record { more = λ p one back old new. refl; past = λ p back new c quiet. append-nil (base_of c) }) blocks more

pub added_made : (p : ℕ) (blocks more : List Block) → is_made p (added blocks more) ≡ is_made p (blocks ++ more)
added_made p blocks more = added_any (makes p) (λ q one back old new. refl) blocks more

-- ---- after a Base, which nothing joins

open_suc : (p i : ℕ) (was : Option ℕ) (bs : List Block) → open_from p (suc i) (option_map suc was) bs ≡ option_map suc (open_from p i was bs)
open_suc p i was [] = refl
open_suc p i was (b ∷ bs) =
    ap (λ (o : Option ℕ). open_from p (suc (suc i)) o bs)
    (elim (touches p b) as (λ t. (if t then (if is_delta b then Some (suc i) else None) else option_map suc was)
    ≡ option_map suc (if t then (if is_delta b then Some i else None) else was)) [
      | true ↦ elim (is_delta b) as (λ t. ◌≡◌ {A = Option ℕ} (if t then Some (suc i) else None) (option_map suc (if t then Some i else None)))
          [ true ↦ refl | false ↦ refl ]
      | false ↦ refl
    ])
    ∙ open_suc p (suc i) (open_after p i b was) bs

behind_none : (p : ℕ) (leaf : Leaf) → (if touches p (Base leaf) then records_in (Base leaf) else None) ≡ None
behind_none p leaf = elim (leaf.page == p) as (λ t. ◌≡◌ {A = Option ℕ} (if t then None else None) None) [ true ↦ refl | false ↦ refl ]

joins_behind : (n p : ℕ) (leaf : Leaf) (bs : List Block) → joins_of n p (Base leaf ∷ bs) ≡ option_map suc (joins_of n p bs)
joins_behind n p leaf bs =
    let last : last_delta p (Base leaf ∷ bs) ≡ option_map suc (last_delta p bs) =
    ap (λ (o : Option ℕ). open_from p (suc 0) o bs) (elim (leaf.page == p) as (λ t. ◌≡◌ {A = Option ℕ} (if t then None else None) None)
    [ true ↦ refl | false ↦ refl ])
    ∙ open_suc p 0 None bs in
    ap (λ (o : Option ℕ). if takes n (fold (records_after p) o bs) then last_delta p (Base leaf ∷ bs) else None) (behind_none p leaf)
    ∙ ap (λ (o : Option ℕ). if takes n (open_records p bs) then o else None) last
    ∙ elim (takes n (open_records p bs)) as (λ t. (if t then option_map suc (last_delta p bs) else None) ≡ option_map suc (if t then last_delta p bs else None))
    [ true ↦ refl | false ↦ refl ]

joined_behind : (leaf : Leaf) (bs : List Block) (b : Block) → joined (Base leaf ∷ bs) b ≡ Base leaf ∷ joined bs b
joined_behind leaf bs (Delta p back ops) =
    ap (λ (o : Option ℕ). joined_by o ops (Delta p back ops) (Base leaf ∷ bs)) (joins_behind (length ops) p leaf bs)
    ∙ elim (joins_of (length ops) p bs) as (λ o. joined_by (option_map suc o) ops (Delta p back ops) (Base leaf ∷ bs) ≡ Base leaf ∷ joined_by o ops
    (Delta p back ops) bs) [
      | None ↦ refl
      | Some i ↦ refl
    ]
joined_behind leaf bs (Base other) = refl
joined_behind leaf bs (Split page back upper) = refl

pub added_behind : (leaf : Leaf) (bs more : List Block) → added (Base leaf ∷ bs) more ≡ Base leaf ∷ added bs more
added_behind leaf bs [] = refl
added_behind leaf bs (b ∷ more) = ap (λ (l : List Block). added l more) (joined_behind leaf bs b) ∙ added_behind leaf (joined bs b) more

-- ---- lawful blocks

all-parts : {X : Type 0} (P : X → Type 0) (xs : List X) (y : X) (ys : List X) → All P (xs ++ y ∷ ys) → All P xs × P y × All P ys
all-parts P [] y ys h = (tt, h.0, h.1)
all-parts P (x ∷ xs) y ys h = (let r = all-parts P xs y ys h.1 in ((h.0, r.0), r.1, r.2))

joined_lawful : (m : ℕ) (bs : List Block) (b : Block) → All (IsBlock m) bs → IsBlock m b → All (IsBlock m) (joined bs b)
joined_lawful m bs (Delta p back ops) old new =
    elim (joins_of (length ops) p bs) as (λ o. joins_of (length ops) p bs ≡ o → All (IsBlock m) (joined bs (Delta p back ops))) [
      | None ↦ λ e. subst (All (IsBlock m)) (sym (joins_none p back ops bs e)) (all-append (IsBlock m) bs (Delta p back ops ∷ []) old (new, tt))
      | Some i ↦ λ e. (
          let j = joins_one p back ops i bs e in
          let s = j.stands in
          let parts = all-parts (IsBlock m) s.before (Delta p s.back s.was) s.behind (subst (All (IsBlock m)) s.split old) in
          let delta = parts.1 in
          let all : All IsOp (s.was ++ ops) = all-append IsOp s.was ops delta.each new.each in
          let few : length (s.was ++ ops) < 2 ^ 16 = omega (arith, length-append s.was ops, j.few) in
          let some : 1 ≤ length (s.was ++ ops) = (let c = delta.count.0 in let e = length-append s.was ops in omega arith) in
          subst (All (IsBlock m)) (sym j.is)
          (all-append (IsBlock m) s.before (Delta p s.back (s.was ++ ops) ∷ s.behind) parts.0
          (record { changes = delta.changes; links = delta.links; count = (some, few); each = all }, parts.2)))
    ] refl
joined_lawful m bs (Base leaf) old new = all-append (IsBlock m) bs (Base leaf ∷ []) old (new, tt)
joined_lawful m bs (Split page back upper) old new = all-append (IsBlock m) bs (Split page back upper ∷ []) old (new, tt)

-- blocks that join are lawful: none gets more records than a Delta may have
pub added_lawful : (m : ℕ) (bs more : List Block) → All (IsBlock m) bs → All (IsBlock m) more → All (IsBlock m) (added bs more)
added_lawful m bs [] old new = old
added_lawful m bs (b ∷ more) old new = added_lawful m (joined bs b) more (joined_lawful m bs b old new.0) new.1

-- ---- sizes and indices

joined_shorter : (bs : List Block) (b : Block) → length (body_bytes (joined bs b)) ≤ length (body_bytes bs) + length (block_bytes b)
joined_shorter bs (Delta p back ops) = (let e = joined_size bs p back ops in omega arith)
joined_shorter bs (Base leaf) = (let e = pushed_size bs (Base leaf) in omega arith)
joined_shorter bs (Split page back upper) = (let e = pushed_size bs (Split page back upper) in omega arith)

-- joined, blocks are never longer
pub added_shorter : (bs more : List Block) → length (body_bytes (added bs more)) ≤ length (body_bytes bs) + length (body_bytes more)
added_shorter bs [] = omega arith
added_shorter bs (b ∷ more) =
    (let one = joined_shorter bs b in let all = added_shorter (joined bs b) more in let e = length-append (block_bytes b) (body_bytes more) in omega arith)

-- the place of a Delta is within the frame, or its end
pub joins_within : (p : ℕ) (bs : List Block) → unwrap_or (joins p bs) (length bs) ≤ length bs
joins_within p bs =
    elim (joins p bs) as (λ o. joins p bs ≡ o → unwrap_or o (length bs) ≤ length bs) [
      | None ↦ λ e. omega arith
      | Some i ↦ λ e. (
          let s : StandsOpen p i bs = found p bs i (joins_parts 1 p i bs e).0 in
          let long = ap (λ (l : List Block). length l) s.split ∙ length-append s.before (Delta p s.back s.was ∷ s.behind) in
          let at = s.index in
          omega arith)
    ] refl

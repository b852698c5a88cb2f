-- What a call makes of the maps that a stop may leave, and that a stop leaves one of them.

use Rattle.std.proofs.Common.{◌≡◌, ℕ, zero, suc, ◌+◌, ◌-◌, ◌<◌, ◌≤◌, inl, inr, Bool, true, false, List, [], ◌∷◌, ◌++◌, length, map, take, drop, refl, sym, ap, ◌∙◌, subst, arith}
use Rattle.std.specs.Prelude.{◌==◌, ◌&&◌, not, if◌then◌else◌, slice_index_or, slice_set, MatchResult, Ok, Err, Result}
use Rattle.std.specs.declared.alloc.Global.{Global}
use Rattle.std.specs.declared.vec.Vec.{Vec}
use Rattle.std.specs.List.{AllByRecursion as All, fold}
use Rattle.std.proofs.lemmas.List.{length-map, length-drop, length-append, map-append, take-map, take-append-le, drop-append-le, take-append-drop, drop-drop}
use Rattle.std.proofs.lemmas.List.Sums.{fold-append}
use Rattle.bw_device.specs.Holding.{Holding}
use Rattle.bw_record.specs.declared.record.Record.{Record}
use Rattle.bw_record.specs.declared.leaf.Leaf.{Leaf}
use Rattle.bw_leaf.specs.Changed.{Map, changed_map}
use Rattle.bw_page.specs.Leaves.{plain, union}
use Rattle.bw_ring.specs.Ends.{accepted}
use Rattle.bw_ring.specs.Marks.{Marked, marked}
use Rattle.bw_ring.specs.declared.feed.Feed.{Feed}
use Rattle.bw_history.specs.declared.entry.Entry.{Entry}
use Rattle.bw_history.specs.Entries.{records}
use Rattle.bw_history.specs.History.{AreCuts, cut, is_grouped, streams}
use Rattle.bw_history.specs.Machine.{IsMachine, Machine, MayLeave, Stops, keeps}
use Rattle.bw_terms.specs.declared.fault.StoreFault.{StoreFault}
use Rattle.bw_core.specs.Following.{Continues}
use Rattle.bw_core.specs.Goal.{SameFeeds}
use Rattle.bw_core.specs.Heard.{IsOfFeeds}
use Rattle.bw_core.specs.Kept.{IsSound, Kept}
use Rattle.bw_core.specs.Machine.{KeepsAs, machine_of}
use Rattle.bw_core.specs.Views.{kept_by}
use Rattle.bw_core.specs.declared.store.Core.{Core}
use Rattle.bw_core.proofs.FollowMore.{follows_as}
use Rattle.bw_core.proofs.Machines.{appended_within, cut_more, cut_next, is_machine}
use Rattle.bw_core.proofs.RecordMore.{cut_within}
use Rattle.bw_home.specs.Cuts.{IsAmong, IsLater, IsMap, cuts_from, maps_after, with_end}
use Rattle.bw_home.specs.Maps.{accepted_in, cuts_by, map_of, maps_of, IsMapBy, StaysMap}
use Rattle.bw_home.specs.Ready.{kept_in}
use Rattle.bw_home.specs.declared.home.Home.{Home}
use Rattle.bw_home.proofs.Maps.{all_taken, first_of, items, items_marks, mark, marks_of, own_marks, same_count, set_first}

-- ---- maps one after the other

end_append : (more : Bool) (m : Map) (xs ys : List Map) → with_end more m (xs ++ ys) ≡ with_end more m xs ++ ys
end_append true m xs ys = refl
end_append false m xs ys = refl

after_append : (m : Map) (xs ys : List Marked) → maps_after m (xs ++ ys) ≡ maps_after m xs ++ maps_after (fold changed_map m (items xs)) ys
after_append m [] ys = refl
after_append m (x ∷ xs) ys =
    let next = changed_map m x.item in
    ap (λ (l : List Map). with_end x.more next l) (after_append next xs ys)
    ∙ end_append x.more next (maps_after next xs) (maps_after (fold changed_map next (items xs)) ys)

after_group : (m : Map) (r : Record) (rs : List Record) → maps_after m (marked (r ∷ rs)) ≡ fold changed_map m (r ∷ rs) ∷ []
after_group m r [] = refl
after_group m r (s ∷ rs) = after_group (changed_map m r) s rs

-- ---- where a group ends

abbrev closed : List Marked → Bool
closed [] = true
closed (m ∷ []) = not m.more
closed (m ∷ n ∷ ms) = closed (n ∷ ms)

closed_behind : (xs ys : List Marked) → closed (xs ++ ys) ≡ true → closed ys ≡ true
closed_behind [] ys c = c
closed_behind (x ∷ []) [] c = refl
closed_behind (x ∷ []) (y ∷ ys) c = c
closed_behind (x ∷ z ∷ xs) ys c = closed_behind (z ∷ xs) ys c

-- a map that is one of those after this one, and those after it
abbrev Ends : List Map → Map → List Map → Type 0
Ends maps m behind = (j : ℕ) × (j < length maps) × (m ∷ behind ≡ drop j maps)

ends_here : (more : Bool) (m : Map) (behind : List Map) → not more ≡ true → Ends (with_end more m behind) m behind
ends_here true m behind c = absurd cc
ends_here false m behind c = (0, omega arith, refl)

ends_later : (more : Bool) (first m : Map) (maps behind : List Map) → Ends maps m behind → Ends (with_end more first maps) m behind
ends_later true first m maps behind e = e
ends_later false first m maps behind e = (let lt = e.1 in (suc e.0, omega arith, e.2))

end_at : (m : Map) (xs : List Marked) (n : ℕ) → suc n ≤ length xs → closed (take (suc n) xs) ≡ true
    → Ends (maps_after m xs) (fold changed_map m (items (take (suc n) xs))) (maps_after (fold changed_map m (items (take (suc n) xs))) (drop (suc n) xs))
end_at m [] n lt c = absurd (omega arith)
end_at m (x ∷ xs) zero lt c = ends_here x.more (changed_map m x.item) (maps_after (changed_map m x.item) xs) c
end_at m (x ∷ []) (suc n) lt c = absurd (omega arith)
end_at m (x ∷ y ∷ xs) (suc n) lt c =
    let next = changed_map m x.item in
    ends_later x.more next _ _ _ (end_at next (y ∷ xs) n (omega arith) c)

later_at : (m : Map) (xs : List Marked) (n : ℕ) → n ≤ length xs → closed (take n xs) ≡ true
    → IsLater (m ∷ maps_after m xs) (fold changed_map m (items (take n xs)) ∷ maps_after (fold changed_map m (items (take n xs))) (drop n xs))
later_at m xs zero lt c = (0, omega arith, refl)
later_at m xs (suc n) lt c = (let e = end_at m xs n lt c in let k = e.1 in (suc e.0, omega arith, e.2))

-- ---- entries of the only writer

second : (a b : Bool) → (a && b) ≡ true → b ≡ true
second true b e = e
second false b e = absurd cc

closed_marks : (es : List Entry) → is_grouped es ≡ true → closed (marks_of es) ≡ true
closed_marks [] g = refl
closed_marks (e ∷ []) g = g
closed_marks (e ∷ f ∷ es) g =
    closed_marks (f ∷ es) (second (if e.more then f.writer == e.writer else true) (is_grouped (f ∷ es)) g)

-- these entries begin what was put
abbrev pub Begin : List Entry → List Marked → Type 0
Begin es put = (rest : List Marked) × (marks_of es ++ rest ≡ put)

pub begin_put : (feeds : List Feed) (es : List Entry) → length feeds ≡ 1 → IsOfFeeds feeds es → Begin es (first_of feeds)
begin_put [] es one heard = absurd (omega arith)
begin_put (f ∷ []) es one heard =
    let rest = heard.begins.0.0 in
    (rest, ap (λ (l : List Marked). l ++ rest) (sym (own_marks es heard.writers)) ∙ heard.begins.0.1)
begin_put (f ∷ g ∷ feeds) es one heard = absurd (omega arith)

begun_length : (es : List Entry) (put : List Marked) → Begin es put → length es ≤ length put
begun_length es put b =
    (let a = length-append (marks_of es) b.0 in let n = length-map es mark in
    let e = ap (λ (l : List Marked). length l) b.1 in omega arith)

taken_to : (es : List Entry) (put : List Marked) (n : ℕ) → Begin es put → n ≤ length es → take n put ≡ marks_of (take n es)
taken_to es put n b le =
    let many = length-map es mark in
    ap (λ (l : List Marked). take n l) (sym b.1) ∙ take-append-le n (marks_of es) b.0 (omega arith) ∙ take-map mark n es

map_to : (start : List Leaf) (es : List Entry) (put : List Marked) (n : ℕ) → Begin es put → n ≤ length es
    → plain start (records (take n es)) ≡ fold changed_map (union start) (items (take n put))
map_to start es put n b le =
    ap (λ (l : List Record). plain start l) (sym (items_marks (take n es)))
    ∙ ap (λ (l : List Marked). plain start (items l)) (sym (taken_to es put n b le))

-- ---- more is kept

abbrev no_marks : List Marked
no_marks = []

take_nil : (n : ℕ) → take n no_marks ≡ no_marks
take_nil zero = refl
take_nil (suc n) = refl

split : (d n k : ℕ) (xs : List Marked) → k ≡ d + n → take k xs ≡ take d xs ++ take n (drop d xs)
split zero n k xs is = (let same : k ≡ n = omega arith in ap (λ j. take j xs) same)
split (suc d) n zero xs is = absurd (omega arith)
split (suc d) n (suc k) [] is = sym (take_nil n)
split (suc d) n (suc k) (x ∷ xs) is = ap (λ (l : List Marked). x ∷ l) (split d n k xs (omega arith))

fold_split : (m : Map) (d n : ℕ) (put : List Marked)
    → fold changed_map m (items (take (d + n) put)) ≡ fold changed_map (fold changed_map m (items (take d put))) (items (take n (drop d put)))
fold_split m d n put =
    ap (λ (l : List Marked). fold changed_map m (items l)) (split d n (d + n) put refl)
    ∙ ap (λ (l : List Record). fold changed_map m l) (map-append (λ (m : Marked). m.item) (take d put) (take n (drop d put)))
    ∙ fold-append changed_map m (items (take d put)) (items (take n (drop d put)))

later_to : (start : List Leaf) (es fs : List Entry) (d n : ℕ) (put : List Marked) → Begin fs put → take d fs ≡ take d es → d + n ≤ length fs
    → is_grouped (take (d + n) fs) ≡ true
    → IsLater (cuts_from (plain start (records (take d es))) d put) (cuts_from (plain start (records (take (d + n) fs))) (d + n) put)
later_to start es fs d n put b same le whole =
    let m = plain start (records (take d es)) in
    let xs = drop d put in
    let first : m ≡ fold changed_map (union start) (items (take d put)) =
    ap (λ (l : List Entry). plain start (records l)) (sym same) ∙ map_to start fs put d b (omega arith) in
    let both : plain start (records (take (d + n) fs)) ≡ fold changed_map m (items (take n xs)) =
    map_to start fs put (d + n) b le ∙ fold_split (union start) d n put ∙ ap (λ (k : Map). fold changed_map k (items (take n xs))) (sym first) in
    let ends : closed (take n xs) ≡ true =
    closed_behind (take d put) (take n xs)
    (ap closed (sym (split d n (d + n) put refl)) ∙ ap closed (taken_to fs put (d + n) b le) ∙ closed_marks (take (d + n) fs) whole) in
    let long = begun_length fs put b in
    let left = length-drop d put in
    let t = later_at m xs n (omega arith) ends in
    let f = fold changed_map m (items (take n xs)) in
    (t.0, t.1, ap (λ (k : Map). k ∷ maps_after k (drop (d + n) put)) both ∙ ap (λ (l : List Marked). f ∷ maps_after f l) (sym (drop-drop n d put)) ∙ t.2)

-- the kept map goes from here to there
pub later : (start : List Leaf) (es fs : List Entry) (d e : ℕ) (put : List Marked) → Begin fs put → take d fs ≡ take d es → d ≤ e → e ≤ length fs
    → is_grouped (take e fs) ≡ true
    → IsLater (cuts_from (plain start (records (take d es))) d put) (cuts_from (plain start (records (take e fs))) e put)
later start es fs d e put b same up le whole =
    let is : d + (e - d) ≡ e = omega arith in
    subst (λ k. IsLater (cuts_from (plain start (records (take d es))) d put) (cuts_from (plain start (records (take k fs))) k put)) is
    (later_to start es fs d (e - d) put b same (omega arith) (subst (λ k. is_grouped (take k fs) ≡ true) (sym is) whole))

-- ---- a group more is put

rest_of : (start : List Leaf) (es : List Entry) (d : ℕ) (put : List Marked) → Begin es put → d ≤ length es
    → fold changed_map (plain start (records (take d es))) (items (drop d put)) ≡ plain start (items put)
rest_of start es d put b le =
    ap (λ (k : Map). fold changed_map k (items (drop d put))) (map_to start es put d b le)
    ∙ sym (fold-append changed_map (union start) (items (take d put)) (items (drop d put)))
    ∙ ap (λ (l : List Record). fold changed_map (union start) l) (sym (map-append (λ (m : Marked). m.item) (take d put) (drop d put)))
    ∙ ap (λ (l : List Marked). fold changed_map (union start) (items l)) (take-append-drop d put)

put_more : (start : List Leaf) (es : List Entry) (d : ℕ) (put : List Marked) (group : List Record) → Begin es put → d ≤ length es → 1 ≤ length group
    → cuts_from (plain start (records (take d es))) d (put ++ marked group)
    ≡ cuts_from (plain start (records (take d es))) d put ++ fold changed_map (plain start (items put)) group ∷ []
put_more start es d put [] b le some = absurd (omega arith)
put_more start es d put (r ∷ rs) b le some =
    let m = plain start (records (take d es)) in
    let g = marked (r ∷ rs) in
    let long = begun_length es put b in
    let behind = maps_after m (drop d put) in
    ap (λ (l : List Marked). m ∷ maps_after m l) (drop-append-le d put g (omega arith))
    ∙ ap (λ (l : List Map). m ∷ l) (after_append m (drop d put) g
    ∙ ap (λ (l : List Map). behind ++ l) (after_group (fold changed_map m (items (drop d put))) r rs)
    ∙ ap (λ (k : Map). behind ++ fold changed_map k (r ∷ rs) ∷ []) (rest_of start es d put b le))

-- ---- of a store

cut_up : (cs : List ℕ) (n i j : ℕ) → AreCuts 0 cs n → i + j ≤ length cs → cut cs j ≤ cut cs (i + j)
cut_up cs n zero j are le =
    (let is : 0 + j ≡ j = omega arith in let same = ap (λ k. cut cs k) is in omega arith)
cut_up cs n (suc i) j are le =
    let below = cut_up cs n i j are (omega arith) in
    let one = cut_next cs n (i + j) are (omega arith) in
    let is : suc i + j ≡ suc (i + j) = omega arith in
    let same = ap (λ k. cut cs k) is in
    omega arith

-- what is durable stays so
durable_up : (old new : Kept) → Continues old new → IsSound old → IsSound new → (machine_of old).durable ≤ (machine_of new).durable
durable_up old new goes sound now =
    let count = appended_within old sound in
    let here = appended_within new now in
    let up = goes.appended in
    let same : cut new.cuts old.durable ≡ cut old.cuts old.durable =
    ap (λ (l : List ℕ). cut l old.durable) goes.cuts ∙ cut_more old.cuts goes.cuts_more old.durable count in
    let is : (new.durable - old.durable) + old.durable ≡ new.durable = omega arith in
    let more = cut_up new.cuts (length new.entries) (new.durable - old.durable) old.durable now.ordered (omega arith) in
    let there = ap (λ k. cut new.cuts k) is in
    omega arith

-- more may be kept, and the same was put
pub same_cuts : (old new : Kept) (put : List Marked) → Continues old new → IsSound old → IsSound new → IsMachine (machine_of new)
    → Begin new.entries put → IsLater (cuts_by old put) (cuts_by new put)
same_cuts old new put goes sound now machine b =
    let d = (machine_of old).durable in
    let e = (machine_of new).durable in
    let within = cut_within old.cuts (length old.entries) old.durable sound.ordered in
    let taken : take d new.entries ≡ take d old.entries =
    ap (λ (l : List Entry). take d l) goes.history ∙ take-append-le d old.entries goes.entries_more within in
    let far = machine.durable in
    let there = machine.written in
    subst (λ (start : List Leaf). IsLater (cuts_by old put) (cuts_from (plain start (records (take e new.entries))) e put)) (sym goes.start)
    (later old.start old.entries new.entries d e put b taken (durable_up old new goes sound now) (omega arith) machine.kept)

-- and a group more was
pub changed_cuts : (old new : Kept) (was put : List Marked) (group : List Record) → Continues old new → IsSound old → IsSound new
    → IsMachine (machine_of new) → Begin old.entries was → Begin new.entries put → put ≡ was ++ marked group → 1 ≤ length group
    → IsLater (cuts_by old was ++ fold changed_map (plain old.start (items was)) group ∷ []) (cuts_by new put)
changed_cuts old new was put group goes sound now machine before b more some =
    let d = (machine_of old).durable in
    let within = cut_within old.cuts (length old.entries) old.durable sound.ordered in
    subst (λ (l : List Map). IsLater l (cuts_by new put))
    (ap (λ (l : List Marked). cuts_by old l) more ∙ put_more old.start old.entries d was group before within some)
    (same_cuts old new put goes sound now machine b)

past : (n : ℕ) (xs : List Marked) → length xs ≤ n → drop n xs ≡ []
past zero [] le = refl
past zero (x ∷ xs) le = absurd (omega arith)
past (suc n) [] le = refl
past (suc n) (x ∷ xs) le = past n xs (omega arith)

-- all that was put is kept
pub kept_cuts : (kept : Map) (durable : ℕ) (put : List Marked) → length put ≤ durable → cuts_from kept durable put ≡ kept ∷ []
kept_cuts kept durable put le = ap (λ (l : List Marked). kept ∷ maps_after kept l) (past durable put le)

pub fully_kept : (kept now : Map) (durable : ℕ) (feeds : List Feed) (es : List Entry) → length feeds ≡ 1
    → streams 0 (length feeds) es ≡ map accepted feeds → All (λ e. e.writer < length feeds) es → durable ≡ length es → kept ≡ now
    → cuts_from kept durable (first_of feeds) ≡ now ∷ []
fully_kept kept now durable feeds es one exactly writers all is =
    let same = all_taken es feeds one exactly writers in
    let a = length-map (first_of feeds) (λ (m : Marked). m.item) in
    let b = length-map es (λ (e : Entry). e.item) in
    let e = ap (λ (l : List Record). length l) same in
    kept_cuts kept durable (first_of feeds) (omega arith) ∙ ap (λ (m : Map). m ∷ []) is

-- one that nothing was done to
pub later_same : (m : Map) (ms : List Map) → IsLater (m ∷ ms) (m ∷ ms)
later_same m ms = (0, omega arith, refl)

-- ---- stops

among_rest : (maps : List Map) (k : ℕ) (m : Map) (behind : List Map) → m ∷ behind ≡ drop k maps → IsAmong maps m
among_rest [] zero m behind e = absurd (let n = ap (λ (l : List Map). length l) e in omega arith)
among_rest [] (suc k) m behind e = absurd (let n = ap (λ (l : List Map). length l) e in omega arith)
among_rest (x ∷ xs) zero m behind e = inl (ap (λ (l : List Map). slice_index_or l 0 m) e)
among_rest (x ∷ xs) (suc k) m behind e = inr (among_rest xs k m behind e)

among_at : (s : Kept) (put : List Marked) (e : ℕ) → IsMachine (machine_of s) → Begin s.entries put → (machine_of s).durable ≤ e
    → e ≤ length s.entries → is_grouped (take e s.entries) ≡ true → IsAmong (cuts_by s put) (map_of s (take e s.entries))
among_at s put e machine b up le whole =
    let t = later s.start s.entries s.entries (machine_of s).durable e put b refl up le whole in
    among_rest (cuts_by s put) t.0 _ _ t.2

pub left_among : (s : Kept) (put : List Marked) (left : List Entry) → IsMachine (machine_of s) → Begin s.entries put → MayLeave (machine_of s) left
    → IsAmong (cuts_by s put) (map_of s left)
left_among s put left machine b may =
    let kept = machine.durable in
    let all = machine.written in
    elim may [
      | inl is ↦ subst (λ (l : List Entry). IsAmong (cuts_by s put) (map_of s l)) (sym is)
          (among_at s put (machine_of s).durable machine b (omega arith) (omega arith) machine.kept)
      | inr is ↦ subst (λ (l : List Entry). IsAmong (cuts_by s put) (map_of s l)) (sym is)
          (among_at s put (machine_of s).written machine b kept all machine.left)
    ]

-- ---- of a home

module _ {I : Type 0} {H : I → Type 0} where
  is_machine_in : (h : Home I H) (v : (i : I) × H i → Holding) → IsSound (kept_in h v) → IsMachine (machine_of (kept_in h v))
  is_machine_in h v sound = is_machine (kept_in h v) sound h.store.intake.grouped h.store.whole

  put_of : (h : Home I H) (v : (i : I) × H i → Holding) → IsMapBy h v → Begin (kept_in h v).entries (accepted_in h)
  put_of h v is = begin_put h.feeds.items (kept_in h v).entries is.one is.heard

  pub later_in : (old new : Home I H) (v : (i : I) × H i → Holding) → IsSound (kept_in old v) → IsSound (kept_in new v)
      → Continues (kept_in old v) (kept_in new v) → map accepted new.feeds.items ≡ map accepted old.feeds.items → IsMapBy new v
      → IsLater (maps_of old v).cuts (maps_of new v).cuts
  later_in old new v was sound goes same is =
      let put : accepted_in new ≡ accepted_in old = ap (λ (l : List (List Marked)). slice_index_or l 0 []) same in
      subst (λ (l : List Marked). IsLater (cuts_by (kept_in old v) l) (maps_of new v).cuts) put
      (same_cuts (kept_in old v) (kept_in new v) (accepted_in new) goes was sound (is_machine_in new v sound) (put_of new v is))

  -- all that was put was looked for, and nothing more was put
  pub stays_heard : (old new : Home I H) (v : (i : I) × H i → Holding) → IsSound (kept_in old v) → IsSound (kept_in new v)
      → Continues (kept_in old v) (kept_in new v) → SameFeeds old.feeds.items new.feeds.items
      → IsOfFeeds new.feeds.items (kept_in new v).entries → StaysMap old new v
  stays_heard old new v was sound goes feeds heard =
      let is : IsMapBy old v → IsMapBy new v =
      λ is. record { one = same_count old.feeds.items new.feeds.items feeds.ends is.one; heard = heard } in
      record { map = is; cuts = λ before. later_in old new v was sound goes feeds.accepted (is before) }

  -- nothing was taken, and nothing was put
  pub stays_as : (old new : Home I H) (v : (i : I) × H i → Holding) → IsSound (kept_in old v) → IsSound (kept_in new v)
      → Continues (kept_in old v) (kept_in new v) → new.feeds ≡ old.feeds → (kept_in new v).entries ≡ (kept_in old v).entries → StaysMap old new v
  stays_as old new v was sound goes feeds entries =
      let is : IsMapBy old v → IsMapBy new v = λ is.
      subst (λ (f : Vec Feed Global). IsMap f.items (kept_in new v)) (sym feeds)
      (record { one = is.one; heard = subst (λ (es : List Entry). IsOfFeeds old.feeds.items es) (sym entries) is.heard }) in
      record {
        map = is;
        cuts = λ before. later_in old new v was sound goes (ap (λ (f : Vec Feed Global). map accepted f.items) feeds) (is before);
      }

  -- the store and its feeds are what they were
  pub stays_same : (old new : Home I H) (v : (i : I) × H i → Holding) → IsSound (kept_in old v) → new.store ≡ old.store → new.feeds ≡ old.feeds
      → StaysMap old new v
  stays_same old new v was store feeds =
      let same : kept_in new v ≡ kept_in old v = ap (λ (s : Core I H). kept_by s v) store in
      stays_as old new v was (subst IsSound (sym same) was) (follows_as _ _ same).follows.continues feeds (ap (λ (s : Kept). s.entries) same)

  -- a group was put, and all that waited was taken, or so much of it
  pub changed_in : (old new : Home I H) (v : (i : I) × H i → Holding) (group : List Record) → IsSound (kept_in old v) → IsSound (kept_in new v)
      → Continues (kept_in old v) (kept_in new v) → accepted_in new ≡ accepted_in old ++ marked group → 1 ≤ length group → IsMapBy old v → IsMapBy new v
      → IsLater ((maps_of old v).cuts ++ fold changed_map (maps_of old v).put group ∷ []) (maps_of new v).cuts
  changed_in old new v group was sound goes more some before is =
      changed_cuts (kept_in old v) (kept_in new v) (accepted_in old) (accepted_in new) group goes was sound (is_machine_in new v sound)
      (put_of old v before) (put_of new v is) more some

-- a call that keeps what was taken, or an append that failed, takes nothing
pub kept_entries : {A : Type 0} (r : Result A StoreFault) (old new : Kept)
    → MatchResult r (λ _. machine_of new ≡ keeps (machine_of old)) (λ _. Stops (machine_of old) (machine_of new)) → new.entries ≡ old.entries
kept_entries (Ok x) old new is = ap (λ (m : Machine). m.entries) is
kept_entries (Err e) old new is = elim is [
  | inl same ↦ ap (λ (m : Machine). m.entries) same
  | inr broke ↦ ap (λ (m : Machine). m.entries) broke
]

pub cleaned_entries : {A : Type 0} (r : Result A StoreFault) (old new : Kept) → KeepsAs r old new → new.entries ≡ old.entries
cleaned_entries (Ok x) old new is = ap (λ (m : Machine). m.entries) is
cleaned_entries (Err e) old new is = elim is [
  | inl kept ↦ ap (λ (m : Machine). m.entries) kept
  | inr stops ↦ elim stops [
    | inl same ↦ ap (λ (m : Machine). m.entries) same
    | inr broke ↦ ap (λ (m : Machine). m.entries) broke
  ]
]

-- the first queue has a group more
pub first_more : (old new : List Feed) (group : List Record) → length old ≡ 1
    → map accepted new ≡ slice_set (map accepted old) 0 (slice_index_or (map accepted old) 0 [] ++ marked group)
    → first_of new ≡ first_of old ++ marked group
first_more old new group one added =
    let count = length-map old accepted in
    ap (λ (l : List (List Marked)). slice_index_or l 0 []) added ∙ set_first (map accepted old) (first_of old ++ marked group) (omega arith)

-- What holds of lives, by induction over them.

use Rattle.std.proofs.Common.{◌≡◌, ◌⊎◌, ℕ, zero, suc, ◌+◌, ◌≤◌, inl, inr, true, List, [], ◌∷◌, ◌++◌, map, length, take, refl, sym, ap, ◌∙◌, arith, subst, append_assoc}
use Rattle.std.specs.List.{fold, AllByRecursion}
use Rattle.std.proofs.lemmas.Grind.{fold-append}
use Rattle.std.proofs.lemmas.List.{map-append}
use Rattle.bw_record.specs.declared.record.Record.{Record}
use Rattle.bw_leaf.specs.Changed.{Map, changed_map}
use Rattle.bw_history.specs.declared.entry.Entry.{Entry}
use Rattle.bw_history.specs.Entries.{records}
use Rattle.bw_history.specs.History.{is_grouped}
use Rattle.bw_history.specs.Machine.{Crash, IsMachine, Machine, Step, Steps, Stops, TakesAndKeeps, TakesAndStops, TakesMany, TakesOne, after, begun, breaks, keeps, now, takes}
use Rattle.bw_history.specs.Lives.{Life, Lived, Lives, left_of, next_of}
use Rattle.bw_history.specs.Laws.{CallsAreSteps, IsWholeBeginning, LivesGoOn, LivesLoseNothing, Outlives}
use Rattle.bw_history.proofs.Grouped.{grouped_more}
use Rattle.bw_history.proofs.Machines.{durable_stays, stops_leave_beginnings}

-- ---- maps

-- entries, one part after the other
after_more : (map : Map) (xs ys : List Entry) → after map (xs ++ ys) ≡ after (after map xs) ys
after_more map xs ys =
    ap (λ (rs : List Record). fold changed_map map rs) (map-append (λ (e : Entry). e.item) xs ys)
    ∙ fold-append changed_map map (records xs) (records ys)

-- ---- a life

begun_is : (start : Map) → IsMachine (begun start)
begun_is start = record { whole = refl; kept = refl; left = refl; shown = omega arith; durable = omega arith; written = omega arith }

-- ---- all lives

pub lose_nothing : LivesLoseNothing
lose_nothing first [] here is h =
    let lost = durable_stays h.0 first here is h.1 in
    record {
      lawful = lost.lawful;
      each = tt;
      start = lost.start;
      now = ap (λ (m : Map). after m here.entries) lost.start;
      whole = lost.lawful.whole;
    }
lose_nothing first (life ∷ lives) here is h =
    let lived = h.0 in
    let lost = durable_stays lived.count first life.last is lived.steps in
    let left = stops_leave_beginnings life.last life.left lost.lawful lived.left in
    let rest = lose_nothing (next_of life) lives here (begun_is (after life.last.start life.left)) h.1 in
    let start = ap (λ (m : Map). after m life.left) lost.start in
    let behind = append_assoc life.left (left_of lives) here.entries in
    record {
      lawful = rest.lawful;
      each = (left, rest.each);
      start =
          rest.start ∙ ap (λ (m : Map). after m (left_of lives)) start ∙ sym (after_more first.start life.left (left_of lives));
      now =
          rest.now ∙ ap (λ (m : Map). after m (left_of lives ++ here.entries)) start
          ∙ sym (after_more first.start life.left (left_of lives ++ here.entries))
          ∙ ap (after first.start) (sym behind);
      whole = ap is_grouped behind ∙ grouped_more life.left (left_of lives ++ here.entries) left.whole rest.whole;
    }

-- ---- steps of calls

abbrev Somehow : Machine → Machine → Type 0
Somehow old new = (k : ℕ) × Steps k old new

one_more : (a b c : Machine) → Somehow a b → Step b c → Somehow a c
one_more a b c h s = (suc h.0, (b, h.1, s))

none : (a b : Machine) → b ≡ a → Somehow a b
none a b e = (zero, e)

then_steps : (n : ℕ) (a b c : Machine) → Somehow a b → Steps n b c → Somehow a c
then_steps zero a b c h e = subst (Somehow a) (sym e) h
then_steps (suc n) a b c h s = one_more a s.0 c (then_steps n a b s.0 h s.1) s.2

took_one : (a b c : Machine) → Somehow a b → TakesOne b c → Somehow a c
took_one a b c h t = elim t.2 [
  | inl e ↦ one_more a b c h (inl (t.0, t.1, e))
  | inr e ↦ one_more a (keeps b) c (one_more a b (keeps b) h (inr (inl refl))) (inl (t.0, t.1, e))
]

took_many : (n : ℕ) (a b : Machine) → TakesMany n a b → Somehow a b
took_many zero a b e = none a b e
took_many (suc n) a b h = took_one a h.0 b (took_many n a h.0 h.1) h.2

stopped : (a b c : Machine) → Somehow a b → Stops b c → Somehow a c
stopped a b c h (inl e) = subst (Somehow a) (sym e) h
stopped a b c h (inr e) = one_more a b c h (inr (inr (inl e)))

kept_or_stopped : (a b c : Machine) → Somehow a b → (c ≡ keeps b) ⊎ Stops b c → Somehow a c
kept_or_stopped a b c h (inl e) = one_more a b c h (inr (inl e))
kept_or_stopped a b c h (inr s) = stopped a b c h s

pub calls : CallsAreSteps
calls = record {
  takes = took_many;
  stops = λ old new s. stopped old old new (none old old refl) s;
  keeps = λ old new h. one_more old h.1 new (took_many h.0 old h.1 h.2) (inr (inl h.3));
  refused = λ old new h. kept_or_stopped old h.1 new (took_many h.0 old h.1 h.2) h.3;
}

-- ---- lives after lives

join : (first : Machine) (before : List Life) (middle : Machine) (behind : List Life) (here : Machine) → Lives first before middle
    → Lives middle behind here → Lives first (before ++ behind) here
join first [] middle [] here h k = then_steps k.0 first middle here h k.1
join first [] middle (life ∷ lives) here h k =
    let steps = then_steps k.0.count first middle life.last h k.0.steps in
    (record { count = steps.0; steps = steps.1; left = k.0.left }, k.1)
join first (life ∷ lives) middle behind here h k = (h.0, join (next_of life) lives middle behind here h.1 k)

crashed : (old new : Machine) → Crash old new → (left : List Entry) × Lives old (record { last = old; left = left } ∷ []) new
crashed old new c = (c.0, (record { count = zero; steps = refl; left = c.1 }, (zero, c.2)))

pub go_on : LivesGoOn
go_on = record {
  opened = begun_is;
  steps = λ n old new s. (n, s);
  crash = crashed;
  joined = join;
}

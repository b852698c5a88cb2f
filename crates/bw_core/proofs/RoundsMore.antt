-- What a round leaves of what each lane gave and knows.

use Rattle.std.proofs.Common.{inl, inr, ◌≡◌, ◌⊎◌, ℕ, zero, suc, ◌+◌, ◌<◌, ◌≤◌, Bool, true, false, Option, Some, None, Result, Ok, Err}
use Rattle.std.proofs.Common.{List, [], ◌∷◌, ◌++◌, length, drop, refl, sym, ap, ◌∙◌, subst, arith, length-append, append-nil, drop_of_length-le, if◌then◌else◌}
use Rattle.std.specs.Prelude.{IfOk, IsSomeAnd, IfNone, MatchOption, nat_le}
use Rattle.std.proofs.lemmas.Bool.{eq-eqb, ne_eqb, leb-true, leb-false, le-leb, lt-leb}
use Rattle.std.proofs.lemmas.List.{drop-append-le}
use Rattle.bw_ring.specs.declared.lane.Lane.{Lane}
use Rattle.bw_ring.specs.Marks.{marked}
use Rattle.bw_terms.specs.declared.fault.StoreFault.{StoreFault}
use Rattle.bw_history.specs.declared.entry.Entry.{Entry}
use Rattle.bw_history.specs.History.{entered, groups_of}
use Rattle.bw_history.specs.Lanes.{only_at, Dries, IsDry, KnowAfter, KnowMore}
use Rattle.bw_history.proofs.Laned.{groups_append, groups_entered}
use Rattle.bw_core.specs.Following.{Turned}
use Rattle.bw_core.specs.Kept.{Kept}
use Rattle.bw_core.specs.Rounds.{gave, known_of, rounds_over, InRound, IsAtRound, IsFair}
use Rattle.bw_core.specs.Taking.{RefusesNext, TakeLeaves, Took}
use Rattle.bw_core.proofs.FollowMore.{follows_refused, took_entries}

-- ---- lanes

dry_at : (ls : List Lane) (i : ℕ) → IsDry ls i → known_of ls i ≡ 0
dry_at [] i d = refl
dry_at (l ∷ ls) zero d = ap length d
dry_at (l ∷ ls) (suc i) d = dry_at ls i d

beyond : (ls : List Lane) (i : ℕ) → length ls ≤ i → known_of ls i ≡ 0
beyond [] i le = refl
beyond (l ∷ ls) zero le = absurd (omega arith)
beyond (l ∷ ls) (suc i) le = beyond ls i (omega arith)

-- after a look, and a take of a group
pub look_then : (at : ℕ) (old middle new : List Lane) → KnowMore old middle → KnowAfter at middle new → KnowAfter at old new
look_then at old middle new more after i = (let a = more i in let b = after i in omega arith)

pub look_more : (old middle new : List Lane) → KnowMore old middle → KnowMore middle new → KnowMore old new
look_more old middle new one two i = (let a = one i in let b = two i in omega arith)

pub looked_takes : (at : ℕ) (old middle new : List Lane) (r : Result (Option ℕ) StoreFault) → KnowMore old middle
    → IfOk r (λ took. MatchOption took (KnowMore middle new) (λ _. KnowAfter at middle new))
    → IfOk r (λ took. MatchOption took (KnowMore old new) (λ _. KnowAfter at old new))
looked_takes at old middle new (Ok None) more after = look_more old middle new more after
looked_takes at old middle new (Ok (Some n)) more after = look_then at old middle new more after
looked_takes at old middle new (Err fault) more after = tt

pub never_none : (X : Type 0) (P : ℕ → Type 0) (r : Result (Option ℕ) StoreFault) → IfOk r (λ took. IsSomeAnd took P) → IfOk r (λ took. IfNone took X)
never_none X P (Ok None) some = absurd some
never_none X P (Ok (Some n)) some = tt
never_none X P (Err fault) some = tt

-- ---- what was given

gave_more : (first s t : Kept) (more : List Entry) (w : ℕ) → length first.entries ≤ length s.entries → t.entries ≡ s.entries ++ more
    → gave first t w ≡ gave first s w + groups_of w more
gave_more first s t more w low is =
    ap (λ (es : List Entry). groups_of w (drop (length first.entries) es)) is
    ∙ ap (groups_of w) (drop-append-le (length first.entries) s.entries more low)
    ∙ groups_append w (drop (length first.entries) s.entries) more

gave_none : (s : Kept) (w : ℕ) → gave s s w ≡ 0
gave_none s w = ap (groups_of w) (drop_of_length-le s.entries (omega arith))

-- ---- rounds

-- which rounds went over a lane
over : (rounds lane i : ℕ) → ((lane ≤ i) × (rounds_over rounds lane i ≡ rounds)) ⊎ ((i < lane) × (rounds_over rounds lane i ≡ suc rounds))
over rounds lane i = elim (nat_le lane i) as (λ b. nat_le lane i ≡ b
    → ((lane ≤ i) × ((if b then rounds else suc rounds) ≡ rounds)) ⊎ ((i < lane) × ((if b then rounds else suc rounds) ≡ suc rounds))) [
      | true ↦ λ e. inl (leb-true _ _ e, refl)
      | false ↦ λ e. inr (leb-false _ _ e, refl)
    ] refl

-- before the first lane
over_none_yet : (rounds i : ℕ) → rounds_over rounds 0 i ≡ rounds
over_none_yet rounds i = ap (λ (b : Bool). if b then rounds else suc rounds) (le-leb 0 i (omega arith))

pub fair_of : {rounds lane : ℕ} (first_lanes : List Lane) (first : Kept) (lanes : List Lane) (s : Kept) → InRound rounds lane first_lanes first lanes s
    → IsFair first_lanes first s
fair_of {rounds} {lane} first_lanes first lanes s x i j behind =
    let mine = x.each i in
    let other = x.each j in
    let most = other.most in
    elim mine.least [
      | inl all ↦ elim (over rounds lane i) [
        | inl here ↦ elim (over rounds lane j) [
          | inl there ↦ (let a = here.1 in let b = there.1 in omega arith)
          | inr there ↦ (let a = here.1 in let b = there.1 in omega arith)
        ]
        | inr here ↦ elim (over rounds lane j) [
          | inl there ↦ (let a = here.1 in let b = there.1 in omega arith)
          | inr there ↦ (let a = here.1 in let b = there.1 in omega arith)
        ]
      ]
      | inr given ↦ absurd (omega arith)
    ]

pub none_yet : (lanes : List Lane) (s : Kept) → InRound 0 0 lanes s lanes s
none_yet lanes s = record {
  low = omega arith;
  each = λ i. (let none = gave_none s i in let first = over_none_yet 0 i in record { most = omega arith; least = inl (omega arith); stays = omega arith });
}

-- a lane other than the one that a round goes over
other_lane : (rounds lane known given left now_given now_left i : ℕ) → (i ≡ lane → ⊥) → now_given ≡ given → left ≤ now_left
    → IsAtRound (rounds_over rounds lane i) known given left → IsAtRound (rounds_over rounds (lane + 1) i) known now_given now_left
other_lane rounds lane known given left now_given now_left i apart same more x =
    let most = x.most in
    let stays = x.stays in
    let as_before : rounds_over rounds (lane + 1) i ≡ rounds_over rounds lane i = elim (over rounds lane i) [
      | inl after ↦ elim (over rounds (lane + 1) i) [
        | inl still ↦ still.1 ∙ sym after.1
        | inr now ↦ absurd (apart (let low = after.0 in let top = now.0 in omega arith))
      ]
      | inr before ↦ elim (over rounds (lane + 1) i) [
        | inl still ↦ (let low = still.0 in let top = before.0 in absurd (omega arith))
        | inr now ↦ now.1 ∙ sym before.1
      ]
    ] in
    record {
      most = omega arith;
      least = elim x.least [ inl all ↦ inl (omega arith) | inr every ↦ inr (omega arith) ];
      stays = omega arith;
    }

-- the round at this lane, before it and after it
here_before : (rounds lane : ℕ) → rounds_over rounds lane lane ≡ rounds
here_before rounds lane = ap (λ (b : Bool). if b then rounds else suc rounds) (le-leb lane lane (omega arith))

here_after : (rounds lane : ℕ) → rounds_over rounds (lane + 1) lane ≡ suc rounds
here_after rounds lane = ap (λ (b : Bool). if b then rounds else suc rounds) (lt-leb (lane + 1) lane (omega arith))

one_here : (lane : ℕ) → only_at lane lane ≡ 1
one_here lane = ap (λ (b : Bool). if b then 1 else 0) (eq-eqb lane lane refl)

one_there : (lane i : ℕ) → (i ≡ lane → ⊥) → only_at lane i ≡ 0
one_there lane i apart = ap (λ (b : Bool). if b then 1 else 0) (ne_eqb lane i (λ same. apart (sym same)))

-- what one lane says, for each lane
by_lane : (lane : ℕ) (P : ℕ → Type 0) → P lane → ((i : ℕ) → (i ≡ lane → ⊥) → P i) → (i : ℕ) → P i
by_lane lane P here others i = elim (over 0 lane i) [
  | inl low ↦ elim (over 0 (lane + 1) i) [
    | inl above ↦ others i (let a = above.0 in λ same. omega arith)
    | inr top ↦ (let same : lane ≡ i = (let a = low.0 in let b = top.0 in omega arith) in subst P same here)
  ]
  | inr less ↦ others i (let a = less.0 in λ same. omega arith)
]

-- a group was taken from it
took_round : {rounds lane : ℕ} (first_lanes : List Lane) (first : Kept) (lanes new_lanes : List Lane) (s t : Kept)
    → InRound rounds lane first_lanes first lanes s → Took lane s t → KnowAfter lane lanes new_lanes → InRound rounds (lane + 1) first_lanes first new_lanes t
took_round {rounds} {lane} first_lanes first lanes new_lanes s t x took knows =
    let more = entered lane (marked took.group) in
    let is = took_entries lane s t took in
    let grew = ap length is ∙ length-append s.entries more in
    let low = x.low in
    let one : (w : ℕ) → gave first t w ≡ gave first s w + only_at lane w =
    λ w. gave_more first s t more w low is ∙ ap (λ (n : ℕ). gave first s w + n) (groups_entered w lane took.group took.few.0) in
    record {
      low = omega arith;
      each = by_lane lane (λ i. IsAtRound (rounds_over rounds (lane + 1) i) (known_of first_lanes i) (gave first t i) (known_of new_lanes i))
          (let was = x.each lane in
          let most = was.most in
          let stays = was.stays in
          let before = here_before rounds lane in
          let after = here_after rounds lane in
          let given = one lane in
          let left = knows lane in
          let single = one_here lane in
          record {
            most = omega arith;
            least = elim was.least [ inl all ↦ inl (omega arith) | inr every ↦ inr (omega arith) ];
            stays = omega arith;
          })
          (λ i apart. (
          let given = one i in
          let left = knows i in
          let none = one_there lane i apart in
          other_lane rounds lane (known_of first_lanes i) (gave first s i) (known_of lanes i) (gave first t i) (known_of new_lanes i) i apart
          (omega arith) (omega arith) (x.each i)));
    }

-- it knew of none, even after a look
dry_round : {rounds lane : ℕ} (first_lanes : List Lane) (first : Kept) (lanes new_lanes : List Lane) (s t : Kept)
    → InRound rounds lane first_lanes first lanes s → t ≡ s → KnowMore lanes new_lanes → IsDry new_lanes lane
    → InRound rounds (lane + 1) first_lanes first new_lanes t
dry_round {rounds} {lane} first_lanes first lanes new_lanes s t x same knows dry =
    subst (λ (u : Kept). InRound rounds (lane + 1) first_lanes first new_lanes u) (sym same) (record {
      low = x.low;
      each = by_lane lane (λ i. IsAtRound (rounds_over rounds (lane + 1) i) (known_of first_lanes i) (gave first s i) (known_of new_lanes i))
          (let was = x.each lane in
          let most = was.most in
          let stays = was.stays in
          let before = here_before rounds lane in
          let after = here_after rounds lane in
          let left = knows lane in
          let none = dry_at new_lanes lane dry in
          record { most = omega arith; least = inr (omega arith); stays = omega arith })
          (λ i apart. other_lane rounds lane (known_of first_lanes i) (gave first s i) (known_of lanes i) (gave first s i) (known_of new_lanes i) i apart
          refl (knows i) (x.each i));
    })

nothing_more : (es : List Entry) → length es ≡ 0 → es ≡ []
nothing_more [] none = refl
nothing_more (e ∷ es) none = absurd (omega arith)

-- a refused step takes nothing
turned_entries : (s t : Kept) → Turned 0 s t → t.entries ≡ s.entries
turned_entries s t turned =
    let more = turned.follows.continues.entries_more in
    let is = turned.follows.continues.history in
    let all = ap length is ∙ length-append s.entries more in
    let grew = turned.grew in
    is ∙ ap (λ (es : List Entry). s.entries ++ es) (nothing_more more (omega arith)) ∙ append-nil s.entries

fair_as : (first_lanes : List Lane) (first s t : Kept) → t.entries ≡ s.entries → IsFair first_lanes first s → IsFair first_lanes first t
fair_as first_lanes first s t same fair i j behind =
    let a = ap (λ (es : List Entry). groups_of i (drop (length first.entries) es)) same in
    let b = ap (λ (es : List Entry). groups_of j (drop (length first.entries) es)) same in
    let was = fair i j (omega arith) in
    omega arith

-- ---- what a take says

pub over_some : {rounds : ℕ} (lane k : ℕ) (away : ℕ → Bool) (first_lanes : List Lane) (first : Kept) (lanes new_lanes : List Lane) (s t : Kept) (o : Option ℕ)
    → o ≡ Some k → TakeLeaves lane new_lanes away s (Ok o) t → MatchOption o (KnowMore lanes new_lanes) (λ _. KnowAfter lane lanes new_lanes)
    → InRound rounds lane first_lanes first lanes s → InRound rounds (lane + 1) first_lanes first new_lanes t
over_some lane k away first_lanes first lanes new_lanes s t o is left knows x =
    let took = subst (λ (p : Option ℕ). TakeLeaves lane new_lanes away s (Ok p) t) is left in
    took_round first_lanes first lanes new_lanes s t x took.0
    (subst (λ (p : Option ℕ). MatchOption p (KnowMore lanes new_lanes) (λ _. KnowAfter lane lanes new_lanes)) is knows)

pub over_none : {rounds : ℕ} (lane : ℕ) (away : ℕ → Bool) (first_lanes : List Lane) (first : Kept) (lanes new_lanes : List Lane) (s t : Kept) (o : Option ℕ)
    → o ≡ None → TakeLeaves lane new_lanes away s (Ok o) t → MatchOption o (KnowMore lanes new_lanes) (λ _. KnowAfter lane lanes new_lanes)
    → IfNone o (Dries lane lanes new_lanes) → InRound rounds lane first_lanes first lanes s → InRound rounds (lane + 1) first_lanes first new_lanes t
over_none lane away first_lanes first lanes new_lanes s t o is left knows dry x =
    dry_round first_lanes first lanes new_lanes s t x (subst (λ (p : Option ℕ). TakeLeaves lane new_lanes away s (Ok p) t) is left)
    (subst (λ (p : Option ℕ). MatchOption p (KnowMore lanes new_lanes) (λ _. KnowAfter lane lanes new_lanes)) is knows)
    (subst (λ (p : Option ℕ). IfNone p (Dries lane lanes new_lanes)) is dry).here

pub over_fault : {rounds : ℕ} (lane : ℕ) (away : ℕ → Bool) (first_lanes : List Lane) (first : Kept) (lanes new_lanes : List Lane) (s t : Kept) (fault : StoreFault)
    → RefusesNext lane new_lanes away s fault t → InRound rounds lane first_lanes first lanes s → IsFair first_lanes first t
over_fault lane away first_lanes first lanes new_lanes s t fault refused x =
    fair_as first_lanes first s t (turned_entries s t (follows_refused away refused.group s t fault refused.refuses))
    (fair_of first_lanes first lanes s x)

-- a round went over all lanes
pub end_round : {rounds : ℕ} (lane : ℕ) (first_lanes : List Lane) (first : Kept) (lanes : List Lane) (s : Kept) → length lanes ≤ lane
    → InRound rounds lane first_lanes first lanes s → InRound (suc rounds) 0 first_lanes first lanes s
end_round {rounds} lane first_lanes first lanes s all x = record {
  low = x.low;
  each = λ i. (
      let was = x.each i in
      let next = over_none_yet (suc rounds) i in
      let most = was.most in
      let stays = was.stays in
      elim (over rounds lane i) [
        | inl after ↦ (
            let low = after.0 in
            let as_many = after.1 in
            let none = beyond lanes i (omega arith) in
            record { most = omega arith; least = inr (omega arith); stays = omega arith })
        | inr before ↦ (
            let as_many = before.1 in
            record {
              most = omega arith;
              least = elim was.least [ inl all ↦ inl (omega arith) | inr every ↦ inr (omega arith) ];
              stays = omega arith;
            })
      ]);
}

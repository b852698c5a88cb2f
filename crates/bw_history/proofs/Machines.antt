-- What holds of the machine, step by step.

use Rattle.std.proofs.Common.{◌≡◌, ℕ, zero, suc, ◌≤◌, inl, inr, true, List, [], ◌∷◌, ◌++◌, length, take, refl, sym, ap, ◌∙◌, arith, subst}
use Rattle.std.proofs.Math.Seq.{take-length}
use Rattle.std.proofs.lemmas.List.{take-append-le, length-take-le}
use Rattle.bw_history.specs.declared.entry.Entry.{Entry}
use Rattle.bw_history.specs.History.{is_grouped}
use Rattle.bw_history.specs.Machine.{Machine, Step, IsMachine, IsGroup, takes, keeps, breaks, shows}
use Rattle.bw_history.specs.Laws.{NothingLost, DurableStays, StopsLeaveBeginnings, IsWholeBeginning}
use Rattle.bw_history.proofs.Grouped.{grouped_more}

-- a shorter beginning of a beginning
pub take_take : (i j : ℕ) (xs : List Entry) → i ≤ j → take i (take j xs) ≡ take i xs
take_take zero j xs le = refl
take_take (suc i) zero xs le = absurd (omega arith)
take_take (suc i) (suc j) [] le = refl
take_take (suc i) (suc j) (x ∷ xs) le = ap (λ (l : List Entry). x ∷ l) (take_take i j xs (omega arith))

long : (xs ys : List Entry) → length xs ≤ length (xs ++ ys)
long [] ys = omega arith
long (x ∷ xs) ys = (let rest = long xs ys in omega arith)

nothing_lost : (m : Machine) → IsMachine m → NothingLost m m
nothing_lost m is = record { lawful = is; start = refl; durable = omega arith; same = refl }

then_lost : (a b c : Machine) → NothingLost a b → NothingLost b c → NothingLost a c
then_lost a b c x y =
    let one = x.durable in
    let two = y.durable in
    record {
      lawful = y.lawful;
      start = y.start ∙ x.start;
      durable = omega arith;
      same =
          sym (take_take a.durable b.durable c.entries one) ∙ ap (take a.durable) y.same
          ∙ take_take a.durable b.durable b.entries one ∙ x.same;
    }

took : (m : Machine) (group : List Entry) → IsMachine m → IsGroup group → NothingLost m (takes group m)
took m group is one =
    let low = is.durable in
    let high = is.written in
    let more = long m.entries group in
    let kept = take-append-le m.durable m.entries group (omega arith) in
    let left = take-append-le m.written m.entries group (omega arith) in
    record {
      lawful = record {
        whole = grouped_more m.entries group is.whole one.0;
        kept = ap is_grouped kept ∙ is.kept;
        left = ap is_grouped left ∙ is.left;
        shown = is.shown;
        durable = is.durable;
        written = omega arith;
      };
      start = refl;
      durable = omega arith;
      same = kept;
    }

kept_all : (m : Machine) → IsMachine m → NothingLost m (keeps m)
kept_all m is =
    let low = is.durable in
    let high = is.written in
    let seen = is.shown in
    let all = ap is_grouped (take-length m.entries) ∙ is.whole in
    record {
      lawful = record { whole = is.whole; kept = all; left = all; shown = omega arith; durable = omega arith; written = omega arith };
      start = refl;
      durable = omega arith;
      same = refl;
    }

broken : (m : Machine) → IsMachine m → NothingLost m (breaks m)
broken m is =
    let low = is.durable in
    let high = is.written in
    let all = ap is_grouped (take-length m.entries) ∙ is.whole in
    record {
      lawful = record { whole = is.whole; kept = is.kept; left = all; shown = is.shown; durable = omega arith; written = omega arith };
      start = refl;
      durable = omega arith;
      same = refl;
    }

shown : (m : Machine) → IsMachine m → NothingLost m (shows m)
shown m is = record {
  lawful = record { whole = is.whole; kept = is.kept; left = is.left; shown = omega arith; durable = is.durable; written = is.written };
  start = refl;
  durable = omega arith;
  same = refl;
}

one_step : (old new : Machine) → IsMachine old → Step old new → NothingLost old new
one_step old new is (inl s) = subst (NothingLost old) (sym s.2) (took old s.0 is s.1)
one_step old new is (inr (inl s)) = subst (NothingLost old) (sym s) (kept_all old is)
one_step old new is (inr (inr (inl s))) = subst (NothingLost old) (sym s) (broken old is)
one_step old new is (inr (inr (inr s))) = subst (NothingLost old) (sym s) (shown old is)

pub durable_stays : DurableStays
durable_stays zero old new is s = subst (NothingLost old) (sym s) (nothing_lost old is)
durable_stays (suc n) old new is s =
    let before = durable_stays n old s.0 is s.1 in
    then_lost old s.0 new before (one_step s.0 new before.lawful s.2)

left_upto : (m : Machine) (left : List Entry) (n : ℕ) → left ≡ take n m.entries → m.durable ≤ n → n ≤ length m.entries
    → is_grouped (take n m.entries) ≡ true → IsWholeBeginning m left
left_upto m left n is low high whole =
    let long = length-take-le n m.entries high in
    let many = ap (λ (l : List Entry). length l) is ∙ long in
    record {
      begins = is ∙ ap (λ k. take k m.entries) (sym many);
      whole = ap is_grouped is ∙ whole;
      kept = ap (take m.durable) is ∙ take_take m.durable n m.entries low;
      many = omega arith;
    }

pub stops_leave_beginnings : StopsLeaveBeginnings
stops_leave_beginnings m left is (inl e) = (let low = is.durable in let high = is.written in left_upto m left m.durable e (omega arith) (omega arith) is.kept)
stops_leave_beginnings m left is (inr e) = left_upto m left m.written e is.durable is.written is.left

-- Calls one after the other, and the first refusal.

use Rattle.std.proofs.Common.{ℕ, ◌≡◌, ◌≤◌, ◌+◌, ◌⊎◌, inl, inr, zero, suc, Bool, Result, Ok, Err, List, [], ◌∷◌, drop, refl, ap, ◌∙◌, arith}
use Rattle.std.proofs.lemmas.List.{drop-drop}
use Rattle.bw_log.specs.Contents.{roster}
use Rattle.bw_care.specs.declared.cleaner.Cleaned.{Cleaned}
use Rattle.bw_terms.specs.declared.fault.StoreFault.{StoreFault}
use Rattle.bw_store.specs.Kept.{Kept}
use Rattle.bw_ring.specs.declared.lane.Lane.{Lane}
use Rattle.bw_store.specs.Following.{Continues, Follows, HasBoxes}
use Rattle.bw_store.specs.Renewing.{HasBoxesAfter, HasFloorAfter}
use Rattle.bw_store.specs.Showing.{SettleRefuses}
use Rattle.bw_store.proofs.Showing.{boxes_stay, continue_then, stays_as_it_was}
use Rattle.bw_drive.specs.Ran.{GaveUp, Runs, CallRefused, StopsAfter, Stops}

drop_none : {A : Type 0} (xs : List A) → xs ≡ drop 0 xs
drop_none [] = refl
drop_none (x ∷ xs) = refl

-- a call that keeps each box
pub kept_all : (n : ℕ) (a b : Kept) → Follows a b → HasBoxes a b → Runs n a b
kept_all zero a b f k = record { continues = f.continues; boxes = k; floor = f.floor }
kept_all (suc n) a b f k =
    record { continues = f.continues; boxes = record { count = 0; rest = k.same ∙ drop_none (roster a.log) }; floor = inl f.floor }

stays : (a : Kept) → Continues a a
stays a = (stays_as_it_was a).continues

-- a cleaning gave a segment up
gave_up : (a b : Kept) → Continues a b → roster b.log ≡ drop 1 (roster a.log) → b.floor ≡ b.durable → GaveUp a b
gave_up a b f gone at =
    record { before = a; after = b; reached = stays a; gone = gone; cleaned = f; at = at; rest = stays b; floor = refl }

-- whether a segment was given up is shown by the floor and by the row of boxes alike
refused_floor : (a b : Kept) (cause : StoreFault) → Continues a b → HasFloorAfter {A = Cleaned} 1 a (Err cause) b → (b.floor ≡ a.floor) ⊎ GaveUp a b
refused_floor a b cause f (inl same) = inl same
refused_floor a b cause f (inr up) = inr (gave_up a b f up.2 up.1)

-- a cleaning, whatever its answer
pub kept_but : (n : ℕ) (a b : Kept) (r : Result Cleaned StoreFault) → 1 ≤ n → Continues a b → HasBoxesAfter 1 a r b → HasFloorAfter 1 a r b → Runs n a b
kept_but zero a b r some f k floor = absurd (omega arith)
kept_but (suc n) a b (Ok x) some f k floor =
    record { continues = f; boxes = record { count = 1; rest = k }; floor = inr (gave_up a b f k floor) }
kept_but (suc n) a b (Err x) some f (inl k) floor = record {
  continues = f;
  boxes = record { count = 0; rest = k ∙ drop_none (roster a.log) };
  floor = refused_floor a b x f floor;
}
kept_but (suc n) a b (Err x) some f (inr k) floor =
    record { continues = f; boxes = record { count = 1; rest = k.1 }; floor = refused_floor a b x f floor }

pub runs_none : (n : ℕ) (a : Kept) → Runs n a a
runs_none n a = kept_all n a a (stays_as_it_was a) (boxes_stay a)

floors_then : (a b c : Kept) → Continues a b → Continues b c → (b.floor ≡ a.floor) ⊎ GaveUp a b → (c.floor ≡ b.floor) ⊎ GaveUp b c
    → (c.floor ≡ a.floor) ⊎ GaveUp a c
floors_then a b c f g (inl x) (inl y) = inl (y ∙ x)
floors_then a b c f g (inr x) (inl y) = inr (record {
  before = x.before;
  after = x.after;
  reached = x.reached;
  gone = x.gone;
  cleaned = x.cleaned;
  at = x.at;
  rest = continue_then x.after b c x.rest g;
  floor = y ∙ x.floor;
})
floors_then a b c f g x (inr y) = inr (record {
  before = y.before;
  after = y.after;
  reached = continue_then a b y.before f y.reached;
  gone = y.gone;
  cleaned = y.cleaned;
  at = y.at;
  rest = y.rest;
  floor = y.floor;
})

pub runs_then : (n : ℕ) (a b c : Kept) → Runs n a b → Runs n b c → Runs n a c
runs_then zero a b c r s = record {
  continues = continue_then a b c r.continues s.continues;
  boxes = record { same = s.boxes.same ∙ r.boxes.same };
  floor = s.floor ∙ r.floor;
}
runs_then (suc n) a b c r s = record {
  continues = continue_then a b c r.continues s.continues;
  boxes = record {
    count = r.boxes.count + s.boxes.count;
    rest = s.boxes.rest ∙ ap (drop s.boxes.count) r.boxes.rest ∙ drop-drop s.boxes.count r.boxes.count (roster a.log);
  };
  floor = floors_then a b c r.continues s.continues r.floor s.floor;
}

-- ---- the first refusal

pub stops_now : (n : ℕ) (a b : Kept) (cause : StoreFault) → CallRefused n a cause b → StopsAfter n a cause b
stops_now n a b cause r = record { before = a; ran = runs_none n a; refused = r }

pub stops_then : (n : ℕ) (a b c : Kept) (cause : StoreFault) → Runs n a b → StopsAfter n b cause c → StopsAfter n a cause c
stops_then n a b c cause r s = record { before = s.before; ran = runs_then n a b s.before r s.ran; refused = s.refused }

-- a run, and a call after it that keeps each box
pub runs_kept : (n : ℕ) (a b c : Kept) → Runs n a b → Follows b c → HasBoxes b c → Runs n a c
runs_kept n a b c r f k = runs_then n a b c r (kept_all n b c f k)

-- a run, and a settlement after it that was refused
pub stops_last : (n : ℕ) (lanes : List Lane) (away : ℕ → Bool) (a b c : Kept) (cause : StoreFault) → Runs n a b → SettleRefuses b lanes away cause c
    → Stops n a cause c
stops_last n lanes away a b c cause r refused = inr (record { before = b; ran = r; refused = inr (inr (inr (lanes, away, refused))) })

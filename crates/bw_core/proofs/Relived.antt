-- A store that begins over the boxes of another goes on with what the end of that one left.

use Rattle.std.proofs.Common.{◌≡◌, ◌⊎◌, ℕ, ◌≤◌, inl, inr, true, Result, Ok, Err, List, [], length, take, refl, sym, ap, ◌∙◌, subst, arith}
use Rattle.std.proofs.Math.Seq.{take-length}
use Rattle.std.specs.Prelude.{MatchResult}
use Rattle.std.specs.declared.alloc.Global.{Global}
use Rattle.std.specs.declared.dyn_box.DynBox.{DynBox}
use Rattle.bw_record.specs.declared.block.Place.{Place}
use Rattle.bw_record.specs.declared.leaf.Leaf.{Leaf}
use Rattle.bw_leaf.specs.Changed.{Map}
use Rattle.bw_device.specs.Holding.{Holding}
use Rattle.bw_page.specs.Leaves.{pages, plain, union}
use Rattle.bw_buffer.specs.Filling.{Filling}
use Rattle.bw_ring.specs.Ends.{Ring}
use Rattle.bw_log.specs.Contents as logs
use Rattle.bw_log.specs.Views.{seen_by}
use Rattle.bw_care.specs.Found.{IsFoundIn, finding_of}
use Rattle.bw_care.specs.Recovery.{Finding, recovery}
use Rattle.bw_care.specs.declared.recovered.Recovered.{Recovered}
use Rattle.bw_care.proofs.OwnLimits.{found_some, own_limits}
use Rattle.bw_lines.specs.declared.cause.RecoverCause.{RecoverCause}
use Rattle.bw_lines.specs.declared.cause.RecoverCause.TheVariants.{Empty}
use Rattle.bw_history.specs.declared.entry.Entry.{Entry}
use Rattle.bw_history.specs.Entries.{records}
use Rattle.bw_history.specs.History.{cut}
use Rattle.bw_history.specs.Machine.{Machine, MayLeave, after, begun}
use Rattle.bw_history.proofs.Machines.{take_take}
use Rattle.bw_core.specs.Kept.{IsSound, Kept}
use Rattle.bw_core.specs.Machine.{FindsLeft, machine_of}
use Rattle.bw_core.specs.Reopened.{Begins, reopened}
use Rattle.bw_core.specs.Relived.{BeginningsGoOn, OpeningsGoOn}
use Rattle.bw_core.proofs.Machines.{appended_within, fails_or_works, may_leave, written_behind}
use Rattle.bw_core.proofs.SettledMore.{all_appended}

-- ---- a store over what was recovered of some boxes begins with what is found in them

module _ {I : Type 0} {H : I → Type 0} where
  pub begins_over : (v : DynBox I Global H → Holding) (held : List Holding) (r : Recovered I H) (rings : List Ring) (newest : List Place) (making : Filling)
      (new : Kept) → IsFoundIn v held r → new ≡ reopened rings r.last r.leaves newest making (seen_by v r.log) → Begins held new
  begins_over v held r rings newest making new x made = subst (Begins held) (sym made) (record {
    finding = finding_of r;
    found = x.found;
    start = refl;
    pages = refl;
    entries = refl;
    cuts = refl;
    durable = refl;
    floor = refl;
    over = record {
      live = x.live;
      spares = x.spares;
      is_open = x.is_open;
      works = r.works;
      limit = x.limit;
      pairs = x.pairs;
      filed = r.limit;
      before = refl;
      next = r.follows;
    };
  })

-- ---- what is found, by what recovery answers

found_so : (P : Finding → Type 0) (Q : RecoverCause → Type 0) (r : Result Finding RecoverCause) (f : Finding) → r ≡ Ok f → MatchResult r P Q → P f
found_so P Q (Ok x) f e m = (let same : x ≡ f = cc in subst P same m)
found_so P Q (Err x) f e m = absurd cc

pub refused_so : (P : Finding → Type 0) (Q : RecoverCause → Type 0) (r : Result Finding RecoverCause) (c : RecoverCause) → r ≡ Err c → MatchResult r P Q
    → Q c
refused_so P Q (Ok x) c e m = absurd cc
refused_so P Q (Err x) c e m = (let same : x ≡ c = cc in subst Q same m)

abbrev IsLeft : Kept → Finding → Type 0
IsLeft old f = (left : List Entry) × MayLeave (machine_of old) left × (f.leaves ≡ pages old.filed.m old.start (records left))

abbrev pub IsNone : Kept → RecoverCause → Type 0
IsNone old cause = (cause ≡ Empty) × (old.before ≡ 0) × (old.durable ≡ 0)

left_of : (old : Kept) (f : Finding) → IsSound old → recovery (logs.boxes old.log) ≡ Ok f → IsLeft old f
left_of old f h found = found_so (IsLeft old) (IsNone old) (recovery (logs.boxes old.log)) f found (may_leave old h)

pub none_of : (old : Kept) (cause : RecoverCause) → IsSound old → recovery (logs.boxes old.log) ≡ Err cause → IsNone old cause
none_of old cause h refused = refused_so (IsLeft old) (IsNone old) (recovery (logs.boxes old.log)) cause refused (may_leave old h)

-- ---- entries that a stop may leave

-- their pages hold their map
map_of : (old : Kept) (left : List Entry) → IsSound old → MayLeave (machine_of old) left
    → union (pages old.filed.m old.start (records left)) ≡ plain old.start (records left)
map_of old left h (inl e) =
    ap (λ (es : List Entry). union (pages old.filed.m old.start (records es))) e ∙ h.mapped_at old.durable (appended_within old h)
    ∙ sym (ap (λ (es : List Entry). plain old.start (records es)) e)
map_of old left h (inr e) =
    ap (λ (es : List Entry). union (pages old.filed.m old.start (records es))) e ∙ h.mapped_at (length old.cuts) (omega arith)
    ∙ sym (ap (λ (es : List Entry). plain old.start (records es)) e)

kept_in : (old : Kept) (left : List Entry) → IsSound old → MayLeave (machine_of old) left
    → take (machine_of old).durable left ≡ take (machine_of old).durable old.entries
kept_in old left h (inl e) =
    let n = cut old.cuts old.durable in
    ap (take n) e ∙ take_take n n old.entries (omega arith)
kept_in old left h (inr e) =
    let n = cut old.cuts old.durable in
    let low = written_behind old h in
    ap (take n) e ∙ take_take n (cut old.cuts (length old.cuts)) old.entries low

which_of : (old : Kept) (left : List Entry) → IsSound old → MayLeave (machine_of old) left
    → (left ≡ take (machine_of old).durable old.entries) ⊎ ((old.log.is_failed ≡ true) × (left ≡ old.entries))
which_of old left h (inl e) = inl e
which_of old left h (inr e) = elim (fails_or_works old.log.is_failed) [
  | inl failed ↦ inr (failed, e ∙ ap (λ n. take n old.entries) (h.last_cut failed) ∙ take-length old.entries)
  | inr works ↦ inl (e ∙ ap (λ k. take (cut old.cuts k) old.entries) (all_appended old h works))
]

-- ---- the machine that begins

abbrev machine_by : Map → List Entry → List ℕ → ℕ → Machine
machine_by start entries cuts durable =
    record { start = start; entries = entries; durable = cut cuts durable; written = cut cuts (length cuts); shown = 0 }

begins_as : (new : Kept) (start : Map) → union new.start ≡ start → new.entries ≡ [] → new.cuts ≡ [] → new.durable ≡ 0 → machine_of new ≡ begun start
begins_as new start begins entries cuts durable =
    ap (λ (m : Map). machine_by m new.entries new.cuts new.durable) begins
    ∙ ap (λ (es : List Entry). machine_by start es new.cuts new.durable) entries
    ∙ ap (λ (cs : List ℕ). machine_by start [] cs new.durable) cuts
    ∙ ap (λ n. machine_by start [] [] n) durable

pub go_on : BeginningsGoOn
go_on old new h b =
    let left = left_of old b.finding h b.found in
    let start = b.start ∙ left.2 in
    let map = ap (λ (ls : List Leaf). union ls) start ∙ map_of old left.0 h left.1 in
    record {
      left = left.0;
      may_leave = left.1;
      which = which_of old left.0 h left.1;
      kept = kept_in old left.0 h left.1;
      start = start;
      machine = begins_as new (after (machine_of old).start left.0) map b.entries b.cuts b.durable;
      pairs =
          b.over.filed ∙ b.over.pairs ∙ own_limits old.log h.log (found_some (logs.boxes old.log) b.finding b.found) ∙ sym h.pairs;
      begins = b;
    }

pub opens_anew : OpeningsGoOn
opens_anew old h empty rings m f spares =
    let none = none_of old Empty h empty in
    let zero_kept = ap (λ k. take (cut old.cuts k) old.entries) none.2 in
    let start = ap (λ (ls : List Leaf). begun (union ls)) (h.first none.1) in
    ([], inl (sym zero_kept), sym start)

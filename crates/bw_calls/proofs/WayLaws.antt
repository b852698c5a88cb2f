-- What the ways to a home say of its plain map.

use Rattle.std.proofs.Common.{◌≡◌, ◌⊎◌, inl, inr, Bool, cond, Option, Some, None, List, map, sym, ap, ◌∙◌}
use Rattle.std.specs.Prelude.{◌↔◌, IsTrue, nat_eq}
use Rattle.std.specs.List.{fold, starts_with}
use Rattle.std.specs.declared.alloc.Global.{Global}
use Rattle.std.specs.declared.vec.Vec.{Vec}
use Rattle.bw_record.specs.declared.record.Record.{Record}
use Rattle.bw_record.specs.declared.leaf.Leaf.{Leaf}
use Rattle.bw_leaf.specs.Changed.{Map, changed_map}
use Rattle.bw_page.specs.Leaves.{plain}
use Rattle.bw_ring.specs.Ends.{accepted}
use Rattle.bw_ring.specs.declared.feed.Feed.{Feed}
use Rattle.bw_rows.specs.Spelling.{Bytes}
use Rattle.bw_rows.specs.Steps.{after}
use Rattle.bw_home.specs.Maps.{Maps, Refuses}
use Rattle.bw_home.proofs.Maps.{items, first_of, same_map}
use Rattle.bw_home.specs.declared.fault.MapFault.{MapFault}
use Rattle.bw_home.specs.declared.fault.MapFault.TheVariants.{NotKept, NotPut, Waits, Writers}
use Rattle.bw.specs.Walks.{IsAhead, IsNext}
use Rattle.bw_calls.specs.Changes.{IsFirstOf}
use Rattle.bw_calls.specs.Standing.{is_waiting}
use Rattle.bw_calls.proofs.PlainLaws.{plain_of, all_changes}

-- a group was put
pub put_is : (m new : Map) (group : List Record) → new ≡ fold changed_map m group → plain_of new ≡ after (plain_of m) group
put_is m new group e = ap plain_of e ∙ all_changes m group

either : (fault : MapFault) (was changed : Map) (m : Maps) → Refuses fault was changed m → (m.put ≡ was) ⊎ (m.put ≡ changed)
either Writers was changed m e = inl e
either (NotPut cause) was changed m e = inl e
either (Waits cause) was changed m e = inr e
either (NotKept cause) was changed m e = inl e

plain_either : (was new : Map) (group : List Record) → (new ≡ was) ⊎ (new ≡ fold changed_map was group)
    → (plain_of new ≡ plain_of was) ⊎ (plain_of new ≡ after (plain_of was) group)
plain_either was new group (inl e) = inl (ap plain_of e)
plain_either was new group (inr e) = inr (put_is was new group e)

-- a group was refused: it was put, or not
pub refused_is : (fault : MapFault) (was : Map) (m : Maps) (group : List Record) → Refuses fault was (fold changed_map was group) m
    → (plain_of m.put ≡ plain_of was) ⊎ (plain_of m.put ≡ after (plain_of was) group)
refused_is fault was m group e = plain_either was m.put group (either fault was (fold changed_map was group) m e)

-- a step was refused: it was put where it waits, and not else
pub step_is : (fault : MapFault) (b : Bool) (was : Map) (m : Maps) (group : List Record) → b ≡ is_waiting fault
    → Refuses fault was (fold changed_map was group) m → plain_of m.put ≡ cond b (after (plain_of was) group) (plain_of was)
step_is Writers b was m group waits e = ap plain_of e ∙ ap (λ (x : Bool). cond x (after (plain_of was) group) (plain_of was)) (sym waits)
step_is (NotPut cause) b was m group waits e = ap plain_of e ∙ ap (λ (x : Bool). cond x (after (plain_of was) group) (plain_of was)) (sym waits)
step_is (Waits cause) b was m group waits e = put_is was m.put group e ∙ ap (λ (x : Bool). cond x (after (plain_of was) group) (plain_of was)) (sym waits)
step_is (NotKept cause) b was m group waits e = ap plain_of e ∙ ap (λ (x : Bool). cond x (after (plain_of was) group) (plain_of was)) (sym waits)

-- the first pair of a walk over a prefix
pub first_is : (m : Map) (prefix : Bytes) (its place : Option Bytes) (pair : Option (Bytes × Bytes))
    → ((q : Bytes) → IsAhead its place q ↔ IsTrue (starts_with nat_eq q prefix)) → IsNext m (IsAhead its place) pair → IsFirstOf (plain_of m) prefix pair
first_is m prefix its place None over next = λ q begins. next q ((over q).1 begins)
first_is m prefix its place (Some pair) over next = (next.its, (over pair.0).0 next.ahead)

-- feeds that are as they were, over the same start, have put the same
pub same_feeds : (start_old start_new : List Leaf) (old new : Vec Feed Global) → start_new ≡ start_old → new ≡ old
    → plain start_new (items (first_of new.items)) ≡ plain start_old (items (first_of old.items))
same_feeds start_old start_new old new start same = same_map start_old start_new old.items new.items start (ap (λ (f : Vec Feed Global). map accepted f.items) same)

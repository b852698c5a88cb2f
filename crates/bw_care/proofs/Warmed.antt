-- Pages that are read from the log, one by one or all of them.

use Rattle.std.proofs.Common.{◌≡◌, ℕ, zero, suc, ◌+◌, ◌<◌, ◌≤◌, ◌==◌, if◌then◌else◌, Bool, true, false, Option, Some, None, Result, Ok, Err, List, [], ◌∷◌, length, slice_get}
use Rattle.std.proofs.Common.{refl, sym, ap, subst, ◌∙◌, arith, is_some, IfOk}
use Rattle.std.proofs.lemmas.Bool.{eqb-true, eqb-false}
use Rattle.bw_record.specs.declared.leaf.Leaf.{Leaf}
use Rattle.std.specs.FinMap as finite
use Rattle.std.specs.declared.dyn_box.DynBox.{DynBox}
use Rattle.std.specs.declared.alloc.Global.{Global}
use Rattle.bw_record.specs.declared.block.Frame.{Frame}
use Rattle.bw_leaf.specs.Changed.{Bytes}
use Rattle.bw_leaf.specs.Forwards.{content, blocks_of}
use Rattle.bw_leaf.specs.Words.{value_on}
use Rattle.bw_device.specs.Holding.{Holding}
use Rattle.bw_page.specs.Leaves.{home, leaf_at, union}
use Rattle.bw_page.proofs.Law.{get-union}
use Rattle.bw_page.proofs.PageByPage.{home_there}
use Rattle.bw_page.specs.Seats.{is_among, numbers_from}
use Rattle.bw_page.specs.Shown.{Shown, is_evicted_page, leaf_here}
use Rattle.bw_page.specs.Standing.{Stand}
use Rattle.bw_log.specs.Contents.{Contents, counted, IsSound}
use Rattle.bw_log.specs.Places.{first_number}
use Rattle.bw_log.specs.Reads.{IsKept, StopsAt}
use Rattle.bw_log.specs.Views.{seen_by}
use Rattle.bw_log.specs.declared.fault.LogFault.{LogFault}
use Rattle.bw_log.specs.declared.fault.LogFault.TheVariants as log
use Rattle.bw_log.proofs.Fetched.{kept_after, kept_same, sound_after, stops_as}
use Rattle.bw_lines.specs.declared.cause.RecoverCause.{RecoverCause}
use Rattle.bw_lines.specs.declared.cause.RecoverCause.TheVariants.{NoMemory, BadConfig, Device, Spent, Empty, BadBytes, Gap, Mixed, BadLink, Unlawful}
use Rattle.bw_care.specs.Found.{IsRecovered}
use Rattle.bw_care.specs.Recovery.{last_number}
use Rattle.bw_care.specs.Warming.{AreSame, IsReadFault, unread_of, Unread, ReadEnds}
use Rattle.bw_care.specs.declared.recovered.Recovered.{Recovered}

-- ---- why a read stops

pub read_fault : (reads : ℕ → Type 0) (old new : Contents) (fault : LogFault) → StopsAt reads old fault new → (fault ≡ log.NoPage → ⊥) → IsReadFault fault
read_fault reads old new log.NoMemory stops there = tt
read_fault reads old new (log.Device lease) stops there = tt
read_fault reads old new log.BadConfig stops there = absurd stops
read_fault reads old new log.NoSegment stops there = absurd stops
read_fault reads old new log.Failed stops there = absurd stops
read_fault reads old new log.Spent stops there = tt
read_fault reads old new log.NoPage stops there = absurd (there refl)

pub unread_stops : (reads : ℕ → Type 0) (old new : Contents) (fault : LogFault) → StopsAt reads old fault new → IsReadFault fault
    → Unread reads old (unread_of fault) new
unread_stops reads old new log.NoMemory stops is = stops
unread_stops reads old new (log.Device lease) stops is = stops
unread_stops reads old new log.BadConfig stops is = absurd is
unread_stops reads old new log.NoSegment stops is = absurd is
unread_stops reads old new log.Failed stops is = absurd is
unread_stops reads old new log.Spent stops is = stops
unread_stops reads old new log.NoPage stops is = absurd is

-- and the other way round
abbrev fault_in : RecoverCause → LogFault
fault_in NoMemory = log.NoMemory
fault_in BadConfig = log.BadConfig
fault_in (Device lease) = log.Device lease
fault_in Spent = log.Spent
fault_in Empty = log.BadConfig
fault_in (BadBytes segment at) = log.BadConfig
fault_in Gap = log.BadConfig
fault_in Mixed = log.BadConfig
fault_in (BadLink page) = log.BadConfig
fault_in (Unlawful page) = log.BadConfig

stops_in : (reads : ℕ → Type 0) (old new : Contents) (cause : RecoverCause) → Unread reads old cause new → StopsAt reads old (fault_in cause) new
stops_in reads old new NoMemory stops = stops
stops_in reads old new BadConfig stops = stops
stops_in reads old new (Device lease) stops = stops
stops_in reads old new Spent stops = stops
stops_in reads old new Empty stops = stops
stops_in reads old new (BadBytes segment at) stops = stops
stops_in reads old new Gap stops = stops
stops_in reads old new Mixed stops = stops
stops_in reads old new (BadLink page) stops = stops
stops_in reads old new (Unlawful page) stops = stops

unread_in : (reads : ℕ → Type 0) (old new : Contents) (cause : RecoverCause) → StopsAt reads old (fault_in cause) new → Unread reads old cause new
unread_in reads old new NoMemory stops = stops
unread_in reads old new BadConfig stops = stops
unread_in reads old new (Device lease) stops = stops
unread_in reads old new Spent stops = stops
unread_in reads old new Empty stops = stops
unread_in reads old new (BadBytes segment at) stops = stops
unread_in reads old new Gap stops = stops
unread_in reads old new Mixed stops = stops
unread_in reads old new (BadLink page) stops = stops
unread_in reads old new (Unlawful page) stops = stops

-- a refusal that is handed on, if the log had not changed before
pub unread_since : (reads others : ℕ → Type 0) (old now new : Contents) (cause : RecoverCause) → now ≡ old → ((i : ℕ) → reads i → others i)
    → Unread reads now cause new → Unread others old cause new
unread_since reads others old now new cause same more stops =
    subst (λ (c : Contents). Unread others c cause new) same
    (unread_in others now new cause (stops_as reads others now new (fault_in cause) more (stops_in reads now new cause stops)))

-- ---- what a read leaves

pub sound_ends : {A : Type 0} (reads : ℕ → Type 0) (old new : Contents) (r : Result A RecoverCause) → IsSound old → ReadEnds reads old r new → IsSound new
sound_ends reads old new (Ok x) sound ends = subst IsSound (sym ends) sound
sound_ends reads old new (Err cause) sound ends = sound_after reads old new (fault_in cause) sound (stops_in reads old new cause ends)

pub kept_ends : {A : Type 0} (reads : ℕ → Type 0) (old new : Contents) (r : Result A RecoverCause) → ReadEnds reads old r new → IsKept old new
kept_ends reads old new (Ok x) ends = kept_same old new ends
kept_ends reads old new (Err cause) ends = kept_after reads old new (fault_in cause) (stops_in reads old new cause ends)

pub unread_sound : (reads : ℕ → Type 0) (old new : Contents) (cause : RecoverCause) → IsSound old → Unread reads old cause new → IsSound new
unread_sound reads old new cause sound stops = sound_after reads old new (fault_in cause) sound (stops_in reads old new cause stops)

pub unread_kept : (reads : ℕ → Type 0) (old new : Contents) (cause : RecoverCause) → Unread reads old cause new → IsKept old new
unread_kept reads old new cause stops = kept_after reads old new (fault_in cause) (stops_in reads old new cause stops)

-- what stands beside the segments stays
pub record StaysBeside (old new : Contents) : Type 0 where
  pub next : new.next ≡ old.next
  pub failed : new.is_failed ≡ old.is_failed
  pub m : new.m ≡ old.m
  pub pages : new.pages ≡ old.pages

beside_same : (old new : Contents) → new ≡ old → StaysBeside old new
beside_same old new same = record {
  next = ap (λ (c : Contents). c.next) same;
  failed = ap (λ (c : Contents). c.is_failed) same;
  m = ap (λ (c : Contents). c.m) same;
  pages = ap (λ (c : Contents). c.pages) same;
}

beside_stops : (reads : ℕ → Type 0) (old new : Contents) (cause : RecoverCause) → Unread reads old cause new → StaysBeside old new
beside_stops reads old new NoMemory stops = beside_same old new stops
beside_stops reads old new BadConfig stops = absurd stops
beside_stops reads old new (Device lease) stops = record {
  next = ap (λ (c : Contents). c.next) stops.is;
  failed = ap (λ (c : Contents). c.is_failed) stops.is;
  m = ap (λ (c : Contents). c.m) stops.is;
  pages = ap (λ (c : Contents). c.pages) stops.is;
}
beside_stops reads old new Spent stops = beside_same old new stops.0
beside_stops reads old new Empty stops = absurd stops
beside_stops reads old new (BadBytes segment at) stops = absurd stops
beside_stops reads old new Gap stops = absurd stops
beside_stops reads old new Mixed stops = absurd stops
beside_stops reads old new (BadLink page) stops = absurd stops
beside_stops reads old new (Unlawful page) stops = absurd stops

pub beside_ends : {A : Type 0} (reads : ℕ → Type 0) (old new : Contents) (r : Result A RecoverCause) → ReadEnds reads old r new → StaysBeside old new
beside_ends reads old new (Ok x) ends = beside_same old new ends
beside_ends reads old new (Err cause) ends = beside_stops reads old new cause ends

-- ---- which pages are in memory

is_not : (a b : ℕ) → (a ≡ b → ⊥) → (a == b) ≡ false
is_not a b apart = elim (a == b) as (λ t. (a == b) ≡ t → t ≡ false) [ true ↦ λ same. absurd (apart (eqb-true a b same)) | false ↦ λ other. refl ] refl

is_self : (a : ℕ) → (a == a) ≡ true
is_self a = elim (a == a) as (λ t. (a == a) ≡ t → t ≡ true) [ true ↦ λ same. refl | false ↦ λ other. absurd (eqb-false a a other refl) ] refl

leaf_there : (n : ℕ) (leaves : List Leaf) → n < length leaves → slice_get leaves n ≡ None → ⊥
leaf_there n [] h e = absurd (omega arith)
leaf_there zero (l ∷ ls) h e = absurd cc
leaf_there (suc n) (l ∷ ls) h e = leaf_there n ls (omega arith) e

page_there : (p : ℕ) (leaves : List Leaf) → 1 ≤ p → p ≤ length leaves → leaf_at p leaves ≡ None → ⊥
page_there zero leaves from to e = absurd (omega arith)
page_there (suc n) leaves from to e = leaf_there n leaves (omega arith) e

here_is : (b : Bool) (o : Option Leaf) → is_some (if b then None else o) ≡ true → b ≡ false
here_is true o is = absurd cc
here_is false o is = refl

-- a page in memory need not be brought back
pub here_stays : (f : Shown) (page : ℕ) → true ≡ is_some (leaf_here page f)
    → (p : ℕ) → is_evicted_page p f ≡ (if p == page then false else is_evicted_page p f)
here_stays f page is p =
    elim (p == page) as (λ b. (p == page) ≡ b → is_evicted_page p f ≡ (if b then false else is_evicted_page p f)) [
      | true ↦ λ same. ap (λ (q : ℕ). is_evicted_page q f) (eqb-true p page same) ∙ here_is (is_evicted_page page f) (leaf_at page f.leaves) (sym is)
      | false ↦ λ other. refl
    ] refl

gone_is : (b : Bool) (o : Option Leaf) → (o ≡ None → ⊥) → is_some (if b then None else o) ≡ false → b ≡ true
gone_is true o some is = refl
gone_is false None some is = absurd (some refl)
gone_is false (Some leaf) some is = absurd cc

-- one that is not is evicted
pub away_is : (f : Shown) (page : ℕ) → false ≡ is_some (leaf_here page f) → 1 ≤ page → page ≤ length f.leaves → is_evicted_page page f ≡ true
away_is f page is from to = gone_is (is_evicted_page page f) (leaf_at page f.leaves) (page_there page f.leaves from to) (sym is)

-- a page more was brought back
pub fewer : (f g start : Shown) (n : ℕ) → ((p : ℕ) → is_evicted_page p g ≡ (if p == n + 1 then false else is_evicted_page p f))
    → ((p : ℕ) → is_evicted_page p f ≡ true → (n < p) × (is_evicted_page p start ≡ true))
    → (p : ℕ) → is_evicted_page p g ≡ true → (n + 1 < p) × (is_evicted_page p start ≡ true)
fewer f g start n step behind p evicted =
    elim (p == n + 1) as (λ b. (p == n + 1) ≡ b → (if b then false else is_evicted_page p f) ≡ true → (n + 1 < p) × (is_evicted_page p start ≡ true)) [
      | true ↦ λ same e. absurd cc
      | false ↦ λ other e. (let was = behind p e in let apart = eqb-false p (n + 1) other in (omega (arith, was.0, apart), was.1))
    ] refl (sym (step p) ∙ evicted)

first_evicted : (x : ℕ) (xs : List ℕ) (f : Shown) → f.evicted ≡ x ∷ xs → is_evicted_page x f ≡ true
first_evicted x xs f is = ap (is_among x) is ∙ ap (λ (t : Bool). if t then true else is_among x xs) (is_self x)

-- none is left
pub none_away : (f start : Shown) (n : ℕ) → ((p : ℕ) → is_evicted_page p f ≡ true → (n < p) × (is_evicted_page p start ≡ true))
    → ((p : ℕ) → n < p → is_evicted_page p start ≡ false) → f.evicted ≡ []
none_away f start n behind beyond = evicted_as f.evicted refl where
  evicted_as : (es : List ℕ) → f.evicted ≡ es → es ≡ []
  evicted_as [] is = refl
  evicted_as (x ∷ xs) is = (let one = behind x (first_evicted x xs f is) in let none = beyond x one.0 in let no : true ≡ false = sym one.1 ∙ none in absurd cc)

-- the leaf that was read is the page's
pub leaf_is : (c : Contents) (m : ℕ) (leaves : List Leaf) (page : ℕ) (leaf : Leaf) → Stand m (counted c) leaves → 1 ≤ page → page ≤ length leaves
    → content page (blocks_of (counted c)) ≡ Some leaf → leaf_at page leaves ≡ Some leaf
leaf_is c m leaves page leaf stand from to read = sym (stand.each page from to) ∙ read

-- pages are numbered from 1
pub first_behind : (f : Shown) → is_evicted_page 0 f ≡ false → (p : ℕ) → is_evicted_page p f ≡ true → (0 < p) × (is_evicted_page p f ≡ true)
first_behind f none zero evicted = (let no : true ≡ false = sym evicted ∙ none in absurd cc)
first_behind f none (suc p) evicted = (omega arith, evicted)

among_from : (p n : ℕ) → 1 ≤ p → is_among 0 (numbers_from p n) ≡ false
among_from p zero from = refl
among_from p (suc n) from =
    ap (λ (t : Bool). if t then true else is_among 0 (numbers_from (p + 1) n)) (is_not p 0 (λ e. absurd (omega (arith, e))))
    ∙ among_from (p + 1) n (omega arith)

pub numbered_found : (f : Shown) → f.evicted ≡ numbers_from 1 (length f.leaves) → is_evicted_page 0 f ≡ false
numbered_found f away = ap (is_among 0) away ∙ among_from 1 (length f.leaves) (omega arith)

pub numbered_less : (f g : Shown) (n : ℕ) → ((p : ℕ) → is_evicted_page p g ≡ (if p == n + 1 then false else is_evicted_page p f))
    → is_evicted_page 0 f ≡ false → is_evicted_page 0 g ≡ false
numbered_less f g n step none =
    step 0 ∙ ap (λ (t : Bool). if t then false else is_evicted_page 0 f) (is_not 0 (n + 1) (λ e. absurd (omega (arith, e)))) ∙ none

-- ---- what was recovered

-- the value that was read of a key's page is the key's
pub value_is : (c : Contents) (m : ℕ) (leaves : List Leaf) (key : Bytes) (p : ℕ) → Stand m (counted c) leaves → p ≡ (home key leaves).page
    → (1 ≤ p) × (p ≤ length leaves) → {value : Option Bytes} → value ≡ value_on key (content p (blocks_of (counted c)))
    → value ≡ finite.get (union leaves) key
value_is c m leaves key p stand at inside found =
    found
    ∙ ap (value_on key) (stand.each p inside.0 inside.1 ∙ ap (λ (q : ℕ). leaf_at q leaves) at ∙ home_there m leaves key stand.lawful)
    ∙ sym (get-union m key leaves stand.lawful)

module _ {I : Type 0} {H : I → Type 0} where
  -- it is what it was after whatever changes no page
  pub recovered_since : (v : DynBox I Global H → Holding) (old new : Recovered I H) → IsRecovered v old → IsSound (seen_by v new.log)
      → IsKept (seen_by v old.log) (seen_by v new.log) → AreSame old new → IsRecovered v new
  recovered_since v old new is sound kept same = record {
    sound = sound;
    stands = subst (λ (k : ℕ). Stand k (counted (seen_by v new.log)) new.leaves.leaves) (sym same.m)
        (subst (Stand old.leaves.m (counted (seen_by v new.log))) (sym same.leaves)
        (subst (λ (fs : List Frame). Stand old.leaves.m fs old.leaves.leaves) (sym kept.counts) is.stands));
    first = ap first_number kept.counts ∙ is.first ∙ sym same.first;
    last = ap last_number kept.counts ∙ is.last ∙ sym same.last;
  }

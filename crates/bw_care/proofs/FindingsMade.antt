-- What was scanned and read makes a sound log, and a findings.

use Rattle.std.proofs.Common.{◌≡◌, ℕ, suc, ◌+◌, ◌-◌, ◌==◌, if◌then◌else◌, ◌^◌, ◌<◌, ◌≤◌, Bool, true, false, Option, Some, None, Ok, List, [], ◌∷◌, length, map}
use Rattle.std.proofs.Common.{refl, sym, ap, subst, ◌∙◌, arith}
use Rattle.std.specs.List.{fold, AllByRecursion}
use Rattle.std.proofs.lemmas.List.{length-map}
use Rattle.bw_record.specs.declared.leaf.Leaf.{Leaf}
use Rattle.bw_record.specs.declared.block.Frame.{Frame}
use Rattle.bw_device.specs.Holding.{Holding}
use Rattle.bw_leaf.specs.Forwards.{blocks_of}
use Rattle.bw_page.specs.Seats.{numbers_from}
use Rattle.bw_page.specs.Standing.{Stand}
use Rattle.bw_log.specs.PageTable.{top_page}
use Rattle.bw_log.specs.Places.{bad_link, first_number, all_placed}
use Rattle.bw_log.specs.Segments.{Limits, frames_of, entries, AreLive, IsCleanLast, following, next_of}
use Rattle.bw_log.specs.Contents.{image, limits_of, counted}
use Rattle.bw_log.specs.Adopting.{adopted, in_segments, old_in, next_in}
use Rattle.bw_log.specs.declared.places.Tables.{Tables}
use Rattle.bw_care.specs.Recovery.{Finding, found_in, fault_of_order, is_small, when, frames_in, live_in, spares_in, parts_in, tails_of, link_fault}
use Rattle.bw_care.specs.Recovery.{link_fault_by, last_number}
use Rattle.bw_lines.specs.Lawful.{HasLawful}
use Rattle.bw_lines.specs.Paging.{IsRight}
use Rattle.bw_care.specs.Planned.{IsSurvey, AreFindings, planned}
use Rattle.bw_care.specs.Surveying.{kind_seen}
use Rattle.bw_care.specs.Parting.{parted}
use Rattle.bw_care.specs.Ordering.{number_found, sorted, follow_from, AreFound, oldest_number, is_clean_from}
use Rattle.bw_lines.specs.declared.cause.RecoverCause.TheVariants.{BadConfig}
use Rattle.bw_care.specs.declared.order.Found.{Found}
use Rattle.bw_lines.specs.declared.pages.Pages.{Pages}
use Rattle.bw_care.specs.declared.boxes.Kind.{Kind}
use Rattle.bw_care.specs.declared.steps.Survey.{Survey}
use Rattle.bw_care.specs.declared.steps.Findings.{Findings}
use Rattle.bw_care.proofs.ScannedLog.{IsScanned, counts_all}
use Rattle.bw_care.proofs.TailsCounted.{tails_are, ends_are, parts_are}
use Rattle.bw_lines.proofs.PagesAtFault.{contents_length, all_set}
use Rattle.bw_care.proofs.NewestWhole.{clean_last}
use Rattle.bw_care.proofs.FrameRow.{frames_from, next_same}
use Rattle.bw_care.proofs.LiveRow.{IsLike, row_limits, numbers_are, all_live, lines_are}
use Rattle.bw_care.proofs.SurveyFacts.{facts, or_none, when_none, scans_count, all_answer}
use Rattle.bw_care.proofs.SortedOut.{parted_is}
use Rattle.bw_lines.proofs.FoundStand.{top_small, blocks_lawful, found_stands}
use Rattle.bw_care.proofs.RoomsParted.{few_live, sound_is}

-- ---- live segments

record IsLiveRow (l : Limits) (number : ℕ) (is_open : Bool) (hs : List Holding) : Type 0 where
  numbers : 1 ≤ number
  live : AreLive l number (map (λ h. h.bytes) hs)
  ends : is_open ≡ true → IsCleanLast l.m l.f number (map (λ h. h.bytes) hs)

live_row : (l : Limits) (number : ℕ) (is_open : Bool) (boxes hs : List Holding) (rs : List Found) → AreFound boxes hs rs → AllByRecursion (IsLike l) rs
    → follow_from None (map number_found rs) ≡ true → number ≡ oldest_number rs → is_open ≡ is_clean_from false rs
    → 1 ≤ length (frames_of (map (λ h. h.bytes) hs)) → IsLiveRow l number is_open hs
live_row l number is_open boxes [] [] found like follow is clean some = absurd (omega arith)
live_row l number is_open boxes [] (r ∷ rs) found like follow is clean some = absurd found
live_row l number is_open boxes (h ∷ hs) [] found like follow is clean some = absurd found
live_row l number is_open boxes (h ∷ hs) (r ∷ rs) found like follow is clean some =
    let numbers = numbers_are r rs follow in
    record {
      numbers = subst (λ (n : ℕ). 1 ≤ n) (sym is) found.0.3.0.number.0;
      live = subst (λ (n : ℕ). AreLive l n (map (λ x. x.bytes) (h ∷ hs))) (sym is)
          (all_live l r.header.number boxes (h ∷ hs) (r ∷ rs) found numbers like);
      ends = λ opened. subst (λ (n : ℕ). IsCleanLast l.m l.f n (map (λ x. x.bytes) (h ∷ hs))) (sym is)
          (clean_last l r.header.number false boxes hs h rs r found numbers like (sym clean ∙ opened));
    }

-- ---- the next number

next_last : (was : Option ℕ) (n : ℕ) (f : Frame) (fs : List Frame)
    → fold (λ o x. following x.number) was (f ∷ fs) ≡ following (fold (λ k x. x.number) n (f ∷ fs))
next_last was n f [] = refl
next_last was n f (g ∷ fs) = next_last (following f.number) f.number g fs

next_is : (fs : List Frame) → 1 ≤ length fs → next_of fs ≡ following (last_number fs)
next_is [] some = absurd (omega arith)
next_is (f ∷ fs) some = next_last (Some 1) 0 f fs

-- ---- versions

found_count : (boxes hs : List Holding) (rs : List Found) → AreFound boxes hs rs → length rs ≡ length hs
found_count boxes [] [] all = refl
found_count boxes [] (r ∷ rs) all = absurd all
found_count boxes (h ∷ hs) [] all = absurd all
found_count boxes (h ∷ hs) (r ∷ rs) all = ap suc (found_count boxes hs rs all.1)

old_by : (v : ℕ) (vs : List ℕ) (t : Bool) → old_in vs ≤ length vs → (if t then suc (old_in vs) else 0) ≤ suc (length vs)
old_by v vs true few = omega arith
old_by v vs false few = omega arith

old_few : (vs : List ℕ) → old_in vs ≤ length vs
old_few [] = omega arith
old_few (v ∷ vs) = old_by v vs (v == 1) (old_few vs)

news_by : (number : ℕ) (vs : List ℕ) (hs : List Holding) → 1 ≤ number → length vs ≡ length hs
    → number - 1 + old_in vs < number + length (map (λ (h : Holding). h.bytes) hs)
news_by number vs hs one count = (let few = old_few vs in omega (arith, length-map hs (λ (h : Holding). h.bytes)))

-- ---- the log

abbrev pub tables_of : Survey → Pages → Tables
tables_of s r = record {
  m = s.order.m;
  f = s.order.f;
  number = s.order.number;
  versions = s.order.versions;
  is_open = s.order.is_open;
  frames = s.order.lines;
  pages = r.table;
}

few_pages : (m : ℕ) (frames : List Frame) (r : Pages) → AllByRecursion (HasLawful m) frames → IsRight m frames r → length r.table.items < 2 ^ 32
few_pages m frames r laws right =
    let blocks = blocks_of frames in
    let law = blocks_lawful m frames laws in
    let small = top_small m blocks law in
    let len = contents_length blocks 1 (top_page blocks) (all_set m blocks (top_page blocks) right.none) in
    let size = ap (λ (l : List Leaf). length l) right.leaves in
    let count = right.count in
    omega arith

pub scanned : (hs : List Holding) (s : Survey) (x : IsSurvey hs s) (r : Pages) (first : ℕ) → first ≡ first_number (frames_in hs)
    → bad_link first [] (all_placed (frames_in hs)) ≡ None → IsRight s.order.m (frames_in hs) r
    → IsScanned (image (adopted (live_in hs) (spares_in hs) (tables_of s r))) r.leaves.leaves
scanned hs s x r first begins linked right =
    let y = facts hs s x in
    let o = x.order in
    let m = s.order.m in
    let l = row_limits x.scans in
    let row = live_row l s.order.number s.order.is_open hs (live_in hs) (sorted x.scans) y.found y.like y.segments o.number o.clean y.some in
    let limits : l ≡ limits_of (image (adopted (live_in hs) (spares_in hs) (tables_of s r))) l.old_f =
    (λ i. record {
      m = sym o.m i;
      f = sym o.f i;
      old_f = l.old_f;
      old_to = sym o.number i - 1 + old_in (sym o.versions i);
    }) in
    let count : length s.order.versions.items ≡ length (live_in hs) =
    ap (λ (vs : List ℕ). length vs) o.versions ∙ length-map (sorted x.scans) (λ q. q.header.version) ∙ found_count hs (live_in hs) (sorted x.scans) y.found in
    let zero_more : s.order.number + 0 ≡ s.order.number = omega arith in
    record {
      limits = (y.pairs.0, y.pairs.1, y.limit.0, y.limit.1);
      numbers = row.numbers;
      live = (
        l.old_f,
        subst (λ (k : Limits). AreLive k s.order.number (map (λ h. h.bytes) (live_in hs))) limits row.live,
      );
      news = news_by s.order.number s.order.versions.items (live_in hs) row.numbers count;
      ends = λ opened. subst (λ (k : Limits). IsCleanLast k.m k.f s.order.number (map (λ h. h.bytes) (live_in hs))) limits (row.ends opened);
      some = y.some;
      numbered = frames_from (frames_in hs) y.follows;
      follows = ap next_in o.lines ∙ next_same 0 hs (live_in hs) (sorted x.scans) y.found;
      lines = ap (in_segments s.order.number) o.lines ∙ lines_are s.order.number 0 hs (live_in hs) (sorted x.scans) y.found
          ∙ ap (λ (n : ℕ). map (λ e. e.0) (entries n (map (λ h. h.bytes) (live_in hs)))) zero_more;
      linked = ap (λ (n : ℕ). bad_link n [] (all_placed (frames_in hs))) (sym begins) ∙ linked;
      stands = subst (Stand m (frames_in hs)) (sym right.leaves) (found_stands m (frames_in hs) y.frames y.some right.none);
      count = sym right.count;
      few = few_pages m (frames_in hs) r y.frames right;
      table = right.table;
    }

-- ---- the findings

abbrev pub findings_made : Survey → Pages → ℕ → ℕ → Findings
findings_made s r first last = record {
  kinds = s.kinds;
  tables = tables_of s r;
  leaves = r.leaves;
  pairs = r.pairs;
  first = first;
  last = last;
  tail = s.order.tail;
  dropped = s.dropped;
}

pub planned_all : (hs : List Holding) (s : Survey) (x : IsSurvey hs s) (r : Pages) (first last : ℕ) → first ≡ first_number (frames_in hs)
    → last ≡ last_number (frames_in hs) → bad_link first [] (all_placed (frames_in hs)) ≡ None → IsRight s.order.m (frames_in hs) r → r.leaves.evicted ≡ numbers_from 1 (length r.leaves.leaves)
    → AreFindings hs (findings_made s r first last)
planned_all hs s x r first last begins ends linked right away =
    let y = facts hs s x in
    let o = x.order in
    let scan = scanned hs s x r first begins linked right in
    let all = counts_all (image (adopted (live_in hs) (spares_in hs) (tables_of s r))) r.leaves.leaves scan in
    let small = when_none (is_small hs) BadConfig (or_none (fault_of_order hs) (when (is_small hs) BadConfig) y.ordered).1 in
    let none : link_fault (frames_in hs) ≡ None = ap link_fault_by scan.linked in
    let tail : tails_of (live_in hs) ≡ s.order.tail = tails_are hs (live_in hs) (sorted x.scans) y.found ∙ sym o.tail in
    let dropped : length (parts_in hs) ≡ s.dropped = parts_are hs x.scans x.are ∙ sym x.dropped in
    let same : ◌≡◌ {A = Finding} (found_in hs) (planned (findings_made s r first last)) =
    (λ i. record { leaves = sym right.leaves i; first = sym begins i; last = sym ends i; tail = tail i; dropped = dropped i }) in
    record {
      found = all_answer hs s x none right.none ∙ ap (λ (z : Finding). Ok z) same;
      kinds = ap (λ (k : List Kind). parted hs k ([], [])) x.kinds ∙ parted_is hs x.scans [] [] x.are;
      few = few_live hs;
      each = ap (λ (k : List Kind). length k) x.kinds ∙ length-map x.scans kind_seen ∙ scans_count hs x.scans x.are;
      sound = sound_is hs (tables_of s r) r.leaves.leaves x.sized small (sym y.f) scan;
      stands = subst (λ (k : ℕ). Stand k (counted (adopted (live_in hs) (spares_in hs) (tables_of s r))) r.leaves.leaves) (sym right.limit)
          (subst (λ (fs : List Frame). Stand s.order.m fs r.leaves.leaves) (sym all) scan.stands);
      begins = ap first_number all ∙ sym begins;
      ends = ap last_number all ∙ sym ends;
      opened = o.clean ∙ sym (ends_are hs (live_in hs) (sorted x.scans) y.found);
      follows = scan.follows ∙ next_is (frames_in hs) y.some ∙ ap following (sym ends);
      limit = right.limit;
      frame_limit = sym y.f;
      page_limit = sym y.m;
      away = away;
      pages = sym right.count;
      counts = right.pairs;
    }

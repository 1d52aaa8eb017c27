-- A sweep over intervals: the windows that it tries, and what it knows between them.
use Rattle.std.proofs.Common.{◌≡◌, ℕ, ◌+◌, ◌-◌, ◌<◌, ◌≤◌, ◌⊎◌, inl, inr, min, List, ◌∷◌, drop, get_or, length, arith, ◌∙◌, subst, sym}
use Rattle.std.proofs.lemmas.List.{drop_all, drop_more}
use Rattle.quanta.specs.declared.interval.Interval.{Interval}
use Rattle.quanta.specs.Intervals.{IsRising, IsRisingFrom}
use Rattle.mmu_report.specs.Covered.{covered}
use Rattle.mmu_report.specs.Utilisation.{IsLeast, mutator_ticks}
use Rattle.mmu_report.proofs.Counting.{covered-from, mutator_ticks-covered}
use Rattle.mmu_report.proofs.Fronts.{IsFront}
use Rattle.mmu_report.proofs.Windows.{IsLeast-last, IsSettled, IsSettled-passed, between, mutator_ticks-settled}

-- the interval that is next, behind k others
abbrev pub at_index : List Interval → ℕ → Interval
at_index all k = get_or all k (record { start = 0; end = 0 })

-- k intervals are passed, with this many ticks, and a front is at the end of the last window that was tried
pub record IsSwept (all : List Interval) (last window k reached passed least counted : ℕ) (ahead : List Interval) : Type 0 where
  pub rising : IsRising all
  pub settled : IsSettled all last window reached passed least (drop k all)
  pub front : IsFront (covered all) (reached + window) counted ahead

-- no interval is next that starts by the last window's start
abbrev pub IsOver : List Interval → ℕ → ℕ → Type 0
IsOver all last k = (length all ≤ k) ⊎ ((k < length all) × (last < (at_index all k).start))

-- A window may be tried: the tick at which it ends fits, no more ticks are taken from it than it has, and
-- the others are the mutators'.
pub record IsTried (all : List Interval) (window passed from ended : ℕ) : Type 0 where
  pub fits : ended ≤ from + window
  pub part : ended - passed ≤ window
  pub ticks : window - (ended - passed) ≡ mutator_ticks all from window

IsTried-ahead : {all rest ahead : List Interval} {last window reached passed least counted : ℕ} (from : ℕ) → IsRising all
    → IsSettled all last window reached passed least rest → IsFront (covered all) (reached + window) counted ahead
    → reached ≤ from → IsRisingFrom from rest → IsTried all window passed from (counted + covered ahead (from + window))
IsTried-ahead {all = all} {ahead = ahead} {window = window} {counted = counted} from rising h front low later =
    let is = front.counts (from + window) (omega arith) in
    let here = between from from h low (omega arith) later in
    record {
      fits = omega (arith, is, covered-from 0 (from + window) all rising);
      part = omega (arith, is, here, mutator_ticks-covered all from window rising);
      ticks = mutator_ticks-settled from (counted + covered ahead (from + window)) rising h low later is;
    }

IsSettled-at : {all : List Interval} {k last window reached passed least : ℕ} → IsSettled all last window reached passed least (drop k all) → k < length all
    → IsSettled all last window reached passed least (at_index all k ∷ drop (k + 1) all)
IsSettled-at {all = all} {k = k} {last = last} {window = window} {reached = reached} {passed = passed} {least = least} h low =
    subst (IsSettled all last window reached passed least) (drop_more all k (record { start = 0; end = 0 }) low) h

-- the window that starts with the next interval
pub IsTried-next : {all ahead : List Interval} {last window k reached passed least counted : ℕ} → IsSwept all last window k reached passed least counted ahead
    → k < length all → IsTried all window passed (at_index all k).start (counted + covered ahead ((at_index all k).start + window))
IsTried-next {all = all} {k = k} h low =
    let s = IsSettled-at h.settled low in
    IsTried-ahead (at_index all k).start h.rising s h.front s.rising.0 (omega arith, s.rising.1, s.rising.2)

-- the next interval's ticks more
pub passed-next : {all ahead : List Interval} {last window k reached passed least counted : ℕ} → IsSwept all last window k reached passed least counted ahead
    → k < length all → passed + ((at_index all k).end - (at_index all k).start) ≤ (at_index all k).end
passed-next {all = all} {k = k} h low =
    let i = at_index all k in
    let s = IsSettled-at h.settled low in
    omega (arith, s.rising.0, s.rising.1, s.counts i.end (omega (arith, s.rising.0, s.rising.1)), covered-from 0 i.end all h.rising)

-- the next interval is passed too
pub IsSwept-next : {all ahead ahead' : List Interval} {last window k reached passed least counted counted' : ℕ} (tried : ℕ)
    → IsSwept all last window k reached passed least counted ahead → k < length all → (at_index all k).start ≤ last → tried ≡ mutator_ticks all (at_index all k).start window
    → IsRising ahead' → ((x : ℕ) → (at_index all k).start + window ≤ x → counted' + covered ahead' x ≡ counted + covered ahead x)
    → IsSwept all last window (k + 1) (at_index all k).end (passed + ((at_index all k).end - (at_index all k).start)) (min least tried) counted' ahead'
IsSwept-next tried h low early e rising later =
    let s = IsSettled-at h.settled low in
    record {
      rising = h.rising;
      settled = IsSettled-passed tried h.rising s early e;
      front = record {
        rising = rising;
        counts = λ x behind. later x (omega (arith, s.rising.1)) ∙ h.front.counts x (omega (arith, s.rising.0, s.rising.1));
      };
    }

IsRisingFrom-over : {all ahead : List Interval} {last window k reached passed least counted : ℕ} → IsSwept all last window k reached passed least counted ahead
    → IsOver all last k → IsRisingFrom last (drop k all)
IsRisingFrom-over {all = all} {last = last} {k = k} h (inl low) = subst (IsRisingFrom last) (sym (drop_all k all low)) tt
IsRisingFrom-over {all = all} {last = last} {k = k} h (inr (low, late)) =
    let s = IsSettled-at h.settled low in
    subst (IsRisingFrom last) (sym (drop_more all k (record { start = 0; end = 0 }) low)) (omega arith, s.rising.1, s.rising.2)

-- the window that ends with the span
pub IsTried-last : {all ahead : List Interval} {last window k reached passed least counted : ℕ} → IsSwept all last window k reached passed least counted ahead
    → reached ≤ last → IsOver all last k → IsTried all window passed last (counted + covered ahead (last + window))
IsTried-last {last = last} h low over = IsTried-ahead last h.rising h.settled h.front low (IsRisingFrom-over h over)

pub IsLeast-swept : {all ahead : List Interval} {last window k reached passed least counted : ℕ} (tried : ℕ) → IsSwept all last window k reached passed least counted ahead
    → reached ≤ last → IsOver all last k → tried ≡ mutator_ticks all last window → IsLeast all (last + window) window (min least tried)
IsLeast-swept tried h low over e = IsLeast-last tried h.rising h.settled low (IsRisingFrom-over h over) e

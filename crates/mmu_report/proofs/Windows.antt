-- The windows that are tried, and those that needn't be.
use Rattle.std.proofs.Common.{◌≡◌, ℕ, ◌+◌, ◌-◌, ◌<◌, ◌≤◌, inl, inr, min, List, ◌∷◌, arith, ap}
use Rattle.std.proofs.lemmas.Bool.{cases_lt}
use Rattle.quanta.specs.declared.interval.Interval.{Interval}
use Rattle.quanta.specs.Intervals.{IsRising, IsRisingFrom}
use Rattle.mmu_report.specs.Covered.{covered}
use Rattle.mmu_report.specs.Utilisation.{IsLeast, mutator_ticks}
use Rattle.mmu_report.proofs.Counting.{covered-mono, covered-none, mutator_ticks-covered}

-- Some intervals are passed, up to the end of the last of them, and have this many ticks; the rest is ahead. Take the
-- windows that start before that end, and not behind the last one: none has fewer mutators' ticks than the least of
-- those that were tried.
pub record IsSettled (all : List Interval) (last window reached passed least : ℕ) (rest : List Interval) : Type 0 where
  pub rising : IsRisingFrom reached rest
  pub counts : (x : ℕ) → reached ≤ x → passed + covered rest x ≡ covered all x
  pub settled : (t : ℕ) → t < reached → t ≤ last → least ≤ mutator_ticks all t window
  pub attained : (t : ℕ) × (t ≤ last) × (least ≡ mutator_ticks all t window)

-- no interval is passed yet, and the window at 0 was tried
pub IsSettled-none : (all : List Interval) (last window least : ℕ) → IsRising all → least ≡ mutator_ticks all 0 window → IsSettled all last window 0 0 least all
IsSettled-none all last window least h e = record {
  rising = h;
  counts = λ x low. omega arith;
  settled = λ t low early. absurd (omega arith);
  attained = (0, omega arith, e);
}

-- between the intervals that are passed and those ahead no tick lies in one
pub between : {all rest : List Interval} {last window reached passed least : ℕ} (t from : ℕ) → IsSettled all last window reached passed least rest
    → reached ≤ t → t ≤ from → IsRisingFrom from rest → covered all t ≡ passed
between {rest = rest} t from h low high later = omega (arith, h.counts t low, covered-none t from rest high later)

-- a window that starts there has no fewer mutator's ticks than one that starts later there
fewer_later : (all : List Interval) (t s window : ℕ) → IsRising all → t ≤ s → covered all t ≡ covered all s → mutator_ticks all s window ≤ mutator_ticks all t window
fewer_later all t s window h low e =
    omega (arith, e, mutator_ticks-covered all t window h, mutator_ticks-covered all s window h, covered-mono all (t + window) (s + window) (omega arith))

-- a window that starts within an interval has no fewer than the one that starts with it
fewer_earlier : (all : List Interval) (t s d window : ℕ) → IsRising all → t ≡ s + d → covered all t ≡ covered all s + d → mutator_ticks all s window ≤ mutator_ticks all t window
fewer_earlier all t s d window h is e =
    let at : t + window ≡ s + window + d = omega arith in
    omega (arith, e, mutator_ticks-covered all t window h, mutator_ticks-covered all s window h, mutator_ticks-covered all (s + window) d h, ap (covered all) at)

-- the ticks of the window that starts with the next interval, or at the end
pub mutator_ticks-settled : {all rest : List Interval} {last window reached passed least : ℕ} (from ended : ℕ) → IsRising all → IsSettled all last window reached passed least rest
    → reached ≤ from → IsRisingFrom from rest → ended ≡ covered all (from + window) → window - (ended - passed) ≡ mutator_ticks all from window
mutator_ticks-settled {all = all} {window = window} from ended rising h low later e =
    omega (
      arith,
      e,
      between from from h low (omega arith) later,
      mutator_ticks-covered all from window rising,
      covered-mono all from (from + window) (omega arith),
    )

-- one interval more is passed, and the window that starts with it was tried
pub IsSettled-passed : {all rest : List Interval} {i : Interval} {last window reached passed least : ℕ} (tried : ℕ) → IsRising all
    → IsSettled all last window reached passed least (i ∷ rest) → i.start ≤ last → tried ≡ mutator_ticks all i.start window
    → IsSettled all last window i.end (passed + (i.end - i.start)) (min least tried) rest
IsSettled-passed {all = all} {rest = rest} {i = i} {window = window} {reached = reached} {least = least} tried rising h early e = record {
  rising = h.rising.2;
  counts = λ x low. omega (arith, h.rising.0, h.rising.1, h.counts x (omega (arith, h.rising.0, h.rising.1)));
  settled = λ t low within. elim (cases_lt t reached) [
    | inl before ↦ omega (arith, h.settled t before within)
    | inr from ↦ elim (cases_lt i.start t) [
      | inl inside ↦ (
          let here = between i.start i.start h h.rising.0 (omega arith) (omega arith, h.rising.1, h.rising.2) in
          let there = h.counts t from in
          let none = covered-none t i.end rest (omega arith) h.rising.2 in
          let is : t ≡ i.start + (t - i.start) = omega arith in
          let more : covered all t ≡ covered all i.start + (t - i.start) = omega (arith, here, there, none) in
          omega (arith, e, fewer_earlier all t i.start (t - i.start) window rising is more))
      | inr outside ↦ (
          let here = between i.start i.start h h.rising.0 (omega arith) (omega arith, h.rising.1, h.rising.2) in
          let there = between t i.start h from outside (omega arith, h.rising.1, h.rising.2) in
          omega (arith, e, fewer_later all t i.start window rising outside (omega (arith, here, there))))
    ]
  ];
  attained = elim (cases_lt tried least) [
    | inl less ↦ (i.start, early, omega (arith, e))
    | inr more ↦ (h.attained.0, h.attained.1, omega (arith, h.attained.2))
  ];
}

-- all windows that may be tried start before the end of an interval that is passed
pub IsLeast-passed : {all rest : List Interval} {last window reached passed least : ℕ}
    → IsSettled all last window reached passed least rest → last < reached → IsLeast all (last + window) window least
IsLeast-passed h low = record {
  attained = (h.attained.0, omega (arith, h.attained.1), h.attained.2);
  below = λ t within. h.settled t (omega arith) (omega arith);
}

-- no interval is ahead up to the last window's start, and that window was tried
pub IsLeast-last : {all rest : List Interval} {last window reached passed least : ℕ} (tried : ℕ) → IsRising all
    → IsSettled all last window reached passed least rest → reached ≤ last → IsRisingFrom last rest → tried ≡ mutator_ticks all last window
    → IsLeast all (last + window) window (min least tried)
IsLeast-last {all = all} {last = last} {window = window} {reached = reached} {least = least} tried rising h low later e = record {
  attained = elim (cases_lt tried least) [
    | inl less ↦ (last, omega arith, omega (arith, e))
    | inr more ↦ (h.attained.0, omega (arith, h.attained.1), omega (arith, h.attained.2))
  ];
  below = λ t within. elim (cases_lt t reached) [
    | inl before ↦ omega (arith, h.settled t before (omega arith))
    | inr from ↦ (
        let here = between last last h low (omega arith) later in
        let there = between t last h from (omega arith) later in
        omega (arith, e, fewer_later all t last window rising (omega arith) (omega (arith, here, there))))
  ];
}

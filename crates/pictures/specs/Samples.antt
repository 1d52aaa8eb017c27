-- Samples of a heap along a run.
use Rattle.std.specs.Prelude.{◌≡◌, ℕ, ◌+◌, ◌-◌, ◌*◌, ◌^◌, ◌<◌, ◌≤◌, ◌||◌, min, max, Bool, if◌then◌else◌, List, [], ◌∷◌, length, take, drop}
use Rattle.std.specs.List.{fold}
use Rattle.heap_model.specs.declared.phase.Phase.{Phase}
use Rattle.heap_model.specs.Event.{Event}
use Rattle.heap_model.specs.Pages.{free_pages}
use Rattle.heap_model.specs.State.{HeapState}
use Rattle.trace.specs.declared.version.Version.{Version}
use Rattle.trace.specs.LinesProcessed.{LinesDone}
use Rattle.trace.specs.declared.player.start.PhaseName.TheVariants as names
use Rattle.trace.specs.declared.player.style.Style.TheVariants.{Nothing}
use Rattle.trace.specs.Playing.{Session, PlaysLine}
use Rattle.trace.specs.Starts.{name_of}
use Rattle.trace.specs.Observing.{Moment, moment, moments_in, brought}
use Rattle.pictures.specs.declared.sample.Phases.{Phases}
use Rattle.pictures.specs.declared.sample.Sample.{Sample}
use Rattle.pictures.specs.declared.sample.TheConstants.{MOST_SAMPLES}
use Rattle.pictures.specs.Allocated.{allocated_in}
use Rattle.pictures.specs.CycleSpans.{is_name}

-- the phase of a cycle that this is, if it is one
abbrev pub phases_of : Phase → Phases
phases_of phase = record {
  roots = is_name names.Roots (name_of phase);
  marking = is_name names.Marking (name_of phase);
  sweeping = is_name names.Sweeping (name_of phase);
  moving = is_name names.Moving (name_of phase);
}

-- the phases that are among these or those
abbrev pub all_phases : Phases → Phases → Phases
all_phases these those = record {
  roots = these.roots || those.roots;
  marking = these.marking || those.marking;
  sweeping = these.sweeping || those.sweeping;
  moving = these.moving || those.moving;
}

-- 1 if the condition holds, and 0 if it doesn't
abbrev pub one_if : Bool → ℕ
one_if so = if so then 1 else 0

-- the number of phases: 1 for the roots, 2 for marking, 4 for sweeping and 8 for moving, added up
abbrev pub phases_number : Phases → ℕ
phases_number p = one_if p.roots + 2 * one_if p.marking + 4 * one_if p.sweeping + 8 * one_if p.moving

-- the pages in use
abbrev pub pages_used : HeapState → ℕ
pages_used h = length h.store.pages - free_pages h.store.pages

-- the sample of a heap after a line: the phase of its cycle, its pages in use, and its allocated blocks
abbrev pub sample_of : HeapState → ℕ → Sample
sample_of h line = record {
  line = line;
  phases = phases_of h.phase;
  least_pages = pages_used h;
  most_pages = pages_used h;
  blocks = (allocated_in h.store.pages).blocks;
  words = (allocated_in h.store.pages).words;
}

-- one sample of the moments of two, of which the second comes later: the blocks are those of the first moment
abbrev pub joined : Sample → Sample → Sample
joined s later = record s {
  phases = all_phases s.phases later.phases;
  least_pages = min s.least_pages later.least_pages;
  most_pages = max s.most_pages later.most_pages;
}

-- a sample of a moment
abbrev pub sampled : Moment → Sample
sampled m = sample_of m.heap m.line

-- The moments of lines that were played: the one before them, and the one after each line of an event.
abbrev pub moments_along : {old new : Session} {lines : List (List ℕ)} {version : Version} {events : List Event}
    → LinesDone (PlaysLine Nothing) old lines version events new → List Moment
moments_along {old} done = moment 0 old.player.course.heap ∷ brought moments_in done

-- a sample of moments, one after the other, of which there is one at least
abbrev pub IsSampleOf : List Moment → Sample → Type 0
IsSampleOf [] s = ⊥
IsSampleOf (m ∷ later) s = s ≡ fold (λ so_far next. joined so_far (sampled next)) (sampled m) later

-- Each sample is of `stride` moments, one after the other, from the first moment on; the last may be of fewer.
abbrev pub AreSamples : List Moment → ℕ → List Sample → Type 0
AreSamples moments stride [] = moments ≡ []
AreSamples moments stride (s ∷ later) =
    IsSampleOf (take stride moments) s × AreSamples (drop stride moments) stride later

-- The least power of two with which there are at most MOST_SAMPLES samples of this many moments.
pub record IsStride (moments stride : ℕ) : Type 0 where
  pub exponent : ℕ
  pub power : stride ≡ 2 ^ exponent
  pub enough : moments ≤ MOST_SAMPLES * stride
  pub least : (k : ℕ) → k < exponent → MOST_SAMPLES * 2 ^ k < moments

-- these are the samples of moments, each of as many as the stride says
pub record AreSampled (moments : List Moment) (stride : ℕ) (samples : List Sample) : Type 0 where
  pub is_stride : IsStride (length moments) stride
  pub are_samples : AreSamples moments stride samples

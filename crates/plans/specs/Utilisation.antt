-- How much of its time a program has for itself while a heap paces itself for it.
use Rattle.std.specs.Prelude.{◌≡◌, ℕ, ◌+◌, ◌*◌, ◌≤◌, List, [], ◌∷◌, ◌++◌, map, sum_by}
use Rattle.std.specs.Int.{div_ceil}
use Rattle.std.specs.List.{AllByRecursion}
use Rattle.size_classes.specs.declared.config.Config.{Config}
use Rattle.heap_model.specs.Event.{Event, quanta_in}
use Rattle.paced.specs.declared.plan.Plan.{Plan}
use Rattle.paced.specs.Pacing.{PacedState, Path, KeepsPlan}
use Rattle.paced.specs.Rooms.{IsJustPaced}
use Rattle.paced.specs.Bounds.{Deed, AreDone, events_of, quanta_paid, words_asked, AsksWithin, LiveWithinPlan}

-- the most quanta for which a program waits if it asks for this many words of blocks: one for every `quantum_words` of them,
-- rounded up
abbrev pub most_quanta : Plan → ℕ → ℕ
most_quanta plan words = div_ceil words plan.quantum_words

-- A deed with its times, in any one unit. The program runs for `own` after the deed before it. Then it waits for the
-- collector's work for this deed.
pub record TimedDeed : Type 0 where
  pub own : ℕ
  pub waits : ℕ
  pub deed : Deed

-- the deeds of a run, without their times
abbrev pub deeds_of : List TimedDeed → List Deed
deeds_of run = map (λ t. t.deed) run

-- Each quantum of the collector's work takes at most this time. A beginning takes none, as it costs no unit.
abbrev pub TakesAtMost : ℕ → TimedDeed → Type 0
TakesAtMost longest t = t.waits ≤ quanta_in t.deed.work * longest

-- for how long a program runs from the first of some deeds to the last
abbrev pub time_between : List TimedDeed → ℕ
time_between [] = 0
time_between (first ∷ rest) = sum_by (λ t. t.own) rest

-- A window of a run: the time from one moment to another. The program runs for `own` of it. It waits for the rest, `waits`, and
-- only for the deeds of the stretch. It may also wait for the first and the last of these outside the window.
pub record Window (run : List TimedDeed) : Type 0 where
  pub before : List TimedDeed
  pub stretch : List TimedDeed
  pub after : List TimedDeed
  pub parts : run ≡ before ++ (stretch ++ after)
  pub own : ℕ
  pub spans : time_between stretch ≤ own
  pub waits : ℕ
  pub within : waits ≤ sum_by (λ t. t.waits) stretch

-- the words of blocks for which a program asks in a window
abbrev pub words_in : {run : List TimedDeed} → Window run → ℕ
words_in w = words_asked (deeds_of w.stretch)

-- a program asks for at most `most T` words of blocks in each window in which it runs for T
abbrev pub AsksAtMost : (ℕ → ℕ) → List TimedDeed → Type 0
AsksAtMost most run = (w : Window run) → words_in w ≤ most w.own

-- A run on a paced heap, after any other events since the heap was made. No object has more than `largest` words, and live
-- objects are within the plan whenever a cycle begins.
pub record IsPaced (config : Config) (plan : Plan) (live largest : ℕ) (run : List TimedDeed) : Type 0 where
  pub made : PacedState
  pub is_made : IsJustPaced config plan made
  pub events : List Event
  pub first : PacedState
  pub leads : Path KeepsPlan made events first
  pub last : PacedState
  pub done : AreDone first (deeds_of run) last
  pub small : AllByRecursion (AsksWithin largest) (deeds_of run)
  pub lives : LiveWithinPlan config plan live (events ++ events_of (deeds_of run))

-- a share of time: `own` of `all`
pub record Share : Type 0 where
  pub own : ℕ
  pub all : ℕ

-- a share is no greater than another, as fractions are compared
abbrev pub IsAtMost : Share → Share → Type 0
IsAtMost s t = s.own * t.all ≤ t.own * s.all

-- the utilisation of a window: the program's own time in it, of all its time
abbrev pub utilisation : {run : List TimedDeed} → Window run → Share
utilisation w = record { own = w.own; all = w.own + w.waits }

-- the share of a program that runs for `own`, and waits for quanta that take a time each
abbrev pub share_with : ℕ → ℕ → ℕ → Share
share_with own quanta each = record { own = own; all = own + quanta * each }

-- A program that asks for at most `words` words in a window waits in it for no more quanta than they take, and for the time of
-- these. So it has at least the share that they leave.
pub record KeepsShare {run : List TimedDeed} (plan : Plan) (words longest : ℕ) (w : Window run) : Type 0 where
  pub quanta : quanta_paid (deeds_of w.stretch) ≤ most_quanta plan words
  pub waits : w.waits ≤ most_quanta plan words * longest
  pub share : IsAtMost (share_with w.own (most_quanta plan words) longest) (utilisation w)

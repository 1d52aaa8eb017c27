-- How many words live objects have at most in a run, and of which size classes blocks are made.
use Rattle.std.specs.Prelude.{◌≡◌, ℕ, ◌-◌, ◌^◌, ◌<◌, ◌≤◌, ◌↔◌, nat_lt, List, [], ◌++◌, None, Result, slice_index}
use Rattle.std.specs.List.{All}
use Rattle.graph_heap.specs.Graph.{Graph}
use Rattle.size_classes.specs.declared.config.Config.{Config}
use Rattle.heap_model.specs.Event.{present_of}
use Rattle.size_classes.specs.declared.class.TheConstants.{CLASSES}
use Rattle.space.specs.Demand.{LiveWithin, blocks_of}
use Rattle.fragmentation.specs.Flow.{words_of}
use Rattle.trace.specs.declared.fault.PlayFault.{PlayFault}
use Rattle.trace.specs.Streams.{Given}
use Rattle.trace.specs.Observing.{run_by}
use Rattle.trace.specs.Steps.{Step}
use Rattle.trace.specs.Surveying.{NewRun, Surveyed}
use Rattle.sizing.specs.Counts.{AreBlocks}
use Rattle.paced.specs.Rooms.{among}
use Rattle.plans.specs.declared.live.MostLive.{MostLive}
use Rattle.plans.specs.Report.{IsPlansReport, IsClassesLine}

-- the blocks of live objects have at most this many words, headers included
abbrev pub LivesWithin : ℕ → Graph → Type 0
LivesWithin words g = (blocks : ℕ → ℕ) × LiveWithin g blocks × (words_of blocks ≤ words)

-- after each step of a run, so whenever a cycle may begin, the blocks of live objects have at most this many words
abbrev pub AllLiveWithin : ℕ → List Step → Type 0
AllLiveWithin words steps = All (λ s. LivesWithin words (present_of s.after)) steps

-- The least number of words within which the blocks of live objects stay over the steps of a run. If 64 bits don't hold
-- it, the greatest number that they hold.
abbrev pub IsMostLive : List Step → ℕ → Type 0
IsMostLive steps most = (words : ℕ) → words < 2 ^ 64 - 1 → AllLiveWithin words steps ↔ (most ≤ words)

-- the findings of a run: its most live words, and how many blocks of each class its objects have, as far as these can
-- be represented
pub record TellsMostLive (config : Config) (given : Given) (run : NewRun config given) (found : MostLive) : Type 0 where
  pub words : IsMostLive (run_by run.played).steps found.words
  pub blocks : AreBlocks found.blocks (blocks_of (present_of (run_by run.played).now).objects)

-- The lines of an input are played on a new player, which gives the most live words and the blocks that were made. Or
-- playing them ends with a fault.
abbrev pub MostLiveFound : Config → Given → Result MostLive PlayFault → Type 0
MostLiveFound = Surveyed TellsMostLive

-- these are the classes of which there are blocks
abbrev pub AreClasses : List ℕ → List ℕ → Type 0
AreClasses blocks used = (class : ℕ) → class < CLASSES → among used class ≡ nat_lt 0 (slice_index blocks class)

-- The report of the plans for the most live words of a run. It also has the fewest pages with a plan, if blocks are made
-- only of the classes that the run used.
pub record IsRunPlans (c : Config) (live : MostLive) (text : List ℕ) : Type 0 where
  pub report : List ℕ
  pub of_all : IsPlansReport None c (record { live = live.words; largest = 0 }) [] report
  pub used : List ℕ
  pub made : AreClasses live.blocks used
  pub line : List ℕ
  pub of_used : IsClassesLine c live.words used line
  pub told : text ≡ report ++ line

-- The fields of a meter of live words.
use Rattle.std.specs.Prelude.{◌≡◌, ℕ, ◌+◌, ◌-◌, ◌^◌, ◌<◌, ◌≤◌, ◌⊎◌, true, List, length, max, sum_by}
use Rattle.std.specs.List.{AllByRecursion}
use Rattle.graph_heap.specs.Graph.{Graph, object_of}
use Rattle.graph_heap.specs.Reach.{Reaches}
use Rattle.graph_heap.specs.Reaching.{AreReached}
use Rattle.heap_model.specs.Collector.{contains}
use Rattle.heap_model.specs.Event.{Runs, present_of}
use Rattle.heap_model.specs.Opening.{IsOpening}
use Rattle.heap_model.specs.ReachedFrom.{opened}
use Rattle.paced.specs.Cycles.{saturated}
use Rattle.paced.specs.Pacing.{shape_words}
use Rattle.trace.specs.Observing.{Run}
use Rattle.trace.specs.Steps.{events_of}
use Rattle.plans.specs.declared.live.LiveMeter.{LiveMeter}
use Rattle.sizing.specs.Meter.{AllFit}
use Rattle.plans.specs.Live.{IsMostLive}

-- the words of the blocks of objects of these identities
abbrev pub words_by : Graph → List ℕ → ℕ
words_by g ids = sum_by (λ id. shape_words (object_of g.objects id).shape) ids

-- the words of the blocks of all objects that can be reached
abbrev pub ReachedWords : Graph → ℕ → Type 0
ReachedWords g words = (ids : List ℕ) × AreReached g ids × (words ≡ saturated (words_by g ids))

-- how many words are live at most once the last object of a graph heap is made
abbrev pub raised_bound : LiveMeter → Graph → ℕ
raised_bound m g = saturated (m.bound + shape_words (object_of g.objects (length g.objects)).shape)

-- the last object was made: if no more words can be live than before, that is noted; else live objects are measured
abbrev pub MakesLast : LiveMeter → LiveMeter → Type 0
MakesLast old new = (new.graph ≡ old.graph) × (
    ((raised_bound old old.graph ≤ old.most) × (new.bound ≡ raised_bound old old.graph) × (new.most ≡ old.most))
    ⊎ ((old.most < raised_bound old old.graph) × ReachedWords old.graph new.bound × (new.most ≡ max old.most new.bound)))

-- a command led to a graph heap, and made an object or none
abbrev pub Counts : LiveMeter → Graph → LiveMeter → Type 0
Counts old g new = ((length g.objects ≤ length old.graph.objects) × (new ≡ record old { graph = g }))
    ⊎ ((length old.graph.objects < length g.objects) × MakesLast (record old { graph = g }) new)

-- some of the objects of a graph heap, all among them that can be reached, have blocks of at most this many words
pub record IsBounded (g : Graph) (words : ℕ) : Type 0 where
  pub ids : List ℕ
  pub reached : (id : ℕ) → Reaches g id → contains ids id ≡ true
  pub given : AllByRecursion (λ id. id ≤ length g.objects) ids
  pub few : words_by g ids ≤ words

-- a run from a new heap, and the meter holds how many words were live in it at most
pub record HasMetered (run : Run) (m : LiveMeter) : Type 0 where
  pub opening : IsOpening run.first.heap
  pub pages : 0 < length run.first.heap.store.pages
  pub runs : Runs (opened run.first.heap) (events_of run.steps) run.now
  pub graph : m.graph ≡ present_of run.now
  pub shapes : AllFit m.graph
  pub bound : m.bound < 2 ^ 64 - 1 → IsBounded (present_of run.now) m.bound
  pub within : m.bound ≤ m.most
  pub most : IsMostLive run.steps m.most

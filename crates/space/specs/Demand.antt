-- How many blocks a program requests.
use Rattle.std.specs.Prelude.{◌≡◌, ℕ, ◌+◌, ◌<◌, ◌≤◌, true, List, sum_by}
use Rattle.graph_heap.specs.declared.command.Command.{Command}
use Rattle.graph_heap.specs.declared.command.Change.{Change}
use Rattle.graph_heap.specs.declared.command.Change.TheVariants as changes
use Rattle.graph_heap.specs.Graph.{Object, Graph, object_of}
use Rattle.graph_heap.specs.Reach.{Reaches}
use Rattle.size_classes.specs.declared.class.TheConstants.{CLASSES}
use Rattle.size_classes.specs.Need.{needed}
use Rattle.heap_model.specs.Collector.{contains}
use Rattle.heap_model.specs.Event.{change_by}

-- Two limits for each size class. One is the most blocks that live objects need when a cycle begins. The other is the
-- most blocks of the objects that are allocated from then, or from the start, to the end of the next cycle's sweep, with
-- the one requested.
pub record Demand : Type 0 where
  pub live : ℕ → ℕ
  pub allocated : ℕ → ℕ

-- the live and the allocated blocks of a class together
abbrev pub blocks_for : Demand → ℕ → ℕ
blocks_for d class = d.live class + d.allocated class

-- how many blocks of a class objects need
abbrev pub blocks_of : List Object → ℕ → ℕ
blocks_of objects class = sum_by (λ o. needed o.shape class) objects

-- how many the objects of these identities need
abbrev pub blocks_by : Graph → List ℕ → ℕ → ℕ
blocks_by g ids class = sum_by (λ id. needed (object_of g.objects id).shape class) ids

-- Live objects need at most this many blocks of each class: every identity that can be reached is among identities that
-- need no more.
pub record LiveWithin (g : Graph) (most : ℕ → ℕ) : Type 0 where
  pub ids : List ℕ
  pub reached : (id : ℕ) → Reaches g id → contains ids id ≡ true
  pub blocks : (class : ℕ) → class < CLASSES → blocks_by g ids class ≤ most class

-- the blocks of a class for which a change asks: those of a new object
abbrev pub asked_by : Change → ℕ → ℕ
asked_by (changes.New cell id shape) class = needed shape class
asked_by _ class = 0

-- the blocks of a class that a command of mutator m requests, unless it is refused for another reason than lack of
-- space
abbrev pub asked_for : Graph → ℕ → Command → ℕ → ℕ
asked_for g m c = asked_by (change_by true g m c)

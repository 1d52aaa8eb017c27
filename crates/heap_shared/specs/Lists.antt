-- Lists of commands at a shared heap.
use Rattle.std.specs.Prelude.{◌≡◌, ℕ, List, [], ◌∷◌, ◌++◌, length, None, Result, Ok, Err}
use Rattle.std.specs.List.{All}
use Rattle.std.specs.Option.{option_map}
use Rattle.graph_heap.specs.declared.command.Command.{Command}
use Rattle.graph_heap.specs.declared.command.Command.TheVariants as commands
use Rattle.graph_heap.specs.declared.command.Reply.{Reply}
use Rattle.heap_model.specs.Event.{Event, Command_done}
use Rattle.space.specs.Room.{asks}
use Rattle.fragmentation.specs.Flow.{words_of}
use Rattle.bulk.specs.declared.progress.Progress.{Progress}
use Rattle.bulk.specs.InOrder.{refusal_in, with_refusal, TellsAll, events_of}
use Rattle.paced.specs.declared.pacer.AbovePlan.{AbovePlan}
use Rattle.paced.specs.Pacing.{worked}
use Rattle.heap_shared.specs.Ring.{Ringed, Goes, GoesBy, figures_of, IsWorkFor, IsAbove}

-- a command of mutator m that needs no work of the collector is the next event of a heap
abbrev pub by_shared : ℕ → Ringed → Command → Reply → Ringed → Type 0
by_shared m r c reply k = GoesBy r (Command_done m c reply) k × (figures_of k ≡ figures_of r)

-- The collector works before a new object as much as the plan requires, and the figures have that work. Before any other command
-- it doesn't work.
abbrev pub WorksBefore : Command → Ringed → List Event → Ringed → Type 0
WorksBefore (commands.New dst shape) r work k =
    IsWorkFor r.pacer r.course.heap (words_of (asks (commands.New dst shape))) work
    × (figures_of k ≡ option_map (λ f. worked f work) (figures_of r))
WorksBefore c r work k = (work ≡ []) × (figures_of k ≡ figures_of r)

-- the collector works before a list as before its first command
abbrev pub WorksFirst : List Command → Ringed → List Event → Ringed → Type 0
WorksFirst [] r work k = (work ≡ []) × (figures_of k ≡ figures_of r)
WorksFirst (c ∷ cs) r work k = WorksBefore c r work k

-- the words of the object that a list makes, by its first command
abbrev pub words_first : List Command → ℕ
words_first [] = 0
words_first (c ∷ cs) = words_of (asks c)

-- The front of a list of commands of mutator m is done, as far as the progress says, with these replies of those that weren't
-- refused. Each command is one event of the heap with its history, and the refused one is the last. The work of the collector
-- comes before them.
pub record DoesList (r : Ringed) (m : ℕ) (cs : List Command) (rs : List Reply) (p : Progress) (k : Ringed) : Type 0 where
  pub work : List Event
  pub works : WorksFirst cs r work k
  pub goes : Goes r (work ++ events_of m cs (with_refusal rs p.refused)) k
  pub done : p.done ≡ length rs
  pub all : TellsAll (length cs) p
  pub passed : All (λ reply. refusal_in reply ≡ None) rs

-- The front of a list is done so, whatever was replied. If its object is above the plan, nothing is done.
abbrev pub MakesWith : Ringed → ℕ → List Command → Result Progress AbovePlan → Ringed → Type 0
MakesWith r m cs (Err above) k = IsAbove r.pacer (words_first cs) × (k ≡ r)
MakesWith r m cs (Ok p) k = (rs : List Reply) × DoesList r m cs rs p k

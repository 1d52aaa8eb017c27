-- A list of commands was done by a heap of its own.
use Rattle.std.proofs.Common.{◌≡◌, ◌∙◌, ℕ, List, sym, ap, subst}
use Rattle.std.specs.Prelude.{Result, Ok, Err}
use Rattle.graph_heap.specs.declared.command.Command.{Command}
use Rattle.bulk.specs.declared.progress.Progress.{Progress}
use Rattle.bulk.specs.InOrder.{DoesFront}
use Rattle.metronome_c.specs.declared.bulk_calls.MetronomeProgress.{MetronomeProgress}
use Rattle.metronome_c.specs.declared.own_heap.OwnHeap.{OwnHeap}
use Rattle.metronome_c.specs.declared.status.Status.{Status}
use Rattle.metronome_c.specs.Asking.{Asks, AsksPaying}
use Rattle.metronome_c.specs.BulkCalls.{progress_told, ListTold, MakesTold, DoesList, MakesList}
use Rattle.metronome_c.specs.Either.{flat}
use Rattle.metronome_c.specs.OwnHeap.{AfterPaying}

pub list_done : (m : ℕ) (cs : List Command) (answer : Result (Result Progress Status) Status) (told : MetronomeProgress) → told ≡ progress_told (flat answer)
    → (old new : Result OwnHeap Status) → Asks (λ h a k. ListTold h m cs a k) old answer new → DoesList old m cs new told
list_done m cs answer told is (Err why) new asks = (flat answer, (ap flat asks.0, asks.1), is)
list_done m cs answer told is (Ok h) new asks = let l = asks.4 in (flat answer, (l.progress, asks.1, ap flat asks.2 ∙ l.is, asks.3, l.does), is)

paid : (words m : ℕ) (cs : List Command) (answer : Result (Result Progress Status) Status) (old new : Result OwnHeap Status)
    → Asks (λ h a k. MakesTold h words m cs a k) old answer new → AsksPaying words (λ h p k. DoesFront h m cs p k) old (flat answer) new
paid words m cs answer (Err why) new asks = (ap flat asks.0, asks.1)
paid words m cs answer (Ok h) new asks =
    (asks.1, asks.3, subst (λ (x : Result Progress Status). AfterPaying words (λ h p k. DoesFront h m cs p k) h x asks.1) (sym (ap flat asks.2)) (let made = asks.4 in made.paid))

pub list_made : (words m : ℕ) (cs : List Command) (answer : Result (Result Progress Status) Status) (told : MetronomeProgress) → told ≡ progress_told (flat answer)
    → (old new : Result OwnHeap Status) → Asks (λ h a k. MakesTold h words m cs a k) old answer new → MakesList old words m cs new told
list_made words m cs answer told is old new asks = (flat answer, paid words m cs answer old new asks, is)

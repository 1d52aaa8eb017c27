-- A list of commands, done in order up to the first that is refused.
use Rattle.std.specs.Prelude.{◌≡◌, ℕ, zero, suc, ◌+◌, ◌^◌, ◌<◌, ◌≤◌, List, [], ◌∷◌, ◌++◌, map, length, Option, Some, None, MatchOption, Result, Ok, Err}
use Rattle.std.specs.List.{zip}
use Rattle.graph_heap.specs.declared.command.Command.{Command}
use Rattle.graph_heap.specs.declared.command.Refusal.{Refusal}
use Rattle.graph_heap.specs.declared.command.Reply.{Reply}
use Rattle.graph_heap.specs.declared.command.Reply.TheVariants as replies
use Rattle.heap_model.specs.State.{HeapState}
use Rattle.heap_model.specs.Event.{Event, Command_done}
use Rattle.machine.specs.Plan.{Steps}
use Rattle.bulk.specs.declared.progress.Progress.{Progress}

-- the refusal, if a reply is one
abbrev pub refusal_in : Reply → Option Refusal
refusal_in (replies.Refused why) = Some why
refusal_in _ = None

-- a command of mutator m is a step of a heap
abbrev pub by_heap : ℕ → HeapState → Command → Reply → HeapState → Type 0
by_heap m h c reply after = Steps h m c reply after

-- Commands are done in order, each a step from the state that the one before left. They stop at the first that is refused, if
-- one is. The replies are those of the commands that weren't refused, and `after` is the state at the end.
abbrev pub InOrderBy : {S : Type 0} → (S → Command → Reply → S → Type 0) → S → List Command → List Reply → Option Refusal → S
    → Type 0
InOrderBy step s [] [] None after = after ≡ s
InOrderBy step s (c ∷ cs) [] (Some why) after = step s c (replies.Refused why) after
InOrderBy {S} step s (c ∷ cs) (r ∷ rs) refused after =
    (next : S) × step s c r next × (refusal_in r ≡ None) × InOrderBy step next cs rs refused after
InOrderBy step s cs rs refused after = ⊥

-- A list of commands was done in order, as far as the progress says, with these replies of those that weren't refused.
pub record DoesWithBy {S : Type 0} (step : S → Command → Reply → S → Type 0) (s : S) (cs : List Command) (rs : List Reply)
    (p : Progress) (after : S) : Type 0 where
  pub order : InOrderBy step s cs rs p.refused after
  pub done : p.done ≡ length rs

-- A list of commands was done in order, as far as the progress says, whatever was replied.
abbrev pub DoesFrontBy : {S : Type 0} → (S → Command → Reply → S → Type 0) → S → List Command → Progress → S → Type 0
DoesFrontBy step s cs p after = (rs : List Reply) × DoesWithBy step s cs rs p after

-- The first command of a list got this reply. If it was refused, nothing more is done. Else the others are done in order, and
-- the progress counts the first one too.
abbrev pub FollowsBy : {S : Type 0} → (S → Command → Reply → S → Type 0) → S → Reply → List Command → Progress → S → Type 0
FollowsBy step s first cs p after = MatchOption (refusal_in first)
    ((q : Progress) × DoesFrontBy step s cs q after × (p ≡ record { done = 1 + q.done; refused = q.refused }))
    (λ why. (p ≡ record { done = 0; refused = Some why }) × (after ≡ s))

-- n commands were done one after the other, each with its reply
abbrev pub EachBy : {S : Type 0} → (S → Command → Reply → S → Type 0) → S → (ℕ → Command) → (ℕ → Reply) → ℕ → S → Type 0
EachBy step s c r zero after = after ≡ s
EachBy {S} step s c r (suc n) after = (next : S) × EachBy step s c r n next × step next (c n) (r n) after

-- n commands of a run were done, or the first was refused
abbrev pub DoesRunBy : {S : Type 0} → (S → Command → Reply → S → Type 0) → S → (ℕ → Command) → (ℕ → Reply)
    → Result ℕ Refusal → S → Type 0
DoesRunBy step s c r (Ok n) after = EachBy step s c r n after
DoesRunBy step s c r (Err why) after = step s (c 0) (replies.Refused why) after

-- The count of a run that wasn't refused: at most as many as wanted, and at least one if any were wanted. All its numbers fit in
-- 32 bits.
abbrev pub FitsRow : ℕ → ℕ → ℕ → Type 0
FitsRow first most n = (n ≤ most) × (0 < most → 0 < n) × (first + n ≤ 2 ^ 32)

-- commands of mutator m are done in order on a heap
abbrev pub InOrder : ℕ → HeapState → List Command → List Reply → Option Refusal → HeapState → Type 0
InOrder m h cs rs refused after = InOrderBy (by_heap m) h cs rs refused after

-- A list of commands of mutator m was done on a heap, with these replies of those that weren't refused.
abbrev pub DoesWith : HeapState → ℕ → List Command → List Reply → Progress → HeapState → Type 0
DoesWith h m cs rs p after = DoesWithBy (by_heap m) h cs rs p after

-- A list of commands of mutator m was done on a heap, whatever was replied.
abbrev pub DoesFront : HeapState → ℕ → List Command → Progress → HeapState → Type 0
DoesFront h m cs p after = DoesFrontBy (by_heap m) h cs p after

-- the replies of reads that found these words
abbrev pub words_told : List ℕ → List Reply
words_told = map (λ w. replies.Word w)

-- the replies, followed by the refusal, if there was one
abbrev pub with_refusal : List Reply → Option Refusal → List Reply
with_refusal rs None = rs
with_refusal rs (Some why) = rs ++ replies.Refused why ∷ []

-- the events of a list of commands of mutator m: each command with its reply, as far as the replies go
abbrev pub events_of : ℕ → List Command → List Reply → List Event
events_of m cs rs = map (λ x. Command_done m x.0 x.1) (zip cs rs)

-- All of `count` commands were done, if none was refused; else fewer were done.
abbrev pub TellsAll : ℕ → Progress → Type 0
TellsAll count p = MatchOption p.refused (p.done ≡ count) (λ why. p.done < count)

-- The effect of a command on the graph heap, and its reply.
use Rattle.std.specs.Prelude.{◌≡◌, ℕ, ◌+◌, ◌-◌, ◌*◌, Bool, true, false, ◌&&◌, nat_lt, ◌==◌, if◌then◌else◌, List, length, slice_index, slice_index_or, slice_get, Option, Some, None, Result, Ok, Err}
use Rattle.graph_heap.specs.declared.command.Shape.{Shape}
use Rattle.graph_heap.specs.declared.command.Command.{Command}
use Rattle.graph_heap.specs.declared.command.Command.TheVariants as commands
use Rattle.graph_heap.specs.declared.command.Reply.{Reply}
use Rattle.graph_heap.specs.declared.command.Reply.TheVariants as replies
use Rattle.graph_heap.specs.declared.command.Refusal.{Refusal}
use Rattle.graph_heap.specs.declared.command.Refusal.TheVariants as refusals
use Rattle.graph_heap.specs.declared.command.Limits.{Limits}
use Rattle.graph_heap.specs.declared.command.Change.{Change}
use Rattle.graph_heap.specs.declared.command.Change.TheVariants as changes
use Rattle.graph_heap.specs.Shape.{fits, takes_refs, takes_words}
use Rattle.graph_heap.specs.Graph.{Object, Graph, changed}

-- steps that may be refused: the first refusal stands
infixl 10 ◌>>=◌
abbrev pub ◌>>=◌ : {A B : Type 0} → Result A Refusal → (A → Result B Refusal) → Result B Refusal
(Ok x) >>= f = f x
(Err e) >>= f = Err e

-- the place of a slot in the row of roots
abbrev pub slot_at : Limits → ℕ → ℕ → Result ℕ Refusal
slot_at l m s = if nat_lt m l.mutators && nat_lt s l.slots then Ok (m * l.slots + s) else Err refusals.BadSlot

-- the place of a static in the row of roots, behind the slots
abbrev pub static_at : Limits → ℕ → Result ℕ Refusal
static_at l k = if nat_lt k l.statics then Ok (l.mutators * l.slots + k) else Err refusals.BadStatic

-- an object that was looked up; if there is none, NullSlot
abbrev pub found : Option Object → Result Object Refusal
found None = Err refusals.NullSlot
found (Some o) = Ok o

-- the object of an identity; NullSlot for null, and for an identity that isn't given yet
abbrev pub object_at : List Object → ℕ → Result Object Refusal
object_at objects id = if id == 0 then Err refusals.NullSlot else found (slice_get objects (id - 1))

-- the identity in a reference cell of an object, or 0 for null
abbrev pub ref_cell : Object → ℕ → Result ℕ Refusal
ref_cell o i = if takes_refs o.shape
    then (if nat_lt i (length o.refs) then Ok (slice_index o.refs i) else Err refusals.BadIndex)
    else Err refusals.WrongKind

-- the word in a word cell of an object
abbrev pub word_cell : Object → ℕ → Result ℕ Refusal
word_cell o i = if takes_words o.shape
    then (if nat_lt i (length o.words) then Ok (slice_index o.words i) else Err refusals.BadIndex)
    else Err refusals.WrongKind

-- the identity in a reference cell, by the identity of its object
abbrev pub ref_at : List Object → ℕ → ℕ → Result ℕ Refusal
ref_at objects id i = object_at objects id >>= λ o. ref_cell o i

-- the word in a word cell, by the identity of its object
abbrev pub word_at : List Object → ℕ → ℕ → Result ℕ Refusal
word_at objects id i = object_at objects id >>= λ o. word_cell o i

-- a shape, if it isn't too large
abbrev pub fitting : Shape → Result Shape Refusal
fitting shape = if fits shape then Ok shape else Err refusals.TooLarge

-- the next identity, if the limit allows one more
abbrev pub next_identity : Graph → Result ℕ Refusal
next_identity g = if nat_lt (length g.objects) g.limits.identities then Ok (length g.objects + 1)
    else Err refusals.IdentitiesSpent

-- the refusal for lack of space, if there is no room
abbrev pub with_room : Bool → Result (Unit {0}) Refusal
with_room room = if room then Ok tt else Err refusals.NoSpace

-- The effect of a command of mutator m, once it is admitted: its reply and one change. Refusals are looked for in the
-- order of the tests. `room` says whether there is room for the object of a New.
abbrev pub admitted_effect : Bool → Graph → ℕ → Command → Result (Reply × Change) Refusal
admitted_effect room g m (commands.New dst shape) = do
  d ← slot_at g.limits m dst
  ok ← fitting shape
  id ← next_identity g
  has ← with_room room
  Ok (replies.Made id, changes.New d id shape)
admitted_effect room g m (commands.Load dst obj i) = do
  d ← slot_at g.limits m dst
  a ← slot_at g.limits m obj
  v ← ref_at g.objects (slice_index g.roots a) i
  Ok (replies.Ref v, changes.Root d v)
admitted_effect room g m (commands.Store obj i src) = do
  a ← slot_at g.limits m obj
  s ← slot_at g.limits m src
  v ← ref_at g.objects (slice_index g.roots a) i
  Ok (replies.Done, changes.Ref (slice_index g.roots a) i (slice_index g.roots s))
admitted_effect room g m (commands.CompareStore obj i expect new) = do
  a ← slot_at g.limits m obj
  e ← slot_at g.limits m expect
  n ← slot_at g.limits m new
  v ← ref_at g.objects (slice_index g.roots a) i
  if v == slice_index g.roots e then Ok (replies.Stored, changes.Ref (slice_index g.roots a) i (slice_index g.roots n))
      else Ok (replies.Kept v, changes.Nothing)
admitted_effect room g m (commands.Get obj i) = do
  a ← slot_at g.limits m obj
  v ← word_at g.objects (slice_index g.roots a) i
  Ok (replies.Word v, changes.Nothing)
admitted_effect room g m (commands.Put obj i word) = do
  a ← slot_at g.limits m obj
  v ← word_at g.objects (slice_index g.roots a) i
  Ok (replies.Done, changes.Word (slice_index g.roots a) i word)
admitted_effect room g m (commands.ComparePut obj i old new) = do
  a ← slot_at g.limits m obj
  v ← word_at g.objects (slice_index g.roots a) i
  if v == old then Ok (replies.Stored, changes.Word (slice_index g.roots a) i new)
      else Ok (replies.KeptWord v, changes.Nothing)
admitted_effect room g m (commands.Copy dst src) = do
  d ← slot_at g.limits m dst
  s ← slot_at g.limits m src
  Ok (replies.Done, changes.Root d (slice_index g.roots s))
admitted_effect room g m (commands.Clear dst) = do
  d ← slot_at g.limits m dst
  Ok (replies.Done, changes.Root d 0)
admitted_effect room g m (commands.LoadStatic dst k) = do
  d ← slot_at g.limits m dst
  s ← static_at g.limits k
  Ok (replies.Ref (slice_index g.roots s), changes.Root d (slice_index g.roots s))
admitted_effect room g m (commands.StoreStatic k src) = do
  s ← slot_at g.limits m src
  d ← static_at g.limits k
  Ok (replies.Done, changes.Root d (slice_index g.roots s))
admitted_effect room g m (commands.CompareStatic k expect new) = do
  e ← slot_at g.limits m expect
  n ← slot_at g.limits m new
  d ← static_at g.limits k
  if slice_index g.roots d == slice_index g.roots e then Ok (replies.Stored, changes.Root d (slice_index g.roots n))
      else Ok (replies.Kept (slice_index g.roots d), changes.Nothing)
admitted_effect room g m (commands.Same a b) = do
  x ← slot_at g.limits m a
  y ← slot_at g.limits m b
  Ok (replies.Is (slice_index g.roots x == slice_index g.roots y), changes.Nothing)
admitted_effect room g m (commands.Describe a) = do
  x ← slot_at g.limits m a
  o ← object_at g.objects (slice_index g.roots x)
  Ok (replies.Described (slice_index g.roots x) o.shape, changes.Nothing)
admitted_effect room g m commands.Join = Ok (replies.Done, changes.Join m)
admitted_effect room g m commands.Leave = Ok (replies.Done, changes.Leave m)

-- whether the command is Join, which is for a mutator that isn't live
abbrev pub is_join : Command → Bool
is_join commands.Join = true
is_join _ = false

-- a live mutator may give any command except Join, and a mutator that isn't live only Join
abbrev pub admits : Bool → Bool → Result (Unit {0}) Refusal
admits true true = Err refusals.AlreadyLive
admits true false = Ok tt
admits false true = Ok tt
admits false false = Err refusals.NotLive

-- the admission of a mutator, for Join or for any other command: it exists, and it is live, or for Join isn't
abbrev pub admitted_to : Limits → List Bool → ℕ → Bool → Result (Unit {0}) Refusal
admitted_to l live m joins = if nat_lt m l.mutators then admits (slice_index_or live m false) joins
    else Err refusals.BadSlot

-- the admission of a command, which is checked first
abbrev pub admitted : Graph → ℕ → Command → Result (Unit {0}) Refusal
admitted g m c = admitted_to g.limits g.live m (is_join c)

-- the effect of a command of mutator m: its admission is tested before all else
abbrev pub effect_of : Bool → Graph → ℕ → Command → Result (Reply × Change) Refusal
effect_of room g m c = admitted g m c >>= λ ok. admitted_effect room g m c

-- a refusal is the reply, and changes nothing
abbrev pub settled : Result (Reply × Change) Refusal → Reply × Change
settled (Ok x) = x
settled (Err e) = (replies.Refused e, changes.Nothing)

-- the reply to a command of mutator m
unfoldable pub reply_of : Bool → Graph → ℕ → Command → Reply
reply_of room g m c = (settled (effect_of room g m c)).0

-- the graph heap after a command of mutator m
unfoldable pub next_of : Bool → Graph → ℕ → Command → Graph
next_of room g m c = changed g (settled (effect_of room g m c)).1

-- the change adds an object
abbrev pub AddsObject : Change → Type 0
AddsObject (changes.New cell id shape) = Unit {0}
AddsObject _ = ⊥

-- the reply says that an object was made
abbrev pub TellsMade : Reply → Type 0
TellsMade (replies.Made id) = Unit {0}
TellsMade _ = ⊥

-- One step: the reply and the graph heap after it are those of the command, with room or without. Room is the only
-- thing that the graph heap leaves open.
abbrev pub IsStep : Graph → ℕ → Command → Reply → Graph → Type 0
IsStep g m c r after = (room : Bool) × (reply_of room g m c ≡ r) × (next_of room g m c ≡ after)

-- a look-up in the slow heap gives the same as in the graph heap, seen through a view
abbrev pub Sees : {X Y : Type 0} → (X → Y) → Result X Refusal → Result Y Refusal → Type 0
Sees view (Ok x) read = read ≡ Ok (view x)
Sees view (Err n) read = read ≡ Err n

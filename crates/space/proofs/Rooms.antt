-- Only New requests blocks, and only New is refused for lack of space.
use Rattle.std.specs.Prelude.{slice_index_or}
use Rattle.std.proofs.Common.{◌≡◌, ℕ, ◌+◌, ◌-◌, ◌*◌, ◌≤◌, Bool, true, false, ◌&&◌, nat_lt, ◌==◌, if◌then◌else◌, List, [], ◌∷◌, length, slice_index, slice_get, Option, Some, None, Result, Ok, Err, ap, ◌∙◌, arith, refl}
use Rattle.graph_heap.specs.declared.command.Shape.{Shape}
use Rattle.graph_heap.specs.declared.command.Command.{Command}
use Rattle.graph_heap.specs.declared.command.Command.TheVariants as commands
use Rattle.graph_heap.specs.declared.command.Reply.{Reply}
use Rattle.graph_heap.specs.declared.command.Reply.TheVariants as replies
use Rattle.graph_heap.specs.declared.command.Refusal.{Refusal}
use Rattle.graph_heap.specs.declared.command.Refusal.TheVariants as refusals
use Rattle.graph_heap.specs.declared.command.Limits.{Limits}
use Rattle.graph_heap.specs.declared.command.Change.{Change}
use Rattle.graph_heap.specs.declared.command.Change.TheVariants as changes
use Rattle.graph_heap.specs.Shape.{fits, takes_refs, takes_words}
use Rattle.graph_heap.specs.Graph.{Object, Graph}
use Rattle.graph_heap.specs.Effect.{◌>>=◌, slot_at, static_at, found, object_at, ref_cell, word_cell, ref_at, word_at, fitting, next_identity, with_room, admits, admitted, is_join, admitted_effect, effect_of, settled, reply_of}
use Rattle.graph_heap.specs.History.{had_room}
use Rattle.size_classes.specs.Need.{needed}
use Rattle.heap_model.specs.Event.{Course, Event, Command_done, Cycle_begun, Begin_refused, Quantum_done, Quantum_refused, Runs, Enters, present_of, room_for}
use Rattle.space.specs.Demand.{asked_by, asked_for}
use Rattle.space.specs.Tally.{EveryNewFindsRoom}
use Rattle.space.specs.Room.{AllHaveRoom, asks}

-- a refusal, if there is one, isn't for lack of space
abbrev pub IsOther : {A : Type 0} → Result A Refusal → Type 0
IsOther (Ok x) = Unit {0}
IsOther (Err e) = had_room (replies.Refused e) ≡ true

-- it asks for no block, and isn't refused for lack of space
abbrev IsRoomless : Result (Reply × Change) Refusal → Type 0
IsRoomless r = (had_room (settled r).0 ≡ true) × ((class : ℕ) → asked_by (settled r).1 class ≡ 0)

bind_roomless : {A : Type 0} (x : Result A Refusal) (f : A → Result (Reply × Change) Refusal) → IsOther x → ((a : A) → IsRoomless (f a)) → IsRoomless (x >>= f)
bind_roomless (Ok a) f o c = c a
bind_roomless (Err e) f o c = (o, λ class. refl)

bind_other : {A B : Type 0} (x : Result A Refusal) (f : A → Result B Refusal) → IsOther x → ((a : A) → IsOther (f a)) → IsOther (x >>= f)
bind_other (Ok a) f o c = c a
bind_other (Err e) f o c = o

if_roomless : (b : Bool) (x y : Result (Reply × Change) Refusal) → IsRoomless x → IsRoomless y → IsRoomless (if b then x else y)
if_roomless true x y c d = c
if_roomless false x y c d = d

if_other : {A : Type 0} (b : Bool) (x y : Result A Refusal) → IsOther x → IsOther y → IsOther (if b then x else y)
if_other true x y c d = c
if_other false x y c d = d

pub slot_other : (l : Limits) (m s : ℕ) → IsOther (slot_at l m s)
slot_other l m s = if_other (nat_lt m l.mutators && nat_lt s l.slots) (Ok (m * l.slots + s)) (Err refusals.BadSlot) tt refl

static_other : (l : Limits) (k : ℕ) → IsOther (static_at l k)
static_other l k = if_other (nat_lt k l.statics) (Ok (l.mutators * l.slots + k)) (Err refusals.BadStatic) tt refl

pub fitting_other : (shape : Shape) → IsOther (fitting shape)
fitting_other shape = if_other (fits shape) (Ok shape) (Err refusals.TooLarge) tt refl

pub next_other : (g : Graph) → IsOther (next_identity g)
next_other g = if_other (nat_lt (length g.objects) g.limits.identities) (Ok (length g.objects + 1)) (Err refusals.IdentitiesSpent) tt refl

found_other : (o : Option Object) → IsOther (found o)
found_other None = refl
found_other (Some o) = tt

object_other : (objects : List Object) (id : ℕ) → IsOther (object_at objects id)
object_other objects id = if_other (id == 0) (Err refusals.NullSlot) (found (slice_get objects (id - 1))) refl (found_other (slice_get objects (id - 1)))

ref_other : (objects : List Object) (id i : ℕ) → IsOther (ref_at objects id i)
ref_other objects id i = bind_other (object_at objects id) (λ o. ref_cell o i) (object_other objects id) (λ o.
    if_other (takes_refs o.shape) (if nat_lt i (length o.refs) then Ok (slice_index o.refs i) else Err refusals.BadIndex) (Err refusals.WrongKind)
    (if_other (nat_lt i (length o.refs)) (Ok (slice_index o.refs i)) (Err refusals.BadIndex) tt refl) refl)

word_other : (objects : List Object) (id i : ℕ) → IsOther (word_at objects id i)
word_other objects id i = bind_other (object_at objects id) (λ o. word_cell o i) (object_other objects id) (λ o.
    if_other (takes_words o.shape) (if nat_lt i (length o.words) then Ok (slice_index o.words i) else Err refusals.BadIndex) (Err refusals.WrongKind)
    (if_other (nat_lt i (length o.words)) (Ok (slice_index o.words i)) (Err refusals.BadIndex) tt refl) refl)

admits_other : (live joins : Bool) → IsOther (admits live joins)
admits_other true true = refl
admits_other true false = tt
admits_other false true = tt
admits_other false false = refl

pub admitted_other : (g : Graph) (m : ℕ) (c : Command) → IsOther (admitted g m c)
admitted_other g m c = if_other (nat_lt m g.limits.mutators) (admits (slice_index_or g.live m false) (is_join c)) (Err refusals.BadSlot) (admits_other (slice_index_or g.live m false) (is_join c)) refl

abbrev IsNew : Command → Type 0
IsNew (commands.New dst shape) = Unit {0}
IsNew _ = ⊥

admitted_roomless : (room : Bool) (g : Graph) (m : ℕ) (c : Command) → (IsNew c → ⊥) → IsRoomless (admitted_effect room g m c)
admitted_roomless room g m (commands.New dst shape) n = absurd (n tt)
admitted_roomless room g m (commands.Load dst obj i) n = bind_roomless _ _ (slot_other g.limits m dst) (λ d. bind_roomless _ _ (slot_other g.limits m obj) (λ a. bind_roomless _ _ (ref_other g.objects (slice_index g.roots a) i) (λ v. (refl, λ class. refl))))
admitted_roomless room g m (commands.Store obj i src) n = bind_roomless _ _ (slot_other g.limits m obj) (λ a. bind_roomless _ _ (slot_other g.limits m src) (λ s. bind_roomless _ _ (ref_other g.objects (slice_index g.roots a) i) (λ v. (refl, λ class. refl))))
admitted_roomless room g m (commands.CompareStore obj i expect new) n =
    bind_roomless _ _ (slot_other g.limits m obj) (λ a. bind_roomless _ _ (slot_other g.limits m expect) (λ e. bind_roomless _ _ (slot_other g.limits m new) (λ s. bind_roomless _ _ (ref_other g.objects (slice_index g.roots a) i) (λ v.
    if_roomless (v == slice_index g.roots e) _ _ (refl, λ class. refl) (refl, λ class. refl)))))
admitted_roomless room g m (commands.Get obj i) n = bind_roomless _ _ (slot_other g.limits m obj) (λ a. bind_roomless _ _ (word_other g.objects (slice_index g.roots a) i) (λ v. (refl, λ class. refl)))
admitted_roomless room g m (commands.Put obj i word) n = bind_roomless _ _ (slot_other g.limits m obj) (λ a. bind_roomless _ _ (word_other g.objects (slice_index g.roots a) i) (λ v. (refl, λ class. refl)))
admitted_roomless room g m (commands.ComparePut obj i old new) n =
    bind_roomless _ _ (slot_other g.limits m obj) (λ a. bind_roomless _ _ (word_other g.objects (slice_index g.roots a) i) (λ v. if_roomless (v == old) _ _ (refl, λ class. refl) (refl, λ class. refl)))
admitted_roomless room g m (commands.Copy dst src) n = bind_roomless _ _ (slot_other g.limits m dst) (λ d. bind_roomless _ _ (slot_other g.limits m src) (λ s. (refl, λ class. refl)))
admitted_roomless room g m (commands.Clear dst) n = bind_roomless _ _ (slot_other g.limits m dst) (λ d. (refl, λ class. refl))
admitted_roomless room g m (commands.LoadStatic dst k) n = bind_roomless _ _ (slot_other g.limits m dst) (λ d. bind_roomless _ _ (static_other g.limits k) (λ s. (refl, λ class. refl)))
admitted_roomless room g m (commands.StoreStatic k src) n = bind_roomless _ _ (slot_other g.limits m src) (λ s. bind_roomless _ _ (static_other g.limits k) (λ d. (refl, λ class. refl)))
admitted_roomless room g m (commands.CompareStatic k expect new) n =
    bind_roomless _ _ (slot_other g.limits m expect) (λ e. bind_roomless _ _ (slot_other g.limits m new) (λ s. bind_roomless _ _ (static_other g.limits k) (λ d. if_roomless (slice_index g.roots d == slice_index g.roots e) _ _ (refl, λ class. refl) (refl, λ class. refl))))
admitted_roomless room g m (commands.Same a b) n = bind_roomless _ _ (slot_other g.limits m a) (λ x. bind_roomless _ _ (slot_other g.limits m b) (λ y. (refl, λ class. refl)))
admitted_roomless room g m (commands.Describe a) n = bind_roomless _ _ (slot_other g.limits m a) (λ x. bind_roomless _ _ (object_other g.objects (slice_index g.roots x)) (λ o. (refl, λ class. refl)))
admitted_roomless room g m commands.Join n = (refl, λ class. refl)
admitted_roomless room g m commands.Leave n = (refl, λ class. refl)

others_roomless : (room : Bool) (g : Graph) (m : ℕ) (c : Command) → (IsNew c → ⊥) → IsRoomless (effect_of room g m c)
others_roomless room g m c n = bind_roomless (admitted g m c) (λ ok. admitted_effect room g m c) (admitted_other g m c) (λ ok. admitted_roomless room g m c n)

-- a new object's reply, with and without room
abbrev pub new_effect : Result (Unit {0}) Refusal → Result ℕ Refusal → Result Shape Refusal → Result ℕ Refusal → Shape → Bool → Result (Reply × Change) Refusal
new_effect a s f n shape room = a >>= λ ok. s >>= λ d. f >>= λ fit. n >>= λ id. with_room room >>= λ has. Ok (replies.Made id, changes.New d id shape)

-- a new object asks for no more than its shape needs
new_asks : (l : Result (Unit {0}) Refusal) (s : Result ℕ Refusal) (f : Result Shape Refusal) (i : Result ℕ Refusal) (shape : Shape) (k : ℕ) → asked_by (settled (new_effect l s f i shape true)).1 k ≤ needed shape k
new_asks (Err e) s f i shape k = omega arith
new_asks (Ok l) (Err e) f i shape k = omega arith
new_asks (Ok l) (Ok d) (Err e) i shape k = omega arith
new_asks (Ok l) (Ok d) (Ok o) (Err e) shape k = omega arith
new_asks (Ok l) (Ok d) (Ok o) (Ok id) shape k = omega arith

none_asked : (g : Graph) (m : ℕ) (c : Command) (k : ℕ) → (IsNew c → ⊥) → asked_for g m c k ≤ 0
none_asked g m c k n = let z = (others_roomless true g m c n).1 k in omega (arith, z)

none_asks : (l : Result (Unit {0}) Refusal) (s : Result ℕ Refusal) (i : Result ℕ Refusal) (shape : Shape) (k : ℕ) → asked_by (settled (new_effect l s (Err refusals.TooLarge) i shape true)).1 k ≤ 0
none_asks (Err e) s i shape k = omega arith
none_asks (Ok l) (Err e) i shape k = omega arith
none_asks (Ok l) (Ok d) i shape k = omega arith

pub asks_less : (g : Graph) (m : ℕ) (c : Command) (k : ℕ) → asked_for g m c k ≤ asks c k
asks_less g m (commands.New dst shape) k = by_fits (fits shape)
  where
    by_fits : (b : Bool) → asked_by (settled (new_effect (admitted g m (commands.New dst shape)) (slot_at g.limits m dst) (if b then Ok shape else Err refusals.TooLarge) (next_identity g) shape true)).1 k ≤ (if b then needed shape k else 0)
    by_fits true = new_asks (admitted g m (commands.New dst shape)) (slot_at g.limits m dst) (Ok shape) (next_identity g) shape k
    by_fits false = none_asks (admitted g m (commands.New dst shape)) (slot_at g.limits m dst) (next_identity g) shape k
asks_less g m (commands.Load dst obj i) k = none_asked g m (commands.Load dst obj i) k (λ n. n)
asks_less g m (commands.Store obj i src) k = none_asked g m (commands.Store obj i src) k (λ n. n)
asks_less g m (commands.CompareStore obj i expect new) k = none_asked g m (commands.CompareStore obj i expect new) k (λ n. n)
asks_less g m (commands.Get obj i) k = none_asked g m (commands.Get obj i) k (λ n. n)
asks_less g m (commands.Put obj i word) k = none_asked g m (commands.Put obj i word) k (λ n. n)
asks_less g m (commands.ComparePut obj i old new) k = none_asked g m (commands.ComparePut obj i old new) k (λ n. n)
asks_less g m (commands.Copy dst src) k = none_asked g m (commands.Copy dst src) k (λ n. n)
asks_less g m (commands.Clear dst) k = none_asked g m (commands.Clear dst) k (λ n. n)
asks_less g m (commands.LoadStatic dst i) k = none_asked g m (commands.LoadStatic dst i) k (λ n. n)
asks_less g m (commands.StoreStatic i src) k = none_asked g m (commands.StoreStatic i src) k (λ n. n)
asks_less g m (commands.CompareStatic i expect new) k = none_asked g m (commands.CompareStatic i expect new) k (λ n. n)
asks_less g m (commands.Same a b) k = none_asked g m (commands.Same a b) k (λ n. n)
asks_less g m (commands.Describe a) k = none_asked g m (commands.Describe a) k (λ n. n)
asks_less g m commands.Join k = none_asked g m commands.Join k (λ n. n)
asks_less g m commands.Leave k = none_asked g m commands.Leave k (λ n. n)

-- so if no new object is refused for lack of space, no command is
other_has_room : (room : Bool) (g : Graph) (m : ℕ) (c : Command) → (IsNew c → ⊥) → had_room (reply_of room g m c) ≡ true
unfolding reply_of
other_has_room room g m c n = (others_roomless room g m c n).0

reply_has_room : (r new : Course) (m : ℕ) (c : Command) (reply : Reply) → (IsNew c → ⊥) → Enters r m c reply new → had_room reply ≡ true
reply_has_room r new m c reply n e = ap had_room e.replies ∙ other_has_room (room_for r.heap c) (present_of r) m c n

pub all_have_room : (es : List Event) (r new : Course) → Runs r es new → EveryNewFindsRoom es → AllHaveRoom es
all_have_room [] r new runs none = tt
all_have_room (Command_done m (commands.New dst shape) reply ∷ es) r new runs none = (none.0, all_have_room es runs.0 new runs.2 none.1)
all_have_room (Command_done m (commands.Load dst obj i) reply ∷ es) r new runs none = (reply_has_room r runs.0 m (commands.Load dst obj i) reply (λ n. n) runs.1, all_have_room es runs.0 new runs.2 none.1)
all_have_room (Command_done m (commands.Store obj i src) reply ∷ es) r new runs none = (reply_has_room r runs.0 m (commands.Store obj i src) reply (λ n. n) runs.1, all_have_room es runs.0 new runs.2 none.1)
all_have_room (Command_done m (commands.CompareStore obj i expect n) reply ∷ es) r new runs none = (reply_has_room r runs.0 m (commands.CompareStore obj i expect n) reply (λ n. n) runs.1, all_have_room es runs.0 new runs.2 none.1)
all_have_room (Command_done m (commands.Get obj i) reply ∷ es) r new runs none = (reply_has_room r runs.0 m (commands.Get obj i) reply (λ n. n) runs.1, all_have_room es runs.0 new runs.2 none.1)
all_have_room (Command_done m (commands.Put obj i word) reply ∷ es) r new runs none = (reply_has_room r runs.0 m (commands.Put obj i word) reply (λ n. n) runs.1, all_have_room es runs.0 new runs.2 none.1)
all_have_room (Command_done m (commands.ComparePut obj i old n) reply ∷ es) r new runs none = (reply_has_room r runs.0 m (commands.ComparePut obj i old n) reply (λ n. n) runs.1, all_have_room es runs.0 new runs.2 none.1)
all_have_room (Command_done m (commands.Copy dst src) reply ∷ es) r new runs none = (reply_has_room r runs.0 m (commands.Copy dst src) reply (λ n. n) runs.1, all_have_room es runs.0 new runs.2 none.1)
all_have_room (Command_done m (commands.Clear dst) reply ∷ es) r new runs none = (reply_has_room r runs.0 m (commands.Clear dst) reply (λ n. n) runs.1, all_have_room es runs.0 new runs.2 none.1)
all_have_room (Command_done m (commands.LoadStatic dst k) reply ∷ es) r new runs none = (reply_has_room r runs.0 m (commands.LoadStatic dst k) reply (λ n. n) runs.1, all_have_room es runs.0 new runs.2 none.1)
all_have_room (Command_done m (commands.StoreStatic k src) reply ∷ es) r new runs none = (reply_has_room r runs.0 m (commands.StoreStatic k src) reply (λ n. n) runs.1, all_have_room es runs.0 new runs.2 none.1)
all_have_room (Command_done m (commands.CompareStatic k expect n) reply ∷ es) r new runs none = (reply_has_room r runs.0 m (commands.CompareStatic k expect n) reply (λ n. n) runs.1, all_have_room es runs.0 new runs.2 none.1)
all_have_room (Command_done m (commands.Same a b) reply ∷ es) r new runs none = (reply_has_room r runs.0 m (commands.Same a b) reply (λ n. n) runs.1, all_have_room es runs.0 new runs.2 none.1)
all_have_room (Command_done m (commands.Describe a) reply ∷ es) r new runs none = (reply_has_room r runs.0 m (commands.Describe a) reply (λ n. n) runs.1, all_have_room es runs.0 new runs.2 none.1)
all_have_room (Command_done m commands.Join reply ∷ es) r new runs none = (reply_has_room r runs.0 m commands.Join reply (λ n. n) runs.1, all_have_room es runs.0 new runs.2 none.1)
all_have_room (Command_done m commands.Leave reply ∷ es) r new runs none = (reply_has_room r runs.0 m commands.Leave reply (λ n. n) runs.1, all_have_room es runs.0 new runs.2 none.1)
all_have_room (Cycle_begun ∷ es) r new runs none = (tt, all_have_room es runs.0 new runs.2 none.1)
all_have_room (Begin_refused ∷ es) r new runs none = (tt, all_have_room es runs.0 new runs.2 none.1)
all_have_room (Quantum_done budget units phase ∷ es) r new runs none = (tt, all_have_room es runs.0 new runs.2 none.1)
all_have_room (Quantum_refused budget ∷ es) r new runs none = (tt, all_have_room es runs.0 new runs.2 none.1)

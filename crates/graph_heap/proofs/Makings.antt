-- Changes that add an object, and the replies that say so.
use Rattle.std.proofs.Common.{ℕ, Bool, true, false, cond, Result, Ok, Err, slice_index, ◌==◌}
use Rattle.graph_heap.specs.declared.command.Reply.{Reply}
use Rattle.graph_heap.specs.declared.command.Refusal.{Refusal}
use Rattle.graph_heap.specs.declared.command.Change.{Change}
use Rattle.graph_heap.specs.declared.command.Command.{Command}
use Rattle.graph_heap.specs.declared.command.Command.TheVariants as commands
use Rattle.graph_heap.specs.Graph.{Graph}
use Rattle.graph_heap.specs.Effect.{◌>>=◌, settled, admitted, admitted_effect, effect_of, AddsObject, TellsMade, slot_at, static_at, ref_at, word_at, object_at, fitting, next_identity, with_room}

-- a change that adds an object has the reply that says so
abbrev pub SaysSo : Reply × Change → Type 0
SaysSo x = AddsObject x.1 → TellsMade x.0

then_so : {A : Type 0} (a : Result A Refusal) (f : A → Result (Reply × Change) Refusal) → ((x : A) → SaysSo (settled (f x))) → SaysSo (settled (a >>= f))
then_so (Ok x) f each = each x
then_so (Err why) f each = λ none. none

either_so : (b : Bool) (x y : Result (Reply × Change) Refusal) → SaysSo (settled x) → SaysSo (settled y) → SaysSo (settled (cond b x y))
either_so true x y h k = h
either_so false x y h k = k

command_so : (room : Bool) (g : Graph) (m : ℕ) (c : Command) → SaysSo (settled (admitted_effect room g m c))
command_so room g m (commands.New dst shape) =
    then_so (slot_at g.limits m dst) _ (λ d. then_so (fitting shape) _ (λ ok. then_so (next_identity g) _ (λ id. then_so (with_room room) _ (λ has. λ made. made))))
command_so room g m (commands.Load dst obj i) =
    then_so (slot_at g.limits m dst) _ (λ d. then_so (slot_at g.limits m obj) _ (λ a. then_so (ref_at g.objects (slice_index g.roots a) i) _ (λ v. λ none. none)))
command_so room g m (commands.Store obj i src) =
    then_so (slot_at g.limits m obj) _ (λ a. then_so (slot_at g.limits m src) _ (λ s. then_so (ref_at g.objects (slice_index g.roots a) i) _ (λ v. λ none. none)))
command_so room g m (commands.CompareStore obj i expect new) =
    then_so (slot_at g.limits m obj) _ (λ a. then_so (slot_at g.limits m expect) _ (λ e. then_so (slot_at g.limits m new) _ (λ n. then_so (ref_at g.objects (slice_index g.roots a) i) _
    (λ v. either_so (v == slice_index g.roots e) _ _ (λ none. none) (λ none. none)))))
command_so room g m (commands.Get obj i) = then_so (slot_at g.limits m obj) _ (λ a. then_so (word_at g.objects (slice_index g.roots a) i) _ (λ v. λ none. none))
command_so room g m (commands.Put obj i word) = then_so (slot_at g.limits m obj) _ (λ a. then_so (word_at g.objects (slice_index g.roots a) i) _ (λ v. λ none. none))
command_so room g m (commands.ComparePut obj i old new) =
    then_so (slot_at g.limits m obj) _ (λ a. then_so (word_at g.objects (slice_index g.roots a) i) _ (λ v. either_so (v == old) _ _ (λ none. none) (λ none. none)))
command_so room g m (commands.Copy dst src) = then_so (slot_at g.limits m dst) _ (λ d. then_so (slot_at g.limits m src) _ (λ s. λ none. none))
command_so room g m (commands.Clear dst) = then_so (slot_at g.limits m dst) _ (λ d. λ none. none)
command_so room g m (commands.LoadStatic dst k) = then_so (slot_at g.limits m dst) _ (λ d. then_so (static_at g.limits k) _ (λ s. λ none. none))
command_so room g m (commands.StoreStatic k src) = then_so (slot_at g.limits m src) _ (λ s. then_so (static_at g.limits k) _ (λ d. λ none. none))
command_so room g m (commands.CompareStatic k expect new) =
    then_so (slot_at g.limits m expect) _ (λ e. then_so (slot_at g.limits m new) _ (λ n. then_so (static_at g.limits k) _ (λ d. either_so (slice_index g.roots d == slice_index g.roots e) _ _ (λ none. none) (λ none. none))))
command_so room g m (commands.Same a b) = then_so (slot_at g.limits m a) _ (λ x. then_so (slot_at g.limits m b) _ (λ y. λ none. none))
command_so room g m (commands.Describe a) = then_so (slot_at g.limits m a) _ (λ x. then_so (object_at g.objects (slice_index g.roots x)) _ (λ o. λ none. none))
command_so room g m commands.Join = λ none. none
command_so room g m commands.Leave = λ none. none

pub effect_so : (room : Bool) (g : Graph) (m : ℕ) (c : Command) → SaysSo (settled (effect_of room g m c))
effect_so room g m c = then_so (admitted g m c) _ (λ ok. command_so room g m c)

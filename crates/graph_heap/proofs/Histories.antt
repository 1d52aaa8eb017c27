-- A history and one more entry.
use Rattle.std.proofs.Common.{◌≡◌, ℕ, List, [], ◌∷◌, ◌++◌, Bool, true, false, refl, ap, Result, Ok, Err, ◌∙◌, sym}
use Rattle.graph_heap.specs.declared.command.Entry.{Entry}
use Rattle.graph_heap.specs.declared.command.Reply.{Reply}
use Rattle.graph_heap.specs.declared.command.Reply.TheVariants as replies
use Rattle.graph_heap.specs.declared.command.Refusal.{Refusal}
use Rattle.graph_heap.specs.declared.command.Shape.{Shape}
use Rattle.graph_heap.specs.declared.command.Change.{Change}
use Rattle.graph_heap.specs.declared.command.Change.TheVariants as changes
use Rattle.graph_heap.specs.declared.command.Command.{Command}
use Rattle.graph_heap.specs.declared.command.Command.TheVariants as commands
use Rattle.graph_heap.specs.Graph.{Graph, changed}
use Rattle.graph_heap.specs.Effect.{reply_of, next_of, slot_at, fitting, next_identity, with_room, settled, admitted_effect, admitted, effect_of, ◌>>=◌}
use Rattle.graph_heap.specs.History.{after, after_entry, IsLegal, IsEntryOf, had_room}

pub after-push : (g : Graph) (h : List Entry) (e : Entry) → after g (h ++ e ∷ []) ≡ after_entry (after g h) e
after-push g [] e = refl
after-push g (x ∷ h) e = after-push (after_entry g x) h e

pub IsLegal-push : (g : Graph) (h : List Entry) (e : Entry) → IsLegal g h → IsEntryOf (after g h) e → IsLegal g (h ++ e ∷ [])
IsLegal-push g [] e l s = (s, tt)
IsLegal-push g (x ∷ h) e l s = (l.0, IsLegal-push (after_entry g x) h e l.1 s)

abbrev made : Shape → Result ℕ Refusal → Result Shape Refusal → Result ℕ Refusal → Bool → Reply × Change
made shape a b i room = settled (a >>= λ d. b >>= λ ok. i >>= λ id. with_room room >>= λ has. Ok (replies.Made id, changes.New d id shape))

made_told : (shape : Shape) (a : Result ℕ Refusal) (b : Result Shape Refusal) (i : Result ℕ Refusal) (room : Bool) → made shape a b i (had_room (made shape a b i room).0) ≡ made shape a b i room
made_told shape (Err n) b i room = refl
made_told shape (Ok d) (Err n) i room = refl
made_told shape (Ok d) (Ok s) (Err n) room = refl
made_told shape (Ok d) (Ok s) (Ok id) true = refl
made_told shape (Ok d) (Ok s) (Ok id) false = refl

-- a reply tells the room that it was given with, as far as it matters
admitted_told : (room : Bool) (g : Graph) (m : ℕ) (c : Command) → settled (admitted_effect (had_room (settled (admitted_effect room g m c)).0) g m c) ≡ settled (admitted_effect room g m c)
admitted_told room g m (commands.New dst shape) = made_told shape (slot_at g.limits m dst) (fitting shape) (next_identity g) room
admitted_told room g m _ = refl

abbrev let_in : Result (Unit {0}) Refusal → Graph → ℕ → Command → Bool → Reply × Change
let_in a g m c room = settled (a >>= λ ok. admitted_effect room g m c)

let_in_told : (a : Result (Unit {0}) Refusal) (room : Bool) (g : Graph) (m : ℕ) (c : Command) → let_in a g m c (had_room (let_in a g m c room).0) ≡ let_in a g m c room
let_in_told (Ok x) room g m c = admitted_told room g m c
let_in_told (Err n) room g m c = refl

told : (room : Bool) (g : Graph) (m : ℕ) (c : Command) → settled (effect_of (had_room (settled (effect_of room g m c)).0) g m c) ≡ settled (effect_of room g m c)
told room g m c = let_in_told (admitted g m c) room g m c

pub IsEntryOf-step : (g : Graph) (e : Entry) (room : Bool) → reply_of room g e.mutator e.command ≡ e.reply → IsEntryOf g e × (after_entry g e ≡ next_of room g e.mutator e.command)
unfolding reply_of next_of
IsEntryOf-step g e room h =
    let same = (λ (r : Reply). settled (effect_of (had_room r) g e.mutator e.command)) in
    let t : same e.reply ≡ settled (effect_of room g e.mutator e.command) = ap same (sym h) ∙ told room g e.mutator e.command in
    (ap (λ (x : Reply × Change). x.0) t ∙ h, ap (λ (x : Reply × Change). changed g x.1) t)

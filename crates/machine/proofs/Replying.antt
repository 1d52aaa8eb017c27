-- A plan, settled: the reply, the change and the graph heap after it.
use Rattle.std.proofs.Common.{◌≡◌, ℕ, Bool, List, ◌∷◌, ◌++◌, [], Result, Ok, Err, ◌∙◌, sym, subst, ap, refl}
use Rattle.graph_heap.specs.declared.command.Command.{Command}
use Rattle.graph_heap.specs.declared.command.Refusal.{Refusal}
use Rattle.graph_heap.specs.declared.command.Reply.{Reply}
use Rattle.graph_heap.specs.declared.command.Reply.TheVariants as replies
use Rattle.graph_heap.specs.declared.command.Change.{Change}
use Rattle.graph_heap.specs.declared.command.Entry.{Entry}
use Rattle.graph_heap.specs.Graph.{Graph}
use Rattle.graph_heap.specs.Effect.{◌>>=◌, is_join, admitted_to, admitted_effect, effect_of, settled, reply_of, next_of}
use Rattle.heap_model.specs.State.{HeapState}
use Rattle.heap_model.specs.Agreement.{Agrees}
use Rattle.heap_model.specs.Change.{DoesChange, Does_nothing}
use Rattle.heap_model.specs.Event.{Course, Enters, present_of, change_by, room_for}
use Rattle.machine.specs.declared.plan.Planned.{Planned}
use Rattle.machine.specs.Plan.{PlansBy, planned_reply, IsPlan, CanPerform, CanCommit, Commits, CommitsEach, Steps}
use Rattle.machine.proofs.Live.{effect_is}
use Rattle.machine.proofs.Writing.{Performs}

-- a plan that isn't a refusal is committed by its write
pub commits_ok : (h : HeapState) (p : Planned) (after : HeapState) → Performs h p.write after → CommitsEach h (Ok p) p.reply after
commits_ok h p after performs g done a plan =
    let does = performs g plan.0 a plan.2 in
    subst (λ (d : Result (Reply × Change) Refusal). Commits h g d p.reply after) (sym plan.1) (record { reply = refl; change = does.0; agrees = does.1 })

-- its write can be done
pub can_write : (h : HeapState) (p : Planned) → CanCommit h (Ok p) → CanPerform h p.write
can_write h p can g a = let d = can g a in (d.1.0, d.1.2)

-- a refusal is a reply, and nothing changes
pub commits_err : (h : HeapState) (e : Refusal) → CommitsEach h (Err e) (replies.Refused e) h
commits_err h e g done a plan =
    subst (λ (d : Result (Reply × Change) Refusal). Commits h g d (replies.Refused e) h) (sym plan) (record { reply = refl; change = Does_nothing; agrees = a })

-- the reply of a plan is that of the graph heap
reply_planned : (h : HeapState) (g : Graph) (done : Result (Reply × Change) Refusal) (planned : Result Planned Refusal) → PlansBy h g done planned → planned_reply planned ≡ (settled done).0
reply_planned h g done (Ok p) plan = sym (ap (λ (d : Result (Reply × Change) Refusal). (settled d).0) plan.1)
reply_planned h g done (Err e) plan = sym (ap (λ (d : Result (Reply × Change) Refusal). (settled d).0) plan)

steps_by : (h : HeapState) (m : ℕ) (c : Command) (told : Reply) (after : HeapState) → ((g : Graph) → Agrees h g → Commits h g (effect_of (room_for h c) g m c) told after) → Steps h m c told after
unfolding reply_of next_of
steps_by h m c told after s = record { reply = λ g a. (s g a).reply; agrees = λ g a. (s g a).agrees; does = λ g a. (s g a).change }

-- a command is refused if each graph heap refuses it
pub refused_each : (h : HeapState) (m : ℕ) (c : Command) (e : Refusal) → ((g : Graph) → Agrees h g → effect_of (room_for h c) g m c ≡ Err e) → Steps h m c (replies.Refused e) h
refused_each h m c e refuses =
    steps_by h m c (replies.Refused e) h (λ g a. subst (λ (d : Result (Reply × Change) Refusal). Commits h g d (replies.Refused e) h) (sym (refuses g a)) (commits_err h e g (Err e) a refl))

-- a command is settled as the mutator is admitted; the test is of the fields f, which are seen as the value h
module _ (f h : HeapState) (seen_as : f ≡ h) (m : ℕ) (c : Command) (joins : Bool) (join : joins ≡ is_join c) (r : Result (Unit {0}) Refusal) (told : r ≡ admitted_to f.limits f.live m joins) where
  told_here : r ≡ admitted_to h.limits h.live m (is_join c)
  told_here = subst (λ (x : HeapState). r ≡ admitted_to x.limits x.live m (is_join c)) seen_as (told ∙ ap (admitted_to f.limits f.live m) join)

  effect_by : (g : Graph) → Agrees h g → (x : Result (Unit {0}) Refusal) → r ≡ x → effect_of (room_for h c) g m c ≡ (x >>= λ b. admitted_effect (room_for h c) g m c)
  effect_by g a x e = effect_is h g a m c r told_here ∙ ap (λ (y : Result (Unit {0}) Refusal). y >>= λ b. admitted_effect (room_for h c) g m c) e

  pub admitted_steps : (ok : Unit {0}) → r ≡ Ok ok → (planned : Result Planned Refusal) → IsPlan h m c planned → (reply : Reply) (after : HeapState) → CommitsEach h planned reply after → Steps h m c reply after
  admitted_steps ok e planned plans reply after each =
      steps_by h m c reply after (λ g a. subst (λ (d : Result (Reply × Change) Refusal). Commits h g d reply after) (sym (effect_by g a (Ok ok) e)) (each g (admitted_effect (room_for h c) g m c) a (plans g a)))

  pub admitted_reply : (ok : Unit {0}) → r ≡ Ok ok → (planned : Result Planned Refusal) → IsPlan h m c planned → (g : Graph) → Agrees h g → planned_reply planned ≡ reply_of (room_for h c) g m c
  unfolding reply_of
  admitted_reply ok e planned plans g a =
      reply_planned h g (admitted_effect (room_for h c) g m c) planned (plans g a) ∙ sym (ap (λ (d : Result (Reply × Change) Refusal). (settled d).0) (effect_by g a (Ok ok) e))

  pub refused_steps : (e : Refusal) → r ≡ Err e → Steps h m c (replies.Refused e) h
  refused_steps e is_err =
      steps_by h m c (replies.Refused e) h (λ g a. subst (λ (d : Result (Reply × Change) Refusal). Commits h g d (replies.Refused e) h) (sym (effect_by g a (Err e) is_err)) (commits_err h e g (Err e) a refl))

-- a command that is done is entered
pub enters : (r : Course) (m : ℕ) (c : Command) (reply : Reply) (after : HeapState) (history : List Entry)
    → ((g : Graph) → Agrees r.heap g → reply ≡ reply_of (room_for r.heap c) g m c)
    → ((g : Graph) → Agrees r.heap g → DoesChange r.heap g (change_by (room_for r.heap c) g m c) after)
    → Agrees r.heap (present_of r) → history ≡ r.history ++ (record { mutator = m; command = c; reply = reply }) ∷ [] → Enters r m c reply (record r { heap = after; history = history })
enters r m c reply after history tells does a e = record { replies = tells (present_of r) a; change = does (present_of r) a; history = e; place = refl }

use Rattle.std.proofs.Common.{◌∙◌, List, [], ◌∷◌, sym, subst, if◌then◌else◌, ◌==◌}
use Rattle.std.specs.Prelude.{Some, None}
use Rattle.graph_heap.specs.declared.command.Command.{Command}
use Rattle.graph_heap.specs.declared.command.Command.TheVariants as commands
use Rattle.bulk.specs.InOrder.{DoesFrontBy}
use Rattle.bulk.proofs.InOrder.{none_done, one_more, stops, told_as}
use Rattle.bulk.proofs.slots.move_slot.Goals as goal
use Rattle.bulk.proofs.Moving.{moves_itself, moves_other}

pub returns-in-Some : goal.returns-in-Some
returns-in-Some g c =
    told_as _ _ _ _ _ _ c.stopped.ensures
    (stops (g.H.Commands.does c.args.mutator) c.args.heap.now c.args.heap.now c.copy.new.self [] 0 (commands.Copy c.args.dst c.args.src) c.copy.result c.in-Some.refusal
    (if c.args.dst == c.args.src then [] else commands.Clear c.args.src ∷ []) (none_done (g.H.Commands.does c.args.mutator) c.args.heap.now) c.copy.ensures (sym c.refusal_in.ensures ∙ c.in-Some.is))

pub returns-then-dst-src : goal.returns-then-dst-src
returns-then-dst-src g c =
    told_as _ _ _ _ _ _ c.whole.ensures
    (subst (λ (cs : List Command). DoesFrontBy (g.H.Commands.does c.args.mutator) c.args.heap.now cs (record { done = 1; refused = None }) c.copy.new.self) (sym (moves_itself c.args.dst c.args.src c.if-dst-src.true))
    (one_more (g.H.Commands.does c.args.mutator) c.args.heap.now c.args.heap.now c.copy.new.self [] 0 (commands.Copy c.args.dst c.args.src) c.copy.result (none_done (g.H.Commands.does c.args.mutator) c.args.heap.now) c.copy.ensures (sym c.refusal_in.ensures ∙ c.in_default.is)))

pub returns-in-Some-refusal_in : goal.returns-in-Some-refusal_in
returns-in-Some-refusal_in g c =
    told_as _ _ _ _ _ _ c.stopped-in-Some-refusal_in.ensures
    (subst (λ (cs : List Command). DoesFrontBy (g.H.Commands.does c.args.mutator) c.args.heap.now cs (record { done = 1; refused = Some c.in-Some-refusal_in.refusal }) c.clear.new.self) (sym (moves_other c.args.dst c.args.src c.if-dst-src.false))
    (stops (g.H.Commands.does c.args.mutator) c.args.heap.now c.copy.new.self c.clear.new.self (commands.Copy c.args.dst c.args.src ∷ []) 1 (commands.Clear c.args.src) c.clear.result c.in-Some-refusal_in.refusal []
    (one_more (g.H.Commands.does c.args.mutator) c.args.heap.now c.args.heap.now c.copy.new.self [] 0 (commands.Copy c.args.dst c.args.src) c.copy.result (none_done (g.H.Commands.does c.args.mutator) c.args.heap.now) c.copy.ensures (sym c.refusal_in.ensures ∙ c.in_default.is))
    c.clear.ensures (sym c.refusal_in-2.ensures ∙ c.in-Some-refusal_in.is)))

pub returns-in-None : goal.returns-in-None
returns-in-None g c =
    told_as _ _ _ _ _ _ c.whole-in-None.ensures
    (subst (λ (cs : List Command). DoesFrontBy (g.H.Commands.does c.args.mutator) c.args.heap.now cs (record { done = 2; refused = None }) c.clear.new.self) (sym (moves_other c.args.dst c.args.src c.if-dst-src.false))
    (one_more (g.H.Commands.does c.args.mutator) c.args.heap.now c.copy.new.self c.clear.new.self (commands.Copy c.args.dst c.args.src ∷ []) 1 (commands.Clear c.args.src) c.clear.result
    (one_more (g.H.Commands.does c.args.mutator) c.args.heap.now c.args.heap.now c.copy.new.self [] 0 (commands.Copy c.args.dst c.args.src) c.copy.result (none_done (g.H.Commands.does c.args.mutator) c.args.heap.now) c.copy.ensures (sym c.refusal_in.ensures ∙ c.in_default.is))
    c.clear.ensures (sym c.refusal_in-2.ensures ∙ c.in-None.is)))

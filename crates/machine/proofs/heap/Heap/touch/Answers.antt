use Rattle.std.proofs.Common.{ap, ◌∙◌, sym, subst}
use Rattle.heap_model.specs.Agreement.{Agrees}
use Rattle.heap_model.specs.State.{HeapState}
use Rattle.nodes.specs.Touching.{touched}
use Rattle.machine.proofs.Touching.{words_there, touched_fields, touched_state, touched_agrees}
use Rattle.machine.proofs.heap.Heap.touch.Goals as goal

pub invariant_of-self : goal.invariant_of-self
invariant_of-self c = touched_fields c.self.inside.fields c.self.invariant c.touch.new.self c.args.pages c.touch.ensures.touched c.touch.ensures.kept c.touch.ensures.links

pub returns-clause-touched : goal.returns-clause-touched
returns-clause-touched c =
    touched_state c.self.inside.fields c.self.invariant c.touch.new.self c.args.pages c.touch.ensures.touched c.touch.ensures.kept c.touch.ensures.links
    ∙ ap (λ (h : HeapState). record h { store = touched h.store c.args.pages }) c.self.view_is

pub returns-clause-there : goal.returns-clause-there
returns-clause-there c = words_there c.self.inside.fields.nodes c.touch.new.self c.args.pages c.touch.ensures.touched

pub returns-clause-agrees : goal.returns-clause-agrees
returns-clause-agrees c g a =
    touched_agrees c.self.inside.fields c.self.invariant c.touch.new.self c.args.pages c.touch.ensures.touched c.touch.ensures.kept c.touch.ensures.links g
    (subst (λ (h : HeapState). Agrees h g) (sym c.self.view_is) a)

use Rattle.std.proofs.Common.{◌≡◌, Ok, Err, ap, ◌∙◌, sym, subst}
use Rattle.std.specs.Prelude.{option_map}
use Rattle.graph_heap.specs.declared.command.Refusal.TheVariants.{NullSlot}
use Rattle.graph_heap.specs.Effect.{found, object_at}
use Rattle.graph_heap.specs.Stored.{object_in}
use Rattle.graph_heap.proofs.Numbered.{object_entry}
use Rattle.graph_heap.proofs.reference.objects.Objects.get.Goals as goal

pub returns-in-Some : goal.returns-in-Some
returns-in-Some c =
    subst (λ objects. object_at objects c.args.id ≡ Ok (object_in c.in-Some.object.now)) c.self.view_is
    (object_entry c.self.inside.by_identity.entries c.self.invariant c.args.id ∙ ap (λ o. found (option_map object_in o)) (sym c.in-Some.ensures.value))

pub returns-in-None : goal.returns-in-None
returns-in-None c =
    subst (λ objects. object_at objects c.args.id ≡ Err NullSlot) c.self.view_is
    (object_entry c.self.inside.by_identity.entries c.self.invariant c.args.id ∙ ap (λ o. found (option_map object_in o)) (sym c.in-None.ensures.value))

use Rattle.std.proofs.Common.{◌≡◌, ◌-◌, ◌<◌, true, length, slice_index, ap, subst, sym, refl}
use Rattle.heap_model.specs.Store.{is_allocated}
use Rattle.heap_model.specs.State.{HeapState}
use Rattle.heap_model.specs.Agreement.{Agrees}
use Rattle.nodes.specs.HeapFields.{state_of}
use Rattle.machine.specs.Reading.{Names, IsFound}
use Rattle.nodes.specs.Referent.{referent_of}
use Rattle.machine.proofs.Doing.{at_present}
use Rattle.machine.proofs.Writing.{root_follows}
use Rattle.machine.proofs.Finding.{root_names, followed_some, null_object, object_allocated, object_fits, finds_by}
use Rattle.machine.proofs.heap.Heap.object.Goals as goal

pub follow-referent-requires-clause-block : goal.follow-referent-requires-clause-block
follow-referent-requires-clause-block c = (root_follows (state_of c.self.inside.fields) c.self.invariant.heap c.args.root c.get-reference.result (subst (λ (x : HeapState). c.args.root < length x.roots) (sym c.self.view_is) c.requires) c.get-reference.ensures c.if-reference-eq0.false).0

pub follow-referent-requires-clause-main : goal.follow-referent-requires-clause-main
follow-referent-requires-clause-main c = (root_follows (state_of c.self.inside.fields) c.self.invariant.heap c.args.root c.get-reference.result (subst (λ (x : HeapState). c.args.root < length x.roots) (sym c.self.view_is) c.requires) c.get-reference.ensures c.if-reference-eq0.false).1

pub shape-shape-requires : goal.shape-shape-requires
shape-shape-requires c = object_allocated _ c.self.invariant.heap c.follow-referent.result (followed_some _ c.get-reference.result c.follow-referent.result c.if-reference-eq0.false c.follow-referent.ensures) _ (at_present (λ x g. Names x g (slice_index g.roots c.args.root) c.follow-referent.result) _ _ c.self.view_is c.self.invariant.heap (root_names _ _ c.self.view_is c.args.root c.get-reference.result c.requires c.get-reference.ensures c.follow-referent.result c.follow-referent.ensures))

pub returns-then-reference-eq0-clause-finds : goal.returns-then-reference-eq0-clause-finds
returns-then-reference-eq0-clause-finds c g a =
    null_object _ g _ (record { identity = 0; reference = 0 })
    (root_names _ _ c.self.view_is c.args.root c.get-reference.result c.requires c.get-reference.ensures (record { identity = 0; reference = 0 }) (sym (ap (referent_of _) c.if-reference-eq0.true)) g a) refl

pub returns-clause-finds : goal.returns-clause-finds
returns-clause-finds c g a =
    subst (λ (x : HeapState). IsFound x g (slice_index g.roots c.args.root) (record { block = c.follow-referent.result.reference - 1; id = c.follow-referent.result.identity; shape = c.shape-shape.result })) c.self.view_is
    (finds_by _ c.self.invariant.heap c.follow-referent.result (followed_some _ c.get-reference.result c.follow-referent.result c.if-reference-eq0.false c.follow-referent.ensures) g (subst (λ (x : HeapState). Agrees x g) (sym c.self.view_is) a) _
    (subst (λ (x : HeapState). Names x g (slice_index g.roots c.args.root) c.follow-referent.result) (sym c.self.view_is) ((root_names _ _ c.self.view_is c.args.root c.get-reference.result c.requires c.get-reference.ensures c.follow-referent.result c.follow-referent.ensures) g a)) c.shape-shape.result c.shape-shape.ensures)

pub returns-clause-allocated : goal.returns-clause-allocated
returns-clause-allocated c =
    subst (λ (x : HeapState). is_allocated x.store (c.follow-referent.result.reference - 1) ≡ true) c.self.view_is
    (object_allocated _ c.self.invariant.heap c.follow-referent.result (followed_some _ c.get-reference.result c.follow-referent.result c.if-reference-eq0.false c.follow-referent.ensures) _ (at_present (λ x g. Names x g (slice_index g.roots c.args.root) c.follow-referent.result) _ _ c.self.view_is c.self.invariant.heap (root_names _ _ c.self.view_is c.args.root c.get-reference.result c.requires c.get-reference.ensures c.follow-referent.result c.follow-referent.ensures)))

pub returns-clause-fits : goal.returns-clause-fits
returns-clause-fits c = object_fits _ c.self.invariant.heap c.follow-referent.result (followed_some _ c.get-reference.result c.follow-referent.result c.if-reference-eq0.false c.follow-referent.ensures) _ (at_present (λ x g. Names x g (slice_index g.roots c.args.root) c.follow-referent.result) _ _ c.self.view_is c.self.invariant.heap (root_names _ _ c.self.view_is c.args.root c.get-reference.result c.requires c.get-reference.ensures c.follow-referent.result c.follow-referent.ensures)) c.shape-shape.result c.shape-shape.ensures

use Rattle.std.proofs.Common.{◌≡◌, ◌<◌, ◌≤◌, subst, Ok, sym, ◌∙◌, arith, true, false}
use Rattle.graph_heap.specs.declared.command.Limits.{Limits}
use Rattle.graph_heap.specs.declared.command.Command.TheVariants as commands
use Rattle.graph_heap.specs.declared.command.Reply.TheVariants as replies
use Rattle.graph_heap.specs.Effect.{admitted_effect}
use Rattle.graph_heap.specs.Shape.{fits}
use Rattle.size_classes.specs.Parts.{cells_of}
use Rattle.size_classes.specs.Need.{needed}
use Rattle.heap_model.specs.Pages.{has_room}
use Rattle.heap_model.specs.State.{HeapState}
use Rattle.heap_model.specs.Agreement.{Agrees}
use Rattle.machine.specs.Plan.{PlansBy}
use Rattle.machine.specs.declared.plan.Write.TheVariants as writes
use Rattle.machine.proofs.Planning.{fits_by, cells_by, room_by, spent_effect, full_effect, new_plans}
use Rattle.machine.proofs.heap.planning.make.Goals as goal

pub returns-then-heap-limits : goal.returns-then-heap-limits
returns-then-heap-limits c g a =
    let fit : fits c.args.shape ≡ true = fits_by c.parts_of.result (fits c.args.shape) c.in_ok-parts.parts c.in_ok-parts.ensures.ok_part c.parts_of.ensures.none in
    spent_effect _ g (subst (λ (x : HeapState). Agrees x g) (sym c.heap.view_is) a) c.args.mutator c.args.dst c.in_ok-cell.cell c.args.shape
    (sym c.in_ok-cell.ensures.place) fit _ (subst (λ (l : Limits). l.identities < c.heap.inside.fields.next) c.limits.ensures.limits c.if-heap-limits.true)

pub returns-then-not-room : goal.returns-then-not-room
returns-then-not-room c g a =
    let fit : fits c.args.shape ≡ true = fits_by c.parts_of.result (fits c.args.shape) c.in_ok-parts.parts c.in_ok-parts.ensures.ok_part c.parts_of.ensures.none in
    let cells : c.in_ok-parts.parts ≡ cells_of c.args.shape = cells_by c.parts_of.result (cells_of c.args.shape) c.in_ok-parts.parts c.in_ok-parts.ensures.ok_part c.parts_of.ensures.some in
    let room : has_room c.heap.inside.fields.nodes.pages (needed c.args.shape) ≡ false = sym (room_by c.heap.inside.fields.nodes.pages c.args.shape c.in_ok-parts.parts cells) ∙ sym c.room.ensures ∙ c.if-not-room.true in
    full_effect _ g (subst (λ (x : HeapState). Agrees x g) (sym c.heap.view_is) a) c.args.mutator c.args.dst c.in_ok-cell.cell c.args.shape
    (sym c.in_ok-cell.ensures.place) fit (subst (λ (l : Limits). c.heap.inside.fields.next ≤ l.identities) c.limits.ensures.limits c.if-heap-limits.false) _
    (subst (λ (x : HeapState). has_room x.store.pages (needed c.args.shape) ≡ false) c.heap.view_is room)

pub returns : goal.returns
returns c g a =
    let fit : fits c.args.shape ≡ true = fits_by c.parts_of.result (fits c.args.shape) c.in_ok-parts.parts c.in_ok-parts.ensures.ok_part c.parts_of.ensures.none in
    let cells : c.in_ok-parts.parts ≡ cells_of c.args.shape = cells_by c.parts_of.result (cells_of c.args.shape) c.in_ok-parts.parts c.in_ok-parts.ensures.ok_part c.parts_of.ensures.some in
    let room : has_room c.heap.inside.fields.nodes.pages (needed c.args.shape) ≡ true = sym (room_by c.heap.inside.fields.nodes.pages c.args.shape c.in_ok-parts.parts cells) ∙ sym c.room.ensures ∙ c.if-not-room.false in
    subst (λ (x : HeapState). PlansBy x g (admitted_effect (has_room x.store.pages (needed c.args.shape)) g c.args.mutator (commands.New c.args.dst c.args.shape)) (Ok (record { reply = replies.Made c.heap.inside.fields.next; write = writes.New c.in_ok-cell.cell c.args.shape }))) c.heap.view_is
    (new_plans _ g (subst (λ (x : HeapState). Agrees x g) (sym c.heap.view_is) a) c.args.mutator c.args.dst c.in_ok-cell.cell c.args.shape
    (sym c.in_ok-cell.ensures.place) fit (subst (λ (l : Limits). c.heap.inside.fields.next ≤ l.identities) c.limits.ensures.limits c.if-heap-limits.false) room c.in_ok-cell.ensures.within (omega arith))

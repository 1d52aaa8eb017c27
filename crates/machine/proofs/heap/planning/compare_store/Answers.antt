use Rattle.std.proofs.Common.{refl}
use Rattle.std.proofs.lemmas.Result.{err_from_is_err_and}
use Rattle.graph_heap.specs.declared.command.Command.TheVariants as commands
use Rattle.machine.specs.declared.plan.Write.TheVariants as writes
use Rattle.machine.proofs.Effects.{stored_effect, kept_effect, compare_refused}
use Rattle.graph_heap.specs.declared.command.Change.TheVariants as changes
use Rattle.machine.proofs.Plans.{placed, compared_plans}
use Rattle.machine.proofs.heap.planning.compare_store.Goals as goal

pub referent_in_cell-requires : goal.referent_in_cell-requires
referent_in_cell-requires c g a = (_, c.args.i, (c.in_ok-at.ensures g a).1)

pub returns : goal.returns
returns c g a =
    let w = c.compared.ensures g a in
    let expected = c.in_ok-expected.ensures.names g a in
    let found = c.in_ok-at.ensures g a in
    let value = c.referent_in_cell.ensures g _ c.args.i a found.1 in
    let root = placed c.heap.view_is c.args.mutator c.args.obj c.in_ok-root.root c.in_ok-root.ensures.place in
    let source = placed c.heap.view_is c.args.mutator c.args.new c.in_ok-source.source c.in_ok-source.ensures.place in
    compared_plans c.args.heap.now g c.args.mutator (commands.CompareStore c.args.obj c.args.i c.args.expect c.args.new) c.referent_in_cell.result.identity c.in_ok-expected.expected.identity (writes.Ref c.in_ok-at.at w.0.reference) c.compared.result (changes.Ref _ c.args.i _) w.2
    (kept_effect c.args.heap.now g a c.args.mutator c.args.obj c.args.i c.args.expect c.args.new c.in_ok-root.root expected.cell c.in_ok-source.source c.in_ok-at.at c.referent_in_cell.result c.in_ok-expected.expected root expected.place source found value expected.names)
    (stored_effect c.args.heap.now g a c.args.mutator c.args.obj c.args.i c.args.expect c.args.new c.in_ok-root.root expected.cell c.in_ok-source.source c.in_ok-at.at c.referent_in_cell.result c.in_ok-expected.expected root expected.place source found value expected.names)
    (_, c.args.i, _, refl, found.1, w.1.known, w.1.main)

pub returns-in_err-at : goal.returns-in_err-at
returns-in_err-at c g a =
    let p = err_from_is_err_and c.from_residual-in_err-at.result c.from_residual-in_err-at.ensures.1 in
    let expected = c.in_ok-expected.ensures.names g a in
    rw (p.1, p.2)
    (compare_refused c.args.heap.now g a c.args.mutator c.args.obj c.args.i c.args.expect c.args.new c.in_ok-root.root expected.cell c.in_ok-source.source _ (placed c.heap.view_is c.args.mutator c.args.obj c.in_ok-root.root c.in_ok-root.ensures.place) expected.place (placed c.heap.view_is c.args.mutator c.args.new c.in_ok-source.source c.in_ok-source.ensures.place)
    (c.in_err-at.ensures g a))
